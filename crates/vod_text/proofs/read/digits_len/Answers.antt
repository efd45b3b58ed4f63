use Rattle.std.proofs.Common.{arith}
use Rattle.std.proofs.lemmas.Grind.{common_steps}
use Rattle.vod_text.proofs.Forms.{unwrap_position}
use Rattle.std.specs.Char.{is_digit}
use Rattle.vod_text.proofs.read.digits_len.Goals as goal

pub returns : goal.returns
returns c =
    let front = unwrap_position (λ b. is_digit b c.args.base) c.args.text.now in
    grind (arith, common_steps, front)
