use Rattle.std.proofs.Common.{length, ◌∙◌, sym}
use Rattle.vod_text.proofs.Forms.{passed, decimal_right}
use Rattle.vod_text.proofs.read.decimal_answer.Goals as goal

pub decimal_number-number-requires : goal.decimal_number-number-requires
decimal_number-number-requires c =
    let right = passed c.args.right (length c.args.text.now) (sym c.check_len.ensures ∙ c.in_ok-check_len.was) in
    decimal_right c.args.right c.args.text.now c.requires right.0 right.1
