use Rattle.std.proofs.Common.{arith, ◌≡◌, ◌<◌, ◌-◌, ◌*◌, ◌^◌, ◌%◌}
use Rattle.std.proofs.lemmas.Nat.{one_shl}
use Rattle.vod_bits.proofs.Signs.{offset-bits}
use Rattle.vod_bits.specs.Word.{word_bits}
use Rattle.vod_bits.proofs.word.from_least.Goals as goal

pub returns : goal.returns
returns c =
    let inside : c.args.width - 1 < word_bits = omega arith in
    let half : 1 * 2 ^ (c.args.width - 1) % 2 ^ word_bits ≡ 2 ^ (c.args.width - 1) = one_shl (c.args.width - 1) word_bits inside in
    rw half (offset-bits c.args.width c.args.word c.requires.low c.requires.within)
