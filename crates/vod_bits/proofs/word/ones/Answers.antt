use Rattle.std.proofs.Common.{arith, ◌≡◌, ◌≤◌, ◌-◌, ◌^◌, ◌∙◌, ap}
use Rattle.std.proofs.lemmas.Nat.Bits.{ones_shr}
use Rattle.vod_bits.specs.Word.{word_bits}
use Rattle.vod_bits.proofs.word.ones.Goals as goal

pub returns : goal.returns
returns c =
    let within : word_bits - c.from.result ≤ word_bits = omega arith in
    let back : word_bits - (word_bits - c.from.result) ≡ c.args.width = omega arith in
    ones_shr word_bits (word_bits - c.from.result) within ∙ ap (λ k. 2 ^ k - 1) back
