use Rattle.std.proofs.Common.{refl, ◌≡◌, ◌-◌, eqb}
use Rattle.std.specs.Int.{bit_at}
use Rattle.std.proofs.lemmas.Nat.Bits.{shr_and_one, bit_at-lt}
use Rattle.vod_bits.specs.Bit.{bit_if}
use Rattle.vod_bits.specs.Value.{digit_bit}
use Rattle.vod_bits.specs.Fields.{digit_cases}
use Rattle.vod_bits.proofs.word.has_upper_bit.Goals as goal

pub returns : goal.returns
returns c =
    rw (shr_and_one c.args.word (c.args.width - 1))
    (digit_cases (λ d. bit_if (eqb d 1) ≡ digit_bit d) refl refl (bit_at c.args.word (c.args.width - 1)) (bit_at-lt c.args.word (c.args.width - 1)))
