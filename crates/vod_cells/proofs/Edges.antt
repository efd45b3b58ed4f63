-- Edges, by whether bits are 0 or 1.
use Rattle.std.proofs.Common.{◌≡◌, ◌&&◌, Bool, true, false, not, List, [], ◌∷◌, length, arith, refl, if◌then◌else◌}
use Rattle.vod_bits.specs.Bit.{Bit, B0, B1, BX, BZ, is_0, is_1, bit_if}
use Rattle.vod_bits.specs.Value.{upper_bit}
use Rattle.vod_four.specs.Four.{truth_bit}
use Rattle.vod_slot.specs.Step.{is_rising, is_falling}

pub rising : (old new : Bit) → (if is_0 old then not (is_0 new) else not (is_1 old) && is_1 new) ≡ is_rising old new
rising B0 new = refl
rising B1 new = refl
rising BX new = refl
rising BZ new = refl

pub falling : (old new : Bit) → (if is_1 old then not (is_1 new) else not (is_0 old) && is_0 new) ≡ is_falling old new
falling B0 new = refl
falling B1 new = refl
falling BX new = refl
falling BZ new = refl

-- the truth of one bit
pub truth_one : (bits : List Bit) (t : Bool) → length bits ≡ 1 → truth_bit bits ≡ bit_if t → t ≡ is_1 (upper_bit bits)
unfolding truth_bit
truth_one [] t h is = absurd (omega arith)
truth_one (b ∷ c ∷ more) t h is = absurd (omega arith)
truth_one (B0 ∷ []) true h is = absurd (cc)
truth_one (B0 ∷ []) false h is = refl
truth_one (B1 ∷ []) true h is = refl
truth_one (B1 ∷ []) false h is = absurd (cc)
truth_one (BX ∷ []) true h is = absurd (cc)
truth_one (BX ∷ []) false h is = refl
truth_one (BZ ∷ []) true h is = absurd (cc)
truth_one (BZ ∷ []) false h is = refl

pub truth_not_one : (bits : List Bit) → length bits ≡ 1 → truth_bit bits ≡ BX → false ≡ is_1 (upper_bit bits)
unfolding truth_bit
truth_not_one [] h is = absurd (omega arith)
truth_not_one (b ∷ c ∷ more) h is = absurd (omega arith)
truth_not_one (B0 ∷ []) h is = refl
truth_not_one (B1 ∷ []) h is = absurd (cc)
truth_not_one (BX ∷ []) h is = refl
truth_not_one (BZ ∷ []) h is = refl

pub truth_zero : (bits : List Bit) (t : Bool) → length bits ≡ 1 → truth_bit bits ≡ bit_if t → not t ≡ is_0 (upper_bit bits)
unfolding truth_bit
truth_zero [] t h is = absurd (omega arith)
truth_zero (b ∷ c ∷ more) t h is = absurd (omega arith)
truth_zero (B0 ∷ []) true h is = absurd (cc)
truth_zero (B0 ∷ []) false h is = refl
truth_zero (B1 ∷ []) true h is = refl
truth_zero (B1 ∷ []) false h is = absurd (cc)
truth_zero (BX ∷ []) true h is = absurd (cc)
truth_zero (BX ∷ []) false h is = absurd (cc)
truth_zero (BZ ∷ []) true h is = absurd (cc)
truth_zero (BZ ∷ []) false h is = absurd (cc)

pub truth_not_zero : (bits : List Bit) → length bits ≡ 1 → truth_bit bits ≡ BX → false ≡ is_0 (upper_bit bits)
unfolding truth_bit
truth_not_zero [] h is = absurd (omega arith)
truth_not_zero (b ∷ c ∷ more) h is = absurd (omega arith)
truth_not_zero (B0 ∷ []) h is = absurd (cc)
truth_not_zero (B1 ∷ []) h is = refl
truth_not_zero (BX ∷ []) h is = refl
truth_not_zero (BZ ∷ []) h is = refl
