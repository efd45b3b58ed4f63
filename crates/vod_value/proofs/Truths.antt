-- Truths that are known, and those that aren't.
use Rattle.std.proofs.Common.{◌≡◌, Bool, true, false, if◌then◌else◌, List, [], ◌∷◌, refl}
use Rattle.std.specs.List.{list_any, list_all}
use Rattle.vod_bits.specs.Bit.{Bit, B0, B1, BX, BZ, is_0, is_1, or_bit}
use Rattle.vod_bits.specs.Value.{all_known, fold_bits}
use Rattle.vod_four.specs.Four.{truth_bit}

one_of : (a b : Bool) → all_known ((if a then B1 else if b then B0 else BX) ∷ []) ≡ false → (if a then B1 else if b then B0 else BX) ≡ BX
one_of true b h = cc
one_of false true h = cc
one_of false false h = refl

pub truth_unknown : (bs : List Bit) → all_known (truth_bit bs ∷ []) ≡ false → truth_bit bs ≡ BX
unfolding truth_bit
truth_unknown bs h = one_of (list_any is_1 bs) (list_all is_0 bs) h

pub any_of_known : (t : Bit) → all_known (t ∷ []) ≡ true → fold_bits or_bit B0 (t ∷ []) ≡ t
unfolding fold_bits
any_of_known B0 h = refl
any_of_known B1 h = refl
any_of_known BX h = cc
any_of_known BZ h = cc
