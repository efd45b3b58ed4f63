-- Values of one bit, and the inputs of a gate.
use Rattle.std.proofs.Common.{◌≡◌, ◌-◌, ◌+◌, ◌≤◌, List, [], ◌∷◌, length, map, refl, ◌∙◌, ap, arith}
use Rattle.vod_bits.specs.Bit.{Bit, B0, B1, BX, BZ, not_bit}
use Rattle.vod_bits.specs.Value.{upper_bit, zip_with, slice_bits}
use Rattle.vod_design.specs.Eval.{buf_bit}
use Rattle.vod_compiled.proofs.Cuts as cuts

pub one_bit : (xs : List Bit) → length xs ≡ 1 → xs ≡ upper_bit xs ∷ []
one_bit xs h = cuts.one_bit xs h

pub zip_one : (f : Bit → Bit → Bit) (xs ys : List Bit) → length xs ≡ 1 → length ys ≡ 1 → zip_with f xs ys ≡ f (upper_bit xs) (upper_bit ys) ∷ []
unfolding zip_with
zip_one f [] ys h g = absurd (omega arith)
zip_one f (x ∷ []) [] h g = absurd (omega arith)
zip_one f (x ∷ []) (y ∷ []) h g = refl
zip_one f (x ∷ []) (y ∷ z ∷ ys) h g = absurd (omega arith)
zip_one f (x ∷ w ∷ xs) ys h g = absurd (omega arith)

pub map_one : (xs : List Bit) → length xs ≡ 1 → map not_bit xs ≡ not_bit (upper_bit xs) ∷ []
map_one xs h = ap (map not_bit) (cuts.one_bit xs h)

twice : (b : Bit) → not_bit (not_bit b) ≡ buf_bit b
twice B0 = refl
twice B1 = refl
twice BX = refl
twice BZ = refl

pub map_twice : (xs : List Bit) → length xs ≡ 1 → map not_bit (map not_bit xs) ≡ buf_bit (upper_bit xs) ∷ []
map_twice xs h = ap (λ ys. map not_bit (map not_bit ys)) (cuts.one_bit xs h) ∙ ap (λ b. b ∷ []) (twice (upper_bit xs))

pub upper_is : (xs : List Bit) → 1 ≤ length xs → slice_bits (length xs - 1) 1 xs ≡ upper_bit xs ∷ []
unfolding slice_bits
upper_is [] h = absurd (omega arith)
upper_is (x ∷ xs) h = let e : length (x ∷ xs) - (length (x ∷ xs) - 1 + 1) ≡ 0 = omega arith in rw e refl
