-- How many bits the operators give, for the crates that call them.
use Rattle.std.specs.Prelude.{◌≡◌, ℕ, suc, ◌+◌, ◌≤◌, Bool, List, [], ◌∷◌, length, map}
use Rattle.std.proofs.Common.{refl, ap, arith}
use Rattle.std.proofs.lemmas.List.{length-drop, length-append, length-replicate, length-take}
use Rattle.vod_bits.specs.Bit.{Bit}
use Rattle.vod_bits.specs.Value.{zip_with, shift_left, shift_right, resize_bits, slice_bits}
use Rattle.vod_bits.specs.Fields.{width_back}

pub zip_length : (f : Bit → Bit → Bit) (xs ys : List Bit) → length xs ≡ length ys → length (zip_with f xs ys) ≡ length xs
unfolding zip_with
zip_length f [] ys e = refl
zip_length f (x ∷ xs) [] e = absurd (omega arith)
zip_length f (x ∷ xs) (y ∷ ys) e = let same : length xs ≡ length ys = omega arith in ap suc (zip_length f xs ys same)

pub map_length : (f : Bit → Bit) (xs : List Bit) → length (map f xs) ≡ length xs
map_length f [] = refl
map_length f (x ∷ xs) = ap suc (map_length f xs)

pub shift_left_length : (n : ℕ) (xs : List Bit) → length (shift_left n xs) ≡ length xs
unfolding shift_left
shift_left_length n xs = simp (length-drop, length-append, length-replicate) (omega arith)

pub shift_right_length : (fill : Bit) (n : ℕ) (xs : List Bit) → length (shift_right fill n xs) ≡ length xs
unfolding shift_right
shift_right_length fill n xs = simp (length-take, length-append, length-replicate) (omega arith)

pub resize_length : (width : ℕ) (signed : Bool) (xs : List Bit) → length (resize_bits width signed xs) ≡ width
unfolding resize_bits
resize_length width signed xs = simp (length-append, length-replicate, length-drop) (omega arith)

pub slice_length : (low width : ℕ) (xs : List Bit) → low + width ≤ length xs → length (slice_bits low width xs) ≡ width
unfolding slice_bits
slice_length low width xs h = simp (length-take, length-drop) (omega arith)

pub ruleset lengths = (width_back, zip_length, map_length, shift_left_length, shift_right_length, resize_length, slice_length)
