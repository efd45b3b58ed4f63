-- Shifts, sizes, slices and concatenations by planes: what moves bits moves those of each plane.
use Rattle.std.proofs.Common.{◌≡◌, ℕ, zero, suc, ◌+◌, ◌-◌, Bool, true, false, cond, List, [], ◌∷◌, ◌++◌, length, map, replicate, take, drop, refl, sym, ◌∙◌, ap}
use Rattle.std.proofs.lemmas.List.{map-append, drop-map, take-map}
use Rattle.vod_bits.specs.Bit.{Bit, B0}
use Rattle.vod_bits.specs.Value.{upper_bit, zip_with, shift_left, shift_right, resize_bits, slice_bits}
use Rattle.vod_bits.specs.Lengths.{map_length}
use Rattle.vod_four.specs.Four.{four_bit, operand_bit}
use Rattle.vod_four.specs.Fields.{one_bit, unk_bit, sure_bit}
use Rattle.vod_four.proofs.Planes.{bit_cases, map-map, rebuilt}

map-replicate : (f : Bit → Bit) (n : ℕ) (b : Bit) → map f (replicate n b) ≡ replicate n (f b)
map-replicate f zero b = refl
map-replicate f (suc n) b = ap (λ bs. f b ∷ bs) (map-replicate f n b)

map-upper : (f : Bit → Bit) → f B0 ≡ B0 → (xs : List Bit) → f (upper_bit xs) ≡ upper_bit (map f xs)
map-upper f e [] = e
map-upper f e (x ∷ xs) = refl

map-shift_left : (f : Bit → Bit) → f B0 ≡ B0 → (n : ℕ) (xs : List Bit) → map f (shift_left n xs) ≡ shift_left n (map f xs)
unfolding shift_left
map-shift_left f e n xs =
    sym (drop-map f n (xs ++ replicate n B0)) ∙ ap (drop n) (map-append f xs (replicate n B0) ∙ ap (λ bs. map f xs ++ bs) (map-replicate f n B0 ∙ ap (replicate n) e))

map-shift_right : (f : Bit → Bit) (fill : Bit) (n : ℕ) (xs : List Bit) → map f (shift_right fill n xs) ≡ shift_right (f fill) n (map f xs)
unfolding shift_right
map-shift_right f fill n xs =
    sym (take-map f (length xs) (replicate n fill ++ xs))
    ∙ ap (take (length xs)) (map-append f (replicate n fill) xs ∙ ap (λ bs. bs ++ map f xs) (map-replicate f n fill))
    ∙ ap (λ k. take k (replicate n (f fill) ++ map f xs)) (sym (map_length f xs))

map-fill : (f : Bit → Bit) → f B0 ≡ B0 → (signed : Bool) (xs : List Bit) → f (cond signed (upper_bit xs) B0) ≡ cond signed (upper_bit (map f xs)) B0
map-fill f e true xs = map-upper f e xs
map-fill f e false xs = e

map-resize : (f : Bit → Bit) → f B0 ≡ B0 → (width : ℕ) (signed : Bool) (xs : List Bit) → map f (resize_bits width signed xs) ≡ resize_bits width signed (map f xs)
unfolding resize_bits
map-resize f e width signed xs =
    let len : length (map f xs) ≡ length xs = map_length f xs in
    map-append f (replicate (width - length xs) (cond signed (upper_bit xs) B0)) (drop (length xs - width) xs)
    ∙ rw (map-replicate f (width - length xs) (cond signed (upper_bit xs) B0), map-fill f e signed xs, ← drop-map f (length xs - width) xs, len) refl

map-slice : (f : Bit → Bit) (low width : ℕ) (xs : List Bit) → map f (slice_bits low width xs) ≡ slice_bits low width (map f xs)
unfolding slice_bits
map-slice f low width xs =
    let len : length (map f xs) ≡ length xs = map_length f xs in
    sym (take-map f width (drop (length xs - (low + width)) xs)) ∙ ap (take width) (sym (drop-map f (length xs - (low + width)) xs))
    ∙ ap (λ k. take width (drop (k - (low + width)) (map f xs))) (sym len)

one-operand : (xs : List Bit) → map one_bit (map operand_bit xs) ≡ map sure_bit xs
one-operand xs = map-map one_bit operand_bit sure_bit (bit_cases (λ x. one_bit (operand_bit x) ≡ sure_bit x) refl refl refl refl) xs

unk-operand : (xs : List Bit) → map unk_bit (map operand_bit xs) ≡ map unk_bit xs
unk-operand xs = map-map unk_bit operand_bit unk_bit (bit_cases (λ x. unk_bit (operand_bit x) ≡ unk_bit x) refl refl refl refl) xs

pub shift_left-planes : (n : ℕ) (xs : List Bit) → zip_with four_bit (shift_left n (map sure_bit xs)) (shift_left n (map unk_bit xs)) ≡ shift_left n (map operand_bit xs)
shift_left-planes n xs =
    let ones : map one_bit (shift_left n (map operand_bit xs)) ≡ shift_left n (map sure_bit xs) = map-shift_left one_bit refl n (map operand_bit xs) ∙ ap (shift_left n) (one-operand xs) in
    let unks : map unk_bit (shift_left n (map operand_bit xs)) ≡ shift_left n (map unk_bit xs) = map-shift_left unk_bit refl n (map operand_bit xs) ∙ ap (shift_left n) (unk-operand xs) in
    rw (← ones, ← unks) (rebuilt (shift_left n (map operand_bit xs)))

pub shift_right-planes : (n : ℕ) (xs : List Bit) → zip_with four_bit (shift_right B0 n (map sure_bit xs)) (shift_right B0 n (map unk_bit xs)) ≡ shift_right B0 n (map operand_bit xs)
shift_right-planes n xs =
    let ones : map one_bit (shift_right B0 n (map operand_bit xs)) ≡ shift_right B0 n (map sure_bit xs) = map-shift_right one_bit B0 n (map operand_bit xs) ∙ ap (shift_right B0 n) (one-operand xs) in
    let unks : map unk_bit (shift_right B0 n (map operand_bit xs)) ≡ shift_right B0 n (map unk_bit xs) = map-shift_right unk_bit B0 n (map operand_bit xs) ∙ ap (shift_right B0 n) (unk-operand xs) in
    rw (← ones, ← unks) (rebuilt (shift_right B0 n (map operand_bit xs)))

-- the shift that copies the upper bit
abbrev pub copying : ℕ → List Bit → List Bit
copying n xs = shift_right (upper_bit xs) n xs

map-copying : (f : Bit → Bit) → f B0 ≡ B0 → (n : ℕ) (xs : List Bit) → map f (copying n xs) ≡ copying n (map f xs)
map-copying f e n xs = map-shift_right f (upper_bit xs) n xs ∙ ap (λ b. shift_right b n (map f xs)) (map-upper f e xs)

pub copying-planes : (n : ℕ) (xs : List Bit) → zip_with four_bit (copying n (map sure_bit xs)) (copying n (map unk_bit xs)) ≡ copying n (map operand_bit xs)
copying-planes n xs =
    let ones : map one_bit (copying n (map operand_bit xs)) ≡ copying n (map sure_bit xs) = map-copying one_bit refl n (map operand_bit xs) ∙ ap (copying n) (one-operand xs) in
    let unks : map unk_bit (copying n (map operand_bit xs)) ≡ copying n (map unk_bit xs) = map-copying unk_bit refl n (map operand_bit xs) ∙ ap (copying n) (unk-operand xs) in
    rw (← ones, ← unks) (rebuilt (copying n (map operand_bit xs)))

pub resize-planes : (width : ℕ) (signed : Bool) (xs : List Bit) → zip_with four_bit (resize_bits width signed (map one_bit xs)) (resize_bits width signed (map unk_bit xs)) ≡ resize_bits width signed xs
resize-planes width signed xs = rw (← map-resize one_bit refl width signed xs, ← map-resize unk_bit refl width signed xs) (rebuilt (resize_bits width signed xs))

pub slice-planes : (low width : ℕ) (xs : List Bit) → zip_with four_bit (slice_bits low width (map one_bit xs)) (slice_bits low width (map unk_bit xs)) ≡ slice_bits low width xs
slice-planes low width xs = rw (← map-slice one_bit low width xs, ← map-slice unk_bit low width xs) (rebuilt (slice_bits low width xs))

pub append-planes : (xs ys : List Bit) → zip_with four_bit (map one_bit xs ++ map one_bit ys) (map unk_bit xs ++ map unk_bit ys) ≡ xs ++ ys
append-planes xs ys = rw (← map-append one_bit xs ys, ← map-append unk_bit xs ys) (rebuilt (xs ++ ys))
