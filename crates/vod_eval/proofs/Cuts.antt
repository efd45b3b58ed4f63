-- Bits at a size, cut, and put together.
use Rattle.std.proofs.Common.{◌≡◌, ℕ, suc, ◌+◌, ◌-◌, ◌≤◌, ◌<◌, Bool, true, false, List, [], ◌∷◌, ◌++◌, length, take, drop, replicate, Option, None, Some, refl, sym, ◌∙◌, ap, arith, inl, inr, IsTrue, ◌↔◌}
use Rattle.std.proofs.lemmas.List.{append-nil, length-append, length-drop, replicate-append-replicate, drop-drop, drop-append-le, take_all}
use Rattle.std.proofs.lemmas.Bool.{cases_lt}
use Rattle.std.specs.Cmp.Lexicographic.{pointwise, pointwise_decides}
use Rattle.vod_bits.specs.Bit.{Bit, B0, B1, BX, BZ, is_1, bit_if}
use Rattle.vod_bits.specs.Value.{resize_bits, slice_bits}
use Rattle.vod_bits.specs.Lengths.{resize_length}
use Rattle.vod_bits.specs.declared.TheConstants.{WIDTH}
use Rattle.vod_design.specs.Values.{bounded, at_size, unknown, select_bits}
use Rattle.vod_design.specs.Eval.{same_bit, identical_bit, repeated}
use Rattle.vod_design.specs.Run.{replace_bits}
use Rattle.vod_eval.specs.Pieces.{bits_of_option, filled_bits, lowest}

-- n copies of a bit, the last of them apart
pub copies_last : (b : Bit) (n : ℕ) → 1 ≤ n → replicate (n - 1) b ++ b ∷ [] ≡ replicate n b
copies_last b n h = let e : n - 1 + 1 ≡ n = omega arith in replicate-append-replicate (n - 1) 1 b ∙ ap (λ k. replicate k b) e

-- one bit, extended by itself
pub stretch : (b : Bit) (n : ℕ) → 1 ≤ n → resize_bits n true (b ∷ []) ≡ replicate n b
unfolding resize_bits
stretch b n h = let e : 1 - n ≡ 0 = omega arith in rw e (copies_last b n h)

pub stretch_0 : (n : ℕ) (signed : Bool) → 1 ≤ n → resize_bits n signed (B0 ∷ []) ≡ replicate n B0
unfolding resize_bits
stretch_0 n true h = let e : 1 - n ≡ 0 = omega arith in rw e (copies_last B0 n h)
stretch_0 n false h = let e : 1 - n ≡ 0 = omega arith in rw e (copies_last B0 n h)

no_bits : (n : ℕ) (signed : Bool) → resize_bits n signed [] ≡ replicate n B0
unfolding resize_bits
no_bits n true = let e : n - 0 ≡ n = omega arith in let f : 0 - n ≡ 0 = omega arith in rw (e, f) (append-nil (replicate n B0))
no_bits n false = let e : n - 0 ≡ n = omega arith in let f : 0 - n ≡ 0 = omega arith in rw (e, f) (append-nil (replicate n B0))

pub filled_size : (width : ℕ) (signed : Bool) (bits : Option (List Bit)) → at_size width signed (filled_bits bits) ≡ at_size width signed (bits_of_option bits)
unfolding at_size
filled_size width signed None = stretch_0 (bounded width) signed (omega arith) ∙ sym (no_bits (bounded width) signed)
filled_size width signed (Some bits) = refl

pub at_size_length : (width : ℕ) (signed : Bool) (bits : List Bit) → length (at_size width signed bits) ≡ bounded width
unfolding at_size
at_size_length width signed bits = resize_length (bounded width) signed bits

-- a value that has a size already
same_size : (n : ℕ) (signed : Bool) (xs : List Bit) → length xs ≡ n → resize_bits n signed xs ≡ xs
unfolding resize_bits
same_size n signed xs h = let e : n - length xs ≡ 0 = omega arith in let f : length xs - n ≡ 0 = omega arith in rw (e, f) refl

pub at_size_own : (width : ℕ) (signed : Bool) (bits : List Bit) → width ≡ length bits → 1 ≤ length bits → length bits ≤ WIDTH → bits ≡ at_size width signed bits
unfolding at_size
at_size_own width signed bits is some within =
    let e : length bits ≡ bounded width = omega arith in
    sym (same_size (bounded width) signed bits e)

pub lowest_whole : (xs : List Bit) → length xs ≤ WIDTH → lowest xs ≡ xs
unfolding lowest
lowest_whole xs h = let e : length xs - WIDTH ≡ 0 = omega arith in rw e refl

pub lowest_joined : (xs ys : List Bit) → length ys ≤ WIDTH → lowest (xs ++ ys) ≡ drop (length xs - (WIDTH - length ys)) xs ++ ys
unfolding lowest
lowest_joined xs ys h =
    let e : length (xs ++ ys) - WIDTH ≡ length xs - (WIDTH - length ys) = omega (arith, length-append xs ys) in
    rw e (drop-append-le (length xs - (WIDTH - length ys)) xs ys (omega arith))

pub lowest_length : (xs : List Bit) → length (lowest xs) ≤ WIDTH
unfolding lowest
lowest_length xs = omega (arith, length-drop (length xs - WIDTH) xs)

-- what is cut off before more bits come is cut off behind them too
pub lowest_again : (xs ys : List Bit) → lowest (lowest xs ++ ys) ≡ lowest (xs ++ ys)
unfolding lowest
lowest_again xs ys =
    let n : ℕ = length xs - WIDTH in
    let inside : n ≤ length xs = omega arith in
    let joined : drop n xs ++ ys ≡ drop n (xs ++ ys) = sym (drop-append-le n xs ys inside) in
    let count : n + (length (drop n (xs ++ ys)) - WIDTH) ≡ length (xs ++ ys) - WIDTH = omega (arith, length-drop n (xs ++ ys), length-append xs ys) in
    rw joined (drop-drop (length (drop n (xs ++ ys)) - WIDTH) n (xs ++ ys) ∙ ap (λ k. drop k (xs ++ ys)) count)

cut_size : (n : ℕ) (signed : Bool) (xs : List Bit) → n ≤ WIDTH → resize_bits n signed (lowest xs) ≡ resize_bits n signed xs
unfolding lowest resize_bits
cut_size n signed xs h =
    elim (cases_lt WIDTH (length xs)) [
      | inl l ↦
          let k : ℕ = length xs - WIDTH in
          let len : length (drop k xs) ≡ WIDTH = omega (arith, length-drop k xs) in
          let none : WIDTH - WIDTH ≡ 0 = omega arith in
          let few : n - WIDTH ≡ 0 = omega arith in
          let few_too : n - length xs ≡ 0 = omega arith in
          let count : k + (WIDTH - n) ≡ length xs - n = omega arith in
          rw (len, few, few_too) (drop-drop (WIDTH - n) k xs ∙ ap (λ m. drop m xs) count)
      | inr r ↦ let e : length xs - WIDTH ≡ 0 = omega arith in rw e refl
    ]

pub lowest_size : (width : ℕ) (signed : Bool) (xs : List Bit) → at_size width signed (lowest xs) ≡ at_size width signed xs
unfolding at_size
lowest_size width signed xs = cut_size (bounded width) signed xs (omega arith)

pub upper_slice : (n : ℕ) (xs : List Bit) → n ≤ length xs → slice_bits (length xs - n) n xs ≡ take n xs
unfolding slice_bits
upper_slice n xs h = let e : length xs - (length xs - n + n) ≡ 0 = omega arith in rw e refl

pub lower_slice : (n : ℕ) (xs : List Bit) → n ≤ length xs → slice_bits 0 n xs ≡ drop (length xs - n) xs
unfolding slice_bits
lower_slice n xs h =
    let e : length xs - (0 + n) ≡ length xs - n = omega arith in
    let len : length (drop (length xs - n) xs) ≤ n = omega (arith, length-drop (length xs - n) xs) in
    rw e (take_all n (drop (length xs - n) xs) len)

pub select_inside : (fill : Bit) (low width : ℕ) (xs : List Bit) → low + width ≤ length xs → select_bits fill low width xs ≡ slice_bits low width xs
unfolding select_bits
select_inside fill low width xs h = grind (arith)

pub select_outside : (fill : Bit) (low width : ℕ) (xs : List Bit) → length xs < low + width → select_bits fill low width xs ≡ unknown fill width
unfolding select_bits
select_outside fill low width xs h = grind (arith)

pub replace_inside : (low : ℕ) (new old : List Bit) → low + length new ≤ length old → replace_bits low new old ≡ take (length old - (low + length new)) old ++ new ++ drop (length old - low) old
unfolding replace_bits
replace_inside low new old h = grind (arith)

pub replace_outside : (low : ℕ) (new old : List Bit) → length old < low + length new → replace_bits low new old ≡ old
unfolding replace_bits
replace_outside low new old h = grind (arith)

-- where two bits are said to be the same, they are
same_bits : (a b : Bit) → (same_bit a b ≡ true → a ≡ b) × (a ≡ b → same_bit a b ≡ true)
same_bits B0 B0 = (λ _. refl, λ _. refl)
same_bits B0 B1 = (λ h. absurd (cc), λ h. absurd (cc))
same_bits B0 BX = (λ h. absurd (cc), λ h. absurd (cc))
same_bits B0 BZ = (λ h. absurd (cc), λ h. absurd (cc))
same_bits B1 B0 = (λ h. absurd (cc), λ h. absurd (cc))
same_bits B1 B1 = (λ _. refl, λ _. refl)
same_bits B1 BX = (λ h. absurd (cc), λ h. absurd (cc))
same_bits B1 BZ = (λ h. absurd (cc), λ h. absurd (cc))
same_bits BX B0 = (λ h. absurd (cc), λ h. absurd (cc))
same_bits BX B1 = (λ h. absurd (cc), λ h. absurd (cc))
same_bits BX BX = (λ _. refl, λ _. refl)
same_bits BX BZ = (λ h. absurd (cc), λ h. absurd (cc))
same_bits BZ B0 = (λ h. absurd (cc), λ h. absurd (cc))
same_bits BZ B1 = (λ h. absurd (cc), λ h. absurd (cc))
same_bits BZ BX = (λ h. absurd (cc), λ h. absurd (cc))
same_bits BZ BZ = (λ _. refl, λ _. refl)

decided : (r s : Bool) (P : Type 0) → (IsTrue r ↔ P) → (s ≡ true → P) × (P → s ≡ true) → r ≡ s
decided true true P e d = refl
decided true false P e d = sym (d.1 (e.0 refl))
decided false true P e d = e.1 (d.0 refl)
decided false false P e d = refl

pub identical_is : (r : Bool) (xs ys : List Bit) → (IsTrue r ↔ (xs ≡ ys)) → bit_if r ≡ identical_bit xs ys
unfolding identical_bit
identical_is r xs ys e = ap bit_if (decided r (pointwise same_bit xs ys) (xs ≡ ys) e (pointwise_decides same_bits xs ys))

back_if : (r : Bool) → r ≡ is_1 (bit_if r)
back_if true = refl
back_if false = refl

pub same_is : (r : Bool) (xs ys : List Bit) → (IsTrue r ↔ (xs ≡ ys)) → r ≡ is_1 (identical_bit xs ys)
same_is r xs ys e = back_if r ∙ ap is_1 (identical_is r xs ys e)

pub repeated_more : (n : ℕ) (bits : List Bit) → lowest (lowest (repeated n bits) ++ bits) ≡ lowest (repeated (suc n) bits)
unfolding repeated
repeated_more n bits = lowest_again (repeated n bits) bits

pub repeated_none : (bits : List Bit) → [] ≡ lowest (repeated 0 bits)
unfolding repeated lowest
repeated_none bits = refl
