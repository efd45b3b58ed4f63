-- Bits at a size, and cut.
use Rattle.std.proofs.Common.{◌≡◌, ℕ, zero, suc, ◌+◌, ◌-◌, ◌≤◌, ◌<◌, min, max, Bool, ◌&&◌, true, false, List, [], ◌∷◌, ◌++◌, length, drop, replicate, refl, sym, ◌∙◌, ap, arith, inl, inr}
use Rattle.std.proofs.lemmas.List.{append-nil, length-append, length-drop, replicate-append-replicate, drop-drop, drop-append-le, take_all}
use Rattle.std.proofs.Math.Seq.{drop-append_seam}
use Rattle.std.proofs.lemmas.Bool.{cases_lt}
use Rattle.vod_bits.specs.Bit.{Bit, B0}
use Rattle.vod_bits.specs.Value.{resize_bits, slice_bits, upper_bit}
use Rattle.vod_bits.specs.Lengths.{resize_length}
use Rattle.vod_bits.specs.declared.TheConstants.{WIDTH}
use Rattle.vod_design.specs.Values.{Operand, bounded, at_size, unknown, select_bits}
use Rattle.vod_design.specs.Eval.{repeated, compared, comparison_bit}
use Rattle.vod_design.specs.declared.sized.ComparisonOp.{ComparisonOp}
use Rattle.vod_eval.specs.Pieces.{lowest}
use Rattle.vod_compiled.specs.Steps.{replicated}

pub at_size_length : (width : ℕ) (signed : Bool) (bits : List Bit) → length (at_size width signed bits) ≡ bounded width
unfolding at_size
at_size_length width signed bits = resize_length (bounded width) signed bits

same_size : (n : ℕ) (signed : Bool) (xs : List Bit) → length xs ≡ n → resize_bits n signed xs ≡ xs
unfolding resize_bits
same_size n signed xs h = let e : n - length xs ≡ 0 = omega arith in let f : length xs - n ≡ 0 = omega arith in rw (e, f) refl

-- a value that has a size already
pub at_size_same : (width : ℕ) (signed : Bool) (bits : List Bit) → length bits ≡ bounded width → at_size width signed bits ≡ bits
unfolding at_size
at_size_same width signed bits h = same_size (bounded width) signed bits h

pub at_size_twice : (width : ℕ) (signed : Bool) (bits : List Bit) → at_size width signed (at_size width signed bits) ≡ at_size width signed bits
at_size_twice width signed bits = at_size_same width signed (at_size width signed bits) (at_size_length width signed bits)

-- no bits at a size are zeros, as one 0 is
copies_last : (b : Bit) (n : ℕ) → 1 ≤ n → replicate (n - 1) b ++ b ∷ [] ≡ replicate n b
copies_last b n h = let e : n - 1 + 1 ≡ n = omega arith in replicate-append-replicate (n - 1) 1 b ∙ ap (λ k. replicate k b) e

stretch_0 : (n : ℕ) (signed : Bool) → 1 ≤ n → resize_bits n signed (B0 ∷ []) ≡ replicate n B0
unfolding resize_bits
stretch_0 n true h = let e : 1 - n ≡ 0 = omega arith in rw e (copies_last B0 n h)
stretch_0 n false h = let e : 1 - n ≡ 0 = omega arith in rw e (copies_last B0 n h)

no_bits : (n : ℕ) (signed : Bool) → resize_bits n signed [] ≡ replicate n B0
unfolding resize_bits
no_bits n true = let e : n - 0 ≡ n = omega arith in let f : 0 - n ≡ 0 = omega arith in rw (e, f) (append-nil (replicate n B0))
no_bits n false = let e : n - 0 ≡ n = omega arith in let f : 0 - n ≡ 0 = omega arith in rw (e, f) (append-nil (replicate n B0))

pub zero_size : (width : ℕ) (signed : Bool) → at_size width signed (B0 ∷ []) ≡ at_size width signed []
unfolding at_size
zero_size width signed = stretch_0 (bounded width) signed (omega arith) ∙ sym (no_bits (bounded width) signed)

pub lowest_whole : (xs : List Bit) → length xs ≤ WIDTH → lowest xs ≡ xs
unfolding lowest
lowest_whole xs h = let e : length xs - WIDTH ≡ 0 = omega arith in rw e refl

pub lowest_sized : (width : ℕ) (signed : Bool) (bits : List Bit) → lowest (at_size width signed bits) ≡ at_size width signed bits
lowest_sized width signed bits = let e : length (at_size width signed bits) ≡ bounded width = at_size_length width signed bits in lowest_whole (at_size width signed bits) (omega arith)

-- what is cut off before more bits come is cut off behind them too
pub lowest_again : (xs ys : List Bit) → lowest (lowest xs ++ ys) ≡ lowest (xs ++ ys)
unfolding lowest
lowest_again xs ys =
    let n : ℕ = length xs - WIDTH in
    let inside : n ≤ length xs = omega arith in
    let joined : drop n xs ++ ys ≡ drop n (xs ++ ys) = sym (drop-append-le n xs ys inside) in
    let count : n + (length (drop n (xs ++ ys)) - WIDTH) ≡ length (xs ++ ys) - WIDTH = omega (arith, length-drop n (xs ++ ys), length-append xs ys) in
    rw joined (drop-drop (length (drop n (xs ++ ys)) - WIDTH) n (xs ++ ys) ∙ ap (λ k. drop k (xs ++ ys)) count)

cut_size : (n : ℕ) (signed : Bool) (xs : List Bit) → n ≤ WIDTH → resize_bits n signed (lowest xs) ≡ resize_bits n signed xs
unfolding lowest resize_bits
cut_size n signed xs h =
    elim (cases_lt WIDTH (length xs)) [
      | inl l ↦
          let k : ℕ = length xs - WIDTH in
          let len : length (drop k xs) ≡ WIDTH = omega (arith, length-drop k xs) in
          let none : WIDTH - WIDTH ≡ 0 = omega arith in
          let few : n - WIDTH ≡ 0 = omega arith in
          let few_too : n - length xs ≡ 0 = omega arith in
          let count : k + (WIDTH - n) ≡ length xs - n = omega arith in
          rw (len, few, few_too) (drop-drop (WIDTH - n) k xs ∙ ap (λ m. drop m xs) count)
      | inr r ↦ let e : length xs - WIDTH ≡ 0 = omega arith in rw e refl
    ]

pub lowest_size : (width : ℕ) (signed : Bool) (xs : List Bit) → at_size width signed (lowest xs) ≡ at_size width signed xs
unfolding at_size
lowest_size width signed xs = cut_size (bounded width) signed xs (omega arith)

-- a value of one bit is that bit
pub one_bit : (xs : List Bit) → length xs ≡ 1 → xs ≡ upper_bit xs ∷ []
one_bit [] h = absurd (omega arith)
one_bit (x ∷ []) h = refl
one_bit (x ∷ y ∷ xs) h = absurd (omega arith)

-- one bit, extended by itself
pub stretched : (fill : Bit) (n : ℕ) → 1 ≤ n → resize_bits n true (fill ∷ []) ≡ replicate n fill
unfolding resize_bits
stretched fill n h = let e : 1 - n ≡ 0 = omega arith in rw e (copies_last fill n h)

pub select_inside : (fill : Bit) (low width : ℕ) (xs : List Bit) → low + width ≤ length xs → select_bits fill low width xs ≡ slice_bits low width xs
unfolding select_bits
select_inside fill low width xs h = grind (arith)

pub select_outside : (fill : Bit) (low width : ℕ) (xs : List Bit) → length xs < low + width → select_bits fill low width xs ≡ unknown fill width
unfolding select_bits
select_outside fill low width xs h = grind (arith)

pub one_unknown : (fill : Bit) → unknown fill 1 ≡ fill ∷ []
one_unknown fill = refl

-- bits cut to what room there is, before others
pub lowest_joined : (xs ys : List Bit) (room : ℕ) → length ys + room ≡ WIDTH → slice_bits 0 (min room (length xs)) xs ++ ys ≡ lowest (xs ++ ys)
unfolding lowest slice_bits
lowest_joined xs ys room h =
    let few : length (drop (length xs - min room (length xs)) xs) ≤ min room (length xs) = omega (arith, length-drop (length xs - min room (length xs)) xs) in
    let cut : length xs - (0 + min room (length xs)) ≡ length xs - min room (length xs) = omega arith in
    let e : length (xs ++ ys) - WIDTH ≡ length xs - min room (length xs) = omega (arith, length-append xs ys) in
    rw (cut, e) (ap (λ zs. zs ++ ys) (take_all (min room (length xs)) (drop (length xs - min room (length xs)) xs) few) ∙ sym (drop-append-le (length xs - min room (length xs)) xs ys (omega arith)))

pub none_joined : (xs ys : List Bit) → length ys ≡ WIDTH → ys ≡ lowest (xs ++ ys)
unfolding lowest
none_joined xs ys h =
    let e : length (xs ++ ys) - WIDTH ≡ length xs = omega (arith, length-append xs ys) in
    rw e (sym (drop-append_seam xs ys))

repeated_none : (width : ℕ) (signed : Bool) (bits : List Bit) → at_size width signed [] ≡ at_size width signed (repeated 0 bits)
unfolding repeated
repeated_none width signed bits = refl

pub replicated_size : (count width : ℕ) (signed : Bool) (bits : List Bit) → at_size width signed (replicated count bits) ≡ at_size width signed (repeated count bits)
replicated_size zero width signed bits = zero_size width signed ∙ repeated_none width signed bits
replicated_size (suc n) width signed bits = lowest_size width signed (repeated (suc n) bits)

pub repeated_once : (bits : List Bit) → length bits ≤ WIDTH → bits ≡ lowest (repeated 1 bits)
unfolding repeated
repeated_once bits h = sym (lowest_whole bits h)

pub repeated_more : (n : ℕ) (bits : List Bit) → lowest (lowest (repeated n bits) ++ bits) ≡ lowest (repeated (suc n) bits)
unfolding repeated
repeated_more n bits = lowest_again (repeated n bits) bits

pub replicated_some : (n : ℕ) (bits : List Bit) → 1 ≤ n → lowest (repeated n bits) ≡ replicated n bits
replicated_some zero bits h = absurd (omega arith)
replicated_some (suc n) bits h = refl

-- a value that has the size that is wanted already, as its number of bits says
pub at_size_held : (width : ℕ) (signed other : Bool) (bits : List Bit) → width ≡ length bits → 1 ≤ length bits → length bits ≤ WIDTH → bits ≡ at_size width signed (at_size width other bits)
at_size_held width signed other bits is some within =
    let e : length bits ≡ bounded width = omega arith in
    sym (ap (at_size width signed) (at_size_same width other bits e) ∙ at_size_same width signed bits e)

pub at_size_ready : (width : ℕ) (signed : Bool) (bits : List Bit) → width ≡ length bits → 1 ≤ length bits → length bits ≤ WIDTH → bits ≡ at_size width signed bits
at_size_ready width signed bits is some within =
    let e : length bits ≡ bounded width = omega arith in
    sym (at_size_same width signed bits e)

-- operands of one size are compared as they are
pub compared_alike : (o : ComparisonOp) (a b : Operand) → length a.bits ≡ length b.bits → 1 ≤ length a.bits → length a.bits ≤ WIDTH
    → compared o a b ≡ comparison_bit o (a.signed && b.signed) a.bits b.bits
unfolding compared
compared_alike o a b alike some within =
    let e : length a.bits ≡ bounded (max (length a.bits) (length b.bits)) = omega arith in
    let f : length b.bits ≡ bounded (max (length a.bits) (length b.bits)) = omega arith in
    ap (λ xs. comparison_bit o (a.signed && b.signed) xs (at_size (max (length a.bits) (length b.bits)) (a.signed && b.signed) b.bits)) (at_size_same _ (a.signed && b.signed) a.bits e)
    ∙ ap (comparison_bit o (a.signed && b.signed) a.bits) (at_size_same _ (a.signed && b.signed) b.bits f)

pub joined_whole : (xs ys : List Bit) → length xs + length ys ≤ WIDTH → xs ++ ys ≡ lowest (xs ++ ys)
joined_whole xs ys h = let e : length (xs ++ ys) ≤ WIDTH = omega (arith, length-append xs ys) in sym (lowest_whole (xs ++ ys) e)
