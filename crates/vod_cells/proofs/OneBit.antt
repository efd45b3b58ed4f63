-- One bit of a value, read and replaced.
use Rattle.std.proofs.Common.{◌≡◌, ℕ, ◌+◌, ◌-◌, ◌<◌, ◌≤◌, suc, zero, Bool, true, false, not, List, [], ◌∷◌, ◌++◌, length, take, drop, replicate, get_or, nat_lt, if◌then◌else◌, arith, refl, ap, ◌∙◌, sym, append_assoc, ⊎_elim, IsTrue, ◌↔◌}
use Rattle.std.proofs.lemmas.Bool.{cases_lt, lt-ltb, ltb-true, false_from_ne_true}
use Rattle.std.proofs.lemmas.List.{length-take-le, length-drop}
use Rattle.vod_bits.specs.Bit.{Bit, B0, BX}
use Rattle.vod_bits.specs.Value.{upper_bit, slice_bits, resize_bits}
use Rattle.vod_design.specs.Values.{select_bits}
use Rattle.vod_eval.proofs.Cuts.{upper_slice, replace_inside, replace_outside}
use Rattle.vod_slot.specs.Store.{bit_in, bit_replaced, same_bits}
use Rattle.vod_cells.specs.Wide.{bit_of_wide}
use Rattle.vod_slot.proofs.Replaced.{in_within, selected_inside, selected_outside, same_bits-equal, same_bits-itself}

-- a list of one is its first
pub one_long : (bits : List Bit) → length bits ≡ 1 → bits ≡ upper_bit bits ∷ []
one_long [] h = absurd (omega arith)
one_long (b ∷ []) h = refl
one_long (b ∷ c ∷ more) h = absurd (omega arith)

length-one_selected : (place : ℕ) (bits : List Bit) → length (select_bits BX place 1 bits) ≡ 1
length-one_selected place bits =
    ⊎_elim
    (λ lt. ap length (selected_outside place 1 bits lt))
    (λ ge. ap length (selected_inside place 1 bits ge) ∙ length-take-le 1 (drop (length bits - (place + 1)) bits) (omega (arith, length-drop (length bits - (place + 1)) bits)))
    (cases_lt (length bits) (place + 1))

pub one_selected : (place : ℕ) (bits : List Bit) → select_bits BX place 1 bits ≡ bit_in bits place ∷ []
unfolding bit_in
one_selected place bits = one_long (select_bits BX place 1 bits) (length-one_selected place bits)

-- a bit replaced, in parts
pub replaced_past : (place : ℕ) (bit : Bit) (bits : List Bit) → length bits ≤ place → bits ≡ bit_replaced place bit bits
unfolding bit_replaced
replaced_past place bit bits h = sym (replace_outside place (bit ∷ []) bits (omega arith))

pub replaced_parts : (place : ℕ) (bit bits : List Bit) → length bit ≡ 1 → place < length bits → take (length bits - (place + 1)) bits ++ (bit ++ drop (length bits - place) bits) ≡ bit_replaced place (upper_bit bit) bits
unfolding bit_replaced
replaced_parts place bit bits one h =
    let is = one_long bit one in
    ap (λ b. take (length bits - (place + 1)) bits ++ (b ++ drop (length bits - place) bits)) is
    ∙ sym (replace_inside place (upper_bit bit ∷ []) bits (omega arith) ∙ append_assoc (take (length bits - (place + 1)) bits) (upper_bit bit ∷ []) (drop (length bits - place) bits))

-- how many bits are taken
pub length-slice : (low width : ℕ) (bits : List Bit) → low + width ≤ length bits → length (slice_bits low width bits) ≡ width
unfolding slice_bits
length-slice low width bits h = length-take-le width (drop (length bits - (low + width)) bits) (omega (arith, length-drop (length bits - (low + width)) bits))

-- the bits above a place
pub upper_part : (place : ℕ) (bits : List Bit) → place < length bits → slice_bits (place + 1) (length bits - (place + 1)) bits ≡ take (length bits - (place + 1)) bits
upper_part place bits h =
    let low : length bits - (length bits - (place + 1)) ≡ place + 1 = omega arith in
    ap (λ n. slice_bits n (length bits - (place + 1)) bits) (sym low) ∙ upper_slice (length bits - (place + 1)) bits (omega arith)

pub differ : (r : Bool) (xs ys : List Bit) → (IsTrue r ↔ (xs ≡ ys)) → not r ≡ not (same_bits xs ys)
differ true xs ys h = let same = h.0 refl in ap not (sym (ap (same_bits xs) (sym same) ∙ same_bits-itself xs))
differ false xs ys h = sym (ap not (false_from_ne_true (same_bits xs ys) (λ is. let wrong : false ≡ true = h.1 (same_bits-equal xs ys is) in absurd (cc))))

-- a value that is extended by zeros
pub wide_inside : (bits : List Bit) (place : ℕ) → place < length bits → bit_in bits place ∷ [] ≡ bit_of_wide bits place ∷ []
wide_inside bits place h = let is = lt-ltb place (length bits) h in rw is refl

pub wide_past : (bits : List Bit) (place : ℕ) → length bits ≤ place → B0 ∷ [] ≡ bit_of_wide bits place ∷ []
wide_past bits place h =
    let is : nat_lt place (length bits) ≡ false = false_from_ne_true (nat_lt place (length bits)) (λ t. let lt = ltb-true place (length bits) t in absurd (omega arith)) in
    rw is refl

-- its bits in order: the upper one first
first_zeros : (count i : ℕ) (bits : List Bit) → i < count → get_or (replicate count B0 ++ bits) i BX ≡ B0
first_zeros zero i bits h = absurd (omega arith)
first_zeros (suc count) zero bits h = refl
first_zeros (suc count) (suc i) bits h = first_zeros count i bits (omega arith)

past_zeros : (count i : ℕ) (bits : List Bit) → get_or (replicate count B0 ++ bits) (count + i) BX ≡ get_or bits i BX
past_zeros zero i bits = ap (λ n. get_or bits n BX) (omega arith)
past_zeros (suc count) i bits = let next : suc count + i ≡ suc (count + i) = omega arith in ap (λ n. get_or (replicate (suc count) B0 ++ bits) n BX) next ∙ past_zeros count i bits

get_or-drop : (n i : ℕ) (bits : List Bit) → get_or (drop n bits) i BX ≡ get_or bits (n + i) BX
get_or-drop zero i bits = ap (λ n. get_or bits n BX) (omega arith)
get_or-drop (suc n) i [] = refl
get_or-drop (suc n) i (b ∷ bits) = let next : suc n + i ≡ suc (n + i) = omega arith in get_or-drop n i bits ∙ sym (ap (λ m. get_or (b ∷ bits) m BX) next)

pub wide_at : (count i : ℕ) (bits : List Bit) → i < count → get_or (resize_bits count false bits) i BX ≡ bit_of_wide bits (count - 1 - i)
unfolding resize_bits
wide_at count i bits h =
    ⊎_elim
    (λ lt. let is : nat_lt (count - 1 - i) (length bits) ≡ true = lt-ltb (count - 1 - i) (length bits) lt in
    let at : i ≡ (count - length bits) + (i - (count - length bits)) = omega arith in
    let place : (length bits - count) + (i - (count - length bits)) ≡ length bits - ((count - 1 - i) + 1) = omega arith in
    ap (λ n. get_or (replicate (count - length bits) B0 ++ drop (length bits - count) bits) n BX) at
    ∙ past_zeros (count - length bits) (i - (count - length bits)) (drop (length bits - count) bits)
    ∙ get_or-drop (length bits - count) (i - (count - length bits)) bits
    ∙ ap (λ n. get_or bits n BX) place
    ∙ sym (in_within bits (count - 1 - i) lt)
    ∙ sym (ap (λ t. if t then bit_in bits (count - 1 - i) else B0) is))
    (λ ge. let is : nat_lt (count - 1 - i) (length bits) ≡ false = false_from_ne_true (nat_lt (count - 1 - i) (length bits)) (λ t. let lt = ltb-true (count - 1 - i) (length bits) t in absurd (omega arith)) in
    first_zeros (count - length bits) i (drop (length bits - count) bits) (omega arith)
    ∙ sym (ap (λ t. if t then bit_in bits (count - 1 - i) else B0) is))
    (cases_lt (count - 1 - i) (length bits))

pub differ_in_size : (xs ys : List Bit) → (length xs ≡ length ys → ⊥) → true ≡ not (same_bits xs ys)
differ_in_size xs ys h = sym (ap not (false_from_ne_true (same_bits xs ys) (λ is. h (ap length (same_bits-equal xs ys is)))))
