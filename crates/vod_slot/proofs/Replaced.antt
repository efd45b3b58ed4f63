-- One bit of a value replaced: what the value has then.
use Rattle.std.proofs.Common.{◌≡◌, ◌≢◌, ◌⊎◌, inl, inr, ℕ, zero, suc, ◌+◌, ◌-◌, ◌<◌, ◌≤◌, nat_le, true, false, List, [], ◌∷◌, ◌++◌, length, take, drop, set, get_or, arith, refl, ap, sym, ◌∙◌, ⊎_elim, length-set, get_or-set_same, get_or-set_other, append_assoc}
use Rattle.std.proofs.lemmas.Bool.{cases_lt, le-leb, leb-true, false_from_ne_true, and_parts}
use Rattle.std.proofs.lemmas.List.{set-get_or, set_split, drop-set-lt, drop-set-add, take-set-le}
use Rattle.vod_bits.specs.Bit.{Bit, B0, B1, BX, BZ}
use Rattle.vod_bits.specs.Value.{upper_bit, slice_bits}
use Rattle.vod_design.specs.Eval.{same_bit}
use Rattle.vod_design.specs.Run.{replace_bits}
use Rattle.vod_design.specs.Values.{select_bits, unknown}
use Rattle.vod_slot.specs.Store.{bit_in, bit_replaced, same_bits}

-- a test of places that is met, and one that isn't
below : (a b : ℕ) → a < b → nat_le (a + 1) b ≡ true
below a b lt = le-leb (a + 1) b (omega arith)

not_below : (a b : ℕ) → b ≤ a → nat_le (a + 1) b ≡ false
not_below a b ge = false_from_ne_true (nat_le (a + 1) b) (λ is. let le = leb-true (a + 1) b is in absurd (omega arith))

-- where a place stands in the list
abbrev pub index : ℕ → List Bit → ℕ
index place bits = length bits - (place + 1)

pub replaced_within : (place : ℕ) (bit : Bit) (bits : List Bit) → place < length bits → bit_replaced place bit bits ≡ set bits (index place bits) bit
unfolding bit_replaced replace_bits
replaced_within place bit bits h =
    let next : suc (index place bits) ≡ length bits - place = omega arith in
    let split = set_split bits (index place bits) bit (omega arith) in
    simp (below place (length bits) h, append_assoc) (sym (split ∙ ap (λ n. take (index place bits) bits ++ bit ∷ drop n bits) next))

pub replaced_past : (place : ℕ) (bit : Bit) (bits : List Bit) → length bits ≤ place → bit_replaced place bit bits ≡ bits
unfolding bit_replaced replace_bits
replaced_past place bit bits h = rw (not_below place (length bits) h) refl

first_of : (bits : List Bit) (i : ℕ) → i < length bits → upper_bit (take 1 (drop i bits)) ≡ get_or bits i BX
first_of [] i h = absurd (omega arith)
first_of (b ∷ bits) zero h = refl
first_of (b ∷ bits) (suc i) h = first_of bits i (omega arith)

pub in_within : (bits : List Bit) (place : ℕ) → place < length bits → bit_in bits place ≡ get_or bits (index place bits) BX
unfolding bit_in select_bits slice_bits
in_within bits place h = rw (below place (length bits) h) (first_of bits (index place bits) (omega arith))

pub in_past : (bits : List Bit) (place : ℕ) → length bits ≤ place → bit_in bits place ≡ BX
unfolding bit_in select_bits
in_past bits place h = rw (not_below place (length bits) h) refl

pub length-replaced : (place : ℕ) (bit : Bit) (bits : List Bit) → length (bit_replaced place bit bits) ≡ length bits
length-replaced place bit bits =
    ⊎_elim
    (λ lt. ap length (replaced_within place bit bits lt) ∙ length-set bits (index place bits) bit)
    (λ ge. ap length (replaced_past place bit bits ge))
    (cases_lt place (length bits))

-- a bit replaced by itself
pub replaced-same : (place : ℕ) (bits : List Bit) → bit_replaced place (bit_in bits place) bits ≡ bits
replaced-same place bits =
    ⊎_elim
    (λ lt. replaced_within place (bit_in bits place) bits lt ∙ ap (set bits (index place bits)) (in_within bits place lt) ∙ set-get_or bits (index place bits) BX)
    (λ ge. replaced_past place (bit_in bits place) bits ge)
    (cases_lt place (length bits))

-- the bit that was replaced, and another one
pub in-replaced : (place : ℕ) (bit : Bit) (bits : List Bit) → place < length bits → bit_in (bit_replaced place bit bits) place ≡ bit
in-replaced place bit bits h =
    let xs = set bits (index place bits) bit in
    let len : length xs ≡ length bits = length-set bits (index place bits) bit in
    let at : get_or xs (index place xs) BX ≡ bit = rw len (get_or-set_same bits (index place bits) bit BX (omega arith)) in
    ap (λ ys. bit_in ys place) (replaced_within place bit bits h) ∙ in_within xs place (rw len h) ∙ at

pub in-replaced_other : (place other : ℕ) (bit : Bit) (bits : List Bit) → place ≢ other → bit_in (bit_replaced place bit bits) other ≡ bit_in bits other
in-replaced_other place other bit bits apart =
    let xs = set bits (index place bits) bit in
    let len : length xs ≡ length bits = length-set bits (index place bits) bit in
    ⊎_elim
    (λ lt. ap (λ ys. bit_in ys other) (replaced_within place bit bits lt)
    ∙ ⊎_elim
    (λ inside. in_within xs other (rw len inside)
    ∙ ap (λ n. get_or xs (n - (other + 1)) BX) len
    ∙ get_or-set_other bits (index place bits) (index other bits) bit BX (λ e. apart (omega arith))
    ∙ sym (in_within bits other inside))
    (λ past. in_past xs other (rw len past) ∙ sym (in_past bits other past))
    (cases_lt other (length bits)))
    (λ ge. ap (λ ys. bit_in ys other) (replaced_past place bit bits ge))
    (cases_lt place (length bits))

-- bits of which none was replaced
slice_kept : (low width i : ℕ) (bit : Bit) (bits : List Bit) → low + width ≤ length bits → i < length bits - (low + width) ⊎ length bits - low ≤ i → take width (drop (length bits - (low + width)) (set bits i bit)) ≡ take width (drop (length bits - (low + width)) bits)
slice_kept low width i bit bits h (inl before) = ap (take width) (drop-set-lt (length bits - (low + width)) bits i bit before)
slice_kept low width i bit bits h (inr behind) =
    let m = length bits - (low + width) in
    let e : i ≡ m + (i - m) = omega arith in
    ap (λ n. take width (drop m (set bits n bit))) e
    ∙ ap (take width) (drop-set-add m bits (i - m) bit)
    ∙ take-set-le width (drop m bits) (i - m) bit (omega arith)

pub selected_inside : (low width : ℕ) (bits : List Bit) → low + width ≤ length bits → select_bits BX low width bits ≡ take width (drop (length bits - (low + width)) bits)
unfolding select_bits slice_bits
selected_inside low width bits h = rw (le-leb (low + width) (length bits) h) refl

pub selected_outside : (low width : ℕ) (bits : List Bit) → length bits < low + width → select_bits BX low width bits ≡ unknown BX width
unfolding select_bits
selected_outside low width bits h = rw (false_from_ne_true (nat_le (low + width) (length bits)) (λ is. let le = leb-true (low + width) (length bits) is in absurd (omega arith))) refl

pub select-replaced : (low width place : ℕ) (bit : Bit) (bits : List Bit) → (place < low) ⊎ (low + width ≤ place) → select_bits BX low width (bit_replaced place bit bits) ≡ select_bits BX low width bits
select-replaced low width place bit bits apart =
    let xs = set bits (index place bits) bit in
    let len : length xs ≡ length bits = length-set bits (index place bits) bit in
    ⊎_elim
    (λ lt. ap (select_bits BX low width) (replaced_within place bit bits lt)
    ∙ ⊎_elim
    (λ outside. selected_outside low width xs (rw len outside) ∙ sym (selected_outside low width bits outside))
    (λ inside. selected_inside low width xs (rw len inside)
    ∙ ap (λ n. take width (drop (n - (low + width)) xs)) len
    ∙ slice_kept low width (index place bits) bit bits inside (⊎_elim (λ under. inr (omega arith)) (λ over. inl (omega arith)) apart)
    ∙ sym (selected_inside low width bits inside))
    (cases_lt (length bits) (low + width)))
    (λ ge. ap (select_bits BX low width) (replaced_past place bit bits ge))
    (cases_lt place (length bits))

-- bits that are the same are equal
pub same_bit-equal : (a b : Bit) → same_bit a b ≡ true → a ≡ b
same_bit-equal B0 B0 h = refl
same_bit-equal B0 B1 h = absurd (cc)
same_bit-equal B0 BX h = absurd (cc)
same_bit-equal B0 BZ h = absurd (cc)
same_bit-equal B1 B0 h = absurd (cc)
same_bit-equal B1 B1 h = refl
same_bit-equal B1 BX h = absurd (cc)
same_bit-equal B1 BZ h = absurd (cc)
same_bit-equal BX B0 h = absurd (cc)
same_bit-equal BX B1 h = absurd (cc)
same_bit-equal BX BX h = refl
same_bit-equal BX BZ h = absurd (cc)
same_bit-equal BZ B0 h = absurd (cc)
same_bit-equal BZ B1 h = absurd (cc)
same_bit-equal BZ BX h = absurd (cc)
same_bit-equal BZ BZ h = refl

pub same_bits-equal : (as_ bs : List Bit) → same_bits as_ bs ≡ true → as_ ≡ bs
same_bits-equal [] [] h = refl
same_bits-equal [] (b ∷ bs) h = absurd (cc)
same_bits-equal (a ∷ as_) [] h = absurd (cc)
same_bits-equal (a ∷ as_) (b ∷ bs) h =
    let p = and_parts (same_bit a b) (same_bits as_ bs) h in
    let here = same_bit-equal a b p.0 in
    let more = same_bits-equal as_ bs p.1 in
    cc

-- what is itself is the same
pub same_bit-itself : (a : Bit) → same_bit a a ≡ true
same_bit-itself B0 = refl
same_bit-itself B1 = refl
same_bit-itself BX = refl
same_bit-itself BZ = refl

pub same_bits-itself : (as_ : List Bit) → same_bits as_ as_ ≡ true
same_bits-itself [] = refl
same_bits-itself (a ∷ as_) = rw (same_bit-itself a) (same_bits-itself as_)
