-- The digits of a value, by the places of its bits.
use Rattle.std.proofs.Common.{◌≡◌, ℕ, zero, suc, ◌+◌, ◌*◌, ◌-◌, ◌/◌, ◌^◌, ◌==◌, bit_and, ◌<◌, ◌≤◌, List, [], ◌∷◌, ◌++◌, length, map, true, false, refl, sym, ap, ◌∙◌, arith, append_assoc, append-nil}
use Rattle.std.specs.Int.{bit_at}
use Rattle.std.proofs.lemmas.Nat.Bits.{bit_at-zero, bit_at-lt, bit_at_above, shr_and_one}
use Rattle.vod_bits.specs.Bit.{Bit, B0, B1, BX, BZ, is_known}
use Rattle.vod_bits.specs.Value.{bits_from, digit_bit}
use Rattle.vod_bits.specs.Fields.{digit_cases}
use Rattle.vod_four.specs.Four.{four_bit}
use Rattle.vod_vcd.specs.Values.{digit, digits, is_dropped, written_bits}
use Rattle.vod_vcd.specs.Text.{value_text}
use Rattle.vod_vcd.specs.Places.{bit_there, upper_falls, falls_before}

pub falls_before-digits : (a b : Bit) → falls_before (digit a) (digit b) ≡ is_dropped a b
falls_before-digits B0 B0 = refl
falls_before-digits B0 B1 = refl
falls_before-digits B0 BX = refl
falls_before-digits B0 BZ = refl
falls_before-digits B1 B0 = refl
falls_before-digits B1 B1 = refl
falls_before-digits B1 BX = refl
falls_before-digits B1 BZ = refl
falls_before-digits BX B0 = refl
falls_before-digits BX B1 = refl
falls_before-digits BX BX = refl
falls_before-digits BX BZ = refl
falls_before-digits BZ B0 = refl
falls_before-digits BZ B1 = refl
falls_before-digits BZ BX = refl
falls_before-digits BZ BZ = refl

pub upper_falls-few : (at : ℕ → Bit) (n : ℕ) → n < 2 → upper_falls at n ≡ false
upper_falls-few at zero few = refl
upper_falls-few at (suc zero) few = refl
upper_falls-few at (suc (suc n)) few = absurd (omega arith)

pub upper_falls-more : (at : ℕ → Bit) (n : ℕ) → 2 ≤ n → upper_falls at n ≡ falls_before (digit (at (n - 1))) (digit (at (n - 2)))
upper_falls-more at zero more = absurd (omega arith)
upper_falls-more at (suc zero) more = absurd (omega arith)
upper_falls-more at (suc (suc n)) more =
    let one : suc (suc n) - 1 ≡ suc n = omega arith in
    let two : suc (suc n) - 2 ≡ n = omega arith in
    rw (one, two) (sym (falls_before-digits (at (suc n)) (at n)))

-- a bit that falls is not written
pub written-falls : (at : ℕ → Bit) (n : ℕ) → upper_falls at n ≡ true → written_bits (bits_from at n) ≡ written_bits (bits_from at (n - 1))
unfolding bits_from written_bits
written-falls at zero falls = cc
written-falls at (suc zero) falls = cc
written-falls at (suc (suc n)) falls =
    let one : suc (suc n) - 1 ≡ suc n = omega arith in
    rw (one, falls) refl

-- where the upper bit stays, all are written
pub written-stays : (at : ℕ → Bit) (n : ℕ) → upper_falls at n ≡ false → written_bits (bits_from at n) ≡ bits_from at n
unfolding bits_from written_bits
written-stays at zero stays = refl
written-stays at (suc zero) stays = refl
written-stays at (suc (suc n)) stays = rw stays refl

-- zeros above the lower m bits, at least one, of a known value are not written
pub written-zeros : (at : ℕ → Bit) (m d : ℕ) → ((i : ℕ) → is_known (at i) ≡ true) → ((i : ℕ) → m ≤ i → at i ≡ B0) → 0 < m →
    written_bits (bits_from at m) ≡ written_bits (bits_from at (d + m))
written-zeros at m zero known zeros some =
    let same : 0 + m ≡ m = omega arith in
    rw same refl
written-zeros at m (suc d) known zeros some =
    let more : 2 ≤ suc d + m = omega (arith, some) in
    let less : suc d + m - 1 ≡ d + m = omega arith in
    let upper : at (suc d + m - 1) ≡ B0 = zeros (suc d + m - 1) (omega arith) in
    let dropped : is_dropped (at (suc d + m - 1)) (at (suc d + m - 2)) ≡ true = rw upper (known (suc d + m - 2)) in
    let falls : upper_falls at (suc d + m) ≡ true =
    upper_falls-more at (suc d + m) more ∙ falls_before-digits (at (suc d + m - 1)) (at (suc d + m - 2)) ∙ dropped in
    written-zeros at m d known zeros some ∙ sym (written-falls at (suc d + m) falls ∙ ap (λ k. written_bits (bits_from at k)) less)

-- a known value's zeros above its number are not written
pub written-known : (ones used r d : ℕ) → ones < 2 ^ used → (0 < d → 0 < r) → (0 < d → used ≤ r) →
    written_bits (bits_from (bit_there ones 0) r) ≡ written_bits (bits_from (bit_there ones 0) (d + r))
written-known ones used r zero within some above =
    let same : 0 + r ≡ r = omega arith in
    rw same refl
written-known ones used r (suc d) within some above =
    let known : (i : ℕ) → is_known (bit_there ones 0 i) ≡ true = λ i.
    rw (bit_at-zero i) (digit_cases (λ o. is_known (four_bit (digit_bit o) B0) ≡ true) refl refl (bit_at ones i) (bit_at-lt ones i)) in
    let zeros : (i : ℕ) → r ≤ i → bit_there ones 0 i ≡ B0 = λ i far.
    rw (bit_at-zero i, bit_at_above ones used i within (omega (arith, far, above (omega arith)))) refl in
    written-zeros (bit_there ones 0) r (suc d) known zeros (some (omega arith))

-- at least two bits where one falls
pub some-falls : (at : ℕ → Bit) (n : ℕ) → upper_falls at n ≡ true → 0 < n
some-falls at zero falls = cc
some-falls at (suc n) falls = omega arith

-- a further digit
pub digits-next : (text whole : List ℕ) (at : ℕ → Bit) (n : ℕ) → 0 < n → text ++ map digit (bits_from at n) ≡ whole →
    (text ++ digit (at (n - 1)) ∷ []) ++ map digit (bits_from at (n - 1)) ≡ whole
unfolding bits_from
digits-next text whole at zero some so_far = absurd (omega arith)
digits-next text whole at (suc n) some so_far =
    let one : suc n - 1 ≡ n = omega arith in
    rw one (append_assoc text (digit (at n) ∷ []) (map digit (bits_from at n)) ∙ so_far)

-- the digit of a bit, from its two binary digits
pub digit-at : (ones unks place : ℕ) →
    48 + bit_and (ones / 2 ^ place) 1 + bit_and (unks / 2 ^ place) 1 * (72 + bit_and (ones / 2 ^ place) 1) ≡ digit (bit_there ones unks place)
digit-at ones unks place =
    rw (shr_and_one ones place, shr_and_one unks place)
    (digit_cases (λ u. 48 + bit_at ones place + u * (72 + bit_at ones place) ≡ digit (four_bit (digit_bit (bit_at ones place)) (digit_bit u)))
    (digit_cases (λ o. 48 + o + 0 * (72 + o) ≡ digit (four_bit (digit_bit o) B0)) refl refl (bit_at ones place) (bit_at-lt ones place))
    (digit_cases (λ o. 48 + o + 1 * (72 + o) ≡ digit (four_bit (digit_bit o) B1)) refl refl (bit_at ones place) (bit_at-lt ones place))
    (bit_at unks place) (bit_at-lt unks place))

-- no digit is left
pub digits-done : (text whole : List ℕ) (at : ℕ → Bit) (n : ℕ) → n ≡ 0 → text ++ map digit (bits_from at n) ≡ whole → text ≡ whole
unfolding bits_from
digits-done text whole at zero none so_far = sym (append-nil text) ∙ so_far
digits-done text whole at (suc n) none so_far = absurd (omega arith)

-- a value of one bit, and of more
pub value_text-one : (value : List Bit) → length value ≡ 1 → value_text value ≡ digits value
value_text-one value one = let test : (length value == 1) ≡ true = grind arith in rw test refl

pub value_text-more : (front : List ℕ) (value : List Bit) → (length value ≡ 1 → ⊥) → ((front ++ 98 ∷ []) ++ digits value) ++ 32 ∷ [] ≡ front ++ value_text value
value_text-more front value more =
    let test : (length value == 1) ≡ false = grind arith in
    rw test (append_assoc (front ++ 98 ∷ []) (digits value) (32 ∷ []) ∙ append_assoc front (98 ∷ []) (digits value ++ 32 ∷ []))
