-- Laws on the number that digits write.
use Rattle.std.proofs.Common.{◌≡◌, ℕ, ◌+◌, ◌-◌, ◌*◌, ◌^◌, ◌<◌, ◌≤◌, List, [], ◌∷◌, arith, length, get_or, take, drop, drop-cons, add-one, cond, true, suc, subst, lit≤, lit<}
use Rattle.std.proofs.lemmas.Bool.Decides.{nat_tests}
use Rattle.std.proofs.Math.Nat.{pow-le-pow_right, mul-le-mul_left}
use Rattle.std.proofs.lemmas.Grind.{common_steps}
use Rattle.std.proofs.lemmas.Int.Digits.{digits_value-lt, digits_value_more}
use Rattle.std.proofs.lemmas.Str.Parse.{digits_value-take-le, digit_at}
use Rattle.std.specs.Char.{digit_value, is_digit}
use Rattle.std.specs.List.{filter}
use Rattle.std.specs.Str.Parse.{digits_value, digits_value_after}
use Rattle.vod_text.specs.Numeral.{IsDecimal, based_value}

-- more digits never make the number less
pub digits_value_after-ge : (base n : ℕ) (ds : List ℕ) → 1 ≤ base → n ≤ digits_value_after base n ds
digits_value_after-ge base n [] h = omega arith
digits_value_after-ge base n (d ∷ ds) h =
    let more : n * base + digit_value d ≤ digits_value_after base (n * base + digit_value d) ds = digits_value_after-ge base (n * base + digit_value d) ds h in
    let grows : n * 1 ≤ n * base = mul-le-mul_left n h in
    omega arith

-- the value of a decimal digit
pub value_of_digit : (c : ℕ) → 48 ≤ c → c ≤ 57 → digit_value c ≡ c - 48
value_of_digit c low high = grind (arith, nat_tests)

-- what one more digit of a decimal number makes of the number so far
pub record IsNextDecimal (text : List ℕ) (i n : ℕ) : Type 0 where
  pub low : 48 ≤ get_or text i 0
  pub high : get_or text i 0 ≤ 57
  pub fits : n * 10 + (get_or text i 0 - 48) < 10 ^ 19
  pub value : n * 10 + (get_or text i 0 - 48) ≡ digits_value 10 (take (i + 1) text)

pub next_decimal : (text : List ℕ) (i n : ℕ) → IsDecimal text → i < length text → n ≡ digits_value 10 (take i text) → IsNextDecimal text i n
next_decimal text i n h lt e =
    let digit = digit_at text i h.0.1 lt in
    let next = digits_value_more 10 text i lt in
    let part = digits_value-take-le 10 text (i + 1) (lit≤ tt) in
    let whole = digits_value-lt 10 text h.0.1 in
    let few : 10 ^ length text ≤ 10 ^ 19 = pow-le-pow_right (lit< tt) h.1 in
    let here : digit_value (get_or text i 0) ≡ get_or text i 0 - 48 = value_of_digit (get_or text i 0) digit.0 digit.1 in
    record { low = digit.0; high = digit.1; fits = omega arith; value = omega arith }

-- The number so far, followed by the digits that are left, is the whole number.
abbrev pub Completes : ℕ → List ℕ → ℕ → ℕ → Type 0
Completes base text i n = digits_value_after base n (filter (λ b. is_digit b base) (drop i text)) ≡ based_value base text

pub completes_end : (base : ℕ) (text : List ℕ) (i n : ℕ) → length text ≤ i → Completes base text i n → n ≡ based_value base text
completes_end base text i n le h =
    let none : drop i text ≡ [] = grind (arith, common_steps) in
    rw none at h

pub completes_digit : (base : ℕ) (text : List ℕ) (i n d : ℕ) → i < length text → digit_value (get_or text i 0) < base → d ≡ digit_value (get_or text i 0)
    → Completes base text i n → Completes base text (i + 1) (n * base + d)
completes_digit base text i n d lt digit e h =
    let passes : is_digit (get_or text i 0) base ≡ true = grind (arith, nat_tests) in
    let cons = drop-cons text i 0 lt in
    let step : digits_value_after base n (filter (λ b. is_digit b base) (get_or text i 0 ∷ drop (suc i) text)) ≡ based_value base text = rw cons at h in
    let step' : digits_value_after base n (cond (is_digit (get_or text i 0) base) (get_or text i 0 ∷ filter (λ b. is_digit b base) (drop (suc i) text)) (filter (λ b. is_digit b base) (drop (suc i) text))) ≡ based_value base text = step in
    let here = rw passes at step' in
    rw (add-one, e) here

-- Where one more digit passes a bound, the whole number does.
pub completes_over : (base : ℕ) (text : List ℕ) (i n d max : ℕ) → 1 ≤ base → i < length text → digit_value (get_or text i 0) < base → d ≡ digit_value (get_or text i 0)
    → Completes base text i n → (n * base + d < max → ⊥) → based_value base text < max → ⊥
completes_over base text i n d max b lt digit e h over small =
    let more = digits_value_after-ge base (n * base + d) (filter (λ c. is_digit c base) (drop (i + 1) text)) b in
    let next = completes_digit base text i n d lt digit e h in
    over (let le : n * base + d ≤ based_value base text = subst (λ v. n * base + d ≤ v) next more in omega arith)
