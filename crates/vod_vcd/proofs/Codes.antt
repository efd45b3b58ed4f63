-- The code of a signal, digit by digit.
use Rattle.std.proofs.Common.{◌≡◌, ℕ, zero, suc, ◌+◌, ◌*◌, ◌/◌, ◌%◌, ◌<◌, ◌≤◌, List, [], ◌∷◌, length, nat_lt, true, false, refl, ap, sym, ◌∙◌, arith, inl, inr, ◌++◌, append_assoc, length-append}
use Rattle.std.proofs.lemmas.Bool.{cases_lt}
use Rattle.vod_vcd.specs.Text.{code_of, code}

-- one digit
pub code_of-one : (f n : ℕ) → n < 94 → code_of f n ≡ (33 + n) ∷ []
unfolding code_of
code_of-one zero n small = let same : n % 94 ≡ n = omega arith in ap (λ d. (33 + d) ∷ []) same
code_of-one (suc f) n small = let test : nat_lt n 94 ≡ true = grind arith in rw test refl

-- more than one, where digits are left
pub code_of-more : (f n : ℕ) → 94 ≤ n → code_of (suc f) n ≡ (33 + n % 94) ∷ code_of f (n / 94)
unfolding code_of
code_of-more f n large = let test : nat_lt n 94 ≡ false = grind arith in rw test refl

-- how many digits are left doesn't count where there are enough
code_of-enough : (f g n : ℕ) → n ≤ f → n ≤ g → code_of f n ≡ code_of g n
code_of-enough zero g n p q = let small : n < 94 = omega arith in code_of-one zero n small ∙ sym (code_of-one g n small)
code_of-enough (suc f) zero n p q = let small : n < 94 = omega arith in code_of-one (suc f) n small ∙ sym (code_of-one zero n small)
code_of-enough (suc f) (suc g) n p q = elim (cases_lt n 94) [
  | inl small ↦ code_of-one (suc f) n small ∙ sym (code_of-one (suc g) n small)
  | inr large ↦ code_of-more f n large ∙ ap (λ digits. (33 + n % 94) ∷ digits) (code_of-enough f g (n / 94) (omega arith) (omega arith)) ∙ sym (code_of-more g n large)
]

pub code-one : (n : ℕ) → n < 94 → code n ≡ (33 + n) ∷ []
code-one n small = code_of-one n n small

-- the first digit, and the code of what is left
pub code-more : (n : ℕ) → 94 ≤ n → code n ≡ (33 + n % 94) ∷ code (n / 94)
code-more zero large = absurd (omega arith)
code-more (suc n) large =
    code_of-more n (suc n) large ∙ ap (λ digits. (33 + suc n % 94) ∷ digits) (code_of-enough n (suc n / 94) (suc n / 94) (omega arith) (omega arith))

-- one digit more reaches 94 times as far
length-code-further : (k m : ℕ) → ((n : ℕ) → n < m → length (code n) ≤ k) → 0 < k → (n : ℕ) → n < 94 * m → length (code n) ≤ suc k
length-code-further k m shorter some n below = elim (cases_lt n 94) [
  | inl small ↦ omega (arith, ap length (code-one n small))
  | inr large ↦ omega (arith, ap length (code-more n large), shorter (n / 94) (omega arith))
]

-- a signal's code has at most three digits
pub length-code : (n : ℕ) → n < 16384 → length (code n) ≤ 3
length-code n few =
    length-code-further 2 8836 (length-code-further 1 94 (λ i small. omega (arith, ap length (code-one i small))) (omega arith)) (omega arith) n (omega arith)

pub length-code-some : (n : ℕ) → 0 < length (code n)
length-code-some n = elim (cases_lt n 94) [
  | inl small ↦ omega (arith, ap length (code-one n small))
  | inr large ↦ omega (arith, ap length (code-more n large))
]

-- while digits are left there is room for one more
pub code-room : (digits : List ℕ) (n left : ℕ) → n < 16384 → digits ++ code left ≡ code n → length digits < 3
code-room digits n left few so_far =
    omega (arith, length-code n few, length-code-some left, length-append digits (code left), ap length so_far)

-- one digit more
pub code-next : (digits : List ℕ) (n left : ℕ) → 94 ≤ left → digits ++ code left ≡ code n → (digits ++ (33 + left % 94) ∷ []) ++ code (left / 94) ≡ code n
code-next digits n left large so_far =
    append_assoc digits ((33 + left % 94) ∷ []) (code (left / 94)) ∙ ap (λ v. digits ++ v) (sym (code-more left large)) ∙ so_far

-- the last digit
pub code-last : (digits : List ℕ) (n left : ℕ) → left < 94 → digits ++ code left ≡ code n → digits ++ (33 + left) ∷ [] ≡ code n
code-last digits n left small so_far = ap (λ v. digits ++ v) (sym (code-one left small)) ∙ so_far
