-- Laws on the forms of numbers: the front that is right, the first wrong place, and the answers.
use Rattle.std.proofs.Common.{◌≡◌, ℕ, zero, suc, ◌+◌, ◌-◌, ◌^◌, ◌<◌, ◌≤◌, inl, inr, ◌↔◌, List, [], ◌∷◌, ◌++◌, arith, length, get_or, take, drop, refl, sym, ◌∙◌, ap, subst, cond, true, false, not, nat_lt, nat_le, ◌==◌, ◌&&◌, Bool, lit≤, lit<, Result, Ok, Err, IfOk, append_assoc, length-append, append-nil, one-add, position, unwrap_or, Some, None}
use Rattle.std.proofs.lemmas.Bool.{cases_lt, cases_order}
use Rattle.std.proofs.lemmas.Bool.Decides.{nat_tests}
use Rattle.std.proofs.Math.Nat.{pow-le-pow_right}
use Rattle.std.proofs.lemmas.Int.Digits.{digits_value-lt}
use Rattle.std.proofs.lemmas.Grind.{common_steps}
use Rattle.std.proofs.lemmas.List.{take-append-drop, take-take}
use Rattle.std.proofs.lemmas.List.Sums.{prefix_len-le-length}
use Rattle.std.specs.Char.{is_digit}
use Rattle.std.specs.List.{filter, prefix_len, AllByRecursion, position_or_len}
use Rattle.std.specs.Str.Parse.{AllDigits, digits_value}
use Rattle.vod_text.specs.Numeral.{IsDigits, IsBased, is_further, Begins, IsFirstWrong, IsDecimal, IsHexadecimal, digits_len, based_len, based_value, answer_of, decimal_of, hexadecimal_of, based_of}
use Rattle.vod_text.specs.declared.read.NumberFault.{NumberFault}
use Rattle.vod_text.specs.declared.read.NumberFault.TheVariants.{Spelling, Range}

-- What a text of a form begins with, a front of it begins with too.
begins_front : (F : List ℕ → Type 0) (xs ys : List ℕ) → Begins F (xs ++ ys) → Begins F xs
begins_front F xs ys b = (ys ++ b.0, subst F (append_assoc xs ys b.0) b.1)

begins_take : (F : List ℕ → Type 0) (text : List ℕ) (m n : ℕ) → m ≤ n → Begins F (take n text) → Begins F (take m text)
begins_take F text m n le b =
    let front = begins_front F (take m (take n text)) (drop m (take n text)) (subst (Begins F) (sym (take-append-drop m (take n text))) b) in
    subst (Begins F) (take-take m n text le) front

-- A text of the form is wrong nowhere.
right_nowhere : (F : List ℕ → Type 0) (text : List ℕ) (at : ℕ) → F text → IsFirstWrong F text at → ⊥
right_nowhere F text at f w =
    elim (cases_lt at (length text)) [
      | inl lt ↦ w.here lt (drop (at + 1) text, subst F (sym (take-append-drop (at + 1) text)) f)
      | inr ge ↦ (let e : at ≡ length text = (let le = w.within in omega arith) in w.end e f)
    ]

-- A text is first wrong at one place.
wrong_later : (F : List ℕ → Type 0) (text : List ℕ) (a b : ℕ) → IsFirstWrong F text a → IsFirstWrong F text b → a < b → ⊥
wrong_later F text a b v w lt =
    let within = w.within in
    let inside : a < length text = omega arith in
    let next : a + 1 ≤ b = omega arith in
    v.here inside (begins_take F text (a + 1) b next w.before)

pub wrong_once : (F : List ℕ → Type 0) (text : List ℕ) (a b : ℕ) → IsFirstWrong F text a → IsFirstWrong F text b → a ≡ b
wrong_once F text a b v w =
    elim (cases_order a b) [
      | inl e ↦ e
      | inr o ↦ elim o [ inl lt ↦ absurd (wrong_later F text a b v w lt) | inr gt ↦ absurd (wrong_later F text b a w v gt) ]
    ]

-- What the answers on a text say of it.
pub record IsAnswer (F : List ℕ → Type 0) (value max : ℕ) (text : List ℕ) (r : Result ℕ NumberFault) : Type 0 where
  pub number : IfOk r (λ n. F text × (n ≡ value) × (n ≤ max))
  pub accepts : F text → value ≤ max → r ≡ Ok value
  pub spelling : (at : ℕ) → (r ≡ Err (Spelling at)) ↔ IsFirstWrong F text at
  pub range : (r ≡ Err Range) ↔ (F text × (max < value))

answers_by : (F : List ℕ → Type 0) (len value max : ℕ) (text : List ℕ) (b d : Bool)
    → (b ≡ true → F text) → (b ≡ false → IsFirstWrong F text len) → (d ≡ true → value ≤ max) → (d ≡ false → max < value)
    → IsAnswer F value max text (cond b (cond d (Ok value) (Err Range)) (Err (Spelling len)))
answers_by F len value max text true true f w le lt = record {
  number = (f refl, refl, le refl);
  accepts = λ _ _. refl;
  spelling = λ at. ((λ e. cc), (λ v. absurd (right_nowhere F text at (f refl) v)));
  range = ((λ e. cc), (λ h. let small : value ≤ max = le refl in let large : max < value = h.1 in absurd (omega arith)));
}
answers_by F len value max text true false f w le lt = record {
  number = tt;
  accepts = (λ _ small. let large : max < value = lt refl in absurd (omega arith));
  spelling = λ at. ((λ e. cc), (λ v. absurd (right_nowhere F text at (f refl) v)));
  range = ((λ _. (f refl, lt refl)), (λ _. refl));
}
answers_by F len value max text false d f w le lt = record {
  number = tt;
  accepts = (λ g _. absurd (right_nowhere F text len g (w refl)));
  spelling = λ at. ((λ e. let same : len ≡ at = cc in subst (IsFirstWrong F text) same (w refl)), (λ v. ap (λ n. Err (Spelling n)) (wrong_once F text len at (w refl) v)));
  range = ((λ e. cc), (λ h. absurd (right_nowhere F text len h.0 (w refl))));
}

-- The right front is the whole text, or ends where the text is first wrong: then the answers are right.
pub answers : (F : List ℕ → Type 0) (len value max : ℕ) (text : List ℕ)
    → (0 < len → len ≡ length text → F text) → ((0 < len → len ≡ length text → ⊥) → IsFirstWrong F text len)
    → IsAnswer F value max text (answer_of len value max text)
answers F len value max text whole part =
    answers_by F len value max text (nat_lt 0 len && len == length text) (nat_le value max)
    (λ e. let more : 0 < len = grind (arith, nat_tests) in let same : len ≡ length text = grind (arith, nat_tests) in whole more same)
    (λ e. part (λ more same. grind (arith, nat_tests)))
    (λ e. grind (arith, nat_tests))
    (λ e. grind (arith, nat_tests))

-- The bytes before the first other one pass.
not_not : (p : ℕ → Bool) (xs : List ℕ) → position_or_len (λ x. not (p x)) xs ≡ prefix_len p xs
not_not p [] = refl
not_not p (x ∷ xs) = not_not_by (p x) (not_not p xs)
  where
    not_not_by : (b : Bool) {m n : ℕ} → m ≡ n → cond (not (not b)) (1 + m) 0 ≡ cond b (1 + n) 0
    not_not_by true e = ap (λ k. 1 + k) e
    not_not_by false e = refl

position_by : (b : Bool) (m n : ℕ) → (b ≡ false → n ≡ m) → unwrap_or (cond b (Some m) None) n ≡ m
position_by true m n h = refl
position_by false m n h = h refl

pub unwrap_position : (p : ℕ → Bool) (xs : List ℕ) → unwrap_or (position (λ x. not (p x)) xs) (length xs) ≡ prefix_len p xs
unwrap_position p xs =
    let le = prefix_len-le-length (λ x. not (not (p x))) xs in
    position_by (nat_lt (position_or_len (λ x. not (p x)) xs) (length xs)) (position_or_len (λ x. not (p x)) xs) (length xs)
    (λ e. grind (arith, nat_tests)) ∙ not_not p xs

-- All pass exactly where the front that passes is the whole.
whole_by : (b : Bool) (m n : ℕ) → cond b (1 + m) 0 ≡ suc n → (b ≡ true) × (m ≡ n)
whole_by true m n e = (refl, omega arith)
whole_by false m n e = absurd (omega arith)

pub whole_front : (p : ℕ → Bool) (xs : List ℕ) → prefix_len p xs ≡ length xs → AllByRecursion (λ b. p b ≡ true) xs
whole_front p [] e = tt
whole_front p (x ∷ xs) e = let h = whole_by (p x) (prefix_len p xs) (length xs) e in (h.0, whole_front p xs h.1)

-- A front that is no longer than the front that passes, passes.
front_by : (P : Type 0) (b : Bool) (k m : ℕ) → suc k ≤ cond b (1 + m) 0 → (k ≤ m → P) → (b ≡ true) × P
front_by P true k m le h = (refl, h (omega arith))
front_by P false k m le h = absurd (omega arith)

pub front_front : (p : ℕ → Bool) (xs : List ℕ) (k : ℕ) → k ≤ prefix_len p xs → AllByRecursion (λ b. p b ≡ true) (take k xs)
front_front p xs zero le = tt
front_front p [] (suc k) le = tt
front_front p (x ∷ xs) (suc k) le = front_by (AllByRecursion (λ b. p b ≡ true) (take k xs)) (p x) k (prefix_len p xs) le (front_front p xs k)

-- The front that passes is at least as long as any that passes.
pub front_more : (p : ℕ → Bool) (xs ys : List ℕ) → AllByRecursion (λ b. p b ≡ true) xs → length xs ≤ prefix_len p (xs ++ ys)
front_more p [] ys h = omega arith
front_more p (x ∷ xs) ys h = rw h.0 (let more = front_more p xs ys h.1 in omega arith)

-- The front of a text of two parts passes, if it all does.
pub all_front : (p : ℕ → Bool) (xs ys : List ℕ) → AllByRecursion (λ b. p b ≡ true) (xs ++ ys) → AllByRecursion (λ b. p b ≡ true) xs
all_front p [] ys h = tt
all_front p (x ∷ xs) ys h = (h.0, all_front p xs ys h.1)

-- The same, where a front of the text stands for the first part.
pub take_more : (p : ℕ → Bool) (text rest : List ℕ) (k : ℕ) → k ≤ length text → AllByRecursion (λ b. p b ≡ true) (take k text ++ rest) → k ≤ prefix_len p text
take_more p text rest k le h =
    let passes = all_front p (take k text) rest h in
    let more = front_more p (take k text) (drop k text) passes in
    let whole : length (take k text) ≤ prefix_len p text = subst (λ t. length (take k text) ≤ prefix_len p t) (take-append-drop k text) more in
    let long : length (take k text) ≡ k = grind (arith, common_steps) in
    omega arith

-- Digits pass the test on a digit.
pub digits_pass : (base : ℕ) (ds : List ℕ) → AllDigits base ds → AllByRecursion (λ b. is_digit b base ≡ true) ds
digits_pass base [] h = tt
digits_pass base (d ∷ ds) h = (grind (arith, nat_tests), digits_pass base ds h.1)

pub passes_digits : (base : ℕ) (ds : List ℕ) → AllByRecursion (λ b. is_digit b base ≡ true) ds → AllDigits base ds
passes_digits base [] h = tt
passes_digits base (d ∷ ds) h = (grind (arith, nat_tests), passes_digits base ds h.1)

zero_digit : (base : ℕ) → 1 ≤ base → is_digit 48 base ≡ true
zero_digit base h = grind (arith, nat_tests)

-- The front of digits is the whole text, or ends at the first wrong place.
pub digits_right : (base most : ℕ) (text : List ℕ) → 0 < digits_len base most text → digits_len base most text ≡ length text → IsDigits base most text
digits_right base most text more same =
    let le = prefix_len-le-length (λ b. is_digit b base) text in
    let all : prefix_len (λ b. is_digit b base) text ≡ length text = omega arith in
    ((omega arith, passes_digits base text (whole_front (λ b. is_digit b base) text all)), omega arith)

digits_begin : (base most : ℕ) (text : List ℕ) (k : ℕ) → 1 ≤ base → 1 ≤ most → k ≤ digits_len base most text → Begins (IsDigits base most) (take k text)
digits_begin base most text zero b m le =
    (48 ∷ [], ((lit< tt, passes_digits base (48 ∷ []) (zero_digit base b, tt)), m))
digits_begin base most text (suc k) b m le =
    let short = prefix_len-le-length (λ c. is_digit c base) text in
    let front : suc k ≤ prefix_len (λ c. is_digit c base) text = omega arith in
    let digits = passes_digits base (take (suc k) text) (front_front (λ c. is_digit c base) text (suc k) front) in
    let long : length (take (suc k) text) ≡ suc k = (let le' : suc k ≤ length text = omega arith in grind (arith, common_steps)) in
    ([], rw append-nil ((omega arith, digits), omega arith))

digits_stop : (base most : ℕ) (text : List ℕ) → digits_len base most text < length text → Begins (IsDigits base most) (take (digits_len base most text + 1) text) → ⊥
digits_stop base most text lt b =
    let k : ℕ = digits_len base most text + 1 in
    let passes = digits_pass base (take k text ++ b.0) b.1.0.1 in
    let more = take_more (λ c. is_digit c base) text b.0 k (omega arith) passes in
    let few : length (take k text ++ b.0) ≤ most = b.1.1 in
    let long : length (take k text) ≡ k = (let le' : k ≤ length text = omega arith in grind (arith, common_steps)) in
    let sum : length (take k text ++ b.0) ≡ length (take k text) + length b.0 = length-append (take k text) b.0 in
    omega arith

pub digits_wrong : (base most : ℕ) (text : List ℕ) → 1 ≤ base → 1 ≤ most
    → (0 < digits_len base most text → digits_len base most text ≡ length text → ⊥) → IsFirstWrong (IsDigits base most) text (digits_len base most text)
digits_wrong base most text b m part =
    let le = prefix_len-le-length (λ c. is_digit c base) text in
    record {
      within = omega arith;
      before = digits_begin base most text (digits_len base most text) b m (omega arith);
      here = digits_stop base most text;
      end = λ e f. part (let some : 0 < length text = f.0.0 in omega arith) e;
    }

-- The same for the digits of a based number.
based_begin : (base : ℕ) (d : ℕ) (ds : List ℕ) (k : ℕ) → is_digit d base ≡ true → k ≤ prefix_len (is_further base) ds → Begins (IsBased base) (d ∷ take k ds)
based_begin base d ds k digit le =
    ([], subst (IsBased base) (sym (append-nil (d ∷ take k ds))) (digit, front_front (is_further base) ds k le))

based_stop : (base d : ℕ) (ds : List ℕ) (k : ℕ) → k ≡ suc (suc (prefix_len (is_further base) ds)) → prefix_len (is_further base) ds < length ds
    → Begins (IsBased base) (take k (d ∷ ds)) → ⊥
based_stop base d ds k e lt h =
    let b : Begins (IsBased base) (d ∷ take (suc (prefix_len (is_further base) ds)) ds) = subst (λ n. Begins (IsBased base) (take n (d ∷ ds))) e h in
    let more = take_more (is_further base) ds b.0 (suc (prefix_len (is_further base) ds)) (omega arith) b.1.1 in
    omega arith

based_stop_first : (base d : ℕ) (ds : List ℕ) (k : ℕ) → k ≡ suc zero → is_digit d base ≡ false → Begins (IsBased base) (take k (d ∷ ds)) → ⊥
based_stop_first base d ds k e digit h =
    let b : Begins (IsBased base) (d ∷ []) = subst (λ n. Begins (IsBased base) (take n (d ∷ ds))) e h in
    let first : is_digit d base ≡ true = b.1.0 in
    cc

based_right_by : (base d : ℕ) (ds : List ℕ) (b : Bool) → is_digit d base ≡ b → 0 < cond b (1 + prefix_len (is_further base) ds) 0
    → cond b (1 + prefix_len (is_further base) ds) 0 ≡ suc (length ds) → IsBased base (d ∷ ds)
based_right_by base d ds true digit more same = (digit, whole_front (is_further base) ds (omega arith))
based_right_by base d ds false digit more same = absurd (omega arith)

pub based_right : (base : ℕ) (text : List ℕ) → 0 < based_len base text → based_len base text ≡ length text → IsBased base text
based_right base [] more same = absurd (omega arith)
based_right base (d ∷ ds) more same = based_right_by base d ds (is_digit d base) refl more same

based_wrong_by : (base d : ℕ) (ds : List ℕ) (b : Bool) → is_digit d base ≡ b → 1 ≤ base
    → (0 < cond b (1 + prefix_len (is_further base) ds) 0 → cond b (1 + prefix_len (is_further base) ds) 0 ≡ suc (length ds) → ⊥)
    → IsFirstWrong (IsBased base) (d ∷ ds) (cond b (1 + prefix_len (is_further base) ds) 0)
based_wrong_by base d ds true digit b part =
    let le = prefix_len-le-length (is_further base) ds in
    record {
      within = omega arith;
      before = rw one-add (based_begin base d ds (prefix_len (is_further base) ds) digit (omega arith));
      here = λ lt h. based_stop base d ds (1 + prefix_len (is_further base) ds + 1) (omega arith) (omega arith) h;
      end = λ e f. part (omega arith) e;
    }
based_wrong_by base d ds false digit b part = record {
  within = omega arith;
  before = (48 ∷ [], (zero_digit base b, tt));
  here = λ lt h. based_stop_first base d ds (0 + 1) (omega arith) digit h;
  end = λ e f. absurd (omega arith);
}

pub based_wrong : (base : ℕ) (text : List ℕ) → 1 ≤ base
    → (0 < based_len base text → based_len base text ≡ length text → ⊥) → IsFirstWrong (IsBased base) text (based_len base text)
based_wrong base [] b part = record {
  within = (omega arith);
  before = (48 ∷ [], (zero_digit base b, tt));
  here = λ lt h. absurd (omega arith);
  end = λ e f. f;
}
based_wrong base (d ∷ ds) b part = based_wrong_by base d ds (is_digit d base) refl b part

-- The length of the right front of a text that begins with a digit.
pub based_len-digit : (base : ℕ) (text rest : List ℕ) → 1 ≤ length text → rest ≡ drop 1 text → is_digit (get_or text 0 0) base ≡ true
    → based_len base text ≡ 1 + prefix_len (is_further base) rest
based_len-digit base [] rest some e digit = absurd (omega arith)
based_len-digit base (d ∷ ds) rest some e digit = let e' : rest ≡ ds = e in let first : is_digit d base ≡ true = digit in rw (first, e') refl

-- What the answers of the three forms say.
pub decimal_answers : (text : List ℕ) (max : ℕ) → IsAnswer IsDecimal (digits_value 10 text) max text (decimal_of text max)
decimal_answers text max = answers IsDecimal (digits_len 10 19 text) (digits_value 10 text) max text (digits_right 10 19 text) (digits_wrong 10 19 text (lit≤ tt) (lit≤ tt))

pub hexadecimal_answers : (text : List ℕ) → IsAnswer IsHexadecimal (digits_value 16 text) (2 ^ 128 - 1) text (hexadecimal_of text)
hexadecimal_answers text = answers IsHexadecimal (digits_len 16 32 text) (digits_value 16 text) (2 ^ 128 - 1) text (digits_right 16 32 text) (digits_wrong 16 32 text (lit≤ tt) (lit≤ tt))

pub based_answers : (text : List ℕ) (base : ℕ) → 1 ≤ base → IsAnswer (IsBased base) (based_value base text) (2 ^ 128 - 1) text (based_of text base)
based_answers text base b = answers (IsBased base) (based_len base text) (based_value base text) (2 ^ 128 - 1) text (based_right base text) (based_wrong base text b)

-- Digits alone are their own digits.
digits_kept : (base : ℕ) (ds : List ℕ) → AllByRecursion (λ b. is_digit b base ≡ true) ds → filter (λ b. is_digit b base) ds ≡ ds
digits_kept base [] h = refl
digits_kept base (d ∷ ds) h = rw h.0 (ap (λ xs. d ∷ xs) (digits_kept base ds h.1))

-- The value matters only where the whole text is right.
answer_by : (len v w max : ℕ) (text : List ℕ) (b : Bool) → (b ≡ true → v ≡ w)
    → cond b (cond (nat_le v max) (Ok v) (Err Range)) (Err (Spelling len)) ≡ cond b (cond (nat_le w max) (Ok w) (Err Range)) (Err (Spelling len))
answer_by len v w max text true h = ap (λ n. cond (nat_le n max) (Ok n) (Err Range)) (h refl)
answer_by len v w max text false h = refl

pub hexadecimal_is : (text : List ℕ) → answer_of (digits_len 16 32 text) (based_value 16 text) (2 ^ 128 - 1) text ≡ hexadecimal_of text
hexadecimal_is text =
    answer_by (digits_len 16 32 text) (based_value 16 text) (digits_value 16 text) (2 ^ 128 - 1) text (nat_lt 0 (digits_len 16 32 text) && digits_len 16 32 text == length text)
    (λ e. let more : 0 < digits_len 16 32 text = grind (arith, nat_tests) in
    let same : digits_len 16 32 text ≡ length text = grind (arith, nat_tests) in
    let digits = digits_right 16 32 text more same in
    ap (λ ds. digits_value 16 ds) (digits_kept 16 text (digits_pass 16 text digits.0.1)))

-- 32 hexadecimal digits are below 2 ^ 128.
pub hexadecimal_fits : (text : List ℕ) → IsHexadecimal text → digits_value 16 text ≤ 2 ^ 128 - 1
hexadecimal_fits text h =
    let small = digits_value-lt 16 text h.0.1 in
    let few : 16 ^ length text ≤ 16 ^ 32 = pow-le-pow_right (lit< tt) h.1 in
    omega arith

-- The bound on the number left out.
pub without_bound : (P : Type 0) (v max : ℕ) (r : Result ℕ NumberFault) → IfOk r (λ n. P × (n ≡ v) × (n ≤ max)) → IfOk r (λ n. P × (n ≡ v))
without_bound P v max (Ok n) h = (h.0, h.1)
without_bound P v max (Err e) h = tt

-- What the check of a length passed.
passed_by : {A : Type 0} (x : A) (e : NumberFault) (b : Bool) → cond b (Ok x) (Err e) ≡ Ok x → b ≡ true
passed_by x e true h = refl
passed_by x e false h = cc

pub passed : (right len : ℕ) → cond {A = Result (Unit {0}) NumberFault} (nat_lt 0 right && right == len) (Ok tt) (Err (Spelling right)) ≡ Ok tt → (0 < right) × (right ≡ len)
passed right len h =
    let test = passed_by {A = Unit {0}} tt (Spelling right) (nat_lt 0 right && right == len) h in
    (grind (arith, nat_tests), grind (arith, nat_tests))

pub decimal_right : (right : ℕ) (text : List ℕ) → right ≡ digits_len 10 19 text → 0 < right → right ≡ length text → IsDecimal text
decimal_right right text e more same = digits_right 10 19 text (subst (λ n. 0 < n) e more) (subst (λ n. n ≡ length text) e same)
