-- Lines `ack N TIME`: which counts a text of such lines acknowledges.
use Rattle.std.proofs.Common.{◌≡◌, ◌≢◌, ℕ, zero, suc, ◌<◌, ◌≤◌, ◌+◌, ◌/◌, ◌%◌, ◌*◌, ◌^◌, ◌⊎◌, inl, inr, arith, List, [], ◌∷◌, ◌++◌, length, refl, sym, ap, ◌∙◌, subst, append_assoc}
use Rattle.std.specs.Prelude.{Bool, true, false, ◌==◌, nat_lt, if◌then◌else◌, codes}
use Rattle.std.specs.Fmt.{digits, digits_onto, digit_glyph, decimal}
use Rattle.std.specs.Str.Parse.{digits_value}
use Rattle.std.proofs.lemmas.Bool.{cases_lt}
use Rattle.std.proofs.lemmas.Bool.Decides.{nat_tests}
use Rattle.std.proofs.lemmas.Fmt.{decimal_is_IsNumeral_wide, length-decimal-le}
use Rattle.std.proofs.lemmas.List.{append-nil, append_cancel_left}
use Rattle.std.proofs.Math.Nat.{pow-suc}
use Rattle.vod_thin_design.specs.declared.thin.Vector.{Vector}
use Rattle.vod_thin_code.specs.Held.{ack, said_from, said}
use Rattle.vod_thin_store.proofs.Cuts.{Lacks, lacks-append, lacks-not, cut-first}

glyph-is : (n : ℕ) → digit_glyph false (n % 10) ≡ 48 + n % 10
glyph-is n = (let small : nat_lt (n % 10) 10 ≡ true = grind (arith, nat_tests) in ap (λ b. if b then 48 + n % 10 else (if false then 55 + n % 10 else 87 + n % 10)) small)

lacks-digits : (b : ℕ) → (b < 48) ⊎ (57 < b) → (k n : ℕ) (behind : List ℕ) → Lacks b behind → Lacks b (digits_onto k 10 false n behind)
lacks-digits b out zero n behind lacks = lacks
lacks-digits b out (suc k) n behind lacks = by_test (n / 10 == 0) (more, lacks) (lacks-digits b out k (n / 10) (digit_glyph false (n % 10) ∷ behind) (more, lacks))
  where
    outside : (b < 48) ⊎ (57 < b) → 48 + n % 10 ≢ b
    outside (inl low) = λ e. omega arith
    outside (inr high) = λ e. omega arith

    more : digit_glyph false (n % 10) ≢ b
    more = λ e. outside out (sym (glyph-is n) ∙ e)

    by_test : (t : Bool) → Lacks b (digit_glyph false (n % 10) ∷ behind) → Lacks b (digits_onto k 10 false (n / 10) (digit_glyph false (n % 10) ∷ behind)) →
        Lacks b (if t then digit_glyph false (n % 10) ∷ behind else digits_onto k 10 false (n / 10) (digit_glyph false (n % 10) ∷ behind))
    by_test true one later = one
    by_test false one later = later

-- a byte that is no digit isn't in a decimal
lacks-decimal : (b n : ℕ) → (b < 48) ⊎ (57 < b) → Lacks b (decimal n)
unfolding digits
lacks-decimal b n out = lacks-digits b out 64 n [] tt

ten-positive : (k : ℕ) → 0 < 10 ^ k
ten-positive zero = omega arith
ten-positive (suc k) = omega (arith, ten-positive k, pow-suc 10 k)

full-digits : (k n : ℕ) (behind : List ℕ) → 10 ^ k ≤ n → length (digits_onto k 10 false n behind) ≡ k + length behind
full-digits zero n behind large = omega arith
full-digits (suc k) n behind large = by_test (n / 10 == 0) refl (full-digits k (n / 10) (digit_glyph false (n % 10) ∷ behind) tens)
  where
    tens : 10 ^ k ≤ n / 10
    tens = (let power : 10 ^ suc k ≡ 10 ^ k * 10 = pow-suc 10 k in omega (arith, power))

    by_test : (t : Bool) → (n / 10 == 0) ≡ t → length (digits_onto k 10 false (n / 10) (digit_glyph false (n % 10) ∷ behind)) ≡ k + length (digit_glyph false (n % 10) ∷ behind) →
        length (if t then digit_glyph false (n % 10) ∷ behind else digits_onto k 10 false (n / 10) (digit_glyph false (n % 10) ∷ behind)) ≡ suc k + length behind
    by_test true e later = absurd (let none : n / 10 ≡ 0 = grind (arith, nat_tests) in omega (arith, tens, ten-positive k))
    by_test false e later = later ∙ omega arith

large-decimal : (n : ℕ) → 10 ^ 64 ≤ n → length (decimal n) ≡ 64
unfolding digits
large-decimal n large = full-digits 64 n [] large ∙ omega arith

same-number : (m n : ℕ) → m < 2 ^ 64 → decimal m ≡ decimal n → m ≡ n
same-number m n small same = elim (cases_lt n (10 ^ 64)) [
  | inl less ↦ sym (decimal_is_IsNumeral_wide m (omega arith)).1 ∙ ap (λ ds. digits_value 10 ds) same ∙ (decimal_is_IsNumeral_wide n less).1
  | inr large ↦ absurd (omega (arith, length-decimal-le 20 m (omega arith) (omega arith) small, large-decimal n large, ap length same))
]

-- texts that begin with a line begin with one line
same-count : (m s n t : ℕ) (rest behind : List ℕ) → m < 2 ^ 64 → ack m s ++ rest ≡ ack n t ++ behind → m ≡ n
same-count m s n t rest behind small e =
    elim (cut-first 32 (decimal m) (decimal s ++ 10 ∷ rest) (decimal n) (decimal t ++ 10 ∷ behind) (lacks-decimal 32 m (inl (omega arith)))
    (sym (numbers m s rest) ∙ append_cancel_left (codes "ack ") (((decimal m ++ 32 ∷ decimal s) ++ 10 ∷ []) ++ rest) (((decimal n ++ 32 ∷ decimal t) ++ 10 ∷ []) ++ behind) e ∙ numbers n t behind)) [
      | inl both ↦ same-number m n small (sym both.0)
      | inr more ↦ absurd (lacks-not 32 (decimal m) more.0 (subst (Lacks 32) more.1 (lacks-decimal 32 n (inl (omega arith)))))
    ]
  where
    numbers : (i j : ℕ) (xs : List ℕ) → ((decimal i ++ 32 ∷ decimal j) ++ 10 ∷ []) ++ xs ≡ decimal i ++ 32 ∷ (decimal j ++ 10 ∷ xs)
    numbers i j xs = simp append_assoc

-- a line without its LF
abbrev body : ℕ → ℕ → List ℕ
body n t = (codes "ack " ++ decimal n) ++ 32 ∷ decimal t

lacks-body : (n t : ℕ) → Lacks 10 (body n t)
lacks-body n t =
    lacks-append 10 (codes "ack " ++ decimal n) (32 ∷ decimal t)
    (lacks-append 10 (codes "ack ") (decimal n) ((λ e. omega arith), ((λ e. omega arith), ((λ e. omega arith), ((λ e. omega arith), tt)))) (lacks-decimal 10 n (inl (omega arith))))
    ((λ e. omega arith), lacks-decimal 10 t (inl (omega arith)))

-- a line begins with an `a`, and has no other
abbrev pub behind_a : ℕ → ℕ → List ℕ
behind_a n t = ((99 ∷ 107 ∷ 32 ∷ decimal n) ++ 32 ∷ decimal t) ++ 10 ∷ []

pub lacks-a : (n t : ℕ) → Lacks 97 (behind_a n t)
lacks-a n t =
    lacks-append 97 ((99 ∷ 107 ∷ 32 ∷ decimal n) ++ 32 ∷ decimal t) (10 ∷ [])
    (lacks-append 97 (99 ∷ 107 ∷ 32 ∷ decimal n) (32 ∷ decimal t) ((λ e. omega arith), ((λ e. omega arith), ((λ e. omega arith), lacks-decimal 97 n (inr (omega arith)))))
    ((λ e. omega arith), lacks-decimal 97 t (inr (omega arith))))
    ((λ e. omega arith), tt)

-- lines of these counts and times
abbrev pub lines : List (ℕ × ℕ) → List ℕ
lines [] = []
lines (p ∷ ps) = ack p.0 p.1 ++ lines ps

-- no count is above this one
abbrev pub AtMost : ℕ → List (ℕ × ℕ) → Type 0
AtMost most [] = Unit {0}
AtMost most (p ∷ ps) = (p.0 ≤ most) × AtMost most ps

-- a text is of lines, of which no count is above this one
pub record AreLines (most : ℕ) (text : List ℕ) : Type 0 where
  pub counts : List (ℕ × ℕ)
  pub is : text ≡ lines counts
  pub at_most : AtMost most counts

said-lines : (held fresh last : ℕ) (vs : List Vector) → AreLines (held + length vs) (said_from held fresh last vs)
said-lines held fresh last [] = by_test (fresh == 0)
  where
    by_test : (b : Bool) → AreLines (held + 0) (if b then [] else ack held last)
    by_test true = record { counts = []; is = refl; at_most = tt }
    by_test false = record { counts = (held, last) ∷ []; is = sym (append-nil (ack held last)); at_most = (omega arith, tt) }
said-lines held fresh last (v ∷ vs) = by_test (fresh + 1 == 64) (said-lines (held + 1) 0 v.time vs) (said-lines (held + 1) (fresh + 1) v.time vs)
  where
    count : held + 1 + length vs ≡ held + length (v ∷ vs)
    count = omega arith

    by_test : (b : Bool) → AreLines (held + 1 + length vs) (said_from (held + 1) 0 v.time vs) → AreLines (held + 1 + length vs) (said_from (held + 1) (fresh + 1) v.time vs) →
        AreLines (held + length (v ∷ vs)) (if b then ack (held + 1) v.time ++ said_from (held + 1) 0 v.time vs else said_from (held + 1) (fresh + 1) v.time vs)
    by_test true full open_is = record {
      counts = (held + 1, v.time) ∷ full.counts;
      is = ap (λ xs. ack (held + 1) v.time ++ xs) full.is;
      at_most = (omega arith, subst (λ m. AtMost m full.counts) count full.at_most);
    }
    by_test false full open_is = record { counts = open_is.counts; is = open_is.is; at_most = subst (λ m. AtMost m open_is.counts) count open_is.at_most }

pub all-lines : (vs : List Vector) → AreLines (length vs) (said vs)
all-lines vs = (let count : 0 + length vs ≡ length vs = omega arith in subst (λ m. AreLines m (said vs)) count (said-lines 0 0 0 vs))

-- a line begins behind this text
abbrev pub Starts : List ℕ → Type 0
Starts front = (front ≡ []) ⊎ ((before : List ℕ) × (front ≡ before ++ 10 ∷ []))

none-there : (front : List ℕ) (n t : ℕ) (behind : List ℕ) → [] ≡ front ++ (ack n t ++ behind) → ⊥
none-there [] n t behind e = cc
none-there (x ∷ front) n t behind e = cc

-- a line in lines is one of them
pub line-there : (ps : List (ℕ × ℕ)) (most : ℕ) → most < 2 ^ 64 → AtMost most ps → (front : List ℕ) (n t : ℕ) (behind : List ℕ) → Starts front → lines ps ≡ front ++ (ack n t ++ behind) → n ≤ most
line-there [] most small at_most front n t behind starts e = absurd (none-there front n t behind e)
line-there (p ∷ ps) most small at_most front n t behind starts e = elim starts [
  | inl none ↦ (
      let here : ack p.0 p.1 ++ lines ps ≡ ack n t ++ behind = e ∙ ap (λ xs. xs ++ (ack n t ++ behind)) none in
      let same : p.0 ≡ n = same-count p.0 p.1 n t (lines ps) behind (omega (arith, at_most.0)) here in
      omega (arith, at_most.0))
  | inr before ↦
      elim (cut-first 10 (body p.0 p.1) (lines ps) before.0 (ack n t ++ behind) (lacks-body p.0 p.1)
      (sym (append_assoc (body p.0 p.1) (10 ∷ []) (lines ps)) ∙ e ∙ ap (λ xs. xs ++ (ack n t ++ behind)) before.1 ∙ append_assoc before.0 (10 ∷ []) (ack n t ++ behind))) [
        | inl both ↦ line-there ps most small at_most.1 [] n t behind (inl refl) (sym both.1)
        | inr later ↦ line-there ps most small at_most.1 (later.0 ++ 10 ∷ []) n t behind (inr (later.0, refl)) (later.2 ∙ sym (append_assoc later.0 (10 ∷ []) (ack n t ++ behind)))
      ]
]
