-- Tables of texts, and the symbols at the front.
use Rattle.std.proofs.Common.{◌≡◌, ℕ, zero, suc, ◌+◌, ◌<◌, ◌≤◌, inl, inr, List, [], ◌∷◌, ◌++◌, arith, length, take, get_or, refl, sym, ap, cond, true, false, not, ◌&&◌, ◌||◌, ◌==◌, Bool, subst, length-append}
use Rattle.std.proofs.lemmas.List.{length-take}
use Rattle.std.proofs.Math.Seq.{take-append_seam}
use Rattle.std.proofs.lemmas.Bool.Decides.{nat_tests}
use Rattle.std.specs.Cmp.Lexicographic.{pointwise, same_text, nat_list_eq_equiv}
use Rattle.std.specs.Prelude.{nat_eq, nat_le, Contains}
use Rattle.vod_token.proofs.Lists.{contains_cons, contains_here, contains_more}
use Rattle.vod_token.specs.Form.{is_white, is_letter, operators, marks}
use Rattle.vod_token.specs.Scan.{is_symbol, symbol_len}
use Rattle.vod_token.specs.Word.{is_among}
use Rattle.vod_token.proofs.Based.{starts_number}
use Rattle.vod_token.proofs.Numbers.{length-take-within}

-- The test finds a text exactly where it is there.
among_by : (text t : List ℕ) (ts : List (List ℕ)) (b : Bool) → pointwise nat_eq t text ≡ b → (b || is_among ts text) ≡ true → (is_among ts text ≡ true → Contains ts text) → Contains (t ∷ ts) text
among_by text t ts true e h more = subst (λ u. Contains (u ∷ ts) text) (sym (same_text t text (sym e))) (contains_here text ts)
among_by text t ts false e h more = contains_more t ts text (more h)

pub among_contains : (texts : List (List ℕ)) (text : List ℕ) → is_among texts text ≡ true → Contains texts text
among_contains [] text h = cc
among_contains (t ∷ ts) text h = among_by text t ts (pointwise nat_eq t text) refl h (among_contains ts text)

or_true : (b : Bool) → (b || true) ≡ true
or_true true = refl
or_true false = refl

pub contains_among : (texts : List (List ℕ)) (text : List ℕ) → Contains texts text → is_among texts text ≡ true
contains_among [] text (k, lt, e) = absurd (omega arith)
contains_among (t ∷ ts) text c =
    elim (contains_cons t ts text c) [
      | inl e ↦ rw (e, nat_list_eq_equiv.refl text) refl
      | inr more ↦ rw (contains_among ts text more) (or_true (pointwise nat_eq t text))
    ]

-- What each text of a table passes.
abbrev pub all_pass : (List ℕ → Bool) → List (List ℕ) → Bool
all_pass p [] = true
all_pass p (t ∷ ts) = p t && all_pass p ts

and_first : (b c : Bool) → (b && c) ≡ true → b ≡ true
and_first true c h = refl
and_first false c h = cc

and_second : (b c : Bool) → (b && c) ≡ true → c ≡ true
and_second true c h = h
and_second false c h = cc

pub pass_at : (p : List ℕ → Bool) (texts : List (List ℕ)) (text : List ℕ) → all_pass p texts ≡ true → Contains texts text → p text ≡ true
pass_at p [] text h (k, lt, e) = absurd (omega arith)
pass_at p (t ∷ ts) text h c =
    elim (contains_cons t ts text c) [
      | inl e ↦ subst (λ u. p u ≡ true) e (and_first (p t) (all_pass p ts) h)
      | inr more ↦ pass_at p ts text (and_second (p t) (all_pass p ts) h) more
    ]

-- A symbol has 1 to 3 bytes, and its first byte begins no other token.
abbrev is_mark_head : List ℕ → Bool
is_mark_head text =
    nat_le 1 (length text) && (nat_le (length text) 3 && (not (is_letter (get_or text 0 0)) && (not (starts_number (get_or text 0 0)) && (not (get_or text 0 0 == 96)
    && (not (is_white (get_or text 0 0)) && not (get_or text 0 0 == 47))))))

marks_pass : all_pass is_mark_head (operators ++ marks) ≡ true
marks_pass = refl

pub record SymbolHead (text : List ℕ) : Type 0 where
  pub some : 1 ≤ length text
  pub few : length text ≤ 3
  pub unlettered : is_letter (get_or text 0 0) ≡ false
  pub unnumbered : starts_number (get_or text 0 0) ≡ false
  pub unticked : (get_or text 0 0 == 96) ≡ false
  pub dark : is_white (get_or text 0 0) ≡ false
  pub unslashed : (get_or text 0 0 == 47) ≡ false

not_true : (b : Bool) → not b ≡ true → b ≡ false
not_true true h = cc
not_true false h = refl

pub symbol_head : (text : List ℕ) → Contains (operators ++ marks) text → SymbolHead text
symbol_head text c =
    let all = pass_at is_mark_head (operators ++ marks) text marks_pass c in
    let a = and_first (nat_le 1 (length text)) _ all in
    let b = and_second (nat_le 1 (length text)) _ all in
    let d = and_first (nat_le (length text) 3) _ b in
    let e = and_second (nat_le (length text) 3) _ b in
    let f = and_first (not (is_letter (get_or text 0 0))) _ e in
    let g = and_second (not (is_letter (get_or text 0 0))) _ e in
    let i = and_second (not (starts_number (get_or text 0 0))) _ g in
    let j = and_second (not (get_or text 0 0 == 96)) _ i in
    record {
      some = (let t : nat_le 1 (length text) ≡ true = a in grind (arith, nat_tests));
      few = (let t : nat_le (length text) 3 ≡ true = d in grind (arith, nat_tests));
      unlettered = not_true (is_letter (get_or text 0 0)) f;
      unnumbered = not_true (starts_number (get_or text 0 0)) (and_first (not (starts_number (get_or text 0 0))) _ g);
      unticked = not_true (get_or text 0 0 == 96) (and_first (not (get_or text 0 0 == 96)) _ i);
      dark = not_true (is_white (get_or text 0 0)) (and_first (not (is_white (get_or text 0 0))) _ j);
      unslashed = not_true (get_or text 0 0 == 47) (and_second (not (is_white (get_or text 0 0))) _ j);
    }

-- A front that is taken again.
take_again : (k : ℕ) (xs : List ℕ) → take (length (take k xs)) xs ≡ take k xs
take_again zero xs = refl
take_again (suc k) [] = refl
take_again (suc k) (x ∷ xs) = ap (λ ys. x ∷ ys) (take_again k xs)

pub record SymbolRead (bytes : List ℕ) (n : ℕ) : Type 0 where
  pub within : n ≤ length bytes
  pub symbol : Contains (operators ++ marks) (take n bytes)

front_read : (k : ℕ) (bytes : List ℕ) → is_symbol (take k bytes) ≡ true → SymbolRead bytes (length (take k bytes))
front_read k bytes h = record {
  within = length-take-within k bytes;
  symbol = subst (Contains (operators ++ marks)) (sym (take_again k bytes)) (among_contains (operators ++ marks) (take k bytes) h);
}

symbol_by : (bytes : List ℕ) (a b c : Bool) (n : ℕ) → is_symbol (take 3 bytes) ≡ a → is_symbol (take 2 bytes) ≡ b → is_symbol (take 1 bytes) ≡ c
    → cond a (length (take 3 bytes)) (cond b (length (take 2 bytes)) (cond c (length (take 1 bytes)) 0)) ≡ n → 0 < n → SymbolRead bytes n
symbol_by bytes true b c n e f g h some = subst (SymbolRead bytes) h (front_read 3 bytes e)
symbol_by bytes false true c n e f g h some = subst (SymbolRead bytes) h (front_read 2 bytes f)
symbol_by bytes false false true n e f g h some = subst (SymbolRead bytes) h (front_read 1 bytes g)
symbol_by bytes false false false n e f g h some = absurd (omega arith)

-- What is found is a symbol.
pub symbol_sound : (bytes : List ℕ) → 0 < symbol_len bytes → SymbolRead bytes (symbol_len bytes)
symbol_sound bytes some = symbol_by bytes (is_symbol (take 3 bytes)) (is_symbol (take 2 bytes)) (is_symbol (take 1 bytes)) (symbol_len bytes) refl refl refl refl some

chosen_long : (k three two one : ℕ) (a b c : Bool) → k ≤ three → (a ≡ false → k ≤ two) → (a ≡ false → b ≡ false → k ≤ one) → (a ≡ false → b ≡ false → c ≡ false → ⊥)
    → k ≤ cond a three (cond b two (cond c one 0))
chosen_long k three two one true b c p q r s = p
chosen_long k three two one false true c p q r s = q refl
chosen_long k three two one false false true p q r s = r refl refl
chosen_long k three two one false false false p q r s = absurd (s refl refl refl)

reach_by : (bytes : List ℕ) (k : ℕ) → is_symbol (take k bytes) ≡ true → 1 ≤ k → k ≤ 3 → k ≤ length bytes → k ≤ symbol_len bytes
reach_by bytes zero h some few le = absurd (omega arith)
reach_by bytes (suc zero) h some few le =
    chosen_long 1 (length (take 3 bytes)) (length (take 2 bytes)) (length (take 1 bytes)) (is_symbol (take 3 bytes)) (is_symbol (take 2 bytes)) (is_symbol (take 1 bytes))
    (rw (length-take 3 bytes) (omega arith)) (λ _. rw (length-take 2 bytes) (omega arith)) (λ _ _. rw (length-take 1 bytes) (omega arith)) (λ _ _ c. cc)
reach_by bytes (suc (suc zero)) h some few le =
    chosen_long 2 (length (take 3 bytes)) (length (take 2 bytes)) (length (take 1 bytes)) (is_symbol (take 3 bytes)) (is_symbol (take 2 bytes)) (is_symbol (take 1 bytes))
    (rw (length-take 3 bytes) (omega arith)) (λ _. rw (length-take 2 bytes) (omega arith)) (λ _ b. cc) (λ _ b _. cc)
reach_by bytes (suc (suc (suc zero))) h some few le =
    chosen_long 3 (length (take 3 bytes)) (length (take 2 bytes)) (length (take 1 bytes)) (is_symbol (take 3 bytes)) (is_symbol (take 2 bytes)) (is_symbol (take 1 bytes))
    (rw (length-take 3 bytes) (omega arith)) (λ a. cc) (λ a _. cc) (λ a _ _. cc)
reach_by bytes (suc (suc (suc (suc k)))) h some few le = absurd (omega arith)

-- What is found is at least as long as a symbol at the front.
pub symbol_reach : (text rest : List ℕ) → Contains (operators ++ marks) text → length text ≤ symbol_len (text ++ rest)
symbol_reach text rest c =
    let head = symbol_head text c in
    let some = head.some in
    let few = head.few in
    let here : is_symbol (take (length text) (text ++ rest)) ≡ true = rw take-append_seam (contains_among (operators ++ marks) text c) in
    let sum : length (text ++ rest) ≡ length text + length rest = length-append text rest in
    reach_by (text ++ rest) (length text) here some few (omega arith)
