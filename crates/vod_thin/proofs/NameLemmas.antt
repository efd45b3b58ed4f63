-- Names by their texts: what a table of them answers, and a table that grows.
use Rattle.std.proofs.Common.{◌≡◌, ℕ, ◌+◌, List, [], ◌∷◌, ◌++◌, length, map, refl, sym, ap, ◌∙◌, true, false, not, Bool, cond, position, ◌||◌, if◌then◌else◌, Option, None, Some, ◌≤◌, arith, nat_lt}
use Rattle.std.specs.Borrow.{Bor}
use Rattle.std.specs.List.{position_or_len, list_any, prefix_len}
use Rattle.std.specs.Map.{keys_of, lookup}
use Rattle.std.specs.Option.{is_some, unwrap_or}
use Rattle.std.specs.Str.{bytes_eq}
use Rattle.std.proofs.lemmas.Bool.Decides.{nat_tests}
use Rattle.std.proofs.lemmas.List.Sums.{prefix_len-le-length}
use Rattle.indexmap.specs.IndexMap.{insert_entry}
use Rattle.std.proofs.lemmas.List.{length-map, map_push}
use Rattle.vod_thin.specs.declared.names.Kind.{Kind}
use Rattle.vod_thin.specs.Signals.{has_text}
use Rattle.vod_thin.specs.View.{with_text, found, with_entry}

-- a test of the elements that a list is mapped to
pub list_any-map : {X Y : Type 0} (p : Y → Bool) (f : X → Y) (xs : List X) → list_any p (map f xs) ≡ list_any (λ x. p (f x)) xs
list_any-map p f [] = refl
list_any-map p f (x ∷ xs) = ap (λ b. p (f x) || b) (list_any-map p f xs)

pub prefix_len-map : {X Y : Type 0} (p : Y → Bool) (f : X → Y) (xs : List X) → prefix_len p (map f xs) ≡ prefix_len (λ x. p (f x)) xs
prefix_len-map p f [] = refl
prefix_len-map p f (x ∷ xs) = ap (λ n. cond (p (f x)) (1 + n) 0) (prefix_len-map p f xs)

abbrev pub now_of : Bor (List ℕ) → List ℕ
now_of k = k.now

-- a table has a name where one of its keys is of this text
pub key_named : (name : List ℕ) (keys : List (Bor (List ℕ))) → list_any (λ (k : Bor (List ℕ)). bytes_eq name k.now) keys ≡ has_text (map now_of keys) name
key_named name keys = sym (list_any-map (λ (n : List ℕ). bytes_eq name n) now_of keys)

-- a key more, where it is new
pub key_added : (name : Bor (List ℕ)) (keys : List (Bor (List ℕ)))
    → map now_of (if list_any (λ (k : Bor (List ℕ)). bytes_eq name.now k.now) keys then keys else keys ++ name ∷ []) ≡ with_text (map now_of keys) name.now
key_added name keys = by_test (list_any (λ (k : Bor (List ℕ)). bytes_eq name.now k.now) keys) (has_text (map now_of keys) name.now) (key_named name.now keys)
  where
    by_test : (a b : Bool) → a ≡ b → map now_of (if a then keys else keys ++ name ∷ []) ≡ (if b then map now_of keys else map now_of keys ++ name.now ∷ [])
    by_test true true e = refl
    by_test true false e = cc
    by_test false true e = cc
    by_test false false e = map_push now_of keys name

-- a table of signals, by their texts
abbrev pub entry_of : Bor (List ℕ) × Kind → List ℕ × Kind
entry_of e = (e.0.now, e.1)

pub kind_found : (name : List ℕ) (es : List (Bor (List ℕ) × Kind)) → lookup (λ (k : Bor (List ℕ)). bytes_eq name k.now) es ≡ found (map entry_of es) name
kind_found name [] = refl
kind_found name (e ∷ es) = ap (λ o. cond (bytes_eq name e.0.now) (Some e.1) o) (kind_found name es)

pub number_found : (name : List ℕ) (es : List (Bor (List ℕ) × Kind))
    → unwrap_or (position (λ (k : Bor (List ℕ)). bytes_eq name k.now) (keys_of es)) (length es) ≡ position_or_len (λ (e : List ℕ × Kind). bytes_eq name e.0) (map entry_of es)
number_found name es =
    let mapped = prefix_len-map (λ (e : List ℕ × Kind). not (bytes_eq name e.0)) entry_of es in
    let keys = prefix_len-map (λ (k : Bor (List ℕ)). not (bytes_eq name k.now)) (λ (e : Bor (List ℕ) × Kind). e.0) es in
    or_length (λ (k : Bor (List ℕ)). bytes_eq name k.now) (keys_of es) (length es) (length-map es (λ (e : Bor (List ℕ) × Kind). e.0)) ∙ keys ∙ sym mapped
  where
    or_length : {X : Type 0} (p : X → Bool) (xs : List X) (n : ℕ) → length xs ≡ n → unwrap_or (position p xs) n ≡ position_or_len p xs
    or_length p xs n e = let within = prefix_len-le-length (λ x. not (p x)) xs in by_test (position_or_len p xs) (length xs) n e within
      where
        by_test : (i l n : ℕ) → l ≡ n → i ≤ l → unwrap_or (cond (nat_lt i l) (Some i) None) n ≡ i
        by_test i l n e w = by (nat_lt i l) refl
          where
            by : (b : Bool) → nat_lt i l ≡ b → unwrap_or (cond b (Some i) None) n ≡ i
            by true t = refl
            by false t = let ge : l ≤ i = grind (arith, nat_tests) in omega arith

-- a signal more, where its text is new
pub absent_added : (name : Bor (List ℕ)) (kind : Kind) (es : List (Bor (List ℕ) × Kind)) → is_some (lookup (λ (k : Bor (List ℕ)). bytes_eq name.now k.now) es) ≡ false
    → map entry_of (insert_entry (λ (j k : Bor (List ℕ)). bytes_eq j.now k.now) es name kind) ≡ with_entry (map entry_of es) name.now kind
absent_added name kind es e =
    let none : is_some (found (map entry_of es) name.now) ≡ false = ap is_some (sym (kind_found name.now es)) ∙ e in
    appended es e ∙ sym (ap (λ b. cond b (map entry_of es) (map entry_of es ++ (name.now, kind) ∷ [])) none)
  where
    appended : (es : List (Bor (List ℕ) × Kind)) → is_some (lookup (λ (k : Bor (List ℕ)). bytes_eq name.now k.now) es) ≡ false
        → map entry_of (insert_entry (λ (j k : Bor (List ℕ)). bytes_eq j.now k.now) es name kind) ≡ map entry_of es ++ (name.now, kind) ∷ []
    appended [] e = refl
    appended (f ∷ es) e = by (bytes_eq name.now f.0.now) e (appended es)
      where
        by : (b : Bool) → is_some (cond b (Some f.1) (lookup (λ (k : Bor (List ℕ)). bytes_eq name.now k.now) es)) ≡ false
            → (is_some (lookup (λ (k : Bor (List ℕ)). bytes_eq name.now k.now) es) ≡ false → map entry_of (insert_entry (λ (j k : Bor (List ℕ)). bytes_eq j.now k.now) es name kind) ≡ map entry_of es ++ (name.now, kind) ∷ [])
            → map entry_of (cond b ((f.0, kind) ∷ es) (f ∷ insert_entry (λ (j k : Bor (List ℕ)). bytes_eq j.now k.now) es name kind)) ≡ entry_of f ∷ (map entry_of es ++ (name.now, kind) ∷ [])
        by true h tail = cc
        by false h tail = ap (λ l. entry_of f ∷ l) (tail h)

pub present_kept : (name : Bor (List ℕ)) (kind : Kind) (es : List (Bor (List ℕ) × Kind)) → is_some (lookup (λ (k : Bor (List ℕ)). bytes_eq name.now k.now) es) ≡ true
    → map entry_of es ≡ with_entry (map entry_of es) name.now kind
present_kept name kind es e =
    let some : is_some (found (map entry_of es) name.now) ≡ true = ap is_some (sym (kind_found name.now es)) ∙ e in
    sym (ap (λ b. cond b (map entry_of es) (map entry_of es ++ (name.now, kind) ∷ [])) some)
