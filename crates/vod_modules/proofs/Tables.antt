-- A table of names, one more at a time.
use Rattle.std.proofs.Common.{◌≡◌, ℕ, suc, ◌+◌, ◌≤◌, ◌<◌, Bool, true, false, cond, if◌then◌else◌, List, [], ◌∷◌, ◌++◌, length, take, get_or, Option, None, Some, Bor, refl, sym, ◌∙◌, ap, arith, zero-add}
use Rattle.std.specs.Str.{bytes_eq}
use Rattle.std.proofs.lemmas.List.{append-nil, length-append, take_all}
use Rattle.vod_tree.specs.declared.«module».Module.{Module}
use Rattle.vod_tree.specs.declared.«module».SourceItem.{SourceItem}
use Rattle.vod_modules.specs.Names.{Numbers, number_in, number_from, number_of, numbered, names_in, name_in, module_in}
use Rattle.vod_modules.proofs.Growing.{flat_more}

abbrev pub inserted : Numbers → Bor (List ℕ) → ℕ → Numbers
inserted [] k v = (k, v) ∷ []
inserted (e ∷ es) k v = cond (bytes_eq k.now e.0.now) ((e.0, v) ∷ es) (e ∷ inserted es k v)

put : (t : Bool) (j : ℕ) (a b : Option ℕ) (s : Bool) (v : ℕ) → a ≡ numbered b s v → cond t (Some j) a ≡ numbered (cond t (Some j) b) s v
put true j a b s v h = refl
put false j a b s v h = h

put_first : (s : Bool) (v : ℕ) → cond s (Some v) None ≡ numbered None s v
put_first true v = refl
put_first false v = refl

step : (b : Bool) (e : Bor (List ℕ) × ℕ) (es : Numbers) (k : Bor (List ℕ)) (v : ℕ) (x : List ℕ) → cond b (Some e.1) (number_in es k.now) ≡ None
    → (number_in es k.now ≡ None → number_in (inserted es k v) x ≡ numbered (number_in es x) (bytes_eq x k.now) v)
    → number_in (cond b ((e.0, v) ∷ es) (e ∷ inserted es k v)) x ≡ numbered (number_in (e ∷ es) x) (bytes_eq x k.now) v
step true e es k v x h ih = absurd (let n : Some e.1 ≡ None = h in cc)
step false e es k v x h ih = put (bytes_eq x e.0.now) e.1 (number_in (inserted es k v) x) (number_in es x) (bytes_eq x k.now) v (ih h)

pub number_inserted : (es : Numbers) (k : Bor (List ℕ)) (v : ℕ) (x : List ℕ) → number_in es k.now ≡ None → number_in (inserted es k v) x ≡ numbered (number_in es x) (bytes_eq x k.now) v
number_inserted [] k v x h = put_first (bytes_eq x k.now) v
number_inserted (e ∷ es) k v x h = step (bytes_eq k.now e.0.now) e es k v x h (λ n. number_inserted es k v x n)

-- the number of a name, behind one name more
push_if : (b t : Bool) (k m : ℕ) (a c : Option ℕ) → a ≡ numbered c t m → (if b then Some k else a) ≡ numbered (if b then Some k else c) t m
push_if true t k m a c h = refl
push_if false t k m a c h = h

first_if : (t : Bool) (k m : ℕ) → k ≡ m → (if t then Some k else None) ≡ numbered None t m
first_if true k m h = ap Some h
first_if false k m h = refl

pub number_push : (k : ℕ) (ns : List (List ℕ)) (n x : List ℕ) → number_from k (ns ++ n ∷ []) x ≡ numbered (number_from k ns x) (bytes_eq x n) (k + length ns)
number_push k [] n x = first_if (bytes_eq x n) k (k + 0) (omega arith)
number_push k (y ∷ ns) n x =
    push_if (bytes_eq x y) (bytes_eq x n) k (k + length (y ∷ ns)) (number_from (suc k) (ns ++ n ∷ []) x) (number_from (suc k) ns x)
    (number_push (suc k) ns n x ∙ ap (λ m. numbered (number_from (suc k) ns x) (bytes_eq x n) m) (omega arith))

-- a part of a source more, with a module or without
pub names_module : (parts : List SourceItem) (i : ℕ) (d : SourceItem) (m : Module) → i < length parts → module_in (get_or parts i d) ≡ Some m → names_in (take (i + 1) parts) ≡ names_in (take i parts) ++ m.name.name ∷ []
names_module parts i d m lt is = flat_more (λ x. name_in (module_in x)) parts i d lt ∙ ap (λ o. names_in (take i parts) ++ name_in o) is

pub names_other : (parts : List SourceItem) (i : ℕ) (d : SourceItem) → i < length parts → module_in (get_or parts i d) ≡ None → names_in (take (i + 1) parts) ≡ names_in (take i parts)
names_other parts i d lt is = flat_more (λ x. name_in (module_in x)) parts i d lt ∙ ap (λ o. names_in (take i parts) ++ name_in o) is ∙ append-nil (names_in (take i parts))

-- what the table keeps
abbrev pub Kept : List SourceItem → ℕ → ℕ → Numbers → Type 0
Kept parts i count numbers = (count ≤ i) × (count ≡ length (names_in (take i parts))) × ((x : List ℕ) → number_in numbers x ≡ number_of (take i parts) x)

pub kept_module : (parts : List SourceItem) (i : ℕ) (d : SourceItem) (m : Module) (count more : ℕ) (old new : Numbers) (name : List ℕ) → i < length parts → module_in (get_or parts i d) ≡ Some m → name ≡ m.name.name → more ≡ count + 1
    → Kept parts i count old → ((x : List ℕ) → number_in new x ≡ numbered (number_in old x) (bytes_eq x name) count) → Kept parts (i + 1) more new
kept_module parts i d m count more old new name lt is named sum kept added =
    let names = names_module parts i d m lt is in
    let size = ap length names in
    let long : length (names_in (take i parts) ++ m.name.name ∷ []) ≡ length (names_in (take i parts)) + 1 = length-append (names_in (take i parts)) (m.name.name ∷ []) in (
      omega (arith, kept.0, sum),
      omega (arith, kept.1, sum, size, long),
      λ x.
          added x ∙ ap (λ o. numbered o (bytes_eq x name) count) (kept.2 x) ∙ ap (λ n. numbered (number_of (take i parts) x) (bytes_eq x n) count) named
          ∙ ap (λ c. numbered (number_of (take i parts) x) (bytes_eq x m.name.name) c) (kept.1 ∙ sym (zero-add (length (names_in (take i parts)))))
          ∙ sym (number_push 0 (names_in (take i parts)) m.name.name x) ∙ ap (λ ns. number_from 0 ns x) (sym names),
    )

pub kept_other : (parts : List SourceItem) (i : ℕ) (d : SourceItem) (count more : ℕ) (old new : Numbers) → i < length parts → module_in (get_or parts i d) ≡ None → more ≡ count → Kept parts i count old → ((x : List ℕ) → number_in new x ≡ number_in old x) → Kept parts (i + 1) more new
kept_other parts i d count more old new lt is same kept held =
    let names = names_other parts i d lt is in
    (omega (arith, kept.0, same), same ∙ kept.1 ∙ ap length (sym names), λ x. held x ∙ kept.2 x ∙ ap (λ ns. number_from 0 ns x) (sym names))

pub kept_all : (parts : List SourceItem) (i count : ℕ) (numbers : Numbers) → length parts ≤ i → Kept parts i count numbers → number_in numbers ≡ number_of parts
kept_all parts i count numbers all kept = let h : (x : List ℕ) → number_in numbers x ≡ number_of parts x = λ x. kept.2 x ∙ ap (λ ps. number_of ps x) (take_all i parts all) in λ j x. h x j
