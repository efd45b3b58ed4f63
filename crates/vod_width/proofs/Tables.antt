-- The table of names as a list of declarations.
use Rattle.std.proofs.Common.{◌≡◌, ℕ, ◌+◌, ◌-◌, ◌<◌, ◌≤◌, suc, zero, Bool, true, false, cond, List, [], ◌∷◌, ◌++◌, map, drop, length, slice_get, Option, None, Some, Bor, refl, sym, ◌∙◌, ap, subst, arith}
use Rattle.std.specs.Str.{bytes_eq}
use Rattle.std.specs.Map.{lookup}
use mathlib.Core.List.{reverse}
use Rattle.std.proofs.lemmas.List.{reverse-append, reverse-reverse, length-reverse, length-drop, drop-drop}
use Rattle.std.proofs.lemmas.Slice.Eq.{bytes_eq-Decides}
use Rattle.vod_width.specs.declared.decls.Declared.{Declared}
use Rattle.vod_width.specs.declared.decls.Entry.{Entry}
use Rattle.vod_width.specs.Names.{Declaration, declared}
use Rattle.vod_width.specs.Tables.{shown, declarations, latest, Linked, Places, joined, place_in, declared_by, declared_at, IsTable}

abbrev pub inserted : Places → Bor (List ℕ) → Option ℕ → Places
inserted [] k v = (k, v) ∷ []
inserted (e ∷ es) k v = cond (bytes_eq k.now e.0.now) ((e.0, v) ∷ es) (e ∷ inserted es k v)

same_bytes : (a b : List ℕ) → bytes_eq a b ≡ true → a ≡ b
same_bytes a b h = (bytes_eq-Decides a b).0 h

own_bytes : (a b : List ℕ) → a ≡ b → bytes_eq a b ≡ true
own_bytes a b h = (bytes_eq-Decides a b).1 h

-- the place of a name after another was put into the table
put_same : (b : Bool) (v w : Option ℕ) (rest : Option (Option ℕ)) → joined (cond b (Some v) rest) ≡ cond b v (joined (cond b (Some w) rest))
put_same true v w rest = refl
put_same false v w rest = refl

put_new : (b : Bool) (v : Option ℕ) → joined (cond b (Some v) None) ≡ cond b v None
put_new true v = refl
put_new false v = refl

put_other : (p q : Bool) (v w : Option ℕ) (new rest : Option (Option ℕ)) → (p ≡ true → q ≡ true → ⊥) → joined new ≡ cond q v (joined rest) → joined (cond p (Some w) new) ≡ cond q v (joined (cond p (Some w) rest))
put_other true true v w new rest n h = absurd (n refl refl)
put_other true false v w new rest n h = refl
put_other false q v w new rest n h = h

place_step : (b : Bool) (k : Bor (List ℕ)) (v : Option ℕ) (e : Bor (List ℕ) × Option ℕ) (es : Places) (name : List ℕ) → b ≡ bytes_eq k.now e.0.now → place_in (inserted es k v) name ≡ cond (bytes_eq name k.now) v (place_in es name)
    → place_in (cond b ((e.0, v) ∷ es) (e ∷ inserted es k v)) name ≡ cond (bytes_eq name k.now) v (place_in (e ∷ es) name)
place_step true k v e es name h ih =
    let same : k.now ≡ e.0.now = same_bytes k.now e.0.now (sym h) in
    put_same (bytes_eq name e.0.now) v e.1 (lookup (λ (k : Bor (List ℕ)). bytes_eq name k.now) es) ∙ ap (λ z. cond (bytes_eq name z) v (place_in (e ∷ es) name)) (sym same)
place_step false k v e es name h ih =
    put_other (bytes_eq name e.0.now) (bytes_eq name k.now) v e.1 (lookup (λ (k : Bor (List ℕ)). bytes_eq name k.now) (inserted es k v)) (lookup (λ (k : Bor (List ℕ)). bytes_eq name k.now) es)
    (λ p q. let r : bytes_eq k.now e.0.now ≡ true = own_bytes k.now e.0.now (sym (same_bytes name k.now q) ∙ same_bytes name e.0.now p) in let n : false ≡ true = h ∙ r in absurd (cc)) ih

pub place_inserted : (es : Places) (k : Bor (List ℕ)) (v : Option ℕ) (name : List ℕ) → place_in (inserted es k v) name ≡ cond (bytes_eq name k.now) v (place_in es name)
place_inserted [] k v name = put_new (bytes_eq name k.now) v
place_inserted (e ∷ es) k v name = place_step (bytes_eq k.now e.0.now) k v e es name refl (place_inserted es k v name)

last_first : (es : List Entry) (e : Entry) → reverse (es ++ e ∷ []) ≡ e ∷ reverse es
last_first es e = reverse-append es (e ∷ [])

-- one declaration more
pub declared_more : (es : List Entry) (e : Entry) → declarations (es ++ e ∷ []) ≡ shown e ∷ declarations es
declared_more es e = ap (map shown) (last_first es e)

pub table_more : (places : Places) (es : List Entry) (e : Entry) (n : ℕ) → IsTable places es → n ≡ length es → e.hidden ≡ place_in places e.name.now → IsTable (inserted places e.name (Some n)) (es ++ e ∷ [])
table_more places es e n t m h =
    let P : List Entry → Type 0 = Linked in record {
      linked = subst P (sym (last_first es e)) (h ∙ t.found e.name.now, t.linked);
      found = λ name.
          place_inserted places e.name (Some n) name ∙ ap (cond (bytes_eq name e.name.now) (Some n)) (t.found name)
          ∙ ap (λ k. cond (bytes_eq name e.name.now) (Some k) (latest (reverse es) name)) (m ∙ sym (length-reverse es)) ∙ ap (λ rs. latest rs name) (sym (last_first es e));
    }

-- one fewer
fewer_place : (b : Bool) (name : List ℕ) (places : Places) (es : List Entry) (e : Entry) → b ≡ bytes_eq name e.name.now → e.hidden ≡ latest es e.name.now → place_in places name ≡ cond b (Some (length es)) (latest es name)
    → cond b e.hidden (place_in places name) ≡ latest es name
fewer_place true name places es e p h f = h ∙ ap (latest es) (sym (same_bytes name e.name.now (sym p)))
fewer_place false name places es e p h f = f

pub table_fewer : (places : Places) (es : List Entry) (e : Entry) → IsTable places (es ++ e ∷ []) → IsTable (inserted places e.name e.hidden) es
table_fewer places es e t =
    let P : List Entry → Type 0 = Linked in
    let links : Linked (e ∷ reverse es) = subst P (last_first es e) t.linked in record {
      linked = links.1;
      found = λ name.
          place_inserted places e.name e.hidden name
          ∙ fewer_place (bytes_eq name e.name.now) name places (reverse es) e refl links.0 (t.found name ∙ ap (λ rs. latest rs name) (last_first es e));
    }

-- the last declaration's name is in the table
pub last_there : (places : Places) (es : List Entry) (e : Entry) → IsTable places (es ++ e ∷ []) → place_in places e.name.now ≡ Some (length (reverse es))
last_there places es e t =
    t.found e.name.now ∙ ap (λ rs. latest rs e.name.now) (last_first es e) ∙ ap (λ b. cond b (Some (length (reverse es))) (latest (reverse es) e.name.now)) (own_bytes e.name.now e.name.now refl)

-- what the last entry of a name declares is what the name stands for
get_last : (es : List Entry) (e : Entry) → slice_get (es ++ e ∷ []) (length es) ≡ Some e
get_last [] e = refl
get_last (x ∷ es) e = get_last es e

get_front : (es : List Entry) (e v : Entry) (k : ℕ) → slice_get es k ≡ Some v → slice_get (es ++ e ∷ []) k ≡ Some v
get_front [] e v k h = absurd (cc)
get_front (x ∷ es) e v zero h = h
get_front (x ∷ es) e v (suc k) h = get_front es e v k h

front_by : (es : List Entry) (e : Entry) (k : ℕ) (o : Option Entry) (d : Declared) → slice_get es k ≡ o → declared_by o ≡ Some d → declared_by (slice_get (es ++ e ∷ []) k) ≡ Some d
front_by es e k None d p h = absurd (cc)
front_by es e k (Some v) d p h = ap declared_by (get_front es e v k p) ∙ h

at_front : (es : List Entry) (e : Entry) (o : Option ℕ) (d : Option Declared) → (d ≡ None → o ≡ None) → declared_at es o ≡ d → declared_at (es ++ e ∷ []) o ≡ d
at_front es e None d n h = h
at_front es e (Some k) None n h = let no : Some k ≡ None = n refl in absurd (cc)
at_front es e (Some k) (Some d) n h = front_by es e k (slice_get es k) d refl h

found_step : (b : Bool) (es : List Entry) (e : Entry) (k : ℕ) (o : Option ℕ) (d : Option Declared) → k ≡ length es → (d ≡ None → o ≡ None) → declared_at es o ≡ d
    → declared_at (es ++ e ∷ []) (cond b (Some k) o) ≡ cond b (Some e.declared) d
found_step true es e k o d p n h = ap (λ j. declared_by (slice_get (es ++ e ∷ []) j)) p ∙ ap declared_by (get_last es e)
found_step false es e k o d p n h = at_front es e o d n h

none_step : (b : Bool) (e : Entry) (k : ℕ) (o : Option ℕ) (d : Option Declared) → (d ≡ None → o ≡ None) → cond b (Some e.declared) d ≡ None → cond b (Some k) o ≡ None
none_step true e k o d n h = absurd (cc)
none_step false e k o d n h = n h

none_found : (es : List Entry) (name : List ℕ) → declared (map shown es) name ≡ None → latest es name ≡ None
none_found [] name h = refl
none_found (e ∷ es) name h = none_step (bytes_eq name e.name.now) e (length es) (latest es name) (declared (map shown es) name) (none_found es name) h

found_from : (es : List Entry) (name : List ℕ) → declared_at (reverse es) (latest es name) ≡ declared (map shown es) name
found_from [] name = refl
found_from (e ∷ es) name =
    ap (λ xs. declared_at xs (latest (e ∷ es) name)) (reverse-append (e ∷ []) es)
    ∙ found_step (bytes_eq name e.name.now) (reverse es) e (length es) (latest es name) (declared (map shown es) name) (sym (length-reverse es)) (none_found es name) (found_from es name)

pub found_at : (places : Places) (es : List Entry) (name : List ℕ) → IsTable places es → declared_at es (place_in places name) ≡ declared (declarations es) name
found_at places es name t = ap (declared_at es) (t.found name) ∙ ap (λ xs. declared_at xs (latest (reverse es) name)) (sym (reverse-reverse es)) ∙ found_from (reverse es) name

-- some declarations taken off
pub record TakenOff (old new : List Declaration) (count : ℕ) : Type 0 where
  pub off : ℕ
  pub is : new ≡ drop off old
  pub few : off ≤ length old - count

pub none_off : (old : List Declaration) (count : ℕ) → TakenOff old old count
none_off old count = record { off = 0; is = refl; few = omega arith }

pub one_off : (old new next : List Declaration) (count : ℕ) → TakenOff old new count → count < length new → next ≡ drop 1 new → TakenOff old next count
one_off old new next count t more e = record {
  off = t.off + 1;
  is = e ∙ ap (drop 1) t.is ∙ drop-drop 1 t.off old;
  few = let n : length new ≡ length old - t.off = ap length t.is ∙ length-drop t.off old in omega (arith, more, n);
}

pub all_off : (old new : List Declaration) (count : ℕ) → TakenOff old new count → length new ≤ count → new ≡ drop (length old - count) old
all_off old new count t least =
    let n : length new ≡ length old - t.off = ap length t.is ∙ length-drop t.off old in
    let few = t.few in
    let same : t.off ≡ length old - count = omega (arith, least, n, few) in
    t.is ∙ ap (λ k. drop k old) same
