-- A table after one more entry.
use Rattle.std.proofs.Common.{◌≡◌, ℕ, suc, Bool, true, false, cond, List, [], ◌∷◌, ◌++◌, length, Option, None, Some, Bor, refl, sym, ◌∙◌, ap}
use Rattle.std.specs.Str.{bytes_eq}
use Rattle.std.specs.Option.{option_or, option_map}
use Rattle.std.proofs.lemmas.Slice.Eq.{bytes_eq-Decides}
use Rattle.vod_names.specs.declared.entry.Declaration.{Declaration}
use Rattle.vod_names.specs.declared.names.Known.{Known}
use Rattle.vod_names.specs.Entries.{Named, first_of, last_of, number_of}
use Rattle.vod_names.specs.Tables.{Places, known_in, known_after, IsTable}

abbrev pub inserted : Places → Bor (List ℕ) → Known → Places
inserted [] k v = (k, v) ∷ []
inserted (e ∷ es) k v = cond (bytes_eq k.now e.0.now) ((e.0, v) ∷ es) (e ∷ inserted es k v)

same_bytes : (a b : List ℕ) → bytes_eq a b ≡ true → a ≡ b
same_bytes a b h = (bytes_eq-Decides a b).0 h

own_bytes : (a b : List ℕ) → a ≡ b → bytes_eq a b ≡ true
own_bytes a b h = (bytes_eq-Decides a b).1 h

put_same : (b : Bool) (v w : Known) (rest : Option Known) → cond b (Some v) rest ≡ cond b (Some v) (cond b (Some w) rest)
put_same true v w rest = refl
put_same false v w rest = refl

put_other : (p q : Bool) (v w : Known) (new rest : Option Known) → (p ≡ true → q ≡ true → ⊥) → new ≡ cond q (Some v) rest → cond p (Some w) new ≡ cond q (Some v) (cond p (Some w) rest)
put_other true true v w new rest n h = absurd (n refl refl)
put_other true false v w new rest n h = refl
put_other false q v w new rest n h = h

place_step : (b : Bool) (k : Bor (List ℕ)) (v : Known) (e : Bor (List ℕ) × Known) (es : Places) (name : List ℕ) → b ≡ bytes_eq k.now e.0.now → known_in (inserted es k v) name ≡ cond (bytes_eq name k.now) (Some v) (known_in es name)
    → known_in (cond b ((e.0, v) ∷ es) (e ∷ inserted es k v)) name ≡ cond (bytes_eq name k.now) (Some v) (known_in (e ∷ es) name)
place_step true k v e es name h ih =
    let same : k.now ≡ e.0.now = same_bytes k.now e.0.now (sym h) in
    put_same (bytes_eq name e.0.now) v e.1 (known_in es name) ∙ ap (λ z. cond (bytes_eq name z) (Some v) (known_in (e ∷ es) name)) (sym same)
place_step false k v e es name h ih =
    put_other (bytes_eq name e.0.now) (bytes_eq name k.now) v e.1 (known_in (inserted es k v) name) (known_in es name)
    (λ p q. let r : bytes_eq k.now e.0.now ≡ true = own_bytes k.now e.0.now (sym (same_bytes name k.now q) ∙ same_bytes name e.0.now p) in let n : false ≡ true = h ∙ r in absurd (cc)) ih

pub place_inserted : (es : Places) (k : Bor (List ℕ)) (v : Known) (name : List ℕ) → known_in (inserted es k v) name ≡ cond (bytes_eq name k.now) (Some v) (known_in es name)
place_inserted [] k v name = refl
place_inserted (e ∷ es) k v name = place_step (bytes_eq k.now e.0.now) k v e es name refl (place_inserted es k v name)

-- what a list says of a name after one more entry
first_step : (b : Bool) (d : Declaration) (o p q : Option Declaration) → p ≡ option_or o q → cond b (Some d) p ≡ option_or (cond b (Some d) o) q
first_step true d o p q h = refl
first_step false d o p q h = h

first_more : (name : List ℕ) (ds : List Named) (e : Named) → first_of name (ds ++ e ∷ []) ≡ option_or (first_of name ds) (cond (bytes_eq name e.0) (Some e.1) None)
first_more name [] e = refl
first_more name (d ∷ ds) e = first_step (bytes_eq name d.0) d.1 (first_of name ds) (first_of name (ds ++ e ∷ [])) (cond (bytes_eq name e.0) (Some e.1) None) (first_more name ds e)

last_step : (b : Bool) (d : Declaration) (o q : Option Declaration) → option_or (cond b (Some d) o) q ≡ cond b (Some d) (option_or o q)
last_step true d o q = refl
last_step false d o q = refl

last_none : (b : Bool) (d : Declaration) → option_or None (cond b (Some d) None) ≡ cond b (Some d) None
last_none b d = refl

last_more : (name : List ℕ) (ds : List Named) (e : Named) → last_of name (ds ++ e ∷ []) ≡ cond (bytes_eq name e.0) (Some e.1) (last_of name ds)
last_more name [] e = refl
last_more name (d ∷ ds) e =
    ap (λ o. option_or o (cond (bytes_eq name d.0) (Some d.1) None)) (last_more name ds e)
    ∙ last_step (bytes_eq name e.0) e.1 (last_of name ds) (cond (bytes_eq name d.0) (Some d.1) None)

number_step : (b q : Bool) (n : ℕ) (o p : Option ℕ) → p ≡ option_or o (cond q (Some n) None) → cond b (Some 0) (option_map suc p) ≡ option_or (cond b (Some 0) (option_map suc o)) (cond q (Some (suc n)) None)
number_step true q n o p h = refl
number_step false q n (Some k) p h = ap (option_map suc) h
number_step false true n None p h = ap (option_map suc) h
number_step false false n None p h = ap (option_map suc) h

number_more : (name : List ℕ) (ds : List Named) (e : Named) → number_of name (ds ++ e ∷ []) ≡ option_or (number_of name ds) (cond (bytes_eq name e.0) (Some (length ds)) None)
number_more name [] e = refl
number_more name (d ∷ ds) e = number_step (bytes_eq name d.0) (bytes_eq name e.0) (length ds) (number_of name ds) (number_of name (ds ++ e ∷ [])) (number_more name ds e)

-- a field of what is known, after one more entry
first_known : (b : Bool) (o own : Option Known) (n : ℕ) (d : Declaration) → (b ≡ true → own ≡ o) → option_map (λ (k : Known). k.first) (cond b (Some (known_after own n d)) o) ≡ option_or (option_map (λ (k : Known). k.first) o) (cond b (Some d) None)
first_known false None own n d h = refl
first_known false (Some k) own n d h = refl
first_known true None own n d h = ap (λ x. Some (known_after x n d).first) (h refl)
first_known true (Some k) own n d h = ap (λ x. Some (known_after x n d).first) (h refl)

last_known : (b : Bool) (o own : Option Known) (n : ℕ) (d : Declaration) → option_map (λ (k : Known). k.last) (cond b (Some (known_after own n d)) o) ≡ cond b (Some d) (option_map (λ (k : Known). k.last) o)
last_known false o own n d = refl
last_known true o None n d = refl
last_known true o (Some k) n d = refl

number_known : (b : Bool) (o own : Option Known) (n : ℕ) (d : Declaration) → (b ≡ true → own ≡ o) → option_map (λ (k : Known). k.number) (cond b (Some (known_after own n d)) o) ≡ option_or (option_map (λ (k : Known). k.number) o) (cond b (Some n) None)
number_known false None own n d h = refl
number_known false (Some k) own n d h = refl
number_known true None own n d h = ap (λ x. Some (known_after x n d).number) (h refl)
number_known true (Some k) own n d h = ap (λ x. Some (known_after x n d).number) (h refl)

own_known : (places : Places) (k : Bor (List ℕ)) (name : List ℕ) → bytes_eq name k.now ≡ true → known_in places k.now ≡ known_in places name
own_known places k name h = ap (known_in places) (sym (same_bytes name k.now h))

pub table_more : (places : Places) (ds : List Named) (k : Bor (List ℕ)) (n : ℕ) (d : Declaration) (v : Known) → IsTable places ds → n ≡ length ds → v ≡ known_after (known_in places k.now) n d
    → IsTable (inserted places k v) (ds ++ (k.now, d) ∷ [])
table_more places ds k n d v t m is = record {
  firsts = λ name.
      ap (option_map (λ (k : Known). k.first)) (place_inserted places k v name ∙ ap (λ x. cond (bytes_eq name k.now) (Some x) (known_in places name)) is)
      ∙ first_known (bytes_eq name k.now) (known_in places name) (known_in places k.now) n d (own_known places k name)
      ∙ ap (λ o. option_or o (cond (bytes_eq name k.now) (Some d) None)) (t.firsts name)
      ∙ sym (first_more name ds (k.now, d));
  lasts = λ name.
      ap (option_map (λ (k : Known). k.last)) (place_inserted places k v name ∙ ap (λ x. cond (bytes_eq name k.now) (Some x) (known_in places name)) is)
      ∙ last_known (bytes_eq name k.now) (known_in places name) (known_in places k.now) n d
      ∙ ap (cond (bytes_eq name k.now) (Some d)) (t.lasts name)
      ∙ sym (last_more name ds (k.now, d));
  numbers = λ name.
      ap (option_map (λ (k : Known). k.number)) (place_inserted places k v name ∙ ap (λ x. cond (bytes_eq name k.now) (Some x) (known_in places name)) is)
      ∙ number_known (bytes_eq name k.now) (known_in places name) (known_in places k.now) n d (own_known places k name)
      ∙ ap (λ o. option_or o (cond (bytes_eq name k.now) (Some n) None)) (t.numbers name)
      ∙ ap (λ j. option_or (number_of name ds) (cond (bytes_eq name k.now) (Some j) None)) m
      ∙ sym (number_more name ds (k.now, d));
}
