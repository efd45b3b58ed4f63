-- Where no place is at fault, each name is declared once.
use Rattle.std.proofs.Common.{◌≡◌, ◌⊎◌, ℕ, Bool, true, false, not, Option, None, Some, List, [], ◌∷◌, ◌++◌, flat_map, inl, inr, refl, sym, ◌∙◌, ap, append_assoc}
use Rattle.std.proofs.lemmas.Grind.{flat_map-append}
use Rattle.vod_tree.specs.declared.module.SourceItem.TheVariants as part
use Rattle.vod_tree.specs.declared.module.Tree.{Tree}
use Rattle.vod_places.specs.Places.{least, sooner, place_if, each_after}
use Rattle.vod_names.specs.declared.entry.Declaration.{Declaration}
use Rattle.vod_names.specs.Entries.{Named, last_of}
use Rattle.vod_names.specs.Lists.{declarations}
use Rattle.vod_declared.specs.Faults.{completes, is_repeated, declared_again, name_faults, port_faults, item_faults, module_faults, source_faults, declaration_faults, signed_ram}
use Rattle.vod_declared.specs.Once.{AreOnce, OfModules}

no_front : (xs ys : List ℕ) → xs ++ ys ≡ [] → xs ≡ []
no_front [] ys h = refl
no_front (x ∷ xs) ys h = absurd (cc)

no_rest : (xs ys : List ℕ) → xs ++ ys ≡ [] → ys ≡ []
no_rest [] ys h = h
no_rest (x ∷ xs) ys h = absurd (cc)

there : (p : ℕ) (o : Option ℕ) → sooner (Some p) o ≡ None → ⊥
there p None h = absurd (cc)
there p (Some q) h = absurd (cc)

least_none : (ps : List ℕ) → least ps ≡ None → ps ≡ []
least_none [] h = refl
least_none (p ∷ ps) h = absurd (there p (least ps) h)

end : {A : Type 0} (xs : List A) → xs ≡ xs ++ []
end [] = refl
end (x ∷ xs) = ap (λ ys. x ∷ ys) (end xs)

-- nothing at an item, after all before it
none_at : {A : Type 0} (f : List A → A → List ℕ) (earlier before : List A) (d : A) (after : List A) → each_after f earlier (before ++ d ∷ after) ≡ [] → f (earlier ++ before) d ≡ []
none_at f earlier [] d after h = ap (λ xs. f xs d) (sym (end earlier)) ∙ no_front (f earlier d) (each_after f (earlier ++ d ∷ []) after) h
none_at f earlier (x ∷ xs) d after h =
    ap (λ ys. f ys d) (sym (append_assoc earlier (x ∷ []) xs))
    ∙ none_at f (earlier ++ x ∷ []) xs d after (no_rest (f earlier x) (each_after f (earlier ++ x ∷ []) (xs ++ d ∷ after)) h)

not_there : (b : Bool) (p : ℕ) → place_if b p ≡ [] → b ≡ false
not_there true p h = absurd (cc)
not_there false p h = refl

was_true : (b : Bool) → not b ≡ false → b ≡ true
was_true true h = refl
was_true false h = absurd (cc)

fine : (o : Option Declaration) (d : Declaration) → is_repeated o d ≡ false → (o ≡ None) ⊎ ((e : Declaration) × ((o ≡ Some e) × (completes e d ≡ true)))
fine None d h = inl refl
fine (Some e) d h = inr (e, (refl, was_true (completes e d) h))

once : (ds : List Named) → each_after declared_again [] ds ≡ [] → AreOnce ds
once ds h before d after is =
    let none : declared_again before d ≡ [] = none_at declared_again [] before d after (ap (each_after declared_again []) (sym is) ∙ h) in
    fine (last_of d.0 before) d.1 (not_there (is_repeated (last_of d.0 before) d.1) d.1.place none)

-- nothing at an item of a list
none_of : {A : Type 0} (f : A → List ℕ) (before : List A) (x : A) (after : List A) → flat_map f (before ++ x ∷ after) ≡ [] → f x ≡ []
none_of f before x after h =
    no_front (f x) (flat_map f after) (no_rest (flat_map f before) (f x ++ flat_map f after) (sym (flat_map-append f before (x ∷ after)) ∙ h))

pub modules_once : (t : Tree) → least (declaration_faults t) ≡ None → OfModules t AreOnce
modules_once t h before m after is =
    let all : flat_map source_faults t.items ≡ [] = least_none (declaration_faults t) h in
    let own : module_faults m ≡ [] = none_of source_faults before (part.Module m) after (ap (flat_map source_faults) (sym is) ∙ all) in
    let names : name_faults m ≡ [] = no_front (name_faults m) (port_faults m ++ flat_map item_faults m.items) own in
    once (declarations m) (no_front (each_after declared_again [] (declarations m)) (flat_map signed_ram (declarations m)) names)
