-- What a `case` takes is what is taken with the item of the number that it takes.
use Rattle.std.proofs.Common.{◌≡◌, ℕ, suc, Bool, true, false, if◌then◌else◌, List, [], ◌∷◌, ◌++◌, map, flat_map, slice_get, Option, None, Some, option_map, option_and_then, refl, ap, sym, ◌∙◌}
use Rattle.vod_bits.specs.Bit.{Bit}
use Rattle.vod_design.specs.declared.sized.SizedExpr.{SizedExpr}
use Rattle.vod_design.specs.declared.statement.CaseItem.{CaseItem}
use Rattle.vod_design.specs.Values.{Operand}
use Rattle.vod_design.specs.Run.{Choice, compared_in, at_largest, has_label, first_branch, case_branch, numbered, item_taken}

-- what is taken with an item, or else
abbrev pub body_of : {B : Type 0} → (CaseItem → Choice B) → Option CaseItem → B → B
body_of f None otherwise = otherwise
body_of f (Some item) otherwise = (f item).body

-- numbers from one more up
later : (n : ℕ) (b : Bool) (more rest : Option ℕ) → more ≡ option_map suc rest → (if b then Some (suc n) else more) ≡ option_map suc (if b then Some n else rest)
later n true more rest h = refl
later n false more rest h = h

shifted : (value : SizedExpr → List Bit) (tested : List Bit) (n : ℕ) (items : List CaseItem)
    → first_branch value tested (numbered (suc n) items) None ≡ option_map suc (first_branch value tested (numbered n items) None)
shifted value tested n [] = refl
shifted value tested n (item ∷ more) =
    later n (has_label value tested item.labels) (first_branch value tested (numbered (suc (suc n)) more) None) (first_branch value tested (numbered (suc n) more) None) (shifted value tested (suc n) more)

behind : (item : CaseItem) (more : List CaseItem) (n : Option ℕ) → option_and_then (slice_get more) n ≡ option_and_then (slice_get (item ∷ more)) (option_map suc n)
behind item more None = refl
behind item more (Some n) = refl

step : {B : Type 0} (f : CaseItem → Choice B) (item : CaseItem) (more : List CaseItem) (otherwise rest : B) (b : Bool) (n m : Option ℕ) → rest ≡ body_of f (option_and_then (slice_get more) n) otherwise → m ≡ option_map suc n
    → (if b then (f item).body else rest) ≡ body_of f (option_and_then (slice_get (item ∷ more)) (if b then Some 0 else m)) otherwise
step f item more otherwise rest true n m h e = refl
step f item more otherwise rest false n m h e =
    h ∙ ap (λ o. body_of f o otherwise) (behind item more n) ∙ ap (λ k. body_of f (option_and_then (slice_get (item ∷ more)) k) otherwise) (sym e)

pub first_by_number : {B : Type 0} (value : SizedExpr → List Bit) (tested : List Bit) (f : CaseItem → Choice B) → ((item : CaseItem) → (f item).labels ≡ item.labels) → (items : List CaseItem) (otherwise : B)
    → first_branch value tested (map f items) otherwise ≡ body_of f (option_and_then (slice_get items) (first_branch value tested (numbered 0 items) None)) otherwise
first_by_number value tested f h [] otherwise = refl
first_by_number value tested f h (item ∷ more) otherwise =
    ap (λ ls. if has_label value tested ls then (f item).body else first_branch value tested (map f more) otherwise) (h item)
    ∙ step f item more otherwise (first_branch value tested (map f more) otherwise) (has_label value tested item.labels) (first_branch value tested (numbered 0 more) None) (first_branch value tested (numbered 1 more) None)
    (first_by_number value tested f h more otherwise) (shifted value tested 0 more)

-- the labels of the items, whatever is taken with them
labels_of_choices : {B : Type 0} (f : CaseItem → Choice B) → ((item : CaseItem) → (f item).labels ≡ item.labels) → (items : List CaseItem)
    → flat_map (λ (c : Choice B). c.labels) (map f items) ≡ flat_map (λ (item : CaseItem). item.labels) items
labels_of_choices f h [] = refl
labels_of_choices f h (item ∷ more) =
    ap (λ ls. ls ++ flat_map (λ c. c.labels) (map f more)) (h item) ∙ ap (λ ls. item.labels ++ ls) (labels_of_choices f h more)

pub labels_of_numbered : (n : ℕ) (items : List CaseItem) → flat_map (λ (c : Choice (Option ℕ)). c.labels) (numbered n items) ≡ flat_map (λ (item : CaseItem). item.labels) items
labels_of_numbered n [] = refl
labels_of_numbered n (item ∷ more) = ap (λ ls. item.labels ++ ls) (labels_of_numbered (suc n) more)

-- what a `case` takes, by the number of the item that it takes
pub case_by_number : {B : Type 0} (value : SizedExpr → Operand) (tested : SizedExpr) (f : CaseItem → Choice B) → ((item : CaseItem) → (f item).labels ≡ item.labels) → (items : List CaseItem) (otherwise : B)
    → case_branch value tested (map f items) otherwise ≡ body_of f (option_and_then (slice_get items) (item_taken value tested items)) otherwise
case_by_number value tested f h items otherwise =
    let es = compared_in tested (numbered 0 items) in
    let same : compared_in tested (map f items) ≡ es = ap (λ ls. tested ∷ ls) (labels_of_choices f h items ∙ sym (labels_of_numbered 0 items)) in
    ap (λ ls. first_branch (λ e. at_largest ls (value e).bits) (at_largest ls (value tested).bits) (map f items) otherwise) same
    ∙ first_by_number (λ e. at_largest es (value e).bits) (at_largest es (value tested).bits) f h items otherwise
