-- The least of places.
use Rattle.std.proofs.Common.{◌≡◌, ℕ, ◌≤◌, List, [], ◌∷◌, ◌++◌, Option, None, Some, Bool, true, false, if◌then◌else◌, min, refl, sym, ap, ◌∙◌, arith}
use Rattle.vod_thin_syntax.specs.Limit.{sooner}
use Rattle.vod_thin_syntax.specs.Syntax.{Name, Mark, Named, Fixed}
use Rattle.vod_thin.specs.Signals.{names_in}
use Rattle.vod_thin.specs.Rules.{least, place_if, places_where}
use Rattle.vod_thin.specs.Tables.{Tables, fault_at, read_places, reads_wrongly}

pub sooner_none : (a : Option ℕ) → sooner a None ≡ a
sooner_none None = refl
sooner_none (Some p) = refl

min_three : (p q r : ℕ) → min (min p q) r ≡ min p (min q r)
min_three p q r = omega arith

pub sooner_assoc : (a b c : Option ℕ) → sooner (sooner a b) c ≡ sooner a (sooner b c)
sooner_assoc None b c = refl
sooner_assoc (Some p) None c = refl
sooner_assoc (Some p) (Some q) None = refl
sooner_assoc (Some p) (Some q) (Some r) = ap Some (min_three p q r)

pub least_append : (xs ys : List ℕ) → least (xs ++ ys) ≡ sooner (least xs) (least ys)
least_append [] ys = refl
least_append (x ∷ xs) ys = ap (sooner (Some x)) (least_append xs ys) ∙ sym (sooner_assoc (Some x) (least xs) (least ys))

-- what is found first, and some places more
pub least_more : (first : Option ℕ) (xs ys : List ℕ) → sooner first (least (xs ++ ys)) ≡ sooner (sooner first (least xs)) (least ys)
least_more first xs ys = ap (sooner first) (least_append xs ys) ∙ sym (sooner_assoc first (least xs) (least ys))

pub fault_least : (breaks : Bool) (name : Name) → fault_at breaks name.place ≡ least (place_if breaks name)
fault_least true name = refl
fault_least false name = refl

-- a name that may be read, and more tokens
pub read_append : (t : Tables) (mark : Mark) (marks : List Mark) → read_places t (mark ∷ marks) ≡ read_places t (mark ∷ []) ++ read_places t marks
read_append t (Named name) marks = by (reads_wrongly t name.bytes)
  where
    by : (b : Bool) → place_if b name ++ read_places t marks ≡ (place_if b name ++ []) ++ read_places t marks
    by true = refl
    by false = refl
read_append t (Fixed word) marks = refl

pub read_more : (first : Option ℕ) (t : Tables) (mark : Mark) (marks : List Mark)
    → sooner first (least (read_places t (mark ∷ marks))) ≡ sooner (sooner first (least (read_places t (mark ∷ [])))) (least (read_places t marks))
read_more first t mark marks = ap (λ ps. sooner first (least ps)) (read_append t mark marks) ∙ least_more first (read_places t (mark ∷ [])) (read_places t marks)

-- where there is no least place there is none
pub sooner_some : (a b : Option ℕ) → sooner a b ≡ None → (a ≡ None) × (b ≡ None)
sooner_some None b e = (refl, e)
sooner_some (Some p) None e = cc
sooner_some (Some p) (Some q) e = cc

pub least_none : (xs : List ℕ) → least xs ≡ None → xs ≡ []
least_none [] e = refl
least_none (x ∷ xs) e = let both = sooner_some (Some x) (least xs) e in let no : Some x ≡ None = both.0 in cc
