-- A table of names as a list of declarations.
use Rattle.std.specs.Prelude.{◌≡◌, ℕ, if◌then◌else◌, List, [], ◌∷◌, length, map, slice_get, Option, None, Some}
use Rattle.std.specs.Borrow.{Bor}
use Rattle.std.specs.Str.{bytes_eq}
use Rattle.std.specs.Map.{lookup}
use mathlib.Core.List.{reverse}
use Rattle.vod_width.specs.declared.decls.Declared.{Declared}
use Rattle.vod_width.specs.declared.decls.Entry.{Entry}
use Rattle.vod_width.specs.Names.{Declaration}

abbrev pub shown : Entry → Declaration
shown e = (e.name.now, e.declared)

-- the declarations, the last first
abbrev pub declarations : List Entry → List Declaration
declarations es = map shown (reverse es)

-- where the first of a name stands among entries that are listed from the last on, counted from the other end
abbrev pub latest : List Entry → List ℕ → Option ℕ
latest [] name = None
latest (e ∷ es) name = if bytes_eq name e.name.now then Some (length es) else latest es name

-- each entry has the place of the one that it hides
abbrev pub Linked : List Entry → Type 0
Linked [] = Unit {0}
Linked (e ∷ es) = (e.hidden ≡ latest es e.name.now) × Linked es

abbrev pub Places : Type 0
Places = List (Bor (List ℕ) × Option ℕ)

abbrev pub joined : Option (Option ℕ) → Option ℕ
joined None = None
joined (Some place) = place

-- the place of a name in a table
abbrev pub place_in : Places → List ℕ → Option ℕ
place_in places name = joined (lookup (λ (k : Bor (List ℕ)). bytes_eq name k.now) places)

abbrev pub declared_by : Option Entry → Option Declared
declared_by None = None
declared_by (Some e) = Some e.declared

abbrev pub declared_at : List Entry → Option ℕ → Option Declared
declared_at es None = None
declared_at es (Some place) = declared_by (slice_get es place)

-- a table has the place of the last entry of each name
pub record IsTable (places : Places) (es : List Entry) : Type 0 where
  pub linked : Linked (reverse es)
  pub found : (name : List ℕ) → place_in places name ≡ latest (reverse es) name
