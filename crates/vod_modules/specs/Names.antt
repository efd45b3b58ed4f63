-- The modules of a source and their names (IEEE 1364-2005, 12.1).
use Rattle.std.specs.Prelude.{ℕ, suc, Bool, List, [], ◌∷◌, Option, None, Some, flat_map, bytes_eq, if◌then◌else◌}
use Rattle.std.specs.Borrow.{Bor}
use Rattle.std.specs.Map.{lookup}
use Rattle.vod_tree.specs.declared.«module».Module.{Module}
use Rattle.vod_tree.specs.declared.«module».SourceItem.{SourceItem}
use Rattle.vod_tree.specs.declared.«module».SourceItem.TheVariants as part
use Rattle.vod_modules.specs.declared.names.Head.{Head}

-- the module that a part of a source is
abbrev pub module_in : SourceItem → Option Module
module_in (part.Directive d) = None
module_in (part.Module m) = Some m

abbrev pub name_in : Option Module → List (List ℕ)
name_in None = []
name_in (Some m) = m.name.name ∷ []

-- the names of all modules
abbrev pub names_in : List SourceItem → List (List ℕ)
names_in parts = flat_map (λ x. name_in (module_in x)) parts

-- the number of the first of some names that is the same as one, counted from a number on
abbrev pub number_from : ℕ → List (List ℕ) → List ℕ → Option ℕ
number_from k [] x = None
number_from k (n ∷ ns) x = if bytes_eq x n then Some k else number_from (suc k) ns x

-- the number of the first module of a name
abbrev pub number_of : List SourceItem → List ℕ → Option ℕ
number_of parts x = number_from 0 (names_in parts) x

-- where a module's name stands, and the number of the first module of that name
abbrev pub head_in : (List ℕ → Option ℕ) → Option Module → List Head
head_in numbers None = []
head_in numbers (Some m) = record { place = m.name.place; number = numbers m.name.name } ∷ []

abbrev pub heads_in : List SourceItem → List Head
heads_in parts = flat_map (λ x. head_in (number_of parts) (module_in x)) parts

-- the number of a name in a table
abbrev pub Numbers : Type 0
Numbers = List (Bor (List ℕ) × ℕ)

abbrev pub number_in : Numbers → List ℕ → Option ℕ
number_in numbers x = lookup (λ (k : Bor (List ℕ)). bytes_eq x k.now) numbers

-- a name gets a number, unless it has one
abbrev pub numbered : Option ℕ → Bool → ℕ → Option ℕ
numbered None same k = if same then Some k else None
numbered (Some j) same k = Some j
