-- What names stand for.
use Rattle.std.specs.Prelude.{ℕ, if◌then◌else◌, List, [], ◌∷◌, Option, None, Some}
use Rattle.std.specs.Str.{bytes_eq}
use Rattle.vod_width.specs.declared.decls.Declared.{Declared}

-- a name, and what it stands for
abbrev pub Declaration : Type 0
Declaration = List ℕ × Declared

abbrev pub declaration : List ℕ → Declared → Declaration
declaration name value = (name, value)

-- what a name stands for among these
abbrev pub declared : List Declaration → List ℕ → Option Declared
declared [] name = None
declared (d ∷ ds) name = if bytes_eq name d.0 then Some d.1 else declared ds name
