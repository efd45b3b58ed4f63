-- Names with what each is declared as, in order, and what such a list says of a name.
use Rattle.std.specs.Prelude.{ℕ, suc, Bool, false, if◌then◌else◌, List, [], ◌∷◌, Option, None, Some, is_some}
use Rattle.std.specs.Str.{bytes_eq}
use Rattle.std.specs.Option.{option_or, option_map}
use Rattle.vod_tree.specs.declared.ident.Ident.{Ident}
use Rattle.vod_names.specs.declared.entry.Kind.{Kind}
use Rattle.vod_names.specs.declared.entry.Declaration.{Declaration}
use Rattle.vod_names.specs.declared.entry.Entry.{Entry}

-- a name and its declaration
abbrev pub Named : Type 0
Named = List ℕ × Declaration

abbrev pub shown : Entry → Named
shown e = (e.name.now, e.declaration)

-- a declaration of a kind, with neither sign nor range
abbrev pub plain : Kind → Declaration
plain k = record { place = 0; kind = k; signed = false; ranged = false; partial = false }

abbrev pub at_place : Declaration → ℕ → Declaration
at_place d p = record { place = p; kind = d.kind; signed = d.signed; ranged = d.ranged; partial = d.partial }

-- an identifier, declared so at its place
abbrev pub named : Declaration → Ident → Named
named d i = (i.name, at_place d i.place)

-- the first and the last declaration of a name
abbrev pub first_of : List ℕ → List Named → Option Declaration
first_of name [] = None
first_of name (d ∷ ds) = if bytes_eq name d.0 then Some d.1 else first_of name ds

abbrev pub last_of : List ℕ → List Named → Option Declaration
last_of name [] = None
last_of name (d ∷ ds) = option_or (last_of name ds) (if bytes_eq name d.0 then Some d.1 else None)

-- the number of the first entry of a name, from 0 on
abbrev pub number_of : List ℕ → List Named → Option ℕ
number_of name [] = None
number_of name (d ∷ ds) = if bytes_eq name d.0 then Some 0 else option_map suc (number_of name ds)

abbrev pub has_name : List ℕ → List Named → Bool
has_name name ds = is_some (first_of name ds)
