-- The functions of a module by name (IEEE 1364-2005, 10.4).
use Rattle.std.specs.Prelude.{ℕ, Bool, true, false, List, [], ◌∷◌, count_by, slice_get, Option, None, Some, if◌then◌else◌}
use Rattle.std.specs.Str.{bytes_eq}
use Rattle.vod_tree.specs.declared.module.Item.{Item}
use Rattle.vod_tree.specs.declared.module.ItemKind.{ItemKind}
use Rattle.vod_tree.specs.declared.module.ItemKind.TheVariants as item
use Rattle.vod_names.specs.declared.entry.Kind.{Kind}
use Rattle.vod_names.specs.declared.entry.Kind.TheVariants as kind
use Rattle.vod_names.specs.Entries.{Named}
use Rattle.vod_names.specs.Lists.{function_declarations}

-- a function's name, and how many inputs it has
abbrev pub Called : Type 0
Called = List ℕ × ℕ

-- how many inputs the first function of a name has
abbrev pub inputs_of : List ℕ → List Called → Option ℕ
inputs_of name [] = None
inputs_of name (f ∷ fs) = if bytes_eq name f.0 then Some f.1 else inputs_of name fs

abbrev pub is_input : Kind → Bool
is_input kind.Input = true
is_input k = false

-- how many inputs there are among declarations
abbrev pub input_count : List Named → ℕ
input_count ds = count_by (λ (d : Named). is_input d.1.kind) ds

-- the functions that items declare
abbrev pub kind_functions : ItemKind → List Called
kind_functions (item.Function f) = (f.name.name, input_count (function_declarations f)) ∷ []
kind_functions k = []

abbrev pub item_functions : Item → List Called
item_functions i = kind_functions i.kind

-- names beside numbers
abbrev pub called : List Named → List ℕ → List Called
called [] ns = []
called (d ∷ ds) [] = []
called (d ∷ ds) (n ∷ ns) = (d.0, n) ∷ called ds ns

-- the number at a place, if there is one
abbrev pub number_at : List ℕ → Option ℕ → Option ℕ
number_at ns None = None
number_at ns (Some k) = slice_get ns k
