-- What modules show to those that instantiate them: their ports and the parameters that may be set (IEEE 1364-2005, 12.2 and 12.3).
use Rattle.std.specs.Prelude.{ℕ, List, [], ◌∷◌, flat_map, Option, None, Some, slice_get, if◌then◌else◌}
use Rattle.std.specs.Str.{bytes_eq}
use Rattle.std.specs.Option.{option_map}
use Rattle.vod_tree.specs.declared.module.Module.{Module}
use Rattle.vod_tree.specs.declared.module.SourceItem.{SourceItem}
use Rattle.vod_tree.specs.declared.module.SourceItem.TheVariants as part
use Rattle.vod_names.specs.declared.entry.Kind.TheVariants.{Listed}
use Rattle.vod_names.specs.Entries.{Named, plain, named, number_of}
use Rattle.vod_names.specs.Lists.{ports, parameters}
use Rattle.vod_connections.specs.declared.interface.Interface.{Interface}

abbrev pub modules_in : SourceItem → List Module
modules_in (part.Directive d) = []
modules_in (part.Module m) = m ∷ []

-- the modules of a source
abbrev pub all_modules : List SourceItem → List Module
all_modules parts = flat_map modules_in parts

-- the first module of a name
abbrev pub module_named : List Module → List ℕ → Option Module
module_named [] name = None
module_named (m ∷ ms) name = if bytes_eq name m.name.name then Some m else module_named ms name

abbrev pub interface_of : Module → Interface
interface_of m = record { ports = ports m; parameters = parameters m }

-- what the first module of a name shows
abbrev pub interface_named : List Module → List ℕ → Option Interface
interface_named ms name = option_map interface_of (module_named ms name)

-- the same by the number of a name
abbrev pub module_name : Module → Named
module_name m = named (plain Listed) m.name

abbrev pub interface_at : List Interface → Option ℕ → Option Interface
interface_at list None = None
interface_at list (Some k) = slice_get list k

abbrev pub found : List Named → List Interface → List ℕ → Option Interface
found names list name = interface_at list (number_of name names)
