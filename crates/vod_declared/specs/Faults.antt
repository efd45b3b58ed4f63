-- Where declarations of a source are at fault.
use Rattle.std.specs.Prelude.{ℕ, Bool, true, false, not, ◌&&◌, List, [], ◌++◌, flat_map, Option, None, Some, is_some}
use mathlib.Core.Bool.{beq}
use Rattle.std.specs.List.{list_any}
use Rattle.vod_places.specs.Places.{place_if, each_after}
use Rattle.vod_tree.specs.declared.module.Function.{Function}
use Rattle.vod_tree.specs.declared.module.FunctionDeclaration.{FunctionDeclaration}
use Rattle.vod_tree.specs.declared.module.FunctionDeclaration.TheVariants as inside
use Rattle.vod_tree.specs.declared.module.Item.{Item}
use Rattle.vod_tree.specs.declared.module.ItemKind.{ItemKind}
use Rattle.vod_tree.specs.declared.module.ItemKind.TheVariants as item
use Rattle.vod_tree.specs.declared.module.Module.{Module}
use Rattle.vod_tree.specs.declared.module.SourceItem.{SourceItem}
use Rattle.vod_tree.specs.declared.module.SourceItem.TheVariants as part
use Rattle.vod_tree.specs.declared.module.Tree.{Tree}
use Rattle.vod_names.specs.declared.entry.Kind.{Kind}
use Rattle.vod_names.specs.declared.entry.Kind.TheVariants as kind
use Rattle.vod_names.specs.declared.entry.Declaration.{Declaration}
use Rattle.vod_names.specs.Entries.{Named, last_of, has_name}
use Rattle.vod_names.specs.Lists.{declarations, listed_names, directions, function_declarations}

abbrev pub is_output : Kind → Bool
is_output kind.Output = true
is_output k = false

abbrev pub is_ram : Kind → Bool
is_ram kind.Ram = true
is_ram k = false

-- `wire` may follow `input` or `output`, and `reg` may follow `output`
abbrev pub may_follow : Kind → Kind → Bool
may_follow first kind.Wire = true
may_follow first kind.Reg = is_output first
may_follow first second = false

-- a second declaration completes a direction that stands alone, where both have a range or neither has (12.3.3)
abbrev pub completes : Declaration → Declaration → Bool
completes first second = first.partial && (may_follow first.kind second.kind && beq first.ranged second.ranged)

-- whether a declaration is one too many, after the last one of its name
abbrev pub is_repeated : Option Declaration → Declaration → Bool
is_repeated None d = false
is_repeated (Some e) d = not (completes e d)

-- each name is declared once (4.11): the later one is at fault
abbrev pub declared_again : List Named → Named → List ℕ
declared_again earlier d = place_if (is_repeated (last_of d.0 earlier) d.1) d.1.place

-- a memory isn't signed
abbrev pub signed_ram : Named → List ℕ
signed_ram d = place_if (is_ram d.1.kind && d.1.signed) d.1.place

abbrev pub name_faults : Module → List ℕ
name_faults m = each_after declared_again [] (declarations m) ++ flat_map signed_ram (declarations m)

-- an entry whose name isn't among these
abbrev pub unknown_to : List Named → Named → List ℕ
unknown_to names d = place_if (not (has_name d.0 names)) d.1.place

-- A header that lists names alone names each port once, and each has a direction in the body; no other name has one there
-- (12.3.2, 12.3.3).
abbrev pub port_faults : Module → List ℕ
port_faults m =
    each_after declared_again [] (listed_names m) ++ (flat_map (unknown_to (directions m)) (listed_names m) ++ flat_map (unknown_to (listed_names m)) (directions m))

abbrev pub is_input : FunctionDeclaration → Bool
is_input (inside.Input d) = true
is_input (inside.Reg d) = false

-- A function has inputs in its header or behind it, not both, and at least one (10.4.4); it declares each name once, its own
-- among them.
abbrev pub function_faults : Function → List ℕ
function_faults f = place_if (beq (is_some f.inputs) (list_any is_input f.declarations)) f.name.place ++ each_after declared_again [] (function_declarations f)

abbrev pub kind_faults : ItemKind → List ℕ
kind_faults (item.Function f) = function_faults f
kind_faults k = []

abbrev pub item_faults : Item → List ℕ
item_faults i = kind_faults i.kind

abbrev pub module_faults : Module → List ℕ
module_faults m = name_faults m ++ (port_faults m ++ flat_map item_faults m.items)

abbrev pub source_faults : SourceItem → List ℕ
source_faults (part.Directive d) = []
source_faults (part.Module m) = module_faults m

abbrev pub declaration_faults : Tree → List ℕ
declaration_faults t = flat_map source_faults t.items
