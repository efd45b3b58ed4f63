-- Where instances are connected, or given parameters, in another way than the module that they are of has it (IEEE 1364-2005,
-- 12.2.2, 12.3.5 and 12.3.6).
use Rattle.std.specs.Prelude.{ℕ, nat_lt, ◌==◌, not, ◌||◌, List, [], ◌++◌, length, map, flat_map, Option, None, Some}
use Rattle.vod_places.specs.Places.{place_if, each_after}
use Rattle.vod_tree.specs.declared.instance.Arguments.{Arguments}
use Rattle.vod_tree.specs.declared.instance.Arguments.TheVariants as given
use Rattle.vod_tree.specs.declared.instance.NamedArgument.{NamedArgument}
use Rattle.vod_tree.specs.declared.instance.NamedConnection.{NamedConnection}
use Rattle.vod_tree.specs.declared.instance.Connections.{Connections}
use Rattle.vod_tree.specs.declared.instance.Connections.TheVariants as connected
use Rattle.vod_tree.specs.declared.instance.Instance.{Instance}
use Rattle.vod_tree.specs.declared.instance.Instances.{Instances}
use Rattle.vod_tree.specs.declared.module.Item.{Item}
use Rattle.vod_tree.specs.declared.module.ItemKind.{ItemKind}
use Rattle.vod_tree.specs.declared.module.ItemKind.TheVariants as item
use Rattle.vod_tree.specs.declared.module.SourceItem.{SourceItem}
use Rattle.vod_tree.specs.declared.module.SourceItem.TheVariants as part
use Rattle.vod_tree.specs.declared.module.Tree.{Tree}
use Rattle.vod_names.specs.declared.entry.Kind.TheVariants.{Listed}
use Rattle.vod_names.specs.Entries.{Named, plain, named, has_name}
use Rattle.vod_connections.specs.declared.interface.Interface.{Interface}
use Rattle.vod_connections.specs.Interfaces.{all_modules, interface_named}

-- a name that isn't among these, or stands again
abbrev pub wrong_name : List Named → List Named → Named → List ℕ
wrong_name names earlier d = place_if (not (has_name d.0 names) || has_name d.0 earlier) d.1.place

abbrev pub wrong_names : List Named → List Named → List ℕ
wrong_names names ds = each_after (wrong_name names) [] ds

abbrev pub argument_name : NamedArgument → Named
argument_name a = named (plain Listed) a.name

abbrev pub connection_name : NamedConnection → Named
connection_name c = named (plain Listed) c.name

-- Parameters by order: at most as many as there are, else the module's name is at fault; by name: each is a parameter, and stands
-- once (12.2.2).
abbrev pub argument_faults : ℕ → List Named → Option Arguments → List ℕ
argument_faults p names None = []
argument_faults p names (Some (given.Ordered es)) = place_if (nat_lt (length names) (length es)) p
argument_faults p names (Some (given.Named arguments)) = wrong_names names (map argument_name arguments)

-- Connections by order: as many as there are ports, else the module's name is at fault; by name: each is a port, and stands once
-- (12.3.5, 12.3.6).
abbrev pub connection_faults : ℕ → List Named → Connections → List ℕ
connection_faults p names connected.Empty = place_if (not (length names == 0)) p
connection_faults p names (connected.Ordered es) = place_if (not (length names == length es)) p
connection_faults p names (connected.Named connections) = wrong_names names (map connection_name connections)

abbrev pub one_faults : ℕ → List Named → Instance → List ℕ
one_faults p names i = connection_faults p names i.connections

-- instances of a module that shows this; none where it isn't in the source
abbrev pub instances_faults : Option Interface → Instances → List ℕ
instances_faults None i = []
instances_faults (Some child) i = argument_faults i.«module».place child.parameters i.arguments ++ flat_map (one_faults i.«module».place child.ports) i.instances

-- the same of the items of modules, by what the module of a name shows
abbrev pub kind_faults : (List ℕ → Option Interface) → ItemKind → List ℕ
kind_faults shows (item.Instances i) = instances_faults (shows i.«module».name) i
kind_faults shows k = []

abbrev pub item_faults : (List ℕ → Option Interface) → Item → List ℕ
item_faults shows i = kind_faults shows i.kind

abbrev pub part_faults : (List ℕ → Option Interface) → SourceItem → List ℕ
part_faults shows (part.Directive d) = []
part_faults shows (part.Module m) = flat_map (item_faults shows) m.items

-- where the instances of a source are connected or given parameters in another way than their modules have it
abbrev pub source_faults : Tree → List ℕ
source_faults t = flat_map (part_faults (interface_named (all_modules t.items))) t.items
