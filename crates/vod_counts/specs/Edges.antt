-- The instances of a source: one edge for each, from the module where it stands to the module that it is of (IEEE 1364-2005, 12.1.2).
use Rattle.std.specs.Prelude.{ℕ, List, [], flat_map, Option, None, Some}
use Rattle.vod_tree.specs.declared.«module».Item.{Item}
use Rattle.vod_tree.specs.declared.«module».Module.{Module}
use Rattle.vod_tree.specs.declared.«module».SourceItem.{SourceItem}
use Rattle.vod_tree.specs.declared.instance.Instance.{Instance}
use Rattle.vod_tree.specs.declared.instance.Instances.{Instances}
use Rattle.vod_fanout.specs.declared.Feed.{Feed}
use Rattle.vod_modules.specs.Names.{module_in, number_of}
use Rattle.vod_modules.specs.Uses.{instances_in, edge_of}

abbrev pub each_instance : List Feed → List Instance → List Feed
each_instance edge is = flat_map (λ (i : Instance). edge) is

abbrev pub instances_edges : (List ℕ → Option ℕ) → ℕ → Option ℕ → Option Instances → List Feed
instances_edges numbers n user None = []
instances_edges numbers n user (Some i) = each_instance (edge_of n user (numbers i.«module».name)) i.instances

abbrev pub item_edges : (List ℕ → Option ℕ) → ℕ → Option ℕ → Item → List Feed
item_edges numbers n user i = instances_edges numbers n user (instances_in i.kind)

abbrev pub module_edges : (List ℕ → Option ℕ) → ℕ → Option Module → List Feed
module_edges numbers n None = []
module_edges numbers n (Some m) = flat_map (item_edges numbers n (numbers m.name.name)) m.items

-- the instances of a source of n modules
abbrev pub instance_edges : ℕ → List SourceItem → List Feed
instance_edges n parts = flat_map (λ x. module_edges (number_of parts) n (module_in x)) parts
