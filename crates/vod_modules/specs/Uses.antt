-- The instantiations of modules (IEEE 1364-2005, 12.1.2).
use Rattle.std.specs.Prelude.{ℕ, ◌&&◌, nat_lt, List, [], ◌∷◌, Option, None, Some, flat_map, if◌then◌else◌}
use Rattle.vod_tree.specs.declared.«module».Item.{Item}
use Rattle.vod_tree.specs.declared.«module».ItemKind.{ItemKind}
use Rattle.vod_tree.specs.declared.«module».ItemKind.TheVariants as kind
use Rattle.vod_tree.specs.declared.«module».Module.{Module}
use Rattle.vod_tree.specs.declared.«module».SourceItem.{SourceItem}
use Rattle.vod_tree.specs.declared.instance.Instances.{Instances}
use Rattle.vod_fanout.specs.declared.Feed.{Feed}
use Rattle.vod_modules.specs.declared.uses.Use.{Use}
use Rattle.vod_modules.specs.Names.{module_in, number_of}

-- the instances that an item makes
abbrev pub instances_in : ItemKind → Option Instances
instances_in (kind.Instances i) = Some i
instances_in k = None

-- the numbers of the module where an instantiation stands and of the module that it names, and where it names it
abbrev pub use_in : (List ℕ → Option ℕ) → Option ℕ → Option Instances → List Use
use_in numbers user None = []
use_in numbers user (Some i) = record { place = i.«module».place; user = user; used = numbers i.«module».name } ∷ []

abbrev pub item_uses : (List ℕ → Option ℕ) → Option ℕ → List Item → List Use
item_uses numbers user items = flat_map (λ y. use_in numbers user (instances_in y.kind)) items

abbrev pub module_uses : (List ℕ → Option ℕ) → Option Module → List Use
module_uses numbers None = []
module_uses numbers (Some m) = item_uses numbers (numbers m.name.name) m.items

abbrev pub uses_in : List SourceItem → List Use
uses_in parts = flat_map (λ x. module_uses (number_of parts) (module_in x)) parts

-- an edge from a module to one that it instantiates, where both are among n
abbrev pub edge_of : ℕ → Option ℕ → Option ℕ → List Feed
edge_of n None used = []
edge_of n (Some p) None = []
edge_of n (Some p) (Some q) = if nat_lt p n && nat_lt q n then record { source = p; reader = q } ∷ [] else []

abbrev pub edges_of : ℕ → List Use → List Feed
edges_of n uses = flat_map (λ u. edge_of n u.user u.used) uses
