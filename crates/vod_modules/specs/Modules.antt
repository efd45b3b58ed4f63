-- What the modules of a source are, and why they are refused.
use Rattle.std.specs.Prelude.{◌≡◌, ℕ, List, None, Some, slice_get}
use Rattle.vod_tree.specs.declared.«module».Tree.{Tree}
use Rattle.vod_components.specs.Components.{IsComponents}
use Rattle.vod_modules.specs.declared.Modules.{Modules}
use Rattle.vod_modules.specs.declared.Judged.{Judged}
use Rattle.vod_modules.specs.declared.ModulesFault.{ModulesFault}
use Rattle.vod_modules.specs.declared.ModulesFault.TheVariants as fault
use Rattle.vod_modules.specs.Names.{number_in, number_of, heads_in}
use Rattle.vod_modules.specs.Faults.{tops, module_count, tree_edges, fault_of}

-- the modules of a source in which nothing is at fault
pub record IsModules (tree : Tree) (m : Modules) : Type 0 where
  pub names : number_in m.names.numbers.entries ≡ number_of tree.items
  pub components : IsComponents (tree_edges tree) (module_count tree) m.components.numbers.items m.components.nodes.items
  pub sound : fault_of m.components.numbers.items tree ≡ None
  pub top : slice_get (tops (tree_edges tree) (heads_in tree.items)) 0 ≡ Some m.top

-- the least place at fault; two modules are of one component exactly where each leads to the other
abbrev pub IsFault : Tree → ModulesFault → Type 0
IsFault tree (fault.At p) = (numbers : List ℕ) × (nodes : List ℕ) × IsComponents (tree_edges tree) (module_count tree) numbers nodes × (fault_of numbers tree ≡ Some p)
IsFault tree fault.Memory = Unit {0}

-- what is known once the modules were judged
pub record IsJudged (tree : Tree) (j : Judged) : Type 0 where
  pub names : number_in j.names.numbers.entries ≡ number_of tree.items
  pub components : IsComponents (tree_edges tree) (module_count tree) j.components.numbers.items j.components.nodes.items
  pub fault : j.fault ≡ fault_of j.components.numbers.items tree
  pub tops : j.tops.items ≡ tops (tree_edges tree) (heads_in tree.items)
