-- Where the modules of a source are refused: names that stand again, modules that aren't in the source or instantiate themselves, and
-- a second module that is instantiated nowhere (IEEE 1364-2005, 12.1).
use Rattle.std.specs.Prelude.{ℕ, suc, ◌==◌, not, Bool, true, false, List, [], ◌∷◌, ◌++◌, length, Option, None, Some, flat_map, slice_get, slice_index, slice_index_or, if◌then◌else◌}
use Rattle.std.specs.List.{list_any}
use Rattle.vod_tree.specs.declared.«module».Tree.{Tree}
use Rattle.vod_fanout.specs.declared.Feed.{Feed}
use Rattle.vod_places.specs.Places.{sooner, least, place_if}
use Rattle.vod_modules.specs.declared.names.Head.{Head}
use Rattle.vod_modules.specs.declared.uses.Use.{Use}
use Rattle.vod_modules.specs.Names.{heads_in}
use Rattle.vod_modules.specs.Uses.{uses_in, edges_of}

abbrev pub is_number : Option ℕ → ℕ → Bool
is_number None k = false
is_number (Some j) k = j == k

-- the names that an earlier module has, of modules from a number on
abbrev pub again_from : ℕ → List Head → List ℕ
again_from k [] = []
again_from k (h ∷ hs) = place_if (not (is_number h.number k)) h.place ++ again_from (suc k) hs

-- an instantiation of a module that isn't there, or that leads back: the modules of one component lead to each other
abbrev pub is_bad : List ℕ → Option ℕ → Option ℕ → Bool
is_bad components user None = true
is_bad components None (Some q) = false
is_bad components (Some p) (Some q) = slice_index components p == slice_index components q

abbrev pub bad_uses : List ℕ → List Use → List ℕ
bad_uses components uses = flat_map (λ u. place_if (is_bad components u.user u.used) u.place) uses

-- whether a module is instantiated somewhere
abbrev pub is_used : List Feed → Option ℕ → Bool
is_used edges None = false
is_used edges (Some k) = list_any (λ e. e.reader == k) edges

-- the modules that are instantiated nowhere
abbrev pub tops : List Feed → List Head → List Head
tops edges heads = flat_map (λ h. if is_used edges h.number then [] else h ∷ []) heads

abbrev pub place_of : Option Head → Option ℕ
place_of None = None
place_of (Some h) = Some h.place

-- 0 where nothing else is at fault and there is no top
abbrev pub or_start : List Head → Option ℕ → Option ℕ
or_start [] None = Some 0
or_start [] (Some p) = Some p
or_start (h ∷ hs) fault = fault

-- the least place at fault, where the component of each module is known
abbrev pub fault_in : List ℕ → List Feed → List Head → List Use → Option ℕ
fault_in components edges heads uses =
    or_start (tops edges heads) (sooner (sooner (least (again_from 0 heads)) (least (bad_uses components uses))) (place_of (slice_get (tops edges heads) 1)))

-- how many modules a source has
abbrev pub module_count : Tree → ℕ
module_count tree = length (heads_in tree.items)

-- which module of a source instantiates which
abbrev pub tree_edges : Tree → List Feed
tree_edges tree = edges_of (module_count tree) (uses_in tree.items)

-- the least place of a source that is at fault
abbrev pub fault_of : List ℕ → Tree → Option ℕ
fault_of components tree = fault_in components (tree_edges tree) (heads_in tree.items) (uses_in tree.items)

-- whether a module is marked in a table
abbrev pub is_marked : List Bool → Option ℕ → Bool
is_marked marks None = false
is_marked marks (Some k) = slice_index_or marks k false
