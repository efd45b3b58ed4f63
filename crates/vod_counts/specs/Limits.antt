-- The limits on modules and on what all instances have.
use Rattle.std.specs.Prelude.{ℕ, nat_lt, Bool, true, false, List, [], ◌∷◌, ◌++◌, length, flat_map, slice_get, slice_index, Option, None, Some, if◌then◌else◌}
use Rattle.vod_tree.specs.declared.«module».Module.{Module}
use Rattle.vod_tree.specs.declared.«module».SourceItem.{SourceItem}
use Rattle.vod_tree.specs.declared.«module».Tree.{Tree}
use Rattle.vod_names.specs.declared.entry.Kind.{Kind}
use Rattle.vod_names.specs.declared.entry.Kind.TheVariants as kind
use Rattle.vod_names.specs.Entries.{Named, has_name}
use Rattle.vod_names.specs.Lists.{declarations}
use Rattle.vod_modules.specs.declared.names.Head.{Head}
use Rattle.vod_modules.specs.Names.{heads_in, module_in}
use Rattle.vod_modules.specs.Faults.{tops, module_count, tree_edges}
use Rattle.vod_counts.specs.declared.limit.Limit.{Limit}
use Rattle.vod_counts.specs.declared.limit.Limit.TheVariants as limit
use Rattle.vod_counts.specs.Edges.{instance_edges}
use Rattle.vod_counts.specs.Counts.{instances_of, total}

-- nets and registers (4.2)
abbrev pub is_signal : Kind → Bool
is_signal kind.Input = true
is_signal kind.Output = true
is_signal kind.OutputReg = true
is_signal kind.Wire = true
is_signal kind.Reg = true
is_signal k = false

abbrev pub is_input : Kind → Bool
is_input kind.Input = true
is_input k = false

-- the first declaration of each name among those of a kind
abbrev pub first_one : (Kind → Bool) → List Named → Named → List Named
first_one fits earlier d = if fits d.1.kind then (if has_name d.0 earlier then [] else d ∷ []) else []

abbrev pub firsts : (Kind → Bool) → List Named → List Named → List Named
firsts fits earlier [] = earlier
firsts fits earlier (d ∷ ds) = firsts fits (earlier ++ first_one fits earlier d) ds

-- how many names of a module some declaration makes a signal, and how many an input
abbrev pub signal_count : Option Module → List ℕ
signal_count None = []
signal_count (Some m) = length (firsts is_signal [] (declarations m)) ∷ []

abbrev pub input_count : Option Module → List ℕ
input_count None = []
input_count (Some m) = length (firsts is_input [] (declarations m)) ∷ []

-- one for each module, and its tokens from `module` to `endmodule`
abbrev pub one_count : Option Module → List ℕ
one_count None = []
one_count (Some m) = 1 ∷ []

abbrev pub token_count : Option Module → List ℕ
token_count None = []
token_count (Some m) = m.tokens ∷ []

-- such a count of each module of a source
abbrev pub each_module : (Option Module → List ℕ) → List SourceItem → List ℕ
each_module count parts = flat_map (λ x. count (module_in x)) parts

abbrev pub number_in_head : Option Head → Option ℕ
number_in_head None = None
number_in_head (Some h) = h.number

-- the number of the module that is instantiated nowhere
abbrev pub top_of : Tree → Option ℕ
top_of t = number_in_head (slice_get (tops (tree_edges t) (heads_in t.items)) 0)

-- the sum of a count over all instances of a source
abbrev pub over_instances : (Option Module → List ℕ) → Tree → ℕ
over_instances count t = total (instances_of (instance_edges (module_count t) t.items) (top_of t) (module_count t)) 0 (each_module count t.items)

abbrev pub count_at : List ℕ → Option ℕ → ℕ
count_at counts None = 0
count_at counts (Some k) = slice_index counts k

-- the first limit that is passed: on modules, instances, signals and inputs, and tokens of all instances
abbrev pub first_past : List (Limit × (ℕ × ℕ)) → Option Limit
first_past [] = None
first_past (l ∷ ls) = if nat_lt l.1.0 l.1.1 then Some l.0 else first_past ls

abbrev pub limits : Tree → List (Limit × (ℕ × ℕ))
limits t =
    (limit.Modules, (256, module_count t))
    ∷ (limit.Instances, (4096, over_instances one_count t))
    ∷ (limit.Signals, (16384, over_instances signal_count t))
    ∷ (limit.Inputs, (1024, count_at (each_module input_count t.items) (top_of t)))
    ∷ (limit.Tokens, (16777216, over_instances token_count t))
    ∷ []

abbrev pub limit_of : Tree → Option Limit
limit_of t = first_past (limits t)
