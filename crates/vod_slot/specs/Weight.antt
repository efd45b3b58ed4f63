-- A weight that falls with each event, so that every order of events ends. What the nets that blocks wait for come by weighs more than
-- what blocks do, and that more than all else.
use Rattle.std.specs.Prelude.{ℕ, ◌+◌, ◌*◌, ◌^◌, Bool, true, false, not, List, [], ◌∷◌, ◌++◌, length, flat_map, count_by, Option, None, Some, is_some, slice_get, if◌then◌else◌}
use Rattle.std.specs.List.{list_any, sum_by}
use Rattle.vod_bits.specs.Bit.{Bit}
use Rattle.vod_design.specs.declared.parts.Block.{Block}
use Rattle.vod_design.specs.declared.parts.Driver.{Driver}
use Rattle.vod_design.specs.declared.parts.Edge.{Edge}
use Rattle.vod_design.specs.declared.read.Read.{Read}
use Rattle.vod_design.specs.declared.read.Read.TheVariants.{Whole}
use Rattle.vod_design.specs.declared.statement.Statement.{Statement}
use Rattle.vod_design.specs.declared.statement.Statement.TheOpen.{Statement-F, CaseItem-F}
use Rattle.vod_design.specs.declared.statement.Statement.TheFolds.{fold-Statement}
use Rattle.vod_design.specs.Feeds.{is_read}
use Rattle.vod_design.specs.Netlist.{Netlist}
use Rattle.vod_design.specs.Reads.{reads}
use Rattle.vod_slot.specs.State.{State, flag_at, option_at}

-- what blocks wait for
abbrev pub reset_read : Option Edge → List Read
reset_read None = []
reset_read (Some e) = Whole e.signal ∷ []

abbrev pub awaited : List Block → List Read
awaited blocks = flat_map (λ b. Whole b.clock.signal ∷ reset_read b.reset) blocks

-- whether a driver writes some of what is read, and whether the driver of a number does
abbrev pub writes_read : List Read → Driver → Bool
writes_read rs a = list_any (λ p. list_any (is_read p) rs) a.target

abbrev pub one_writes_read : List Read → Option Driver → Bool
one_writes_read rs None = false
one_writes_read rs (Some a) = writes_read rs a

-- what is read, and behind it what the drivers read that write some of that, from the last driver to the first
abbrev pub reads_before : List Read → Option Driver → List Read
reads_before rs None = []
reads_before rs (Some a) = if writes_read rs a then reads a.value else []

abbrev pub upstream : List Driver → List ℕ → List Read → List Read
upstream drivers [] rs = rs
upstream drivers (j ∷ js) rs = upstream drivers js rs ++ reads_before (upstream drivers js rs) (slice_get drivers j)

-- all that edges come by, and whether a driver is on their path
abbrev pub edge_path : Netlist → List ℕ → List Read
edge_path d ranked = upstream d.drivers ranked (awaited d.blocks)

abbrev pub is_on_path : Netlist → List ℕ → ℕ → Bool
is_on_path d ranked j = one_writes_read (edge_path d ranked) (slice_get d.drivers j)

-- what is left of one driver: 2 where it awaits evaluation, and 1 where it has a pending value
abbrev pub driver_weight : Bool → Option (List Bit) → ℕ
driver_weight flag value = (if flag then 2 else 0) + (if is_some value then 1 else 0)

abbrev pub digit : Bool → Bool → Option (List Bit) → ℕ
digit true flag value = driver_weight flag value
digit false flag value = 0

-- what is left of those that are kept, as a number in base 3 in the order of their ranks: the update of one weighs more than all that
-- it can wake
abbrev pub drivers_weight : (ℕ → Bool) → List ℕ → List Bool → List (Option (List Bit)) → ℕ
drivers_weight keep [] wake pend = 0
drivers_weight keep (j ∷ js) wake pend = digit (keep j) (flag_at wake j) (option_at pend j) * 3 ^ length js + drivers_weight keep js wake pend

-- a statement weighs more than those that are left when it ran; an assignment 1 more than its update
abbrev pub layer_weight : Statement-F ℕ ℕ → ℕ
layer_weight (Statement-F.Assign parts right) = 3
layer_weight (Statement-F.If test taken other) = 1 + taken + other
layer_weight (Statement-F.Case tested items otherwise) = 1 + sum_by (λ item. item) items + otherwise
layer_weight (Statement-F.Begin statements) = 1 + sum_by (λ s. s) statements
layer_weight Statement-F.Empty = 1

abbrev pub item_weight : CaseItem-F ℕ ℕ → ℕ
item_weight item = item.body

unfoldable pub statement_weight : Statement → ℕ
statement_weight s = fold-Statement ℕ ℕ layer_weight item_weight s

abbrev pub stack_weight : List Statement → ℕ
stack_weight statements = sum_by statement_weight statements

-- what is left of initial items and of blocks: 2 for an update, and 1 for one that is active
abbrev pub blocks_weight : State → ℕ
blocks_weight st = sum_by stack_weight st.todo + 2 * sum_by length st.later + sum_by length st.now + sum_by length st.init

-- all bodies of blocks
abbrev pub bodies_weight : List Block → ℕ
bodies_weight blocks = sum_by (λ b. statement_weight b.body) blocks

-- what is left of the moves and of the drivers on the path of edges: each of these weighs more than all bodies that it can start
abbrev pub edges_weight : Netlist → List ℕ → State → ℕ
edges_weight d ranked st = count_by is_some st.moves * 3 ^ length ranked + drivers_weight (is_on_path d ranked) ranked st.wake st.pend

-- all that is left
abbrev pub weight_of : Netlist → List ℕ → State → ℕ
weight_of d ranked st =
    (edges_weight d ranked st * (bodies_weight d.blocks + 1) + blocks_weight st) * 3 ^ length ranked + drivers_weight (λ j. not (is_on_path d ranked j)) ranked st.wake st.pend
