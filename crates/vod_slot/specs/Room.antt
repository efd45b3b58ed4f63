-- How much room the updates of each block take, at most.
use Rattle.std.specs.Prelude.{◌≡◌, ℕ, ◌+◌, ◌*◌, ◌≤◌, max, List, [], ◌∷◌, length, Option, None, Some, slice_get, if◌then◌else◌}
use Rattle.std.specs.List.{sum_by}
use Rattle.vod_bits.specs.Bit.{Bit}
use Rattle.vod_design.specs.declared.parts.Block.{Block}
use Rattle.vod_design.specs.declared.parts.Edge.{Edge}
use Rattle.vod_design.specs.declared.statement.Statement.{Statement}
use Rattle.vod_design.specs.declared.statement.Statement.TheOpen.{Statement-F, CaseItem-F}
use Rattle.vod_design.specs.declared.statement.Statement.TheFolds.{fold-Statement}
use Rattle.vod_design.specs.Eval.{same_bit}
use Rattle.vod_design.specs.Netlist.{Netlist}
use Rattle.vod_slot.specs.Store.{Store, list_at}
use Rattle.vod_slot.specs.State.{State, Update}
use Rattle.vod_slot.specs.Edges.{edge_bit}

-- the greatest of some numbers
abbrev pub greatest : List ℕ → ℕ
greatest [] = 0
greatest (n ∷ ns) = max n (greatest ns)

-- the room of an update: one for itself, and one for each of its parts; and that of several
abbrev pub update_room : Update → ℕ
update_room u = 1 + length u

abbrev pub updates_room : List Update → ℕ
updates_room us = sum_by update_room us

-- the room of all updates that a statement can leave, on the way that takes the most
abbrev pub layer_most : Statement-F ℕ ℕ → ℕ
layer_most (Statement-F.Assign parts right) = 1 + length parts
layer_most (Statement-F.If test taken other) = max taken other
layer_most (Statement-F.Case tested items otherwise) = max (greatest items) otherwise
layer_most (Statement-F.Begin statements) = sum_by (λ s. s) statements
layer_most Statement-F.Empty = 0

abbrev pub item_most : CaseItem-F ℕ ℕ → ℕ
item_most item = item.body

unfoldable pub statement_most : Statement → ℕ
statement_most s = fold-Statement ℕ ℕ layer_most item_most s

abbrev pub stack_most : List Statement → ℕ
stack_most statements = sum_by statement_most statements

-- the nets that a block waits for
abbrev pub reset_nets : Option Edge → List ℕ
reset_nets None = []
reset_nets (Some e) = e.signal ∷ []

abbrev pub nets_of : Block → List ℕ
nets_of b = b.clock.signal ∷ reset_nets b.reset

-- how many of them still have their opening values: so many edges can come at most
abbrev pub opening_count : (ℕ → Bit) → Store → ℕ → ℕ
opening_count opening store n = if same_bit (edge_bit store n) (opening n) then 1 else 0

abbrev pub openings : (ℕ → Bit) → Store → List ℕ → ℕ
openings opening store nets = sum_by (opening_count opening store) nets

-- For each block, the updates that it has, those that its statements can leave, and those of the bodies that can still be started, take at
-- most the room of one body for each of its nets.
abbrev pub IsRoomKept : Netlist → (ℕ → Bit) → State → Type 0
IsRoomKept d opening st = (k : ℕ) (b : Block) → slice_get d.blocks k ≡ Some b →
    updates_room (list_at st.later k) + updates_room (list_at st.now k) + (stack_most (list_at st.todo k) + statement_most b.body * openings opening st.store (nets_of b)) ≤ statement_most b.body * length (nets_of b)
