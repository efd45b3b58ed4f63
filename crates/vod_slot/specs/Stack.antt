-- How many statements of a block are left at once, at most.
use Rattle.std.specs.Prelude.{◌≡◌, ℕ, ◌+◌, ◌≤◌, max, List, [], ◌∷◌, length, map, Some, slice_get}
use Rattle.vod_design.specs.declared.parts.Block.{Block}
use Rattle.vod_design.specs.declared.statement.Statement.{Statement}
use Rattle.vod_design.specs.declared.statement.Statement.TheOpen.{Statement-F, CaseItem-F}
use Rattle.vod_design.specs.declared.statement.Statement.TheFolds.{fold-Statement}
use Rattle.vod_design.specs.Netlist.{Netlist}
use Rattle.vod_slot.specs.Store.{list_at}
use Rattle.vod_slot.specs.State.{State}
use Rattle.vod_slot.specs.Room.{greatest}

-- of some that are run in order, by how many each leaves at most: those of the first while the others wait, and then those of the others
abbrev pub left_in_turn : List ℕ → ℕ
left_in_turn [] = 0
left_in_turn (n ∷ ns) = max (n + length ns) (left_in_turn ns)

-- of one: itself until it runs, and then what it leaves
abbrev pub layer_left : Statement-F ℕ ℕ → ℕ
layer_left (Statement-F.Assign parts right) = 1
layer_left (Statement-F.If test taken other) = max 1 (max taken other)
layer_left (Statement-F.Case tested items otherwise) = max 1 (max (greatest items) otherwise)
layer_left (Statement-F.Begin statements) = max 1 (left_in_turn statements)
layer_left Statement-F.Empty = 1

abbrev pub item_left : CaseItem-F ℕ ℕ → ℕ
item_left item = item.body

unfoldable pub statements_most : Statement → ℕ
statements_most s = fold-Statement ℕ ℕ layer_left item_left s

-- what is left of each block leaves at most what its body leaves
abbrev pub IsStackKept : Netlist → State → Type 0
IsStackKept d st = (k : ℕ) (b : Block) → slice_get d.blocks k ≡ Some b → left_in_turn (map statements_most (list_at st.todo k)) ≤ statements_most b.body
