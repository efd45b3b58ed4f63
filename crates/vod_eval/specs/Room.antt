-- How much room the evaluation takes: a value for each variable of a function that is called, and for each index of a left side.
use Rattle.std.specs.Prelude.{ℕ, zero, suc, ◌+◌, ◌==◌, max, if◌then◌else◌, List, [], ◌∷◌, map, length, slice_get, slice_index_or, min, ◌-◌, ◌^◌, Option, None, Some}
use Rattle.vod_design.specs.declared.sized.SizedExpr.{SizedExpr}
use Rattle.vod_design.specs.declared.sized.SizedKind.TheOpen.{SizedKind-F}
use Rattle.vod_design.specs.declared.sized.SizedKind.TheFolds.{fold-SizedExpr}
use Rattle.vod_design.specs.declared.statement.CaseItem.{CaseItem}
use Rattle.vod_design.specs.declared.statement.Function.{Function}
use Rattle.vod_design.specs.declared.statement.Part.{Part}
use Rattle.vod_design.specs.declared.statement.PartTarget.{PartTarget}
use Rattle.vod_design.specs.declared.statement.PartTarget.TheVariants as part
use Rattle.vod_design.specs.declared.statement.Statement.{Statement}
use Rattle.vod_design.specs.declared.statement.Statement.TheOpen.{Statement-F, CaseItem-F}
use Rattle.vod_design.specs.declared.statement.Statement.TheFolds.{fold-Statement, fold-CaseItem}

-- the most of several
abbrev pub most : List ℕ → ℕ
most [] = 0
most (n ∷ ns) = max n (most ns)

-- values that are kept one after the other: each is worked out behind those that are kept
abbrev pub staged : List ℕ → ℕ
staged [] = 0
staged (n ∷ ns) = max n (1 + staged ns)

-- the room of each kind of expression, with that of its operands in their places, where a call of each function takes some
abbrev pub kind_room : (ℕ → ℕ) → SizedKind-F ℕ ℕ → ℕ
kind_room calls (SizedKind-F.Number _) = 0
kind_room calls (SizedKind-F.Name name) = 0
kind_room calls (SizedKind-F.Select name low count) = 0
kind_room calls (SizedKind-F.Index name least index) = index
kind_room calls (SizedKind-F.Word memory place) = 0
kind_room calls (SizedKind-F.WordIndex memory least index) = index
kind_room calls (SizedKind-F.Unary op a) = a
kind_room calls (SizedKind-F.Binary op a b) = max a b
kind_room calls (SizedKind-F.Comparison op a b) = max a b
kind_room calls (SizedKind-F.LogicalNot a) = a
kind_room calls (SizedKind-F.Logical op a b) = max a b
kind_room calls (SizedKind-F.Reduction op a) = a
kind_room calls (SizedKind-F.Shift op a amount) = max a amount
kind_room calls (SizedKind-F.Conditional test a b) = max test (max a b)
kind_room calls (SizedKind-F.Concat parts) = most parts
kind_room calls (SizedKind-F.Replicate count a) = a
kind_room calls (SizedKind-F.Call n arguments) = max (staged arguments) (calls n)
kind_room calls (SizedKind-F.Gate op inputs) = most inputs

unfoldable pub expr_room : (ℕ → ℕ) → SizedExpr → ℕ
expr_room calls e = fold-SizedExpr ℕ ℕ (kind_room calls) (λ e. e.kind) e

-- the room of a part's index
abbrev pub index_room : (ℕ → ℕ) → PartTarget → ℕ
index_room calls (part.Bits x low) = 0
index_room calls (part.Index x least index) = expr_room calls index
index_room calls (part.Word memory least index) = expr_room calls index

-- the room of a statement
abbrev pub effect_room : (ℕ → ℕ) → Statement-F ℕ ℕ → ℕ
effect_room calls (Statement-F.Assign parts right) = max (expr_room calls right) (staged (map (λ p. index_room calls p.target) parts))
effect_room calls (Statement-F.If test taken other) = max (expr_room calls test) (max taken other)
effect_room calls (Statement-F.Case tested items otherwise) = max (expr_room calls tested) (max (most items) otherwise)
effect_room calls (Statement-F.Begin statements) = most statements
effect_room calls Statement-F.Empty = 0

abbrev pub item_room : (ℕ → ℕ) → CaseItem-F ℕ ℕ → ℕ
item_room calls item = max (most (map (expr_room calls) item.labels)) item.body

unfoldable pub statement_room : (ℕ → ℕ) → Statement → ℕ
statement_room calls s = fold-Statement ℕ ℕ (effect_room calls) (item_room calls) s

unfoldable pub item_room_of : (ℕ → ℕ) → CaseItem → ℕ
item_room_of calls item = fold-CaseItem ℕ ℕ (effect_room calls) (item_room calls) item

-- the room of a call: the function's variables, and behind them what its body takes
abbrev pub function_room : (ℕ → ℕ) → Option Function → ℕ
function_room calls None = 0
function_room calls (Some f) = length f.inputs + length f.locals + 1 + statement_room calls f.body

abbrev pub call_room : List Function → ℕ → ℕ → ℕ
call_room functions zero n = 0
call_room functions (suc k) n = if n == k then function_room (call_room functions k) (slice_get functions k) else call_room functions k n

-- the room of the labels of an item of a `case`
abbrev pub labels_room : (ℕ → ℕ) → CaseItem → ℕ
labels_room calls item = most (map (expr_room calls) item.labels)

-- the room of an expression of a design with these functions
unfoldable pub room_of : List Function → SizedExpr → ℕ
room_of functions e = expr_room (call_room functions (length functions)) e

-- that of the labels of the items of a `case`, and of the indices of a left side that are evaluated one by one
unfoldable pub items_room : List Function → List CaseItem → ℕ
items_room functions items = most (map (labels_room (call_room functions (length functions))) items)

unfoldable pub parts_room : List Function → List Part → ℕ
parts_room functions parts = most (map (λ p. index_room (call_room functions (length functions)) p.target) parts)

-- the room of a call of each function by a table of them
abbrev pub room_in : List ℕ → ℕ → ℕ
room_in rooms n = slice_index_or rooms n 0

-- as a number of the machine: the greatest of these where it is more
abbrev pub saturated : ℕ → ℕ
saturated n = min n (2 ^ 64 - 1)
