-- What the evaluation works over, as the definitions see it.
use Rattle.std.specs.Prelude.{ℕ, nat_lt, Bool, true, false, if◌then◌else◌, List, [], ◌∷◌, Option, None, Some, slice_get}
use Rattle.vod_bits.specs.Bit.{Bit}
use Rattle.vod_design.specs.declared.sized.SizedExpr.{SizedExpr}
use Rattle.vod_design.specs.declared.statement.Function.{Function}
use Rattle.vod_design.specs.declared.statement.CaseItem.{CaseItem}
use Rattle.vod_design.specs.declared.statement.Part.{Part}
use Rattle.vod_design.specs.declared.statement.Size.{Size}
use Rattle.vod_design.specs.declared.statement.Statement.{Statement}
use Rattle.vod_design.specs.Values.{Values, Frame, Operand, unknown, bounded, at_size}
use Rattle.vod_design.specs.Eval.{Calls, operand_of}
use Rattle.vod_design.specs.Run.{Branch, nothing, run, branch, index_bits, call_below}
use Rattle.vod_eval.specs.declared.scene.Scene.{Scene}
use Rattle.vod_eval.specs.Room.{index_room, call_room}

-- what an expression is evaluated over: what stands for a bit that isn't there, the functions, of which those before the limit may
-- be called, and the values of signals and memory words
pub record Setting : Type 0 where
  pub fill : Bit
  pub functions : List Function
  pub limit : ℕ
  pub values : Values

-- what a function's body sees of these values, and what other expressions see
abbrev pub values_seen : Bool → Bit → Values → Values
values_seen true fill values = nothing fill
values_seen false fill values = values

-- what a scene is, where a bit that isn't there is `fill` and its tables give values
abbrev pub seen : {T : Type 0} → Bit → (T → Values) → Scene T → Setting
seen fill values s = record { fill = fill; functions = s.functions.now; limit = s.limit; values = values_seen s.in_function fill (values s.tables.now) }

abbrev pub scene_values : Setting → Values
scene_values s = s.values

abbrev pub calls_of : Setting → Calls
calls_of s = call_below s.fill s.functions s.limit

abbrev pub rooms : {T : Type 0} → Scene T → ℕ → ℕ
rooms s = call_room s.functions.now s.limit

-- the function of a number, where it may be called
abbrev pub callable_in : {T : Type 0} → Scene T → ℕ → Option Function
callable_in s n = if nat_lt n s.limit then slice_get s.functions.now n else None

-- a value with a sign
abbrev pub operand : List Bit → Bool → Operand
operand bits signed = record { bits = bits; signed = signed }

-- an expression as an operand, and its value
abbrev pub operand_in : Setting → Frame → SizedExpr → Operand
operand_in s frame e = operand_of s.fill (calls_of s) (scene_values s) frame e

abbrev pub bits_in : Setting → Frame → SizedExpr → List Bit
bits_in s frame e = (operand_in s frame e).bits

-- an input of a gate, of one bit
abbrev pub input_in : Setting → Frame → SizedExpr → List Bit
input_in s frame e = at_size 1 false (bits_in s frame e)

-- an expression's value at the size of a `case`
abbrev pub bits_at : Setting → Frame → Size → SizedExpr → List Bit
bits_at s frame size e = at_size size.width size.signed (bits_in s frame e)

-- the values of expressions with the expressions' signs
abbrev pub with_signs : List (List Bit) → List SizedExpr → List Operand
with_signs [] es = []
with_signs (bits ∷ more) [] = []
with_signs (bits ∷ more) (e ∷ es) = operand bits e.signed ∷ with_signs more es

-- the value of an input, given its argument
abbrev pub input_bits : Bit → Size → Option Operand → List Bit
input_bits fill input None = unknown fill (bounded input.width)
input_bits fill input (Some a) = at_size input.width a.signed a.bits

-- a variable whose bits aren't there yet
abbrev pub unknown_of : Bit → Size → List Bit
unknown_of fill s = unknown fill (bounded s.width)

-- what a statement does, and an item of a `case`
abbrev pub run_in : Setting → Statement → Frame → Frame
run_in s statement frame = run s.fill (calls_of s) (scene_values s) statement frame

abbrev pub branch_in : Setting → CaseItem → Branch
branch_in s item = branch s.fill (calls_of s) (scene_values s) item

-- the index of a part of a left side
unfoldable pub index_in : Setting → Frame → Part → List Bit
index_in s frame p = index_bits s.fill (operand_in s frame) p.target

-- its room
abbrev pub part_room : {T : Type 0} → Scene T → Part → ℕ
part_room s p = index_room (rooms s) p.target
