-- What a statement of a function does, and the value that a call gives (IEEE 1364-2005, 9.2 to 9.5, 10.4).
use Rattle.std.specs.Prelude.{Bool, ℕ, zero, suc, ◌+◌, ◌-◌, nat_le, max, ◌==◌, if◌then◌else◌, List, [], ◌∷◌, ◌++◌, length, map, flat_map, take, drop, slice_get, slice_set, Option, None, Some}
use Rattle.std.specs.List.{list_any, list_all}
use Rattle.vod_bits.specs.Bit.{Bit, is_1}
use Rattle.vod_four.specs.Four.{truth_bit}
use Rattle.vod_design.specs.declared.sized.SizedExpr.{SizedExpr}
use Rattle.vod_design.specs.declared.sized.Variable.TheVariants.{Signal, Local}
use Rattle.vod_design.specs.declared.statement.CaseItem.{CaseItem}
use Rattle.vod_design.specs.declared.statement.Function.{Function}
use Rattle.vod_design.specs.declared.statement.Part.{Part}
use Rattle.vod_design.specs.declared.statement.PartTarget.{PartTarget}
use Rattle.vod_design.specs.declared.statement.PartTarget.TheVariants as part
use Rattle.vod_design.specs.declared.statement.Size.{Size}
use Rattle.vod_design.specs.declared.statement.Statement.{Statement}
use Rattle.vod_design.specs.declared.statement.Statement.TheOpen.{Statement-F, CaseItem-F}
use Rattle.vod_design.specs.declared.statement.Statement.TheFolds.{fold-Statement, fold-CaseItem}
use Rattle.vod_design.specs.declared.statement.Target.{Target}
use Rattle.vod_design.specs.declared.statement.Target.TheVariants.{Bits, Word}
use Rattle.vod_design.specs.Values.{Values, Frame, Operand, unknown, bounded, at_size, value_at, select_bits, index_place}
use Rattle.vod_design.specs.Eval.{Calls, identical_bit, operand_of}

-- the index of a part, a bit that isn't there where it has none
abbrev pub index_bits : Bit → (SizedExpr → Operand) → PartTarget → List Bit
index_bits fill value (part.Bits x low) = fill ∷ []
index_bits fill value (part.Index x least index) = (value index).bits
index_bits fill value (part.Word memory least index) = (value index).bits

-- the place that a part writes where its index has a value: none where a bit of it is x or z
abbrev pub at_index : (ℕ → Target) → Option ℕ → Option Target
at_index place None = None
at_index place (Some n) = Some (place n)

abbrev pub target_of : PartTarget → List Bit → Option Target
target_of (part.Bits x low) index = Some (Bits x low)
target_of (part.Index x least _) index = at_index (Bits x) (index_place least index)
target_of (part.Word memory least _) index = at_index (Word memory) (index_place least index)

-- a value with bits from a place up replaced; bits that aren't inside change nothing
unfoldable pub replace_bits : ℕ → List Bit → List Bit → List Bit
replace_bits low new old =
    if nat_le (low + length new) (length old) then take (length old - (low + length new)) old ++ new ++ drop (length old - low) old else old

-- the place that a part of a left side writes, where its index has its value
abbrev pub part_target : Bit → (SizedExpr → Operand) → Part → Option Target
part_target fill value p = target_of p.target (index_bits fill value p.target)

-- what a function's variables are after bits were assigned to a place; it has no others
abbrev pub written : Bit → Option Target → List Bit → Frame → Frame
written fill None new frame = frame
written fill (Some (Bits (Signal n) low)) new frame = frame
written fill (Some (Bits (Local n) low)) new frame = slice_set frame n (replace_bits low new (value_at fill frame n))
written fill (Some (Word memory place)) new frame = frame

-- the parts of a left side, from the left, each with the value of its index, take their bits of a value (9.2.1)
abbrev pub assigned : Bit → List Part → List (List Bit) → List Bit → Frame → Frame
assigned fill [] indices value frame = frame
assigned fill (p ∷ parts) [] value frame = frame
assigned fill (p ∷ parts) (index ∷ indices) value frame =
    assigned fill parts indices value (written fill (target_of p.target index) (select_bits fill p.low (bounded p.width) value) frame)

-- one statement after the other
abbrev pub in_turn : List (Frame → Frame) → Frame → Frame
in_turn [] frame = frame
in_turn (s ∷ ss) frame = in_turn ss (s frame)

-- an item of a `case`: its labels, and what is taken with it
pub record Choice (B : Type 0) : Type 0 where
  pub labels : List SizedExpr
  pub body : B

-- where that is what its body does
abbrev pub Branch : Type 0
Branch = Choice (Frame → Frame)

-- the value and the labels of a `case`
abbrev pub compared_in : {B : Type 0} → SizedExpr → List (Choice B) → List SizedExpr
compared_in tested items = tested ∷ flat_map (λ item. item.labels) items

-- the largest size of several expressions, and whether all of them are signed
abbrev pub largest : List SizedExpr → ℕ
largest [] = 0
largest (e ∷ more) = max e.width (largest more)

abbrev pub all_signed : List SizedExpr → Bool
all_signed es = list_all (λ e. e.signed) es

-- a value at the size of a `case`: the largest of all its expressions, as a signed one only where all of them are (9.5)
abbrev pub at_largest : List SizedExpr → List Bit → List Bit
at_largest es value = at_size (largest es) (all_signed es) value

-- whether a label is equal to the value, x and z included (9.5)
abbrev pub has_label : (SizedExpr → List Bit) → List Bit → List SizedExpr → Bool
has_label value tested labels = list_any (λ label. is_1 (identical_bit tested (value label))) labels

-- what is taken with the first item with such a label, or else with the last branch
abbrev pub first_branch : {B : Type 0} → (SizedExpr → List Bit) → List Bit → List (Choice B) → B → B
first_branch value tested [] otherwise = otherwise
first_branch value tested (item ∷ more) otherwise = if has_label value tested item.labels then item.body else first_branch value tested more otherwise

-- what a `case` takes, where its expressions have these values
abbrev pub case_branch : {B : Type 0} → (SizedExpr → Operand) → SizedExpr → List (Choice B) → B → B
case_branch value tested items otherwise =
    first_branch (λ e. at_largest (compared_in tested items) (value e).bits) (at_largest (compared_in tested items) (value tested).bits) items otherwise

-- the items of a `case`, each with its number, from n up
abbrev pub numbered : ℕ → List CaseItem → List (Choice (Option ℕ))
numbered n [] = []
numbered n (item ∷ more) = record { labels = item.labels; body = Some n } ∷ numbered (suc n) more

-- the item that a `case` takes, by its number: none where that is the last branch
abbrev pub item_taken : (SizedExpr → Operand) → SizedExpr → List CaseItem → Option ℕ
item_taken value tested items = case_branch value tested (numbered 0 items) None

-- what a statement does to a function's variables. The indices of a left side are evaluated before its parts are written
abbrev pub effect : Bit → (Frame → SizedExpr → Operand) → Statement-F (Frame → Frame) Branch → Frame → Frame
effect fill value (Statement-F.Assign parts right) frame = assigned fill parts (map (λ p. index_bits fill (value frame) p.target) parts) (value frame right).bits frame
effect fill value (Statement-F.If test taken other) frame = (if is_1 (truth_bit (value frame test).bits) then taken else other) frame
effect fill value (Statement-F.Case tested items otherwise) frame = case_branch (value frame) tested items otherwise frame
effect fill value (Statement-F.Begin statements) frame = in_turn statements frame
effect fill value Statement-F.Empty frame = frame

abbrev pub branch_of : CaseItem-F (Frame → Frame) Branch → Branch
branch_of item = record { labels = item.labels; body = item.body }

unfoldable pub run : Bit → Calls → Values → Statement → Frame → Frame
run fill calls values s = fold-Statement (Frame → Frame) Branch (effect fill (operand_of fill calls values)) branch_of s

unfoldable pub branch : Bit → Calls → Values → CaseItem → Branch
branch fill calls values item = fold-CaseItem (Frame → Frame) Branch (effect fill (operand_of fill calls values)) branch_of item

-- A function's body sees the function's variables alone: no signal and no memory word has a value there (10.4.4).
abbrev pub nothing : Bit → Values
nothing fill = record { signal = λ n. fill ∷ []; word = λ memory place. None }

-- A call assigns each argument to its input (10.4.3); an input without one has bits that aren't there
abbrev pub entered : Bit → List Size → List Operand → Frame
entered fill [] arguments = []
entered fill (input ∷ inputs) [] = unknown fill (bounded input.width) ∷ entered fill inputs []
entered fill (input ∷ inputs) (a ∷ arguments) = at_size input.width a.signed a.bits ∷ entered fill inputs arguments

-- a function's variables as it is entered: the inputs, then the locals and the result, whose bits aren't there yet
abbrev pub frame_of : Bit → Function → List Operand → Frame
frame_of fill f arguments = entered fill f.inputs arguments ++ map (λ l. unknown fill (bounded l.width)) f.locals ++ unknown fill (bounded f.width) ∷ []

-- the value of a call: that of the result after the body
abbrev pub result_of : Bit → Calls → Option Function → List Operand → List Bit
result_of fill calls None arguments = fill ∷ []
result_of fill calls (Some f) arguments = value_at fill (run fill calls (nothing fill) f.body (frame_of fill f arguments)) (length f.inputs + length f.locals)

-- the value of a call where the first k functions may be called: each calls those before it alone (10.4.4)
abbrev pub call_below : Bit → List Function → ℕ → Calls
call_below fill functions zero n arguments = fill ∷ []
call_below fill functions (suc k) n arguments =
    if n == k then result_of fill (call_below fill functions k) (slice_get functions k) arguments else call_below fill functions k n arguments

-- the value of an expression, given what a bit is that isn't there (x where values have four states), the functions, the values of
-- signals and memory words, and those of the variables of the function that it stands in
unfoldable pub eval : Bit → List Function → Values → Frame → SizedExpr → List Bit
eval fill functions values frame e = (operand_of fill (call_below fill functions (length functions)) values frame e).bits

-- an expression as an operand that stands in no function
abbrev pub operand_outside : Bit → List Function → Values → SizedExpr → Operand
operand_outside fill functions values e = operand_of fill (call_below fill functions (length functions)) values [] e
