-- The steps of an expression.
use Rattle.std.specs.Prelude.{ℕ, suc, ◌+◌, ◌-◌, max, Bool, true, false, ◌&&◌, if◌then◌else◌, List, [], ◌∷◌, length}
use Rattle.vod_bits.specs.Bit.{B0}
use Rattle.vod_design.specs.declared.sized.Named.{Named}
use Rattle.vod_design.specs.declared.sized.Named.TheVariants as named
use Rattle.vod_design.specs.declared.sized.Variable.{Variable}
use Rattle.vod_design.specs.declared.sized.Variable.TheVariants as variable
use Rattle.vod_design.specs.declared.sized.GateOp.{GateOp}
use Rattle.vod_design.specs.declared.sized.SizedExpr.{SizedExpr}
use Rattle.vod_design.specs.declared.sized.SizedKind.TheOpen.{SizedKind-F, SizedExpr-F}
use Rattle.vod_design.specs.declared.sized.SizedKind.TheFolds.{fold-SizedExpr}
use Rattle.vod_design.specs.declared.statement.Function.{Function}
use Rattle.vod_eval.specs.Room.{most, expr_room, call_room}
use Rattle.vod_compiled.specs.declared.step.Source.{Source}
use Rattle.vod_compiled.specs.declared.step.Source.TheVariants.{Signal, Cell, Constant, Nothing}
use Rattle.vod_compiled.specs.declared.step.Input.{Input}
use Rattle.vod_compiled.specs.declared.step.Op.{Op}
use Rattle.vod_compiled.specs.declared.step.Op.TheVariants as op
use Rattle.vod_compiled.specs.declared.step.Step.{Step}

abbrev pub input_at : Source → ℕ → Bool → Input
input_at source width signed = record { source = source; width = width; signed = signed }

abbrev pub step_at : ℕ → ℕ → Bool → Op → Step
step_at to width signed o = record { to = to; width = width; signed = signed; op = o }

-- where the bits of a name come from: outside functions there are no variables
abbrev pub variable_source : Variable → Source
variable_source (variable.Signal n) = Signal n
variable_source (variable.Local n) = Nothing

abbrev pub name_source : Named → Source
name_source (named.Variable x) = variable_source x
name_source (named.Constant bits) = Constant bits

-- A part in flat form: where its value is found, and the steps that put it there, where it may use the cells from a place on and
-- given the steps behind it
pub record Coded : Type 0 where
  pub input : ℕ → Input
  pub steps : ℕ → List Step → List Step

-- a kind of expression in flat form: the same, given its size and sign
pub record KindCoded : Type 0 where
  pub source : ℕ → Source
  pub steps : ℕ → Bool → ℕ → List Step → List Step

-- in no steps
abbrev pub at_hand : Source → KindCoded
at_hand source = record { source = λ d. source; steps = λ width signed d rest. rest }

-- by steps that end with the value in the first of the cells
abbrev pub by_steps : (ℕ → Bool → ℕ → List Step → List Step) → KindCoded
by_steps steps = record { source = Cell; steps = steps }

-- by one step without operands, behind the steps of one operand, and behind those of two
abbrev pub by_step : (Op) → KindCoded
by_step o = by_steps (λ width signed d rest. step_at d width signed o ∷ rest)

abbrev pub behind_one : Coded → (Input → Op) → KindCoded
behind_one a o = by_steps (λ width signed d rest. a.steps d (step_at d width signed (o (a.input d)) ∷ rest))

abbrev pub behind_two : Coded → Coded → (Input → Input → Op) → KindCoded
behind_two a b o = by_steps (λ width signed d rest. a.steps d (b.steps (suc d) (step_at d width signed (o (a.input d) (b.input (suc d))) ∷ rest)))

-- The branch that isn't taken is left out: with the test's truth in doubt both are worked out, the first one into the cell behind
abbrev pub second_steps : ℕ → Bool → ℕ → Input → Coded → List Step → List Step
second_steps width signed d test b rest = b.steps (suc (suc d)) (step_at d width signed (op.Second test (b.input (suc (suc d)))) ∷ rest)

abbrev pub first_steps : ℕ → Bool → ℕ → Input → Coded → List Step → List Step → List Step
first_steps width signed d test a second rest = a.steps (suc d) (step_at d width signed (op.First test (a.input (suc d)) (length second - length rest)) ∷ second)

abbrev pub test_steps : ℕ → Bool → ℕ → Coded → List Step → List Step → List Step
test_steps width signed d test first second = test.steps d (step_at d width signed (op.Test (test.input d) (length first - length second)) ∷ first)

abbrev pub conditional_steps : Coded → Coded → Coded → ℕ → Bool → ℕ → List Step → List Step
conditional_steps test a b width signed d rest =
    let second = second_steps width signed d (test.input d) b rest in
    test_steps width signed d test (first_steps width signed d (test.input d) a second rest) second

-- parts one behind the other: the first one is copied, each further one joined to it
abbrev pub joined_steps : ℕ → Bool → ℕ → List Coded → List Step → List Step
joined_steps width signed d [] rest = rest
joined_steps width signed d (p ∷ ps) rest = p.steps (suc d) (step_at d width signed (op.Join (p.input (suc d))) ∷ joined_steps width signed d ps rest)

abbrev pub concat_steps : List Coded → ℕ → Bool → ℕ → List Step → List Step
concat_steps [] width signed d rest = step_at d width signed (op.Copy (input_at (Constant (B0 ∷ [])) 1 false)) ∷ rest
concat_steps (p ∷ ps) width signed d rest = p.steps d (step_at d width signed (op.Copy (p.input d)) ∷ joined_steps width signed d ps rest)

-- the inputs of a gate, one after the other, and the whole gate
abbrev pub inputs_steps : GateOp → ℕ → Bool → ℕ → List Coded → List Step → List Step
inputs_steps o width signed d [] rest = rest
inputs_steps o width signed d (p ∷ ps) rest = p.steps (suc d) (step_at d width signed (op.GateInput o (p.input (suc d))) ∷ inputs_steps o width signed d ps rest)

abbrev pub gate_steps : GateOp → List Coded → ℕ → Bool → ℕ → List Step → List Step
gate_steps o inputs width signed d rest = step_at d width signed (op.GateStart o) ∷ inputs_steps o width signed d inputs (step_at d width signed (op.GateEnd o) ∷ rest)

abbrev pub kind_coded : SizedKind-F KindCoded Coded → KindCoded
kind_coded (SizedKind-F.Number bits) = at_hand (Constant bits)
kind_coded (SizedKind-F.Name name) = at_hand (name_source name)
kind_coded (SizedKind-F.Select name low count) = by_step (op.Select (name_source name) low count)
kind_coded (SizedKind-F.Index name least index) = behind_one index (op.Index (name_source name) least)
kind_coded (SizedKind-F.Word memory place) = by_step (op.Word memory place)
kind_coded (SizedKind-F.WordIndex memory least index) = behind_one index (op.WordIndex memory least)
kind_coded (SizedKind-F.Unary o a) = behind_one a (op.Unary o)
kind_coded (SizedKind-F.Binary o a b) = behind_two a b (op.Binary o)
kind_coded (SizedKind-F.Comparison o a b) = behind_two a b (op.Comparison o)
kind_coded (SizedKind-F.LogicalNot a) = behind_one a op.LogicalNot
kind_coded (SizedKind-F.Logical o a b) = behind_two a b (op.Logical o)
kind_coded (SizedKind-F.Reduction o a) = behind_one a (op.Reduction o)
kind_coded (SizedKind-F.Shift o a amount) = behind_two a amount (op.Shift o)
kind_coded (SizedKind-F.Conditional test a b) = by_steps (conditional_steps test a b)
kind_coded (SizedKind-F.Concat parts) = by_steps (concat_steps parts)
kind_coded (SizedKind-F.Replicate count a) = behind_one a (op.Replicate count)
kind_coded (SizedKind-F.Call n arguments) = at_hand Nothing
kind_coded (SizedKind-F.Gate o inputs) = by_steps (gate_steps o inputs)

abbrev pub sized_coded : SizedExpr-F KindCoded Coded → Coded
sized_coded e = record { input = λ d. input_at (e.kind.source d) e.width e.signed; steps = e.kind.steps e.width e.signed }

unfoldable pub coded : SizedExpr → Coded
coded e = fold-SizedExpr KindCoded Coded kind_coded sized_coded e

-- the steps of an expression that may use all cells
abbrev pub steps_of : SizedExpr → List Step
steps_of e = (coded e).steps 0 []

-- how many cells the steps use
abbrev pub kind_room : SizedKind-F ℕ ℕ → ℕ
kind_room (SizedKind-F.Number _) = 0
kind_room (SizedKind-F.Name name) = 0
kind_room (SizedKind-F.Select name low count) = 1
kind_room (SizedKind-F.Index name least index) = max 1 index
kind_room (SizedKind-F.Word memory place) = 1
kind_room (SizedKind-F.WordIndex memory least index) = max 1 index
kind_room (SizedKind-F.Unary op a) = max 1 a
kind_room (SizedKind-F.Binary op a b) = max a (1 + b)
kind_room (SizedKind-F.Comparison op a b) = max a (1 + b)
kind_room (SizedKind-F.LogicalNot a) = max 1 a
kind_room (SizedKind-F.Logical op a b) = max a (1 + b)
kind_room (SizedKind-F.Reduction op a) = max 1 a
kind_room (SizedKind-F.Shift op a amount) = max a (1 + amount)
kind_room (SizedKind-F.Conditional test a b) = max test (1 + max a (1 + b))
kind_room (SizedKind-F.Concat parts) = 1 + most parts
kind_room (SizedKind-F.Replicate count a) = max 1 a
kind_room (SizedKind-F.Call n arguments) = 0
kind_room (SizedKind-F.Gate op inputs) = 1 + most inputs

unfoldable pub cells_of : SizedExpr → ℕ
cells_of e = fold-SizedExpr ℕ ℕ kind_room (λ e. e.kind) e

-- whether an expression calls no function
abbrev pub all_flat : List Bool → Bool
all_flat [] = true
all_flat (b ∷ bs) = b && all_flat bs

abbrev pub kind_flat : SizedKind-F Bool Bool → Bool
kind_flat (SizedKind-F.Number _) = true
kind_flat (SizedKind-F.Name name) = true
kind_flat (SizedKind-F.Select name low count) = true
kind_flat (SizedKind-F.Index name least index) = index
kind_flat (SizedKind-F.Word memory place) = true
kind_flat (SizedKind-F.WordIndex memory least index) = index
kind_flat (SizedKind-F.Unary op a) = a
kind_flat (SizedKind-F.Binary op a b) = a && b
kind_flat (SizedKind-F.Comparison op a b) = a && b
kind_flat (SizedKind-F.LogicalNot a) = a
kind_flat (SizedKind-F.Logical op a b) = a && b
kind_flat (SizedKind-F.Reduction op a) = a
kind_flat (SizedKind-F.Shift op a amount) = a && amount
kind_flat (SizedKind-F.Conditional test a b) = test && (a && b)
kind_flat (SizedKind-F.Concat parts) = all_flat parts
kind_flat (SizedKind-F.Replicate count a) = a
kind_flat (SizedKind-F.Call n arguments) = false
kind_flat (SizedKind-F.Gate op inputs) = all_flat inputs

unfoldable pub is_flat : SizedExpr → Bool
is_flat e = fold-SizedExpr Bool Bool kind_flat (λ e. e.kind) e

-- How many cells the value of an expression takes, where a call of each function takes some: what its steps use, or the room of the
-- tree that it is where it calls a function
abbrev pub room_by : (ℕ → ℕ) → SizedExpr → ℕ
room_by calls e = if is_flat e then cells_of e else expr_room calls e

-- the same of an expression of a design with these functions
abbrev pub room : List Function → SizedExpr → ℕ
room functions e = room_by (call_room functions (length functions)) e
