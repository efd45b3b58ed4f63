-- What the nodes of expressions and statements take from elsewhere.
use Rattle.std.specs.Prelude.{ℕ, Bool, true, false, List, [], ◌∷◌, ◌++◌, length, flat_map}
use Rattle.std.specs.List.{list_all}
use Rattle.vod_design.specs.declared.sized.GateOp.{GateOp}
use Rattle.vod_design.specs.declared.sized.NamedMemory.{NamedMemory}
use Rattle.vod_design.specs.declared.sized.Named.{Named}
use Rattle.vod_design.specs.declared.sized.SizedExpr.{SizedExpr}
use Rattle.vod_design.specs.declared.sized.SizedKind.TheOpen.{SizedKind-F, SizedExpr-F}
use Rattle.vod_design.specs.declared.sized.SizedKind.TheFolds.{fold-SizedExpr}
use Rattle.vod_design.specs.declared.sized.Variable.{Variable}
use Rattle.vod_design.specs.declared.sized.Variable.TheVariants as variable
use Rattle.vod_design.specs.declared.statement.Part.{Part}
use Rattle.vod_design.specs.declared.statement.PartTarget.{PartTarget}
use Rattle.vod_design.specs.declared.statement.PartTarget.TheVariants as part
use Rattle.vod_design.specs.declared.statement.Statement.{Statement}
use Rattle.vod_design.specs.declared.statement.Statement.TheOpen.{Statement-F, CaseItem-F}
use Rattle.vod_design.specs.declared.statement.Statement.TheFolds.{fold-Statement}

-- an index: how many bits it has, and whether it is signed
pub record IndexSize : Type 0 where
  pub width : ℕ
  pub signed : Bool

-- what one node takes: the whole of a name; bits of it, from a place up; a bit by an index above the least one; a word of a memory
-- at a place or by an index; a function with so many arguments; so many inputs of a gate
pub data Use : Type 0 where
  Whole : Named → Use
  Bits : Named → ℕ → ℕ → Use
  BitAt : Named → ℕ → IndexSize → Use
  Word : NamedMemory → ℕ → Use
  WordAt : NamedMemory → ℕ → IndexSize → Use
  Called : ℕ → ℕ → Use
  Inputs : GateOp → ℕ → Use

-- what an expression takes, with its size and sign
pub record Seen : Type 0 where
  pub uses : List Use
  pub size : IndexSize

abbrev pub all_uses : List Seen → List Use
all_uses parts = flat_map (λ part. part.uses) parts

-- what each kind of node takes, behind what its operands take
abbrev pub kind_uses : SizedKind-F (List Use) Seen → List Use
kind_uses (SizedKind-F.Number _) = []
kind_uses (SizedKind-F.Name name) = Whole name ∷ []
kind_uses (SizedKind-F.Select name low width) = Bits name low width ∷ []
kind_uses (SizedKind-F.Index name least index) = index.uses ++ BitAt name least index.size ∷ []
kind_uses (SizedKind-F.Word memory place) = Word memory place ∷ []
kind_uses (SizedKind-F.WordIndex memory least index) = index.uses ++ WordAt memory least index.size ∷ []
kind_uses (SizedKind-F.Unary op a) = a.uses
kind_uses (SizedKind-F.Binary op a b) = a.uses ++ b.uses
kind_uses (SizedKind-F.Comparison op a b) = a.uses ++ b.uses
kind_uses (SizedKind-F.LogicalNot a) = a.uses
kind_uses (SizedKind-F.Logical op a b) = a.uses ++ b.uses
kind_uses (SizedKind-F.Reduction op a) = a.uses
kind_uses (SizedKind-F.Shift op a amount) = a.uses ++ amount.uses
kind_uses (SizedKind-F.Conditional test a b) = test.uses ++ a.uses ++ b.uses
kind_uses (SizedKind-F.Concat parts) = all_uses parts
kind_uses (SizedKind-F.Replicate count a) = a.uses
kind_uses (SizedKind-F.Call n arguments) = all_uses arguments ++ Called n (length arguments) ∷ []
kind_uses (SizedKind-F.Gate op inputs) = all_uses inputs ++ Inputs op (length inputs) ∷ []

abbrev pub index_size : SizedExpr-F (List Use) Seen → IndexSize
index_size e = record { width = e.width; signed = e.signed }

abbrev pub expr_seen : SizedExpr-F (List Use) Seen → Seen
expr_seen e = record { uses = e.kind; size = index_size e }

-- all that an expression takes
unfoldable pub seen : SizedExpr → Seen
seen e = fold-SizedExpr (List Use) Seen kind_uses expr_seen e

abbrev pub uses : SizedExpr → List Use
uses e = (seen e).uses

-- the index of a part of a left side
abbrev pub part_index : PartTarget → List SizedExpr
part_index (part.Bits x low) = []
part_index (part.Index x least index) = index ∷ []
part_index (part.Word memory least index) = index ∷ []

-- all expressions of a statement: tests, values and labels of a `case`, right sides and indices
abbrev pub layer_exprs : Statement-F (List SizedExpr) (List SizedExpr) → List SizedExpr
layer_exprs (Statement-F.Assign parts right) = right ∷ flat_map (λ p. part_index p.target) parts
layer_exprs (Statement-F.If test taken other) = test ∷ taken ++ other
layer_exprs (Statement-F.Case tested items otherwise) = tested ∷ flat_map (λ item. item) items ++ otherwise
layer_exprs (Statement-F.Begin statements) = flat_map (λ s. s) statements
layer_exprs Statement-F.Empty = []

abbrev pub item_exprs : CaseItem-F (List SizedExpr) (List SizedExpr) → List SizedExpr
item_exprs item = item.labels ++ item.body

unfoldable pub exprs : Statement → List SizedExpr
exprs s = fold-Statement (List SizedExpr) (List SizedExpr) layer_exprs item_exprs s

-- an assignment: the parts of its left side, and its right side
pub record Assignment : Type 0 where
  pub parts : List Part
  pub right : SizedExpr

abbrev pub layer_assignments : Statement-F (List Assignment) (List Assignment) → List Assignment
layer_assignments (Statement-F.Assign parts right) = record { parts = parts; right = right } ∷ []
layer_assignments (Statement-F.If test taken other) = taken ++ other
layer_assignments (Statement-F.Case tested items otherwise) = flat_map (λ item. item) items ++ otherwise
layer_assignments (Statement-F.Begin statements) = flat_map (λ s. s) statements
layer_assignments Statement-F.Empty = []

abbrev pub item_assignments : CaseItem-F (List Assignment) (List Assignment) → List Assignment
item_assignments item = item.body

-- all assignments of a statement
unfoldable pub assignments : Statement → List Assignment
assignments s = fold-Statement (List Assignment) (List Assignment) layer_assignments item_assignments s

-- whether a statement holds `begin`, `;` and assignments alone
abbrev pub is_plain_layer : Statement-F Bool Bool → Bool
is_plain_layer (Statement-F.Assign parts right) = true
is_plain_layer (Statement-F.If test taken other) = false
is_plain_layer (Statement-F.Case tested items otherwise) = false
is_plain_layer (Statement-F.Begin statements) = list_all (λ s. s) statements
is_plain_layer Statement-F.Empty = true

unfoldable pub is_plain : Statement → Bool
is_plain s = fold-Statement Bool Bool is_plain_layer (λ item. item.body) s

-- a register or a memory that a statement assigns
pub data Written : Type 0 where
  OfRegister : ℕ → Written
  OfMemory : ℕ → Written

abbrev pub variable_written : Variable → List Written
variable_written (variable.Signal n) = OfRegister n ∷ []
variable_written (variable.Local n) = []

abbrev pub part_written : PartTarget → List Written
part_written (part.Bits x low) = variable_written x
part_written (part.Index x least index) = variable_written x
part_written (part.Word memory least index) = OfMemory memory ∷ []

abbrev pub written_by : Statement → List Written
written_by s = flat_map (λ a. flat_map (λ p. part_written p.target) a.parts) (assignments s)
