-- How deep expressions and statements are, by which their evaluation ends.
use Rattle.std.proofs.Common.{ℕ, suc, ◌+◌, ◌*◌, max, List, map}
use Rattle.vod_design.specs.declared.sized.SizedExpr.{SizedExpr}
use Rattle.vod_design.specs.declared.sized.SizedKind.TheOpen.{SizedKind-F}
use Rattle.vod_design.specs.declared.sized.SizedKind.TheFolds.{fold-SizedExpr}
use Rattle.vod_design.specs.declared.statement.CaseItem.{CaseItem}
use Rattle.vod_design.specs.declared.statement.Function.{Function}
use Rattle.vod_design.specs.declared.statement.Part.{Part}
use Rattle.vod_design.specs.declared.statement.PartTarget.{PartTarget}
use Rattle.vod_design.specs.declared.statement.PartTarget.TheVariants as part
use Rattle.vod_design.specs.declared.statement.Statement.{Statement}
use Rattle.vod_design.specs.declared.statement.Statement.TheOpen.{Statement-F, CaseItem-F}
use Rattle.vod_design.specs.declared.statement.Statement.TheFolds.{fold-Statement, fold-CaseItem}
use Rattle.vod_eval.specs.Room.{most}
use Rattle.vod_eval.specs.declared.scene.Scene.{Scene}

abbrev pub kind_depth : SizedKind-F ℕ ℕ → ℕ
kind_depth (SizedKind-F.Number _) = 0
kind_depth (SizedKind-F.Name name) = 0
kind_depth (SizedKind-F.Select name low count) = 0
kind_depth (SizedKind-F.Index name least index) = index
kind_depth (SizedKind-F.Word memory place) = 0
kind_depth (SizedKind-F.WordIndex memory least index) = index
kind_depth (SizedKind-F.Unary op a) = a
kind_depth (SizedKind-F.Binary op a b) = max a b
kind_depth (SizedKind-F.Comparison op a b) = max a b
kind_depth (SizedKind-F.LogicalNot a) = a
kind_depth (SizedKind-F.Logical op a b) = max a b
kind_depth (SizedKind-F.Reduction op a) = a
kind_depth (SizedKind-F.Shift op a amount) = max a amount
kind_depth (SizedKind-F.Conditional test a b) = max test (max a b)
kind_depth (SizedKind-F.Concat parts) = most parts
kind_depth (SizedKind-F.Replicate count a) = a
kind_depth (SizedKind-F.Call n arguments) = most arguments
kind_depth (SizedKind-F.Gate op inputs) = most inputs

unfoldable pub depth : SizedExpr → ℕ
depth e = fold-SizedExpr ℕ ℕ kind_depth (λ e. suc e.kind) e

abbrev pub index_depth : PartTarget → ℕ
index_depth (part.Bits x low) = 0
index_depth (part.Index x least index) = depth index
index_depth (part.Word memory least index) = depth index

abbrev pub part_depth : Part → ℕ
part_depth p = index_depth p.target

abbrev pub effect_depth : Statement-F ℕ ℕ → ℕ
effect_depth (Statement-F.Assign parts right) = suc (max (depth right) (most (map part_depth parts)))
effect_depth (Statement-F.If test taken other) = suc (max (depth test) (max taken other))
effect_depth (Statement-F.Case tested items otherwise) = suc (max (depth tested) (max (most items) otherwise))
effect_depth (Statement-F.Begin statements) = suc (most statements)
effect_depth Statement-F.Empty = 0

abbrev pub labels_depth : CaseItem → ℕ
labels_depth item = most (map depth item.labels)

abbrev pub item_step : CaseItem-F ℕ ℕ → ℕ
item_step item = max (most (map depth item.labels)) item.body

unfoldable pub statement_depth : Statement → ℕ
statement_depth s = fold-Statement ℕ ℕ effect_depth item_step s

unfoldable pub item_depth : CaseItem → ℕ
item_depth item = fold-CaseItem ℕ ℕ effect_depth item_step item

-- more than the body of any function has
abbrev pub bodies_depth : List Function → ℕ
bodies_depth functions = most (map (λ f. statement_depth f.body) functions)

abbrev pub base : {T : Type 0} → Scene T → ℕ
base s = s.limit * (5 * bodies_depth s.functions.now + 3)
