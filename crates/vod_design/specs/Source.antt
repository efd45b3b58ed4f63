-- Expressions but for where they stand in the source.
use Rattle.std.specs.Prelude.{map}
use Rattle.vod_design.specs.declared.sized.SizedExpr.{SizedExpr}
use Rattle.vod_design.specs.declared.sized.SizedKind.{SizedKind}
use Rattle.vod_design.specs.declared.sized.SizedKind.TheOpen.{SizedExpr-F}
use Rattle.vod_design.specs.declared.sized.SizedKind.TheFolds.{fold-SizedExpr}
use Rattle.vod_design.specs.declared.sized.SizedKind.TheViews.{roll-SizedKind, roll-SizedExpr}
use Rattle.vod_design.specs.declared.statement.CaseItem.{CaseItem}
use Rattle.vod_design.specs.declared.statement.Part.{Part}
use Rattle.vod_design.specs.declared.statement.PartTarget.{PartTarget}
use Rattle.vod_design.specs.declared.statement.PartTarget.TheVariants as part
use Rattle.vod_design.specs.declared.statement.Statement.{Statement}
use Rattle.vod_design.specs.declared.statement.Statement.TheOpen.{Statement-F, CaseItem-F}
use Rattle.vod_design.specs.declared.statement.Statement.TheFolds.{fold-Statement}
use Rattle.vod_design.specs.declared.statement.Statement.TheViews.{roll-Statement, roll-CaseItem}

-- a node without its place
abbrev pub node_unplaced : SizedExpr-F SizedKind SizedExpr → SizedExpr
node_unplaced e = roll-SizedExpr (record { place = 0; width = e.width; signed = e.signed; kind = e.kind })

-- an expression with each place 0: it is the same of two expressions exactly where they are equal but for places
unfoldable pub unplaced : SizedExpr → SizedExpr
unplaced e = fold-SizedExpr SizedKind SizedExpr roll-SizedKind node_unplaced e

-- a part of a left side without places
abbrev pub target_unplaced : PartTarget → PartTarget
target_unplaced (part.Bits x low) = part.Bits x low
target_unplaced (part.Index x least index) = part.Index x least (unplaced index)
target_unplaced (part.Word memory least index) = part.Word memory least (unplaced index)

abbrev pub part_unplaced : Part → Part
part_unplaced p = record { place = 0; low = p.low; width = p.width; target = target_unplaced p.target }

-- a statement whose statements are without places, and an item of a `case`
abbrev pub layer_unplaced : Statement-F Statement CaseItem → Statement-F Statement CaseItem
layer_unplaced (Statement-F.Assign parts right) = Statement-F.Assign (map part_unplaced parts) (unplaced right)
layer_unplaced (Statement-F.If test taken other) = Statement-F.If (unplaced test) taken other
layer_unplaced (Statement-F.Case tested items otherwise) = Statement-F.Case (unplaced tested) items otherwise
layer_unplaced (Statement-F.Begin statements) = Statement-F.Begin statements
layer_unplaced Statement-F.Empty = Statement-F.Empty

abbrev pub item_unplaced : CaseItem-F Statement CaseItem → CaseItem
item_unplaced item = roll-CaseItem (record { labels = map unplaced item.labels; body = item.body })

-- a statement with each place 0
unfoldable pub statement_unplaced : Statement → Statement
statement_unplaced s = fold-Statement Statement CaseItem (λ x. roll-Statement (layer_unplaced x)) item_unplaced s
