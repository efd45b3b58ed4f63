-- The body of an item of a `case` is less deep than the `case`, and takes its room at most.
use Rattle.std.proofs.Common.{◌≡◌, ℕ, ◌<◌, ◌≤◌, List, Option, Some, slice_get, option_and_then, arith}
use Rattle.vod_design.specs.declared.sized.SizedExpr.{SizedExpr}
use Rattle.vod_design.specs.declared.statement.CaseItem.{CaseItem}
use Rattle.vod_design.specs.declared.statement.Statement.{Statement}
use Rattle.vod_design.specs.declared.statement.Statement.TheOpen.{Statement-F}
use Rattle.vod_design.specs.declared.statement.Statement.TheViews.{roll-Statement}
use Rattle.vod_eval.specs.Room.{statement_room, item_room_of}
use Rattle.vod_eval.proofs.Callable.{most_found}
use Rattle.vod_eval.proofs.Depth.{statement_depth, item_depth}
use Rattle.vod_eval.proofs.Layers.{statement_depth_at, statement_room_at, item_depth_at, item_room_at}

pub body_depth_below : (s : Statement) (tested : SizedExpr) (items : List CaseItem) (otherwise : Statement) (number : Option ℕ) (item : CaseItem)
    → s ≡ roll-Statement (Statement-F.Case tested items otherwise) → option_and_then (slice_get items) number ≡ Some item → statement_depth item.body < statement_depth s
body_depth_below s tested items otherwise number item is found =
    omega (arith, statement_depth_at s (Statement-F.Case tested items otherwise) is, item_depth_at item, most_found item_depth items number item found)

pub body_room_below : (calls : ℕ → ℕ) (s : Statement) (tested : SizedExpr) (items : List CaseItem) (otherwise : Statement) (number : Option ℕ) (item : CaseItem)
    → s ≡ roll-Statement (Statement-F.Case tested items otherwise) → option_and_then (slice_get items) number ≡ Some item → statement_room calls item.body ≤ statement_room calls s
body_room_below calls s tested items otherwise number item is found =
    omega (arith, statement_room_at calls s (Statement-F.Case tested items otherwise) is, item_room_at calls item, most_found (item_room_of calls) items number item found)
