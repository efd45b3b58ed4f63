-- What the folds over expressions and statements give where one layer stands open.
use Rattle.std.proofs.Common.{◌≡◌, ℕ, suc, ◌≤◌, max, Bool, List, [], ◌∷◌, map, slice_get, Option, option_and_then, ap, sym, ◌∙◌, arith}
use Rattle.vod_bits.specs.Bit.{Bit}
use Rattle.vod_design.specs.declared.sized.SizedExpr.{SizedExpr}
use Rattle.vod_design.specs.declared.sized.SizedKind.{SizedKind}
use Rattle.vod_design.specs.declared.sized.SizedKind.TheOpen.{SizedKind-F}
use Rattle.vod_design.specs.declared.sized.SizedKind.TheFolds.{fold-SizedKind, map-SizedKind, fold-roll-SizedKind, fold_out-SizedExpr}
use Rattle.vod_design.specs.declared.sized.SizedKind.TheViews.{roll-SizedKind}
use Rattle.vod_design.specs.declared.read.Read.{Read}
use Rattle.vod_design.specs.Reads.{kind_reads, reads}
use Rattle.vod_design.specs.Values.{Values, Frame, Operand, at_size}
use Rattle.vod_design.specs.Eval.{Calls, kind_bits, sized_operand, operand_of}
use Rattle.vod_design.specs.declared.statement.CaseItem.{CaseItem}
use Rattle.vod_design.specs.declared.statement.Statement.{Statement}
use Rattle.vod_design.specs.declared.statement.Statement.TheOpen.{Statement-F}
use Rattle.vod_design.specs.declared.statement.Statement.TheFolds.{fold-Statement, map-Statement, fold-roll-Statement, fold_out-CaseItem}
use Rattle.vod_design.specs.declared.statement.Statement.TheViews.{roll-Statement}
use Rattle.vod_design.specs.Run.{Branch, item_taken, effect, branch_of, run, branch}
use Rattle.vod_eval.specs.Room.{kind_room, expr_room, most, effect_room, item_room, statement_room, labels_room, item_room_of}
use Rattle.vod_eval.specs.CaseLaws.{body_of, case_by_number}
use Rattle.vod_eval.proofs.Depth.{kind_depth, depth, effect_depth, item_step, statement_depth, labels_depth, item_depth}

-- one layer of an expression's kind
abbrev pub Layer : Type 0
Layer = SizedKind-F SizedKind SizedExpr

pub depth_at : (e : SizedExpr) (x : Layer) → e.kind ≡ roll-SizedKind x → depth e ≡ suc (kind_depth (map-SizedKind SizedKind SizedExpr ℕ ℕ (fold-SizedKind ℕ ℕ kind_depth (λ e. suc e.kind)) depth x))
unfolding depth
depth_at e x is = fold_out-SizedExpr ℕ ℕ kind_depth (λ e. suc e.kind) e ∙ ap (λ k. suc (fold-SizedKind ℕ ℕ kind_depth (λ e. suc e.kind) k)) is ∙ ap suc (fold-roll-SizedKind ℕ ℕ kind_depth (λ e. suc e.kind) x)

pub room_at : (calls : ℕ → ℕ) (e : SizedExpr) (x : Layer) → e.kind ≡ roll-SizedKind x
    → expr_room calls e ≡ kind_room calls (map-SizedKind SizedKind SizedExpr ℕ ℕ (fold-SizedKind ℕ ℕ (kind_room calls) (λ e. e.kind)) (expr_room calls) x)
unfolding expr_room
room_at calls e x is = fold_out-SizedExpr ℕ ℕ (kind_room calls) (λ e. e.kind) e ∙ ap (λ k. fold-SizedKind ℕ ℕ (kind_room calls) (λ e. e.kind) k) is ∙ fold-roll-SizedKind ℕ ℕ (kind_room calls) (λ e. e.kind) x

pub reads_at : (e : SizedExpr) (x : Layer) → e.kind ≡ roll-SizedKind x
    → reads e ≡ kind_reads (map-SizedKind SizedKind SizedExpr (List Read) (List Read) (fold-SizedKind (List Read) (List Read) kind_reads (λ e. e.kind)) reads x)
unfolding reads
reads_at e x is = fold_out-SizedExpr (List Read) (List Read) kind_reads (λ e. e.kind) e ∙ ap (λ k. fold-SizedKind (List Read) (List Read) kind_reads (λ e. e.kind) k) is ∙ fold-roll-SizedKind (List Read) (List Read) kind_reads (λ e. e.kind) x

pub value_at_kind : (fill : Bit) (calls : Calls) (values : Values) (frame : Frame) (e : SizedExpr) (x : Layer) → e.kind ≡ roll-SizedKind x
    → (operand_of fill calls values frame e).bits ≡ at_size e.width e.signed (kind_bits fill calls values frame (map-SizedKind SizedKind SizedExpr (ℕ → Bool → List Bit) Operand (fold-SizedKind (ℕ → Bool → List Bit) Operand (kind_bits fill calls values frame) sized_operand) (operand_of fill calls values frame) x) e.width e.signed)
unfolding operand_of
value_at_kind fill calls values frame e x is =
    ap (λ (o : Operand). o.bits) (fold_out-SizedExpr (ℕ → Bool → List Bit) Operand (kind_bits fill calls values frame) sized_operand e)
    ∙ ap (λ k. at_size e.width e.signed (fold-SizedKind (ℕ → Bool → List Bit) Operand (kind_bits fill calls values frame) sized_operand k e.width e.signed)) is
    ∙ ap (λ (v : ℕ → Bool → List Bit). at_size e.width e.signed (v e.width e.signed)) (fold-roll-SizedKind (ℕ → Bool → List Bit) Operand (kind_bits fill calls values frame) sized_operand x)

pub sign_of : (fill : Bit) (calls : Calls) (values : Values) (frame : Frame) (e : SizedExpr) → (operand_of fill calls values frame e).signed ≡ e.signed
unfolding operand_of
sign_of fill calls values frame e = ap (λ (o : Operand). o.signed) (fold_out-SizedExpr (ℕ → Bool → List Bit) Operand (kind_bits fill calls values frame) sized_operand e)

-- one layer of a statement
abbrev pub StatementLayer : Type 0
StatementLayer = Statement-F Statement CaseItem

pub statement_depth_at : (s : Statement) (x : StatementLayer) → s ≡ roll-Statement x → statement_depth s ≡ effect_depth (map-Statement Statement CaseItem ℕ ℕ statement_depth item_depth x)
unfolding statement_depth item_depth
statement_depth_at s x is = ap (fold-Statement ℕ ℕ effect_depth item_step) is ∙ fold-roll-Statement ℕ ℕ effect_depth item_step x

pub statement_room_at : (calls : ℕ → ℕ) (s : Statement) (x : StatementLayer) → s ≡ roll-Statement x
    → statement_room calls s ≡ effect_room calls (map-Statement Statement CaseItem ℕ ℕ (statement_room calls) (item_room_of calls) x)
unfolding statement_room item_room_of
statement_room_at calls s x is = ap (fold-Statement ℕ ℕ (effect_room calls) (item_room calls)) is ∙ fold-roll-Statement ℕ ℕ (effect_room calls) (item_room calls) x

pub run_at : (fill : Bit) (calls : Calls) (values : Values) (frame : Frame) (s : Statement) (x : StatementLayer) → s ≡ roll-Statement x
    → run fill calls values s frame ≡ effect fill (operand_of fill calls values) (map-Statement Statement CaseItem (Frame → Frame) Branch (run fill calls values) (branch fill calls values) x) frame
unfolding run branch
run_at fill calls values frame s x is =
    ap (λ s. fold-Statement (Frame → Frame) Branch (effect fill (operand_of fill calls values)) branch_of s frame) is
    ∙ ap (λ (f : Frame → Frame). f frame) (fold-roll-Statement (Frame → Frame) Branch (effect fill (operand_of fill calls values)) branch_of x)

pub item_depth_at : (item : CaseItem) → item_depth item ≡ max (most (map depth item.labels)) (statement_depth item.body)
unfolding statement_depth item_depth
item_depth_at item = fold_out-CaseItem ℕ ℕ effect_depth item_step item

pub item_room_at : (calls : ℕ → ℕ) (item : CaseItem) → item_room_of calls item ≡ max (most (map (expr_room calls) item.labels)) (statement_room calls item.body)
unfolding statement_room item_room_of
item_room_at calls item = fold_out-CaseItem ℕ ℕ (effect_room calls) (item_room calls) item

abbrev pub branch_with : List SizedExpr → (Frame → Frame) → Branch
branch_with labels body = record { labels = labels; body = body }

pub branch_at : (fill : Bit) (calls : Calls) (values : Values) (item : CaseItem) → branch fill calls values item ≡ branch_with item.labels (run fill calls values item.body)
unfolding run branch
branch_at fill calls values item = fold_out-CaseItem (Frame → Frame) Branch (effect fill (operand_of fill calls values)) branch_of item

-- a `case` does what its item of the number that it takes does
pub case_at : (fill : Bit) (calls : Calls) (values : Values) (frame : Frame) (s : Statement) (tested : SizedExpr) (items : List CaseItem) (otherwise : Statement) (number : Option ℕ)
    → s ≡ roll-Statement (Statement-F.Case tested items otherwise) → number ≡ item_taken (operand_of fill calls values frame) tested items
    → run fill calls values s frame ≡ body_of (branch fill calls values) (option_and_then (slice_get items) number) (run fill calls values otherwise) frame
case_at fill calls values frame s tested items otherwise number is taken =
    let value : SizedExpr → Operand = operand_of fill calls values frame in
    run_at fill calls values frame s (Statement-F.Case tested items otherwise) is
    ∙ ap (λ (f : Frame → Frame). f frame) (case_by_number value tested (branch fill calls values) (λ item. ap (λ (b : Branch). b.labels) (branch_at fill calls values item)) items (run fill calls values otherwise))
    ∙ ap (λ n. body_of (branch fill calls values) (option_and_then (slice_get items) n) (run fill calls values otherwise) frame) (sym taken)

-- the labels of an item are as deep as the item at most, and take its room at most
pub labels_depth_below : (items : List CaseItem) → most (map labels_depth items) ≤ most (map item_depth items)
labels_depth_below [] = omega arith
labels_depth_below (item ∷ more) =
    let here = item_depth_at item in
    let rest : most (map labels_depth more) ≤ most (map item_depth more) = labels_depth_below more in
    omega (arith, here)

pub labels_room_below : (calls : ℕ → ℕ) (items : List CaseItem) → most (map (labels_room calls) items) ≤ most (map (item_room_of calls) items)
labels_room_below calls [] = omega arith
labels_room_below calls (item ∷ more) =
    let here = item_room_at calls item in
    let rest : most (map (labels_room calls) more) ≤ most (map (item_room_of calls) more) = labels_room_below calls more in
    omega (arith, here)
