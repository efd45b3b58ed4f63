-- What the expressions and statements of the small design use.
use Rattle.std.proofs.Common.{◌≡◌, ℕ, false, List, [], ◌∷◌, ◌∙◌, ap, All}
use Rattle.std.proofs.lemmas.List.Elements.{All-nil, All-cons}
use Rattle.vod_design.specs.declared.read.Read.{Read}
use Rattle.vod_design.specs.declared.sized.Named.TheVariants as named
use Rattle.vod_design.specs.declared.sized.SizedExpr.{SizedExpr}
use Rattle.vod_design.specs.declared.sized.SizedKind.{SizedKind}
use Rattle.vod_design.specs.declared.sized.SizedKind.TheOpen.{SizedKind-F, SizedExpr-F}
use Rattle.vod_design.specs.declared.sized.SizedKind.TheFolds.{fold-SizedKind, fold-roll-SizedKind, fold-roll-SizedExpr}
use Rattle.vod_design.specs.declared.sized.SizedKind.TheViews.{roll-SizedKind}
use Rattle.vod_design.specs.declared.sized.Variable.{Variable}
use Rattle.vod_design.specs.declared.statement.Statement.TheOpen.{Statement-F}
use Rattle.vod_design.specs.declared.statement.Statement.TheFolds.{fold-roll-Statement}
use Rattle.vod_design.specs.Functions.{Assigned, Checked, layer_checked, item_checked, statement_checked}
use Rattle.vod_design.specs.Reads.{reads, kind_reads, whole}
use Rattle.vod_design.specs.declared.read.Read.TheVariants as read
use Rattle.vod_design.specs.declared.sized.Variable.TheVariants as variable
use Rattle.vod_design.specs.Nets.{name_of}
use Rattle.vod_design.specs.Uses.{Use, Whole, Seen, Assignment, kind_uses, expr_seen, seen, uses, exprs, assignments, layer_exprs, item_exprs, layer_assignments, item_assignments}
use Rattle.rows_cells.specs.Small as small

abbrev open_kind : Variable → SizedKind-F SizedKind SizedExpr
open_kind x = SizedKind-F.Name (named.Variable x)

abbrev open_expr : Variable → SizedExpr-F SizedKind SizedExpr
open_expr x = record { place = 0; width = 1; signed = false; kind = roll-SizedKind (open_kind x) }

pub seen_whole : (x : Variable) → uses (small.whole x) ≡ Whole (named.Variable x) ∷ []
unfolding seen
seen_whole x =
    let kind = fold-roll-SizedKind (List Use) Seen kind_uses expr_seen (open_kind x) in
    let whole = fold-roll-SizedExpr (List Use) Seen kind_uses expr_seen (open_expr x) in
    ap (λ (s : Seen). s.uses) whole ∙ kind

pub reads_whole : (x : Variable) → reads (small.whole x) ≡ whole (named.Variable x)
unfolding reads
reads_whole x =
    let kind = fold-roll-SizedKind (List Read) (List Read) kind_reads (λ e. e.kind) (open_kind x) in
    let whole = fold-roll-SizedExpr (List Read) (List Read) kind_reads (λ e. e.kind) (open_expr x) in
    whole ∙ kind

pub exprs_copy : (from to : Variable) → exprs (small.copy from to) ≡ small.whole from ∷ []
unfolding exprs
exprs_copy from to = fold-roll-Statement (List SizedExpr) (List SizedExpr) layer_exprs item_exprs (Statement-F.Assign (small.part_of to ∷ []) (small.whole from))

abbrev pub assignment : Variable → Variable → Assignment
assignment from to = record { parts = small.part_of to ∷ []; right = small.whole from }

pub assignments_copy : (from to : Variable) → assignments (small.copy from to) ≡ assignment from to ∷ []
unfolding assignments
assignments_copy from to = fold-roll-Statement (List Assignment) (List Assignment) layer_assignments item_assignments (Statement-F.Assign (small.part_of to ∷ []) (small.whole from))

pub checked_copy : (widths : List ℕ) (from to : Variable) (assigned : Assigned)
    → statement_checked widths (small.copy from to) assigned ≡ layer_checked widths (Statement-F.Assign (small.part_of to ∷ []) (small.whole from)) assigned
unfolding statement_checked
checked_copy widths from to assigned =
    ap (λ (f : Assigned → Checked). f assigned) (fold-roll-Statement (Assigned → Checked) (Assigned → Checked) (layer_checked widths) item_checked (Statement-F.Assign (small.part_of to ∷ []) (small.whole from)))

-- names are told apart by what they read
abbrev pub name_reads : SizedKind → List Read
name_reads k = fold-SizedKind (List Read) (List Read) kind_reads (λ e. e.kind) k

pub name_read : (n : ℕ) → name_reads (name_of n) ≡ read.Whole n ∷ []
name_read n = fold-roll-SizedKind (List Read) (List Read) kind_reads (λ e. e.kind) (open_kind (variable.Signal n))

-- what holds of one holds of all of a list of one
pub all_one : {A : Type 0} (P : A → Type 0) (x : A) → P x → All P (x ∷ [])
all_one P x p = All-cons P x [] p (All-nil P)
