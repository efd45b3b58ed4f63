-- What the sizing gives where one layer of an expression stands open.
use Rattle.std.proofs.Common.{◌≡◌, ℕ, List, ap, ◌∙◌}
use Rattle.vod_tree.specs.declared.expr.Expr.{Expr}
use Rattle.vod_tree.specs.declared.expr.ExprKind.{ExprKind}
use Rattle.vod_tree.specs.declared.expr.ExprKind.TheOpen.{ExprKind-F}
use Rattle.vod_tree.specs.declared.expr.ExprKind.TheFolds.{fold-ExprKind, map-ExprKind, fold-roll-ExprKind, fold_out-Expr}
use Rattle.vod_tree.specs.declared.expr.ExprKind.TheViews.{roll-ExprKind}
use Rattle.vod_operand.specs.Operands.{Looked, at_place}
use Rattle.vod_width.specs.Names.{Declaration}
use Rattle.vod_width.specs.Sizes.{look_kind, look_whole, look, inside}

-- one layer of an expression's kind
abbrev pub Layer : Type 0
Layer = ExprKind-F ExprKind Expr

abbrev pub kind_look : List Declaration → ExprKind → ℕ → Looked
kind_look decls k = fold-ExprKind (ℕ → Looked) Looked (look_kind decls) look_whole k

pub look_at : (decls : List Declaration) (e : Expr) → look decls e ≡ at_place e.place (inside decls e)
unfolding look inside
look_at decls e = fold_out-Expr (ℕ → Looked) Looked (look_kind decls) look_whole e

pub inside_at : (decls : List Declaration) (e : Expr) (x : Layer) → e.kind ≡ roll-ExprKind x
    → inside decls e ≡ look_kind decls (map-ExprKind ExprKind Expr (ℕ → Looked) Looked (kind_look decls) (look decls) x) e.place
unfolding look inside
inside_at decls e x is = ap (λ k. kind_look decls k e.place) is ∙ ap (λ (f : ℕ → Looked). f e.place) (fold-roll-ExprKind (ℕ → Looked) Looked (look_kind decls) look_whole x)
