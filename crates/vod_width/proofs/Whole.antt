-- Each expression is the same tree at each size that it is given, and none without faults is too wide.
use Rattle.std.proofs.Common.{◌≡◌, ℕ, ◌≤◌, nat_lt, Bool, true, false, cond, List, [], ◌∷◌, Option, None, Some, refl, sym, ◌∙◌, subst, arith}
use Rattle.std.proofs.lemmas.Bool.Decides.{nat_tests}
use Rattle.vod_bits.specs.declared.TheConstants.{WIDTH}
use Rattle.vod_tree.specs.declared.expr.Expr.{Expr}
use Rattle.vod_tree.specs.declared.expr.ExprKind.{ExprKind}
use Rattle.vod_tree.specs.declared.expr.ExprKind.TheOpen.{ExprKind-F, Expr-F}
use Rattle.vod_tree.specs.declared.expr.ExprKind.TheFolds.{map-ExprKind, map-Expr, fold-roll-ExprKind, fold-roll-Expr, ind-Expr}
use Rattle.vod_tree.specs.declared.expr.ExprKind.TheViews.{roll-ExprKind, roll-Expr}
use Rattle.vod_design.specs.declared.sized.SizedExpr.{SizedExpr}
use Rattle.vod_design.specs.declared.sized.SizedKind.{SizedKind}
use Rattle.vod_operand.specs.declared.fault.Fault.TheVariants.{Width}
use Rattle.vod_operand.specs.Operands.{Looked, node, first, at_place}
use Rattle.vod_operand.specs.Fits.{Fits}
use Rattle.vod_operand.specs.Found.{Refits, IsNarrow}
use Rattle.vod_operand.specs.RefitLaws.{conditional_refits, placed_refits, stays, unary_refits, binary_refits}
use Rattle.vod_operand.specs.FaultLaws.{first_append, join_none}
use Rattle.vod_operand.specs.RefitLaws as refitted
use Rattle.vod_width.specs.declared.decls.Declared.{Declared}
use Rattle.vod_width.specs.Names.{Declaration, declared}
use Rattle.vod_width.specs.Sizes.{look_name, look_index, look_range, look_call, look_kind, look_whole, look, inside}
use Rattle.vod_width.proofs.Layers.{kind_look, look_at}
use Rattle.vod_width.specs.declared.decls.Declared.TheVariants as stands
use Rattle.vod_width.specs.declared.decls.Sort.TheVariants as sorts

name_refits : (place : ℕ) (d : Option Declared) → Refits (look_name place d)
name_refits place (Some (stands.Vector v)) = stays _ (refitted.fixed_Name v.name)
name_refits place (Some (stands.Ram m)) = stays _ (refitted.fixed_Number _)
name_refits place (Some (stands.Function f)) = stays _ (refitted.fixed_Number _)
name_refits place (Some (stands.Open sorts.Net)) = stays _ (refitted.fixed_Number _)
name_refits place (Some (stands.Open sorts.Constant)) = stays _ (refitted.fixed_Number _)
name_refits place (Some (stands.Open sorts.Ram)) = stays _ (refitted.fixed_Number _)
name_refits place (Some (stands.Open sorts.Function)) = stays _ (refitted.fixed_Number _)
name_refits place None = stays _ (refitted.fixed_Number _)

chosen : (b : Bool) (k l : SizedKind) → refitted.IsFixed k → refitted.IsFixed l → (w v : ℕ) (s t : Bool) (r : SizedExpr) → Fits w s (node v t (cond b k l)) r → r ≡ node w s (cond b k l)
chosen true k l f g = stays k f
chosen false k l f g = stays l g

index_refits : (place : ℕ) (d : Option Declared) (i : Looked) → Refits (look_index place d i)
index_refits place (Some (stands.Vector v)) i = chosen i.constant _ _ (refitted.fixed_Select _ _ _) (refitted.fixed_Index _ _ _)
index_refits place (Some (stands.Ram m)) i = chosen i.constant _ _ (refitted.fixed_Word _ _) (refitted.fixed_WordIndex _ _ _)
index_refits place (Some (stands.Function f)) i = stays _ (refitted.fixed_Number _)
index_refits place (Some (stands.Open sorts.Net)) i = stays _ (refitted.fixed_Number _)
index_refits place (Some (stands.Open sorts.Constant)) i = stays _ (refitted.fixed_Number _)
index_refits place (Some (stands.Open sorts.Ram)) i = stays _ (refitted.fixed_Number _)
index_refits place (Some (stands.Open sorts.Function)) i = stays _ (refitted.fixed_Number _)
index_refits place None i = stays _ (refitted.fixed_Number _)

range_refits : (place : ℕ) (d : Option Declared) (a b : Looked) → Refits (look_range place d a b)
range_refits place (Some (stands.Vector v)) a b = stays _ (refitted.fixed_Select _ _ _)
range_refits place (Some (stands.Ram m)) a b = stays _ (refitted.fixed_Number _)
range_refits place (Some (stands.Function f)) a b = stays _ (refitted.fixed_Number _)
range_refits place (Some (stands.Open sorts.Net)) a b = stays _ (refitted.fixed_Number _)
range_refits place (Some (stands.Open sorts.Constant)) a b = stays _ (refitted.fixed_Number _)
range_refits place (Some (stands.Open sorts.Ram)) a b = stays _ (refitted.fixed_Number _)
range_refits place (Some (stands.Open sorts.Function)) a b = stays _ (refitted.fixed_Number _)
range_refits place None a b = stays _ (refitted.fixed_Number _)

call_refits : (place : ℕ) (d : Option Declared) (xs : List Looked) → Refits (look_call place d xs)
call_refits place (Some (stands.Vector v)) xs = stays _ (refitted.fixed_Number _)
call_refits place (Some (stands.Ram m)) xs = stays _ (refitted.fixed_Number _)
call_refits place (Some (stands.Function f)) xs = stays _ (refitted.fixed_Call _ _)
call_refits place (Some (stands.Open sorts.Net)) xs = stays _ (refitted.fixed_Number _)
call_refits place (Some (stands.Open sorts.Constant)) xs = stays _ (refitted.fixed_Number _)
call_refits place (Some (stands.Open sorts.Ram)) xs = stays _ (refitted.fixed_Number _)
call_refits place (Some (stands.Open sorts.Function)) xs = stays _ (refitted.fixed_Number _)
call_refits place None xs = stays _ (refitted.fixed_Number _)

abbrev KindRefits : List Declaration → ExprKind → Type 0
KindRefits decls k = (place : ℕ) → Refits (kind_look decls k place)

-- an expression beside the proof for it
abbrev With : List Declaration → Type 0
With decls = (e : Expr) × Refits (look decls e)

abbrev Proved : List Declaration → Type 0
Proved decls = ExprKind-F ((k : ExprKind) × KindRefits decls k) (With decls)

abbrev bare : (decls : List Declaration) → Proved decls → ExprKind-F ExprKind Expr
bare decls y = map-ExprKind ((k : ExprKind) × KindRefits decls k) (With decls) ExprKind Expr (λ e. e.0) (λ e. e.0) y

layer_refits : (decls : List Declaration) (y : Proved decls) (place : ℕ) → Refits (look_kind decls (map-ExprKind ExprKind Expr (ℕ → Looked) Looked (kind_look decls) (look decls) (bare decls y)) place)
layer_refits decls (ExprKind-F.Number n) place = stays _ (refitted.fixed_Number _)
layer_refits decls (ExprKind-F.Name name) place = name_refits place (declared decls name.name)
layer_refits decls (ExprKind-F.Index name i) place = index_refits place (declared decls name.name) (look decls i.0)
layer_refits decls (ExprKind-F.Range name a b) place = range_refits place (declared decls name.name) (look decls a.0) (look decls b.0)
layer_refits decls (ExprKind-F.Call name xs) place = call_refits place (declared decls name.name) _
layer_refits decls (ExprKind-F.Paren a) place = a.1
layer_refits decls (ExprKind-F.Concat xs) place = stays _ (refitted.fixed_Concat _)
layer_refits decls (ExprKind-F.Replicate c xs) place = stays _ (refitted.fixed_Replicate _ _)
layer_refits decls (ExprKind-F.Unary op a) place = unary_refits op (look decls a.0) a.1
layer_refits decls (ExprKind-F.Binary op a b) place = binary_refits op (look decls a.0) (look decls b.0) a.1 b.1
layer_refits decls (ExprKind-F.Conditional t a b) place = conditional_refits (look decls t.0) (look decls a.0) (look decls b.0) a.1 b.1

rolled : (decls : List Declaration) (y : Proved decls) → KindRefits decls (roll-ExprKind (bare decls y))
unfolding look
rolled decls y place =
    let P : (ℕ → Looked) → Type 0 = λ f. Refits (f place) in
    subst P (sym (fold-roll-ExprKind (ℕ → Looked) Looked (look_kind decls) look_whole (bare decls y))) (layer_refits decls y place)

abbrev ProvedExpr : List Declaration → Type 0
ProvedExpr decls = Expr-F ((k : ExprKind) × KindRefits decls k) (With decls)

whole_refits : (decls : List Declaration) (y : ProvedExpr decls) → Refits (look decls (roll-Expr (map-Expr ((k : ExprKind) × KindRefits decls k) (With decls) ExprKind Expr (λ e. e.0) (λ e. e.0) y)))
unfolding look
whole_refits decls y =
    let x = map-Expr ((k : ExprKind) × KindRefits decls k) (With decls) ExprKind Expr (λ e. e.0) (λ e. e.0) y in
    let P : Looked → Type 0 = Refits in
    subst P (sym (fold-roll-Expr (ℕ → Looked) Looked (look_kind decls) look_whole x)) (placed_refits y.place (kind_look decls y.kind.0 y.place) (y.kind.1 y.place))

pub refits : (decls : List Declaration) (e : Expr) → Refits (look decls e)
refits decls =
    ind-Expr (KindRefits decls) (λ e. Refits (look decls e))
    (λ x y is. let P : ExprKind-F ExprKind Expr → Type 0 = λ z. KindRefits decls (roll-ExprKind z) in subst P is (rolled decls y))
    (λ x y is. let P : Expr-F ExprKind Expr → Type 0 = λ z. Refits (look decls (roll-Expr z)) in subst P is (whole_refits decls y))

within : (b : Bool) (place w : ℕ) → b ≡ nat_lt WIDTH w → first (cond b (Width place ∷ []) []) ≡ None → w ≤ WIDTH
within true place w e h = absurd (cc)
within false place w e h = grind (arith, nat_tests)

at_place_narrow : (place : ℕ) (x : Looked) → IsNarrow (at_place place x)
at_place_narrow place x h =
    let parts = join_none (first x.faults) (first (cond (nat_lt WIDTH x.width) (Width place ∷ []) [])) (sym (first_append x.faults (cond (nat_lt WIDTH x.width) (Width place ∷ []) [])) ∙ h) in
    within (nat_lt WIDTH x.width) place x.width refl parts.1

pub narrow : (decls : List Declaration) (e : Expr) → IsNarrow (look decls e)
narrow decls e =
    let P : Looked → Type 0 = IsNarrow in
    subst P (sym (look_at decls e)) (at_place_narrow e.place (inside decls e))
