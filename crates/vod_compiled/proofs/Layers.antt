-- What the steps of an expression are where one layer stands open, and how deep it is.
use Rattle.std.proofs.Common.{◌≡◌, ℕ, suc, max, Bool, ap, ◌∙◌}
use Rattle.vod_design.specs.declared.sized.SizedExpr.{SizedExpr}
use Rattle.vod_design.specs.declared.sized.SizedKind.{SizedKind}
use Rattle.vod_design.specs.declared.sized.SizedKind.TheOpen.{SizedKind-F}
use Rattle.vod_design.specs.declared.sized.SizedKind.TheFolds.{fold-SizedExpr, fold-SizedKind, map-SizedKind, fold-roll-SizedKind, fold_out-SizedExpr}
use Rattle.vod_design.specs.declared.sized.SizedKind.TheViews.{roll-SizedKind}
use Rattle.vod_compiled.specs.Code.{Coded, KindCoded, kind_coded, sized_coded, coded, input_at, kind_room, cells_of, kind_flat, is_flat}
use Rattle.vod_eval.specs.Room.{most}

-- one layer of an expression's kind
abbrev pub Layer : Type 0
Layer = SizedKind-F SizedKind SizedExpr

abbrev pub layer_coded : Layer → KindCoded
layer_coded x = kind_coded (map-SizedKind SizedKind SizedExpr KindCoded Coded (fold-SizedKind KindCoded Coded kind_coded sized_coded) coded x)

abbrev pub sized_layer : ℕ → Bool → KindCoded → Coded
sized_layer width signed k = record { input = λ d. input_at (k.source d) width signed; steps = k.steps width signed }

pub coded_at : (e : SizedExpr) (x : Layer) → e.kind ≡ roll-SizedKind x → coded e ≡ sized_layer e.width e.signed (layer_coded x)
unfolding coded
coded_at e x is =
    fold_out-SizedExpr KindCoded Coded kind_coded sized_coded e
    ∙ ap (λ k. sized_layer e.width e.signed (fold-SizedKind KindCoded Coded kind_coded sized_coded k)) is
    ∙ ap (sized_layer e.width e.signed) (fold-roll-SizedKind KindCoded Coded kind_coded sized_coded x)

abbrev pub kind_depth : SizedKind-F ℕ ℕ → ℕ
kind_depth (SizedKind-F.Number _) = 0
kind_depth (SizedKind-F.Name name) = 0
kind_depth (SizedKind-F.Select name low count) = 0
kind_depth (SizedKind-F.Index name least index) = index
kind_depth (SizedKind-F.Word memory place) = 0
kind_depth (SizedKind-F.WordIndex memory least index) = index
kind_depth (SizedKind-F.Unary op a) = a
kind_depth (SizedKind-F.Binary op a b) = max a b
kind_depth (SizedKind-F.Comparison op a b) = max a b
kind_depth (SizedKind-F.LogicalNot a) = a
kind_depth (SizedKind-F.Logical op a b) = max a b
kind_depth (SizedKind-F.Reduction op a) = a
kind_depth (SizedKind-F.Shift op a amount) = max a amount
kind_depth (SizedKind-F.Conditional test a b) = max test (max a b)
kind_depth (SizedKind-F.Concat parts) = most parts
kind_depth (SizedKind-F.Replicate count a) = a
kind_depth (SizedKind-F.Call n arguments) = most arguments
kind_depth (SizedKind-F.Gate op inputs) = most inputs

unfoldable pub depth : SizedExpr → ℕ
depth e = fold-SizedExpr ℕ ℕ kind_depth (λ e. suc e.kind) e

pub depth_at : (e : SizedExpr) (x : Layer) → e.kind ≡ roll-SizedKind x → depth e ≡ suc (kind_depth (map-SizedKind SizedKind SizedExpr ℕ ℕ (fold-SizedKind ℕ ℕ kind_depth (λ e. suc e.kind)) depth x))
unfolding depth
depth_at e x is = fold_out-SizedExpr ℕ ℕ kind_depth (λ e. suc e.kind) e ∙ ap (λ k. suc (fold-SizedKind ℕ ℕ kind_depth (λ e. suc e.kind) k)) is ∙ ap suc (fold-roll-SizedKind ℕ ℕ kind_depth (λ e. suc e.kind) x)

pub flat_at : (e : SizedExpr) (x : Layer) → e.kind ≡ roll-SizedKind x → is_flat e ≡ kind_flat (map-SizedKind SizedKind SizedExpr Bool Bool (fold-SizedKind Bool Bool kind_flat (λ e. e.kind)) is_flat x)
unfolding is_flat
flat_at e x is = fold_out-SizedExpr Bool Bool kind_flat (λ e. e.kind) e ∙ ap (λ k. fold-SizedKind Bool Bool kind_flat (λ e. e.kind) k) is ∙ fold-roll-SizedKind Bool Bool kind_flat (λ e. e.kind) x

pub cells_at : (e : SizedExpr) (x : Layer) → e.kind ≡ roll-SizedKind x → cells_of e ≡ kind_room (map-SizedKind SizedKind SizedExpr ℕ ℕ (fold-SizedKind ℕ ℕ kind_room (λ e. e.kind)) cells_of x)
unfolding cells_of
cells_at e x is = fold_out-SizedExpr ℕ ℕ kind_room (λ e. e.kind) e ∙ ap (λ k. fold-SizedKind ℕ ℕ kind_room (λ e. e.kind) k) is ∙ fold-roll-SizedKind ℕ ℕ kind_room (λ e. e.kind) x
