-- An expression's value doesn't hang on places.
use Rattle.std.proofs.Common.{◌≡◌, ℕ, Bool, false, List, [], ◌∷◌, map, flat_map, length, refl, sym, ◌∙◌, ap, subst}
use Rattle.vod_bits.specs.Bit.{Bit}
use Rattle.vod_design.specs.declared.sized.SizedExpr.{SizedExpr}
use Rattle.vod_design.specs.declared.sized.SizedKind.{SizedKind}
use Rattle.vod_design.specs.declared.sized.SizedKind.TheOpen.{SizedKind-F, SizedExpr-F}
use Rattle.vod_design.specs.declared.sized.SizedKind.TheFolds.{fold-SizedKind, fold-roll-SizedKind, fold-roll-SizedExpr, map-SizedKind, map-SizedExpr, ind-SizedExpr}
use Rattle.vod_design.specs.declared.sized.SizedKind.TheViews.{roll-SizedKind, roll-SizedExpr}
use Rattle.vod_design.specs.declared.statement.Function.{Function}
use Rattle.vod_design.specs.Values.{Values, Frame, Operand, at_size, index_place, named_bits, bit_at_place}
use Rattle.vod_design.specs.Eval.{Calls, gate_bit, kind_bits, sized_operand, operand_of}
use Rattle.vod_design.specs.Run.{call_below, eval}
use Rattle.vod_design.specs.Source.{node_unplaced, unplaced}

abbrev kind_unplaced : SizedKind → SizedKind
kind_unplaced k = fold-SizedKind SizedKind SizedExpr roll-SizedKind node_unplaced k

abbrev kind_value : Bit → Calls → Values → Frame → SizedKind → ℕ → Bool → List Bit
kind_value fill calls values frame k = fold-SizedKind (ℕ → Bool → List Bit) Operand (kind_bits fill calls values frame) sized_operand k

abbrev KindSame : Bit → Calls → Values → Frame → SizedKind → Type 0
KindSame fill calls values frame k = (w : ℕ) (s : Bool) → kind_value fill calls values frame (kind_unplaced k) w s ≡ kind_value fill calls values frame k w s

abbrev ExprSame : Bit → Calls → Values → Frame → SizedExpr → Type 0
ExprSame fill calls values frame e = operand_of fill calls values frame (unplaced e) ≡ operand_of fill calls values frame e

-- an expression beside the proof for it, and a kind
abbrev With : Bit → Calls → Values → Frame → Type 0
With fill calls values frame = (e : SizedExpr) × ExprSame fill calls values frame e

abbrev WithKind : Bit → Calls → Values → Frame → Type 0
WithKind fill calls values frame = (k : SizedKind) × KindSame fill calls values frame k

abbrev Layer : Type 0
Layer = SizedKind-F SizedKind SizedExpr

abbrev Proved : Bit → Calls → Values → Frame → Type 0
Proved fill calls values frame = SizedKind-F (WithKind fill calls values frame) (With fill calls values frame)

abbrev layer_value : Bit → Calls → Values → Frame → Layer → ℕ → Bool → List Bit
layer_value fill calls values frame x = kind_bits fill calls values frame (map-SizedKind SizedKind SizedExpr (ℕ → Bool → List Bit) Operand (kind_value fill calls values frame) (operand_of fill calls values frame) x)

abbrev layer_unplaced : Layer → Layer
layer_unplaced x = map-SizedKind SizedKind SizedExpr SizedKind SizedExpr kind_unplaced unplaced x

abbrev bare : (fill : Bit) (calls : Calls) (values : Values) (frame : Frame) → Proved fill calls values frame → Layer
bare fill calls values frame y = map-SizedKind (WithKind fill calls values frame) (With fill calls values frame) SizedKind SizedExpr (λ k. k.0) (λ e. e.0) y

all_same : (fill : Bit) (calls : Calls) (values : Values) (frame : Frame) (es : List (With fill calls values frame))
    → map (operand_of fill calls values frame) (map unplaced (map (λ e. e.0) es)) ≡ map (operand_of fill calls values frame) (map (λ e. e.0) es)
all_same fill calls values frame [] = refl
all_same fill calls values frame (e ∷ es) =
    let here : operand_of fill calls values frame (unplaced e.0) ≡ operand_of fill calls values frame e.0 = e.1 in
    let more : map (operand_of fill calls values frame) (map unplaced (map (λ e. e.0) es)) ≡ map (operand_of fill calls values frame) (map (λ e. e.0) es) = all_same fill calls values frame es in
    cc

layer_same : (fill : Bit) (calls : Calls) (values : Values) (frame : Frame) (y : Proved fill calls values frame) (w : ℕ) (s : Bool)
    → layer_value fill calls values frame (layer_unplaced (bare fill calls values frame y)) w s ≡ layer_value fill calls values frame (bare fill calls values frame y) w s
layer_same fill calls values frame (SizedKind-F.Number b) w s = refl
layer_same fill calls values frame (SizedKind-F.Name n) w s = refl
layer_same fill calls values frame (SizedKind-F.Select n low count) w s = refl
layer_same fill calls values frame (SizedKind-F.Index n least e) w s = ap (λ (o : Operand). bit_at_place fill (named_bits fill values frame n) (index_place least o.bits)) e.1
layer_same fill calls values frame (SizedKind-F.Word memory place) w s = refl
layer_same fill calls values frame (SizedKind-F.WordIndex memory least e) w s = let p = e.1 in cc
layer_same fill calls values frame (SizedKind-F.Unary op a) w s = let p = a.1 in cc
layer_same fill calls values frame (SizedKind-F.Binary op a b) w s = let p = a.1 in let q = b.1 in cc
layer_same fill calls values frame (SizedKind-F.Comparison op a b) w s = let p = a.1 in let q = b.1 in cc
layer_same fill calls values frame (SizedKind-F.LogicalNot a) w s = let p = a.1 in cc
layer_same fill calls values frame (SizedKind-F.Logical op a b) w s = let p = a.1 in let q = b.1 in cc
layer_same fill calls values frame (SizedKind-F.Reduction op a) w s = let p = a.1 in cc
layer_same fill calls values frame (SizedKind-F.Shift op a b) w s = let p = a.1 in let q = b.1 in cc
layer_same fill calls values frame (SizedKind-F.Conditional t a b) w s = let p = t.1 in let q = a.1 in let r = b.1 in cc
layer_same fill calls values frame (SizedKind-F.Concat parts) w s = ap (flat_map (λ (o : Operand). o.bits)) (all_same fill calls values frame parts)
layer_same fill calls values frame (SizedKind-F.Replicate count a) w s = let p = a.1 in cc
layer_same fill calls values frame (SizedKind-F.Call n arguments) w s = ap (calls n) (all_same fill calls values frame arguments)
layer_same fill calls values frame (SizedKind-F.Gate op inputs) w s =
    ap (λ (os : List Operand). gate_bit fill op (flat_map (λ (o : Operand). at_size 1 false o.bits) os) ∷ []) (all_same fill calls values frame inputs)

rolled : (fill : Bit) (calls : Calls) (values : Values) (frame : Frame) (y : Proved fill calls values frame) → KindSame fill calls values frame (roll-SizedKind (bare fill calls values frame y))
unfolding unplaced operand_of
rolled fill calls values frame y w s =
    let x = bare fill calls values frame y in
    let bare_is = fold-roll-SizedKind SizedKind SizedExpr roll-SizedKind node_unplaced x in
    let open_bare = fold-roll-SizedKind (ℕ → Bool → List Bit) Operand (kind_bits fill calls values frame) sized_operand (layer_unplaced x) in
    let open_whole = fold-roll-SizedKind (ℕ → Bool → List Bit) Operand (kind_bits fill calls values frame) sized_operand x in
    ap (λ (k : SizedKind). kind_value fill calls values frame k w s) bare_is
    ∙ ap (λ (f : ℕ → Bool → List Bit). f w s) open_bare ∙ layer_same fill calls values frame y w s ∙ sym (ap (λ (f : ℕ → Bool → List Bit). f w s) open_whole)

abbrev ProvedExpr : Bit → Calls → Values → Frame → Type 0
ProvedExpr fill calls values frame = SizedExpr-F (WithKind fill calls values frame) (With fill calls values frame)

abbrev operand : List Bit → Bool → Operand
operand b s = record { bits = b; signed = s }

abbrev node : ℕ → ℕ → Bool → SizedKind → SizedExpr-F SizedKind SizedExpr
node p w s k = record { place = p; width = w; signed = s; kind = k }

sized : (fill : Bit) (calls : Calls) (values : Values) (frame : Frame) (y : ProvedExpr fill calls values frame)
    → ExprSame fill calls values frame (roll-SizedExpr (map-SizedExpr (WithKind fill calls values frame) (With fill calls values frame) SizedKind SizedExpr (λ k. k.0) (λ e. e.0) y))
unfolding unplaced operand_of
sized fill calls values frame y =
    let x = map-SizedExpr (WithKind fill calls values frame) (With fill calls values frame) SizedKind SizedExpr (λ k. k.0) (λ e. e.0) y in
    let bare_is = fold-roll-SizedExpr SizedKind SizedExpr roll-SizedKind node_unplaced x in
    let open_bare = fold-roll-SizedExpr (ℕ → Bool → List Bit) Operand (kind_bits fill calls values frame) sized_operand (node 0 y.width y.signed (kind_unplaced y.kind.0)) in
    let open_whole = fold-roll-SizedExpr (ℕ → Bool → List Bit) Operand (kind_bits fill calls values frame) sized_operand x in
    ap (operand_of fill calls values frame) bare_is ∙ open_bare ∙ ap (λ b. operand (at_size y.width y.signed b) y.signed) (y.kind.1 y.width y.signed) ∙ sym open_whole

pub same : (fill : Bit) (calls : Calls) (values : Values) (frame : Frame) (e : SizedExpr) → ExprSame fill calls values frame e
same fill calls values frame =
    ind-SizedExpr (KindSame fill calls values frame) (ExprSame fill calls values frame)
    (λ x y is. let P : Layer → Type 0 = λ z. KindSame fill calls values frame (roll-SizedKind z) in subst P is (rolled fill calls values frame y))
    (λ x y is. let P : SizedExpr-F SizedKind SizedExpr → Type 0 = λ z. ExprSame fill calls values frame (roll-SizedExpr z) in subst P is (sized fill calls values frame y))

-- expressions that are equal but for places have one value
pub eval-unplaced : (fill : Bit) (functions : List Function) (values : Values) (frame : Frame) (a b : SizedExpr) → unplaced a ≡ unplaced b → eval fill functions values frame a ≡ eval fill functions values frame b
unfolding eval
eval-unplaced fill functions values frame a b h =
    let calls : Calls = call_below fill functions (length functions) in
    ap (λ (o : Operand). o.bits) (sym (same fill calls values frame a) ∙ ap (operand_of fill calls values frame) h ∙ same fill calls values frame b)
