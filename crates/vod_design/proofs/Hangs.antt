-- An expression's value hangs on what it reads alone.
use Rattle.std.proofs.Common.{◌≡◌, ℕ, Bool, false, List, [], ◌∷◌, ◌++◌, map, flat_map, length, refl, sym, ◌∙◌, ap, subst, Option, None, Some, All}
use Rattle.std.specs.List.{AllByRecursion}
use Rattle.std.proofs.lemmas.List.Elements.{recursion_from_All}
use Rattle.vod_bits.specs.Bit.{Bit}
use Rattle.vod_design.specs.declared.sized.Variable.TheVariants.{Signal, Local}
use Rattle.vod_design.specs.declared.sized.Named.{Named}
use Rattle.vod_design.specs.declared.sized.Named.TheVariants as named
use Rattle.vod_design.specs.declared.sized.SizedExpr.{SizedExpr}
use Rattle.vod_design.specs.declared.sized.SizedKind.{SizedKind}
use Rattle.vod_design.specs.declared.sized.SizedKind.TheOpen.{SizedKind-F, SizedExpr-F}
use Rattle.vod_design.specs.declared.sized.SizedKind.TheFolds.{fold-SizedKind, fold-roll-SizedKind, fold-roll-SizedExpr, map-SizedKind, map-SizedExpr, ind-SizedExpr}
use Rattle.vod_design.specs.declared.sized.SizedKind.TheViews.{roll-SizedKind, roll-SizedExpr}
use Rattle.vod_design.specs.Values.{Values, Frame, Operand, bounded, at_size, select_bits, index_place, named_bits, bit_at_place, word_or_x, word_at}
use Rattle.vod_design.specs.Eval.{Calls, gate_bit, kind_bits, sized_operand, operand_of}
use Rattle.vod_design.specs.declared.statement.Function.{Function}
use Rattle.vod_design.specs.Run.{call_below, eval}
use Rattle.vod_design.specs.declared.read.Read.{Read}
use Rattle.vod_design.specs.declared.read.Read.TheVariants.{Ram}
use Rattle.vod_design.specs.Reads.{whole, bits, kind_reads, reads, Agree}

abbrev Alike : Bit → Values → Values → List Read → Type 0
Alike fill u v rs = AllByRecursion (Agree fill u v) rs

front : (fill : Bit) (u v : Values) (xs ys : List Read) → Alike fill u v (xs ++ ys) → Alike fill u v xs
front fill u v [] ys h = tt
front fill u v (x ∷ xs) ys h = (h.0, front fill u v xs ys h.1)

back : (fill : Bit) (u v : Values) (xs ys : List Read) → Alike fill u v (xs ++ ys) → Alike fill u v ys
back fill u v [] ys h = h
back fill u v (x ∷ xs) ys h = back fill u v xs ys h.1

whole_same : (fill : Bit) (u v : Values) (frame : Frame) (n : Named) → Alike fill u v (whole n) → named_bits fill u frame n ≡ named_bits fill v frame n
whole_same fill u v frame (named.Variable (Signal n)) h = h.0
whole_same fill u v frame (named.Variable (Local n)) h = refl
whole_same fill u v frame (named.Constant b) h = refl

bits_same : (fill : Bit) (u v : Values) (frame : Frame) (n : Named) (low width : ℕ) → Alike fill u v (bits n low width) → select_bits fill low (bounded width) (named_bits fill u frame n) ≡ select_bits fill low (bounded width) (named_bits fill v frame n)
bits_same fill u v frame (named.Variable (Signal n)) low width h = h.0
bits_same fill u v frame (named.Variable (Local n)) low width h = refl
bits_same fill u v frame (named.Constant b) low width h = refl

ram_same : (fill : Bit) (u v : Values) (memory : ℕ) (place : Option ℕ) → Agree fill u v (Ram memory) → word_at u memory place ≡ word_at v memory place
ram_same fill u v memory None h = refl
ram_same fill u v memory (Some p) h = h p

abbrev kind_reads_of : SizedKind → List Read
kind_reads_of k = fold-SizedKind (List Read) (List Read) kind_reads (λ e. e.kind) k

abbrev kind_value : Bit → Calls → Values → Frame → SizedKind → ℕ → Bool → List Bit
kind_value fill calls values frame k = fold-SizedKind (ℕ → Bool → List Bit) Operand (kind_bits fill calls values frame) sized_operand k

abbrev KindSame : Bit → Calls → Values → Values → Frame → SizedKind → Type 0
KindSame fill calls u v frame k = (w : ℕ) (s : Bool) → Alike fill u v (kind_reads_of k) → kind_value fill calls u frame k w s ≡ kind_value fill calls v frame k w s

abbrev ExprSame : Bit → Calls → Values → Values → Frame → SizedExpr → Type 0
ExprSame fill calls u v frame e = Alike fill u v (reads e) → operand_of fill calls u frame e ≡ operand_of fill calls v frame e

-- an expression beside the proof for it
abbrev With : Bit → Calls → Values → Values → Frame → Type 0
With fill calls u v frame = (e : SizedExpr) × ExprSame fill calls u v frame e

abbrev Layer : Type 0
Layer = SizedKind-F SizedKind SizedExpr

abbrev Proved : Bit → Calls → Values → Values → Frame → Type 0
Proved fill calls u v frame = SizedKind-F ((k : SizedKind) × KindSame fill calls u v frame k) (With fill calls u v frame)

abbrev layer_reads : Layer → List Read
layer_reads x = kind_reads (map-SizedKind SizedKind SizedExpr (List Read) (List Read) kind_reads_of reads x)

abbrev layer_value : Bit → Calls → Values → Frame → Layer → ℕ → Bool → List Bit
layer_value fill calls values frame x = kind_bits fill calls values frame (map-SizedKind SizedKind SizedExpr (ℕ → Bool → List Bit) Operand (kind_value fill calls values frame) (operand_of fill calls values frame) x)

abbrev bare : (fill : Bit) (calls : Calls) (u v : Values) (frame : Frame) → Proved fill calls u v frame → Layer
bare fill calls u v frame y = map-SizedKind ((k : SizedKind) × KindSame fill calls u v frame k) (With fill calls u v frame) SizedKind SizedExpr (λ e. e.0) (λ e. e.0) y

all_same : (fill : Bit) (calls : Calls) (u v : Values) (frame : Frame) (es : List (With fill calls u v frame)) → Alike fill u v (flat_map (λ part. part) (map reads (map (λ e. e.0) es)))
    → map (operand_of fill calls u frame) (map (λ e. e.0) es) ≡ map (operand_of fill calls v frame) (map (λ e. e.0) es)
all_same fill calls u v frame [] h = refl
all_same fill calls u v frame (e ∷ es) h =
    let here : operand_of fill calls u frame e.0 ≡ operand_of fill calls v frame e.0 = e.1 (front fill u v (reads e.0) _ h) in
    let more : map (operand_of fill calls u frame) (map (λ e. e.0) es) ≡ map (operand_of fill calls v frame) (map (λ e. e.0) es) = all_same fill calls u v frame es (back fill u v (reads e.0) _ h) in
    cc

layer_same : (fill : Bit) (calls : Calls) (u v : Values) (frame : Frame) (y : Proved fill calls u v frame) (w : ℕ) (s : Bool) → Alike fill u v (layer_reads (bare fill calls u v frame y))
    → layer_value fill calls u frame (bare fill calls u v frame y) w s ≡ layer_value fill calls v frame (bare fill calls u v frame y) w s
layer_same fill calls u v frame (SizedKind-F.Number b) w s h = refl
layer_same fill calls u v frame (SizedKind-F.Name n) w s h = whole_same fill u v frame n h
layer_same fill calls u v frame (SizedKind-F.Select n low count) w s h = bits_same fill u v frame n low count h
layer_same fill calls u v frame (SizedKind-F.Index n least e) w s h =
    let p = whole_same fill u v frame n (front fill u v (whole n) (reads e.0) h) in
    let q = e.1 (back fill u v (whole n) (reads e.0) h) in
    ap (λ b. bit_at_place fill b (index_place least (operand_of fill calls u frame e.0).bits)) p ∙ ap (λ (o : Operand). bit_at_place fill (named_bits fill v frame n) (index_place least o.bits)) q
layer_same fill calls u v frame (SizedKind-F.Word memory place) w s h = ap (word_or_x fill (bounded memory.width)) h.0
layer_same fill calls u v frame (SizedKind-F.WordIndex memory least e) w s h =
    ap (λ (o : Operand). word_or_x fill (bounded memory.width) (word_at u memory.number (index_place least o.bits))) (e.1 h.1)
    ∙ ap (word_or_x fill (bounded memory.width)) (ram_same fill u v memory.number (index_place least (operand_of fill calls v frame e.0).bits) h.0)
layer_same fill calls u v frame (SizedKind-F.Unary op a) w s h = let p = a.1 h in cc
layer_same fill calls u v frame (SizedKind-F.Binary op a b) w s h = let p = a.1 (front fill u v (reads a.0) (reads b.0) h) in let q = b.1 (back fill u v (reads a.0) (reads b.0) h) in cc
layer_same fill calls u v frame (SizedKind-F.Comparison op a b) w s h = let p = a.1 (front fill u v (reads a.0) (reads b.0) h) in let q = b.1 (back fill u v (reads a.0) (reads b.0) h) in cc
layer_same fill calls u v frame (SizedKind-F.LogicalNot a) w s h = let p = a.1 h in cc
layer_same fill calls u v frame (SizedKind-F.Logical op a b) w s h = let p = a.1 (front fill u v (reads a.0) (reads b.0) h) in let q = b.1 (back fill u v (reads a.0) (reads b.0) h) in cc
layer_same fill calls u v frame (SizedKind-F.Reduction op a) w s h = let p = a.1 h in cc
layer_same fill calls u v frame (SizedKind-F.Shift op a b) w s h = let p = a.1 (front fill u v (reads a.0) (reads b.0) h) in let q = b.1 (back fill u v (reads a.0) (reads b.0) h) in cc
layer_same fill calls u v frame (SizedKind-F.Conditional t a b) w s h =
    let p = t.1 (front fill u v (reads t.0) (reads a.0) (front fill u v (reads t.0 ++ reads a.0) (reads b.0) h)) in
    let q = a.1 (back fill u v (reads t.0) (reads a.0) (front fill u v (reads t.0 ++ reads a.0) (reads b.0) h)) in
    let r = b.1 (back fill u v (reads t.0 ++ reads a.0) (reads b.0) h) in
    cc
layer_same fill calls u v frame (SizedKind-F.Concat parts) w s h = ap (flat_map (λ (o : Operand). o.bits)) (all_same fill calls u v frame parts h)
layer_same fill calls u v frame (SizedKind-F.Replicate count a) w s h = let p = a.1 h in cc
layer_same fill calls u v frame (SizedKind-F.Call n arguments) w s h = ap (calls n) (all_same fill calls u v frame arguments h)
layer_same fill calls u v frame (SizedKind-F.Gate op inputs) w s h =
    ap (λ (os : List Operand). gate_bit fill op (flat_map (λ (o : Operand). at_size 1 false o.bits) os) ∷ []) (all_same fill calls u v frame inputs h)

rolled : (fill : Bit) (calls : Calls) (u v : Values) (frame : Frame) (y : Proved fill calls u v frame) → KindSame fill calls u v frame (roll-SizedKind (bare fill calls u v frame y))
unfolding reads operand_of
rolled fill calls u v frame y w s h =
    let x = bare fill calls u v frame y in
    let P : List Read → Type 0 = Alike fill u v in
    let open_u = fold-roll-SizedKind (ℕ → Bool → List Bit) Operand (kind_bits fill calls u frame) sized_operand x in
    let open_v = fold-roll-SizedKind (ℕ → Bool → List Bit) Operand (kind_bits fill calls v frame) sized_operand x in
    let held = subst P (fold-roll-SizedKind (List Read) (List Read) kind_reads (λ e. e.kind) x) h in
    ap (λ (f : ℕ → Bool → List Bit). f w s) open_u ∙ layer_same fill calls u v frame y w s held ∙ sym (ap (λ (f : ℕ → Bool → List Bit). f w s) open_v)

abbrev ProvedExpr : Bit → Calls → Values → Values → Frame → Type 0
ProvedExpr fill calls u v frame = SizedExpr-F ((k : SizedKind) × KindSame fill calls u v frame k) (With fill calls u v frame)

abbrev operand : List Bit → Bool → Operand
operand b s = record { bits = b; signed = s }

sized : (fill : Bit) (calls : Calls) (u v : Values) (frame : Frame) (y : ProvedExpr fill calls u v frame)
    → ExprSame fill calls u v frame (roll-SizedExpr (map-SizedExpr ((k : SizedKind) × KindSame fill calls u v frame k) (With fill calls u v frame) SizedKind SizedExpr (λ e. e.0) (λ e. e.0) y))
unfolding reads operand_of
sized fill calls u v frame y h =
    let x = map-SizedExpr ((k : SizedKind) × KindSame fill calls u v frame k) (With fill calls u v frame) SizedKind SizedExpr (λ e. e.0) (λ e. e.0) y in
    let P : List Read → Type 0 = Alike fill u v in
    let open_u = fold-roll-SizedExpr (ℕ → Bool → List Bit) Operand (kind_bits fill calls u frame) sized_operand x in
    let open_v = fold-roll-SizedExpr (ℕ → Bool → List Bit) Operand (kind_bits fill calls v frame) sized_operand x in
    let held = subst P (fold-roll-SizedExpr (List Read) (List Read) kind_reads (λ e. e.kind) x) h in
    open_u ∙ ap (λ b. operand (at_size y.width y.signed b) y.signed) (y.kind.1 y.width y.signed held) ∙ sym open_v

same : (fill : Bit) (calls : Calls) (u v : Values) (frame : Frame) (e : SizedExpr) → ExprSame fill calls u v frame e
same fill calls u v frame =
    ind-SizedExpr (KindSame fill calls u v frame) (ExprSame fill calls u v frame)
    (λ x y is. let P : Layer → Type 0 = λ z. KindSame fill calls u v frame (roll-SizedKind z) in subst P is (rolled fill calls u v frame y))
    (λ x y is. let P : SizedExpr-F SizedKind SizedExpr → Type 0 = λ z. ExprSame fill calls u v frame (roll-SizedExpr z) in subst P is (sized fill calls u v frame y))

-- environments that agree on what an expression reads give it one value
pub eval-agree : (fill : Bit) (functions : List Function) (u v : Values) (frame : Frame) (e : SizedExpr) → All (Agree fill u v) (reads e) → eval fill functions u frame e ≡ eval fill functions v frame e
unfolding eval
eval-agree fill functions u v frame e h = ap (λ (o : Operand). o.bits) (same fill (call_below fill functions (length functions)) u v frame e (recursion_from_All (Agree fill u v) (reads e) h))
