-- The steps of a whole expression give its value.
use Rattle.std.proofs.Common.{◌≡◌, ℕ, ◌+◌, max, Bool, false, List, [], ◌∷◌, map, refl, sym, ◌∙◌, ap, subst}
use Rattle.vod_bits.specs.Bit.{Bit, not_bit}
use Rattle.vod_four.specs.Four.{truth_bit}
use Rattle.vod_design.specs.Values.{Operand, bounded, at_size, select_bits, index_place, named_bits, bit_at_place, word_or_x, word_at}
use Rattle.vod_design.specs.Eval.{Calls, unary_bits, binary_bits, compared, logical_bit, reduction_bit, shift_bits, repeated, gate_bit, kind_bits, sized_operand, operand_of}
use Rattle.vod_design.specs.declared.sized.Named.{Named}
use Rattle.vod_design.specs.declared.sized.Named.TheVariants as named
use Rattle.vod_design.specs.declared.sized.Variable.TheVariants.{Signal, Local}
use Rattle.vod_design.specs.declared.sized.GateOp.{GateOp}
use Rattle.vod_design.specs.declared.sized.SizedExpr.{SizedExpr}
use Rattle.vod_design.specs.declared.sized.SizedKind.{SizedKind}
use Rattle.vod_design.specs.declared.sized.SizedKind.TheOpen.{SizedKind-F, SizedExpr-F}
use Rattle.vod_design.specs.declared.sized.SizedKind.TheFolds.{fold-SizedKind, fold-roll-SizedKind, fold-roll-SizedExpr, map-SizedKind, map-SizedExpr, ind-SizedExpr}
use Rattle.vod_design.specs.declared.sized.SizedKind.TheViews.{roll-SizedKind, roll-SizedExpr}
use Rattle.vod_compiled.specs.declared.step.Op.TheVariants as op
use Rattle.vod_compiled.specs.declared.step.Source.TheVariants.{Constant, Nothing}
use Rattle.vod_compiled.specs.Steps.{Cells, World, source_bits, input_bits, put}
use Rattle.vod_compiled.specs.Code.{name_source, input_at, Coded, KindCoded, at_hand, behind_one, by_steps, concat_steps, gate_steps, all_flat, kind_coded, sized_coded, coded, kind_room, cells_of, kind_flat, is_flat}
use Rattle.vod_eval.specs.Room.{most}
use Rattle.vod_compiled.specs.Steps.{replicated}
use Rattle.vod_compiled.proofs.Cuts.{replicated_size}
use Rattle.vod_compiled.proofs.Works.{Works, KindWorks, no_front, Part, codes, flats, rooms, values, bits_behind, one_bits, hand_works, step_works, one_works, two_works, conditional_works, concat_works, gate_works}

abbrev Outside : List (List Bit)
Outside = []

abbrev kind_code_of : SizedKind → KindCoded
kind_code_of k = fold-SizedKind KindCoded Coded kind_coded sized_coded k

abbrev kind_room_of : SizedKind → ℕ
kind_room_of k = fold-SizedKind ℕ ℕ kind_room (λ e. e.kind) k

abbrev kind_flat_of : SizedKind → Bool
kind_flat_of k = fold-SizedKind Bool Bool kind_flat (λ e. e.kind) k

abbrev kind_value_of : World → Calls → SizedKind → ℕ → Bool → List Bit
kind_value_of w calls k = fold-SizedKind (ℕ → Bool → List Bit) Operand (kind_bits w.fill calls w.values Outside) sized_operand k

abbrev value_of : World → Calls → SizedExpr → Operand
value_of w calls e = operand_of w.fill calls w.values Outside e

abbrev KindIs : World → Calls → SizedKind → Type 0
KindIs w calls k = KindWorks w (kind_code_of k) (kind_flat_of k) (kind_room_of k) (kind_value_of w calls k)

abbrev ExprIs : World → Calls → SizedExpr → Type 0
ExprIs w calls e = Works w (coded e) (is_flat e) (cells_of e) (value_of w calls e)

-- an expression beside the proof for it
abbrev With : World → Calls → Type 0
With w calls = (e : SizedExpr) × ExprIs w calls e

abbrev Layer : Type 0
Layer = SizedKind-F SizedKind SizedExpr

abbrev Proved : World → Calls → Type 0
Proved w calls = SizedKind-F ((k : SizedKind) × KindIs w calls k) (With w calls)

abbrev bare : (w : World) (calls : Calls) → Proved w calls → Layer
bare w calls y = map-SizedKind ((k : SizedKind) × KindIs w calls k) (With w calls) SizedKind SizedExpr (λ e. e.0) (λ e. e.0) y

abbrev layer_code : Layer → KindCoded
layer_code x = kind_coded (map-SizedKind SizedKind SizedExpr KindCoded Coded kind_code_of coded x)

abbrev layer_room : Layer → ℕ
layer_room x = kind_room (map-SizedKind SizedKind SizedExpr ℕ ℕ kind_room_of cells_of x)

abbrev layer_flat : Layer → Bool
layer_flat x = kind_flat (map-SizedKind SizedKind SizedExpr Bool Bool kind_flat_of is_flat x)

abbrev layer_value : World → Calls → Layer → ℕ → Bool → List Bit
layer_value w calls x = kind_bits w.fill calls w.values Outside (map-SizedKind SizedKind SizedExpr (ℕ → Bool → List Bit) Operand (kind_value_of w calls) (value_of w calls) x)

abbrev LayerIs : World → Calls → Layer → Type 0
LayerIs w calls x = KindWorks w (layer_code x) (layer_flat x) (layer_room x) (layer_value w calls x)

name_is : (w : World) (n : Named) (cells : Cells) → source_bits w cells (name_source n) ≡ named_bits w.fill w.values Outside n
name_is w (named.Variable (Signal n)) cells = refl
name_is w (named.Variable (Local n)) cells = refl
name_is w (named.Constant b) cells = refl

-- the parts of a list, as the proofs of concatenations and gates take them
abbrev part_of : (w : World) (calls : Calls) → With w calls → Part w
part_of w calls e = record { code = coded e.0; flat = is_flat e.0; room = cells_of e.0; value = value_of w calls e.0; works = e.1 }

call_works : (w : World) (value : ℕ → Bool → List Bit) → KindWorks w (at_hand Nothing) false 0 value
call_works w value = record {
  steady = λ d one other e. refl;
  fronts = λ width signed d rest. no_front rest;
  ends = λ is width signed d rest cells room. absurd (cc);
}

-- the lists that the kinds with lists of operands speak of

list_codes : (w : World) (calls : Calls) (es : List (With w calls)) → map coded (map (λ e. e.0) es) ≡ codes (map (part_of w calls) es)
list_codes w calls [] = refl
list_codes w calls (e ∷ es) = ap (λ xs. coded e.0 ∷ xs) (list_codes w calls es)

list_flats : (w : World) (calls : Calls) (es : List (With w calls)) → map is_flat (map (λ e. e.0) es) ≡ flats (map (part_of w calls) es)
list_flats w calls [] = refl
list_flats w calls (e ∷ es) = ap (λ xs. is_flat e.0 ∷ xs) (list_flats w calls es)

list_rooms : (w : World) (calls : Calls) (es : List (With w calls)) → map cells_of (map (λ e. e.0) es) ≡ rooms (map (part_of w calls) es)
list_rooms w calls [] = refl
list_rooms w calls (e ∷ es) = ap (λ xs. cells_of e.0 ∷ xs) (list_rooms w calls es)

list_values : (w : World) (calls : Calls) (es : List (With w calls)) → map (value_of w calls) (map (λ e. e.0) es) ≡ values (map (part_of w calls) es)
list_values w calls [] = refl
list_values w calls (e ∷ es) = ap (λ xs. value_of w calls e.0 ∷ xs) (list_values w calls es)

-- what works goes over along equations

kind_along : (w : World) (k l : KindCoded) (fk fl : Bool) (rk rl : ℕ) (vk vl : ℕ → Bool → List Bit) → k ≡ l → fk ≡ fl → rk ≡ rl → vk ≡ vl → KindWorks w k fk rk vk → KindWorks w l fl rl vl
kind_along w k l fk fl rk rl vk vl p q r s h =
    let A : KindCoded → Type 0 = λ x. KindWorks w x fk rk vk in
    let B : Bool → Type 0 = λ x. KindWorks w l x rk vk in
    let C : ℕ → Type 0 = λ x. KindWorks w l fl x vk in
    let D : (ℕ → Bool → List Bit) → Type 0 = λ x. KindWorks w l fl rl x in
    subst D s (subst C r (subst B q (subst A p h)))

kind_sized : (w : World) (k : KindCoded) (flat : Bool) (room : ℕ) (v u : ℕ → Bool → List Bit) → ((width : ℕ) (signed : Bool) → at_size width signed (v width signed) ≡ at_size width signed (u width signed))
    → KindWorks w k flat room v → KindWorks w k flat room u
kind_sized w k flat room v u same h = record {
  steady = h.steady;
  fronts = h.fronts;
  ends = λ is width signed d rest cells fits.
      let e = h.ends is width signed d rest cells fits in
      record { now = e.now; ran = e.ran; gives = e.gives ∙ same width signed };
}

along : (w : World) (k l : Coded) (fk fl : Bool) (rk rl : ℕ) (vk vl : Operand) → k ≡ l → fk ≡ fl → rk ≡ rl → vk ≡ vl → Works w k fk rk vk → Works w l fl rl vl
along w k l fk fl rk rl vk vl p q r s h =
    let A : Coded → Type 0 = λ x. Works w x fk rk vk in
    let B : Bool → Type 0 = λ x. Works w l x rk vk in
    let C : ℕ → Type 0 = λ x. Works w l fl x vk in
    let D : Operand → Type 0 = λ x. Works w l fl rl x in
    subst D s (subst C r (subst B q (subst A p h)))

concat_layer : (w : World) (calls : Calls) (es : List (With w calls)) → LayerIs w calls (SizedKind-F.Concat (map (λ e. e.0) es))
concat_layer w calls es =
    let ps = map (part_of w calls) es in
    kind_along w (by_steps (concat_steps (codes ps))) (by_steps (concat_steps (map coded (map (λ e. e.0) es)))) (all_flat (flats ps)) (all_flat (map is_flat (map (λ e. e.0) es)))
    (1 + most (rooms ps)) (1 + most (map cells_of (map (λ e. e.0) es))) (λ width signed. bits_behind (values ps)) (λ width signed. bits_behind (map (value_of w calls) (map (λ e. e.0) es)))
    (ap (λ cs. by_steps (concat_steps cs)) (sym (list_codes w calls es))) (ap all_flat (sym (list_flats w calls es))) (ap (λ rs. 1 + most rs) (sym (list_rooms w calls es)))
    (ap (λ vs width signed. bits_behind vs) (sym (list_values w calls es))) (concat_works w ps)

gate_layer : (w : World) (calls : Calls) (o : GateOp) (es : List (With w calls)) → LayerIs w calls (SizedKind-F.Gate o (map (λ e. e.0) es))
gate_layer w calls o es =
    let ps = map (part_of w calls) es in
    kind_along w (by_steps (gate_steps o (codes ps))) (by_steps (gate_steps o (map coded (map (λ e. e.0) es)))) (all_flat (flats ps)) (all_flat (map is_flat (map (λ e. e.0) es)))
    (1 + most (rooms ps)) (1 + most (map cells_of (map (λ e. e.0) es))) (λ width signed. gate_bit w.fill o (one_bits (values ps)) ∷ []) (λ width signed. gate_bit w.fill o (one_bits (map (value_of w calls) (map (λ e. e.0) es))) ∷ [])
    (ap (λ cs. by_steps (gate_steps o cs)) (sym (list_codes w calls es))) (ap all_flat (sym (list_flats w calls es))) (ap (λ rs. 1 + most rs) (sym (list_rooms w calls es)))
    (ap (λ vs width signed. gate_bit w.fill o (one_bits vs) ∷ []) (sym (list_values w calls es))) (gate_works w o ps)

layer_works : (w : World) (calls : Calls) (y : Proved w calls) → LayerIs w calls (bare w calls y)
layer_works w calls (SizedKind-F.Number b) = hand_works w (Constant b) (λ width signed. b) (λ cells width signed. refl)
layer_works w calls (SizedKind-F.Name n) = hand_works w (name_source n) (λ width signed. named_bits w.fill w.values Outside n) (λ cells width signed. name_is w n cells)
layer_works w calls (SizedKind-F.Select n low count) =
    step_works w (op.Select (name_source n) low count) (λ width signed. select_bits w.fill low (bounded count) (named_bits w.fill w.values Outside n)) (λ d width signed cells. refl)
    (λ d width signed cells. ap (λ b. put cells d (select_bits w.fill low (bounded count) b)) (name_is w n cells))
layer_works w calls (SizedKind-F.Index n least e) =
    one_works w (coded e.0) (is_flat e.0) (cells_of e.0) (value_of w calls e.0) (op.Index (name_source n) least) (λ width signed a. bit_at_place w.fill (named_bits w.fill w.values Outside n) (index_place least a.bits))
    (λ d width signed cells a. (refl, ap (λ b. put cells d (bit_at_place w.fill b (index_place least (input_bits w cells a)))) (name_is w n cells))) e.1
layer_works w calls (SizedKind-F.Word memory place) =
    step_works w (op.Word memory place) (λ width signed. word_or_x w.fill (bounded memory.width) (w.values.word memory.number place)) (λ d width signed cells. refl) (λ d width signed cells. refl)
layer_works w calls (SizedKind-F.WordIndex memory least e) =
    one_works w (coded e.0) (is_flat e.0) (cells_of e.0) (value_of w calls e.0) (op.WordIndex memory least) (λ width signed a. word_or_x w.fill (bounded memory.width) (word_at w.values memory.number (index_place least a.bits)))
    (λ d width signed cells a. (refl, refl)) e.1
layer_works w calls (SizedKind-F.Unary o a) =
    one_works w (coded a.0) (is_flat a.0) (cells_of a.0) (value_of w calls a.0) (op.Unary o) (λ width signed a. unary_bits o (at_size width signed a.bits)) (λ d width signed cells a. (refl, refl)) a.1
layer_works w calls (SizedKind-F.Binary o a b) =
    two_works w (coded a.0) (coded b.0) (is_flat a.0) (is_flat b.0) (cells_of a.0) (cells_of b.0) (value_of w calls a.0) (value_of w calls b.0) (op.Binary o)
    (λ width signed a b. binary_bits o (at_size width signed a.bits) (at_size width signed b.bits)) (λ d width signed cells a b. (refl, refl)) a.1 b.1
layer_works w calls (SizedKind-F.Comparison o a b) =
    two_works w (coded a.0) (coded b.0) (is_flat a.0) (is_flat b.0) (cells_of a.0) (cells_of b.0) (value_of w calls a.0) (value_of w calls b.0) (op.Comparison o)
    (λ width signed a b. compared o a b ∷ []) (λ d width signed cells a b. (refl, refl)) a.1 b.1
layer_works w calls (SizedKind-F.LogicalNot a) =
    one_works w (coded a.0) (is_flat a.0) (cells_of a.0) (value_of w calls a.0) op.LogicalNot (λ width signed a. not_bit (truth_bit a.bits) ∷ []) (λ d width signed cells a. (refl, refl)) a.1
layer_works w calls (SizedKind-F.Logical o a b) =
    two_works w (coded a.0) (coded b.0) (is_flat a.0) (is_flat b.0) (cells_of a.0) (cells_of b.0) (value_of w calls a.0) (value_of w calls b.0) (op.Logical o)
    (λ width signed a b. logical_bit o (truth_bit a.bits) (truth_bit b.bits) ∷ []) (λ d width signed cells a b. (refl, refl)) a.1 b.1
layer_works w calls (SizedKind-F.Reduction o a) =
    one_works w (coded a.0) (is_flat a.0) (cells_of a.0) (value_of w calls a.0) (op.Reduction o) (λ width signed a. reduction_bit o a.bits ∷ []) (λ d width signed cells a. (refl, refl)) a.1
layer_works w calls (SizedKind-F.Shift o a b) =
    two_works w (coded a.0) (coded b.0) (is_flat a.0) (is_flat b.0) (cells_of a.0) (cells_of b.0) (value_of w calls a.0) (value_of w calls b.0) (op.Shift o)
    (λ width signed a b. shift_bits o signed b.bits (at_size width signed a.bits)) (λ d width signed cells a b. (refl, refl)) a.1 b.1
layer_works w calls (SizedKind-F.Conditional t a b) =
    conditional_works w (coded t.0) (coded a.0) (coded b.0) (is_flat t.0) (is_flat a.0) (is_flat b.0) (cells_of t.0) (cells_of a.0) (cells_of b.0) (value_of w calls t.0) (value_of w calls a.0) (value_of w calls b.0) t.1 a.1 b.1
layer_works w calls (SizedKind-F.Concat parts) = concat_layer w calls parts
layer_works w calls (SizedKind-F.Replicate count a) =
    kind_sized w (behind_one (coded a.0) (op.Replicate count)) (is_flat a.0) (max 1 (cells_of a.0)) (λ width signed. replicated count (value_of w calls a.0).bits) (λ width signed. repeated count (value_of w calls a.0).bits)
    (λ width signed. replicated_size count width signed (value_of w calls a.0).bits)
    (one_works w (coded a.0) (is_flat a.0) (cells_of a.0) (value_of w calls a.0) (op.Replicate count) (λ width signed a. replicated count a.bits) (λ d width signed cells a. (refl, refl)) a.1)
layer_works w calls (SizedKind-F.Call n arguments) = call_works w (λ width signed. calls n (map (value_of w calls) (map (λ e. e.0) arguments)))
layer_works w calls (SizedKind-F.Gate o inputs) = gate_layer w calls o inputs

rolled : (w : World) (calls : Calls) (y : Proved w calls) → KindIs w calls (roll-SizedKind (bare w calls y))
unfolding coded cells_of is_flat operand_of
rolled w calls y =
    let x = bare w calls y in
    let code_is = fold-roll-SizedKind KindCoded Coded kind_coded sized_coded x in
    let flat_is = fold-roll-SizedKind Bool Bool kind_flat (λ e. e.kind) x in
    let room_is = fold-roll-SizedKind ℕ ℕ kind_room (λ e. e.kind) x in
    let value_is = fold-roll-SizedKind (ℕ → Bool → List Bit) Operand (kind_bits w.fill calls w.values Outside) sized_operand x in
    kind_along w (layer_code x) (kind_code_of (roll-SizedKind x)) (layer_flat x) (kind_flat_of (roll-SizedKind x)) (layer_room x) (kind_room_of (roll-SizedKind x)) (layer_value w calls x) (kind_value_of w calls (roll-SizedKind x))
    (sym code_is) (sym flat_is) (sym room_is) (sym value_is) (layer_works w calls y)

abbrev ProvedExpr : World → Calls → Type 0
ProvedExpr w calls = SizedExpr-F ((k : SizedKind) × KindIs w calls k) (With w calls)

abbrev code_at : ℕ → Bool → KindCoded → Coded
code_at width signed k = record { input = λ d. input_at (k.source d) width signed; steps = k.steps width signed }

abbrev operand : List Bit → Bool → Operand
operand bits signed = record { bits = bits; signed = signed }

sized_works : (w : World) (k : KindCoded) (flat : Bool) (room : ℕ) (value : ℕ → Bool → List Bit) (width : ℕ) (signed : Bool) → KindWorks w k flat room value
    → Works w (code_at width signed k) flat room (operand (at_size width signed (value width signed)) signed)
sized_works w k flat room value width signed h = record {
  steady = λ d one other e. ap (λ b. operand (at_size width signed b) signed) (h.steady d one other e);
  fronts = λ d rest. h.fronts width signed d rest;
  ends = λ is d rest cells fits.
      let e = h.ends is width signed d rest cells fits in
      record { now = e.now; ran = e.ran; gives = ap (λ b. operand b signed) e.gives };
}

sized : (w : World) (calls : Calls) (y : ProvedExpr w calls)
    → ExprIs w calls (roll-SizedExpr (map-SizedExpr ((k : SizedKind) × KindIs w calls k) (With w calls) SizedKind SizedExpr (λ e. e.0) (λ e. e.0) y))
unfolding coded cells_of is_flat operand_of
sized w calls y =
    let x = map-SizedExpr ((k : SizedKind) × KindIs w calls k) (With w calls) SizedKind SizedExpr (λ e. e.0) (λ e. e.0) y in
    let code_is = fold-roll-SizedExpr KindCoded Coded kind_coded sized_coded x in
    let flat_is = fold-roll-SizedExpr Bool Bool kind_flat (λ e. e.kind) x in
    let room_is = fold-roll-SizedExpr ℕ ℕ kind_room (λ e. e.kind) x in
    let value_is = fold-roll-SizedExpr (ℕ → Bool → List Bit) Operand (kind_bits w.fill calls w.values Outside) sized_operand x in
    along w (code_at y.width y.signed (kind_code_of y.kind.0)) (coded (roll-SizedExpr x)) (kind_flat_of y.kind.0) (is_flat (roll-SizedExpr x)) (kind_room_of y.kind.0) (cells_of (roll-SizedExpr x))
    (operand (at_size y.width y.signed (kind_value_of w calls y.kind.0 y.width y.signed)) y.signed) (value_of w calls (roll-SizedExpr x))
    (sym code_is) (sym flat_is) (sym room_is) (sym value_is)
    (sized_works w (kind_code_of y.kind.0) (kind_flat_of y.kind.0) (kind_room_of y.kind.0) (kind_value_of w calls y.kind.0) y.width y.signed y.kind.1)

pub works : (w : World) (calls : Calls) (e : SizedExpr) → ExprIs w calls e
works w calls =
    ind-SizedExpr (KindIs w calls) (ExprIs w calls)
    (λ x y is. let P : Layer → Type 0 = λ z. KindIs w calls (roll-SizedKind z) in subst P is (rolled w calls y))
    (λ x y is. let P : SizedExpr-F SizedKind SizedExpr → Type 0 = λ z. ExprIs w calls (roll-SizedExpr z) in subst P is (sized w calls y))
