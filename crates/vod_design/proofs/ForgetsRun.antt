-- What a statement does doesn't hang on places.
use Rattle.std.proofs.Common.{◌≡◌, if◌then◌else◌, List, [], ◌∷◌, ◌++◌, map, flat_map, Option, refl, sym, ◌∙◌, ap, subst}
use Rattle.std.proofs.lemmas.List.{map-append}
use Rattle.vod_bits.specs.Bit.{Bit, is_1}
use Rattle.vod_four.specs.Four.{truth_bit}
use Rattle.vod_design.specs.declared.sized.SizedExpr.{SizedExpr}
use Rattle.vod_design.specs.declared.sized.SizedKind.{SizedKind}
use Rattle.vod_design.specs.declared.sized.SizedKind.TheFolds.{fold_out-SizedExpr}
use Rattle.vod_design.specs.declared.sized.SizedKind.TheViews.{roll-SizedKind}
use Rattle.vod_design.specs.declared.statement.CaseItem.{CaseItem}
use Rattle.vod_design.specs.declared.statement.Part.{Part}
use Rattle.vod_design.specs.declared.statement.PartTarget.{PartTarget}
use Rattle.vod_design.specs.declared.statement.PartTarget.TheVariants as part
use Rattle.vod_design.specs.declared.statement.Statement.{Statement}
use Rattle.vod_design.specs.declared.statement.Target.{Target}
use Rattle.vod_design.specs.declared.statement.Statement.TheOpen.{Statement-F, CaseItem-F}
use Rattle.vod_design.specs.declared.statement.Statement.TheFolds.{fold-CaseItem, map-Statement, map-CaseItem, fold-roll-Statement, fold-roll-CaseItem, ind-Statement}
use Rattle.vod_design.specs.declared.statement.Statement.TheViews.{roll-Statement, roll-CaseItem}
use Rattle.vod_design.specs.Values.{Values, Frame, Operand, bounded, select_bits}
use Rattle.vod_design.specs.Eval.{Calls, identical_bit, operand_of}
use Rattle.vod_design.specs.Run.{Branch, index_bits, target_of, written, assigned, in_turn, compared_in, largest, all_signed, at_largest, has_label, first_branch, case_branch, effect, branch_of, run, branch}
use Rattle.vod_design.specs.Source.{node_unplaced, unplaced, target_unplaced, part_unplaced, layer_unplaced, item_unplaced, statement_unplaced}
use Rattle.vod_design.proofs.Forgets.{same}

-- parts of a left side

target_same : (t : PartTarget) (index : List Bit) → target_of (target_unplaced t) index ≡ target_of t index
target_same (part.Bits x low) index = refl
target_same (part.Index x least e) index = refl
target_same (part.Word memory least e) index = refl

index_same : (fill : Bit) (value : SizedExpr → Operand) → ((e : SizedExpr) → value (unplaced e) ≡ value e) → (t : PartTarget) → index_bits fill value (target_unplaced t) ≡ index_bits fill value t
index_same fill value h (part.Bits x low) = refl
index_same fill value h (part.Index x least e) = ap (λ (o : Operand). o.bits) (h e)
index_same fill value h (part.Word memory least e) = ap (λ (o : Operand). o.bits) (h e)

indices_same : (fill : Bit) (value : SizedExpr → Operand) → ((e : SizedExpr) → value (unplaced e) ≡ value e) → (parts : List Part)
    → map (λ p. index_bits fill value p.target) (map part_unplaced parts) ≡ map (λ p. index_bits fill value p.target) parts
indices_same fill value h [] = refl
indices_same fill value h (p ∷ parts) =
    let here : index_bits fill value (target_unplaced p.target) ≡ index_bits fill value p.target = index_same fill value h p.target in
    let more : map (λ p. index_bits fill value p.target) (map part_unplaced parts) ≡ map (λ p. index_bits fill value p.target) parts = indices_same fill value h parts in
    cc

parts_same : (fill : Bit) (parts : List Part) (indices : List (List Bit)) (value : List Bit) (frame : Frame) → assigned fill (map part_unplaced parts) indices value frame ≡ assigned fill parts indices value frame
parts_same fill [] indices value frame = refl
parts_same fill (p ∷ parts) [] value frame = refl
parts_same fill (p ∷ parts) (index ∷ indices) value frame =
    let bits = select_bits fill p.low (bounded p.width) value in
    ap (λ (t : Option Target). assigned fill (map part_unplaced parts) indices value (written fill t bits frame)) (target_same p.target index)
    ∙ parts_same fill parts indices value (written fill (target_of p.target index) bits frame)

-- the size of a `case`

width_same : (e : SizedExpr) → (unplaced e).width ≡ e.width
unfolding unplaced
width_same e = ap (λ (x : SizedExpr). x.width) (fold_out-SizedExpr SizedKind SizedExpr roll-SizedKind node_unplaced e)

sign_same : (e : SizedExpr) → (unplaced e).signed ≡ e.signed
unfolding unplaced
sign_same e = ap (λ (x : SizedExpr). x.signed) (fold_out-SizedExpr SizedKind SizedExpr roll-SizedKind node_unplaced e)

largest_same : (es : List SizedExpr) → largest (map unplaced es) ≡ largest es
largest_same [] = refl
largest_same (e ∷ es) =
    let here : (unplaced e).width ≡ e.width = width_same e in
    let more : largest (map unplaced es) ≡ largest es = largest_same es in
    cc

signed_same : (es : List SizedExpr) → all_signed (map unplaced es) ≡ all_signed es
signed_same [] = refl
signed_same (e ∷ es) =
    let here : (unplaced e).signed ≡ e.signed = sign_same e in
    let more : all_signed (map unplaced es) ≡ all_signed es = signed_same es in
    cc

at_largest_same : (es : List SizedExpr) (value : List Bit) → at_largest (map unplaced es) value ≡ at_largest es value
at_largest_same es value = let w = largest_same es in let s = signed_same es in cc

-- the items of a `case`

abbrev bare_branch : Branch → Branch
bare_branch b = record { labels = map unplaced b.labels; body = b.body }

labels_same : (bs : List Branch) → flat_map (λ (b : Branch). b.labels) (map bare_branch bs) ≡ map unplaced (flat_map (λ (b : Branch). b.labels) bs)
labels_same [] = refl
labels_same (b ∷ bs) = ap (λ ls. map unplaced b.labels ++ ls) (labels_same bs) ∙ sym (map-append unplaced b.labels (flat_map (λ (b : Branch). b.labels) bs))

has_same : (v w : SizedExpr → List Bit) (tested : List Bit) → ((e : SizedExpr) → v (unplaced e) ≡ w e) → (labels : List SizedExpr) → has_label v tested (map unplaced labels) ≡ has_label w tested labels
has_same v w tested h [] = refl
has_same v w tested h (l ∷ ls) =
    let here : is_1 (identical_bit tested (v (unplaced l))) ≡ is_1 (identical_bit tested (w l)) = ap (λ b. is_1 (identical_bit tested b)) (h l) in
    let more : has_label v tested (map unplaced ls) ≡ has_label w tested ls = has_same v w tested h ls in
    cc

first_same : (v w : SizedExpr → List Bit) (tested : List Bit) → ((e : SizedExpr) → v (unplaced e) ≡ w e) → (bs : List Branch) (otherwise : Frame → Frame)
    → first_branch v tested (map bare_branch bs) otherwise ≡ first_branch w tested bs otherwise
first_same v w tested h [] otherwise = refl
first_same v w tested h (b ∷ bs) otherwise =
    let here : has_label v tested (map unplaced b.labels) ≡ has_label w tested b.labels = has_same v w tested h b.labels in
    let more : first_branch v tested (map bare_branch bs) otherwise ≡ first_branch w tested bs otherwise = first_same v w tested h bs otherwise in
    cc

case_same : (value : SizedExpr → Operand) → ((e : SizedExpr) → value (unplaced e) ≡ value e) → (tested : SizedExpr) (bs : List Branch) (otherwise : Frame → Frame)
    → case_branch value (unplaced tested) (map bare_branch bs) otherwise ≡ case_branch value tested bs otherwise
case_same value h tested bs otherwise =
    let es = compared_in tested bs in
    let all : compared_in (unplaced tested) (map bare_branch bs) ≡ map unplaced es = ap (λ ls. unplaced tested ∷ ls) (labels_same bs) in
    let each : (e : SizedExpr) → at_largest (map unplaced es) (value (unplaced e)).bits ≡ at_largest es (value e).bits
    = λ e. at_largest_same es (value (unplaced e)).bits ∙ ap (λ (o : Operand). at_largest es o.bits) (h e) in
    ap (λ ls. first_branch (λ e. at_largest ls (value e).bits) (at_largest ls (value (unplaced tested)).bits) (map bare_branch bs) otherwise) all
    ∙ ap (λ t. first_branch (λ e. at_largest (map unplaced es) (value e).bits) t (map bare_branch bs) otherwise) (each tested)
    ∙ first_same (λ e. at_largest (map unplaced es) (value e).bits) (λ e. at_largest es (value e).bits) (at_largest es (value tested).bits) each bs otherwise

-- whole statements

abbrev Same : Bit → Calls → Values → Statement → Type 0
Same fill calls values s = run fill calls values (statement_unplaced s) ≡ run fill calls values s

abbrev bare_item : CaseItem → CaseItem
bare_item item = fold-CaseItem Statement CaseItem (λ x. roll-Statement (layer_unplaced x)) item_unplaced item

abbrev ItemSame : Bit → Calls → Values → CaseItem → Type 0
ItemSame fill calls values item = branch fill calls values (bare_item item) ≡ bare_branch (branch fill calls values item)

abbrev With : Bit → Calls → Values → Type 0
With fill calls values = (s : Statement) × Same fill calls values s

abbrev WithItem : Bit → Calls → Values → Type 0
WithItem fill calls values = (item : CaseItem) × ItemSame fill calls values item

abbrev Layer : Type 0
Layer = Statement-F Statement CaseItem

abbrev Proved : Bit → Calls → Values → Type 0
Proved fill calls values = Statement-F (With fill calls values) (WithItem fill calls values)

abbrev bare : (fill : Bit) (calls : Calls) (values : Values) → Proved fill calls values → Layer
bare fill calls values y = map-Statement (With fill calls values) (WithItem fill calls values) Statement CaseItem (λ s. s.0) (λ i. i.0) y

abbrev inner : Layer → Layer
inner x = map-Statement Statement CaseItem Statement CaseItem statement_unplaced bare_item x

abbrev done : Bit → Calls → Values → Layer → Frame → Frame
done fill calls values x = effect fill (operand_of fill calls values) (map-Statement Statement CaseItem (Frame → Frame) Branch (run fill calls values) (branch fill calls values) x)

runs_same : (fill : Bit) (calls : Calls) (values : Values) (ss : List (With fill calls values)) → map (run fill calls values) (map statement_unplaced (map (λ s. s.0) ss)) ≡ map (run fill calls values) (map (λ s. s.0) ss)
runs_same fill calls values [] = refl
runs_same fill calls values (s ∷ ss) =
    let here : run fill calls values (statement_unplaced s.0) ≡ run fill calls values s.0 = s.1 in
    let more : map (run fill calls values) (map statement_unplaced (map (λ s. s.0) ss)) ≡ map (run fill calls values) (map (λ s. s.0) ss) = runs_same fill calls values ss in
    cc

items_same : (fill : Bit) (calls : Calls) (values : Values) (is : List (WithItem fill calls values)) → map (branch fill calls values) (map bare_item (map (λ i. i.0) is)) ≡ map bare_branch (map (branch fill calls values) (map (λ i. i.0) is))
items_same fill calls values [] = refl
items_same fill calls values (i ∷ is) =
    let here : branch fill calls values (bare_item i.0) ≡ bare_branch (branch fill calls values i.0) = i.1 in
    let more : map (branch fill calls values) (map bare_item (map (λ i. i.0) is)) ≡ map bare_branch (map (branch fill calls values) (map (λ i. i.0) is)) = items_same fill calls values is in
    cc

layer_same : (fill : Bit) (calls : Calls) (values : Values) (y : Proved fill calls values) (frame : Frame) → done fill calls values (layer_unplaced (inner (bare fill calls values y))) frame ≡ done fill calls values (bare fill calls values y) frame
layer_same fill calls values (Statement-F.Assign parts right) frame =
    let value = operand_of fill calls values frame in
    ap (λ (o : Operand). assigned fill (map part_unplaced parts) (map (λ p. index_bits fill value p.target) (map part_unplaced parts)) o.bits frame) (same fill calls values frame right)
    ∙ ap (λ ix. assigned fill (map part_unplaced parts) ix (value right).bits frame) (indices_same fill value (same fill calls values frame) parts)
    ∙ parts_same fill parts (map (λ p. index_bits fill value p.target) parts) (value right).bits frame
layer_same fill calls values (Statement-F.If test taken other) frame =
    let value = operand_of fill calls values frame in
    ap (λ (o : Operand). (if is_1 (truth_bit o.bits) then run fill calls values (statement_unplaced taken.0) else run fill calls values (statement_unplaced other.0)) frame) (same fill calls values frame test)
    ∙ ap (λ f. (if is_1 (truth_bit (value test).bits) then f else run fill calls values (statement_unplaced other.0)) frame) taken.1
    ∙ ap (λ f. (if is_1 (truth_bit (value test).bits) then run fill calls values taken.0 else f) frame) other.1
layer_same fill calls values (Statement-F.Case tested items otherwise) frame =
    let value = operand_of fill calls values frame in
    ap (λ bs. case_branch value (unplaced tested) bs (run fill calls values (statement_unplaced otherwise.0)) frame) (items_same fill calls values items)
    ∙ ap (λ f. case_branch value (unplaced tested) (map bare_branch (map (branch fill calls values) (map (λ i. i.0) items))) f frame) otherwise.1
    ∙ ap (λ (g : Frame → Frame). g frame) (case_same value (same fill calls values frame) tested (map (branch fill calls values) (map (λ i. i.0) items)) (run fill calls values otherwise.0))
layer_same fill calls values (Statement-F.Begin statements) frame = ap (λ fs. in_turn fs frame) (runs_same fill calls values statements)
layer_same fill calls values Statement-F.Empty frame = refl

rolled : (fill : Bit) (calls : Calls) (values : Values) (y : Proved fill calls values) → Same fill calls values (roll-Statement (bare fill calls values y))
unfolding run branch statement_unplaced
rolled fill calls values y =
    let x = bare fill calls values y in
    let bare_is = fold-roll-Statement Statement CaseItem (λ x. roll-Statement (layer_unplaced x)) item_unplaced x in
    let open_bare = fold-roll-Statement (Frame → Frame) Branch (effect fill (operand_of fill calls values)) branch_of (layer_unplaced (inner x)) in
    let open_whole = fold-roll-Statement (Frame → Frame) Branch (effect fill (operand_of fill calls values)) branch_of x in
    let middle : done fill calls values (layer_unplaced (inner x)) ≡ done fill calls values x = λ i frame. layer_same fill calls values y frame i in
    ap (run fill calls values) bare_is ∙ open_bare ∙ middle ∙ sym open_whole

abbrev ProvedItem : Bit → Calls → Values → Type 0
ProvedItem fill calls values = CaseItem-F (With fill calls values) (WithItem fill calls values)

abbrev with_body : List SizedExpr → (Frame → Frame) → Branch
with_body labels body = record { labels = labels; body = body }

abbrev item_layer : List SizedExpr → Statement → CaseItem-F Statement CaseItem
item_layer labels body = record { labels = labels; body = body }

rolled_item : (fill : Bit) (calls : Calls) (values : Values) (y : ProvedItem fill calls values)
    → ItemSame fill calls values (roll-CaseItem (map-CaseItem (With fill calls values) (WithItem fill calls values) Statement CaseItem (λ s. s.0) (λ i. i.0) y))
unfolding run branch statement_unplaced
rolled_item fill calls values y =
    let x = map-CaseItem (With fill calls values) (WithItem fill calls values) Statement CaseItem (λ s. s.0) (λ i. i.0) y in
    let bare_is = fold-roll-CaseItem Statement CaseItem (λ x. roll-Statement (layer_unplaced x)) item_unplaced x in
    let open_bare = fold-roll-CaseItem (Frame → Frame) Branch (effect fill (operand_of fill calls values)) branch_of (item_layer (map unplaced y.labels) (statement_unplaced y.body.0)) in
    let open_whole = fold-roll-CaseItem (Frame → Frame) Branch (effect fill (operand_of fill calls values)) branch_of x in
    ap (branch fill calls values) bare_is ∙ open_bare ∙ ap (with_body (map unplaced y.labels)) y.body.1 ∙ ap bare_branch (sym open_whole)

all_same : (fill : Bit) (calls : Calls) (values : Values) (s : Statement) → Same fill calls values s
all_same fill calls values =
    ind-Statement (Same fill calls values) (ItemSame fill calls values)
    (λ x y is. let P : Layer → Type 0 = λ z. Same fill calls values (roll-Statement z) in subst P is (rolled fill calls values y))
    (λ x y is. let P : CaseItem-F Statement CaseItem → Type 0 = λ z. ItemSame fill calls values (roll-CaseItem z) in subst P is (rolled_item fill calls values y))

-- statements that are equal but for places do one thing
pub run-unplaced : (fill : Bit) (calls : Calls) (values : Values) (s t : Statement) (frame : Frame) → statement_unplaced s ≡ statement_unplaced t → run fill calls values s frame ≡ run fill calls values t frame
run-unplaced fill calls values s t frame h =
    ap (λ (f : Frame → Frame). f frame) (sym (all_same fill calls values s) ∙ ap (run fill calls values) h ∙ all_same fill calls values t)
