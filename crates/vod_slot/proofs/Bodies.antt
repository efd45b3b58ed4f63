-- What a body leaves when all of it was run, where expressions keep their values; and what its statements read and write.
use Rattle.std.proofs.Common.{◌≡◌, Bool, true, false, if◌then◌else◌, List, [], ◌∷◌, ◌++◌, map, flat_map, refl, ap, sym, ◌∙◌, subst, All, Option, append_assoc}
use Rattle.std.proofs.lemmas.Grind.{flat_map-append}
use Rattle.std.proofs.lemmas.List.{append-nil}
use Rattle.std.proofs.lemmas.List.Elements.{All-head, All-tail, All-cons}
use Rattle.vod_bits.specs.Bit.{Bit, BX, is_1}
use Rattle.vod_four.specs.Four.{truth_bit}
use Rattle.vod_design.specs.declared.sized.SizedExpr.{SizedExpr}
use Rattle.vod_design.specs.declared.statement.CaseItem.{CaseItem}
use Rattle.vod_design.specs.declared.statement.Part.{Part}
use Rattle.vod_design.specs.declared.statement.PartTarget.{PartTarget}
use Rattle.vod_design.specs.declared.statement.PartTarget.TheVariants as part
use Rattle.vod_design.specs.declared.statement.Statement.{Statement}
use Rattle.vod_design.specs.declared.statement.Statement.TheOpen.{Statement-F, CaseItem-F}
use Rattle.vod_design.specs.declared.statement.Statement.TheFolds.{fold-Statement, fold-CaseItem, map-Statement, fold-roll-Statement, fold_out-CaseItem}
use Rattle.vod_design.specs.declared.statement.Statement.TheViews.{out-Statement, roll-Statement, roll-out-Statement}
use Rattle.vod_design.specs.declared.statement.Target.{Target}
use Rattle.vod_design.specs.Eval.{identical_bit}
use Rattle.vod_design.specs.Run.{Choice, compared_in, at_largest, has_label, first_branch, case_branch, index_bits, target_of}
use Rattle.vod_design.specs.Uses.{part_index, layer_exprs, item_exprs, exprs}
use Rattle.vod_design.specs.Values.{Operand, bounded, select_bits}
use Rattle.vod_slot.specs.State.{Piece, Update}
use Rattle.vod_slot.specs.Step.{choice, next_after, piece, updates_of}
use Rattle.vod_slot.proofs.Lists.{all_none, all_one, all_front, all_back}
use Rattle.vod_slot.proofs.Statements.{case_kept, either_kept}

abbrev pub Value : Type 0
Value = SizedExpr → Operand

abbrev Layer : Type 0
Layer = Statement-F Statement CaseItem

-- all updates that a statement leaves, in order (9.2.2)

abbrev pub Branch : Type 0
Branch = Choice (List Update)

abbrev pub layer_updates : Value → Statement-F (List Update) Branch → List Update
layer_updates value (Statement-F.Assign parts right) = map (piece value right) parts ∷ []
layer_updates value (Statement-F.If test taken other) = if is_1 (truth_bit (value test).bits) then taken else other
layer_updates value (Statement-F.Case tested items otherwise) = case_branch value tested items otherwise
layer_updates value (Statement-F.Begin statements) = flat_map (λ us. us) statements
layer_updates value Statement-F.Empty = []

abbrev pub item_updates : CaseItem-F (List Update) Branch → Branch
item_updates item = record { labels = item.labels; body = item.body }

unfoldable pub all_updates : Value → Statement → List Update
all_updates value s = fold-Statement (List Update) Branch (layer_updates value) item_updates s

abbrev pub stack_updates : Value → List Statement → List Update
stack_updates value statements = flat_map (all_updates value) statements

abbrev pub branch_of : Value → CaseItem → Branch
branch_of value item = fold-CaseItem (List Update) Branch (layer_updates value) item_updates item

abbrev updates_at : Value → Layer → List Update
updates_at value x = layer_updates value (map-Statement Statement CaseItem (List Update) Branch (all_updates value) (branch_of value) x)

statement_at : (value : Value) (s : Statement) → all_updates value s ≡ updates_at value (out-Statement s)
unfolding all_updates
statement_at value s = ap (fold-Statement (List Update) Branch (layer_updates value) item_updates) (sym (roll-out-Statement s)) ∙ fold-roll-Statement (List Update) Branch (layer_updates value) item_updates (out-Statement s)

abbrev branch : List SizedExpr → List Update → Branch
branch labels body = record { labels = labels; body = body }

item_at : (value : Value) (item : CaseItem) → branch_of value item ≡ branch item.labels (all_updates value item.body)
unfolding all_updates
item_at value item = fold_out-CaseItem (List Update) Branch (layer_updates value) item_updates item

items_at : (value : Value) (items : List CaseItem) → map (branch_of value) items ≡ map (λ (item : CaseItem). branch item.labels (all_updates value item.body)) items
items_at value [] = refl
items_at value (item ∷ items) =
    let here = item_at value item in
    let more = items_at value items in
    ap (λ b. b ∷ map (branch_of value) items) here ∙ ap (λ bs. branch item.labels (all_updates value item.body) ∷ bs) more

labels_at : (value : Value) (items : List CaseItem) → flat_map (λ (b : Branch). b.labels) (map (λ (item : CaseItem). branch item.labels (all_updates value item.body)) items) ≡ flat_map (λ (c : Choice Statement). c.labels) (map choice items)
labels_at value [] = refl
labels_at value (item ∷ items) = ap (λ ls. item.labels ++ ls) (labels_at value items)

first_at : (value : Value) (v : SizedExpr → List Bit) (tested : List Bit) (items : List CaseItem) (otherwise : Statement) → first_branch v tested (map (λ (item : CaseItem). branch item.labels (all_updates value item.body)) items) (all_updates value otherwise) ≡ all_updates value (first_branch v tested (map choice items) otherwise)
first_at value v tested [] otherwise = refl
first_at value v tested (item ∷ items) otherwise =
    taken (has_label v tested item.labels) (first_branch v tested (map (λ (i : CaseItem). branch i.labels (all_updates value i.body)) items) (all_updates value otherwise)) (first_branch v tested (map choice items) otherwise) (first_at value v tested items otherwise)
  where
    taken : (b : Bool) (us : List Update) (s : Statement) → us ≡ all_updates value s → (if b then all_updates value item.body else us) ≡ all_updates value (if b then item.body else s)
    taken true us s e = refl
    taken false us s e = e

case_at : (value : Value) (tested : SizedExpr) (items : List CaseItem) (otherwise : Statement) → case_branch value tested (map (branch_of value) items) (all_updates value otherwise) ≡ all_updates value (case_branch value tested (map choice items) otherwise)
case_at value tested items otherwise =
    let bs = map (λ (item : CaseItem). branch item.labels (all_updates value item.body)) items in
    let es = compared_in tested (map choice items) in
    ap (λ xs. case_branch value tested xs (all_updates value otherwise)) (items_at value items)
    ∙ ap (λ ls. first_branch (λ e. at_largest ls (value e).bits) (at_largest ls (value tested).bits) bs (all_updates value otherwise)) (ap (λ ls. tested ∷ ls) (labels_at value items))
    ∙ first_at value (λ e. at_largest es (value e).bits) (at_largest es (value tested).bits) items otherwise

in_turn : (value : Value) (ss : List Statement) → flat_map (λ us. us) (map (all_updates value) ss) ≡ stack_updates value ss
in_turn value [] = refl
in_turn value (s ∷ ss) = ap (λ us. all_updates value s ++ us) (in_turn value ss)

either_at : (value : Value) (b : Bool) (s t : Statement) → (if b then all_updates value s else all_updates value t) ≡ all_updates value (if b then s else t)
either_at value true s t = refl
either_at value false s t = refl

layer_step : (value : Value) (x : Layer) → updates_at value x ≡ updates_of value x ++ stack_updates value (next_after value x)
layer_step value (Statement-F.Assign parts right) = refl
layer_step value (Statement-F.If test taken other) = either_at value (is_1 (truth_bit (value test).bits)) taken other ∙ sym (append-nil (all_updates value (if is_1 (truth_bit (value test).bits) then taken else other)))
layer_step value (Statement-F.Case tested items otherwise) = case_at value tested items otherwise ∙ sym (append-nil (all_updates value (case_branch value tested (map choice items) otherwise)))
layer_step value (Statement-F.Begin statements) = in_turn value statements
layer_step value Statement-F.Empty = refl

-- a statement that runs leaves its own, and then those of what it leaves to be run
pub one_step : (value : Value) (s : Statement) (ss : List Statement) → stack_updates value (s ∷ ss) ≡ updates_of value (out-Statement s) ++ stack_updates value (next_after value (out-Statement s) ++ ss)
one_step value s ss =
    let new = updates_of value (out-Statement s) in
    let next = next_after value (out-Statement s) in
    ap (λ us. us ++ stack_updates value ss) (statement_at value s ∙ layer_step value (out-Statement s))
    ∙ append_assoc new (stack_updates value next) (stack_updates value ss)
    ∙ ap (λ us. new ++ us) (sym (flat_map-append (all_updates value) next ss))

pub one_body : (value : Value) (s : Statement) → stack_updates value (s ∷ []) ≡ all_updates value s
one_body value s = append-nil (all_updates value s)

-- the expressions of a statement

abbrev item_reads : CaseItem → List SizedExpr
item_reads item = fold-CaseItem (List SizedExpr) (List SizedExpr) layer_exprs item_exprs item

abbrev pub exprs_of : Layer → List SizedExpr
exprs_of x = layer_exprs (map-Statement Statement CaseItem (List SizedExpr) (List SizedExpr) exprs item_reads x)

pub exprs_at : (s : Statement) → exprs s ≡ exprs_of (out-Statement s)
unfolding exprs
exprs_at s = ap (fold-Statement (List SizedExpr) (List SizedExpr) layer_exprs item_exprs) (sym (roll-out-Statement s)) ∙ fold-roll-Statement (List SizedExpr) (List SizedExpr) layer_exprs item_exprs (out-Statement s)

pub exprs_rolled : (x : Layer) → exprs (roll-Statement x) ≡ exprs_of x
unfolding exprs
exprs_rolled x = fold-roll-Statement (List SizedExpr) (List SizedExpr) layer_exprs item_exprs x

item_exprs_at : (item : CaseItem) → item_reads item ≡ item.labels ++ exprs item.body
unfolding exprs
item_exprs_at item = fold_out-CaseItem (List SizedExpr) (List SizedExpr) layer_exprs item_exprs item

-- where they keep a property, those of what is left keep it
abbrev pub ExprsAre : (SizedExpr → Type 0) → Statement → Type 0
ExprsAre P s = All P (exprs s)

items_are : (P : SizedExpr → Type 0) (items : List CaseItem) → All P (flat_map (λ item. item) (map item_reads items)) → All (λ (item : CaseItem). ExprsAre P item.body) items
items_are P [] h = all_none (λ (item : CaseItem). ExprsAre P item.body)
items_are P (item ∷ items) h =
    All-cons (λ (i : CaseItem). ExprsAre P i.body) item items
    (all_back P item.labels (exprs item.body) (subst (All P) (item_exprs_at item) (all_front P (item_reads item) (flat_map (λ i. i) (map item_reads items)) h)))
    (items_are P items (all_back P (item_reads item) (flat_map (λ i. i) (map item_reads items)) h))

each_are : (P : SizedExpr → Type 0) (ss : List Statement) → All P (flat_map (λ s. s) (map exprs ss)) → All (ExprsAre P) ss
each_are P [] h = all_none (ExprsAre P)
each_are P (s ∷ ss) h = All-cons (ExprsAre P) s ss (all_front P (exprs s) (flat_map (λ i. i) (map exprs ss)) h) (each_are P ss (all_back P (exprs s) (flat_map (λ i. i) (map exprs ss)) h))

next_exprs : (P : SizedExpr → Type 0) (value : Value) (x : Layer) → All P (exprs_of x) → All (ExprsAre P) (next_after value x)
next_exprs P value (Statement-F.Assign parts right) h = all_none (ExprsAre P)
next_exprs P value (Statement-F.If test taken other) h =
    let rest = All-tail P test (exprs taken ++ exprs other) h in
    all_one (ExprsAre P) (if is_1 (truth_bit (value test).bits) then taken else other) (either_kept (ExprsAre P) (is_1 (truth_bit (value test).bits)) taken other (all_front P (exprs taken) (exprs other) rest) (all_back P (exprs taken) (exprs other) rest))
next_exprs P value (Statement-F.Case tested items otherwise) h =
    let rest = All-tail P tested (flat_map (λ i. i) (map item_reads items) ++ exprs otherwise) h in
    all_one (ExprsAre P) (case_branch value tested (map choice items) otherwise)
    (case_kept (ExprsAre P) value tested items otherwise
    (items_are P items (all_front P (flat_map (λ i. i) (map item_reads items)) (exprs otherwise) rest))
    (all_back P (flat_map (λ i. i) (map item_reads items)) (exprs otherwise) rest))
next_exprs P value (Statement-F.Begin statements) h = each_are P statements h
next_exprs P value Statement-F.Empty h = all_none (ExprsAre P)

pub exprs_kept : (P : SizedExpr → Type 0) (value : Value) (s : Statement) → ExprsAre P s → All (ExprsAre P) (next_after value (out-Statement s))
exprs_kept P value s h = next_exprs P value (out-Statement s) (subst (All P) (exprs_at s) h)

-- where they have the same values, a statement does the same

abbrev pub Agrees : Value → Value → SizedExpr → Type 0
Agrees v w e = v e ≡ w e

labels_agree : (v w : Value) (es : List SizedExpr) (tested : List Bit) (labels : List SizedExpr) → All (Agrees v w) labels → has_label (λ e. at_largest es (v e).bits) tested labels ≡ has_label (λ e. at_largest es (w e).bits) tested labels
labels_agree v w es tested [] h = refl
labels_agree v w es tested (l ∷ labels) h =
    let here : is_1 (identical_bit tested (at_largest es (v l).bits)) ≡ is_1 (identical_bit tested (at_largest es (w l).bits)) = ap (λ (o : Operand). is_1 (identical_bit tested (at_largest es o.bits))) (All-head (Agrees v w) l labels h) in
    let more = labels_agree v w es tested labels (All-tail (Agrees v w) l labels h) in
    cc

first_agrees : (v w : Value) (es : List SizedExpr) (tested : List Bit) (items : List CaseItem) (otherwise : Statement) → All (Agrees v w) (flat_map (λ i. i) (map item_reads items)) →
    first_branch (λ e. at_largest es (v e).bits) tested (map choice items) otherwise ≡ first_branch (λ e. at_largest es (w e).bits) tested (map choice items) otherwise
first_agrees v w es tested [] otherwise h = refl
first_agrees v w es tested (item ∷ items) otherwise h =
    let own : All (Agrees v w) (item.labels ++ exprs item.body) = subst (All (Agrees v w)) (item_exprs_at item) (all_front (Agrees v w) (item_reads item) (flat_map (λ i. i) (map item_reads items)) h) in
    let here = labels_agree v w es tested item.labels (all_front (Agrees v w) item.labels (exprs item.body) own) in
    let more = first_agrees v w es tested items otherwise (all_back (Agrees v w) (item_reads item) (flat_map (λ i. i) (map item_reads items)) h) in
    ap (λ (b : Bool). if b then item.body else first_branch (λ e. at_largest es (v e).bits) tested (map choice items) otherwise) here
    ∙ ap (λ (s : Statement). if has_label (λ e. at_largest es (w e).bits) tested item.labels then item.body else s) more

next_at : (v w : Value) (x : Layer) → All (Agrees v w) (exprs_of x) → next_after v x ≡ next_after w x
next_at v w (Statement-F.Assign parts right) h = refl
next_at v w (Statement-F.If test taken other) h = ap (λ (o : Operand). (if is_1 (truth_bit o.bits) then taken else other) ∷ []) (All-head (Agrees v w) test (exprs taken ++ exprs other) h)
next_at v w (Statement-F.Case tested items otherwise) h =
    let es = compared_in tested (map choice items) in
    let rest = All-tail (Agrees v w) tested (flat_map (λ i. i) (map item_reads items) ++ exprs otherwise) h in
    ap (λ (o : Operand). first_branch (λ e. at_largest es (v e).bits) (at_largest es o.bits) (map choice items) otherwise ∷ []) (All-head (Agrees v w) tested (flat_map (λ i. i) (map item_reads items) ++ exprs otherwise) h)
    ∙ ap (λ s. s ∷ []) (first_agrees v w es (at_largest es (w tested).bits) items otherwise (all_front (Agrees v w) (flat_map (λ i. i) (map item_reads items)) (exprs otherwise) rest))
next_at v w (Statement-F.Begin statements) h = refl
next_at v w Statement-F.Empty h = refl

index_agrees : (v w : Value) (t : PartTarget) → All (Agrees v w) (part_index t) → index_bits BX v t ≡ index_bits BX w t
index_agrees v w (part.Bits x low) h = refl
index_agrees v w (part.Index x least index) h = ap (λ (o : Operand). o.bits) (All-head (Agrees v w) index [] h)
index_agrees v w (part.Word memory least index) h = ap (λ (o : Operand). o.bits) (All-head (Agrees v w) index [] h)

abbrev piece_of : Option Target → List Bit → Piece
piece_of target value = record { target = target; value = value }

pieces_agree : (v w : Value) (right : SizedExpr) (parts : List Part) → v right ≡ w right → All (Agrees v w) (flat_map (λ (p : Part). part_index p.target) parts) → map (piece v right) parts ≡ map (piece w right) parts
pieces_agree v w right [] same h = refl
pieces_agree v w right (p ∷ parts) same h =
    let index = index_agrees v w p.target (all_front (Agrees v w) (part_index p.target) (flat_map (λ (q : Part). part_index q.target) parts) h) in
    let here : piece v right p ≡ piece w right p
    = ap (λ bits. piece_of (target_of p.target bits) (select_bits BX p.low (bounded p.width) (v right).bits)) index
    ∙ ap (λ (o : Operand). piece_of (target_of p.target (index_bits BX w p.target)) (select_bits BX p.low (bounded p.width) o.bits)) same in
    let more = pieces_agree v w right parts same (all_back (Agrees v w) (part_index p.target) (flat_map (λ (q : Part). part_index q.target) parts) h) in
    ap (λ q. q ∷ map (piece v right) parts) here ∙ ap (λ qs. piece w right p ∷ qs) more

updates_same : (v w : Value) (x : Layer) → All (Agrees v w) (exprs_of x) → updates_of v x ≡ updates_of w x
updates_same v w (Statement-F.Assign parts right) h =
    let indices = flat_map (λ (p : Part). part_index p.target) parts in
    ap (λ u. u ∷ []) (pieces_agree v w right parts (All-head (Agrees v w) right indices h) (All-tail (Agrees v w) right indices h))
updates_same v w (Statement-F.If test taken other) h = refl
updates_same v w (Statement-F.Case tested items otherwise) h = refl
updates_same v w (Statement-F.Begin statements) h = refl
updates_same v w Statement-F.Empty h = refl

pub next_agrees : (v w : Value) (s : Statement) → ExprsAre (Agrees v w) s → next_after v (out-Statement s) ≡ next_after w (out-Statement s)
next_agrees v w s h = next_at v w (out-Statement s) (subst (All (Agrees v w)) (exprs_at s) h)

pub updates_agree : (v w : Value) (s : Statement) → ExprsAre (Agrees v w) s → updates_of v (out-Statement s) ≡ updates_of w (out-Statement s)
updates_agree v w s h = updates_same v w (out-Statement s) (subst (All (Agrees v w)) (exprs_at s) h)
