-- A call of a function gives a known value where its arguments are known: what it reads was assigned before.
use Rattle.std.proofs.Common.{arith, ◌≡◌, ◌<◌, ℕ, zero, suc, ◌+◌, ◌&&◌, Bool, true, false, if◌then◌else◌, List, [], ◌∷◌, ◌++◌, length, map, flat_map, replicate, get_or, refl, ap, sym, ◌∙◌, subst, ⊎_elim, All, Some, slice_get, append_assoc, eq-eqb}
use Rattle.std.specs.List.{list_all}
use Rattle.std.proofs.lemmas.Bool.{and_parts, cases_eq, ne_eqb}
use Rattle.std.proofs.lemmas.List.{length-replicate, map-append}
use Rattle.std.proofs.lemmas.List.Elements.{All-head, All-tail, All-weaker}
use Rattle.vod_bits.specs.Bit.{Bit, BX, is_1}
use Rattle.vod_four.specs.Four.{truth_bit}
use Rattle.vod_design.specs.declared.sized.SizedExpr.{SizedExpr}
use Rattle.vod_design.specs.declared.statement.CaseItem.{CaseItem}
use Rattle.vod_design.specs.declared.statement.Function.{Function}
use Rattle.vod_design.specs.declared.statement.Part.{Part}
use Rattle.vod_design.specs.declared.statement.Size.{Size}
use Rattle.vod_design.specs.declared.statement.Statement.{Statement}
use Rattle.vod_design.specs.declared.statement.Statement.TheOpen.{Statement-F, CaseItem-F}
use Rattle.vod_design.specs.declared.statement.Statement.TheFolds.{fold-CaseItem, map-Statement, map-CaseItem, fold-roll-Statement, fold-roll-CaseItem, ind-Statement}
use Rattle.vod_design.specs.declared.statement.Statement.TheViews.{roll-Statement, roll-CaseItem}
use Rattle.vod_design.specs.Accepted.{IsAccepted, IndicesInside, IsCallable}
use Rattle.vod_design.specs.Eval.{Calls, operand_of}
use Rattle.vod_design.specs.Flat.{PartFits, SizeFits, FunctionFits}
use Rattle.vod_design.specs.Functions.{Assigned, may_read, Checked, after_both, parts_assigned, in_order, any_way, layer_checked, item_checked, statement_checked, assigned_at_entry, use_called}
use Rattle.vod_design.specs.Netlist.{Netlist, variable_widths}
use Rattle.vod_design.specs.Run.{Branch, has_label, first_branch, compared_in, at_largest, in_turn, effect, branch_of, run, branch, nothing, entered, frame_of, result_of, call_below, index_bits}
use Rattle.vod_design.specs.Uses.{Assignment, layer_exprs, item_exprs, exprs, layer_assignments, item_assignments, assignments, part_index, uses}
use Rattle.vod_design.specs.Values.{Frame, Operand, bounded, at_size, value_at, unknown}
use Rattle.vod_slot.specs.Known.{AreKnown, HasKnown, HasKnownConstants}
use Rattle.vod_slot.proofs.Lists.{all_at, all_front, all_back}
use Rattle.vod_slot.proofs.Owned.{unflat}
use Rattle.vod_slot.proofs.KnownBits.{size_known}
use Rattle.vod_slot.proofs.KnownExprs.{operand_length, at_size_length}
use Rattle.vod_slot.proofs.KnownUses.{CallsKnown, ExprGood, expr_good, bounded_size}
use Rattle.vod_slot.proofs.KnownFrames.{IsFrame, read_known, parts_frame, frame_left, frame_right}

-- statements

abbrev AssignGood : Netlist → List ℕ → Assignment → Type 0
AssignGood d ws a = All (PartFits d ws a.right) a.parts

abbrev StatementKnown : Netlist → List ℕ → Calls → Statement → Type 0
StatementKnown d ws calls s = (done : Assigned) (frame : Frame) → (statement_checked ws s done).fine ≡ true → All (ExprGood d ws calls) (exprs s) → All (AssignGood d ws) (assignments s) → IsFrame ws done frame → IsFrame ws (statement_checked ws s done).after (run BX calls (nothing BX) s frame)

abbrev checks_of : List ℕ → CaseItem → Assigned → Checked
checks_of ws item = fold-CaseItem (Assigned → Checked) (Assigned → Checked) (layer_checked ws) item_checked item

abbrev item_reads : CaseItem → List SizedExpr
item_reads item = fold-CaseItem (List SizedExpr) (List SizedExpr) layer_exprs item_exprs item

abbrev item_assigns : CaseItem → List Assignment
item_assigns item = fold-CaseItem (List Assignment) (List Assignment) layer_assignments item_assignments item

abbrev ItemKnown : Netlist → List ℕ → Calls → CaseItem → Type 0
ItemKnown d ws calls item = (done : Assigned) (frame : Frame) → (checks_of ws item done).fine ≡ true → All (ExprGood d ws calls) (item_reads item) → All (AssignGood d ws) (item_assigns item) → IsFrame ws done frame → IsFrame ws (checks_of ws item done).after ((branch BX calls (nothing BX) item).body frame)

abbrev With : Netlist → List ℕ → Calls → Type 0
With d ws calls = (s : Statement) × StatementKnown d ws calls s

abbrev WithItem : Netlist → List ℕ → Calls → Type 0
WithItem d ws calls = (item : CaseItem) × ItemKnown d ws calls item

abbrev Layer : Type 0
Layer = Statement-F Statement CaseItem

abbrev bare : (d : Netlist) (ws : List ℕ) (calls : Calls) → Statement-F (With d ws calls) (WithItem d ws calls) → Layer
bare d ws calls y = map-Statement (With d ws calls) (WithItem d ws calls) Statement CaseItem (λ s. s.0) (λ i. i.0) y

abbrev checks_at : List ℕ → Layer → Assigned → Checked
checks_at ws x = layer_checked ws (map-Statement Statement CaseItem (Assigned → Checked) (Assigned → Checked) (statement_checked ws) (checks_of ws) x)

abbrev exprs_at : Layer → List SizedExpr
exprs_at x = layer_exprs (map-Statement Statement CaseItem (List SizedExpr) (List SizedExpr) exprs item_reads x)

abbrev assigns_at : Layer → List Assignment
assigns_at x = layer_assignments (map-Statement Statement CaseItem (List Assignment) (List Assignment) assignments item_assigns x)

abbrev effect_at : Calls → Layer → Frame → Frame
effect_at calls x = effect BX (operand_of BX calls (nothing BX)) (map-Statement Statement CaseItem (Frame → Frame) Branch (run BX calls (nothing BX)) (branch BX calls (nothing BX)) x)

either_frame : (ws : List ℕ) (b : Bool) (as_ bs : Assigned) (taken other : Frame → Frame) (frame : Frame) → IsFrame ws as_ (taken frame) → IsFrame ws bs (other frame) → IsFrame ws (after_both as_ bs) ((if b then taken else other) frame)
either_frame ws true as_ bs taken other frame f g = frame_left ws as_ bs (taken frame) f
either_frame ws false as_ bs taken other frame f g = frame_right ws as_ bs (other frame) g

cases_frame : (d : Netlist) (ws : List ℕ) (calls : Calls) (v : SizedExpr → List Bit) (tested : List Bit) (items : List (WithItem d ws calls)) (last : Checked) (otherwise : Frame → Frame) (done : Assigned) (frame : Frame) → (last.fine ≡ true → IsFrame ws last.after (otherwise frame)) →
    (any_way (map (checks_of ws) (map (λ i. i.0) items)) last done).fine ≡ true → All (ExprGood d ws calls) (flat_map (λ i. i) (map item_reads (map (λ i. i.0) items))) → All (AssignGood d ws) (flat_map (λ i. i) (map item_assigns (map (λ i. i.0) items))) → IsFrame ws done frame →
    IsFrame ws (any_way (map (checks_of ws) (map (λ i. i.0) items)) last done).after (first_branch v tested (map (branch BX calls (nothing BX)) (map (λ i. i.0) items)) otherwise frame)
cases_frame d ws calls v tested [] last otherwise done frame ends fine e a f = ends fine
cases_frame d ws calls v tested (item ∷ items) last otherwise done frame ends fine e a f =
    let rest = map (λ (i : WithItem d ws calls). i.0) items in
    let more = any_way (map (checks_of ws) rest) last done in
    let p = and_parts (checks_of ws item.0 done).fine more.fine fine in
    let es = flat_map (λ i. i) (map item_reads rest) in
    let as_ = flat_map (λ i. i) (map item_assigns rest) in
    let b = branch BX calls (nothing BX) item.0 in
    either_frame ws (has_label v tested b.labels) (checks_of ws item.0 done).after more.after b.body (first_branch v tested (map (branch BX calls (nothing BX)) rest) otherwise) frame
    (item.1 done frame p.0 (all_front (ExprGood d ws calls) (item_reads item.0) es e) (all_front (AssignGood d ws) (item_assigns item.0) as_ a) f)
    (cases_frame d ws calls v tested items last otherwise done frame ends p.1 (all_back (ExprGood d ws calls) (item_reads item.0) es e) (all_back (AssignGood d ws) (item_assigns item.0) as_ a) f)

turns_frame : (d : Netlist) (ws : List ℕ) (calls : Calls) (ss : List (With d ws calls)) (done : Assigned) (frame : Frame) → (in_order (map (statement_checked ws) (map (λ s. s.0) ss)) done).fine ≡ true → All (ExprGood d ws calls) (flat_map (λ s. s) (map exprs (map (λ s. s.0) ss))) → All (AssignGood d ws) (flat_map (λ s. s) (map assignments (map (λ s. s.0) ss))) → IsFrame ws done frame →
    IsFrame ws (in_order (map (statement_checked ws) (map (λ s. s.0) ss)) done).after (in_turn (map (run BX calls (nothing BX)) (map (λ s. s.0) ss)) frame)
turns_frame d ws calls [] done frame fine e a f = f
turns_frame d ws calls (s ∷ ss) done frame fine e a f =
    let rest = map (λ (t : With d ws calls). t.0) ss in
    let first = statement_checked ws s.0 done in
    let p = and_parts first.fine (in_order (map (statement_checked ws) rest) first.after).fine fine in
    let es = flat_map (λ t. t) (map exprs rest) in
    let as_ = flat_map (λ t. t) (map assignments rest) in
    turns_frame d ws calls ss first.after (run BX calls (nothing BX) s.0 frame) p.1 (all_back (ExprGood d ws calls) (exprs s.0) es e) (all_back (AssignGood d ws) (assignments s.0) as_ a)
    (s.1 done frame p.0 (all_front (ExprGood d ws calls) (exprs s.0) es e) (all_front (AssignGood d ws) (assignments s.0) as_ a) f)

layer_frame : (d : Netlist) (ws : List ℕ) (calls : Calls) (y : Statement-F (With d ws calls) (WithItem d ws calls)) (done : Assigned) (frame : Frame) → (checks_at ws (bare d ws calls y) done).fine ≡ true → All (ExprGood d ws calls) (exprs_at (bare d ws calls y)) → All (AssignGood d ws) (assigns_at (bare d ws calls y)) → IsFrame ws done frame →
    IsFrame ws (checks_at ws (bare d ws calls y) done).after (effect_at calls (bare d ws calls y) frame)
layer_frame d ws calls (Statement-F.Assign parts right) done frame fine e a f =
    let indices = flat_map (λ (p : Part). part_index p.target) parts in
    let p = and_parts (list_all (may_read done) (right ∷ indices)) (parts_assigned ws parts done).fine fine in
    let reads = (and_parts (may_read done right) (list_all (may_read done) indices) p.0).0 in
    let good : ExprGood d ws calls right = All-head (ExprGood d ws calls) right indices e in
    let whole : Assignment = record { parts = parts; right = right } in
    parts_frame d ws done frame right parts (index_bits BX (operand_of BX calls (nothing BX) frame)) (operand_of BX calls (nothing BX) frame right).bits f (All-head (AssignGood d ws) whole [] a)
    (read_known d ws calls done frame right f reads good) (operand_length BX calls (nothing BX) frame right ∙ bounded_size right.width good.size) p.1
layer_frame d ws calls (Statement-F.If test taken other) done frame fine e a f =
    let t = statement_checked ws taken.0 done in
    let o = statement_checked ws other.0 done in
    let p = and_parts (may_read done test) (t.fine && o.fine) fine in
    let q = and_parts t.fine o.fine p.1 in
    let rest = All-tail (ExprGood d ws calls) test (exprs taken.0 ++ exprs other.0) e in
    either_frame ws (is_1 (truth_bit (operand_of BX calls (nothing BX) frame test).bits)) t.after o.after (run BX calls (nothing BX) taken.0) (run BX calls (nothing BX) other.0) frame
    (taken.1 done frame q.0 (all_front (ExprGood d ws calls) (exprs taken.0) (exprs other.0) rest) (all_front (AssignGood d ws) (assignments taken.0) (assignments other.0) a) f)
    (other.1 done frame q.1 (all_back (ExprGood d ws calls) (exprs taken.0) (exprs other.0) rest) (all_back (AssignGood d ws) (assignments taken.0) (assignments other.0) a) f)
layer_frame d ws calls (Statement-F.Case tested items otherwise) done frame fine e a f =
    let bare_items = map (λ (i : WithItem d ws calls). i.0) items in
    let branches = map (branch BX calls (nothing BX)) bare_items in
    let last = statement_checked ws otherwise.0 done in
    let p = and_parts (may_read done tested) (any_way (map (checks_of ws) bare_items) last done).fine fine in
    let es = flat_map (λ i. i) (map item_reads bare_items) in
    let as_ = flat_map (λ i. i) (map item_assigns bare_items) in
    let rest = All-tail (ExprGood d ws calls) tested (es ++ exprs otherwise.0) e in
    let value = operand_of BX calls (nothing BX) frame in
    let compared = compared_in tested branches in
    cases_frame d ws calls (λ x. at_largest compared (value x).bits) (at_largest compared (value tested).bits) items last (run BX calls (nothing BX) otherwise.0) done frame
    (λ ok. otherwise.1 done frame ok (all_back (ExprGood d ws calls) es (exprs otherwise.0) rest) (all_back (AssignGood d ws) as_ (assignments otherwise.0) a) f)
    p.1 (all_front (ExprGood d ws calls) es (exprs otherwise.0) rest) (all_front (AssignGood d ws) as_ (assignments otherwise.0) a) f
layer_frame d ws calls (Statement-F.Begin statements) done frame fine e a f = turns_frame d ws calls statements done frame fine e a f
layer_frame d ws calls Statement-F.Empty done frame fine e a f = f

rolled : (d : Netlist) (ws : List ℕ) (calls : Calls) (y : Statement-F (With d ws calls) (WithItem d ws calls)) → StatementKnown d ws calls (roll-Statement (bare d ws calls y))
unfolding statement_checked exprs assignments run branch
rolled d ws calls y done frame fine e a f =
    let x = bare d ws calls y in
    let checks = fold-roll-Statement (Assigned → Checked) (Assigned → Checked) (layer_checked ws) item_checked x in
    let effects = fold-roll-Statement (Frame → Frame) Branch (effect BX (operand_of BX calls (nothing BX))) branch_of x in
    let ok : (checks_at ws x done).fine ≡ true = ap (λ (c : Assigned → Checked). (c done).fine) (sym checks) ∙ fine in
    let here = layer_frame d ws calls y done frame ok
    (subst (All (ExprGood d ws calls)) (fold-roll-Statement (List SizedExpr) (List SizedExpr) layer_exprs item_exprs x) e)
    (subst (All (AssignGood d ws)) (fold-roll-Statement (List Assignment) (List Assignment) layer_assignments item_assignments x) a) f in
    subst (λ (c : Assigned → Checked). IsFrame ws (c done).after (run BX calls (nothing BX) (roll-Statement x) frame)) (sym checks)
    (subst (λ (g : Frame → Frame). IsFrame ws (checks_at ws x done).after (g frame)) (sym effects) here)

abbrev bare_item : (d : Netlist) (ws : List ℕ) (calls : Calls) → CaseItem-F (With d ws calls) (WithItem d ws calls) → CaseItem-F Statement CaseItem
bare_item d ws calls y = map-CaseItem (With d ws calls) (WithItem d ws calls) Statement CaseItem (λ s. s.0) (λ i. i.0) y

rolled_item : (d : Netlist) (ws : List ℕ) (calls : Calls) (y : CaseItem-F (With d ws calls) (WithItem d ws calls)) → ItemKnown d ws calls (roll-CaseItem (bare_item d ws calls y))
unfolding statement_checked exprs assignments run branch
rolled_item d ws calls y done frame fine e a f =
    let x = bare_item d ws calls y in
    let checks = fold-roll-CaseItem (Assigned → Checked) (Assigned → Checked) (layer_checked ws) item_checked x in
    let effects = fold-roll-CaseItem (Frame → Frame) Branch (effect BX (operand_of BX calls (nothing BX))) branch_of x in
    let body = statement_checked ws y.body.0 done in
    let ok : (list_all (may_read done) y.labels && body.fine) ≡ true = ap (λ (c : Assigned → Checked). (c done).fine) (sym checks) ∙ fine in
    let p = and_parts (list_all (may_read done) y.labels) body.fine ok in
    let es : All (ExprGood d ws calls) (y.labels ++ exprs y.body.0) = subst (All (ExprGood d ws calls)) (fold-roll-CaseItem (List SizedExpr) (List SizedExpr) layer_exprs item_exprs x) e in
    let as_ : All (AssignGood d ws) (assignments y.body.0) = subst (All (AssignGood d ws)) (fold-roll-CaseItem (List Assignment) (List Assignment) layer_assignments item_assignments x) a in
    let here : IsFrame ws body.after (run BX calls (nothing BX) y.body.0 frame) = y.body.1 done frame p.1 (all_back (ExprGood d ws calls) y.labels (exprs y.body.0) es) as_ f in
    subst (λ (c : Assigned → Checked). IsFrame ws (c done).after ((branch BX calls (nothing BX) (roll-CaseItem x)).body frame)) (sym checks)
    (subst (λ (b : Branch). IsFrame ws body.after (b.body frame)) (sym effects) here)

statement_known : (d : Netlist) (ws : List ℕ) (calls : Calls) (s : Statement) → StatementKnown d ws calls s
statement_known d ws calls =
    ind-Statement (StatementKnown d ws calls) (ItemKnown d ws calls)
    (λ x y is. let P : Layer → Type 0 = λ z. StatementKnown d ws calls (roll-Statement z) in subst P is (rolled d ws calls y))
    (λ x y is. let P : CaseItem-F Statement CaseItem → Type 0 = λ z. ItemKnown d ws calls (roll-CaseItem z) in subst P is (rolled_item d ws calls y))

-- a function as it is entered

abbrev OperandKnown : Operand → Type 0
OperandKnown a = AreKnown a.bits

entered_sizes : (inputs : List Size) (arguments : List Operand) → All SizeFits inputs → length arguments ≡ length inputs → map length (entered BX inputs arguments) ≡ map (λ (s : Size). s.width) inputs
entered_sizes [] arguments h same = refl
entered_sizes (input ∷ inputs) [] h same = absurd (omega arith)
entered_sizes (input ∷ inputs) (a ∷ arguments) h same =
    let here : length (at_size input.width a.signed a.bits) ≡ input.width = at_size_length input.width a.signed a.bits ∙ bounded_size input.width (All-head SizeFits input inputs h) in
    let more = entered_sizes inputs arguments (All-tail SizeFits input inputs h) (omega arith) in
    ap (λ n. n ∷ map length (entered BX inputs arguments)) here ∙ ap (λ ns. input.width ∷ ns) more

entered_known : (inputs : List Size) (arguments : List Operand) (rest : Frame) (n : ℕ) → All OperandKnown arguments → length arguments ≡ length inputs → n < length inputs → AreKnown (value_at BX (entered BX inputs arguments ++ rest) n)
entered_known [] arguments rest n h same lt = absurd (omega arith)
entered_known (input ∷ inputs) [] rest n h same lt = absurd (omega arith)
entered_known (input ∷ inputs) (a ∷ arguments) rest zero h same lt = size_known input.width a.signed a.bits (All-head OperandKnown a arguments h)
entered_known (input ∷ inputs) (a ∷ arguments) rest (suc n) h same lt = entered_known inputs arguments rest n (All-tail OperandKnown a arguments h) (omega arith) (omega arith)

locals_sizes : (locals : List Size) → All SizeFits locals → map length (map (λ (l : Size). unknown BX (bounded l.width)) locals) ≡ map (λ (s : Size). s.width) locals
locals_sizes [] h = refl
locals_sizes (l ∷ locals) h =
    let here : length (unknown BX (bounded l.width)) ≡ l.width = length-replicate (bounded l.width) BX ∙ bounded_size l.width (All-head SizeFits l locals h) in
    let more = locals_sizes locals (All-tail SizeFits l locals h) in
    ap (λ n. n ∷ map length (map (λ (x : Size). unknown BX (bounded x.width)) locals)) here ∙ ap (λ ns. l.width ∷ ns) more

assigned_first : (m k n : ℕ) → get_or (replicate m true ++ replicate k false) n false ≡ true → n < m
assigned_first zero zero n h = absurd (cc)
assigned_first zero (suc k) zero h = absurd (cc)
assigned_first zero (suc k) (suc n) h = absurd (let l = assigned_first zero k n h in omega arith)
assigned_first (suc m) k zero h = omega arith
assigned_first (suc m) k (suc n) h = let l = assigned_first m k n h in omega arith

entry_frame : (d : Netlist) (f : Function) (arguments : List Operand) → FunctionFits d f → All OperandKnown arguments → length arguments ≡ length f.inputs → IsFrame (variable_widths f) (assigned_at_entry f) (frame_of BX f arguments)
entry_frame d f arguments fits h same =
    let first = entered BX f.inputs arguments in
    let locals = map (λ (l : Size). unknown BX (bounded l.width)) f.locals in
    let last = unknown BX (bounded f.width) in
    let one : length last ≡ f.width = length-replicate (bounded f.width) BX ∙ bounded_size f.width fits.size in
    record {
      sizes = map-append length (first ++ locals) (last ∷ []) ∙ ap (λ ns. ns ++ length last ∷ []) (map-append length first locals)
          ∙ ap (λ ns. (ns ++ map length locals) ++ length last ∷ []) (entered_sizes f.inputs arguments fits.inputs same)
          ∙ ap (λ ns. (map (λ (s : Size). s.width) f.inputs ++ ns) ++ length last ∷ []) (locals_sizes f.locals fits.locals)
          ∙ ap (λ n. (map (λ (s : Size). s.width) f.inputs ++ map (λ (s : Size). s.width) f.locals) ++ n ∷ []) one;
      known = λ n is. subst (λ (v : Frame). AreKnown (value_at BX v n)) (sym (append_assoc first locals (last ∷ []))) (entered_known f.inputs arguments (locals ++ last ∷ []) n h same (assigned_first (length f.inputs) (length f.locals + 1) n is));
    }

-- calls

function_known : (d : Netlist) (ranked : List ℕ) → IsAccepted d ranked → HasKnownConstants d → (k : ℕ) (f : Function) → slice_get d.functions k ≡ Some f → (calls : Calls) → CallsKnown d.functions calls k → (arguments : List Operand) → length arguments ≡ length f.inputs → All OperandKnown arguments → AreKnown (result_of BX calls (Some f) arguments)
function_known d ranked h constants k f at calls known arguments same each =
    let ws = variable_widths f in
    let fits : FunctionFits d f = all_at (FunctionFits d) d.functions k f h.flat.functions at in
    let callable : IsCallable d.functions k f = h.functions k f at in
    let indices : IndicesInside d ws f.body = all_at (λ (g : Function). IndicesInside d (variable_widths g) g.body) d.functions k f h.function_indices at in
    let has : All HasKnown (exprs f.body) = all_at (λ (g : Function). All HasKnown (exprs g.body)) d.functions k f constants.functions at in
    let below : All (λ e. All (λ u. All (λ m. m < k) (use_called u)) (uses e)) (exprs f.body)
    = All-weaker (λ e. All (λ m. m < k) (flat_map use_called (uses e))) (λ e. All (λ u. All (λ m. m < k) (use_called u)) (uses e)) (λ e all. unflat (λ m. m < k) use_called (uses e) all) (exprs f.body) (unflat (λ m. m < k) (λ e. flat_map use_called (uses e)) (exprs f.body) callable.earlier) in
    let good : All (ExprGood d ws calls) (exprs f.body) = λ i e l. expr_good d ws calls k (get_or (exprs f.body) i e) known (below i e l) (fits.body.exprs i e l) (indices.exprs i e l) (has i e l) in
    let end = statement_known d ws calls f.body (assigned_at_entry f) (frame_of BX f arguments) callable.fine good fits.body.parts (entry_frame d f arguments fits each same) in
    end.known (length f.inputs + length f.locals) callable.result

below_known : (d : Netlist) (ranked : List ℕ) → IsAccepted d ranked → HasKnownConstants d → (k : ℕ) → CallsKnown d.functions (call_below BX d.functions k) k
below_known d ranked h constants zero n f lt at arguments same each = absurd (omega arith)
below_known d ranked h constants (suc k) n f lt at arguments same each =
    ⊎_elim
    (λ is.
    let result = function_known d ranked h constants k f (ap (slice_get d.functions) (sym is) ∙ at) (call_below BX d.functions k) (below_known d ranked h constants k) arguments same each in
    let here : result_of BX (call_below BX d.functions k) (slice_get d.functions k) arguments ≡ result_of BX (call_below BX d.functions k) (Some f) arguments = ap (λ o. result_of BX (call_below BX d.functions k) o arguments) (ap (slice_get d.functions) (sym is) ∙ at) in
    subst (λ (b : Bool). AreKnown (if b then result_of BX (call_below BX d.functions k) (slice_get d.functions k) arguments else call_below BX d.functions k n arguments)) (sym (eq-eqb n k is)) (subst AreKnown (sym here) result))
    (λ apart.
    subst (λ (b : Bool). AreKnown (if b then result_of BX (call_below BX d.functions k) (slice_get d.functions k) arguments else call_below BX d.functions k n arguments)) (sym (ne_eqb n k apart)) (below_known d ranked h constants k n f (omega arith) at arguments same each))
    (cases_eq n k)

pub calls_known : (d : Netlist) (ranked : List ℕ) → IsAccepted d ranked → HasKnownConstants d → CallsKnown d.functions (call_below BX d.functions (length d.functions)) (length d.functions)
calls_known d ranked h constants = below_known d ranked h constants (length d.functions)
