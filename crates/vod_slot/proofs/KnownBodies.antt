-- What blocks leave is known where all is known but edge nets: no block assigns what it reads of these.
use Rattle.std.proofs.Common.{◌≡◌, inl, inr, arith, ℕ, Bool, true, false, if◌then◌else◌, List, [], ◌∷◌, ◌++◌, length, map, flat_map, get_or, sym, ◌∙◌, subst, ⊎_elim, All, Option, Some, None, slice_get, get_or-set_other}
use Rattle.std.specs.List.{Any}
use Rattle.std.proofs.lemmas.Bool.{cases_eq}
use Rattle.std.proofs.lemmas.List.{append-nil}
use Rattle.std.proofs.lemmas.List.Elements.{All-head, All-tail, All-append, All-map, All-weaker}
use Rattle.vod_bits.specs.Bit.{Bit, BX, is_1}
use Rattle.vod_four.specs.Four.{truth_bit}
use Rattle.vod_design.specs.declared.parts.Block.{Block}
use Rattle.vod_design.specs.declared.parts.Edge.{Edge}
use Rattle.vod_design.specs.declared.sized.SizedExpr.{SizedExpr}
use Rattle.vod_design.specs.declared.statement.CaseItem.{CaseItem}
use Rattle.vod_design.specs.declared.statement.Part.{Part}
use Rattle.vod_design.specs.declared.statement.Statement.{Statement}
use Rattle.vod_design.specs.declared.statement.Statement.TheOpen.{Statement-F, CaseItem-F}
use Rattle.vod_design.specs.declared.statement.Statement.TheFolds.{fold-CaseItem, map-Statement, map-CaseItem, fold-roll-Statement, fold-roll-CaseItem, ind-Statement}
use Rattle.vod_design.specs.declared.statement.Statement.TheViews.{roll-Statement, roll-CaseItem}
use Rattle.vod_design.specs.Accepted.{IsAccepted, IsQuiet, IndexInside, IndicesInside, BlockRuns}
use Rattle.vod_design.specs.Flat.{PartFits, ExprFits, BlockFits}
use Rattle.vod_design.specs.Netlist.{Netlist}
use Rattle.vod_design.specs.Nets.{Touches, Resets, tests, begins, IsEdgeNet}
use Rattle.vod_design.specs.Reads.{reads}
use Rattle.vod_design.specs.Run.{has_label, first_branch, compared_in, at_largest, call_below}
use Rattle.vod_design.specs.Uses.{Assignment, layer_exprs, item_exprs, exprs, layer_assignments, item_assignments, assignments, part_index, uses}
use Rattle.vod_design.specs.Values.{bounded, value_at, select_bits}
use Rattle.vod_slot.specs.Store.{Store, ToBit, bit_replaced, values_in}
use Rattle.vod_slot.specs.State.{Update}
use Rattle.vod_slot.specs.Step.{piece}
use Rattle.vod_slot.specs.Known.{AreKnown, HasKnown, HasKnownConstants, KnownWords}
use Rattle.vod_slot.proofs.Lists.{all_none, all_one, all_at, all_front, all_back}
use Rattle.vod_slot.proofs.Puts.{sizes-written}
use Rattle.vod_slot.proofs.Constants.{reset_reads}
use Rattle.vod_slot.proofs.Bodies.{Value, Branch, layer_updates, item_updates, branch_of, all_updates}
use Rattle.vod_slot.proofs.Own.{ResetNet, tested, nothing_read}
use Rattle.vod_slot.proofs.Stages.{value_in}
use Rattle.vod_slot.proofs.Busy.{reset_net}
use Rattle.vod_slot.proofs.Activated.{fired_if, fired}
use Rattle.vod_slot.proofs.Starts.{had_start}
use Rattle.vod_slot.specs.Edges.{edge_bit}
use Rattle.vod_slot.proofs.KnownBits.{select_known}
use Rattle.vod_slot.proofs.KnownExprs.{operand_length}
use Rattle.vod_slot.proofs.KnownUses.{bounded_size}
use Rattle.vod_slot.proofs.KnownWrites.{PieceKnown, UpdateKnown}
use Rattle.vod_slot.proofs.KnownReads.{KnownBut, quiet_known}

abbrev Layer : Type 0
Layer = Statement-F Statement CaseItem

abbrev item_reads : CaseItem → List SizedExpr
item_reads item = fold-CaseItem (List SizedExpr) (List SizedExpr) layer_exprs item_exprs item

abbrev item_assigns : CaseItem → List Assignment
item_assigns item = fold-CaseItem (List Assignment) (List Assignment) layer_assignments item_assignments item

abbrev exprs_at : Layer → List SizedExpr
exprs_at x = layer_exprs (map-Statement Statement CaseItem (List SizedExpr) (List SizedExpr) exprs item_reads x)

abbrev assigns_at : Layer → List Assignment
assigns_at x = layer_assignments (map-Statement Statement CaseItem (List Assignment) (List Assignment) assignments item_assigns x)

-- right sides are expressions of the statement

abbrev RightIs : (SizedExpr → Type 0) → Assignment → Type 0
RightIs P a = P a.right

abbrev RightsAre : (SizedExpr → Type 0) → Statement → Type 0
RightsAre P s = All P (exprs s) → All (RightIs P) (assignments s)

abbrev ItemRights : (SizedExpr → Type 0) → CaseItem → Type 0
ItemRights P item = All P (item_reads item) → All (RightIs P) (item_assigns item)

abbrev WithRights : (SizedExpr → Type 0) → Type 0
WithRights P = (s : Statement) × RightsAre P s

abbrev WithItemRights : (SizedExpr → Type 0) → Type 0
WithItemRights P = (i : CaseItem) × ItemRights P i

abbrev bare_rights : (P : SizedExpr → Type 0) → Statement-F (WithRights P) (WithItemRights P) → Layer
bare_rights P y = map-Statement (WithRights P) (WithItemRights P) Statement CaseItem (λ s. s.0) (λ i. i.0) y

items_rights : (P : SizedExpr → Type 0) (items : List (WithItemRights P)) → All P (flat_map (λ i. i) (map item_reads (map (λ i. i.0) items))) → All (RightIs P) (flat_map (λ i. i) (map item_assigns (map (λ i. i.0) items)))
items_rights P [] h = all_none (RightIs P)
items_rights P (i ∷ items) h =
    let es = flat_map (λ x. x) (map item_reads (map (λ (j : WithItemRights P). j.0) items)) in
    All-append (RightIs P) (item_assigns i.0) (flat_map (λ x. x) (map item_assigns (map (λ (j : WithItemRights P). j.0) items))) (i.1 (all_front P (item_reads i.0) es h)) (items_rights P items (all_back P (item_reads i.0) es h))

each_rights : (P : SizedExpr → Type 0) (ss : List (WithRights P)) → All P (flat_map (λ s. s) (map exprs (map (λ s. s.0) ss))) → All (RightIs P) (flat_map (λ s. s) (map assignments (map (λ s. s.0) ss)))
each_rights P [] h = all_none (RightIs P)
each_rights P (s ∷ ss) h =
    let es = flat_map (λ x. x) (map exprs (map (λ (t : WithRights P). t.0) ss)) in
    All-append (RightIs P) (assignments s.0) (flat_map (λ x. x) (map assignments (map (λ (t : WithRights P). t.0) ss))) (s.1 (all_front P (exprs s.0) es h)) (each_rights P ss (all_back P (exprs s.0) es h))

layer_rights : (P : SizedExpr → Type 0) (y : Statement-F (WithRights P) (WithItemRights P)) → All P (exprs_at (bare_rights P y)) → All (RightIs P) (assigns_at (bare_rights P y))
layer_rights P (Statement-F.Assign parts right) h =
    let a : Assignment = record { parts = parts; right = right } in
    all_one (RightIs P) a (All-head P right (flat_map (λ (p : Part). part_index p.target) parts) h)
layer_rights P (Statement-F.If test taken other) h =
    let rest = All-tail P test (exprs taken.0 ++ exprs other.0) h in
    All-append (RightIs P) (assignments taken.0) (assignments other.0) (taken.1 (all_front P (exprs taken.0) (exprs other.0) rest)) (other.1 (all_back P (exprs taken.0) (exprs other.0) rest))
layer_rights P (Statement-F.Case tested items otherwise) h =
    let es = flat_map (λ x. x) (map item_reads (map (λ (j : WithItemRights P). j.0) items)) in
    let rest = All-tail P tested (es ++ exprs otherwise.0) h in
    All-append (RightIs P) (flat_map (λ x. x) (map item_assigns (map (λ (j : WithItemRights P). j.0) items))) (assignments otherwise.0) (items_rights P items (all_front P es (exprs otherwise.0) rest)) (otherwise.1 (all_back P es (exprs otherwise.0) rest))
layer_rights P (Statement-F.Begin statements) h = each_rights P statements h
layer_rights P Statement-F.Empty h = all_none (RightIs P)

rolled_rights : (P : SizedExpr → Type 0) (y : Statement-F (WithRights P) (WithItemRights P)) → RightsAre P (roll-Statement (bare_rights P y))
unfolding exprs assignments
rolled_rights P y h =
    let x = bare_rights P y in
    subst (All (RightIs P)) (sym (fold-roll-Statement (List Assignment) (List Assignment) layer_assignments item_assignments x)) (layer_rights P y (subst (All P) (fold-roll-Statement (List SizedExpr) (List SizedExpr) layer_exprs item_exprs x) h))

rolled_item_rights : (P : SizedExpr → Type 0) (y : CaseItem-F (WithRights P) (WithItemRights P)) → ItemRights P (roll-CaseItem (map-CaseItem (WithRights P) (WithItemRights P) Statement CaseItem (λ s. s.0) (λ i. i.0) y))
unfolding exprs assignments
rolled_item_rights P y h =
    let x = map-CaseItem (WithRights P) (WithItemRights P) Statement CaseItem (λ s. s.0) (λ i. i.0) y in
    let es : All P (y.labels ++ exprs y.body.0) = subst (All P) (fold-roll-CaseItem (List SizedExpr) (List SizedExpr) layer_exprs item_exprs x) h in
    subst (All (RightIs P)) (sym (fold-roll-CaseItem (List Assignment) (List Assignment) layer_assignments item_assignments x)) (y.body.1 (all_back P y.labels (exprs y.body.0) es))

rights : (P : SizedExpr → Type 0) (s : Statement) → RightsAre P s
rights P =
    ind-Statement (RightsAre P) (ItemRights P)
    (λ x y is. let Q : Layer → Type 0 = λ z. RightsAre P (roll-Statement z) in subst Q is (rolled_rights P y))
    (λ x y is. let Q : CaseItem-F Statement CaseItem → Type 0 = λ z. ItemRights P (roll-CaseItem z) in subst Q is (rolled_item_rights P y))

-- where what is assigned is known, all updates are

abbrev PartKnown : Value → SizedExpr → Part → Type 0
PartKnown value right p = AreKnown (select_bits BX p.low (bounded p.width) (value right).bits)

abbrev AssignIs : Value → Assignment → Type 0
AssignIs value a = All (PartKnown value a.right) a.parts

abbrev LeavesKnown : Value → Statement → Type 0
LeavesKnown value s = All (AssignIs value) (assignments s) → All UpdateKnown (all_updates value s)

abbrev ItemLeaves : Value → CaseItem → Type 0
ItemLeaves value item = All (AssignIs value) (item_assigns item) → All UpdateKnown (branch_of value item).body

abbrev WithLeaves : Value → Type 0
WithLeaves value = (s : Statement) × LeavesKnown value s

abbrev WithItemLeaves : Value → Type 0
WithItemLeaves value = (i : CaseItem) × ItemLeaves value i

abbrev bare : (value : Value) → Statement-F (WithLeaves value) (WithItemLeaves value) → Layer
bare value y = map-Statement (WithLeaves value) (WithItemLeaves value) Statement CaseItem (λ s. s.0) (λ i. i.0) y

abbrev updates_at : Value → Layer → List Update
updates_at value x = layer_updates value (map-Statement Statement CaseItem (List Update) Branch (all_updates value) (branch_of value) x)

either_known : (b : Bool) (us vs : List Update) → All UpdateKnown us → All UpdateKnown vs → All UpdateKnown (if b then us else vs)
either_known true us vs h k = h
either_known false us vs h k = k

first_known : (value : Value) (v : SizedExpr → List Bit) (tested : List Bit) (items : List (WithItemLeaves value)) (otherwise : List Update) → All (AssignIs value) (flat_map (λ x. x) (map item_assigns (map (λ i. i.0) items))) → All UpdateKnown otherwise → All UpdateKnown (first_branch v tested (map (branch_of value) (map (λ i. i.0) items)) otherwise)
first_known value v tested [] otherwise h last = last
first_known value v tested (i ∷ items) otherwise h last =
    let rest = map (λ (j : WithItemLeaves value). j.0) items in
    let as_ = flat_map (λ x. x) (map item_assigns rest) in
    let b = branch_of value i.0 in
    either_known (has_label v tested b.labels) b.body (first_branch v tested (map (branch_of value) rest) otherwise)
    (i.1 (all_front (AssignIs value) (item_assigns i.0) as_ h)) (first_known value v tested items otherwise (all_back (AssignIs value) (item_assigns i.0) as_ h) last)

each_leaves : (value : Value) (ss : List (WithLeaves value)) → All (AssignIs value) (flat_map (λ s. s) (map assignments (map (λ s. s.0) ss))) → All UpdateKnown (flat_map (λ us. us) (map (all_updates value) (map (λ s. s.0) ss)))
each_leaves value [] h = all_none UpdateKnown
each_leaves value (s ∷ ss) h =
    let rest = map (λ (t : WithLeaves value). t.0) ss in
    let as_ = flat_map (λ x. x) (map assignments rest) in
    All-append UpdateKnown (all_updates value s.0) (flat_map (λ us. us) (map (all_updates value) rest)) (s.1 (all_front (AssignIs value) (assignments s.0) as_ h)) (each_leaves value ss (all_back (AssignIs value) (assignments s.0) as_ h))

layer_leaves : (value : Value) (y : Statement-F (WithLeaves value) (WithItemLeaves value)) → All (AssignIs value) (assigns_at (bare value y)) → All UpdateKnown (updates_at value (bare value y))
layer_leaves value (Statement-F.Assign parts right) h =
    let a : Assignment = record { parts = parts; right = right } in
    all_one UpdateKnown (map (piece value right) parts) (All-map PieceKnown (piece value right) parts (All-head (AssignIs value) a [] h))
layer_leaves value (Statement-F.If test taken other) h =
    either_known (is_1 (truth_bit (value test).bits)) (all_updates value taken.0) (all_updates value other.0) (taken.1 (all_front (AssignIs value) (assignments taken.0) (assignments other.0) h)) (other.1 (all_back (AssignIs value) (assignments taken.0) (assignments other.0) h))
layer_leaves value (Statement-F.Case tested items otherwise) h =
    let rest = map (λ (j : WithItemLeaves value). j.0) items in
    let as_ = flat_map (λ x. x) (map item_assigns rest) in
    let es = compared_in tested (map (branch_of value) rest) in
    first_known value (λ e. at_largest es (value e).bits) (at_largest es (value tested).bits) items (all_updates value otherwise.0) (all_front (AssignIs value) as_ (assignments otherwise.0) h) (otherwise.1 (all_back (AssignIs value) as_ (assignments otherwise.0) h))
layer_leaves value (Statement-F.Begin statements) h = each_leaves value statements h
layer_leaves value Statement-F.Empty h = all_none UpdateKnown

rolled : (value : Value) (y : Statement-F (WithLeaves value) (WithItemLeaves value)) → LeavesKnown value (roll-Statement (bare value y))
unfolding all_updates assignments
rolled value y h =
    let x = bare value y in
    subst (All UpdateKnown) (sym (fold-roll-Statement (List Update) Branch (layer_updates value) item_updates x)) (layer_leaves value y (subst (All (AssignIs value)) (fold-roll-Statement (List Assignment) (List Assignment) layer_assignments item_assignments x) h))

rolled_item : (value : Value) (y : CaseItem-F (WithLeaves value) (WithItemLeaves value)) → ItemLeaves value (roll-CaseItem (map-CaseItem (WithLeaves value) (WithItemLeaves value) Statement CaseItem (λ s. s.0) (λ i. i.0) y))
unfolding all_updates assignments
rolled_item value y h =
    let x = map-CaseItem (WithLeaves value) (WithItemLeaves value) Statement CaseItem (λ s. s.0) (λ i. i.0) y in
    subst (λ (b : Branch). All UpdateKnown b.body) (sym (fold-roll-CaseItem (List Update) Branch (layer_updates value) item_updates x)) (y.body.1 (subst (All (AssignIs value)) (fold-roll-CaseItem (List Assignment) (List Assignment) layer_assignments item_assignments x) h))

leaves_known : (value : Value) (s : Statement) → LeavesKnown value s
leaves_known value =
    ind-Statement (LeavesKnown value) (ItemLeaves value)
    (λ x y is. let Q : Layer → Type 0 = λ z. LeavesKnown value (roll-Statement z) in subst Q is (rolled value y))
    (λ x y is. let Q : CaseItem-F Statement CaseItem → Type 0 = λ z. ItemLeaves value (roll-CaseItem z) in subst Q is (rolled_item value y))

-- no right side reads an edge net

assignments_rolled : (x : Layer) → assignments (roll-Statement x) ≡ assigns_at x
unfolding assignments
assignments_rolled x = fold-roll-Statement (List Assignment) (List Assignment) layer_assignments item_assignments x

abbrev QuietRight : Netlist → Assignment → Type 0
QuietRight d a = IsQuiet d a.right

reset_quiet : (d : Netlist) (x : Edge) (taken other s : Statement) → Resets x taken other s → All (λ e. reads e ≡ []) (exprs taken) → All (IsQuiet d) (exprs other) → All (QuietRight d) (assignments s)
reset_quiet d x taken other s (tests {test = test} t) none quiet =
    subst (All (QuietRight d)) (sym (assignments_rolled (Statement-F.If test taken other)))
    (All-append (QuietRight d) (assignments taken) (assignments other)
    (rights (IsQuiet d) taken (All-weaker (λ e. reads e ≡ []) (IsQuiet d) (λ e is n net any. nothing_read n (subst (Any (Touches n)) is any)) (exprs taken) none))
    (rights (IsQuiet d) other quiet))
reset_quiet d x taken other s (begins {s = inner} r) none quiet =
    subst (All (QuietRight d)) (sym (assignments_rolled (Statement-F.Begin (inner ∷ [])) ∙ append-nil (assignments inner))) (reset_quiet d x taken other inner r none quiet)

block_quiet : (d : Netlist) (b : Block) (reset : Option Edge) → BlockRuns d b reset → All (QuietRight d) (assignments b.body)
block_quiet d b None h = rights (IsQuiet d) b.body h
block_quiet d b (Some x) h = reset_quiet d x h.taken h.other b.body h.body (reset_reads h.taken h.in_reset) h.quiet

-- what is stored as the slot opens, with a reset that is brought

tested_words : (d : Netlist) (store : Store) (e : ℕ → Bit) (reset : Option Edge) → KnownWords d store → KnownWords d (tested store e reset)
tested_words d store e None k = k
tested_words d store e (Some x) k = record { signal_sizes = sizes-written store (ToBit x.signal 0 (e x.signal)) ∙ k.signal_sizes; memory_sizes = k.memory_sizes; words = k.words }

tested_but : (d : Netlist) (store : Store) (e : ℕ → Bit) (reset : Option Edge) → ResetNet d reset → KnownBut d store → KnownBut d (tested store e reset)
tested_but d store e None net known n within = known n within
tested_but d store e (Some x) net known n within =
    ⊎_elim
    (λ same. inr (subst (IsEdgeNet d) same net))
    (λ apart. ⊎_elim (λ l. inl (subst AreKnown (sym (get_or-set_other store.signals x.signal n (bit_replaced 0 (e x.signal) (value_at BX store.signals x.signal)) (BX ∷ []) (λ f. apart (sym f)))) l)) (λ r. inr r) (known n within))
    (cases_eq x.signal n)

fired_either : (went : Bool) (us : List Update) → All UpdateKnown us → All UpdateKnown (fired_if went us)
fired_either true us h = h
fired_either false us h = all_none UpdateKnown

pub fired_known : (d : Netlist) (ranked : List ℕ) → IsAccepted d ranked → HasKnownConstants d → (store : Store) (e : ℕ → Bit) → KnownWords d store → KnownBut d store → (k : ℕ) (b : Block) → slice_get d.blocks k ≡ Some b → All UpdateKnown (fired d store e b)
fired_known d ranked h constants store e words known k b at =
    let value = value_in d store e b in
    let there = tested store e b.reset in
    let fits : BlockFits d b = all_at (BlockFits d) d.blocks k b h.flat.blocks at in
    let indices : IndicesInside d [] b.body = all_at (λ (x : Block). IndicesInside d [] x.body) d.blocks k b h.block_indices at in
    let has : All HasKnown (exprs b.body) = all_at (λ (x : Block). All HasKnown (exprs x.body)) d.blocks k b constants.blocks at in
    let quiet = block_quiet d b b.reset (all_at (λ (x : Block). BlockRuns d x x.reset) d.blocks k b h.resets at) in
    let right_fits = rights (ExprFits d []) b.body fits.body.exprs in
    let right_inside = rights (λ ex. All (IndexInside d []) (uses ex)) b.body indices.exprs in
    let right_known = rights HasKnown b.body has in
    let words' = tested_words d store e b.reset words in
    let known' = tested_but d store e b.reset (reset_net d ranked h k b at) known in
    let one : (a : Assignment) → IsQuiet d a.right → ExprFits d [] a.right → All (IndexInside d []) (uses a.right) → HasKnown a.right → All (PartFits d [] a.right) a.parts → AssignIs value a
    = λ a q f i c parts.
    (let bits = quiet_known d ranked h constants there words' known' a.right q f i c in
    let size : length (value a.right).bits ≡ a.right.width = operand_length BX (call_below BX d.functions (length d.functions)) (values_in there) [] a.right ∙ bounded_size a.right.width f.size in
    All-weaker (PartFits d [] a.right) (PartKnown value a.right)
    (λ p fit. (let w = bounded_size p.width fit.size in let inside = fit.inside in select_known p.low (bounded p.width) (value a.right).bits (omega arith) bits)) a.parts parts) in
    fired_either (had_start (edge_bit store) e b) (all_updates value b.body)
    (leaves_known value b.body (λ i a l. one (get_or (assignments b.body) i a) (quiet i a l) (right_fits i a l) (right_inside i a l) (right_known i a l) (fits.body.parts i a l)))
