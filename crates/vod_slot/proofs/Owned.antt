-- What a block writes: the registers and memories that its body assigns; so two blocks write apart.
use Rattle.std.proofs.Common.{◌≡◌, inl, ℕ, if◌then◌else◌, List, [], ◌∷◌, map, flat_map, sym, subst, All, Option, Some, None}
use Rattle.std.specs.List.{Contains}
use Rattle.std.proofs.lemmas.List.Elements.{All-head, All-tail, All-cons, All-weaker, All-contains_itself}
use Rattle.vod_bits.specs.Bit.{Bit, BX, is_1}
use Rattle.vod_four.specs.Four.{truth_bit}
use Rattle.vod_design.specs.declared.sized.SizedExpr.{SizedExpr}
use Rattle.vod_design.specs.declared.sized.Variable.{Variable}
use Rattle.vod_design.specs.declared.sized.Variable.TheVariants as variable
use Rattle.vod_design.specs.declared.statement.CaseItem.{CaseItem}
use Rattle.vod_design.specs.declared.statement.Part.{Part}
use Rattle.vod_design.specs.declared.statement.PartTarget.{PartTarget}
use Rattle.vod_design.specs.declared.statement.PartTarget.TheVariants as part
use Rattle.vod_design.specs.declared.statement.Statement.{Statement}
use Rattle.vod_design.specs.declared.statement.Statement.TheOpen.{Statement-F}
use Rattle.vod_design.specs.declared.statement.Statement.TheFolds.{fold-CaseItem, map-Statement, fold_out-CaseItem}
use Rattle.vod_design.specs.declared.statement.Statement.TheViews.{out-Statement}
use Rattle.vod_design.specs.declared.statement.Target.{Target}
use Rattle.vod_design.specs.declared.statement.Target.TheVariants.{Bits, Word}
use Rattle.vod_design.specs.Run.{at_index, target_of, index_bits, case_branch}
use Rattle.vod_design.specs.Uses.{Assignment, Written, OfRegister, OfMemory, layer_assignments, item_assignments, assignments, part_written, written_by}
use Rattle.vod_design.specs.Values.{index_place}
use Rattle.vod_slot.specs.Store.{Write, ToBit, ToWord}
use Rattle.vod_slot.specs.State.{Piece, Update}
use Rattle.vod_slot.specs.Step.{choice, next_after, piece, updates_of, target_written, update_written}
use Rattle.vod_slot.proofs.Lists.{all_none, all_one, all_front, all_back}
use Rattle.vod_slot.proofs.Statements.{assignments_at, case_kept, either_kept}
use Rattle.vod_slot.proofs.Targets.{all_flat}
use Rattle.vod_slot.proofs.Calm.{bits_of}
use Rattle.vod_slot.proofs.Swaps.{Apart, AreApart}
use Rattle.vod_slot.proofs.Bodies.{Value}

-- what is assigned, written by an update, and written

abbrev pub PartOf : List Written → PartTarget → Type 0
PartOf ws t = All (Contains ws) (part_written t)

abbrev pub AssignOf : List Written → Assignment → Type 0
AssignOf ws a = All (λ (p : Part). PartOf ws p.target) a.parts

abbrev pub StatementOf : List Written → Statement → Type 0
StatementOf ws s = All (AssignOf ws) (assignments s)

abbrev pub TargetOf : List Written → Option Target → Type 0
TargetOf ws None = Unit {0}
TargetOf ws (Some (Bits (variable.Signal n) low)) = Contains ws (OfRegister n)
TargetOf ws (Some (Bits (variable.Local n) low)) = Unit {0}
TargetOf ws (Some (Word memory place)) = Contains ws (OfMemory memory)

abbrev pub UpdateOf : List Written → Update → Type 0
UpdateOf ws u = All (λ (p : Piece). TargetOf ws p.target) u

abbrev pub WriteOf : List Written → Write → Type 0
WriteOf ws (ToBit n place bit) = Contains ws (OfRegister n)
WriteOf ws (ToWord memory place word) = Contains ws (OfMemory memory)

-- a body assigns what it writes

pub unflat : {A B : Type 0} (P : B → Type 0) (f : A → List B) (xs : List A) → All P (flat_map f xs) → All (λ x. All P (f x)) xs
unflat P f [] h = all_none (λ x. All P (f x))
unflat P f (x ∷ xs) h = All-cons (λ y. All P (f y)) x xs (all_front P (f x) (flat_map f xs) h) (unflat P f xs (all_back P (f x) (flat_map f xs) h))

pub body_of : (s : Statement) → StatementOf (written_by s) s
body_of s =
    let ws = written_by s in
    All-weaker (λ (a : Assignment). All (Contains ws) (flat_map (λ (p : Part). part_written p.target) a.parts)) (AssignOf ws)
    (λ a each. unflat (Contains ws) (λ (p : Part). part_written p.target) a.parts each)
    (assignments s) (unflat (Contains ws) (λ (a : Assignment). flat_map (λ (p : Part). part_written p.target) a.parts) (assignments s) (All-contains_itself ws))

-- what a statement leaves to be run assigns the same

abbrev Layer : Type 0
Layer = Statement-F Statement CaseItem

abbrev item_assigns : CaseItem → List Assignment
item_assigns item = fold-CaseItem (List Assignment) (List Assignment) layer_assignments item_assignments item

abbrev assigns_of : Layer → List Assignment
assigns_of x = layer_assignments (map-Statement Statement CaseItem (List Assignment) (List Assignment) assignments item_assigns x)

item_at : (item : CaseItem) → item_assigns item ≡ assignments item.body
unfolding assignments
item_at item = fold_out-CaseItem (List Assignment) (List Assignment) layer_assignments item_assignments item

items_of : (ws : List Written) (items : List CaseItem) → All (AssignOf ws) (flat_map (λ item. item) (map item_assigns items)) → All (λ (item : CaseItem). StatementOf ws item.body) items
items_of ws [] h = all_none (λ (item : CaseItem). StatementOf ws item.body)
items_of ws (item ∷ items) h =
    All-cons (λ (i : CaseItem). StatementOf ws i.body) item items
    (subst (All (AssignOf ws)) (item_at item) (all_front (AssignOf ws) (item_assigns item) (flat_map (λ i. i) (map item_assigns items)) h))
    (items_of ws items (all_back (AssignOf ws) (item_assigns item) (flat_map (λ i. i) (map item_assigns items)) h))

each_of : (ws : List Written) (ss : List Statement) → All (AssignOf ws) (flat_map (λ s. s) (map assignments ss)) → All (StatementOf ws) ss
each_of ws [] h = all_none (StatementOf ws)
each_of ws (s ∷ ss) h =
    All-cons (StatementOf ws) s ss (all_front (AssignOf ws) (assignments s) (flat_map (λ i. i) (map assignments ss)) h) (each_of ws ss (all_back (AssignOf ws) (assignments s) (flat_map (λ i. i) (map assignments ss)) h))

next_of : (ws : List Written) (value : Value) (x : Layer) → All (AssignOf ws) (assigns_of x) → All (StatementOf ws) (next_after value x)
next_of ws value (Statement-F.Assign parts right) h = all_none (StatementOf ws)
next_of ws value (Statement-F.If test taken other) h =
    all_one (StatementOf ws) (if is_1 (truth_bit (value test).bits) then taken else other)
    (either_kept (StatementOf ws) (is_1 (truth_bit (value test).bits)) taken other (all_front (AssignOf ws) (assignments taken) (assignments other) h) (all_back (AssignOf ws) (assignments taken) (assignments other) h))
next_of ws value (Statement-F.Case tested items otherwise) h =
    all_one (StatementOf ws) (case_branch value tested (map choice items) otherwise)
    (case_kept (StatementOf ws) value tested items otherwise
    (items_of ws items (all_front (AssignOf ws) (flat_map (λ item. item) (map item_assigns items)) (assignments otherwise) h))
    (all_back (AssignOf ws) (flat_map (λ item. item) (map item_assigns items)) (assignments otherwise) h))
next_of ws value (Statement-F.Begin statements) h = each_of ws statements h
next_of ws value Statement-F.Empty h = all_none (StatementOf ws)

pub next_owned : (ws : List Written) (value : Value) (s : Statement) → StatementOf ws s → All (StatementOf ws) (next_after value (out-Statement s))
next_owned ws value s h = next_of ws value (out-Statement s) (subst (All (AssignOf ws)) (assignments_at s) h)

-- and its updates write that

register_target : (ws : List Written) (x : Variable) (low : ℕ) → PartOf ws (part.Bits x low) → TargetOf ws (Some (Bits x low))
register_target ws (variable.Signal n) low h = All-head (Contains ws) (OfRegister n) [] h
register_target ws (variable.Local n) low h = tt

index_target : (ws : List Written) (x : Variable) (place : Option ℕ) → PartOf ws (part.Bits x 0) → TargetOf ws (at_index (Bits x) place)
index_target ws x None h = tt
index_target ws x (Some n) h = register_target ws x n h

word_target : (ws : List Written) (memory : ℕ) (place : Option ℕ) → Contains ws (OfMemory memory) → TargetOf ws (at_index (Word memory) place)
word_target ws memory None h = tt
word_target ws memory (Some n) h = h

part_target_of : (ws : List Written) (value : Value) (t : PartTarget) → PartOf ws t → TargetOf ws (target_of t (index_bits BX value t))
part_target_of ws value (part.Bits x low) h = register_target ws x low h
part_target_of ws value (part.Index x least index) h = index_target ws x (index_place least (value index).bits) h
part_target_of ws value (part.Word memory least index) h = word_target ws memory (index_place least (value index).bits) (All-head (Contains ws) (OfMemory memory) [] h)

pieces_of : (ws : List Written) (value : Value) (right : SizedExpr) (parts : List Part) → All (λ (p : Part). PartOf ws p.target) parts → UpdateOf ws (map (piece value right) parts)
pieces_of ws value right [] h = all_none (λ (p : Piece). TargetOf ws p.target)
pieces_of ws value right (p ∷ parts) h =
    All-cons (λ (q : Piece). TargetOf ws q.target) (piece value right p) (map (piece value right) parts)
    (part_target_of ws value p.target (All-head (λ (q : Part). PartOf ws q.target) p parts h))
    (pieces_of ws value right parts (All-tail (λ (q : Part). PartOf ws q.target) p parts h))

updates_in : (ws : List Written) (value : Value) (x : Layer) → All (AssignOf ws) (assigns_of x) → All (UpdateOf ws) (updates_of value x)
updates_in ws value (Statement-F.Assign parts right) h =
    let a : Assignment = record { parts = parts; right = right } in
    all_one (UpdateOf ws) (map (piece value right) parts) (pieces_of ws value right parts (All-head (AssignOf ws) a [] h))
updates_in ws value (Statement-F.If test taken other) h = all_none (UpdateOf ws)
updates_in ws value (Statement-F.Case tested items otherwise) h = all_none (UpdateOf ws)
updates_in ws value (Statement-F.Begin statements) h = all_none (UpdateOf ws)
updates_in ws value Statement-F.Empty h = all_none (UpdateOf ws)

pub updates_owned : (ws : List Written) (value : Value) (s : Statement) → StatementOf ws s → All (UpdateOf ws) (updates_of value (out-Statement s))
updates_owned ws value s h = updates_in ws value (out-Statement s) (subst (All (AssignOf ws)) (assignments_at s) h)

target_owned : (ws : List Written) (t : Option Target) (value : List Bit) → TargetOf ws t → All (WriteOf ws) (target_written t value)
target_owned ws None value h = all_none (WriteOf ws)
target_owned ws (Some (Bits (variable.Signal n) low)) value h = bits_of (WriteOf ws) n low value (λ place bit. h)
target_owned ws (Some (Bits (variable.Local n) low)) value h = all_none (WriteOf ws)
target_owned ws (Some (Word memory place)) value h = all_one (WriteOf ws) (ToWord memory place value) h

pub writes_owned : (ws : List Written) (us : List Update) → All (UpdateOf ws) us → All (WriteOf ws) (flat_map update_written us)
writes_owned ws us h =
    all_flat (UpdateOf ws) (WriteOf ws) update_written us
    (λ u each. all_flat (λ (p : Piece). TargetOf ws p.target) (WriteOf ws) (λ p. target_written p.target p.value) u (λ p target. target_owned ws p.target p.value target) each) h

-- two blocks write apart

abbrev pub Disjoint : List Written → List Written → Type 0
Disjoint ws vs = (x : Written) → Contains ws x → Contains vs x → ⊥

one_apart : (ws vs : List Written) (x y : Write) → Disjoint ws vs → WriteOf ws x → WriteOf vs y → Apart x y
one_apart ws vs (ToBit n p b) (ToBit m q c) apart h k = λ same. apart (OfRegister n) h (subst (λ i. Contains vs (OfRegister i)) (sym same) k)
one_apart ws vs (ToBit n p b) (ToWord m q c) apart h k = tt
one_apart ws vs (ToWord n p b) (ToBit m q c) apart h k = tt
one_apart ws vs (ToWord n p b) (ToWord m q c) apart h k = inl (λ same. apart (OfMemory n) h (subst (λ i. Contains vs (OfMemory i)) (sym same) k))

pub owned_apart : (ws vs : List Written) (xs ys : List Write) → Disjoint ws vs → All (WriteOf ws) xs → All (WriteOf vs) ys → AreApart xs ys
owned_apart ws vs xs ys apart h k = All-weaker (WriteOf ws) (λ x. All (λ y. Apart x y) ys) (λ x own. All-weaker (WriteOf vs) (λ y. Apart x y) (λ y other. one_apart ws vs x y apart own other) ys k) xs h
