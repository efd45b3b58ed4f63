-- What a statement leaves to be run, and the updates that it leaves, write registers and words alone where it does.
use Rattle.std.proofs.Common.{◌≡◌, ℕ, Bool, true, false, if◌then◌else◌, List, [], ◌∷◌, map, flat_map, ap, sym, ◌∙◌, subst, All, Option, Some, None}
use Rattle.std.proofs.lemmas.List.Elements.{All-head, All-tail, All-cons}
use Rattle.vod_bits.specs.Bit.{Bit, BX, is_1}
use Rattle.vod_four.specs.Four.{truth_bit}
use Rattle.vod_design.specs.declared.sized.SizedExpr.{SizedExpr}
use Rattle.vod_design.specs.declared.sized.Variable.{Variable}
use Rattle.vod_design.specs.declared.sized.Variable.TheVariants as variable
use Rattle.vod_design.specs.declared.statement.CaseItem.{CaseItem}
use Rattle.vod_design.specs.declared.statement.Part.{Part}
use Rattle.vod_design.specs.declared.statement.PartTarget.{PartTarget}
use Rattle.vod_design.specs.declared.statement.PartTarget.TheVariants as part
use Rattle.vod_design.specs.declared.statement.Statement.{Statement}
use Rattle.vod_design.specs.declared.statement.Statement.TheOpen.{Statement-F}
use Rattle.vod_design.specs.declared.statement.Statement.TheFolds.{fold-Statement, fold-CaseItem, map-Statement, fold-roll-Statement, fold_out-CaseItem}
use Rattle.vod_design.specs.declared.statement.Statement.TheViews.{out-Statement, roll-out-Statement}
use Rattle.vod_design.specs.declared.statement.Target.TheVariants.{Bits, Word}
use Rattle.vod_design.specs.Accepted.{WritesState}
use Rattle.vod_design.specs.Netlist.{Netlist}
use Rattle.vod_design.specs.Run.{has_label, first_branch, case_branch, compared_in, at_largest, at_index, target_of, index_bits}
use Rattle.vod_design.specs.Uses.{Assignment, layer_assignments, item_assignments, assignments}
use Rattle.vod_design.specs.Values.{Operand, index_place}
use Rattle.vod_slot.specs.State.{Piece}
use Rattle.vod_slot.specs.Step.{choice, next_after, piece, updates_of}
use Rattle.vod_slot.specs.Shape.{AssignsState, StatementWrites, TargetWrites, UpdateWrites}
use Rattle.vod_slot.proofs.Lists.{all_none, all_one, all_front, all_back}

abbrev Layer : Type 0
Layer = Statement-F Statement CaseItem

abbrev item_assigns : CaseItem → List Assignment
item_assigns item = fold-CaseItem (List Assignment) (List Assignment) layer_assignments item_assignments item

abbrev layer_of : Layer → List Assignment
layer_of x = layer_assignments (map-Statement Statement CaseItem (List Assignment) (List Assignment) assignments item_assigns x)

pub assignments_at : (s : Statement) → assignments s ≡ layer_of (out-Statement s)
unfolding assignments
assignments_at s =
    ap (fold-Statement (List Assignment) (List Assignment) layer_assignments item_assignments) (sym (roll-out-Statement s))
    ∙ fold-roll-Statement (List Assignment) (List Assignment) layer_assignments item_assignments (out-Statement s)

item_at : (item : CaseItem) → item_assigns item ≡ assignments item.body
unfolding assignments
item_at item = fold_out-CaseItem (List Assignment) (List Assignment) layer_assignments item_assignments item

-- the items of a `case` and its last branch
first_kept : (P : Statement → Type 0) (value : SizedExpr → List Bit) (tested : List Bit) (items : List CaseItem) (otherwise : Statement) → All (λ (item : CaseItem). P item.body) items → P otherwise → P (first_branch value tested (map choice items) otherwise)
first_kept P value tested [] otherwise each last = last
first_kept P value tested (item ∷ items) otherwise each last =
    taken (has_label value tested item.labels) (All-head (λ (i : CaseItem). P i.body) item items each) (first_kept P value tested items otherwise (All-tail (λ (i : CaseItem). P i.body) item items each) last)
  where
    taken : (b : Bool) → P item.body → P (first_branch value tested (map choice items) otherwise) → P (if b then item.body else first_branch value tested (map choice items) otherwise)
    taken true h k = h
    taken false h k = k

pub case_kept : (P : Statement → Type 0) (value : SizedExpr → Operand) (tested : SizedExpr) (items : List CaseItem) (otherwise : Statement) → All (λ (item : CaseItem). P item.body) items → P otherwise → P (case_branch value tested (map choice items) otherwise)
case_kept P value tested items otherwise each last =
    let es = compared_in tested (map choice items) in
    first_kept P (λ e. at_largest es (value e).bits) (at_largest es (value tested).bits) items otherwise each last

pub either_kept : (P : Statement → Type 0) (b : Bool) (s t : Statement) → P s → P t → P (if b then s else t)
either_kept P true s t h k = h
either_kept P false s t h k = k

items_write : (d : Netlist) (items : List CaseItem) → All (AssignsState d) (flat_map (λ item. item) (map item_assigns items)) → All (λ (item : CaseItem). StatementWrites d item.body) items
items_write d [] h = all_none (λ (item : CaseItem). StatementWrites d item.body)
items_write d (item ∷ items) h =
    All-cons (λ (i : CaseItem). StatementWrites d i.body) item items
    (subst (All (AssignsState d)) (item_at item) (all_front (AssignsState d) (item_assigns item) (flat_map (λ i. i) (map item_assigns items)) h))
    (items_write d items (all_back (AssignsState d) (item_assigns item) (flat_map (λ i. i) (map item_assigns items)) h))

each_writes : (d : Netlist) (ss : List Statement) → All (AssignsState d) (flat_map (λ s. s) (map assignments ss)) → All (StatementWrites d) ss
each_writes d [] h = all_none (StatementWrites d)
each_writes d (s ∷ ss) h =
    All-cons (StatementWrites d) s ss
    (all_front (AssignsState d) (assignments s) (flat_map (λ i. i) (map assignments ss)) h)
    (each_writes d ss (all_back (AssignsState d) (assignments s) (flat_map (λ i. i) (map assignments ss)) h))

next_writes : (d : Netlist) (value : SizedExpr → Operand) (x : Layer) → All (AssignsState d) (layer_of x) → All (StatementWrites d) (next_after value x)
next_writes d value (Statement-F.Assign parts right) h = all_none (StatementWrites d)
next_writes d value (Statement-F.If test taken other) h =
    all_one (StatementWrites d) _
    (either_kept (StatementWrites d) (is_1 (truth_bit (value test).bits)) taken other
    (all_front (AssignsState d) (assignments taken) (assignments other) h) (all_back (AssignsState d) (assignments taken) (assignments other) h))
next_writes d value (Statement-F.Case tested items otherwise) h =
    all_one (StatementWrites d) _
    (case_kept (StatementWrites d) value tested items otherwise
    (items_write d items (all_front (AssignsState d) (flat_map (λ item. item) (map item_assigns items)) (assignments otherwise) h))
    (all_back (AssignsState d) (flat_map (λ item. item) (map item_assigns items)) (assignments otherwise) h))
next_writes d value (Statement-F.Begin statements) h = each_writes d statements h
next_writes d value Statement-F.Empty h = all_none (StatementWrites d)

-- the parts of an assignment
bits_target : (d : Netlist) (x : Variable) (low : ℕ) → WritesState d (part.Bits x low) → TargetWrites d (Some (Bits x low))
bits_target d (variable.Signal n) low h = h
bits_target d (variable.Local n) low h = tt

index_target : (d : Netlist) (x : Variable) (place : Option ℕ) → WritesState d (part.Bits x 0) → TargetWrites d (at_index (Bits x) place)
index_target d x None h = tt
index_target d x (Some n) h = bits_target d x n h

word_target : (d : Netlist) (memory : ℕ) (place : Option ℕ) → TargetWrites d (at_index (Word memory) place)
word_target d memory None = tt
word_target d memory (Some n) = tt

target_writes : (d : Netlist) (value : SizedExpr → Operand) (t : PartTarget) → WritesState d t → TargetWrites d (target_of t (index_bits BX value t))
target_writes d value (part.Bits x low) h = bits_target d x low h
target_writes d value (part.Index x least index) h = index_target d x (index_place least (value index).bits) h
target_writes d value (part.Word memory least index) h = word_target d memory (index_place least (value index).bits)

pieces_write : (d : Netlist) (value : SizedExpr → Operand) (right : SizedExpr) (parts : List Part) → All (λ (p : Part). WritesState d p.target) parts → UpdateWrites d (map (piece value right) parts)
pieces_write d value right [] h = all_none (λ (p : Piece). TargetWrites d p.target)
pieces_write d value right (p ∷ parts) h =
    All-cons (λ (q : Piece). TargetWrites d q.target) (piece value right p) (map (piece value right) parts)
    (target_writes d value p.target (All-head (λ (q : Part). WritesState d q.target) p parts h))
    (pieces_write d value right parts (All-tail (λ (q : Part). WritesState d q.target) p parts h))

updates_write : (d : Netlist) (value : SizedExpr → Operand) (x : Layer) → All (AssignsState d) (layer_of x) → All (UpdateWrites d) (updates_of value x)
updates_write d value (Statement-F.Assign parts right) h =
    all_one (UpdateWrites d) (map (piece value right) parts) (pieces_write d value right parts (All-head (AssignsState d) (record { parts = parts; right = right }) [] h))
updates_write d value (Statement-F.If test taken other) h = all_none (UpdateWrites d)
updates_write d value (Statement-F.Case tested items otherwise) h = all_none (UpdateWrites d)
updates_write d value (Statement-F.Begin statements) h = all_none (UpdateWrites d)
updates_write d value Statement-F.Empty h = all_none (UpdateWrites d)

pub next_kept : (d : Netlist) (value : SizedExpr → Operand) (s : Statement) → StatementWrites d s → All (StatementWrites d) (next_after value (out-Statement s))
next_kept d value s h = next_writes d value (out-Statement s) (subst (All (AssignsState d)) (assignments_at s) h)

pub updates_kept : (d : Netlist) (value : SizedExpr → Operand) (s : Statement) → StatementWrites d s → All (UpdateWrites d) (updates_of value (out-Statement s))
updates_kept d value s h = updates_write d value (out-Statement s) (subst (All (AssignsState d)) (assignments_at s) h)
