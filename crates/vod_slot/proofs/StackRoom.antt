-- The statements of a block that are left at once: what each event keeps of their number.
use Rattle.std.proofs.Common.{◌≡◌, ℕ, zero, suc, ◌+◌, ◌≤◌, max, Bool, true, false, if◌then◌else◌, List, [], ◌∷◌, ◌++◌, length, map, flat_map, take, drop, replicate, set, get_or, arith, refl, ap, sym, ◌∙◌, subst, ⊎_elim, All, Option, Some, None, unwrap_or, slice_get, get_or-set_same, get_or-set_other}
use Rattle.std.proofs.lemmas.Bool.{cases_eq, cases_lt}
use Rattle.std.proofs.lemmas.List.{length-map, get_or_past}
use Rattle.std.proofs.lemmas.List.Elements.{All-cons}
use Rattle.std.proofs.lemmas.Option.{same_Some}
use Rattle.vod_bits.specs.Bit.{is_1}
use Rattle.vod_four.specs.Four.{truth_bit}
use Rattle.vod_design.specs.declared.parts.Block.{Block}
use Rattle.vod_design.specs.declared.parts.Driver.{Driver}
use Rattle.vod_design.specs.declared.parts.InitialAssign.{InitialAssign}
use Rattle.vod_design.specs.declared.sized.SizedExpr.{SizedExpr}
use Rattle.vod_design.specs.declared.statement.CaseItem.{CaseItem}
use Rattle.vod_design.specs.declared.statement.Statement.{Statement}
use Rattle.vod_design.specs.declared.statement.Statement.TheOpen.{Statement-F}
use Rattle.vod_design.specs.declared.statement.Statement.TheFolds.{fold-Statement, fold-CaseItem, map-Statement, fold-roll-Statement, fold_out-CaseItem}
use Rattle.vod_design.specs.declared.statement.Statement.TheViews.{out-Statement, roll-out-Statement}
use Rattle.vod_design.specs.declared.vector.Move.{Move}
use Rattle.vod_design.specs.Netlist.{Netlist}
use Rattle.vod_design.specs.Run.{case_branch}
use Rattle.vod_design.specs.Values.{Operand}
use Rattle.vod_slot.specs.declared.event.Event.TheVariants.{TakeMove, Evaluate, Update as UpdateDriver, Run, Initialize, Activate, Perform}
use Rattle.vod_slot.specs.Store.{Write, list_at, bits_written, places_written}
use Rattle.vod_slot.specs.State.{State, option_at, input_signals, start_of, opened, IsResting}
use Rattle.vod_slot.specs.Step.{Event, choice, next_after, operand, ran, evaluated, starts, begun, triggered, put, put_all, target_of, initial_written, update_written, after}
use Rattle.vod_slot.specs.Room.{greatest}
use Rattle.vod_slot.specs.Stack.{left_in_turn, layer_left, item_left, statements_most, IsStackKept}
use Rattle.vod_slot.proofs.Lists.{all_none, default_at}
use Rattle.vod_slot.proofs.Statements.{case_kept, either_kept}

abbrev Layer : Type 0
Layer = Statement-F Statement CaseItem

abbrev item_of : CaseItem → ℕ
item_of item = fold-CaseItem ℕ ℕ layer_left item_left item

abbrev left_at : Layer → ℕ
left_at x = layer_left (map-Statement Statement CaseItem ℕ ℕ statements_most item_of x)

statement_at : (s : Statement) → statements_most s ≡ left_at (out-Statement s)
unfolding statements_most
statement_at s = ap (fold-Statement ℕ ℕ layer_left item_left) (sym (roll-out-Statement s)) ∙ fold-roll-Statement ℕ ℕ layer_left item_left (out-Statement s)

item_at : (item : CaseItem) → item_of item ≡ statements_most item.body
unfolding statements_most
item_at item = fold_out-CaseItem ℕ ℕ layer_left item_left item

abbrev IsAtMost : ℕ → Statement → Type 0
IsAtMost n s = statements_most s ≤ n

items_at_most : (items : List CaseItem) (n : ℕ) → greatest (map item_of items) ≤ n → All (λ (item : CaseItem). IsAtMost n item.body) items
items_at_most [] n le = all_none (λ (item : CaseItem). IsAtMost n item.body)
items_at_most (item ∷ items) n le =
    let here = item_at item in
    All-cons (λ (i : CaseItem). IsAtMost n i.body) item items (omega arith) (items_at_most items n (omega arith))

abbrev left_of : List Statement → ℕ
left_of ss = left_in_turn (map statements_most ss)

layer_kept : (value : SizedExpr → Operand) (x : Layer) → left_of (next_after value x) ≤ left_at x
layer_kept value (Statement-F.Assign parts right) = omega arith
layer_kept value (Statement-F.If test taken other) =
    let chosen = if is_1 (truth_bit (value test).bits) then taken else other in
    let le : statements_most chosen ≤ max (statements_most taken) (statements_most other)
    = either_kept (IsAtMost (max (statements_most taken) (statements_most other))) (is_1 (truth_bit (value test).bits)) taken other (omega arith) (omega arith) in
    omega arith
layer_kept value (Statement-F.Case tested items otherwise) =
    let n = max (greatest (map item_of items)) (statements_most otherwise) in
    let chosen = case_branch value tested (map choice items) otherwise in
    let le : statements_most chosen ≤ n = case_kept (IsAtMost n) value tested items otherwise (items_at_most items n (omega arith)) (omega arith) in
    omega arith
layer_kept value (Statement-F.Begin statements) = omega arith
layer_kept value Statement-F.Empty = omega arith

left_kept : (value : SizedExpr → Operand) (s : Statement) → left_of (next_after value (out-Statement s)) ≤ statements_most s
left_kept value s = rw (statement_at s) (layer_kept value (out-Statement s))

layer_some : (x : Layer) → 1 ≤ left_at x
layer_some (Statement-F.Assign parts right) = omega arith
layer_some (Statement-F.If test taken other) = omega arith
layer_some (Statement-F.Case tested items otherwise) = omega arith
layer_some (Statement-F.Begin statements) = omega arith
layer_some Statement-F.Empty = omega arith

some_left : (s : Statement) → 1 ≤ statements_most s
some_left s = rw (statement_at s) (layer_some (out-Statement s))

-- a stack has no more statements than it leaves at most
length_left : (ss : List Statement) → length ss ≤ left_of ss
length_left [] = omega arith
length_left (s ∷ ss) = let one = some_left s in let len = length-map ss statements_most in omega arith

length-both : (xs ys : List Statement) → length (map statements_most (xs ++ ys)) ≡ length xs + length (map statements_most ys)
length-both [] ys = omega arith
length-both (x ∷ xs) ys = let more = length-both xs ys in omega arith

-- those on top leave what they leave while the others wait
left_append : (xs ys : List Statement) (n : ℕ) → left_of xs + length (map statements_most ys) ≤ n → left_of ys ≤ n → left_of (xs ++ ys) ≤ n
left_append [] ys n h k = k
left_append (x ∷ xs) ys n h k =
    let both = length-both xs ys in
    let len = length-map xs statements_most in
    let more = left_append xs ys n (omega arith) k in
    omega arith

ran_left : (value : SizedExpr → Operand) (s : Statement) (ss : List Statement) → left_of (next_after value (out-Statement s) ++ ss) ≤ left_of (s ∷ ss)
ran_left value s ss = let fall = left_kept value s in left_append (next_after value (out-Statement s)) ss (left_of (s ∷ ss)) (omega arith) (omega arith)

-- a block starts its body where nothing of it is left
begun_left : (edge : Bool) (b : Block) (ss : List Statement) → left_of ss ≤ statements_most b.body → left_of (begun edge b ss) ≤ statements_most b.body
begun_left edge b (s ∷ ss) h = h
begun_left true b [] h = omega arith
begun_left false b [] h = h

abbrev AreKept : List Block → List (List Statement) → Type 0
AreKept blocks todo = (k : ℕ) (b : Block) → slice_get blocks k ≡ Some b → left_of (list_at todo k) ≤ statements_most b.body

triggered_left : (edge : Block → Bool) (blocks : List Block) (todo : List (List Statement)) → AreKept blocks todo → AreKept blocks (triggered edge blocks todo)
triggered_left edge [] todo kept k b at = kept k b at
triggered_left edge (c ∷ blocks) [] kept k b at = kept k b at
triggered_left edge (c ∷ blocks) (ss ∷ todo) kept zero b at = subst (λ (x : Block). left_of (begun (edge c) c ss) ≤ statements_most x.body) (same_Some c b at) (begun_left (edge c) c ss (kept 0 c refl))
triggered_left edge (c ∷ blocks) (ss ∷ todo) kept (suc k) b at = triggered_left edge blocks todo (λ m x is. kept (suc m) x is) k b at

put_all_left : (d : Netlist) (writes : List Write) (st : State) → IsStackKept d st → IsStackKept d (put_all d writes st)
put_all_left d [] st kept = kept
put_all_left d (w ∷ writes) st kept = put_all_left d writes (put d w st) (triggered_left (starts st.store w) d.blocks st.todo kept)

evaluated_left : (d : Netlist) (j : ℕ) (driver : Option Driver) (st : State) → IsStackKept d st → IsStackKept d (evaluated d j driver st)
evaluated_left d j None st kept = kept
evaluated_left d j (Some a) st kept = kept

all_ran : (d : Netlist) (m : ℕ) (statements : List Statement) (st : State) → list_at st.todo m ≡ statements → IsStackKept d st → IsStackKept d (ran d m statements st)
all_ran d m [] st is kept k b at = kept k b at
all_ran d m (s ∷ ss) st is kept k b at =
    let new = next_after (operand d st.store) (out-Statement s) ++ ss in
    let fall = ran_left (operand d st.store) s ss in
    let was : left_of (list_at st.todo m) ≡ left_of (s ∷ ss) = ap left_of is in
    ⊎_elim
    (λ same. ⊎_elim
    (λ lt.
    let there : left_of (list_at (set st.todo m new) k) ≡ left_of new = ap left_of (subst (λ n. list_at (set st.todo m new) n ≡ new) same (get_or-set_same st.todo m new [] lt)) in
    let old : left_of (list_at st.todo k) ≡ left_of (list_at st.todo m) = ap (λ n. left_of (list_at st.todo n)) (sym same) in
    let h = kept k b at in
    omega arith)
    (λ past. (let clash : s ∷ ss ≡ [] = sym is ∙ get_or_past st.todo m [] past in let n : suc (length ss) ≡ 0 = ap length clash in absurd (omega arith)))
    (cases_lt m (length st.todo)))
    (λ apart. let e = ap left_of (get_or-set_other st.todo m k new [] (λ f. apart (sym f))) in let h = kept k b at in omega arith)
    (cases_eq m k)

pub IsStackKept-after : (d : Netlist) (st : State) (event : Event) → IsStackKept d st → IsStackKept d (after d st event)
IsStackKept-after d st (TakeMove i) kept = put_all_left d (bits_written (get_or (input_signals d.inputs) i 0) 0 (unwrap_or (option_at st.moves i) [])) (record st { moves = set st.moves i None }) kept
IsStackKept-after d st (Evaluate j) kept = evaluated_left d j (slice_get d.drivers j) st kept
IsStackKept-after d st (UpdateDriver j) kept = put_all_left d (places_written (target_of (slice_get d.drivers j)) (unwrap_or (option_at st.pend j) [])) (record st { pend = set st.pend j None }) kept
IsStackKept-after d st (Run m) kept = all_ran d m (list_at st.todo m) st refl kept
IsStackKept-after d st (Initialize m) kept = put_all_left d (flat_map (λ (a : InitialAssign). initial_written a.target a.value) (take 1 (list_at st.init m))) (record st { init = set st.init m (drop 1 (list_at st.init m)) }) kept
IsStackKept-after d st Activate kept = kept
IsStackKept-after d st (Perform m) kept = put_all_left d (flat_map update_written (take 1 (list_at st.now m))) (record st { now = set st.now m (drop 1 (list_at st.now m)) }) kept

waiting_left : (d : Netlist) (st : State) → ((k : ℕ) → list_at st.todo k ≡ []) → IsStackKept d st
waiting_left d st waits k b at = let e = ap left_of (waits k) in omega arith

abbrev no_statements : List Statement
no_statements = []

nothing_at : (n k : ℕ) → list_at (replicate n no_statements) k ≡ []
nothing_at zero k = refl
nothing_at (suc n) zero = refl
nothing_at (suc n) (suc k) = nothing_at n k

pub IsStackKept-start_of : (d : Netlist) → IsStackKept d (start_of d)
IsStackKept-start_of d = waiting_left d (start_of d) (nothing_at (length d.blocks))

pub IsStackKept-opened : (d : Netlist) (s : State) (moves : List Move) → IsResting s → IsStackKept d (opened d moves s)
IsStackKept-opened d s moves rests = waiting_left d (opened d moves s) (default_at [] s.todo rests.todo)

pub stack_suffices : (d : Netlist) (s : State) (k : ℕ) (b : Block) → slice_get d.blocks k ≡ Some b → IsStackKept d s → length (list_at s.todo k) ≤ statements_most b.body
stack_suffices d s k b at kept = let len = length_left (list_at s.todo k) in let h = kept k b at in omega arith
