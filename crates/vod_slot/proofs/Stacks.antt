-- What blocks have to do: what a statement leaves weighs less than it does, and what is written starts each body at most once.
use Rattle.std.proofs.Common.{◌≡◌, ℕ, zero, suc, ◌+◌, ◌*◌, ◌<◌, ◌≤◌, Bool, true, false, if◌then◌else◌, List, [], ◌∷◌, length, map, set, drop, arith, refl, ap, sym, ◌∙◌, All}
use Rattle.std.specs.List.{sum_by, list_any}
use Rattle.std.proofs.lemmas.List.Elements.{All-cons, All-weaker}
use Rattle.std.proofs.lemmas.List.Sums.{sum_by-set, sum_by-cons}
use Rattle.vod_bits.specs.Bit.{is_1}
use Rattle.vod_four.specs.Four.{truth_bit}
use Rattle.vod_design.specs.declared.parts.Block.{Block}
use Rattle.vod_design.specs.declared.sized.SizedExpr.{SizedExpr}
use Rattle.vod_design.specs.declared.statement.CaseItem.{CaseItem}
use Rattle.vod_design.specs.declared.statement.Statement.{Statement}
use Rattle.vod_design.specs.declared.statement.Statement.TheOpen.{Statement-F}
use Rattle.vod_design.specs.declared.statement.Statement.TheFolds.{fold-Statement, fold-CaseItem, map-Statement, fold-roll-Statement, fold_out-CaseItem}
use Rattle.vod_design.specs.declared.statement.Statement.TheViews.{out-Statement, roll-out-Statement}
use Rattle.vod_design.specs.Netlist.{Netlist}
use Rattle.vod_design.specs.Run.{case_branch}
use Rattle.vod_design.specs.Values.{Operand}
use Rattle.vod_slot.specs.Store.{Write, list_at}
use Rattle.vod_slot.specs.State.{State, Update}
use Rattle.vod_slot.specs.Step.{is_filled, choice, next_after, updates_of, starts, body_if, begun, triggered, put, put_all}
use Rattle.vod_slot.specs.Weight.{layer_weight, item_weight, statement_weight, stack_weight, bodies_weight}
use Rattle.vod_slot.proofs.Lists.{all_none}
use Rattle.vod_slot.proofs.Statements.{case_kept, either_kept}

abbrev Layer : Type 0
Layer = Statement-F Statement CaseItem

abbrev item_of : CaseItem → ℕ
item_of item = fold-CaseItem ℕ ℕ layer_weight item_weight item

abbrev weight_at : Layer → ℕ
weight_at x = layer_weight (map-Statement Statement CaseItem ℕ ℕ statement_weight item_of x)

statement_at : (s : Statement) → statement_weight s ≡ weight_at (out-Statement s)
unfolding statement_weight
statement_at s = ap (fold-Statement ℕ ℕ layer_weight item_weight) (sym (roll-out-Statement s)) ∙ fold-roll-Statement ℕ ℕ layer_weight item_weight (out-Statement s)

item_at : (item : CaseItem) → item_of item ≡ statement_weight item.body
unfolding statement_weight
item_at item = fold_out-CaseItem ℕ ℕ layer_weight item_weight item

-- a statement that weighs at most so much
abbrev IsAtMost : ℕ → Statement → Type 0
IsAtMost n s = statement_weight s ≤ n

items_at_most : (items : List CaseItem) (n : ℕ) → All (λ (item : CaseItem). IsAtMost (n + sum_by (λ w. w) (map item_of items)) item.body) items
items_at_most [] n = all_none (λ (item : CaseItem). IsAtMost (n + sum_by (λ w. w) (map item_of [])) item.body)
items_at_most (item ∷ items) n =
    let e = sum_by-cons (λ w. w) (item_of item) (map item_of items) in
    let here = item_at item in
    All-cons (λ (i : CaseItem). IsAtMost (n + sum_by (λ w. w) (map item_of (item ∷ items))) i.body) item items
    (omega arith)
    (All-weaker (λ (i : CaseItem). IsAtMost (n + sum_by (λ w. w) (map item_of items)) i.body) (λ (i : CaseItem). IsAtMost (n + sum_by (λ w. w) (map item_of (item ∷ items))) i.body)
    (λ i le. omega arith) items (items_at_most items n))

one_stack : (s : Statement) → stack_weight (s ∷ []) ≡ statement_weight s
one_stack s = let e = sum_by-cons statement_weight s [] in let none : sum_by statement_weight [] ≡ 0 = refl in omega arith

same_stack : (ss : List Statement) → stack_weight ss ≡ sum_by (λ w. w) (map statement_weight ss)
same_stack [] = refl
same_stack (s ∷ ss) = let e = sum_by-cons statement_weight s ss in let f = sum_by-cons (λ w. w) (statement_weight s) (map statement_weight ss) in let more = same_stack ss in omega arith

layer_falls : (value : SizedExpr → Operand) (x : Layer) → stack_weight (next_after value x) + 2 * length (updates_of value x) < weight_at x
layer_falls value (Statement-F.Assign parts right) = omega arith
layer_falls value (Statement-F.If test taken other) =
    let chosen = if is_1 (truth_bit (value test).bits) then taken else other in
    let le : statement_weight chosen ≤ statement_weight taken + statement_weight other
    = either_kept (IsAtMost (statement_weight taken + statement_weight other)) (is_1 (truth_bit (value test).bits)) taken other (omega arith) (omega arith) in
    let one = one_stack chosen in
    omega arith
layer_falls value (Statement-F.Case tested items otherwise) =
    let n = statement_weight otherwise + sum_by (λ w. w) (map item_of items) in
    let chosen = case_branch value tested (map choice items) otherwise in
    let le : statement_weight chosen ≤ n = case_kept (IsAtMost n) value tested items otherwise (items_at_most items (statement_weight otherwise)) (omega arith) in
    let one = one_stack chosen in
    omega arith
layer_falls value (Statement-F.Begin statements) = let e = same_stack statements in omega arith
layer_falls value Statement-F.Empty = omega arith

pub statement_falls : (value : SizedExpr → Operand) (s : Statement) → stack_weight (next_after value (out-Statement s)) + 2 * length (updates_of value (out-Statement s)) < statement_weight s
statement_falls value s = rw (statement_at s) (layer_falls value (out-Statement s))

-- what waiting blocks may still start
abbrev spare_of : Block → List Statement → ℕ
spare_of b [] = statement_weight b.body
spare_of b (s ∷ statements) = 0

abbrev spare : List Block → List (List Statement) → ℕ
spare [] todo = 0
spare (b ∷ blocks) [] = 0
spare (b ∷ blocks) (statements ∷ todo) = spare_of b statements + spare blocks todo

body_balance : (edge : Bool) (b : Block) → stack_weight (body_if edge b) + spare_of b (body_if edge b) ≡ statement_weight b.body
body_balance true b = let e = one_stack b.body in omega arith
body_balance false b = let none : stack_weight (body_if false b) ≡ 0 = refl in let all : spare_of b (body_if false b) ≡ statement_weight b.body = refl in omega arith

begun_balance : (edge : Bool) (b : Block) (statements : List Statement) → stack_weight (begun edge b statements) + spare_of b (begun edge b statements) ≡ stack_weight statements + spare_of b statements
begun_balance edge b [] = let e = body_balance edge b in let none : stack_weight [] ≡ 0 = refl in omega arith
begun_balance edge b (s ∷ statements) = refl

triggered_balance : (edge : Block → Bool) (blocks : List Block) (todo : List (List Statement)) → sum_by stack_weight (triggered edge blocks todo) + spare blocks (triggered edge blocks todo) ≡ sum_by stack_weight todo + spare blocks todo
triggered_balance edge [] todo = refl
triggered_balance edge (b ∷ blocks) [] = refl
triggered_balance edge (b ∷ blocks) (statements ∷ todo) =
    let here = begun_balance (edge b) b statements in
    let more = triggered_balance edge blocks todo in
    let e = sum_by-cons stack_weight (begun (edge b) b statements) (triggered edge blocks todo) in
    let f = sum_by-cons stack_weight statements todo in
    omega arith

put_all_balance : (d : Netlist) (writes : List Write) (st : State) → sum_by stack_weight (put_all d writes st).todo + spare d.blocks (put_all d writes st).todo ≡ sum_by stack_weight st.todo + spare d.blocks st.todo
put_all_balance d [] st = refl
put_all_balance d (w ∷ writes) st = put_all_balance d writes (put d w st) ∙ triggered_balance (starts st.store w) d.blocks st.todo

spare_one : (b : Block) (statements : List Statement) → spare_of b statements ≤ statement_weight b.body
spare_one b [] = omega arith
spare_one b (s ∷ statements) = omega arith

spare_at_most : (blocks : List Block) (todo : List (List Statement)) → spare blocks todo ≤ bodies_weight blocks
spare_at_most [] todo = omega arith
spare_at_most (b ∷ blocks) [] = omega arith
spare_at_most (b ∷ blocks) (statements ∷ todo) =
    let here = spare_one b statements in
    let more = spare_at_most blocks todo in
    let e = sum_by-cons (λ (c : Block). statement_weight c.body) b blocks in
    omega arith

-- whatever is written, at most all bodies are started
pub put_all_rises : (d : Netlist) (writes : List Write) (st : State) → sum_by stack_weight (put_all d writes st).todo ≤ sum_by stack_weight st.todo + bodies_weight d.blocks
put_all_rises d writes st = let e = put_all_balance d writes st in let f = spare_at_most d.blocks st.todo in omega arith

-- a list of lists, one of which is another then
pub list_within : {A : Type 0} (lists : List (List A)) (k : ℕ) → is_filled (list_at lists k) ≡ true → k < length lists
list_within [] k h = absurd (cc)
list_within (xs ∷ lists) zero h = omega arith
list_within (xs ∷ lists) (suc k) h = let l = list_within lists k h in omega arith

one_less : {A : Type 0} (xs : List A) → is_filled xs ≡ true → length (drop 1 xs) + 1 ≡ length xs
one_less [] h = absurd (cc)
one_less (x ∷ xs) h = omega arith

pub first_taken : {A : Type 0} (lists : List (List A)) (k : ℕ) → is_filled (list_at lists k) ≡ true → sum_by length (set lists k (drop 1 (list_at lists k))) + 1 ≡ sum_by length lists
first_taken {A} lists k filled =
    let e : sum_by length (set lists k (drop 1 (list_at lists k))) + length (list_at lists k) ≡ sum_by length lists + length (drop 1 (list_at lists k)) = sum_by-set (length {A = A}) lists k (drop 1 (list_at lists k)) [] (list_within lists k filled) in
    let one = one_less (list_at lists k) filled in
    omega arith

pub none_left : (lists : List (List Update)) → sum_by length (map {A = List Update} {B = List Update} (λ list. []) lists) ≡ 0
none_left [] = refl
none_left (list ∷ lists) =
    let none : List Update = [] in
    let e = sum_by-cons (length {A = Update}) none (map {A = List Update} {B = List Update} (λ x. []) lists) in
    let rest = none_left lists in
    omega arith

some_by : (b : Bool) (list : List Update) (n : ℕ) → is_filled list ≡ b → (b ≡ false → 1 ≤ n) → 1 ≤ length list + n
some_by true [] n is rest = absurd (cc)
some_by true (x ∷ list) n is rest = omega arith
some_by false list n is rest = let r = rest refl in omega arith

pub some_update : (lists : List (List Update)) → list_any is_filled lists ≡ true → 1 ≤ sum_by length lists
some_update [] h = absurd (cc)
some_update (list ∷ lists) h =
    let e = sum_by-cons length list lists in
    let some = some_by (is_filled list) list (sum_by length lists) refl (λ none. some_update lists (rw none at h)) in
    omega arith
