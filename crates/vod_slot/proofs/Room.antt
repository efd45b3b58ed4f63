-- The room of each block's updates suffices: what each event keeps of this.
use Rattle.std.proofs.Common.{◌≡◌, ◌⊎◌, inl, inr, ℕ, zero, suc, ◌+◌, ◌*◌, ◌<◌, ◌≤◌, max, ◌==◌, ◌&&◌, Bool, true, false, if◌then◌else◌, List, [], ◌∷◌, length, map, get_or, arith, refl, ap, sym, ◌∙◌, subst, ⊎_elim, All, Option, Some, None, slice_get, add-one}
use Rattle.std.specs.List.{sum_by}
use Rattle.std.proofs.Math.Nat.{mul-le-mul_left, mul-suc}
use Rattle.std.proofs.lemmas.Bool.{and_parts, or_cases, eqb-true, false_from_ne_true}
use Rattle.std.proofs.lemmas.List.Elements.{All-head, All-tail, All-cons, All-weaker}
use Rattle.std.proofs.lemmas.List.Sums.{sum_by-cons}
use Rattle.std.proofs.lemmas.Option.{same_Some}
use Rattle.vod_bits.specs.Bit.{Bit, B0, B1, BX, BZ, is_1}
use Rattle.vod_four.specs.Four.{truth_bit}
use Rattle.vod_design.specs.declared.parts.Block.{Block}
use Rattle.vod_design.specs.declared.parts.Edge.{Edge}
use Rattle.vod_design.specs.declared.sized.SizedExpr.{SizedExpr}
use Rattle.vod_design.specs.declared.statement.CaseItem.{CaseItem}
use Rattle.vod_design.specs.declared.statement.Part.{Part}
use Rattle.vod_design.specs.declared.statement.Statement.{Statement}
use Rattle.vod_design.specs.declared.statement.Statement.TheOpen.{Statement-F}
use Rattle.vod_design.specs.declared.statement.Statement.TheFolds.{fold-Statement, fold-CaseItem, map-Statement, fold-roll-Statement, fold_out-CaseItem}
use Rattle.vod_design.specs.declared.statement.Statement.TheViews.{out-Statement, roll-out-Statement}
use Rattle.vod_design.specs.Eval.{same_bit}
use Rattle.vod_design.specs.Netlist.{Netlist}
use Rattle.vod_design.specs.Run.{case_branch}
use Rattle.vod_design.specs.Values.{Operand}
use Rattle.vod_slot.specs.Store.{Store, Write, ToBit, ToWord, bit_at, written, list_at}
use Rattle.vod_slot.specs.State.{State, Update}
use Rattle.vod_slot.specs.Step.{choice, next_after, piece, updates_of, is_rising, is_falling, is_edge, is_reset_edge, starts, begun, triggered, put, put_all}
use Rattle.vod_slot.specs.Edges.{edge_bit}
use Rattle.vod_slot.specs.Room.{greatest, update_room, updates_room, layer_most, item_most, statement_most, stack_most, reset_nets, nets_of, opening_count, openings}
use Rattle.vod_slot.proofs.Lists.{all_none}
use Rattle.vod_slot.proofs.Replaced.{same_bit-equal, same_bit-itself}
use Rattle.vod_slot.proofs.Statements.{case_kept, either_kept}
use Rattle.vod_slot.proofs.Puts.{Misses, IsThere, bit_at-missed, bit_at-written, sizes-written}
use Rattle.vod_slot.proofs.Links.{lowest}
use Rattle.vod_slot.proofs.Shaped.{length-triggered}

-- statements

abbrev Layer : Type 0
Layer = Statement-F Statement CaseItem

abbrev item_of : CaseItem → ℕ
item_of item = fold-CaseItem ℕ ℕ layer_most item_most item

abbrev most_at : Layer → ℕ
most_at x = layer_most (map-Statement Statement CaseItem ℕ ℕ statement_most item_of x)

statement_at : (s : Statement) → statement_most s ≡ most_at (out-Statement s)
unfolding statement_most
statement_at s = ap (fold-Statement ℕ ℕ layer_most item_most) (sym (roll-out-Statement s)) ∙ fold-roll-Statement ℕ ℕ layer_most item_most (out-Statement s)

item_at : (item : CaseItem) → item_of item ≡ statement_most item.body
unfolding statement_most
item_at item = fold_out-CaseItem ℕ ℕ layer_most item_most item

abbrev IsAtMost : ℕ → Statement → Type 0
IsAtMost n s = statement_most s ≤ n

items_at_most : (items : List CaseItem) (n : ℕ) → greatest (map item_of items) ≤ n → All (λ (item : CaseItem). IsAtMost n item.body) items
items_at_most [] n le = all_none (λ (item : CaseItem). IsAtMost n item.body)
items_at_most (item ∷ items) n le =
    let here = item_at item in
    All-cons (λ (i : CaseItem). IsAtMost n i.body) item items (omega arith) (items_at_most items n (omega arith))

one_stack : (s : Statement) → stack_most (s ∷ []) ≡ statement_most s
one_stack s = let e = sum_by-cons statement_most s [] in let none : sum_by statement_most [] ≡ 0 = refl in omega arith

same_stack : (ss : List Statement) → stack_most ss ≡ sum_by (λ w. w) (map statement_most ss)
same_stack [] = refl
same_stack (s ∷ ss) = let e = sum_by-cons statement_most s ss in let f = sum_by-cons (λ w. w) (statement_most s) (map statement_most ss) in let more = same_stack ss in omega arith

length-pieces : (value : SizedExpr → Operand) (right : SizedExpr) (parts : List Part) → length (map (piece value right) parts) ≡ length parts
length-pieces value right [] = refl
length-pieces value right (p ∷ parts) = ap suc (length-pieces value right parts)

one_update : (u : Update) → updates_room (u ∷ []) ≡ 1 + length u
one_update u = let e = sum_by-cons update_room u [] in let none : sum_by update_room [] ≡ 0 = refl in omega arith

layer_kept : (value : SizedExpr → Operand) (x : Layer) → stack_most (next_after value x) + updates_room (updates_of value x) ≤ most_at x
layer_kept value (Statement-F.Assign parts right) =
    let none : stack_most [] ≡ 0 = refl in
    let one = one_update (map (piece value right) parts) in
    let len = length-pieces value right parts in
    omega arith
layer_kept value (Statement-F.If test taken other) =
    let chosen = if is_1 (truth_bit (value test).bits) then taken else other in
    let le : statement_most chosen ≤ max (statement_most taken) (statement_most other)
    = either_kept (IsAtMost (max (statement_most taken) (statement_most other))) (is_1 (truth_bit (value test).bits)) taken other (omega arith) (omega arith) in
    let one = one_stack chosen in
    let none : updates_room [] ≡ 0 = refl in
    omega arith
layer_kept value (Statement-F.Case tested items otherwise) =
    let n = max (greatest (map item_of items)) (statement_most otherwise) in
    let chosen = case_branch value tested (map choice items) otherwise in
    let le : statement_most chosen ≤ n = case_kept (IsAtMost n) value tested items otherwise (items_at_most items n (omega arith)) (omega arith) in
    let one = one_stack chosen in
    let none : updates_room [] ≡ 0 = refl in
    omega arith
layer_kept value (Statement-F.Begin statements) = let e = same_stack statements in let none : updates_room [] ≡ 0 = refl in omega arith
layer_kept value Statement-F.Empty = let none : stack_most [] ≡ 0 = refl in let none' : updates_room [] ≡ 0 = refl in omega arith

pub statement_kept : (value : SizedExpr → Operand) (s : Statement) → stack_most (next_after value (out-Statement s)) + updates_room (updates_of value (out-Statement s)) ≤ statement_most s
statement_kept value s = rw (statement_at s) (layer_kept value (out-Statement s))

-- a write that gives an edge net what is brought, or misses it
abbrev pub Brings : (ℕ → Bit) → ℕ → Write → Type 0
Brings e n w = Misses (lowest n) w ⊎ (w ≡ ToBit n 0 (e n))

-- a net that has its opening value, or what is brought, and is there
pub record IsBetween (o e : ℕ → Bit) (store : Store) (n : ℕ) : Type 0 where
  pub value : (edge_bit store n ≡ o n) ⊎ (edge_bit store n ≡ e n)
  pub there : IsThere store (lowest n)

bit_then : (e : ℕ → Bit) (store : Store) (n : ℕ) (w : Write) → IsThere store (lowest n) → Brings e n w → (edge_bit (written store w) n ≡ edge_bit store n) ⊎ (edge_bit (written store w) n ≡ e n)
bit_then e store n w there (inl miss) = inl (bit_at-missed store w (lowest n) miss)
bit_then e store n w there (inr is) = inr (ap (λ v. edge_bit (written store v) n) is ∙ bit_at-written store (lowest n) (e n) there)

pub IsBetween-written : (o e : ℕ → Bit) (store : Store) (n : ℕ) (w : Write) → IsBetween o e store n → Brings e n w → IsBetween o e (written store w) n
IsBetween-written o e store n w b brings = record {
  value = ⊎_elim (λ same. ⊎_elim (λ l. inl (same ∙ l)) (λ r. inr (same ∙ r)) b.value) (λ new. inr new) (bit_then e store n w b.there brings);
  there = subst (λ ns. 0 < get_or ns n 0) (sym (sizes-written store w)) b.there;
}

pub digit_at_most : (b : Bool) → (if b then 1 else 0) ≤ 1
digit_at_most true = omega arith
digit_at_most false = omega arith

opening_falls : (o e : ℕ → Bit) (store : Store) (n : ℕ) (w : Write) → IsBetween o e store n → Brings e n w → opening_count o (written store w) n ≤ opening_count o store n
opening_falls o e store n w b brings =
    ⊎_elim
    (λ same. let eq : opening_count o (written store w) n ≡ opening_count o store n = ap (λ (v : Bit). if same_bit v (o n) then 1 else 0) same in omega arith)
    (λ new. ⊎_elim
    (λ opening.
    let full : opening_count o store n ≡ 1 = ap (λ (v : Bit). if same_bit v (o n) then 1 else 0) opening ∙ ap (λ (t : Bool). if t then 1 else 0) (same_bit-itself (o n)) in
    let le = digit_at_most (same_bit (edge_bit (written store w) n) (o n)) in
    omega arith)
    (λ at_end. let eq : opening_count o (written store w) n ≡ opening_count o store n = ap (λ (v : Bit). if same_bit v (o n) then 1 else 0) (new ∙ sym at_end) in omega arith)
    b.value)
    (bit_then e store n w b.there brings)

openings_fall : (o e : ℕ → Bit) (store : Store) (nets : List ℕ) (w : Write) → All (IsBetween o e store) nets → All (λ n. Brings e n w) nets → openings o (written store w) nets ≤ openings o store nets
openings_fall o e store [] w b brings = omega arith
openings_fall o e store (n ∷ nets) w b brings =
    let here = opening_falls o e store n w (All-head (IsBetween o e store) n nets b) (All-head (λ m. Brings e m w) n nets brings) in
    let more = openings_fall o e store nets w (All-tail (IsBetween o e store) n nets b) (All-tail (λ m. Brings e m w) n nets brings) in
    let f = sum_by-cons (opening_count o (written store w)) n nets in
    let g = sum_by-cons (opening_count o store) n nets in
    omega arith

-- an edge is a change
no_change : (rising : Bool) (b : Bit) → (if rising then is_rising b b else is_falling b b) ≡ false
no_change true B0 = refl
no_change true B1 = refl
no_change true BX = refl
no_change true BZ = refl
no_change false B0 = refl
no_change false B1 = refl
no_change false BX = refl
no_change false BZ = refl

not_same : (a b : Bit) → (a ≡ b → ⊥) → same_bit a b ≡ false
not_same a b apart = false_from_ne_true (same_bit a b) (λ is. apart (same_bit-equal a b is))

-- where an edge of a net comes, the net has its opening value no more
edge_uses : (o e : ℕ → Bit) (store : Store) (w : Write) (x : Edge) → IsBetween o e store x.signal → Brings e x.signal w → is_edge store w x ≡ true → opening_count o (written store w) x.signal + 1 ≤ opening_count o store x.signal
edge_uses o e store (ToWord memory place word) x b brings is = absurd (cc)
edge_uses o e store (ToBit signal place bit) x b brings is =
    let p = and_parts (x.signal == signal) ((place == 0) && (if x.rising then is_rising (bit_at store signal place) bit else is_falling (bit_at store signal place) bit)) is in
    let q = and_parts (place == 0) (if x.rising then is_rising (bit_at store signal place) bit else is_falling (bit_at store signal place) bit) p.1 in
    let n : x.signal ≡ signal = eqb-true x.signal signal p.0 in
    let z : place ≡ 0 = eqb-true place 0 q.0 in
    let w_is : ToBit signal place bit ≡ ToBit x.signal 0 (e x.signal) = ⊎_elim (λ miss. ⊎_elim (λ other. absurd (other (sym n))) (λ other. absurd (other z)) miss) (λ same. same) brings in
    let bit_is : bit ≡ e x.signal = ap written_bit w_is in
    let old : bit_at store signal place ≡ edge_bit store x.signal = ap (λ m. bit_at store m place) (sym n) ∙ ap (bit_at store x.signal) z in
    let changed : (edge_bit store x.signal ≡ e x.signal) → ⊥
    = λ same.
    (let e1 : (if x.rising then is_rising (bit_at store signal place) bit else is_falling (bit_at store signal place) bit) ≡ (if x.rising then is_rising bit bit else is_falling bit bit)
    = ap (λ v. if x.rising then is_rising v bit else is_falling v bit) (old ∙ same ∙ sym bit_is) in
    let clash : true ≡ false = sym q.1 ∙ e1 ∙ no_change x.rising bit in cc) in
    let at_start : edge_bit store x.signal ≡ o x.signal = ⊎_elim (λ l. l) (λ r. absurd (changed r)) b.value in
    let now : edge_bit (written store (ToBit signal place bit)) x.signal ≡ e x.signal = ap (λ v. edge_bit (written store v) x.signal) w_is ∙ bit_at-written store (lowest x.signal) (e x.signal) b.there in
    let none : opening_count o (written store (ToBit signal place bit)) x.signal ≡ 0
    = ap (λ (v : Bit). if same_bit v (o x.signal) then 1 else 0) now ∙ ap (λ (t : Bool). if t then 1 else 0) (not_same (e x.signal) (o x.signal) (λ s. changed (at_start ∙ sym s))) in
    let full : opening_count o store x.signal ≡ 1 = ap (λ (v : Bit). if same_bit v (o x.signal) then 1 else 0) at_start ∙ ap (λ (t : Bool). if t then 1 else 0) (same_bit-itself (o x.signal)) in
    omega arith
  where
    written_bit : Write → Bit
    written_bit (ToBit signal place bit) = bit
    written_bit (ToWord memory place word) = BX

reset_uses : (o e : ℕ → Bit) (store : Store) (w : Write) (reset : Option Edge) → All (IsBetween o e store) (reset_nets reset) → All (λ n. Brings e n w) (reset_nets reset) → is_reset_edge store w reset ≡ true → openings o (written store w) (reset_nets reset) + 1 ≤ openings o store (reset_nets reset)
reset_uses o e store w None b brings is = absurd (cc)
reset_uses o e store w (Some x) b brings is =
    let here = edge_uses o e store w x (All-head (IsBetween o e store) x.signal [] b) (All-head (λ n. Brings e n w) x.signal [] brings) is in
    let f = sum_by-cons (opening_count o (written store w)) x.signal [] in
    let g = sum_by-cons (opening_count o store) x.signal [] in
    let none : sum_by (opening_count o (written store w)) [] ≡ 0 = refl in
    let none' : sum_by (opening_count o store) [] ≡ 0 = refl in
    omega arith

pub start_uses : (o e : ℕ → Bit) (store : Store) (w : Write) (b : Block) → All (IsBetween o e store) (nets_of b) → All (λ n. Brings e n w) (nets_of b) → starts store w b ≡ true → openings o (written store w) (nets_of b) + 1 ≤ openings o store (nets_of b)
start_uses o e store w b between brings is =
    let n = b.clock.signal in
    let nets = reset_nets b.reset in
    let first = All-head (IsBetween o e store) n nets between in
    let rest = All-tail (IsBetween o e store) n nets between in
    let first' = All-head (λ m. Brings e m w) n nets brings in
    let rest' = All-tail (λ m. Brings e m w) n nets brings in
    let f = sum_by-cons (opening_count o (written store w)) n nets in
    let g = sum_by-cons (opening_count o store) n nets in
    ⊎_elim
    (λ clock. let here = edge_uses o e store w b.clock first first' clock in let more = openings_fall o e store nets w rest rest' in omega arith)
    (λ reset. let here = opening_falls o e store n w first first' in let more = reset_uses o e store w b.reset rest rest' reset in omega arith)
    (or_cases (is_edge store w b.clock) (is_reset_edge store w b.reset) is)

-- what a block can still leave never rises by a write
times_falls : (m a b : ℕ) → a ≤ b → m * a ≤ m * b
times_falls m a b le = mul-le-mul_left m le

pub begun_at : (edge : Block → Bool) (blocks : List Block) (todo : List (List Statement)) (k : ℕ) (b : Block) → slice_get blocks k ≡ Some b → k < length todo → list_at (triggered edge blocks todo) k ≡ begun (edge b) b (list_at todo k)
begun_at edge [] todo k b at lt = absurd (cc)
begun_at edge (c ∷ blocks) [] k b at lt = absurd (omega arith)
begun_at edge (c ∷ blocks) (ss ∷ todo) zero b at lt = ap (λ x. begun (edge x) x ss) (same_Some c b at)
begun_at edge (c ∷ blocks) (ss ∷ todo) (suc k) b at lt = begun_at edge blocks todo k b at (omega arith)

begun_charge : (edge : Bool) (b : Block) (ss : List Statement) (now was : ℕ) → now ≤ was → (edge ≡ true → now + 1 ≤ was) → stack_most (begun edge b ss) + statement_most b.body * now ≤ stack_most ss + statement_most b.body * was
begun_charge edge b (s ∷ ss) now was le lt = let m = times_falls (statement_most b.body) now was le in omega arith
begun_charge false b [] now was le lt = let m = times_falls (statement_most b.body) now was le in omega arith
begun_charge true b [] now was le lt =
    let one = one_stack b.body in
    let none : stack_most [] ≡ 0 = refl in
    let m = times_falls (statement_most b.body) (now + 1) was (lt refl) in
    let more : statement_most b.body * (now + 1) ≡ statement_most b.body * now + statement_most b.body = ap (λ x. statement_most b.body * x) (add-one now) ∙ mul-suc (statement_most b.body) now in
    omega arith

pub put_all_charge : (d : Netlist) (o e : ℕ → Bit) (writes : List Write) (st : State) (k : ℕ) (b : Block) → slice_get d.blocks k ≡ Some b → k < length st.todo → All (IsBetween o e st.store) (nets_of b) → All (λ n. All (Brings e n) writes) (nets_of b) →
    stack_most (list_at (put_all d writes st).todo k) + statement_most b.body * openings o (put_all d writes st).store (nets_of b) ≤ stack_most (list_at st.todo k) + statement_most b.body * openings o st.store (nets_of b)
put_all_charge d o e [] st k b at lt between brings = omega arith
put_all_charge d o e (w ∷ writes) st k b at lt between brings =
    let store = written st.store w in
    let first : All (λ n. Brings e n w) (nets_of b) = All-weaker (λ n. All (Brings e n) (w ∷ writes)) (λ n. Brings e n w) (λ n each. All-head (Brings e n) w writes each) (nets_of b) brings in
    let rest : All (λ n. All (Brings e n) writes) (nets_of b) = All-weaker (λ n. All (Brings e n) (w ∷ writes)) (λ n. All (Brings e n) writes) (λ n each. All-tail (Brings e n) w writes each) (nets_of b) brings in
    let now = openings o store (nets_of b) in
    let was = openings o st.store (nets_of b) in
    let falls = openings_fall o e st.store (nets_of b) w between first in
    let here = begun_charge (starts st.store w b) b (list_at st.todo k) now was falls (λ is. start_uses o e st.store w b between first is) in
    let todo : stack_most (list_at (put d w st).todo k) ≡ stack_most (begun (starts st.store w b) b (list_at st.todo k)) = ap stack_most (begun_at (starts st.store w) d.blocks st.todo k b at lt) in
    let between' : All (IsBetween o e store) (nets_of b) = both (nets_of b) between first in
    let more = put_all_charge d o e writes (put d w st) k b at (rw (length-triggered (starts st.store w) d.blocks st.todo) lt) between' rest in
    omega arith
  where
    both : (nets : List ℕ) → All (IsBetween o e st.store) nets → All (λ n. Brings e n w) nets → All (IsBetween o e (written st.store w)) nets
    both [] h k' = all_none (IsBetween o e (written st.store w))
    both (n ∷ nets) h k' =
        All-cons (IsBetween o e (written st.store w)) n nets
        (IsBetween-written o e st.store n w (All-head (IsBetween o e st.store) n nets h) (All-head (λ m. Brings e m w) n nets k'))
        (both nets (All-tail (IsBetween o e st.store) n nets h) (All-tail (λ m. Brings e m w) n nets k'))
