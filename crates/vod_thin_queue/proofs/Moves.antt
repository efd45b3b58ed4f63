-- What assignments that are unmixed change, and what vectors give the inputs in turn.
use Rattle.std.proofs.Common.{◌≡◌, ◌≢◌, ◌⊎◌, ℕ, ◌+◌, ◌<◌, ◌==◌, ◌||◌, ◌&&◌, ◌++◌, inl, inr, zero, suc, not, Bool, true, false, cond, List, [], ◌∷◌, length, map, get_or, arith, refl, ap, sym, subst, ◌∙◌, ⊎_elim, All, AllPairs, Option, Some, None, unwrap_or, IsTrue, if◌then◌else◌, slice_index, eq-eqb}
use Rattle.std.specs.List.{slice_get, list_all, filter, enumerate_from}
use Rattle.std.proofs.lemmas.Bool.{cases_Bool, cases_eq, cases_lt, or_cases, or_left, or_right, and_parts, and_from, eqb-true, ne_eqb, not-false, not-true}
use Rattle.std.proofs.lemmas.List.{length-map, get_or-map}
use Rattle.std.proofs.lemmas.List.Elements.{All-head, All-tail}
use Rattle.std.proofs.lemmas.Option.{same_Some, slice_get_within}
use Rattle.vod_thin_design.specs.declared.thin.Bit.{Bit}
use Rattle.vod_thin_design.specs.declared.thin.Class.{Class}
use Rattle.vod_thin_design.specs.declared.thin.Input.{Input}
use Rattle.vod_thin_design.specs.declared.thin.Move.{Move}
use Rattle.vod_thin_design.specs.declared.thin.Vector.{Vector}
use Rattle.vod_thin_design.specs.Bits.{value_at, same_bit}
use Rattle.vod_thin_design.specs.Netlist.{Netlist, IsAccepted, has, is_clock, input_signals, clock_signals}
use Rattle.vod_thin_design.specs.Vectors.{assigned, holds, changes, has_class, is_unmixed, IsVector}
use Rattle.vod_thin_queue.specs.State.{State, assignment, opened, option_at, IsShaped}
use Rattle.vod_thin_queue.specs.Run.{input_value, changes_from, is_unmixed_from, HasTaken, IsSlot}
use Rattle.vod_thin_queue.proofs.Accepted.{field_at, found, inputs_apart}
use Rattle.vod_thin_queue.proofs.Due.{same_bit-true, same_itself}
use Rattle.vod_thin_queue.proofs.Inputs.{input_end, input_end-steps}
use Rattle.vod_thin_queue.proofs.Orderly.{default_at}
use Rattle.vod_thin_queue.proofs.Shaped.{IsShaped-opened}
use Rattle.vod_thin_queue.proofs.Tabled.{get_or-tabled}

-- an assigned value is that of an assignment, and if that passes one test it passes another
assignment_by : (P Q : Move → Bool) (move : Move) (moves : List Move) (i : ℕ) (b : Bit) (test : Bool) → Q move ≡ test → list_all P (cond test (move ∷ filter Q moves) (filter Q moves)) ≡ true →
    ((Q move ≡ false) ⊎ (P move ≡ true)) × (list_all P (filter Q moves) ≡ true)
assignment_by P Q move moves i b true is all = let both = and_parts (P move) (list_all P (filter Q moves)) all in (inr both.0, both.1)
assignment_by P Q move moves i b false is all = (inl is, all)

pub assignment_at : (P Q : Move → Bool) (moves : List Move) (i : ℕ) (b : Bit) → list_all P (filter Q moves) ≡ true → assignment moves i ≡ Some b → (move : Move) × (move.input ≡ i) × (move.value ≡ b) × ((Q move ≡ false) ⊎ (P move ≡ true))
assignment_at P Q [] i b all is = absurd (cc)
assignment_at P Q (move ∷ moves) i b all is =
    let both = assignment_by P Q move moves i b (Q move) refl all in
    ⊎_elim
    (λ same. let here : (if true then Some move.value else assignment moves i) ≡ Some b = subst (λ (t : Bool). (if t then Some move.value else assignment moves i) ≡ Some b) (eq-eqb move.input i same) is in
    (move, same, same_Some move.value b here, both.0))
    (λ other. let later : (if false then Some move.value else assignment moves i) ≡ Some b = subst (λ (t : Bool). (if t then Some move.value else assignment moves i) ≡ Some b) (ne_eqb move.input i other) is in
    assignment_at P Q moves i b both.1 later)
    (cases_eq move.input i)

enumerated : (P : (ℕ × Input) → Bool) (n : ℕ) (xs : List Input) (i : ℕ) (x : Input) → list_all P (enumerate_from n xs) ≡ true → slice_get xs i ≡ Some x → P (n + i, x) ≡ true
enumerated P n [] i x all at = absurd (cc)
enumerated P n (first ∷ xs) zero x all at =
    let e : n ≡ n + 0 = omega arith in
    subst (λ m. P (m, x) ≡ true) e (subst (λ y. P (n, y) ≡ true) (same_Some first x at) (and_parts (P (n, first)) (list_all P (enumerate_from (n + 1) xs)) all).0)
enumerated P n (first ∷ xs) (suc i) x all at =
    let e : n + 1 + i ≡ n + suc i = omega arith in
    subst (λ m. P (m, x) ≡ true) e (enumerated P (n + 1) xs i x (and_parts (P (n, first)) (list_all P (enumerate_from (n + 1) xs)) all).1 at)

or_not : (b c : Bool) → (not b || c) ≡ true → b ≡ true → c ≡ true
or_not true c h is = h
or_not false c h is = cc

-- the class of an input that has the class that an assignment's input is to have
class_of : (test : Class → Bool) (d : Netlist) (move : Move) (input : Input) → has_class test d move ≡ true → slice_get d.inputs move.input ≡ Some input → test input.class ≡ true
class_of test d move input all at =
    let e : 0 + move.input ≡ move.input = omega arith in
    let h = enumerated (λ e. not (e.0 == move.input) || test e.1.class) 0 d.inputs move.input input all at in
    or_not (0 + move.input == move.input) (test input.class) h (eq-eqb (0 + move.input) move.input e)

-- an input with the signal of a clock is one
clock_class : (d : Netlist) → IsAccepted d → (i : ℕ) (input : Input) → slice_get d.inputs i ≡ Some input → has (clock_signals d) (slice_index (input_signals d) i) ≡ true → is_clock input.class ≡ true
clock_class d a i input at clock =
    let p = found (λ (x : Input). x.signal) (λ (x : Input). is_clock x.class) d.inputs (slice_index (input_signals d) i) clock in
    ⊎_elim
    (λ same. let e : p.1 ≡ input = same_Some p.1 input (sym p.2 ∙ ap (slice_get d.inputs) same ∙ at) in subst (λ (x : Input). is_clock x.class ≡ true) e p.4)
    (λ apart. absurd (inputs_apart d a p.0 i (slice_get_within d.inputs p.0 p.1 p.2) (slice_get_within d.inputs i input at) apart (field_at (λ (x : Input). x.signal) d.inputs p.0 p.1 p.2 ∙ p.3)))
    (cases_eq p.0 i)

kept_or : (d : Netlist) (s : State) (test : Class → Bool) (moves : List Move) (i : ℕ) (b : Bit) (input : Input) → list_all (has_class test d) (changes_from d s moves) ≡ true → assignment moves i ≡ Some b → slice_get d.inputs i ≡ Some input → (input_value d s i ≡ b) ⊎ (test input.class ≡ true)
kept_or d s test moves i b input all is at =
    let p = assignment_at (has_class test d) (λ move. not (same_bit (input_value d s move.input) move.value)) moves i b all is in
    ⊎_elim
    (λ same. inl (ap (input_value d s) (sym p.1) ∙ same_bit-true (input_value d s p.0.input) p.0.value (not-false (same_bit (input_value d s p.0.input) p.0.value) same) ∙ p.2))
    (λ class. inr (class_of test d p.0 input class (ap (slice_get d.inputs) p.1 ∙ at)))
    p.3

-- where the changes are of data, a clock has the value that it is assigned
pub clock_kept : (d : Netlist) (s : State) (moves : List Move) (i : ℕ) (b : Bit) (input : Input) → IsAccepted d → list_all (has_class (λ c. not (is_clock c)) d) (changes_from d s moves) ≡ true → assignment moves i ≡ Some b → slice_get d.inputs i ≡ Some input →
    has (clock_signals d) (slice_index (input_signals d) i) ≡ true → input_value d s i ≡ b
clock_kept d s moves i b input a all is at clock =
    ⊎_elim (λ kept. kept) (λ class. let is_one = clock_class d a i input at clock in let clash : false ≡ true = sym (ap not is_one) ∙ class in cc) (kept_or d s (λ c. not (is_clock c)) moves i b input all is at)

has_kept_by : (input : Input) (xs : List Input) (n : ℕ) (test : Bool) → has (map (λ (x : Input). x.signal) xs) n ≡ true → has (map (λ (x : Input). x.signal) (cond test (input ∷ xs) xs)) n ≡ true
has_kept_by input xs n true h = or_right (input.signal == n) (has (map (λ (x : Input). x.signal) xs) n) h
has_kept_by input xs n false h = h

-- an input that is a clock has the signal of one
has_kept : (xs : List Input) (i : ℕ) (input : Input) → slice_get xs i ≡ Some input → is_clock input.class ≡ true → has (map (λ (x : Input). x.signal) (filter (λ (x : Input). is_clock x.class) xs)) input.signal ≡ true
has_kept [] i input at is = absurd (cc)
has_kept (first ∷ xs) zero input at is =
    let e : first ≡ input = same_Some first input at in
    let test : is_clock first.class ≡ true = rw e is in
    rw test (or_left (first.signal == input.signal) (has (map (λ (x : Input). x.signal) (filter (λ (x : Input). is_clock x.class) xs)) input.signal) (eq-eqb first.signal input.signal (ap (λ (x : Input). x.signal) e)))
has_kept (first ∷ xs) (suc i) input at is = has_kept_by first (filter (λ (x : Input). is_clock x.class) xs) input.signal (is_clock first.class) (has_kept xs i input at is)

clock_signal : (d : Netlist) (i : ℕ) (input : Input) → slice_get d.inputs i ≡ Some input → is_clock input.class ≡ true → has (clock_signals d) (slice_index (input_signals d) i) ≡ true
clock_signal d i input at is = rw (field_at (λ (x : Input). x.signal) d.inputs i input at) (has_kept d.inputs i input at is)

-- where they are of clocks, a data input has
pub data_kept : (d : Netlist) (s : State) (moves : List Move) (i : ℕ) (b : Bit) (input : Input) → list_all (has_class is_clock d) (changes_from d s moves) ≡ true → assignment moves i ≡ Some b → slice_get d.inputs i ≡ Some input →
    has (clock_signals d) (slice_index (input_signals d) i) ≡ false → input_value d s i ≡ b
data_kept d s moves i b input all is at free =
    ⊎_elim (λ kept. kept) (λ class. let clash : true ≡ false = sym (clock_signal d i input at class) ∙ free in cc) (kept_or d s is_clock moves i b input all is at)

-- the moves of a slot are the values that are assigned
pub move_of : (d : Netlist) (moves : List Move) (s : State) (i : ℕ) → i < length d.inputs → option_at (opened d moves s).moves i ≡ assignment moves i
move_of d moves s i h = get_or-tabled (assignment moves) d.inputs i None h

-- with each input assigned at most once, the last assignment is the only one
holds_none : (moves : List Move) (move : Move) (o : Bool) → assignment moves move.input ≡ None → holds o moves move ≡ o
holds_none [] move o none = refl
holds_none (first ∷ moves) move o none =
    ⊎_elim
    (λ same. let here : (if true then Some first.value else assignment moves move.input) ≡ None = subst (λ (t : Bool). (if t then Some first.value else assignment moves move.input) ≡ None) (eq-eqb first.input move.input same) none in absurd (cc))
    (λ other. let test = ne_eqb first.input move.input other in
    let later : (if false then Some first.value else assignment moves move.input) ≡ None = subst (λ (t : Bool). (if t then Some first.value else assignment moves move.input) ≡ None) test none in
    rw test (holds_none moves move o later))
    (cases_eq first.input move.input)

unassigned : (moves : List Move) (i : ℕ) → ((k : ℕ) → k < length (assigned moves) → i ≢ get_or (assigned moves) k 0) → assignment moves i ≡ None
unassigned [] i apart = refl
unassigned (first ∷ moves) i apart =
    let test = ne_eqb first.input i (λ same. apart 0 (omega arith) (sym same)) in
    rw test (unassigned moves i (λ k h. apart (suc k) (omega arith)))

holds_some : (moves : List Move) (move : Move) (o : Bool) (b : Bit) → AllPairs (λ i k. i ≢ k) (assigned moves) → assignment moves move.input ≡ Some b → holds o moves move ≡ same_bit b move.value
holds_some [] move o b once is = absurd (cc)
holds_some (first ∷ moves) move o b once is =
    ⊎_elim
    (λ same. let test = eq-eqb first.input move.input same in
    let here : (if true then Some first.value else assignment moves move.input) ≡ Some b = subst (λ (t : Bool). (if t then Some first.value else assignment moves move.input) ≡ Some b) test is in
    let value : first.value ≡ b = same_Some first.value b here in
    let rest : assignment moves move.input ≡ None = unassigned moves move.input (λ k h e. once 0 (suc k) 0 (omega arith) (omega arith) (same ∙ e)) in
    rw test (holds_none moves move (same_bit first.value move.value) rest ∙ ap (λ v. same_bit v move.value) value))
    (λ other. let test = ne_eqb first.input move.input other in
    let later : (if false then Some first.value else assignment moves move.input) ≡ Some b = subst (λ (t : Bool). (if t then Some first.value else assignment moves move.input) ≡ Some b) test is in
    rw test (holds_some moves move o b (λ i k e lt h. once (suc i) (suc k) e (omega arith) (omega arith)) later))
    (cases_eq first.input move.input)

holds_append : (o : Bool) (xs ys : List Move) (move : Move) → holds o (xs ++ ys) move ≡ holds (holds o xs move) ys move
holds_append o [] ys move = refl
holds_append o (x ∷ xs) ys move = holds_append (if x.input == move.input then same_bit x.value move.value else o) xs ys move

taken_by : (d : Netlist) (s : State) (before moves : List Move) (move : Move) (o : Option Bit) → HasTaken d before s → AllPairs (λ i k. i ≢ k) (assigned moves) → move.input < length d.inputs → assignment moves move.input ≡ o →
    holds (holds false before move) moves move ≡ true → unwrap_or o (input_value d s move.input) ≡ move.value
taken_by d s before moves move None given once h is held = given move h (sym (holds_none moves move (holds false before move) is) ∙ held)
taken_by d s before moves move (Some b) given once h is held = same_bit-true b move.value (sym (holds_some moves move (holds false before move) b once is) ∙ held)

-- after the slot of a vector, its inputs have what it gave them, and the others what they had
pub HasTaken-next : (d : Netlist) (s t : State) (before : List Move) (vector : Vector) → IsAccepted d → IsShaped d s → HasTaken d before s → IsVector d vector → IsSlot d s vector.moves t → HasTaken d (before ++ vector.moves) t
HasTaken-next d s t before vector a shaped given form slot move h held =
    let moves = vector.moves in
    let end : input_end d t move.input ≡ input_end d (opened d moves s) move.input = input_end-steps d slot.completes.events (opened d moves s) t move.input a (IsShaped-opened d moves s shaped) slot.completes.steps h in
    let rest : input_end d t move.input ≡ input_value d t move.input = ap (λ o. unwrap_or o (input_value d t move.input)) (default_at None t.moves slot.completes.ends.moves move.input) in
    let begin : input_end d (opened d moves s) move.input ≡ unwrap_or (assignment moves move.input) (input_value d s move.input) = ap (λ o. unwrap_or o (input_value d s move.input)) (move_of d moves s move.input h) in
    sym rest ∙ end ∙ begin ∙ taken_by d s before moves move (assignment moves move.input) given form.once h refl (sym (holds_append false before moves move) ∙ held)

changes_by : (P : Move → Bool) (d : Netlist) (s : State) (before moves : List Move) (move : Move) (held same : Bool) → holds false before move ≡ held → same_bit (input_value d s move.input) move.value ≡ same → move.input < length d.inputs → HasTaken d before s →
    (list_all P (changes before moves) ≡ true → list_all P (changes_from d s moves) ≡ true) → list_all P (cond (not held) (move ∷ changes before moves) (changes before moves)) ≡ true → list_all P (cond (not same) (move ∷ changes_from d s moves) (changes_from d s moves)) ≡ true
changes_by P d s before moves move true true is_held is_same h given rest all = rest all
changes_by P d s before moves move true false is_held is_same h given rest all =
    let value = given move h is_held in
    let clash : true ≡ false = sym (rw value (same_itself move.value)) ∙ is_same in cc
changes_by P d s before moves move false true is_held is_same h given rest all = rest (and_parts (P move) (list_all P (changes before moves)) all).1
changes_by P d s before moves move false false is_held is_same h given rest all =
    let both = and_parts (P move) (list_all P (changes before moves)) all in
    and_from (P move) (list_all P (changes_from d s moves)) both.0 (rest both.1)

-- an assignment that changes its input isn't one of what earlier ones left
changes_less : (P : Move → Bool) (d : Netlist) (s : State) (before moves : List Move) → All (λ i. i < length d.inputs) (assigned moves) → HasTaken d before s → list_all P (changes before moves) ≡ true → list_all P (changes_from d s moves) ≡ true
changes_less P d s before [] within given all = refl
changes_less P d s before (move ∷ moves) within given all =
    let rest = All-tail (λ i. i < length d.inputs) move.input (assigned moves) within in
    let h = All-head (λ i. i < length d.inputs) move.input (assigned moves) within in
    changes_by P d s before moves move (holds false before move) (same_bit (input_value d s move.input) move.value) refl refl h given
    (λ all'. changes_less P d s before moves rest given all') all

pub unmixed : (d : Netlist) (s : State) (before moves : List Move) → All (λ i. i < length d.inputs) (assigned moves) → HasTaken d before s → is_unmixed d before moves ≡ true → is_unmixed_from d s moves ≡ true
unmixed d s before moves within given is =
    ⊎_elim
    (λ clocks. or_left (list_all (has_class is_clock d) (changes_from d s moves)) (list_all (has_class (λ c. not (is_clock c)) d) (changes_from d s moves)) (changes_less (has_class is_clock d) d s before moves within given clocks))
    (λ others. or_right (list_all (has_class is_clock d) (changes_from d s moves)) (list_all (has_class (λ c. not (is_clock c)) d) (changes_from d s moves)) (changes_less (has_class (λ c. not (is_clock c)) d) d s before moves within given others))
    (or_cases (list_all (has_class is_clock d) (changes before moves)) (list_all (has_class (λ c. not (is_clock c)) d) (changes before moves)) is)
