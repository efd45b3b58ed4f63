-- The values before any step, and the moves of a slot, as they are written one by one.
use Rattle.std.proofs.Common.{◌≡◌, ◌≢◌, ℕ, ◌+◌, ◌<◌, ◌≤◌, ◌==◌, ◌||◌, suc, Bool, true, false, List, [], ◌∷◌, ◌++◌, length, take, set, get_or, replicate, arith, refl, ap, ◌∙◌, sym, All, AllPairs, Option, Some, None, eq-eqb, if◌then◌else◌}
use Rattle.std.proofs.lemmas.Bool.{ne_eqb}
use Rattle.std.proofs.lemmas.List.{take_all, take_more, length-take-le, get_or-take, get_or-map, length-map}
use Rattle.vod_thin_design.specs.declared.thin.Bit.{Bit}
use Rattle.vod_thin_design.specs.declared.thin.Bit.TheVariants.{X, Z}
use Rattle.vod_thin_design.specs.declared.thin.Signal.{Signal}
use Rattle.vod_thin_design.specs.declared.thin.Input.{Input}
use Rattle.vod_thin_design.specs.declared.thin.Move.{Move}
use Rattle.vod_thin_design.specs.Netlist.{Netlist, has, input_signals}
use Rattle.vod_thin_design.specs.Vectors.{assigned}
use Rattle.vod_thin_queue.specs.State.{State, assignment, opened, IsShaped, IsResting}
use Rattle.vod_thin_queue.proofs.Has.{has-push, or-true, or-false}
use Rattle.vod_thin_queue.proofs.Tabled.{tabled, length-tabled, replicate-tabled, set-tabled, same_tabled}

-- z at these inputs, and x elsewhere
abbrev pub first_values : List ℕ → List Signal → List Bit
first_values inputs signals = tabled (λ s. if has inputs s then Z else X) signals

pub first_values-none : (signals : List Signal) → replicate (length signals) X ≡ first_values [] signals
first_values-none signals = replicate-tabled (λ s. if has [] s then Z else X) signals X (λ k. refl)

pub first_values-more : (inputs : List ℕ) (signals : List Signal) (i d : ℕ) → i < length inputs → get_or inputs i d < length signals → set (first_values (take i inputs) signals) (get_or inputs i d) Z ≡ first_values (take (i + 1) inputs) signals
first_values-more inputs signals i d h within =
    rw (take_more inputs i d h)
    (set-tabled (λ s. if has (take i inputs) s then Z else X) (λ s. if has (take i inputs ++ get_or inputs i d ∷ []) s then Z else X) signals (get_or inputs i d) Z within
    (ap (λ b. if b then Z else X) (has-push (take i inputs) (get_or inputs i d) (get_or inputs i d)
    ∙ ap (λ b. has (take i inputs) (get_or inputs i d) || b) (eq-eqb (get_or inputs i d) (get_or inputs i d) refl) ∙ or-true (has (take i inputs) (get_or inputs i d))))
    (λ k apart. ap (λ b. if b then Z else X) (has-push (take i inputs) (get_or inputs i d) k
    ∙ ap (λ b. has (take i inputs) k || b) (ne_eqb (get_or inputs i d) k (λ e. apart (sym e))) ∙ or-false (has (take i inputs) k))))

pub length-first_values : (inputs : List ℕ) (signals : List Signal) → length (first_values inputs signals) ≡ length signals
length-first_values inputs signals = length-tabled (λ s. if has inputs s then Z else X) signals

-- one more input was written
pub first_values-next : (d : Netlist) (inputs : List Input) (i : ℕ) (x : Input) (now after : List Bit) → inputs ≡ d.inputs → i < length inputs → All (λ s. s < length d.signals) (input_signals d) → now ≡ first_values (take i (input_signals d)) d.signals →
    after ≡ set now (get_or inputs i x).signal Z → after ≡ first_values (take (i + 1) (input_signals d)) d.signals
first_values-next d inputs i x now after same h within is sets =
    let h' : i < length d.inputs = rw (← same) h in
    let h'' : i < length (input_signals d) = rw length-map h' in
    let at : (get_or inputs i x).signal ≡ get_or (input_signals d) i 0 = rw same (sym (get_or-map (λ (input : Input). input.signal) d.inputs i x 0 h')) in
    sets ∙ rw (is, at) (first_values-more (input_signals d) d.signals i 0 h'' (within i 0 h''))

pub first_values-all : (d : Netlist) (inputs : List Input) (i : ℕ) (now : List Bit) → inputs ≡ d.inputs → length inputs ≤ i → now ≡ first_values (take i (input_signals d)) d.signals → now ≡ first_values (input_signals d) d.signals
first_values-all d inputs i now same all is =
    is ∙ ap (λ ns. first_values ns d.signals) (take_all i (input_signals d) (let l : length (input_signals d) ≡ length d.inputs = length-map d.inputs (λ (input : Input). input.signal) in let e = ap length same in omega arith))

-- the moves that some assignments make
abbrev pub moves_of : List Input → List Move → List (Option Bit)
moves_of inputs moves = tabled (assignment moves) inputs

pub moves_of-none : (inputs : List Input) (moves : List (Option Bit)) → length moves ≡ length inputs → All (λ move. move ≡ None) moves → moves ≡ moves_of inputs []
moves_of-none inputs moves len none = same_tabled (assignment []) inputs moves len (λ k d h. none k d (omega arith))

choice_of : (b : Bool) (x y : Option Bit) → b ≡ true → (if b then x else y) ≡ x
choice_of true x y h = refl
choice_of false x y h = cc

choice_not : (b : Bool) (x y : Option Bit) → b ≡ false → (if b then x else y) ≡ y
choice_not true x y h = cc
choice_not false x y h = refl

here_by : (b : Bool) (v w : Bit) (old new : Option Bit) → (if b then Some v else old) ≡ None → (old ≡ None → new ≡ Some w) → (if b then Some v else new) ≡ Some w
here_by true v w old new none later = cc
here_by false v w old new none later = later none

-- an input that is not assigned yet gets the value of one more assignment
pub assignment-here : (moves : List Move) (move : Move) → assignment moves move.input ≡ None → assignment (moves ++ move ∷ []) move.input ≡ Some move.value
assignment-here [] move none = choice_of (move.input == move.input) (Some move.value) None (eq-eqb move.input move.input refl)
assignment-here (first ∷ moves) move none =
    here_by (first.input == move.input) first.value move.value (assignment moves move.input) (assignment (moves ++ move ∷ []) move.input) none (assignment-here moves move)

pub assignment-other : (moves : List Move) (move : Move) (i : ℕ) → i ≢ move.input → assignment (moves ++ move ∷ []) i ≡ assignment moves i
assignment-other [] move i apart = choice_not (move.input == i) (Some move.value) None (ne_eqb move.input i (λ e. apart (sym e)))
assignment-other (first ∷ moves) move i apart = ap (λ o. if first.input == i then Some first.value else o) (assignment-other moves move i apart)

-- no assignment is of an input that none of them names
pub assignment-none : (moves : List Move) (i : ℕ) → ((k : ℕ) (d : Move) → k < length moves → (get_or moves k d).input ≢ i) → assignment moves i ≡ None
assignment-none [] i apart = refl
assignment-none (first ∷ moves) i apart =
    choice_not (first.input == i) (Some first.value) (assignment moves i) (ne_eqb first.input i (apart 0 first (omega arith)))
    ∙ assignment-none moves i (λ k d h. apart (suc k) d (omega arith))

apart_before : (moves : List Move) (i : ℕ) (d : Move) → AllPairs (λ m n. m ≢ n) (assigned moves) → i < length moves → (k : ℕ) (e : Move) → k < length (take i moves) → (get_or (take i moves) k e).input ≢ (get_or moves i d).input
apart_before moves i d once h k e l =
    let len : length (take i moves) ≡ i = length-take-le i moves (omega arith) in
    let below : k < i = omega arith in
    let both = once k i 0 below (rw length-map h) in
    rw (get_or-take i moves k e below, ← get_or-map (λ (move : Move). move.input) moves k e 0 (omega arith), ← get_or-map (λ (move : Move). move.input) moves i d 0 h) both

pub moves_of-more : (inputs : List Input) (moves : List Move) (i : ℕ) (d : Move) → AllPairs (λ m n. m ≢ n) (assigned moves) → i < length moves → (get_or moves i d).input < length inputs →
    set (moves_of inputs (take i moves)) (get_or moves i d).input (Some (get_or moves i d).value) ≡ moves_of inputs (take (i + 1) moves)
moves_of-more inputs moves i d once h within =
    rw (take_more moves i d h)
    (set-tabled (assignment (take i moves)) (assignment (take i moves ++ get_or moves i d ∷ [])) inputs (get_or moves i d).input (Some (get_or moves i d).value) within
    (assignment-here (take i moves) (get_or moves i d)
    (assignment-none (take i moves) (get_or moves i d).input (λ k e l. apart_before moves i d once h k e l)))
    (assignment-other (take i moves) (get_or moves i d)))

build : List Bit → List (Option Bit) → List Bool → List Bool → List (Option Bit) → List Bool → List (List Bit) → List (List Bit) → State
build val moves init wake pend todo later now = record { val = val; moves = moves; init = init; wake = wake; pend = pend; todo = todo; later = later; now = now }

built : (s : State) → build s.val s.moves s.init s.wake s.pend s.todo s.later s.now ≡ s
unfolding build
built s = refl

pub same_state : (s t : State) → s.val ≡ t.val → s.moves ≡ t.moves → s.init ≡ t.init → s.wake ≡ t.wake → s.pend ≡ t.pend → s.todo ≡ t.todo → s.later ≡ t.later → s.now ≡ t.now → s ≡ t
same_state s t val moves init wake pend todo later now =
    let e : build s.val s.moves s.init s.wake s.pend s.todo s.later s.now ≡ build t.val t.moves t.init t.wake t.pend t.todo t.later t.now = cc in
    sym (built s) ∙ e ∙ built t

-- all parts but the values and the moves are the same
pub record SameRest (s t : State) : Type 0 where
  pub init : s.init ≡ t.init
  pub wake : s.wake ≡ t.wake
  pub pend : s.pend ≡ t.pend
  pub todo : s.todo ≡ t.todo
  pub later : s.later ≡ t.later
  pub now : s.now ≡ t.now

-- only the moves have changed, and all assignments were written
pub opened_all : (d : Netlist) (moves : List Move) (s before now : State) (i : ℕ) → before ≡ s → length moves ≤ i → now.moves ≡ moves_of d.inputs (take i moves) → now.val ≡ before.val → SameRest now before → now ≡ opened d moves s
opened_all d moves s before now i same all is val rest =
    rw (← same) (same_state now (opened d moves before) val (is ∙ ap (moves_of d.inputs) (take_all i moves all)) rest.init rest.wake rest.pend rest.todo rest.later rest.now)

pub opened_none : (d : Netlist) (s before : State) → before ≡ s → IsShaped d s → IsResting s → before.moves ≡ moves_of d.inputs []
opened_none d s before same shaped rests = moves_of-none d.inputs before.moves (rw same shaped.moves) (rw same rests.moves)

pub assigned_within : (d : Netlist) (moves : List Move) → All (λ m. m < length d.inputs) (assigned moves) → (i : ℕ) (x : Move) → i < length moves → (get_or moves i x).input < length d.inputs
assigned_within d moves within i x h = rw (← get_or-map (λ (move : Move). move.input) moves i x 0 h) (within i 0 (rw length-map h))

pub opened_more : (d : Netlist) (moves : List Move) (now after : List (Option Bit)) (i : ℕ) (x : Move) → AllPairs (λ m n. m ≢ n) (assigned moves) → All (λ m. m < length d.inputs) (assigned moves) → i < length moves →
    now ≡ moves_of d.inputs (take i moves) → after ≡ set now (get_or moves i x).input (Some (get_or moves i x).value) → after ≡ moves_of d.inputs (take (i + 1) moves)
opened_more d moves now after i x once within h is sets = sets ∙ rw is (moves_of-more d.inputs moves i x once h (assigned_within d moves within i x h))

pub length-moves_of : (inputs : List Input) (moves : List Move) → length (moves_of inputs moves) ≡ length inputs
length-moves_of inputs moves = length-tabled (assignment moves) inputs
