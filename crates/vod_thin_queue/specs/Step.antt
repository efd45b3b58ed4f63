-- One step of the event queue (IEEE 1364-2005, 11.4): which events are allowed, and what each does.
use Rattle.std.specs.Prelude.{ℕ, ◌==◌, ◌||◌, ◌&&◌, Bool, true, false, not, List, [], ◌∷◌, ◌++◌, map, filter, drop, Option, Some, None, is_some, unwrap_or, slice_set, slice_get, slice_index, slice_index_or, if◌then◌else◌}
use Rattle.std.specs.List.{enumerate_from, list_any}
use Rattle.vod_thin_design.specs.declared.thin.Bit.{Bit}
use Rattle.vod_thin_design.specs.declared.thin.Bit.TheVariants.{Zero, One, X, Z}
use Rattle.vod_thin_design.specs.declared.thin.Driver.{Driver}
use Rattle.vod_thin_design.specs.declared.thin.Block.{Block}
use Rattle.vod_thin_design.specs.declared.thin.Initial.{Initial}
use Rattle.vod_thin_design.specs.Bits.{value_at, same_bit}
use Rattle.vod_thin_design.specs.Expr.{value_of, reads}
use Rattle.vod_thin_design.specs.Netlist.{Netlist, has, targets, input_signals, assigned_registers, initial_registers}
pub use Rattle.vod_thin_queue.specs.declared.event.Event.{Event}
use Rattle.vod_thin_queue.specs.declared.event.Event.TheVariants.{TakeMove, Evaluate, Update, Run, Initialize, Activate, Perform}
use Rattle.vod_thin_queue.specs.State.{State, option_at, flag_at, list_at}

-- whether a list has an element
abbrev pub is_filled : {A : Type 0} → List A → Bool
is_filled [] = false
is_filled (x ∷ xs) = true

-- whether anything is left but updates in later
abbrev pub has_active : State → Bool
has_active st = list_any is_some st.moves || list_any (λ flag. flag) st.wake || list_any is_some st.pend || list_any (λ flag. flag) st.todo || list_any (λ flag. flag) st.init || list_any is_filled st.now

-- whether the event may happen now; later is activated where only it has anything
abbrev pub is_allowed : State → Event → Bool
is_allowed st (TakeMove i) = is_some (option_at st.moves i)
is_allowed st (Evaluate j) = flag_at st.wake j
is_allowed st (Update j) = is_some (option_at st.pend j)
is_allowed st (Run k) = flag_at st.todo k
is_allowed st (Initialize m) = flag_at st.init m
is_allowed st Activate = not (has_active st) && list_any is_filled st.later
is_allowed st (Perform k) = is_filled (list_at st.now k)

-- a change that is a posedge (9.7.2): from 0 to 1, x or z, or from x or z to 1
abbrev pub is_rising : Bit → Bit → Bool
is_rising Zero new = not (same_bit new Zero)
is_rising One new = false
is_rising X new = same_bit new One
is_rising Z new = same_bit new One

-- whether a driver's right side reads a signal, and whether a block waits for edges of one
abbrev pub reads_signal : ℕ → Driver → Bool
reads_signal s driver = has (reads driver.value) s

abbrev pub waits_for : ℕ → Block → Bool
waits_for s block = block.clock == s

-- the flags, with those of the items that pass a test set
abbrev pub raised : {A : Type 0} → (A → Bool) → List A → List Bool → List Bool
raised test [] flags = flags
raised test (x ∷ xs) [] = []
raised test (x ∷ xs) (flag ∷ flags) = (flag || test x) ∷ raised test xs flags

-- so it is where something happened, and else the flags are as they were
abbrev pub raised_if : {A : Type 0} → Bool → (A → Bool) → List A → List Bool → List Bool
raised_if true test xs flags = raised test xs flags
raised_if false test xs flags = flags

-- A signal takes a value. Where that changes it, its readers await evaluation; where the change is a posedge, each block
-- that waits for it has its statement to run. A block whose statement is left isn't waiting, and misses the edge.
abbrev pub put : Netlist → ℕ → Bit → State → State
put d s b st = record st {
  val = slice_set st.val s b;
  wake = raised_if (not (same_bit (value_at st.val s) b)) (reads_signal s) d.drivers st.wake;
  todo = raised_if (is_rising (value_at st.val s) b) (waits_for s) d.blocks st.todo;
}

-- the pending value that an evaluation leaves: none where the target has it already
abbrev pub pending : Bit → Bit → Option Bit
pending new old = if same_bit new old then None else Some new

-- driver j is evaluated: it no longer awaits that, and its pending value is that of its right side
abbrev pub evaluated : ℕ → Option Driver → State → State
evaluated j None st = st
evaluated j (Some driver) st = record st {
  wake = slice_set st.wake j false;
  pend = slice_set st.pend j (pending (value_of driver.value (value_at st.val)) (value_at st.val driver.target));
}

-- block k runs its nonblocking assignment: the value waits as its last update, and the block waits for an edge again
abbrev pub ran : ℕ → Option Block → State → State
ran k None st = st
ran k (Some block) st = record st {
  todo = slice_set st.todo k false;
  later = slice_set st.later k (list_at st.later k ++ value_of block.value (value_at st.val) ∷ []);
}

-- the values of some initial values
abbrev pub initial_values : List Initial → List Bit
initial_values initials = map (λ initial. initial.value) initials

-- what an event does
abbrev pub after : Netlist → State → Event → State
after d st (TakeMove i) = put d (slice_index (input_signals d) i) (unwrap_or (option_at st.moves i) X) (record st { moves = slice_set st.moves i None })
after d st (Evaluate j) = evaluated j (slice_get d.drivers j) st
after d st (Update j) = put d (slice_index (targets d.drivers) j) (unwrap_or (option_at st.pend j) X) (record st { pend = slice_set st.pend j None })
after d st (Run k) = ran k (slice_get d.blocks k) st
after d st (Initialize m) = put d (slice_index (initial_registers d.initials) m) (slice_index_or (initial_values d.initials) m X) (record st { init = slice_set st.init m false })
after d st Activate = record st { later = map (λ updates. []) st.later; now = st.later }
after d st (Perform k) = put d (slice_index (assigned_registers d.blocks) k) (slice_index_or (list_at st.now k) 0 X) (record st { now = slice_set st.now k (drop 1 (list_at st.now k)) })

-- the places of a list that pass a test, in order
abbrev pub places : {A : Type 0} → (A → Bool) → List A → List ℕ
places test xs = map (λ e. e.0) (filter (λ e. test e.1) (enumerate_from 0 xs))

-- the events that are allowed, by kind, and then by input, driver, block or initial number
abbrev pub choices_of : State → List Event
choices_of st =
    map TakeMove (places is_some st.moves) ++ (map Evaluate (places (λ flag. flag) st.wake) ++ (map Update (places is_some st.pend) ++ (map Run (places (λ flag. flag) st.todo)
    ++ (map Initialize (places (λ flag. flag) st.init) ++ ((if is_allowed st Activate then Activate ∷ [] else []) ++ map Perform (places is_filled st.now))))))
