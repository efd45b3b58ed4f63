-- One step of the event queue (IEEE 1364-2005, 11.4): which events are allowed, and what each does.
use Rattle.std.specs.Prelude.{ℕ, ◌==◌, ◌||◌, ◌&&◌, Bool, true, false, not, List, [], ◌∷◌, ◌++◌, map, flat_map, filter, take, drop, Option, Some, None, is_some, unwrap_or, slice_set, slice_get, slice_index_or, if◌then◌else◌}
use Rattle.std.specs.List.{enumerate_from, list_any}
use Rattle.vod_bits.specs.Bit.{Bit, B0, B1, BX, BZ, is_0, is_1}
use Rattle.vod_four.specs.Four.{truth_bit}
use Rattle.vod_design.specs.declared.parts.Block.{Block}
use Rattle.vod_design.specs.declared.parts.Driver.{Driver}
use Rattle.vod_design.specs.declared.parts.Edge.{Edge}
use Rattle.vod_design.specs.declared.parts.InitialTarget.{InitialTarget}
use Rattle.vod_design.specs.declared.parts.InitialTarget.TheVariants as initial
use Rattle.vod_design.specs.declared.sized.SizedExpr.{SizedExpr}
use Rattle.vod_design.specs.declared.sized.Variable.TheVariants.{Signal, Local}
use Rattle.vod_design.specs.declared.statement.CaseItem.{CaseItem}
use Rattle.vod_design.specs.declared.statement.Part.{Part}
use Rattle.vod_design.specs.declared.statement.Place.{Place}
use Rattle.vod_design.specs.declared.statement.Statement.{Statement}
use Rattle.vod_design.specs.declared.statement.Statement.TheOpen.{Statement-F}
use Rattle.vod_design.specs.declared.statement.Statement.TheViews.{out-Statement}
use Rattle.vod_design.specs.declared.statement.Target.{Target}
use Rattle.vod_design.specs.declared.statement.Target.TheVariants.{Bits, Word}
use Rattle.vod_design.specs.Netlist.{Netlist}
use Rattle.vod_design.specs.Run.{Choice, case_branch, operand_outside, part_target}
use Rattle.vod_design.specs.Values.{Operand, bounded, select_bits}
use Rattle.vod_slot.specs.Store.{Store, Write, ToBit, ToWord, written, changes, feeds_driver, same_bits, bit_at, bits_written, places_written, values_in, brought, bits_at, list_at}
use Rattle.vod_slot.specs.State.{Piece, Update, State, option_at, flag_at, input_signals}
pub use Rattle.vod_slot.specs.declared.event.Event.{Event}
use Rattle.vod_slot.specs.declared.event.Event.TheVariants.{TakeMove, Evaluate, Update as UpdateDriver, Run, Initialize, Activate, Perform}

-- whether a list has an element
abbrev pub is_filled : {A : Type 0} → List A → Bool
is_filled [] = false
is_filled (x ∷ xs) = true

-- whether an active event is left: anything but nonblocking assign updates (11.3)
abbrev pub has_active : State → Bool
has_active st = list_any is_some st.moves || list_any (λ flag. flag) st.wake || list_any is_some st.pend || list_any is_filled st.todo || list_any is_filled st.init || list_any is_filled st.now

-- whether the event may happen now; nonblocking assign updates are activated where nothing else is left (11.4)
abbrev pub is_allowed : State → Event → Bool
is_allowed st (TakeMove i) = is_some (option_at st.moves i)
is_allowed st (Evaluate j) = flag_at st.wake j
is_allowed st (UpdateDriver j) = is_some (option_at st.pend j)
is_allowed st (Run k) = is_filled (list_at st.todo k)
is_allowed st (Initialize m) = is_filled (list_at st.init m)
is_allowed st Activate = not (has_active st) && list_any is_filled st.later
is_allowed st (Perform k) = is_filled (list_at st.now k)

-- a change that is a posedge: from 0 to 1, x or z, or from x or z to 1; and one that is a negedge: from 1 to 0, x or z, or from x or
-- z to 0 (9.7.2)
abbrev pub is_rising : Bit → Bit → Bool
is_rising B0 new = not (is_0 new)
is_rising B1 new = false
is_rising BX new = is_1 new
is_rising BZ new = is_1 new

abbrev pub is_falling : Bit → Bit → Bool
is_falling B0 new = false
is_falling B1 new = not (is_1 new)
is_falling BX new = is_0 new
is_falling BZ new = is_0 new

-- whether a write of a lowest bit is an edge that is waited for
abbrev pub is_edge : Store → Write → Edge → Bool
is_edge store (ToBit signal place bit) e =
    (e.signal == signal) && ((place == 0) && (if e.rising then is_rising (bit_at store signal place) bit else is_falling (bit_at store signal place) bit))
is_edge store (ToWord memory place word) e = false

abbrev pub is_reset_edge : Store → Write → Option Edge → Bool
is_reset_edge store w None = false
is_reset_edge store w (Some e) = is_edge store w e

abbrev pub starts : Store → Write → Block → Bool
starts store w b = is_edge store w b.clock || is_reset_edge store w b.reset

-- the flags, with those of the items that pass a test set
abbrev pub raised : {A : Type 0} → (A → Bool) → List A → List Bool → List Bool
raised test [] flags = flags
raised test (x ∷ xs) [] = []
raised test (x ∷ xs) (flag ∷ flags) = (flag || test x) ∷ raised test xs flags

-- so it is where something happened, and else the flags are as they were
abbrev pub raised_if : {A : Type 0} → Bool → (A → Bool) → List A → List Bool → List Bool
raised_if true test xs flags = raised test xs flags
raised_if false test xs flags = flags

-- what is left of a block that waits, where an edge came or none did; one with statements left isn't waiting, and misses the edge
abbrev pub body_if : Bool → Block → List Statement
body_if true b = b.body ∷ []
body_if false b = []

abbrev pub begun : Bool → Block → List Statement → List Statement
begun edge b [] = body_if edge b
begun edge b (s ∷ statements) = s ∷ statements

abbrev pub triggered : (Block → Bool) → List Block → List (List Statement) → List (List Statement)
triggered edge [] todo = todo
triggered edge (b ∷ blocks) [] = []
triggered edge (b ∷ blocks) (statements ∷ todo) = begun (edge b) b statements ∷ triggered edge blocks todo

-- One write is made. Where it changes something, the drivers that can read it await evaluation; where it is an edge, each block that
-- waits for it has its body to run.
abbrev pub put : Netlist → Write → State → State
put d w st = record st {
  store = written st.store w;
  wake = raised_if (changes st.store w) (feeds_driver w) d.drivers st.wake;
  todo = triggered (starts st.store w) d.blocks st.todo;
}

-- several are made one after the other, each compared with what stood just before
abbrev pub put_all : Netlist → List Write → State → State
put_all d [] st = st
put_all d (w ∷ writes) st = put_all d writes (put d w st)

-- the pending value that an evaluation leaves: none where the target has it already
abbrev pub pending : List Bit → List Bit → Option (List Bit)
pending new old = if same_bits old new then None else Some new

-- driver j is evaluated: it no longer awaits that, and its pending value is what it brings
abbrev pub evaluated : Netlist → ℕ → Option Driver → State → State
evaluated d j None st = st
evaluated d j (Some a) st = record st { wake = slice_set st.wake j false; pend = slice_set st.pend j (pending (brought d st.store a) (bits_at st.store a.target)) }

-- the target of a driver
abbrev pub target_of : Option Driver → List Place
target_of None = []
target_of (Some a) = a.target

-- an expression's value in a block
abbrev pub operand : Netlist → Store → SizedExpr → Operand
operand d store e = operand_outside BX d.functions (values_in store) e

-- an item of a `case` and what is done with it
abbrev pub choice : CaseItem → Choice Statement
choice item = record { labels = item.labels; body = item.body }

-- what is to be run next, where a statement ran (9.4, 9.5, 9.8.1)
abbrev pub next_after : (SizedExpr → Operand) → Statement-F Statement CaseItem → List Statement
next_after value (Statement-F.Assign parts right) = []
next_after value (Statement-F.If test taken other) = (if is_1 (truth_bit (value test).bits) then taken else other) ∷ []
next_after value (Statement-F.Case tested items otherwise) = case_branch value tested (map choice items) otherwise ∷ []
next_after value (Statement-F.Begin statements) = statements
next_after value Statement-F.Empty = []

-- the update that an assignment leaves: its indices and its right side are evaluated now (9.2.2)
abbrev pub piece : (SizedExpr → Operand) → SizedExpr → Part → Piece
piece value right p = record { target = part_target BX value p; value = select_bits BX p.low (bounded p.width) (value right).bits }

abbrev pub updates_of : (SizedExpr → Operand) → Statement-F Statement CaseItem → List Update
updates_of value (Statement-F.Assign parts right) = map (piece value right) parts ∷ []
updates_of value (Statement-F.If test taken other) = []
updates_of value (Statement-F.Case tested items otherwise) = []
updates_of value (Statement-F.Begin statements) = []
updates_of value Statement-F.Empty = []

-- block k runs the first of its statements
abbrev pub ran : Netlist → ℕ → List Statement → State → State
ran d k [] st = st
ran d k (s ∷ statements) st = record st {
  todo = slice_set st.todo k (next_after (operand d st.store) (out-Statement s) ++ statements);
  later = slice_set st.later k (list_at st.later k ++ updates_of (operand d st.store) (out-Statement s));
}

-- what an update writes, its parts from the left; a part at an index with x or z writes nothing
abbrev pub target_written : Option Target → List Bit → List Write
target_written None value = []
target_written (Some (Bits (Signal n) low)) value = bits_written n low value
target_written (Some (Bits (Local n) low)) value = []
target_written (Some (Word memory place)) value = ToWord memory place value ∷ []

abbrev pub update_written : Update → List Write
update_written u = flat_map (λ p. target_written p.target p.value) u

-- what an initial assignment writes
abbrev pub initial_written : InitialTarget → List Bit → List Write
initial_written (initial.Register n) value = bits_written n 0 value
initial_written (initial.Word memory place) value = ToWord memory place value ∷ []

-- what an event does
abbrev pub after : Netlist → State → Event → State
after d st (TakeMove i) = put_all d (bits_written (slice_index_or (input_signals d.inputs) i 0) 0 (unwrap_or (option_at st.moves i) [])) (record st { moves = slice_set st.moves i None })
after d st (Evaluate j) = evaluated d j (slice_get d.drivers j) st
after d st (UpdateDriver j) = put_all d (places_written (target_of (slice_get d.drivers j)) (unwrap_or (option_at st.pend j) [])) (record st { pend = slice_set st.pend j None })
after d st (Run k) = ran d k (list_at st.todo k) st
after d st (Initialize m) = put_all d (flat_map (λ a. initial_written a.target a.value) (take 1 (list_at st.init m))) (record st { init = slice_set st.init m (drop 1 (list_at st.init m)) })
after d st Activate = record st { later = map (λ updates. []) st.later; now = st.later }
after d st (Perform k) = put_all d (flat_map update_written (take 1 (list_at st.now k))) (record st { now = slice_set st.now k (drop 1 (list_at st.now k)) })

-- the places of a list that pass a test, in order
abbrev pub places : {A : Type 0} → (A → Bool) → List A → List ℕ
places test xs = map (λ e. e.0) (filter (λ e. test e.1) (enumerate_from 0 xs))

-- the events that are allowed, by kind, and then by input, driver in the order of their ranks, block or initial item
abbrev pub choices_of : List ℕ → State → List Event
choices_of ranked st =
    map TakeMove (places is_some st.moves) ++ (map Evaluate (filter (flag_at st.wake) ranked) ++ (map UpdateDriver (filter (λ j. is_some (option_at st.pend j)) ranked) ++ (map Run (places is_filled st.todo)
    ++ (map Initialize (places is_filled st.init) ++ ((if is_allowed st Activate then Activate ∷ [] else []) ++ map Perform (places is_filled st.now))))))
