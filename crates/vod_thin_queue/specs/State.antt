-- The state of the event queue (IEEE 1364-2005, 11.3): what each signal has, and what is left to do.
use Rattle.std.specs.Prelude.{◌≡◌, ℕ, ◌==◌, Bool, true, false, List, [], ◌∷◌, length, map, replicate, All, Option, Some, None, slice_index_or, if◌then◌else◌}
use Rattle.std.specs.List.{enumerate_from}
use Rattle.vod_thin_design.specs.declared.thin.Bit.{Bit}
use Rattle.vod_thin_design.specs.declared.thin.Bit.TheVariants.{X, Z}
use Rattle.vod_thin_design.specs.declared.thin.Move.{Move}
use Rattle.vod_thin_design.specs.Netlist.{Netlist, has, input_signals}

-- A value per signal; per input the assignment not yet taken; per initial value whether it is left; per driver whether it
-- awaits evaluation, and its pending value; per block whether its statement is left (where not, it waits for an edge), its
-- nonblocking updates in order, and its activated updates in order.
pub record State : Type 0 where
  pub val : List Bit
  pub moves : List (Option Bit)
  pub init : List Bool
  pub wake : List Bool
  pub pend : List (Option Bit)
  pub todo : List Bool
  pub later : List (List Bit)
  pub now : List (List Bit)

-- what a list of optional values has at a place, none past its end
abbrev pub option_at : List (Option Bit) → ℕ → Option Bit
option_at options place = slice_index_or options place None

-- what a list of flags has at a place, false past its end
abbrev pub flag_at : List Bool → ℕ → Bool
flag_at flags place = slice_index_or flags place false

-- what a list of lists has at a place, nothing past its end
abbrev pub list_at : {A : Type 0} → List (List A) → ℕ → List A
list_at lists place = slice_index_or lists place []

-- before any step: inputs are z and all else is x, each initial value is left, every driver awaits evaluation, and each
-- block waits
abbrev pub start_of : Netlist → State
start_of d = record {
  val = map (λ e. if has (input_signals d) e.0 then Z else X) (enumerate_from 0 d.signals);
  moves = replicate (length d.inputs) None;
  init = replicate (length d.initials) true;
  wake = replicate (length d.drivers) true;
  pend = replicate (length d.drivers) None;
  todo = replicate (length d.blocks) false;
  later = replicate (length d.blocks) [];
  now = replicate (length d.blocks) [];
}

-- the value that some assignments give an input, or none
abbrev pub assignment : List Move → ℕ → Option Bit
assignment [] i = None
assignment (move ∷ moves) i = if move.input == i then Some move.value else assignment moves i

-- a slot opens: the assignments become moves
abbrev pub opened : Netlist → List Move → State → State
opened d moves st = record st { moves = map (λ e. assignment moves e.0) (enumerate_from 0 d.inputs) }

-- nothing is left
pub record IsResting (st : State) : Type 0 where
  pub moves : All (λ move. move ≡ None) st.moves
  pub init : All (λ flag. flag ≡ false) st.init
  pub wake : All (λ flag. flag ≡ false) st.wake
  pub pend : All (λ value. value ≡ None) st.pend
  pub todo : All (λ flag. flag ≡ false) st.todo
  pub later : All (λ updates. updates ≡ []) st.later
  pub now : All (λ updates. updates ≡ []) st.now

-- a place for each signal, input, initial value, driver and block
pub record IsShaped (d : Netlist) (st : State) : Type 0 where
  pub val : length st.val ≡ length d.signals
  pub moves : length st.moves ≡ length d.inputs
  pub init : length st.init ≡ length d.initials
  pub wake : length st.wake ≡ length d.drivers
  pub pend : length st.pend ≡ length d.drivers
  pub todo : length st.todo ≡ length d.blocks
  pub later : length st.later ≡ length d.blocks
  pub now : length st.now ≡ length d.blocks
