-- The state of the event queue (IEEE 1364-2005, 11.3): what is stored, and what is left to do.
use Rattle.std.specs.Prelude.{◌≡◌, ℕ, ◌==◌, Bool, true, false, List, [], length, map, replicate, All, Option, None, slice_index_or, if◌then◌else◌}
use Rattle.std.specs.List.{enumerate_from, list_any}
use Rattle.vod_bits.specs.Bit.{Bit, BX, BZ}
use Rattle.vod_design.specs.declared.parts.InitialAssign.{InitialAssign}
use Rattle.vod_design.specs.declared.parts.Input.{Input}
use Rattle.vod_design.specs.declared.parts.Ram.{Ram}
use Rattle.vod_design.specs.declared.parts.Signal.{Signal}
use Rattle.vod_design.specs.declared.statement.Statement.{Statement}
use Rattle.vod_design.specs.declared.statement.Target.{Target}
use Rattle.vod_design.specs.declared.vector.Move.{Move}
use Rattle.vod_design.specs.Lawful.{assigned}
use Rattle.vod_design.specs.Netlist.{Netlist}
use Rattle.vod_slot.specs.Store.{Store}

-- A part of a nonblocking assignment whose indices were evaluated when it ran: what it writes, nothing where its index had a bit of x
-- or z or was below the least one; and the bits that it takes (5.2.1, 9.2.2).
pub record Piece : Type 0 where
  pub target : Option Target
  pub value : List Bit

-- a nonblocking assign update: the parts of one assignment, from the left
abbrev pub Update : Type 0
Update = List Piece

-- What is stored; per input the assignment not yet taken; per initial item the assignments left; per driver whether it awaits
-- evaluation, and its pending value; per block the statements left (where there are none, it waits for an edge), its nonblocking
-- updates in order, and its activated updates in order.
pub record State : Type 0 where
  pub store : Store
  pub moves : List (Option (List Bit))
  pub init : List (List InitialAssign)
  pub wake : List Bool
  pub pend : List (Option (List Bit))
  pub todo : List (List Statement)
  pub later : List (List Update)
  pub now : List (List Update)

-- what a list of optional values has at a place, none past its end
abbrev pub option_at : {A : Type 0} → List (Option A) → ℕ → Option A
option_at options place = slice_index_or options place None

-- what a list of flags has at a place, false past its end
abbrev pub flag_at : List Bool → ℕ → Bool
flag_at flags place = slice_index_or flags place false

-- the signals of the inputs, and whether a signal is one of them
abbrev pub input_signals : List Input → List ℕ
input_signals inputs = map (λ i. i.signal) inputs

abbrev pub is_input : List Input → ℕ → Bool
is_input inputs n = list_any (λ m. m == n) (input_signals inputs)

-- a signal before any step: each bit z for an input, else x (4.2)
abbrev pub first_value : List Input → ℕ → Signal → List Bit
first_value inputs n s = replicate s.width (if is_input inputs n then BZ else BX)

abbrev pub first_words : Ram → List (List Bit)
first_words m = replicate m.words (replicate m.width BX)

-- before any step: every initial assignment is left, every driver awaits evaluation, and each block waits
abbrev pub start_of : Netlist → State
start_of d = record {
  store = record { signals = map (λ e. first_value d.inputs e.0 e.1) (enumerate_from 0 d.signals); memories = map first_words d.memories };
  moves = replicate (length d.inputs) None;
  init = map (λ i. i.assigns) d.initials;
  wake = replicate (length d.drivers) true;
  pend = replicate (length d.drivers) None;
  todo = replicate (length d.blocks) [];
  later = replicate (length d.blocks) [];
  now = replicate (length d.blocks) [];
}

-- a slot opens: the assignments become moves
abbrev pub opened : Netlist → List Move → State → State
opened d moves st = record st { moves = map (λ e. assigned moves e.0) (enumerate_from 0 d.inputs) }

-- nothing is left
pub record IsResting (st : State) : Type 0 where
  pub moves : All (λ move. move ≡ None) st.moves
  pub init : All (λ assigns. assigns ≡ []) st.init
  pub wake : All (λ flag. flag ≡ false) st.wake
  pub pend : All (λ value. value ≡ None) st.pend
  pub todo : All (λ statements. statements ≡ []) st.todo
  pub later : All (λ updates. updates ≡ []) st.later
  pub now : All (λ updates. updates ≡ []) st.now
