-- What a queue stands for, and what it keeps.
use Rattle.std.specs.Prelude.{◌≡◌, ℕ, false, true, List, [], ◌∷◌, Option, Some, None, is_some, IsTrue, slice_get, slice_index}
use Rattle.vod_thin_design.specs.declared.thin.Bit.{Bit}
use Rattle.vod_thin_design.specs.declared.thin.Block.{Block}
use Rattle.vod_thin_design.specs.Netlist.{Netlist, IsAccepted, input_signals}
use Rattle.vod_thin_queue.specs.declared.fanout.Listeners.{Listeners}
use Rattle.vod_thin_queue.specs.State.{State, option_at, flag_at, list_at, IsShaped}
use Rattle.vod_thin_queue.specs.Index.{AreListeners}

-- a design, and the state of its event queue
pub record Core : Type 0 where
  pub design : Netlist
  pub state : State

-- a block has no update
pub record HasNoUpdate (st : State) (k : ℕ) : Type 0 where
  pub later : list_at st.later k ≡ []
  pub now : list_at st.now k ≡ []

-- Each block has at most one update in a slot, since its clock moves at most once: where its clock still has a move, it
-- waits and has no update; where its statement is left, it has no update.
pub record IsOrderly (d : Netlist) (st : State) : Type 0 where
  pub waits : (k i : ℕ) (block : Block) → slice_get d.blocks k ≡ Some block → slice_index (input_signals d) i ≡ block.clock → IsTrue (is_some (option_at st.moves i)) → (flag_at st.todo k ≡ false) × HasNoUpdate st k
  pub runs : (k : ℕ) → flag_at st.todo k ≡ true → HasNoUpdate st k

-- an accepted design, a state of its shape, and the lists of its readers and waiting blocks
pub record IsQueueOf (d : Netlist) (st : State) (listeners : Listeners) : Type 0 where
  pub accepted : IsAccepted d
  pub shaped : IsShaped d st
  pub orderly : IsOrderly d st
  pub listed : AreListeners d listeners

-- an update where there is one, as a list
abbrev pub updates_of : Option Bit → List Bit
updates_of None = []
updates_of (Some bit) = bit ∷ []
