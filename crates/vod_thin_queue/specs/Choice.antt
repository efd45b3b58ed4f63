-- An event picked by its number among those that are allowed.
use Rattle.std.specs.Prelude.{◌≡◌, ℕ, IsTrue, Some, slice_get}
use Rattle.vod_thin_design.specs.Netlist.{Netlist}
use Rattle.vod_thin_queue.specs.State.{State}
use Rattle.vod_thin_queue.specs.Step.{Event, is_allowed, after, choices_of}

-- the event at a place of the choices is allowed, and leads from s to t
pub record Takes (d : Netlist) (s : State) (choice : ℕ) (t : State) : Type 0 where
  pub event : Event
  pub chosen : slice_get (choices_of s) choice ≡ Some event
  pub allowed : IsTrue (is_allowed s event)
  pub taken : t ≡ after d s event
