-- A run as far as the program has taken it.
use Rattle.std.specs.Prelude.{◌≡◌, ℕ, ◌<◌, List, ◌∷◌, ◌++◌, Option, All}
use Rattle.vod_io.specs.Told.{appended}
use Rattle.vod_thin_design.specs.declared.thin.Move.{Move}
use Rattle.vod_thin_design.specs.declared.thin.Vector.{Vector}
use Rattle.vod_thin_design.specs.Netlist.{Netlist, IsAccepted}
use Rattle.vod_thin_design.specs.Vectors.{IsVector, AreUnmixed}
use Rattle.vod_thin_queue.specs.State.{State, IsShaped, IsResting}
use Rattle.vod_thin_queue.specs.Run.{IsSettled, AreSlots, HasTaken}
use Rattle.vod_thin_vcd.specs.Text.{opening_text}
use Rattle.vod_thin_vcd.specs.Stream.{window_text, rest_text}
use Rattle.vod_thin_window.specs.Moments.{moments}

-- the end of a slot of an accepted design
pub record IsReady (d : Netlist) (s : State) : Type 0 where
  pub accepted : IsAccepted d
  pub shaped : IsShaped d s
  pub settled : IsSettled d s
  pub rests : IsResting s

-- the end of a slot, behind which these vectors may come: its inputs have what some earlier assignments gave them, and what
-- each vector changes then is all of clocks or all of data
pub record Awaits (d : Netlist) (s : State) (vectors : List Vector) : Type 0 where
  pub ready : IsReady d s
  pub given : List Move
  pub taken : HasTaken d given s
  pub forms : All (IsVector d) vectors
  pub unmixed : AreUnmixed d given vectors

-- whatever ends the slots of the vectors have, those of the rest go on from t, and the window from the given time opens at t
pub record Skips (d : Netlist) (s : State) (vectors : List Vector) (from : ℕ) (t : State) (rest : List Vector) : Type 0 where
  pub skips : (ends : List State) → AreSlots d s vectors ends →
      (more : List State) × AreSlots d t rest more
      × ((to : ℕ) → window_text s.val (moments vectors ends) from to ≡ opening_text from t.val ++ rest_text t.val from (moments rest more) to)

-- the same before the window opens: it goes on from t with the rest
pub record Passes (d : Netlist) (s : State) (vectors : List Vector) (from : ℕ) (t : State) (rest : List Vector) : Type 0 where
  pub passes : (ends : List State) → AreSlots d s vectors ends →
      (more : List State) × AreSlots d t rest more
      × ((to : ℕ) → window_text s.val (moments vectors ends) from to ≡ window_text t.val (moments rest more) from to)

-- no vector is left up to a time
abbrev pub IsOver : List Vector → ℕ → Type 0
IsOver vectors to = (v : Vector) (rest : List Vector) → vectors ≡ v ∷ rest → to < v.time

-- whatever ends the slots of the vectors have, those of the rest go on from t, and of the text behind the opening
-- a part was taken, and what is left is that of the rest
pub record Follows (d : Netlist) (s : State) (printed : ℕ) (vectors : List Vector) (to : ℕ) (before : Option (List ℕ)) (t : State) (last : ℕ) (rest : List Vector) (now : Option (List ℕ)) : Type 0 where
  pub follows : (ends : List State) → AreSlots d s vectors ends →
      (more : List State) × (done : List ℕ) × AreSlots d t rest more
      × (now ≡ appended before done)
      × (rest_text s.val printed (moments vectors ends) to ≡ done ++ rest_text t.val last (moments rest more) to)
