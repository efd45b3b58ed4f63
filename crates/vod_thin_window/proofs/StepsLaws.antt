-- Lists of events, one more at a time.
use Rattle.std.proofs.Common.{◌≡◌, ℕ, ◌<◌, length, All, List, [], ◌∷◌, ◌++◌, refl, sym, ap, subst, ◌∙◌, IsTrue}
use Rattle.vod_thin_design.specs.Netlist.{Netlist, IsAccepted}
use Rattle.vod_thin_design.specs.declared.thin.Move.{Move}
use Rattle.std.proofs.lemmas.List.Elements.{All-nil, All-cons, All-head, All-tail}
use Rattle.vod_thin_design.specs.declared.thin.Vector.{Vector}
use Rattle.vod_thin_design.specs.Vectors.{IsVector, IsLawful, is_unmixed, assigned}
use Rattle.vod_thin_queue.specs.State.{State, start_of, opened, IsShaped, IsResting}
use Rattle.vod_thin_queue.specs.declared.event.Event.{Event}
use Rattle.vod_thin_queue.specs.Step.{is_allowed, after}
use Rattle.vod_thin_queue.specs.Choice.{Takes}
use Rattle.vod_thin_queue.specs.Run.{Steps, Completes, IsSlot, IsSettled, HasTaken, is_unmixed_from}
use Rattle.vod_thin_window.specs.Progress.{IsReady, Awaits}

steps_more : (d : Netlist) (s t : State) (events : List Event) (event : Event) → Steps d s events t → IsTrue (is_allowed t event) → Steps d s (events ++ event ∷ []) (after d t event)
steps_more d s t [] event h a = let P = λ (v : State). IsTrue (is_allowed v event) in (subst P h a, ap (λ v. after d v event) h)
steps_more d s t (e ∷ es) event h a = (h.0, steps_more d (after d s e) t es event h.1 a)

-- some events lead from s to t
pub record Leads (d : Netlist) (s t : State) : Type 0 where
  pub events : List Event
  pub steps : Steps d s events t

pub leads_none : (d : Netlist) (s : State) → Leads d s s
leads_none d s = record { events = []; steps = refl }

pub leads_more : (d : Netlist) (s t u : State) (choice : ℕ) → Leads d s t → Takes d t choice u → Leads d s u
leads_more d s t u choice h k = record { events = h.events ++ k.event ∷ []; steps = subst (λ v. Steps d s (h.events ++ k.event ∷ []) v) (sym k.taken) (steps_more d s t h.events k.event h.steps k.allowed) }

pub leads_completes : (d : Netlist) (s t : State) → Leads d s t → IsResting t → Completes d s t
leads_completes d s t h rests = record { events = h.events; steps = h.steps; ends = rests }

-- a slot that was opened, in a queue of this design, and completed
pub slot_from : (d e : Netlist) (s u t : State) (moves given : List Move) → e ≡ d → given ≡ moves → u ≡ opened d given s → IsResting s → Completes e u t → IsSlot d s moves t
slot_from d e s u t moves given same_design same_moves opens rests completes =
    let at : u ≡ opened d moves s = opens ∙ ap (λ v. opened d v s) same_moves in
    record { opens = rests; completes = subst (λ v. Completes d v t) at (subst (λ v. Completes v u t) same_design completes) }

pub completes_from : (d e : Netlist) (u t : State) → e ≡ d → u ≡ start_of d → Completes e u t → Completes d (start_of d) t
completes_from d e u t same_design at completes = subst (λ v. Completes d v t) at (subst (λ v. Completes v u t) same_design completes)

-- the laws of the queue by which a run goes on: a slot whose changes are unmixed ends settled, its inputs have what was
-- assigned, and what is unmixed by what was assigned is so by what the inputs have
pub record Goes : Type 0 where
  pub settled : (d : Netlist) (s t : State) (moves : List Move) → IsAccepted d → IsShaped d s → IsSettled d s → IsTrue (is_unmixed_from d s moves) → IsSlot d s moves t → IsShaped d t × IsSettled d t
  pub next : (d : Netlist) (s t : State) (before : List Move) (vector : Vector) → IsAccepted d → IsShaped d s → HasTaken d before s → IsVector d vector → IsSlot d s vector.moves t → HasTaken d (before ++ vector.moves) t
  pub unmixed : (d : Netlist) (s : State) (before moves : List Move) → All (λ i. i < length d.inputs) (assigned moves) → HasTaken d before s → IsTrue (is_unmixed d before moves) → IsTrue (is_unmixed_from d s moves)

-- what the first of the vectors changes is unmixed
pub unmixed_first : Goes → (d : Netlist) (s : State) (v : Vector) (rest : List Vector) → Awaits d s (v ∷ rest) → IsTrue (is_unmixed_from d s v.moves)
unmixed_first goes d s v rest a = goes.unmixed d s a.given v.moves (All-head (IsVector d) v rest a.forms).inputs a.taken a.unmixed.0

-- behind the slot of the first, the others may come
pub goes_on : Goes → (d : Netlist) (s t : State) (v : Vector) (rest : List Vector) → Awaits d s (v ∷ rest) → IsSlot d s v.moves t → Awaits d t rest
goes_on goes d s t v rest a slot =
    let r = a.ready in
    let end = goes.settled d s t v.moves r.accepted r.shaped r.settled (unmixed_first goes d s v rest a) slot in
    record {
      ready = record { accepted = r.accepted; shaped = end.0; settled = end.1; rests = slot.completes.ends };
      given = a.given ++ v.moves;
      taken = goes.next d s t a.given v r.accepted r.shaped a.taken (All-head (IsVector d) v rest a.forms) slot;
      forms = All-tail (IsVector d) v rest a.forms;
      unmixed = a.unmixed.1;
    }

-- before the first vector
pub awaits_first : (d : Netlist) (s : State) (vs : List Vector) → IsReady d s → HasTaken d [] s → IsLawful d vs → Awaits d s vs
awaits_first d s vs ready taken lawful = record { ready = ready; given = []; taken = taken; forms = lawful.forms; unmixed = lawful.unmixed }

-- the first of them alone
pub awaits_one : (d : Netlist) (s : State) (v : Vector) (rest : List Vector) → Awaits d s (v ∷ rest) → Awaits d s (v ∷ [])
awaits_one d s v rest a = record {
  ready = a.ready;
  given = a.given;
  taken = a.taken;
  forms = All-cons (IsVector d) v [] (All-head (IsVector d) v rest a.forms) (All-nil (IsVector d));
  unmixed = (a.unmixed.0, tt);
}
