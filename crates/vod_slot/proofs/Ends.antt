-- Every order of events ends, and can be completed.
use Rattle.std.proofs.Common.{◌≡◌, ◌⊎◌, inl, inr, ℕ, zero, suc, ◌+◌, ◌<◌, ◌≤◌, ◌||◌, Bool, true, false, List, [], ◌∷◌, length, arith, refl, ap, sym, subst, ⊎_elim, All, Option, Some, None, is_some, IsTrue}
use Rattle.std.specs.List.{list_any}
use Rattle.std.proofs.lemmas.List.Folds.{list_any_none}
use Rattle.std.proofs.lemmas.List.Elements.{All-cons, All-weaker}
use Rattle.vod_design.specs.declared.vector.Move.{Move}
use Rattle.vod_design.specs.declared.vector.Vector.{Vector}
use Rattle.vod_design.specs.Accepted.{IsAccepted}
use Rattle.vod_design.specs.Netlist.{Netlist}
use Rattle.vod_slot.specs.declared.event.Event.TheVariants.{TakeMove, Evaluate, Update as UpdateDriver, Run, Initialize, Activate, Perform}
use Rattle.vod_slot.specs.Store.{list_at}
use Rattle.vod_slot.specs.State.{State, option_at, flag_at, start_of, opened, IsResting}
use Rattle.vod_slot.specs.Step.{Event, is_allowed, is_filled, has_active, after}
use Rattle.vod_slot.specs.Run.{Steps, Completes, AreSlots, IsRun}
use Rattle.vod_slot.specs.Settled.{IsConsistent, IsSettled}
use Rattle.vod_slot.specs.Weight.{weight_of}
use Rattle.vod_slot.proofs.Lists.{all_none}
use Rattle.vod_slot.proofs.Writes.{HangsOnReads}
use Rattle.vod_slot.proofs.Shaped.{IsShaped-start_of, IsShaped-opened, IsShaped-after, WritesRegisters-start_of, WritesRegisters-opened, WritesRegisters-after}
use Rattle.vod_slot.proofs.Followed.{AreFollowed-start_of, AreFollowed-opened, AreFollowed-after, settled_at_rest}
use Rattle.vod_slot.proofs.Falls.{weight_of-after}

-- what each state keeps

pub IsConsistent-start_of : (d : Netlist) (ranked : List ℕ) → IsAccepted d ranked → IsConsistent d (start_of d)
IsConsistent-start_of d ranked accepted = record { shaped = IsShaped-start_of d; registers = WritesRegisters-start_of d ranked accepted; followed = AreFollowed-start_of d }

pub IsConsistent-opened : (d : Netlist) (s : State) (moves : List Move) → IsConsistent d s → IsConsistent d (opened d moves s)
IsConsistent-opened d s moves h = record { shaped = IsShaped-opened d moves s h.shaped; registers = WritesRegisters-opened d moves s h.registers; followed = AreFollowed-opened d moves s h.followed }

pub IsConsistent-after : HangsOnReads → (d : Netlist) (ranked : List ℕ) (s : State) (event : Event) → IsAccepted d ranked → IsConsistent d s → IsTrue (is_allowed s event) → IsConsistent d (after d s event)
IsConsistent-after hangs d ranked s event accepted h allowed = record {
  shaped = IsShaped-after d s event h.shaped;
  registers = WritesRegisters-after d ranked s event accepted h.registers;
  followed = AreFollowed-after hangs d ranked s event accepted h.shaped h.registers allowed h.followed;
}

pub IsSettled-at_rest : (d : Netlist) (s : State) → IsConsistent d s → IsResting s → IsSettled d s.store
IsSettled-at_rest d s h rests = settled_at_rest d s h.followed rests

pub weight-falls : (d : Netlist) (ranked : List ℕ) (s : State) (event : Event) → IsAccepted d ranked → IsConsistent d s → IsTrue (is_allowed s event) → weight_of d ranked (after d s event) < weight_of d ranked s
weight-falls d ranked s event accepted h allowed = weight_of-after d ranked s event accepted h.shaped h.registers allowed

-- an order of events

pub order_length : HangsOnReads → (d : Netlist) (ranked : List ℕ) (s t : State) (events : List Event) → IsAccepted d ranked → IsConsistent d s → Steps d s events t → length events + weight_of d ranked t ≤ weight_of d ranked s
order_length hangs d ranked s t [] accepted h steps = rw steps (omega arith)
order_length hangs d ranked s t (event ∷ events) accepted h steps =
    let fall = weight-falls d ranked s event accepted h steps.0 in
    let rest = order_length hangs d ranked (after d s event) t events accepted (IsConsistent-after hangs d ranked s event accepted h steps.0) steps.1 in
    omega arith

pub consistent_end : HangsOnReads → (d : Netlist) (ranked : List ℕ) (s t : State) (events : List Event) → IsAccepted d ranked → IsConsistent d s → Steps d s events t → IsConsistent d t
consistent_end hangs d ranked s t [] accepted h steps = subst (IsConsistent d) (sym steps) h
consistent_end hangs d ranked s t (event ∷ events) accepted h steps = consistent_end hangs d ranked (after d s event) t events accepted (IsConsistent-after hangs d ranked s event accepted h steps.0) steps.1

pub slot_end : HangsOnReads → (d : Netlist) (ranked : List ℕ) (s t : State) → IsAccepted d ranked → IsConsistent d s → Completes d s t → IsConsistent d t × IsSettled d t.store
slot_end hangs d ranked s t accepted h c =
    let end = consistent_end hangs d ranked s t c.events accepted h c.steps in
    (end, IsSettled-at_rest d t end c.ends)

-- something is left, or nothing is

some_option : {A : Type 0} (xs : List (Option A)) → All (λ x. x ≡ None) xs ⊎ ((i : ℕ) × (is_some (option_at xs i) ≡ true))
some_option [] = inl (all_none (λ x. x ≡ None))
some_option (Some x ∷ xs) = inr (0, refl)
some_option (None ∷ xs) = ⊎_elim (λ none. inl (All-cons (λ x. x ≡ None) None xs refl none)) (λ p. inr (suc p.0, p.1)) (some_option xs)

some_flag : (xs : List Bool) → All (λ x. x ≡ false) xs ⊎ ((i : ℕ) × (flag_at xs i ≡ true))
some_flag [] = inl (all_none (λ x. x ≡ false))
some_flag (true ∷ xs) = inr (0, refl)
some_flag (false ∷ xs) = ⊎_elim (λ none. inl (All-cons (λ x. x ≡ false) false xs refl none)) (λ p. inr (suc p.0, p.1)) (some_flag xs)

some_list : {A : Type 0} (xs : List (List A)) → All (λ x. x ≡ []) xs ⊎ ((i : ℕ) × (is_filled (list_at xs i) ≡ true))
some_list [] = inl (all_none (λ x. x ≡ []))
some_list ((x ∷ ys) ∷ xs) = inr (0, refl)
some_list {A} ([] ∷ xs) = let none : List A = [] in ⊎_elim (λ rest. inl (All-cons (λ x. x ≡ []) none xs refl rest)) (λ p. inr (suc p.0, p.1)) (some_list xs)

filled_any : {A : Type 0} (xs : List (List A)) (i : ℕ) → is_filled (list_at xs i) ≡ true → list_any is_filled xs ≡ true
filled_any [] i h = absurd (cc)
filled_any (xs ∷ lists) zero h = rw h refl
filled_any (xs ∷ lists) (suc i) h = later (is_filled xs) (filled_any lists i h)
  where
    later : (b : Bool) → list_any is_filled lists ≡ true → (b || list_any is_filled lists) ≡ true
    later true h = refl
    later false h = h

no_option : {A : Type 0} (xs : List (Option A)) → All (λ x. x ≡ None) xs → list_any is_some xs ≡ false
no_option xs h = list_any_none is_some xs (All-weaker (λ x. x ≡ None) (λ x. is_some x ≡ false) (λ x e. ap is_some e) xs h)

no_flag : (xs : List Bool) → All (λ x. x ≡ false) xs → list_any (λ flag. flag) xs ≡ false
no_flag xs h = list_any_none (λ flag. flag) xs h

no_list : {A : Type 0} (xs : List (List A)) → All (λ x. x ≡ []) xs → list_any is_filled xs ≡ false
no_list xs h = list_any_none is_filled xs (All-weaker (λ x. x ≡ []) (λ x. is_filled x ≡ false) (λ x e. ap is_filled e) xs h)

abbrev Next : State → Type 0
Next s = IsResting s ⊎ ((event : Event) × IsTrue (is_allowed s event))

pub next_event : (s : State) → Next s
next_event s =
    ⊎_elim (λ moves. ⊎_elim (λ wake. ⊎_elim (λ pend. ⊎_elim (λ todo. ⊎_elim (λ init. ⊎_elim (λ now. ⊎_elim
    (λ later. inl (record { moves = moves; init = init; wake = wake; pend = pend; todo = todo; later = later; now = now }))
    (λ p. let idle : has_active s ≡ false = rw (no_option s.moves moves, no_flag s.wake wake, no_option s.pend pend, no_list s.todo todo, no_list s.init init, no_list s.now now) refl in
    let some : list_any is_filled s.later ≡ true = filled_any s.later p.0 p.1 in
    let both : is_allowed s Activate ≡ true = rw (idle, some) refl in
    inr (Activate, both))
    (some_list s.later))
    (λ p. inr (Perform p.0, p.1)) (some_list s.now))
    (λ p. inr (Initialize p.0, p.1)) (some_list s.init))
    (λ p. inr (Run p.0, p.1)) (some_list s.todo))
    (λ p. inr (UpdateDriver p.0, p.1)) (some_option s.pend))
    (λ p. inr (Evaluate p.0, p.1)) (some_flag s.wake))
    (λ p. inr (TakeMove p.0, p.1)) (some_option s.moves)

-- each state can be completed

completed : HangsOnReads → (n : ℕ) (d : Netlist) (ranked : List ℕ) (s : State) → weight_of d ranked s ≤ n → IsAccepted d ranked → IsConsistent d s → (t : State) × Completes d s t
completed hangs zero d ranked s le accepted h =
    ⊎_elim
    (λ rests. (s, record { events = []; steps = refl; ends = rests }))
    (λ p. let fall = weight-falls d ranked s p.0 accepted h p.1 in absurd (omega arith))
    (next_event s)
completed hangs (suc n) d ranked s le accepted h =
    ⊎_elim
    (λ rests. (s, record { events = []; steps = refl; ends = rests }))
    (λ p.
    let fall = weight-falls d ranked s p.0 accepted h p.1 in
    let q = completed hangs n d ranked (after d s p.0) (omega arith) accepted (IsConsistent-after hangs d ranked s p.0 accepted h p.1) in
    (q.0, record { events = p.0 ∷ q.1.events; steps = (p.1, q.1.steps); ends = q.1.ends }))
    (next_event s)

pub can_complete : HangsOnReads → (d : Netlist) (ranked : List ℕ) (s : State) → IsAccepted d ranked → IsConsistent d s → (t : State) × Completes d s t
can_complete hangs d ranked s accepted h = completed hangs (weight_of d ranked s) d ranked s (omega arith) accepted h

slots : HangsOnReads → (d : Netlist) (ranked : List ℕ) (vectors : List Vector) (s : State) → IsAccepted d ranked → IsConsistent d s → IsResting s → (ends : List State) × AreSlots d s vectors ends
slots hangs d ranked [] s accepted h rests = ([], tt)
slots hangs d ranked (v ∷ vectors) s accepted h rests =
    let open_ = IsConsistent-opened d s v.moves h in
    let p = can_complete hangs d ranked (opened d v.moves s) accepted open_ in
    let end = slot_end hangs d ranked (opened d v.moves s) p.0 accepted open_ p.1 in
    let q = slots hangs d ranked vectors p.0 accepted end.0 p.1.ends in
    (p.0 ∷ q.0, (record { opens = rests; completes = p.1 }, q.1))

pub run_exists : HangsOnReads → (d : Netlist) (ranked : List ℕ) (vectors : List Vector) → IsAccepted d ranked → (first : State) × (ends : List State) × IsRun d vectors first ends
run_exists hangs d ranked vectors accepted =
    let start = IsConsistent-start_of d ranked accepted in
    let p = can_complete hangs d ranked (start_of d) accepted start in
    let end = slot_end hangs d ranked (start_of d) p.0 accepted start p.1 in
    let q = slots hangs d ranked vectors p.0 accepted end.0 p.1.ends in
    (p.0, q.0, record { first_slot = p.1; slots = q.1 })
