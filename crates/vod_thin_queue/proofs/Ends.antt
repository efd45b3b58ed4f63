-- All orders of a slot end alike, and each of them ends.
use Rattle.std.proofs.Common.{◌≡◌, ◌⊎◌, ℕ, ◌+◌, ◌<◌, ◌≤◌, ◌++◌, inl, inr, zero, suc, not, Bool, true, false, List, [], ◌∷◌, length, replicate, get_or, arith, refl, ap, sym, ◌∙◌, subst, ⊎_elim, All, Option, Some, None, is_some, unwrap_or, IsTrue, slice_index, slice_index_or, if◌then◌else◌}
use Rattle.std.specs.List.{slice_get, list_all}
use Rattle.std.proofs.lemmas.Bool.{cases_Bool, or_cases}
use Rattle.std.proofs.lemmas.List.{ext_get_or, get_or-replicate, length-map}
use Rattle.std.proofs.lemmas.List.Elements.{All-nil, All-cons, All-head, All-tail, All-weaker}
use Rattle.std.proofs.lemmas.List.Folds.{list_any_at, list_any_none}
use Rattle.std.proofs.lemmas.Option.{slice_get_within}
use Rattle.vod_thin_design.specs.declared.thin.Bit.{Bit}
use Rattle.vod_thin_design.specs.declared.thin.Bit.TheVariants.{X}
use Rattle.vod_thin_design.specs.declared.thin.Input.{Input}
use Rattle.vod_thin_design.specs.declared.thin.Block.{Block}
use Rattle.vod_thin_design.specs.declared.thin.Initial.{Initial}
use Rattle.vod_thin_design.specs.declared.thin.Move.{Move}
use Rattle.vod_thin_design.specs.declared.thin.Vector.{Vector}
use Rattle.vod_thin_design.specs.Bits.{value_at}
use Rattle.vod_thin_design.specs.Expr.{value_of}
use Rattle.vod_thin_design.specs.Netlist.{Netlist, IsAccepted, has, is_clock, is_register, input_signals, assigned_registers, initial_registers}
use Rattle.vod_thin_design.specs.Vectors.{has_class, IsVector, AreUnmixed, IsLawful}
use Rattle.vod_thin_queue.specs.declared.event.Event.TheVariants.{TakeMove, Evaluate, Update, Run, Initialize, Activate, Perform}
use Rattle.vod_thin_queue.specs.State.{State, start_of, opened, option_at, flag_at, list_at, IsResting, IsShaped}
use Rattle.vod_thin_queue.specs.Step.{Event, is_allowed, is_filled, is_rising, initial_values, after}
use Rattle.vod_thin_queue.specs.Run.{Steps, Completes, IsSlot, AreSlots, IsRun, IsSettled, input_value, changes_from, is_unmixed_from, HasTaken}
use Rattle.vod_thin_queue.specs.Weight.{weight_of}
use Rattle.vod_thin_queue.proofs.Accepted.{place_of, item_of, field_at, clock_of, clock_is_input, no_clock, register_no_input}
use Rattle.vod_thin_queue.proofs.Calm.{IsCalm, IsCalm-after, register_end, some_at}
use Rattle.vod_thin_queue.proofs.Choices.{IsIdle}
use Rattle.vod_thin_queue.proofs.Clocked.{IsQuiet, IsLate, IsClocked-after, IsLate-after, fired, left_of, last_of, IsStage, stage_over, not_rising}
use Rattle.vod_thin_queue.proofs.Due.{HangsOnReads, IsDue, AreDue, AreDue-after}
use Rattle.vod_thin_queue.proofs.Falls.{weight_of-after}
use Rattle.vod_thin_queue.proofs.First.{same_state}
use Rattle.vod_thin_queue.proofs.Inputs.{input_end, input_end-after}
use Rattle.vod_thin_queue.proofs.Moves.{clock_kept, data_kept, move_of, unmixed, HasTaken-next}
use Rattle.vod_thin_queue.proofs.Orderly.{default_at, some_within, filled_within}
use Rattle.vod_thin_queue.proofs.Shaped.{IsShaped-start_of, IsShaped-opened, IsShaped-after}
use Rattle.vod_thin_queue.proofs.Unique.{AgreeFirst, same_values}

settled_by : (flag : Bool) (value : Option Bit) (new old : Bit) → flag ≡ false → value ≡ None → IsDue flag value new old → old ≡ new
settled_by true value new old unset none due = cc
settled_by false None new old unset none due = due
settled_by false (Some b) new old unset none due = cc

-- where nothing is left, due drivers are settled
IsSettled-resting : (d : Netlist) (s : State) → IsResting s → AreDue d s → IsSettled d s
IsSettled-resting d s rests due j driver at =
    settled_by (flag_at s.wake j) (option_at s.pend j) (value_of driver.value (value_at s.val)) (value_at s.val driver.target) (default_at false s.wake rests.wake j) (default_at None s.pend rests.pend j) (due j driver at)

due_by : (flag : Bool) (value : Option Bit) (new old : Bit) → flag ≡ false → value ≡ None → old ≡ new → IsDue flag value new old
due_by true value new old unset none same = cc
due_by false None new old unset none same = same
due_by false (Some b) new old unset none same = cc

AreDue-settled : (d : Netlist) (s : State) → IsResting s → IsSettled d s → AreDue d s
AreDue-settled d s rests settled j driver at =
    due_by (flag_at s.wake j) (option_at s.pend j) (value_of driver.value (value_at s.val)) (value_at s.val driver.target) (default_at false s.wake rests.wake j) (default_at None s.pend rests.pend j) (settled j driver at)

due_awake : (flag : Bool) (value : Option Bit) (new old : Bit) → flag ≡ true → IsDue flag value new old
due_awake true value new old set = tt
due_awake false value new old set = cc

AreDue-start_of : (d : Netlist) → AreDue d (start_of d)
AreDue-start_of d j driver at =
    due_awake (flag_at (start_of d).wake j) (option_at (start_of d).pend j) (value_of driver.value (value_at (start_of d).val)) (value_at (start_of d).val driver.target)
    (get_or-replicate (length d.drivers) j true false (slice_get_within d.drivers j driver at))

-- what a slot keeps of its registers: no block starts; or clocks alone change until the activation
abbrev pub IsPhase : Bool → Netlist → State → State → Type 0
IsPhase true d opening s = IsCalm d (register_end d opening) s
IsPhase false d opening s = IsQuiet d opening s ⊎ IsLate d opening s

-- a state within a slot that opened so
pub record IsUnderway (calm : Bool) (d : Netlist) (opening s : State) : Type 0 where
  pub shaped : IsShaped d s
  pub due : AreDue d s
  pub inputs : (i : ℕ) → i < length d.inputs → input_end d s i ≡ input_end d opening i
  pub phase : IsPhase calm d opening s

IsPhase-after : (hangs : HangsOnReads) (calm : Bool) (d : Netlist) (opening s : State) (event : Event) → IsAccepted d → IsShaped d s → IsTrue (is_allowed s event) → ((i : ℕ) → i < length d.inputs → input_end d s i ≡ input_end d opening i) →
    IsPhase calm d opening s → IsPhase calm d opening (after d s event)
IsPhase-after hangs true d opening s event a shaped allowed inputs calm = IsCalm-after d (register_end d opening) s event a shaped allowed calm
IsPhase-after hangs false d opening s event a shaped allowed inputs phase =
    ⊎_elim (λ quiet. IsClocked-after hangs d opening s event a shaped allowed inputs quiet) (λ late. inr (IsLate-after d opening s event a shaped allowed late)) phase

IsUnderway-after : (hangs : HangsOnReads) (calm : Bool) (d : Netlist) (opening s : State) (event : Event) → IsAccepted d → IsTrue (is_allowed s event) → IsUnderway calm d opening s → IsUnderway calm d opening (after d s event)
IsUnderway-after hangs calm d opening s event a allowed u = record {
  shaped = IsShaped-after d s event u.shaped;
  due = AreDue-after hangs d s event a u.shaped allowed u.due;
  inputs = λ i h. input_end-after d s event i a u.shaped allowed h ∙ u.inputs i h;
  phase = IsPhase-after hangs calm d opening s event a u.shaped allowed u.inputs u.phase;
}

-- each order of events keeps it
IsUnderway-steps : (hangs : HangsOnReads) (calm : Bool) (d : Netlist) (opening : State) (events : List Event) (s t : State) → IsAccepted d → Steps d s events t → IsUnderway calm d opening s → IsUnderway calm d opening t
IsUnderway-steps hangs calm d opening [] s t a steps u = rw steps u
IsUnderway-steps hangs calm d opening (event ∷ events) s t a steps u = IsUnderway-steps hangs calm d opening events (after d s event) t a steps.1 (IsUnderway-after hangs calm d opening s event a steps.0 u)

-- what a register has at the end of a slot that changed clocks
abbrev pub ClockedEnd : Netlist → State → State → Type 0
ClockedEnd d opening t =
    ((k i : ℕ) (block : Block) → slice_get d.blocks k ≡ Some block → i < length d.inputs → slice_index (input_signals d) i ≡ block.clock → value_at t.val block.register ≡ last_of (value_at opening.val block.register) (fired d opening i block))
    × ((n : ℕ) → is_register d n ≡ true → has (assigned_registers d.blocks) n ≡ false → value_at t.val n ≡ value_at opening.val n)

quiet_end : (d : Netlist) (opening t : State) → IsAccepted d → IsResting t → IsQuiet d opening t → ClockedEnd d opening t
quiet_end d opening t a rests quiet = (
  (λ k i block at hi clock.
      let over : list_at t.later k ≡ fired d opening i block =
      stage_over (option_at t.moves i) (value_at t.val block.clock) (value_at opening.val block.clock) (flag_at t.todo k) (list_at t.later k) (value_of block.value (value_at opening.val)) (fired d opening i block)
      (default_at None t.moves rests.moves i) (default_at false t.todo rests.todo k) (quiet.stages k i block at hi clock) in
      let none : fired d opening i block ≡ [] = sym over ∙ default_at [] t.later rests.later k in
      let register : is_register d block.register ≡ true = rw (field_at (λ (b : Block). b.register) d.blocks k block at) at (a.assigns_registers k 0 (rw length-map (slice_get_within d.blocks k block at))) in
      quiet.still block.register (no_clock d block.register (register_no_input d a block.register register)) ∙ ap (last_of (value_at opening.val block.register)) (sym none)),
  (λ n register free. quiet.still n (no_clock d n (register_no_input d a n register))),
)

late_end : (d : Netlist) (opening t : State) → IsResting t → IsLate d opening t → ClockedEnd d opening t
late_end d opening t rests late =
    ((λ k i block at hi clock. ap (last_of (value_at t.val block.register)) (sym (default_at [] t.now rests.now k)) ∙ late.taken k i block at hi clock), late.others)

same_clocked : (d : Netlist) (opening t u : State) → IsAccepted d → ClockedEnd d opening t → ClockedEnd d opening u → (n : ℕ) → is_register d n ≡ true → value_at t.val n ≡ value_at u.val n
same_clocked d opening t u a end end' n register =
    ⊎_elim
    (λ is_assigned.
    let p = place_of (assigned_registers d.blocks) n is_assigned in
    let h : p.0 < length d.blocks = rw (← length-map d.blocks (λ (block : Block). block.register)) p.1 in
    let q = item_of d.blocks p.0 h in
    let is : q.0.register ≡ n = sym (field_at (λ (block : Block). block.register) d.blocks p.0 q.0 q.1) ∙ p.2 in
    let c = place_of (input_signals d) q.0.clock (clock_is_input d q.0.clock (clock_of d a p.0 q.0 q.1)) in
    let hi : c.0 < length d.inputs = (let l = length-map d.inputs (λ (input : Input). input.signal) in let m = c.1 in omega arith) in
    subst (λ m. value_at t.val m ≡ value_at u.val m) is (end.0 p.0 c.0 q.0 q.1 hi c.2 ∙ sym (end'.0 p.0 c.0 q.0 q.1 hi c.2)))
    (λ free. end.1 n register free ∙ sym (end'.1 n register free))
    (cases_Bool (has (assigned_registers d.blocks) n))

calm_end : (d : Netlist) (opening t : State) (m : ℕ) → IsResting t → IsCalm d (register_end d opening) t → m < length d.initials → value_at t.val (slice_index (initial_registers d.initials) m) ≡ register_end d opening m
calm_end d opening t m rests calm h =
    let unset = default_at false t.init rests.init m in
    sym (ap (λ (b : Bool). if b then slice_index_or (initial_values d.initials) m X else value_at t.val (slice_index (initial_registers d.initials) m)) unset) ∙ calm.registers m h

same_calm : (d : Netlist) (opening t u : State) → IsAccepted d → IsResting t → IsResting u → IsCalm d (register_end d opening) t → IsCalm d (register_end d opening) u → (n : ℕ) → is_register d n ≡ true → value_at t.val n ≡ value_at u.val n
same_calm d opening t u a rests rests' calm calm' n register =
    let p = place_of (initial_registers d.initials) n (sym (a.initial n) ∙ register) in
    let h : p.0 < length d.initials = rw (← length-map d.initials (λ (initial : Initial). initial.register)) p.1 in
    subst (λ m. value_at t.val m ≡ value_at u.val m) p.2 (calm_end d opening t p.0 rests calm h ∙ sym (calm_end d opening u p.0 rests' calm' h))

clocked_end : (d : Netlist) (opening t : State) → IsAccepted d → IsResting t → IsQuiet d opening t ⊎ IsLate d opening t → ClockedEnd d opening t
clocked_end d opening t a rests phase = ⊎_elim (λ quiet. quiet_end d opening t a rests quiet) (λ late. late_end d opening t rests late) phase

same_registers : (calm : Bool) (d : Netlist) (opening t u : State) → IsAccepted d → IsResting t → IsResting u → IsPhase calm d opening t → IsPhase calm d opening u → (n : ℕ) → is_register d n ≡ true → value_at t.val n ≡ value_at u.val n
same_registers true d opening t u a rests rests' phase phase' = same_calm d opening t u a rests rests' phase phase'
same_registers false d opening t u a rests rests' phase phase' = same_clocked d opening t u a (clocked_end d opening t a rests phase) (clocked_end d opening u a rests' phase')

same_defaults : {A : Type 0} (d : A) (xs ys : List A) → length xs ≡ length ys → All (λ x. x ≡ d) xs → All (λ x. x ≡ d) ys → xs ≡ ys
same_defaults d xs ys len all all' = ext_get_or d xs ys len (λ k h. all k d h ∙ sym (default_at d ys all' k))

input_at_rest : (d : Netlist) (s : State) (i : ℕ) → IsResting s → input_end d s i ≡ input_value d s i
input_at_rest d s i rests = ap (λ o. unwrap_or o (input_value d s i)) (default_at None s.moves rests.moves i)

-- two ends of one slot are one
same_end : (hangs : HangsOnReads) (calm : Bool) (d : Netlist) (opening t u : State) → IsAccepted d → IsUnderway calm d opening t → IsUnderway calm d opening u → IsResting t → IsResting u → t ≡ u
same_end hangs calm d opening t u a way way' rests rests' =
    same_state t u
    (ext_get_or X t.val u.val (way.shaped.val ∙ sym way'.shaped.val)
    (λ n h. same_values hangs d (value_at t.val) (value_at u.val) a (IsSettled-resting d t rests way.due) (IsSettled-resting d u rests' way'.due)
    (record {
      inputs = λ m input.
          let p = place_of (input_signals d) m input in
          let hi : p.0 < length d.inputs = (let l = length-map d.inputs (λ (x : Input). x.signal) in let q = p.1 in omega arith) in
          subst (λ s. value_at t.val s ≡ value_at u.val s) p.2
          (sym (input_at_rest d t p.0 rests) ∙ way.inputs p.0 hi ∙ sym (way'.inputs p.0 hi) ∙ input_at_rest d u p.0 rests');
      registers = same_registers calm d opening t u a rests rests' way.phase way'.phase;
    })
    n (rw (← way.shaped.val) h)))
    (same_defaults None t.moves u.moves (way.shaped.moves ∙ sym way'.shaped.moves) rests.moves rests'.moves)
    (same_defaults false t.init u.init (way.shaped.init ∙ sym way'.shaped.init) rests.init rests'.init)
    (same_defaults false t.wake u.wake (way.shaped.wake ∙ sym way'.shaped.wake) rests.wake rests'.wake)
    (same_defaults None t.pend u.pend (way.shaped.pend ∙ sym way'.shaped.pend) rests.pend rests'.pend)
    (same_defaults false t.todo u.todo (way.shaped.todo ∙ sym way'.shaped.todo) rests.todo rests'.todo)
    (same_defaults [] t.later u.later (way.shaped.later ∙ sym way'.shaped.later) rests.later rests'.later)
    (same_defaults [] t.now u.now (way.shaped.now ∙ sym way'.shaped.now) rests.now rests'.now)

-- how a slot opens
pub record IsOpening (calm : Bool) (d : Netlist) (s : State) : Type 0 where
  pub shaped : IsShaped d s
  pub due : AreDue d s
  pub phase : IsPhase calm d s s

underway : (calm : Bool) (d : Netlist) (s : State) → IsOpening calm d s → IsUnderway calm d s s
underway calm d s o = record { shaped = o.shaped; due = o.due; inputs = λ i h. refl; phase = o.phase }

same_completion : (hangs : HangsOnReads) (calm : Bool) (d : Netlist) (s t u : State) → IsAccepted d → IsOpening calm d s → Completes d s t → Completes d s u → t ≡ u
same_completion hangs calm d s t u a o c e =
    same_end hangs calm d s t u a (IsUnderway-steps hangs calm d s c.events s t a c.steps (underway calm d s o)) (IsUnderway-steps hangs calm d s e.events s u a e.steps (underway calm d s o)) c.ends e.ends

settled_completion : (hangs : HangsOnReads) (calm : Bool) (d : Netlist) (s t : State) → IsAccepted d → IsOpening calm d s → Completes d s t → IsShaped d t × IsSettled d t
settled_completion hangs calm d s t a o c =
    let way = IsUnderway-steps hangs calm d s c.events s t a c.steps (underway calm d s o) in
    (way.shaped, IsSettled-resting d t c.ends way.due)

replicate_none : {A : Type 0} (n k : ℕ) (d : A) → get_or (replicate n d) k d ≡ d
replicate_none zero k d = refl
replicate_none (suc n) zero d = refl
replicate_none (suc n) (suc k) d = replicate_none n k d

-- slot 0 has no edge
IsOpening-start_of : (d : Netlist) → IsOpening true d (start_of d)
IsOpening-start_of d = record {
  shaped = IsShaped-start_of d;
  due = AreDue-start_of d;
  phase = record {
    todo = λ k. replicate_none (length d.blocks) k false;
    later = λ k. replicate_none (length d.blocks) k [];
    now = λ k. replicate_none (length d.blocks) k [];
    edges = λ i b is clock. (let none : option_at (start_of d).moves i ≡ None = replicate_none (length d.inputs) i None in absurd (cc));
    registers = λ m h. refl;
  };
}

opened_within : (d : Netlist) (moves : List Move) (s : State) (i : ℕ) (b : Bit) → IsShaped d s → option_at (opened d moves s).moves i ≡ Some b → i < length d.inputs
opened_within d moves s i b shaped is = rw (← (IsShaped-opened d moves s shaped).moves) (some_within (opened d moves s).moves i (some_at (option_at (opened d moves s).moves i) b is))

-- a slot whose changes are of data has no edge
calm_opened : (d : Netlist) (moves : List Move) (s : State) → IsAccepted d → IsShaped d s → IsResting s → list_all (has_class (λ c. not (is_clock c)) d) (changes_from d s moves) ≡ true → IsCalm d (register_end d (opened d moves s)) (opened d moves s)
calm_opened d moves s a shaped rests all = record {
  todo = default_at false s.todo rests.todo;
  later = default_at [] s.later rests.later;
  now = default_at [] s.now rests.now;
  edges = λ i b is clock.
      let h = opened_within d moves s i b shaped is in
      let p = item_of d.inputs i h in
      let same : input_value d s i ≡ b = clock_kept d s moves i b p.0 a all (sym (move_of d moves s i h) ∙ is) p.1 clock in
      rw same (not_rising b);
  registers = λ m h. refl;
}

stage_opened : (move : Option Bit) (new old given : Bit) (flag : Bool) (later : List Bit) (value : Bit) → new ≡ old → flag ≡ false → later ≡ [] → given ≡ unwrap_or move old → IsStage move new old flag later value (left_of (is_rising old given) value)
stage_opened (Some b) new old given flag later value same unset none is = (same, none, unset)
stage_opened None new old given flag later value same unset none is = rw (none, unset, is, not_rising old) refl

-- a slot whose changes are of clocks
quiet_opened : (d : Netlist) (moves : List Move) (s : State) → IsAccepted d → IsShaped d s → IsResting s → list_all (has_class is_clock d) (changes_from d s moves) ≡ true → IsQuiet d (opened d moves s) (opened d moves s)
quiet_opened d moves s a shaped rests all = record {
  init = default_at false s.init rests.init;
  wake = default_at false s.wake rests.wake;
  pend = default_at None s.pend rests.pend;
  now = default_at [] s.now rests.now;
  still = λ n free. refl;
  values = λ i b is free.
      let h = opened_within d moves s i b shaped is in
      let p = item_of d.inputs i h in
      sym (data_kept d s moves i b p.0 all (sym (move_of d moves s i h) ∙ is) p.1 free);
  stages = λ k i block at h clock.
      stage_opened (option_at (opened d moves s).moves i) (value_at s.val block.clock) (value_at s.val block.clock) (input_end d (opened d moves s) i) (flag_at s.todo k) (list_at s.later k) (value_of block.value (value_at s.val))
      refl (default_at false s.todo rests.todo k) (default_at [] s.later rests.later k) (ap (λ n. unwrap_or (option_at (opened d moves s).moves i) (value_at s.val n)) clock);
}

-- so each slot with unmixed changes opens in one of the two ways
opening : (d : Netlist) (moves : List Move) (s : State) → IsAccepted d → IsShaped d s → IsResting s → IsSettled d s → is_unmixed_from d s moves ≡ true → (calm : Bool) × IsOpening calm d (opened d moves s)
opening d moves s a shaped rests settled unmixed =
    let due : AreDue d (opened d moves s) = AreDue-settled d s rests settled in
    ⊎_elim
    (λ clocks. (false, record { shaped = IsShaped-opened d moves s shaped; due = due; phase = inl (quiet_opened d moves s a shaped rests clocks) }))
    (λ others. (true, record { shaped = IsShaped-opened d moves s shaped; due = due; phase = calm_opened d moves s a shaped rests others }))
    (or_cases (list_all (has_class is_clock d) (changes_from d s moves)) (list_all (has_class (λ c. not (is_clock c)) d) (changes_from d s moves)) unmixed)

-- every completed slot 0 ends alike, and settled
pub same_first : HangsOnReads → (d : Netlist) (t u : State) → IsAccepted d → Completes d (start_of d) t → Completes d (start_of d) u → t ≡ u
same_first hangs d t u a c e = same_completion hangs true d (start_of d) t u a (IsOpening-start_of d) c e

pub first_end : HangsOnReads → (d : Netlist) (t : State) → IsAccepted d → Completes d (start_of d) t → IsShaped d t × IsSettled d t
first_end hangs d t a c = settled_completion hangs true d (start_of d) t a (IsOpening-start_of d) c

-- every completed slot from a settled state, with unmixed changes, ends alike, and settled
pub same_slot_end : HangsOnReads → (d : Netlist) (s t u : State) (moves : List Move) → IsAccepted d → IsShaped d s → IsSettled d s → IsTrue (is_unmixed_from d s moves) → IsSlot d s moves t → IsSlot d s moves u → t ≡ u
same_slot_end hangs d s t u moves a shaped settled unmixed c e =
    let o = opening d moves s a shaped c.opens settled unmixed in
    same_completion hangs o.0 d (opened d moves s) t u a o.1 c.completes e.completes

pub slot_end : HangsOnReads → (d : Netlist) (s t : State) (moves : List Move) → IsAccepted d → IsShaped d s → IsSettled d s → IsTrue (is_unmixed_from d s moves) → IsSlot d s moves t → IsShaped d t × IsSettled d t
slot_end hangs d s t moves a shaped settled unmixed c =
    let o = opening d moves s a shaped c.opens settled unmixed in
    settled_completion hangs o.0 d (opened d moves s) t a o.1 c.completes

same_slots : (hangs : HangsOnReads) (d : Netlist) (vs : List Vector) (given : List Move) (s : State) (ends others : List State) → IsAccepted d → IsShaped d s → IsSettled d s → HasTaken d given s → All (IsVector d) vs → AreUnmixed d given vs → AreSlots d s vs ends → AreSlots d s vs others → ends ≡ others
same_slots hangs d [] given s [] [] a shaped settled taken forms lawful c e = refl
same_slots hangs d [] given s [] (u ∷ us) a shaped settled taken forms lawful c e = absurd e
same_slots hangs d [] given s (t ∷ ts) us a shaped settled taken forms lawful c e = absurd c
same_slots hangs d (v ∷ vs) given s [] us a shaped settled taken forms lawful c e = absurd c
same_slots hangs d (v ∷ vs) given s (t ∷ ts) [] a shaped settled taken forms lawful c e = absurd e
same_slots hangs d (v ∷ vs) given s (t ∷ ts) (u ∷ us) a shaped settled taken forms lawful c e =
    let form = All-head (IsVector d) v vs forms in
    let is = unmixed d s given v.moves form.inputs taken lawful.0 in
    let same = same_slot_end hangs d s t u v.moves a shaped settled is c.0 e.0 in
    let end = slot_end hangs d s t v.moves a shaped settled is c.0 in
    let rest : AreSlots d t vs us = rw same e.1 in
    ap (λ r. r ∷ ts) same
    ∙ ap (λ rs. u ∷ rs) (same_slots hangs d vs (given ++ v.moves) t ts us a end.0 end.1 (HasTaken-next d s t given v a shaped taken form c.0) (All-tail (IsVector d) v vs forms) lawful.1 c.1 rest)

-- all legal runs of the same lawful vectors have one end
pub same_run : HangsOnReads → (d : Netlist) (vs : List Vector) (first again : State) (ends others : List State) → IsAccepted d → IsLawful d vs → IsRun d vs first ends → IsRun d vs again others → (first ≡ again) × (ends ≡ others)
same_run hangs d vs first again ends others a lawful r q =
    let same = same_first hangs d first again a r.first_slot q.first_slot in
    let end = first_end hangs d first a r.first_slot in
    let rest : AreSlots d first vs others = rw same q.slots in
    (same, same_slots hangs d vs [] first ends others a end.0 end.1 (λ move h none. absurd (cc)) lawful.forms lawful.unmixed r.slots rest)

-- each order ends: it has at most as many events as what is left weighs
pub order_length : (d : Netlist) (s t : State) (events : List Event) → IsAccepted d → IsShaped d s → Steps d s events t → length events + weight_of t ≤ weight_of s
order_length d s t [] a shaped steps = rw steps (omega arith)
order_length d s t (event ∷ events) a shaped steps =
    let rest = order_length d (after d s event) t events a (IsShaped-after d s event shaped) steps.1 in
    let falls = weight_of-after d s event a shaped steps.0 in
    omega arith

first_some : {A : Type 0} (xs : List (Option A)) → All (λ x. x ≡ None) xs ⊎ ((i : ℕ) × (is_some (get_or xs i None) ≡ true))
first_some [] = inl (All-nil (λ x. x ≡ None))
first_some (None ∷ xs) = ⊎_elim (λ none. inl (All-cons (λ x. x ≡ None) None xs refl none)) (λ p. inr (suc p.0, p.1)) (first_some xs)
first_some (Some x ∷ xs) = inr (0, refl)

first_set : (flags : List Bool) → All (λ flag. flag ≡ false) flags ⊎ ((i : ℕ) × (flag_at flags i ≡ true))
first_set [] = inl (All-nil (λ flag. flag ≡ false))
first_set (false ∷ flags) = ⊎_elim (λ none. inl (All-cons (λ flag. flag ≡ false) false flags refl none)) (λ p. inr (suc p.0, p.1)) (first_set flags)
first_set (true ∷ flags) = inr (0, refl)

first_filled : (lists : List (List Bit)) → All (λ list. list ≡ []) lists ⊎ ((k : ℕ) × (is_filled (list_at lists k) ≡ true))
first_filled [] = inl (All-nil (λ list. list ≡ []))
first_filled ([] ∷ lists) = ⊎_elim (λ none. inl (All-cons (λ list. list ≡ []) [] lists refl none)) (λ p. inr (suc p.0, p.1)) (first_filled lists)
first_filled ((b ∷ bs) ∷ lists) = inr (0, refl)

-- an activation is allowed where nothing is left but an update in later
activated : (s : State) (k : ℕ) → IsIdle s → is_filled (list_at s.later k) ≡ true → is_allowed s Activate ≡ true
activated s k r filled =
    let m = list_any_none is_some s.moves (All-weaker (λ o. o ≡ None) (λ o. is_some o ≡ false) (λ o none. ap is_some none) s.moves r.moves) in
    let w = list_any_none (λ flag. flag) s.wake r.wake in
    let p = list_any_none is_some s.pend (All-weaker (λ o. o ≡ None) (λ o. is_some o ≡ false) (λ o none. ap is_some none) s.pend r.pend) in
    let t = list_any_none (λ flag. flag) s.todo r.todo in
    let i = list_any_none (λ flag. flag) s.init r.init in
    let n = list_any_none is_filled s.now (All-weaker (λ xs. xs ≡ []) (λ xs. is_filled xs ≡ false) (λ xs none. ap is_filled none) s.now r.now) in
    let l = list_any_at is_filled s.later k [] (filled_within s.later k filled) filled in
    rw (m, w, p, t, i, n, l) refl

-- some event but an activation is allowed, or there is none
active_event : (s : State) → IsIdle s ⊎ ((event : Event) × IsTrue (is_allowed s event))
active_event s =
    ⊎_elim
    (λ moves. ⊎_elim
    (λ wake. ⊎_elim
    (λ pend. ⊎_elim
    (λ todo. ⊎_elim
    (λ init. ⊎_elim (λ now. inl (record { moves = moves; init = init; wake = wake; pend = pend; todo = todo; now = now })) (λ p. inr (Perform p.0, p.1)) (first_filled s.now))
    (λ p. inr (Initialize p.0, p.1)) (first_set s.init))
    (λ p. inr (Run p.0, p.1)) (first_set s.todo))
    (λ p. inr (Update p.0, p.1)) (first_some s.pend))
    (λ p. inr (Evaluate p.0, p.1)) (first_set s.wake))
    (λ p. inr (TakeMove p.0, p.1)) (first_some s.moves)

-- nothing is left, or some event is allowed
next_event : (s : State) → IsResting s ⊎ ((event : Event) × IsTrue (is_allowed s event))
next_event s =
    ⊎_elim
    (λ r. ⊎_elim
    (λ later. inl (record { moves = r.moves; init = r.init; wake = r.wake; pend = r.pend; todo = r.todo; later = later; now = r.now }))
    (λ p. inr (Activate, activated s p.0 r p.1))
    (first_filled s.later))
    (λ p. inr p)
    (active_event s)

complete_within : (n : ℕ) (d : Netlist) (s : State) → weight_of s < n → IsAccepted d → IsShaped d s → (t : State) × Completes d s t
complete_within zero d s below a shaped = absurd (omega arith)
complete_within (suc n) d s below a shaped =
    ⊎_elim
    (λ rests. (s, record { events = []; steps = refl; ends = rests }))
    (λ p. let falls = weight_of-after d s p.0 a shaped p.1 in
    let rest = complete_within n d (after d s p.0) (omega arith) a (IsShaped-after d s p.0 shaped) in
    (rest.0, record { events = p.0 ∷ rest.1.events; steps = (p.1, rest.1.steps); ends = rest.1.ends }))
    (next_event s)

-- from each state some order leads to an end
completion : (d : Netlist) (s : State) → IsAccepted d → IsShaped d s → (t : State) × Completes d s t
completion d s a shaped = complete_within (suc (weight_of s)) d s (omega arith) a shaped

pub slot : (d : Netlist) (s : State) (moves : List Move) → IsAccepted d → IsShaped d s → IsResting s → (t : State) × IsSlot d s moves t
slot d s moves a shaped rests =
    let c = completion d (opened d moves s) a (IsShaped-opened d moves s shaped) in
    (c.0, record { opens = rests; completes = c.1 })

IsShaped-steps : (d : Netlist) (s t : State) (events : List Event) → Steps d s events t → IsShaped d s → IsShaped d t
IsShaped-steps d s t [] steps shaped = rw steps shaped
IsShaped-steps d s t (event ∷ events) steps shaped = IsShaped-steps d (after d s event) t events steps.1 (IsShaped-after d s event shaped)

slots : (d : Netlist) (vs : List Vector) (s : State) → IsAccepted d → IsShaped d s → IsResting s → (ends : List State) × AreSlots d s vs ends
slots d [] s a shaped rests = ([], tt)
slots d (v ∷ vs) s a shaped rests =
    let one = slot d s v.moves a shaped rests in
    let shaped' = IsShaped-steps d (opened d v.moves s) one.0 one.1.completes.events one.1.completes.steps (IsShaped-opened d v.moves s shaped) in
    let rest = slots d vs one.0 a shaped' one.1.completes.ends in
    (one.0 ∷ rest.0, (one.1, rest.1))

-- each list of vectors has a legal run
pub run : (d : Netlist) (vs : List Vector) → IsAccepted d → (first : State) × (ends : List State) × IsRun d vs first ends
run d vs a =
    let c = completion d (start_of d) a (IsShaped-start_of d) in
    let rest = slots d vs c.0 a (IsShaped-steps d (start_of d) c.0 c.1.events c.1.steps (IsShaped-start_of d)) c.1.ends in
    (c.0, rest.0, record { first_slot = c.1; slots = rest.1 })
