-- Each block has at most one update: what each event keeps of this.
use Rattle.std.proofs.Common.{◌≡◌, ◌≢◌, ℕ, ◌<◌, ◌==◌, ◌||◌, ◌++◌, ◌⊎◌, inl, inr, arith, zero, suc, Bool, true, false, List, [], ◌∷◌, length, replicate, get_or, set, map, drop, refl, ap, sym, ◌∙◌, subst, ⊎_elim, All, Option, Some, None, is_some, unwrap_or, IsTrue, slice_index, slice_index_or, get_or-set_same, get_or-set_other}
use Rattle.std.specs.List.{slice_get}
use Rattle.std.proofs.lemmas.Bool.{cases_eq, cases_lt, or_cases, or_from, ne_eqb, eqb-true}
use Rattle.std.proofs.lemmas.List.{get_or_past}
use Rattle.std.proofs.lemmas.Option.{slice_get_within}
use Rattle.vod_thin_design.specs.declared.thin.Bit.{Bit}
use Rattle.vod_thin_design.specs.declared.thin.Bit.TheVariants.{X}
use Rattle.vod_thin_design.specs.declared.thin.Driver.{Driver}
use Rattle.vod_thin_design.specs.declared.thin.Block.{Block}
use Rattle.vod_thin_design.specs.declared.thin.Move.{Move}
use Rattle.vod_thin_design.specs.Bits.{value_at}
use Rattle.vod_thin_design.specs.Expr.{value_of}
use Rattle.vod_thin_design.specs.Netlist.{Netlist, IsAccepted, has, targets, input_signals, assigned_registers, initial_registers}
use Rattle.vod_thin_queue.specs.declared.event.Event.TheVariants.{TakeMove, Evaluate, Update, Run, Initialize, Activate, Perform}
use Rattle.vod_thin_queue.specs.State.{State, start_of, opened, option_at, flag_at, list_at, IsResting, IsShaped}
use Rattle.vod_thin_queue.specs.Step.{Event, after, put, is_allowed, is_filled, is_rising, raised_if, evaluated, ran, initial_values, waits_for}
use Rattle.vod_thin_queue.specs.Core.{HasNoUpdate, IsOrderly}
use Rattle.vod_thin_queue.specs.Index.{passes_at}
use Rattle.vod_thin_queue.proofs.Accepted.{unheard, no_clock, inputs_apart, target_no_input, register_no_input, assigned_is_register, initial_is_register}
use Rattle.vod_thin_queue.proofs.Choices.{idle}
use Rattle.vod_thin_queue.proofs.Raised.{raised_if-none, flag_at-raised, flag_within, item_at, passes_at-at, length-raised_if}

-- what stands at each place of a list whose elements are all the default
pub default_at : {A : Type 0} (d : A) (xs : List A) → All (λ x. x ≡ d) xs → (k : ℕ) → get_or xs k d ≡ d
default_at d xs all k = ⊎_elim (λ lt. all k d lt) (λ ge. get_or_past xs k d ge) (cases_lt k (length xs))

replicate_at : {A : Type 0} (n k : ℕ) (d : A) → get_or (replicate n d) k d ≡ d
replicate_at zero k d = refl
replicate_at (suc n) zero d = refl
replicate_at (suc n) (suc k) d = replicate_at n k d

pub some_within : {A : Type 0} (xs : List (Option A)) (i : ℕ) → is_some (get_or xs i None) ≡ true → i < length xs
some_within [] i h = absurd (cc)
some_within (x ∷ xs) zero h = omega arith
some_within (x ∷ xs) (suc i) h = let l = some_within xs i h in omega arith

pub filled_within : {A : Type 0} (xs : List (List A)) (i : ℕ) → is_filled (list_at xs i) ≡ true → i < length xs
filled_within [] i h = absurd (cc)
filled_within (x ∷ xs) zero h = omega arith
filled_within (x ∷ xs) (suc i) h = let l = filled_within xs i h in omega arith

not_none : {A : Type 0} (o : Option A) → is_some o ≡ true → o ≡ None → ⊥
not_none o some none = let clash : true ≡ false = sym some ∙ ap is_some none in cc

-- what is left of the updates of a block that had none
rest_none : (xs : List (List Bit)) (j k : ℕ) → list_at xs k ≡ [] → list_at (set xs j (drop 1 (list_at xs j))) k ≡ []
rest_none [] j k h = h
rest_none (x ∷ xs) zero zero h = ap (drop 1) h
rest_none (x ∷ xs) zero (suc k) h = h
rest_none (x ∷ xs) (suc j) zero h = h
rest_none (x ∷ xs) (suc j) (suc k) h = rest_none xs j k h

pub IsOrderly-start_of : (d : Netlist) → IsOrderly d (start_of d)
IsOrderly-start_of d = record {
  waits = λ k i block at clock some. (replicate_at (length d.blocks) k false, record { later = replicate_at (length d.blocks) k []; now = replicate_at (length d.blocks) k [] });
  runs = λ k run. record { later = replicate_at (length d.blocks) k []; now = replicate_at (length d.blocks) k [] };
}

pub IsOrderly-opened : (d : Netlist) (moves : List Move) (s : State) → IsResting s → IsOrderly d (opened d moves s)
IsOrderly-opened d moves s rests = record {
  waits = λ k i block at clock some. (default_at false s.todo rests.todo k, record { later = default_at [] s.later rests.later k; now = default_at [] s.now rests.now k });
  runs = λ k run. record { later = default_at [] s.later rests.later k; now = default_at [] s.now rests.now k };
}

pub todo_kept : (d : Netlist) → IsAccepted d → (s : ℕ) (b : Bit) (st : State) → has (input_signals d) s ≡ false → raised_if (is_rising (value_at st.val s) b) (waits_for s) d.blocks st.todo ≡ st.todo
todo_kept d a s b st free = raised_if-none (is_rising (value_at st.val s) b) (waits_for s) d.blocks st.todo (unheard d a s (no_clock d s free))

-- the flag of a block that waits for another signal is as it was
other_flag : (edge : Bool) (d : Netlist) (s k : ℕ) (block : Block) (todo : List Bool) → slice_get d.blocks k ≡ Some block → length todo ≡ length d.blocks → block.clock ≢ s → flag_at todo k ≡ false → flag_at (raised_if edge (waits_for s) d.blocks todo) k ≡ false
other_flag true d s k block todo at len apart unset =
    let within : k < length todo = rw len (slice_get_within d.blocks k block at) in
    let test : waits_for s block ≡ false = ne_eqb block.clock s apart in
    flag_at-raised (waits_for s) d.blocks todo k within ∙ or_from (flag_at todo k) (passes_at (waits_for s) d.blocks k) unset (passes_at-at (waits_for s) d.blocks k block at ∙ test)
other_flag false d s k block todo at len apart unset = unset

-- a flag that is set was, or its block waits for the signal
set_flag : (edge : Bool) (d : Netlist) (s k : ℕ) (todo : List Bool) → flag_at (raised_if edge (waits_for s) d.blocks todo) k ≡ true → (flag_at todo k ≡ true) ⊎ ((block : Block) × (slice_get d.blocks k ≡ Some block) × (block.clock ≡ s))
set_flag true d s k todo run =
    let within : k < length todo = rw (← length-raised_if true (waits_for s) d.blocks todo) (flag_within (raised_if true (waits_for s) d.blocks todo) k run) in
    ⊎_elim (λ was. inl was) (λ waits. let p = item_at (waits_for s) d.blocks k waits in inr (p.0, p.1, eqb-true p.0.clock s p.2))
    (or_cases (flag_at todo k) (passes_at (waits_for s) d.blocks k) (sym (flag_at-raised (waits_for s) d.blocks todo k within) ∙ run))
set_flag false d s k todo run = inl run

IsOrderly-taken_move : (d : Netlist) (s : State) (m : ℕ) → IsAccepted d → IsShaped d s → IsTrue (is_allowed s (TakeMove m)) → IsOrderly d s → IsOrderly d (after d s (TakeMove m))
IsOrderly-taken_move d s m a shaped allowed o =
    let within = some_within s.moves m allowed in
    let h : m < length d.inputs = rw (← shaped.moves) within in
    let signal = slice_index (input_signals d) m in
    let edge = is_rising (value_at s.val signal) (unwrap_or (option_at s.moves m) X) in
    record {
      waits = λ k i block at clock some.
          ⊎_elim
          (λ same. absurd (not_none (option_at (set s.moves m None) i) some (subst (λ n. option_at (set s.moves m None) n ≡ None) (sym same) (get_or-set_same s.moves m None None within))))
          (λ apart.
          let some' : is_some (option_at s.moves i) ≡ true = rw (get_or-set_other s.moves m i None None apart) at some in
          let hi : i < length d.inputs = rw (← shaped.moves) (some_within s.moves i some') in
          let w = o.waits k i block at clock some' in
          (other_flag edge d signal k block s.todo at shaped.todo (λ same. inputs_apart d a i m hi h apart (clock ∙ same)) w.0, record { later = w.1.later; now = w.1.now }))
          (cases_eq i m);
      runs = λ k run.
          ⊎_elim (λ was. let r = o.runs k was in record { later = r.later; now = r.now }) (λ p. let w = o.waits k m p.0 p.1 (sym p.2) allowed in record { later = w.1.later; now = w.1.now }) (set_flag edge d signal k s.todo run);
    }

IsOrderly-ran : (d : Netlist) (s : State) (j : ℕ) (block : Option Block) → IsShaped d s → flag_at s.todo j ≡ true → IsOrderly d s → IsOrderly d (ran j block s)
IsOrderly-ran d s j None shaped allowed o = o
IsOrderly-ran d s j (Some block) shaped allowed o =
    let added = list_at s.later j ++ value_of block.value (value_at s.val) ∷ [] in
    record {
      waits = λ k i other at clock some.
          let w = o.waits k i other at clock some in
          ⊎_elim
          (λ same. let clash : true ≡ false = sym allowed ∙ ap (flag_at s.todo) (sym same) ∙ w.0 in absurd (cc))
          (λ apart. (get_or-set_other s.todo j k false false apart ∙ w.0, record { later = get_or-set_other s.later j k added [] apart ∙ w.1.later; now = w.1.now }))
          (cases_eq k j);
      runs = λ k run.
          ⊎_elim
          (λ same. let clash : true ≡ false = sym run ∙ subst (λ n. flag_at (set s.todo j false) n ≡ false) (sym same) (get_or-set_same s.todo j false false (flag_within s.todo j allowed)) in absurd (cc))
          (λ apart. let r = o.runs k (sym (get_or-set_other s.todo j k false false apart) ∙ run) in record { later = get_or-set_other s.later j k added [] apart ∙ r.later; now = r.now })
          (cases_eq k j);
    }

IsOrderly-evaluated : (d : Netlist) (s : State) (j : ℕ) (driver : Option Driver) → IsOrderly d s → IsOrderly d (evaluated j driver s)
IsOrderly-evaluated d s j None o = o
IsOrderly-evaluated d s j (Some driver) o = record {
  waits = λ k i block at clock some. let w = o.waits k i block at clock some in (w.0, record { later = w.1.later; now = w.1.now });
  runs = λ k run. let r = o.runs k run in record { later = r.later; now = r.now };
}

IsOrderly-put : (d : Netlist) (s : ℕ) (b : Bit) (st : State) → IsAccepted d → has (input_signals d) s ≡ false → IsOrderly d st → IsOrderly d (put d s b st)
IsOrderly-put d s b st a free o =
    let same = todo_kept d a s b st free in
    record {
      waits = λ k i block at clock some. let w = o.waits k i block at clock some in (ap (λ todo. flag_at todo k) same ∙ w.0, record { later = w.1.later; now = w.1.now });
      runs = λ k run. let r = o.runs k (sym (ap (λ todo. flag_at todo k) same) ∙ run) in record { later = r.later; now = r.now };
    }

-- each event keeps it
pub IsOrderly-after : (d : Netlist) (s : State) (event : Event) → IsAccepted d → IsShaped d s → IsTrue (is_allowed s event) → IsOrderly d s → IsOrderly d (after d s event)
IsOrderly-after d s (TakeMove i) a shaped allowed o = IsOrderly-taken_move d s i a shaped allowed o
IsOrderly-after d s (Evaluate j) a shaped allowed o = IsOrderly-evaluated d s j (slice_get d.drivers j) o
IsOrderly-after d s (Update j) a shaped allowed o =
    IsOrderly-put d (slice_index (targets d.drivers) j) (unwrap_or (option_at s.pend j) X) (record s { pend = set s.pend j None }) a
    (target_no_input d a j (rw (← shaped.pend) (some_within s.pend j allowed)))
    (record { waits = λ k i block at clock some. (let w = o.waits k i block at clock some in (w.0, record { later = w.1.later; now = w.1.now })); runs = λ k run. (let r = o.runs k run in record { later = r.later; now = r.now }) })
IsOrderly-after d s (Run k) a shaped allowed o = IsOrderly-ran d s k (slice_get d.blocks k) shaped allowed o
IsOrderly-after d s (Initialize m) a shaped allowed o =
    IsOrderly-put d (slice_index (initial_registers d.initials) m) (slice_index_or (initial_values d.initials) m X) (record s { init = set s.init m false }) a
    (register_no_input d a (slice_index (initial_registers d.initials) m) (initial_is_register d a m (rw (← shaped.init) (flag_within s.init m allowed))))
    (record { waits = λ k i block at clock some. (let w = o.waits k i block at clock some in (w.0, record { later = w.1.later; now = w.1.now })); runs = λ k run. (let r = o.runs k run in record { later = r.later; now = r.now }) })
IsOrderly-after d s Activate a shaped allowed o =
    let empty = idle s allowed in
    record {
      waits = λ k i block at clock some. absurd (not_none (option_at s.moves i) some (default_at None s.moves empty.moves i));
      runs = λ k run. let clash : true ≡ false = sym run ∙ default_at false s.todo empty.todo k in absurd (cc);
    }
IsOrderly-after d s (Perform j) a shaped allowed o =
    IsOrderly-put d (slice_index (assigned_registers d.blocks) j) (slice_index_or (list_at s.now j) 0 X) (record s { now = set s.now j (drop 1 (list_at s.now j)) }) a
    (register_no_input d a (slice_index (assigned_registers d.blocks) j) (assigned_is_register d a j (rw (← shaped.now) (filled_within s.now j allowed))))
    (record {
      waits = λ k i block at clock some. (let w = o.waits k i block at clock some in (w.0, record { later = w.1.later; now = rest_none s.now j k w.1.now }));
      runs = λ k run. (let r = o.runs k run in record { later = r.later; now = rest_none s.now j k r.now });
    })
