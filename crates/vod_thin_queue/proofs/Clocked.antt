-- A slot whose changes are of clocks: until the activation nothing but clocks changes, and each register takes what its
-- block computed from the opening values.
use Rattle.std.proofs.Common.{◌≡◌, ◌≢◌, ◌⊎◌, ℕ, zero, suc, ◌<◌, ◌==◌, ◌++◌, ◌||◌, inl, inr, not, Bool, true, false, List, [], ◌∷◌, length, map, set, drop, get_or, refl, ap, sym, subst, ◌∙◌, ⊎_elim, All, Option, Some, None, is_some, unwrap_or, IsTrue, slice_index, slice_index_or, get_or-set_same, get_or-set_other, if◌then◌else◌, eq-eqb}
use Rattle.std.specs.List.{slice_get}
use Rattle.std.proofs.lemmas.Bool.{cases_eq, cases_Bool, or_from, ne_eqb}
use Rattle.std.proofs.lemmas.List.{append-nil, length-map}
use Rattle.std.proofs.lemmas.List.Elements.{All-weaker}
use Rattle.std.proofs.lemmas.Option.{slice_get_within}
use Rattle.vod_thin_design.specs.declared.thin.Bit.{Bit}
use Rattle.vod_thin_design.specs.declared.thin.Bit.TheVariants.{Zero, One, X, Z}
use Rattle.vod_thin_design.specs.declared.thin.Driver.{Driver}
use Rattle.vod_thin_design.specs.declared.thin.Block.{Block}
use Rattle.vod_thin_design.specs.Bits.{value_at, same_bit}
use Rattle.vod_thin_design.specs.Expr.{value_of, reads}
use Rattle.vod_thin_design.specs.Netlist.{Netlist, IsAccepted, has, is_register, targets, input_signals, clock_signals, assigned_registers, initial_registers}
use Rattle.vod_thin_queue.specs.declared.event.Event.TheVariants.{TakeMove, Evaluate, Update, Run, Initialize, Activate, Perform}
use Rattle.vod_thin_queue.specs.State.{State, option_at, flag_at, list_at, IsShaped}
use Rattle.vod_thin_queue.specs.Step.{Event, is_allowed, is_filled, is_rising, after, raised_if, evaluated, ran, reads_signal, waits_for}
use Rattle.vod_thin_queue.specs.Index.{passes_at}
use Rattle.vod_thin_queue.specs.Run.{input_value}
use Rattle.vod_thin_queue.proofs.Accepted.{apart_has, field_at, same_item, unread, unread_by_blocks, unheard, no_clock, clock_of, clock_is_input, inputs_apart, input_within, target_not_register, register_no_input, register_within, assigned_is_register, assigned_apart, target_no_input}
use Rattle.vod_thin_queue.proofs.Calm.{some_at, value_of_some, other_move, not_activated, not_set, not_filled_nil}
use Rattle.vod_thin_queue.proofs.Choices.{idle}
use Rattle.vod_thin_queue.proofs.Due.{HangsOnReads, set-same_bit, same_itself}
use Rattle.vod_thin_queue.proofs.Has.{or-false, has-get_or}
use Rattle.vod_thin_queue.proofs.Inputs.{input_end}
use Rattle.vod_thin_queue.proofs.Orderly.{default_at, some_within, filled_within, todo_kept}
use Rattle.vod_thin_queue.proofs.Raised.{flag_at-raised, flag_within, raised_if-none, passes_at-at}

-- what a block's statement, run once or not, adds to its updates
abbrev pub left_of : Bool → Bit → List Bit
left_of flag value = if flag then value ∷ [] else []

-- the updates of a block in a slot that opened so: its value where its clock, which is input i, has an edge
abbrev pub fired : Netlist → State → ℕ → Block → List Bit
fired d s i block = left_of (is_rising (value_at s.val block.clock) (input_end d s i)) (value_of block.value (value_at s.val))

-- the clock still has a move: it is as it was, and the block waits and has no update; else the block's updates, with the
-- one that its statement is to add, are those that it fires
abbrev pub IsStage : Option Bit → Bit → Bit → Bool → List Bit → Bit → List Bit → Type 0
IsStage (Some b) new old flag later value fires = (new ≡ old) × (later ≡ []) × (flag ≡ false)
IsStage None new old flag later value fires = later ++ left_of flag value ≡ fires

abbrev pub IsStageIn : Netlist → State → State → ℕ → ℕ → Block → Type 0
IsStageIn d opening s k i block =
    IsStage (option_at s.moves i) (value_at s.val block.clock) (value_at opening.val block.clock) (flag_at s.todo k) (list_at s.later k) (value_of block.value (value_at opening.val)) (fired d opening i block)

-- before the activation
pub record IsQuiet (d : Netlist) (opening s : State) : Type 0 where
  pub init : (m : ℕ) → flag_at s.init m ≡ false
  pub wake : (j : ℕ) → flag_at s.wake j ≡ false
  pub pend : (j : ℕ) → option_at s.pend j ≡ None
  pub now : (k : ℕ) → list_at s.now k ≡ []
  pub still : (n : ℕ) → has (clock_signals d) n ≡ false → value_at s.val n ≡ value_at opening.val n
  pub values : (i : ℕ) (b : Bit) → option_at s.moves i ≡ Some b → has (clock_signals d) (slice_index (input_signals d) i) ≡ false → b ≡ value_at opening.val (slice_index (input_signals d) i)
  pub stages : (k i : ℕ) (block : Block) → slice_get d.blocks k ≡ Some block → i < length d.inputs → slice_index (input_signals d) i ≡ block.clock → IsStageIn d opening s k i block

-- the last of some updates, or what was there
abbrev pub last_of : Bit → List Bit → Bit
last_of old [] = old
last_of old (b ∷ bs) = last_of b bs

-- after it
pub record IsLate (d : Netlist) (opening s : State) : Type 0 where
  pub moves : (i : ℕ) → option_at s.moves i ≡ None
  pub init : (m : ℕ) → flag_at s.init m ≡ false
  pub todo : (k : ℕ) → flag_at s.todo k ≡ false
  pub later : (k : ℕ) → list_at s.later k ≡ []
  pub taken : (k i : ℕ) (block : Block) → slice_get d.blocks k ≡ Some block → i < length d.inputs → slice_index (input_signals d) i ≡ block.clock →
      last_of (value_at s.val block.register) (list_at s.now k) ≡ last_of (value_at opening.val block.register) (fired d opening i block)
  pub others : (n : ℕ) → is_register d n ≡ true → has (assigned_registers d.blocks) n ≡ false → value_at s.val n ≡ value_at opening.val n

pub not_rising : (b : Bit) → is_rising b b ≡ false
not_rising Zero = refl
not_rising One = refl
not_rising X = refl
not_rising Z = refl

-- what a block that waits for the signal has left after an edge, or after none
started : (edge : Bool) (d : Netlist) (s k : ℕ) (block : Block) (todo : List Bool) → slice_get d.blocks k ≡ Some block → length todo ≡ length d.blocks → block.clock ≡ s → flag_at todo k ≡ false → flag_at (raised_if edge (waits_for s) d.blocks todo) k ≡ edge
started true d s k block todo at len same unset =
    let within : k < length todo = rw len (slice_get_within d.blocks k block at) in
    let test : waits_for s block ≡ true = eq-eqb block.clock s same in
    flag_at-raised (waits_for s) d.blocks todo k within ∙ rw (unset, passes_at-at (waits_for s) d.blocks k block at) test
started false d s k block todo at len same unset = unset

-- a block that waits for another signal
unstarted : (edge : Bool) (d : Netlist) (s k : ℕ) (block : Block) (todo : List Bool) → slice_get d.blocks k ≡ Some block → length todo ≡ length d.blocks → block.clock ≢ s → flag_at (raised_if edge (waits_for s) d.blocks todo) k ≡ flag_at todo k
unstarted true d s k block todo at len apart =
    let within : k < length todo = rw len (slice_get_within d.blocks k block at) in
    let test : passes_at (waits_for s) d.blocks k ≡ false = passes_at-at (waits_for s) d.blocks k block at ∙ ne_eqb block.clock s apart in
    flag_at-raised (waits_for s) d.blocks todo k within ∙ ap (λ b. flag_at todo k || b) test ∙ or-false (flag_at todo k)
unstarted false d s k block todo at len apart = refl

clock_apart : (d : Netlist) (n s : ℕ) → has (clock_signals d) s ≡ true → has (clock_signals d) n ≡ false → n ≢ s
clock_apart d n s clock free same = apart_has (clock_signals d) s n clock free (sym same)

-- the clock of a block whose move was taken
stage_taken : (move : Option Bit) (b new old given : Bit) (flag : Bool) (later : List Bit) (value : Bit) → move ≡ Some b → given ≡ b → IsStage move new old flag later value (left_of (is_rising old given) value) → (now : Bool) → (flag ≡ false → now ≡ is_rising new b) → later ++ left_of now value ≡ left_of (is_rising old given) value
stage_taken None b new old given flag later value is end stage now starts = cc
stage_taken (Some c) b new old given flag later value is end stage now starts =
    let flag' : now ≡ is_rising old given = starts stage.2 ∙ rw (stage.0, end) refl in
    rw (stage.1, flag') refl

-- a move of a clock
quiet_clock : (d : Netlist) (opening s : State) (m : ℕ) → IsAccepted d → IsShaped d s → IsTrue (is_allowed s (TakeMove m)) → ((i : ℕ) → i < length d.inputs → input_end d s i ≡ input_end d opening i) → has (clock_signals d) (slice_index (input_signals d) m) ≡ true → IsQuiet d opening s →
    IsQuiet d opening (after d s (TakeMove m))
quiet_clock d opening s m a shaped allowed ends clock quiet =
    let within = some_within s.moves m allowed in
    let h : m < length d.inputs = rw (← shaped.moves) within in
    let signal = slice_index (input_signals d) m in
    let bit = unwrap_or (option_at s.moves m) X in
    let edge = is_rising (value_at s.val signal) bit in
    let some : option_at s.moves m ≡ Some bit = value_of_some (option_at s.moves m) allowed in
    let given : input_end d opening m ≡ bit = sym (ends m h) ∙ ap (λ o. unwrap_or o (input_value d s m)) some in
    record {
      init = quiet.init;
      wake = λ j. ap (λ wake. flag_at wake j) (raised_if-none (not (same_bit (value_at s.val signal) bit)) (reads_signal signal) d.drivers s.wake (unread d a signal clock)) ∙ quiet.wake j;
      pend = quiet.pend;
      now = quiet.now;
      still = λ n free. get_or-set_other s.val signal n bit X (clock_apart d n signal clock free) ∙ quiet.still n free;
      values = λ i b move free. quiet.values i b (other_move s.moves m i b within move).1 free;
      stages = λ k i block at hi same.
          ⊎_elim
          (λ here.
          let none : option_at (set s.moves m None) i ≡ None = subst (λ n. option_at (set s.moves m None) n ≡ None) (sym here) (get_or-set_same s.moves m None None within) in
          let is_clock : block.clock ≡ signal = sym same ∙ ap (slice_index (input_signals d)) here in
          rw none
          (stage_taken (option_at s.moves i) bit (value_at s.val block.clock) (value_at opening.val block.clock) (input_end d opening i) (flag_at s.todo k) (list_at s.later k) (value_of block.value (value_at opening.val))
          (ap (option_at s.moves) here ∙ some) (ap (input_end d opening) here ∙ given) (quiet.stages k i block at hi same)
          (flag_at (raised_if edge (waits_for signal) d.blocks s.todo) k)
          (λ unset. started edge d signal k block s.todo at shaped.todo is_clock unset ∙ ap (λ n. is_rising (value_at s.val n) bit) (sym is_clock))))
          (λ apart.
          let move : option_at (set s.moves m None) i ≡ option_at s.moves i = get_or-set_other s.moves m i None None apart in
          let other : block.clock ≢ signal = (λ e. inputs_apart d a i m hi h apart (same ∙ e)) in
          let value : value_at (set s.val signal bit) block.clock ≡ value_at s.val block.clock = get_or-set_other s.val signal block.clock bit X other in
          let flag = unstarted edge d signal k block s.todo at shaped.todo other in
          rw (move, value, flag) (quiet.stages k i block at hi same))
          (cases_eq i m);
    }

-- a move of a data input, which changes nothing
quiet_data : (d : Netlist) (opening s : State) (m : ℕ) → IsAccepted d → IsShaped d s → IsTrue (is_allowed s (TakeMove m)) → has (clock_signals d) (slice_index (input_signals d) m) ≡ false → IsQuiet d opening s → IsQuiet d opening (after d s (TakeMove m))
quiet_data d opening s m a shaped allowed free quiet =
    let within = some_within s.moves m allowed in
    let signal = slice_index (input_signals d) m in
    let bit = unwrap_or (option_at s.moves m) X in
    let is : value_at s.val signal ≡ bit = quiet.still signal free ∙ sym (quiet.values m bit (value_of_some (option_at s.moves m) allowed) free) in
    let same : same_bit (value_at s.val signal) bit ≡ true = rw is (same_itself bit) in
    let val : set s.val signal bit ≡ s.val = set-same_bit s.val signal bit same in
    let edge : is_rising (value_at s.val signal) bit ≡ false = rw is (not_rising bit) in
    record {
      init = quiet.init;
      wake = λ j. rw same (quiet.wake j);
      pend = quiet.pend;
      now = quiet.now;
      still = λ n clock. rw val (quiet.still n clock);
      values = λ i b move clock. quiet.values i b (other_move s.moves m i b within move).1 clock;
      stages = λ k i block at hi clock.
          let apart : i ≢ m = (λ e. let is_clock = clock_of d a k block at in let clash : true ≡ false = sym is_clock ∙ ap (has (clock_signals d)) (sym clock ∙ ap (slice_index (input_signals d)) e) ∙ free in cc) in
          let move : option_at (set s.moves m None) i ≡ option_at s.moves i = get_or-set_other s.moves m i None None apart in
          rw (move, val, edge) (quiet.stages k i block at hi clock);
    }

-- a statement that runs
stage_ran : (move : Option Bit) (new old : Bit) (flag : Bool) (later : List Bit) (value ran : Bit) (fires : List Bit) → flag ≡ true → ran ≡ value → IsStage move new old flag later value fires → IsStage move new old false (later ++ ran ∷ []) value fires
stage_ran (Some b) new old flag later value ran fires set is stage = let clash : true ≡ false = sym set ∙ stage.2 in absurd (cc)
stage_ran None new old true later value ran fires set is stage = rw (append-nil, is) stage
stage_ran None new old false later value ran fires set is stage = cc

quiet_ran : (hangs : HangsOnReads) (d : Netlist) (opening s : State) (j : ℕ) (block : Option Block) → slice_get d.blocks j ≡ block → IsAccepted d → IsShaped d s → flag_at s.todo j ≡ true → IsQuiet d opening s → IsQuiet d opening (ran j block s)
quiet_ran hangs d opening s j None at a shaped allowed quiet = quiet
quiet_ran hangs d opening s j (Some block) at a shaped allowed quiet =
    let within = flag_within s.todo j allowed in
    let added = list_at s.later j ++ value_of block.value (value_at s.val) ∷ [] in
    let value : value_of block.value (value_at s.val) ≡ value_of block.value (value_at opening.val) =
    hangs block.value (value_at s.val) (value_at opening.val) (All-weaker (λ n. has (clock_signals d) n ≡ false) (λ n. value_at s.val n ≡ value_at opening.val n) quiet.still (reads block.value) (unread_by_blocks d a j block at)) in
    record {
      init = quiet.init;
      wake = quiet.wake;
      pend = quiet.pend;
      now = quiet.now;
      still = quiet.still;
      values = quiet.values;
      stages = λ k i other at' hi clock.
          ⊎_elim
          (λ same.
          let e = same_item d.blocks k j other block at' at same in
          let flag : flag_at (set s.todo j false) k ≡ false = subst (λ n. flag_at (set s.todo j false) n ≡ false) (sym same) (get_or-set_same s.todo j false false within) in
          let list : list_at (set s.later j added) k ≡ list_at s.later k ++ value_of block.value (value_at s.val) ∷ [] =
          subst (λ n. list_at (set s.later j added) n ≡ list_at s.later n ++ value_of block.value (value_at s.val) ∷ []) (sym same) (get_or-set_same s.later j added [] (rw (shaped.later, ← shaped.todo) within)) in
          rw (flag, list)
          (stage_ran (option_at s.moves i) (value_at s.val other.clock) (value_at opening.val other.clock) (flag_at s.todo k) (list_at s.later k) (value_of other.value (value_at opening.val)) (value_of block.value (value_at s.val)) (fired d opening i other)
          (ap (flag_at s.todo) same ∙ allowed) (value ∙ ap (λ (b : Block). value_of b.value (value_at opening.val)) (sym e)) (quiet.stages k i other at' hi clock)))
          (λ apart.
          let flag : flag_at (set s.todo j false) k ≡ flag_at s.todo k = get_or-set_other s.todo j k false false apart in
          let list : list_at (set s.later j added) k ≡ list_at s.later k = get_or-set_other s.later j k added [] apart in
          rw (flag, list) (quiet.stages k i other at' hi clock))
          (cases_eq k j);
    }

pub stage_over : (move : Option Bit) (new old : Bit) (flag : Bool) (later : List Bit) (value : Bit) (fires : List Bit) → move ≡ None → flag ≡ false → IsStage move new old flag later value fires → later ≡ fires
stage_over (Some b) new old flag later value fires none unset stage = cc
stage_over None new old true later value fires none unset stage = cc
stage_over None new old false later value fires none unset stage = sym (append-nil later) ∙ stage

map_none : (lists : List (List Bit)) (k : ℕ) → list_at (map {A = List Bit} {B = List Bit} (λ updates. []) lists) k ≡ []
map_none [] k = refl
map_none (list ∷ lists) zero = refl
map_none (list ∷ lists) (suc k) = map_none lists k

-- the activation
quiet_activated : (d : Netlist) (opening s : State) → IsAccepted d → IsTrue (is_allowed s Activate) → IsQuiet d opening s → IsLate d opening (after d s Activate)
quiet_activated d opening s a allowed quiet =
    let empty = idle s allowed in
    record {
      moves = default_at None s.moves empty.moves;
      init = quiet.init;
      todo = default_at false s.todo empty.todo;
      later = map_none s.later;
      taken = λ k i block at hi clock.
          let over : list_at s.later k ≡ fired d opening i block =
          stage_over (option_at s.moves i) (value_at s.val block.clock) (value_at opening.val block.clock) (flag_at s.todo k) (list_at s.later k) (value_of block.value (value_at opening.val)) (fired d opening i block)
          (default_at None s.moves empty.moves i) (default_at false s.todo empty.todo k) (quiet.stages k i block at hi clock) in
          let register : is_register d block.register ≡ true = rw (field_at (λ (b : Block). b.register) d.blocks k block at) at (assigned_is_register d a k (slice_get_within d.blocks k block at)) in
          let value = quiet.still block.register (no_clock d block.register (register_no_input d a block.register register)) in
          rw (over, value) refl;
      others = λ n register free. quiet.still n (no_clock d n (register_no_input d a n register));
    }

late_evaluated : (d : Netlist) (opening s : State) (j : ℕ) (driver : Option Driver) → IsLate d opening s → IsLate d opening (evaluated j driver s)
late_evaluated d opening s j None late = late
late_evaluated d opening s j (Some driver) late = record { moves = late.moves; init = late.init; todo = late.todo; later = late.later; taken = late.taken; others = late.others }

late_update : (d : Netlist) (opening s : State) (j : ℕ) → IsAccepted d → IsShaped d s → IsTrue (is_allowed s (Update j)) → IsLate d opening s → IsLate d opening (after d s (Update j))
late_update d opening s j a shaped allowed late =
    let h : j < length d.drivers = rw (← shaped.pend) (some_within s.pend j allowed) in
    let signal = slice_index (targets d.drivers) j in
    let bit = unwrap_or (option_at s.pend j) X in
    record {
      moves = late.moves;
      init = late.init;
      todo = λ k. ap (λ todo. flag_at todo k) (todo_kept d a signal bit s (target_no_input d a j h)) ∙ late.todo k;
      later = late.later;
      taken = λ k i block at hi clock.
          let register : is_register d block.register ≡ true = rw (field_at (λ (b : Block). b.register) d.blocks k block at) at (assigned_is_register d a k (slice_get_within d.blocks k block at)) in
          let value : value_at (set s.val signal bit) block.register ≡ value_at s.val block.register = get_or-set_other s.val signal block.register bit X (λ same. target_not_register d a j block.register h register (sym same)) in
          rw value (late.taken k i block at hi clock);
      others = λ n register free. get_or-set_other s.val signal n bit X (λ same. target_not_register d a j n h register (sym same)) ∙ late.others n register free;
    }

last_first : (old : Bit) (updates : List Bit) → is_filled updates ≡ true → last_of (slice_index_or updates 0 X) (drop 1 updates) ≡ last_of old updates
last_first old [] filled = cc
last_first old (b ∷ bs) filled = refl

late_perform : (d : Netlist) (opening s : State) (j : ℕ) → IsAccepted d → IsShaped d s → IsTrue (is_allowed s (Perform j)) → IsLate d opening s → IsLate d opening (after d s (Perform j))
late_perform d opening s j a shaped allowed late =
    let within = filled_within s.now j allowed in
    let h : j < length d.blocks = rw (← shaped.now) within in
    let signal = slice_index (assigned_registers d.blocks) j in
    let is = assigned_is_register d a j h in
    let bit = slice_index_or (list_at s.now j) 0 X in
    let rest = drop 1 (list_at s.now j) in
    record {
      moves = late.moves;
      init = late.init;
      todo = λ k. ap (λ todo. flag_at todo k) (todo_kept d a signal bit s (register_no_input d a signal is)) ∙ late.todo k;
      later = late.later;
      taken = λ k i block at hi clock.
          let register = field_at (λ (b : Block). b.register) d.blocks k block at in
          ⊎_elim
          (λ same.
          let is_signal : block.register ≡ signal = sym register ∙ ap (slice_index (assigned_registers d.blocks)) same in
          let value : value_at (set s.val signal bit) block.register ≡ bit = subst (λ n. value_at (set s.val signal bit) n ≡ bit) (sym is_signal) (get_or-set_same s.val signal bit X (rw shaped.val (register_within d signal is))) in
          let list : list_at (set s.now j rest) k ≡ rest = subst (λ n. list_at (set s.now j rest) n ≡ rest) (sym same) (get_or-set_same s.now j rest [] within) in
          rw (value, list) (last_first (value_at s.val block.register) (list_at s.now j) allowed ∙ ap (λ n. last_of (value_at s.val block.register) (list_at s.now n)) (sym same) ∙ late.taken k i block at hi clock))
          (λ apart.
          let value : value_at (set s.val signal bit) block.register ≡ value_at s.val block.register =
          get_or-set_other s.val signal block.register bit X (λ e. assigned_apart d a k j (slice_get_within d.blocks k block at) h apart (register ∙ e)) in
          let list : list_at (set s.now j rest) k ≡ list_at s.now k = get_or-set_other s.now j k rest [] apart in
          rw (value, list) (late.taken k i block at hi clock))
          (cases_eq k j);
      others = λ n register free.
          get_or-set_other s.val signal n bit X (λ same. apart_has (assigned_registers d.blocks) signal n (has-get_or (assigned_registers d.blocks) j 0 (rw length-map h)) free (sym same)) ∙ late.others n register free;
    }

-- each event keeps it, or is the activation
pub IsClocked-after : (hangs : HangsOnReads) (d : Netlist) (opening s : State) (event : Event) → IsAccepted d → IsShaped d s → IsTrue (is_allowed s event) → ((i : ℕ) → i < length d.inputs → input_end d s i ≡ input_end d opening i) →
    IsQuiet d opening s → IsQuiet d opening (after d s event) ⊎ IsLate d opening (after d s event)
IsClocked-after hangs d opening s (TakeMove i) a shaped allowed ends quiet =
    inl (⊎_elim (λ clock. quiet_clock d opening s i a shaped allowed ends clock quiet) (λ free. quiet_data d opening s i a shaped allowed free quiet) (cases_Bool (has (clock_signals d) (slice_index (input_signals d) i))))
IsClocked-after hangs d opening s (Evaluate j) a shaped allowed ends quiet = absurd (not_set (flag_at s.wake j) allowed (quiet.wake j))
IsClocked-after hangs d opening s (Update j) a shaped allowed ends quiet = absurd (let clash : true ≡ false = sym allowed ∙ ap is_some (quiet.pend j) in cc)
IsClocked-after hangs d opening s (Run k) a shaped allowed ends quiet = inl (quiet_ran hangs d opening s k (slice_get d.blocks k) refl a shaped allowed quiet)
IsClocked-after hangs d opening s (Initialize m) a shaped allowed ends quiet = absurd (not_set (flag_at s.init m) allowed (quiet.init m))
IsClocked-after hangs d opening s Activate a shaped allowed ends quiet = inr (quiet_activated d opening s a allowed quiet)
IsClocked-after hangs d opening s (Perform k) a shaped allowed ends quiet = absurd (not_filled_nil (list_at s.now k) allowed (quiet.now k))

pub IsLate-after : (d : Netlist) (opening s : State) (event : Event) → IsAccepted d → IsShaped d s → IsTrue (is_allowed s event) → IsLate d opening s → IsLate d opening (after d s event)
IsLate-after d opening s (TakeMove i) a shaped allowed late = absurd (let clash : true ≡ false = sym allowed ∙ ap is_some (late.moves i) in cc)
IsLate-after d opening s (Evaluate j) a shaped allowed late = late_evaluated d opening s j (slice_get d.drivers j) late
IsLate-after d opening s (Update j) a shaped allowed late = late_update d opening s j a shaped allowed late
IsLate-after d opening s (Run k) a shaped allowed late = absurd (not_set (flag_at s.todo k) allowed (late.todo k))
IsLate-after d opening s (Initialize m) a shaped allowed late = absurd (not_set (flag_at s.init m) allowed (late.init m))
IsLate-after d opening s Activate a shaped allowed late = absurd (not_activated s allowed late.later)
IsLate-after d opening s (Perform k) a shaped allowed late = late_perform d opening s k a shaped allowed late
