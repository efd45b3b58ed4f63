-- A slot without an edge: no block starts, and each register has, or is to take, one value.
use Rattle.std.proofs.Common.{◌≡◌, ◌≢◌, ◌⊎◌, ℕ, ◌<◌, not, Bool, true, false, List, [], ◌∷◌, length, set, drop, refl, ap, sym, subst, ◌∙◌, ⊎_elim, Option, Some, None, is_some, unwrap_or, IsTrue, slice_index, slice_index_or, get_or-set_same, get_or-set_other, if◌then◌else◌}
use Rattle.std.specs.List.{slice_get, list_any}
use Rattle.std.proofs.lemmas.Bool.{cases_eq, cases_Bool, and_parts}
use Rattle.std.proofs.lemmas.List.{get_or_default}
use Rattle.std.proofs.lemmas.List.Folds.{list_any_none}
use Rattle.vod_thin_design.specs.declared.thin.Bit.{Bit}
use Rattle.vod_thin_design.specs.declared.thin.Bit.TheVariants.{X}
use Rattle.vod_thin_design.specs.declared.thin.Driver.{Driver}
use Rattle.vod_thin_design.specs.declared.thin.Block.{Block}
use Rattle.vod_thin_design.specs.Bits.{value_at}
use Rattle.vod_thin_design.specs.Netlist.{Netlist, IsAccepted, has, is_register, targets, input_signals, clock_signals, assigned_registers, initial_registers}
use Rattle.vod_thin_queue.specs.declared.event.Event.TheVariants.{TakeMove, Evaluate, Update, Run, Initialize, Activate, Perform}
use Rattle.vod_thin_queue.specs.State.{State, option_at, flag_at, list_at, IsShaped}
use Rattle.vod_thin_queue.specs.Step.{Event, is_allowed, is_filled, is_rising, has_active, after, raised_if, evaluated, ran, initial_values, waits_for}
use Rattle.vod_thin_queue.specs.Run.{input_value}
use Rattle.vod_thin_queue.proofs.Accepted.{unheard, inputs_apart, input_not_target, input_not_register, target_not_register, initials_apart, initial_is_register, register_within, register_no_input, target_no_input}
use Rattle.vod_thin_queue.proofs.Orderly.{some_within, filled_within, todo_kept}
use Rattle.vod_thin_queue.proofs.Raised.{flag_within, raised_if-none}

-- what the register of an initial value has once that is taken
abbrev pub register_end : Netlist → State → ℕ → Bit
register_end d s m = if flag_at s.init m then slice_index_or (initial_values d.initials) m X else value_at s.val (slice_index (initial_registers d.initials) m)

pub record IsCalm (d : Netlist) (ends : ℕ → Bit) (s : State) : Type 0 where
  pub todo : (k : ℕ) → flag_at s.todo k ≡ false
  pub later : (k : ℕ) → list_at s.later k ≡ []
  pub now : (k : ℕ) → list_at s.now k ≡ []
  pub edges : (i : ℕ) (b : Bit) → option_at s.moves i ≡ Some b → has (clock_signals d) (slice_index (input_signals d) i) ≡ true → is_rising (input_value d s i) b ≡ false
  pub registers : (m : ℕ) → m < length d.initials → register_end d s m ≡ ends m

pub some_at : (o : Option Bit) (b : Bit) → o ≡ Some b → is_some o ≡ true
some_at o b is = ap is_some is

pub value_of_some : (o : Option Bit) → is_some o ≡ true → o ≡ Some (unwrap_or o X)
value_of_some None h = cc
value_of_some (Some b) h = refl

-- a move that is still there after another was taken, or the same
pub other_move : (moves : List (Option Bit)) (m i : ℕ) (b : Bit) → m < length moves → option_at (set moves m None) i ≡ Some b → (i ≢ m) × (option_at moves i ≡ Some b)
other_move moves m i b h is =
    ⊎_elim
    (λ same. absurd (let none : option_at (set moves m None) i ≡ None = subst (λ n. option_at (set moves m None) n ≡ None) (sym same) (get_or-set_same moves m None None h) in cc))
    (λ apart. (apart, sym (get_or-set_other moves m i None None apart) ∙ is))
    (cases_eq i m)

-- no update is there to be activated
pub no_later : (lists : List (List Bit)) → ((k : ℕ) → list_at lists k ≡ []) → list_any is_filled lists ≡ false
no_later lists none = list_any_none is_filled lists (λ k e h. ap is_filled (get_or_default lists k e [] h ∙ none k))

pub not_activated : (s : State) → IsTrue (is_allowed s Activate) → ((k : ℕ) → list_at s.later k ≡ []) → ⊥
not_activated s allowed none =
    let some = (and_parts (not (has_active s)) (list_any is_filled s.later) allowed).1 in
    let clash : true ≡ false = sym some ∙ no_later s.later none in cc

pub not_set : (b : Bool) → b ≡ true → b ≡ false → ⊥
not_set b is free = let clash : true ≡ false = sym is ∙ free in cc

pub not_filled_nil : (xs : List Bit) → is_filled xs ≡ true → xs ≡ [] → ⊥
not_filled_nil xs filled none = let clash : true ≡ false = sym filled ∙ ap is_filled none in cc

-- a move without an edge starts no block
calm_todo : (d : Netlist) (ends : ℕ → Bit) (s : State) (i : ℕ) → IsAccepted d → IsTrue (is_allowed s (TakeMove i)) → IsCalm d ends s →
    raised_if (is_rising (input_value d s i) (unwrap_or (option_at s.moves i) X)) (waits_for (slice_index (input_signals d) i)) d.blocks s.todo ≡ s.todo
calm_todo d ends s i a allowed calm =
    let signal = slice_index (input_signals d) i in
    ⊎_elim
    (λ clock. ap (λ (edge : Bool). raised_if edge (waits_for signal) d.blocks s.todo) (calm.edges i (unwrap_or (option_at s.moves i) X) (value_of_some (option_at s.moves i) allowed) clock))
    (λ free. raised_if-none (is_rising (input_value d s i) (unwrap_or (option_at s.moves i) X)) (waits_for signal) d.blocks s.todo (unheard d a signal free))
    (cases_Bool (has (clock_signals d) signal))

calm_move : (d : Netlist) (ends : ℕ → Bit) (s : State) (m : ℕ) → IsAccepted d → IsShaped d s → IsTrue (is_allowed s (TakeMove m)) → IsCalm d ends s → IsCalm d ends (after d s (TakeMove m))
calm_move d ends s m a shaped allowed calm =
    let within = some_within s.moves m allowed in
    let h : m < length d.inputs = rw (← shaped.moves) within in
    let signal = slice_index (input_signals d) m in
    let bit = unwrap_or (option_at s.moves m) X in
    record {
      todo = λ k. ap (λ todo. flag_at todo k) (calm_todo d ends s m a allowed calm) ∙ calm.todo k;
      later = calm.later;
      now = calm.now;
      edges = λ i b is clock.
          let o = other_move s.moves m i b within is in
          let hi : i < length d.inputs = rw (← shaped.moves) (some_within s.moves i (some_at (option_at s.moves i) b o.1)) in
          let value : value_at (set s.val signal bit) (slice_index (input_signals d) i) ≡ input_value d s i = get_or-set_other s.val signal (slice_index (input_signals d) i) bit X (inputs_apart d a i m hi h o.0) in
          rw value (calm.edges i b o.1 clock);
      registers = λ n l.
          let register = initial_is_register d a n l in
          let value : value_at (set s.val signal bit) (slice_index (initial_registers d.initials) n) ≡ value_at s.val (slice_index (initial_registers d.initials) n) =
          get_or-set_other s.val signal (slice_index (initial_registers d.initials) n) bit X (λ same. input_not_register d a m (slice_index (initial_registers d.initials) n) h register (sym same)) in
          rw value (calm.registers n l);
    }

calm_evaluated : (d : Netlist) (ends : ℕ → Bit) (s : State) (j : ℕ) (driver : Option Driver) → IsCalm d ends s → IsCalm d ends (evaluated j driver s)
calm_evaluated d ends s j None calm = calm
calm_evaluated d ends s j (Some driver) calm = record { todo = calm.todo; later = calm.later; now = calm.now; edges = calm.edges; registers = calm.registers }

calm_update : (d : Netlist) (ends : ℕ → Bit) (s : State) (j : ℕ) → IsAccepted d → IsShaped d s → IsTrue (is_allowed s (Update j)) → IsCalm d ends s → IsCalm d ends (after d s (Update j))
calm_update d ends s j a shaped allowed calm =
    let h : j < length d.drivers = rw (← shaped.pend) (some_within s.pend j allowed) in
    let signal = slice_index (targets d.drivers) j in
    let bit = unwrap_or (option_at s.pend j) X in
    record {
      todo = λ k. ap (λ todo. flag_at todo k) (todo_kept d a signal bit s (target_no_input d a j h)) ∙ calm.todo k;
      later = calm.later;
      now = calm.now;
      edges = λ i b is clock.
          let hi : i < length d.inputs = rw (← shaped.moves) (some_within s.moves i (some_at (option_at s.moves i) b is)) in
          let value : value_at (set s.val signal bit) (slice_index (input_signals d) i) ≡ input_value d s i = get_or-set_other s.val signal (slice_index (input_signals d) i) bit X (input_not_target d a i j hi h) in
          rw value (calm.edges i b is clock);
      registers = λ n l.
          let register = initial_is_register d a n l in
          let value : value_at (set s.val signal bit) (slice_index (initial_registers d.initials) n) ≡ value_at s.val (slice_index (initial_registers d.initials) n) =
          get_or-set_other s.val signal (slice_index (initial_registers d.initials) n) bit X (λ same. target_not_register d a j (slice_index (initial_registers d.initials) n) h register (sym same)) in
          rw value (calm.registers n l);
    }

if_true : (b : Bool) (x y : Bit) → b ≡ true → (if b then x else y) ≡ x
if_true true x y h = refl
if_true false x y h = cc

calm_initialize : (d : Netlist) (ends : ℕ → Bit) (s : State) (m : ℕ) → IsAccepted d → IsShaped d s → IsTrue (is_allowed s (Initialize m)) → IsCalm d ends s → IsCalm d ends (after d s (Initialize m))
calm_initialize d ends s m a shaped allowed calm =
    let within = flag_within s.init m allowed in
    let h : m < length d.initials = rw (← shaped.init) within in
    let signal = slice_index (initial_registers d.initials) m in
    let bit = slice_index_or (initial_values d.initials) m X in
    let is = initial_is_register d a m h in
    record {
      todo = λ k. ap (λ todo. flag_at todo k) (todo_kept d a signal bit s (register_no_input d a signal is)) ∙ calm.todo k;
      later = calm.later;
      now = calm.now;
      edges = λ i b move clock.
          let hi : i < length d.inputs = rw (← shaped.moves) (some_within s.moves i (some_at (option_at s.moves i) b move)) in
          let value : value_at (set s.val signal bit) (slice_index (input_signals d) i) ≡ input_value d s i = get_or-set_other s.val signal (slice_index (input_signals d) i) bit X (input_not_register d a i signal hi is) in
          rw value (calm.edges i b move clock);
      registers = λ n l.
          ⊎_elim
          (λ same.
          let flag : flag_at (set s.init m false) m ≡ false = get_or-set_same s.init m false false within in
          let value : value_at (set s.val signal bit) signal ≡ bit = get_or-set_same s.val signal bit X (rw shaped.val (register_within d signal is)) in
          subst (λ i. register_end d (after d s (Initialize m)) i ≡ ends i) (sym same)
          (rw (flag, value) (sym (if_true (flag_at s.init m) bit (value_at s.val signal) allowed) ∙ calm.registers m h)))
          (λ apart.
          let flag : flag_at (set s.init m false) n ≡ flag_at s.init n = get_or-set_other s.init m n false false apart in
          let value : value_at (set s.val signal bit) (slice_index (initial_registers d.initials) n) ≡ value_at s.val (slice_index (initial_registers d.initials) n) =
          get_or-set_other s.val signal (slice_index (initial_registers d.initials) n) bit X (initials_apart d a n m l h apart) in
          rw (flag, value) (calm.registers n l))
          (cases_eq n m);
    }

-- each event keeps it
pub IsCalm-after : (d : Netlist) (ends : ℕ → Bit) (s : State) (event : Event) → IsAccepted d → IsShaped d s → IsTrue (is_allowed s event) → IsCalm d ends s → IsCalm d ends (after d s event)
IsCalm-after d ends s (TakeMove i) a shaped allowed calm = calm_move d ends s i a shaped allowed calm
IsCalm-after d ends s (Evaluate j) a shaped allowed calm = calm_evaluated d ends s j (slice_get d.drivers j) calm
IsCalm-after d ends s (Update j) a shaped allowed calm = calm_update d ends s j a shaped allowed calm
IsCalm-after d ends s (Run k) a shaped allowed calm = absurd (not_set (flag_at s.todo k) allowed (calm.todo k))
IsCalm-after d ends s (Initialize m) a shaped allowed calm = calm_initialize d ends s m a shaped allowed calm
IsCalm-after d ends s Activate a shaped allowed calm = absurd (not_activated s allowed calm.later)
IsCalm-after d ends s (Perform k) a shaped allowed calm = absurd (not_filled_nil (list_at s.now k) allowed (calm.now k))
