-- What is left of the moves gives the same values of the inputs after each event.
use Rattle.std.proofs.Common.{◌≡◌, ◌≢◌, ℕ, ◌<◌, true, List, [], ◌∷◌, length, set, drop, refl, ap, sym, subst, ◌∙◌, ⊎_elim, Option, Some, None, is_some, unwrap_or, IsTrue, slice_index, slice_index_or, get_or-set_same, get_or-set_other}
use Rattle.std.specs.List.{slice_get}
use Rattle.std.proofs.lemmas.Bool.{cases_eq}
use Rattle.vod_thin_design.specs.declared.thin.Bit.{Bit}
use Rattle.vod_thin_design.specs.declared.thin.Bit.TheVariants.{X}
use Rattle.vod_thin_design.specs.declared.thin.Driver.{Driver}
use Rattle.vod_thin_design.specs.declared.thin.Block.{Block}
use Rattle.vod_thin_design.specs.Bits.{value_at}
use Rattle.vod_thin_design.specs.Netlist.{Netlist, IsAccepted, targets, input_signals, assigned_registers, initial_registers}
use Rattle.vod_thin_queue.specs.declared.event.Event.TheVariants.{TakeMove, Evaluate, Update, Run, Initialize, Activate, Perform}
use Rattle.vod_thin_queue.specs.State.{State, option_at, list_at, IsShaped}
use Rattle.vod_thin_queue.specs.Step.{Event, is_allowed, after, evaluated, ran, initial_values}
use Rattle.vod_thin_queue.specs.Run.{Steps, input_value}
use Rattle.vod_thin_queue.proofs.Accepted.{input_within, inputs_apart, input_not_target, input_not_register, assigned_is_register, initial_is_register}
use Rattle.vod_thin_queue.proofs.Orderly.{some_within, filled_within}
use Rattle.vod_thin_queue.proofs.Raised.{flag_within}
use Rattle.vod_thin_queue.proofs.Shaped.{IsShaped-after}

-- what an input has once its move is taken
abbrev pub input_end : Netlist → State → ℕ → Bit
input_end d s i = unwrap_or (option_at s.moves i) (input_value d s i)

had : (o : Option Bit) (old : Bit) → is_some o ≡ true → unwrap_or o X ≡ unwrap_or o old
had None old h = cc
had (Some b) old h = refl

input_end-evaluated : (d : Netlist) (j : ℕ) (driver : Option Driver) (s : State) (i : ℕ) → input_end d (evaluated j driver s) i ≡ input_end d s i
input_end-evaluated d j None s i = refl
input_end-evaluated d j (Some driver) s i = refl

input_end-ran : (d : Netlist) (k : ℕ) (block : Option Block) (s : State) (i : ℕ) → input_end d (ran k block s) i ≡ input_end d s i
input_end-ran d k None s i = refl
input_end-ran d k (Some block) s i = refl

-- a signal that is another one was written
input_end-put : (d : Netlist) (s : State) (n : ℕ) (b : Bit) (i : ℕ) → slice_index (input_signals d) i ≢ n → unwrap_or (option_at s.moves i) (value_at (set s.val n b) (slice_index (input_signals d) i)) ≡ input_end d s i
input_end-put d s n b i apart = ap (unwrap_or (option_at s.moves i)) (get_or-set_other s.val n (slice_index (input_signals d) i) b X apart)

pub input_end-after : (d : Netlist) (s : State) (event : Event) (i : ℕ) → IsAccepted d → IsShaped d s → IsTrue (is_allowed s event) → i < length d.inputs → input_end d (after d s event) i ≡ input_end d s i
input_end-after d s (TakeMove m) i a shaped allowed h =
    let within : m < length s.moves = some_within s.moves m allowed in
    let hm : m < length d.inputs = rw (← shaped.moves) within in
    let b = unwrap_or (option_at s.moves m) X in
    ⊎_elim
    (λ same. let none : option_at (set s.moves m None) m ≡ None = get_or-set_same s.moves m None None within in
    let value : value_at (set s.val (slice_index (input_signals d) m) b) (slice_index (input_signals d) m) ≡ b = get_or-set_same s.val (slice_index (input_signals d) m) b X (rw shaped.val (input_within d a m hm)) in
    subst (λ n. input_end d (after d s (TakeMove m)) n ≡ input_end d s n) (sym same) (rw (none, value) (had (option_at s.moves m) (input_value d s m) allowed)))
    (λ apart. let move : option_at (set s.moves m None) i ≡ option_at s.moves i = get_or-set_other s.moves m i None None apart in
    rw move (input_end-put d s (slice_index (input_signals d) m) b i (inputs_apart d a i m h hm apart)))
    (cases_eq i m)
input_end-after d s (Evaluate j) i a shaped allowed h = input_end-evaluated d j (slice_get d.drivers j) s i
input_end-after d s (Update j) i a shaped allowed h =
    input_end-put d s (slice_index (targets d.drivers) j) (unwrap_or (option_at s.pend j) X) i (input_not_target d a i j h (rw (← shaped.pend) (some_within s.pend j allowed)))
input_end-after d s (Run k) i a shaped allowed h = input_end-ran d k (slice_get d.blocks k) s i
input_end-after d s (Initialize m) i a shaped allowed h =
    input_end-put d s (slice_index (initial_registers d.initials) m) (slice_index_or (initial_values d.initials) m X) i
    (input_not_register d a i (slice_index (initial_registers d.initials) m) h (initial_is_register d a m (rw (← shaped.init) (flag_within s.init m allowed))))
input_end-after d s Activate i a shaped allowed h = refl
input_end-after d s (Perform k) i a shaped allowed h =
    input_end-put d s (slice_index (assigned_registers d.blocks) k) (slice_index_or (list_at s.now k) 0 X) i
    (input_not_register d a i (slice_index (assigned_registers d.blocks) k) h (assigned_is_register d a k (rw (← shaped.now) (filled_within s.now k allowed))))

-- so do any events in turn
pub input_end-steps : (d : Netlist) (events : List Event) (s t : State) (i : ℕ) → IsAccepted d → IsShaped d s → Steps d s events t → i < length d.inputs → input_end d t i ≡ input_end d s i
input_end-steps d [] s t i a shaped steps h = ap (λ u. input_end d u i) steps
input_end-steps d (event ∷ events) s t i a shaped steps h =
    input_end-steps d events (after d s event) t i a (IsShaped-after d s event shaped) steps.1 h ∙ input_end-after d s event i a shaped steps.0 h
