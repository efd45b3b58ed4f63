-- What an event does, as the code does it part by part.
use Rattle.std.proofs.Common.{◌≡◌, ℕ, ◌+◌, ◌<◌, ◌++◌, not, Bool, true, false, List, [], ◌∷◌, length, take, map, drop, get_or, arith, refl, ap, sym, ◌∙◌, All, Option, Some, None, is_some, IsTrue, unwrap_or, slice_set, slice_index, slice_index_or}
use Rattle.std.specs.List.{slice_get}
use Rattle.std.proofs.lemmas.List.{get_or_read}
use Rattle.std.proofs.lemmas.List.Elements.{All-head, All-tail}
use Rattle.vod_thin_design.specs.declared.thin.Bit.{Bit}
use Rattle.vod_thin_design.specs.declared.thin.Bit.TheVariants.{X}
use Rattle.vod_thin_design.specs.declared.thin.Driver.{Driver}
use Rattle.vod_thin_design.specs.declared.thin.Block.{Block}
use Rattle.vod_thin_design.specs.Bits.{value_at, same_bit}
use Rattle.vod_thin_design.specs.Expr.{value_of}
use Rattle.vod_thin_design.specs.Netlist.{Netlist, targets, input_signals, assigned_registers, initial_registers}
use Rattle.vod_thin_queue.specs.declared.event.Event.TheVariants.{TakeMove, Evaluate, Update, Run, Initialize, Activate, Perform}
use Rattle.vod_thin_queue.specs.declared.fanout.Listeners.{Listeners}
use Rattle.vod_thin_queue.specs.State.{State, option_at, flag_at, list_at, IsShaped}
use Rattle.vod_thin_queue.specs.Step.{after, put, is_rising, is_allowed, pending, initial_values, reads_signal, waits_for}
use Rattle.vod_thin_queue.specs.Flags.{set_where}
use Rattle.vod_thin_queue.specs.Index.{IsIndex, AreListeners}
use Rattle.vod_thin_queue.proofs.Choices.{idle}
use Rattle.vod_thin_queue.proofs.Raised.{set_where-listed, listed_within}

-- the listed places are those of flags
pub listed_in : {A : Type 0} (test : ℕ → A → Bool) (items : List A) (signals : ℕ) (lists : List (List ℕ)) (s : ℕ) (places : List ℕ) (flags : List Bool) → IsIndex test items signals lists → s < signals → places ≡ list_at lists s → length flags ≡ length items → All (λ k. k < length flags) places
listed_in test items signals lists s places flags index h is len = rw (is, len) (listed_within test items signals lists s index h)

-- where the bit was written and the listed flags were set, the signal was put
pub put-done : (d : Netlist) (s : ℕ) (b old : Bit) (st now : State) (listeners : Listeners) (readers waiters : List ℕ) (wake todo : List Bool) (test edge : Bool) → now ≡ st → IsShaped d st → AreListeners d listeners → s < length d.signals → old ≡ get_or now.val s old →
    test ≡ not (same_bit old b) → edge ≡ is_rising old b → readers ≡ list_at listeners.readers s → waiters ≡ list_at listeners.waiters s → wake ≡ set_where test now.wake readers → todo ≡ set_where edge now.todo waiters →
    record now { val = slice_set now.val s b; wake = wake; todo = todo } ≡ put d s b st
put-done d s b old st now listeners readers waiters wake todo test edge same shaped listed within is_old is_test is_edge are_readers are_waiters is_wake is_todo =
    let old_is : old ≡ value_at now.val s = get_or_read now.val s old (rw (same, shaped.val) within) is_old X in
    rw (
      ← same,
      is_wake,
      is_todo,
      are_readers,
      are_waiters,
      is_test,
      is_edge,
      old_is,
      set_where-listed (not (same_bit (value_at now.val s) b)) reads_signal d.drivers (length d.signals) listeners.readers s now.wake listed.readers within,
      set_where-listed (is_rising (value_at now.val s) b) waits_for d.blocks (length d.signals) listeners.waiters s now.todo listed.waiters within,
    ) refl

nils : (xs ys : List (List Bit)) → length ys ≡ length xs → All (λ y. y ≡ []) ys → ys ≡ map (λ x. []) xs
nils [] [] len all = refl
nils [] (y ∷ ys) len all = absurd (omega arith)
nils (x ∷ xs) [] len all = absurd (omega arith)
nils (x ∷ xs) (y ∷ ys) len all =
    let here = All-head (λ z. z ≡ []) y ys all in
    let rest = nils xs ys (omega arith) (All-tail (λ z. z ≡ []) y ys all) in
    rw (here, rest) refl

pub activate-done : (s before : State) → before ≡ s → (later active : List (List Bit)) → later ≡ before.now → active ≡ before.later → length s.later ≡ length s.now → is_allowed s Activate ≡ true →
    record before { later = later; now = active } ≡ record s { later = map (λ updates. []) s.later; now = s.later }
activate-done s before same later active is_later is_active shaped allowed =
    let none : s.now ≡ map (λ updates. []) s.later = nils s.later s.now (sym shaped) (idle s allowed).now in
    rw (is_later, is_active, same, none) refl
