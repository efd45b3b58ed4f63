-- Inputs take what they are given: what each event keeps of this.
use Rattle.std.proofs.Common.{◌≡◌, inl, inr, ℕ, ◌+◌, ◌<◌, true, false, List, [], ◌∷◌, length, flat_map, take, drop, set, get_or, arith, refl, ap, sym, ◌∙◌, subst, ⊎_elim, All, Option, Some, None, is_some, unwrap_or, IsTrue, slice_get, get_or-set_same, get_or-set_other}
use Rattle.std.proofs.lemmas.Bool.{cases_eq}
use Rattle.std.proofs.lemmas.Option.{slice_get_within}
use Rattle.vod_bits.specs.Bit.{Bit, BX}
use Rattle.vod_design.specs.declared.parts.Driver.{Driver}
use Rattle.vod_design.specs.declared.parts.InitialAssign.{InitialAssign}
use Rattle.vod_design.specs.declared.parts.InitialTarget.{InitialTarget}
use Rattle.vod_design.specs.declared.parts.InitialTarget.TheVariants as initial
use Rattle.vod_design.specs.declared.parts.Input.{Input}
use Rattle.vod_design.specs.declared.sized.Variable.TheVariants as variable
use Rattle.vod_design.specs.declared.statement.Statement.{Statement}
use Rattle.vod_design.specs.declared.statement.Target.{Target}
use Rattle.vod_design.specs.declared.statement.Target.TheVariants.{Bits, Word}
use Rattle.vod_design.specs.declared.vector.Move.{Move}
use Rattle.vod_design.specs.Accepted.{IsAccepted, IsToDrive}
use Rattle.vod_design.specs.Lawful.{assigned}
use Rattle.vod_design.specs.Netlist.{Netlist, signal_width, IsNet, IsRegister, IsInput}
use Rattle.vod_design.specs.Values.{value_at}
use Rattle.vod_slot.specs.declared.event.Event.TheVariants.{TakeMove, Evaluate, Update as UpdateDriver, Run, Initialize, Activate, Perform}
use Rattle.vod_slot.specs.Store.{Store, Write, ToWord, list_at, bits_written, places_written}
use Rattle.vod_slot.specs.State.{State, Piece, Update, option_at, input_signals, opened}
use Rattle.vod_slot.specs.Step.{Event, is_allowed, after, put_all, evaluated, target_of, ran, target_written, update_written, initial_written}
use Rattle.vod_slot.specs.Run.{Steps, IsSlot}
use Rattle.vod_slot.specs.Shape.{TargetWrites, UpdateWrites, InitialWrites}
use Rattle.vod_slot.specs.Settled.{IsConsistent}
use Rattle.vod_slot.specs.Edges.{DoMovesFit}
use Rattle.vod_slot.proofs.Lists.{all_none, all_one, all_in, default_at}
use Rattle.vod_slot.proofs.Writes.{HangsOnReads}
use Rattle.vod_slot.proofs.Digits.{some_within}
use Rattle.vod_slot.proofs.Targets.{all_flat, some_of, to_drive}
use Rattle.vod_slot.proofs.Falls.{moves-put_all}
use Rattle.vod_slot.proofs.Ends.{IsConsistent-opened, IsConsistent-after}
use Rattle.vod_slot.proofs.Outside.{not_register}
use Rattle.vod_slot.proofs.Edges.{none_there, signal_at, item_of}
use Rattle.vod_slot.proofs.Openings.{inputs_apart}
use Rattle.vod_slot.proofs.Calm.{OfOther, others_kept, bits_of, places_of, value_holds}
use Rattle.vod_slot.proofs.Data.{wanted, IsGiven, wanted_size, net_within, input_net, input_is, given_first, opened_at}

given_put : (d : Netlist) (i : ℕ) (x : Input) (v : List Bit) (s st : State) (writes : List Write) → All (OfOther x.signal) writes → option_at st.moves i ≡ option_at s.moves i → st.store ≡ s.store → IsGiven i x v s → IsGiven i x v (put_all d writes st)
given_put d i x v s st writes others m same given =
    let moves : option_at (put_all d writes st).moves i ≡ option_at s.moves i = ap (λ xs. option_at xs i) (moves-put_all d writes st) ∙ m in
    let value : value_at BX (put_all d writes st).store.signals x.signal ≡ value_at BX s.store.signals x.signal = others_kept d writes st x.signal others ∙ ap (λ (q : Store). value_at BX q.signals x.signal) same in
    ⊎_elim (λ l. inl (moves ∙ l)) (λ r. inr (moves ∙ r.0, value ∙ r.1)) given

register_bits : (d : Netlist) (n m low : ℕ) (value : List Bit) → IsNet d n → IsRegister d m → All (OfOther n) (bits_written m low value)
register_bits d n m low value net register = bits_of (OfOther n) m low value (λ place bit same. not_register d n net (subst (IsRegister d) same register))

target_other : (d : Netlist) (n : ℕ) (t : Option Target) (value : List Bit) → IsNet d n → TargetWrites d t → All (OfOther n) (target_written t value)
target_other d n None value net h = all_none (OfOther n)
target_other d n (Some (Bits (variable.Signal m) low)) value net h = register_bits d n m low value net h
target_other d n (Some (Bits (variable.Local m) low)) value net h = all_none (OfOther n)
target_other d n (Some (Word memory place)) value net h = all_one (OfOther n) (ToWord memory place value) tt

updates_other : (d : Netlist) (n : ℕ) (us : List Update) → IsNet d n → All (UpdateWrites d) us → All (OfOther n) (flat_map update_written us)
updates_other d n us net each =
    all_flat (UpdateWrites d) (OfOther n) update_written us (λ u writes. all_flat (λ (p : Piece). TargetWrites d p.target) (OfOther n) (λ p. target_written p.target p.value) u (λ p target. target_other d n p.target p.value net target) writes) each

initial_other : (d : Netlist) (n : ℕ) (t : InitialTarget) (value : List Bit) → IsNet d n → InitialWrites d t → All (OfOther n) (initial_written t value)
initial_other d n (initial.Register m) value net h = register_bits d n m 0 value net h
initial_other d n (initial.Word memory place) value net h = all_one (OfOther n) (ToWord memory place value) tt

given_taken : (d : Netlist) (ranked : List ℕ) → IsAccepted d ranked → (i k : ℕ) (x : Input) (v : List Bit) (s : State) → slice_get d.inputs i ≡ Some x → length v ≡ signal_width d x.signal → IsConsistent d s → is_some (option_at s.moves k) ≡ true → IsGiven i x v s → IsGiven i x v (after d s (TakeMove k))
given_taken d ranked h i k x v s at size c allowed given =
    let st = record s { moves = set s.moves k None } in
    let value = unwrap_or (option_at s.moves k) [] in
    let signal = get_or (input_signals d.inputs) k 0 in
    let lk = some_within s.moves k allowed in
    let len = c.shaped.moves in
    ⊎_elim
    (λ same.
    let none : option_at (put_all d (bits_written signal 0 value) st).moves i ≡ None
    = ap (λ xs. option_at xs i) (moves-put_all d (bits_written signal 0 value) st) ∙ subst (λ m. option_at (set s.moves k None) m ≡ None) same (get_or-set_same s.moves k None None lk) in
    let is : signal ≡ x.signal = ap (λ m. get_or (input_signals d.inputs) m 0) same ∙ signal_at d.inputs i x at in
    ⊎_elim
    (λ l.
    let w : value ≡ v = ap (λ (q : Option (List Bit)). unwrap_or q []) (ap (option_at s.moves) same ∙ l) in
    let lt : x.signal < length d.signals = net_within d.signals x.signal false (input_net d ranked h i x at) in
    inr (none, ap (λ ws. value_at BX (put_all d ws st).store.signals x.signal) (ap (λ m. bits_written m 0 value) is ∙ ap (bits_written x.signal 0) w) ∙ value_holds d x.signal v st c.shaped.sizes lt size))
    (λ r. let clash : true ≡ false = sym allowed ∙ ap is_some (ap (option_at s.moves) same ∙ r.0) in absurd (cc))
    given)
    (λ apart.
    let p = item_of d.inputs k (omega arith) in
    let n : signal ≡ p.0.signal = signal_at d.inputs k p.0 p.1 in
    given_put d i x v s st (bits_written signal 0 value) (bits_of (OfOther x.signal) signal 0 value (λ place bit same. inputs_apart d.inputs k i p.0 x h.flat.inputs_differ p.1 at apart (sym n ∙ same)))
    (get_or-set_other s.moves k i None None (λ e. apart (sym e))) refl given)
    (cases_eq k i)

given_updated : (d : Netlist) (ranked : List ℕ) → IsAccepted d ranked → (i j : ℕ) (x : Input) (v : List Bit) (s : State) (o : Option Driver) (bits : List Bit) → slice_get d.inputs i ≡ Some x → slice_get d.drivers j ≡ o → IsGiven i x v s → IsGiven i x v (put_all d (places_written (target_of o) bits) (record s { pend = set s.pend j None }))
given_updated d ranked h i j x v s None bits at is given = given
given_updated d ranked h i j x v s (Some a) bits at is given =
    given_put d i x v s (record s { pend = set s.pend j None }) (places_written a.target bits)
    (places_of (OfOther x.signal) (IsToDrive d) (λ b bit to same. to.free (subst (IsInput d) (sym same) (input_is d i x at))) a.target bits (to_drive d ranked h j a is)) refl refl given

given_evaluated : (d : Netlist) (i j : ℕ) (x : Input) (v : List Bit) (o : Option Driver) (s : State) → IsGiven i x v s → IsGiven i x v (evaluated d j o s)
given_evaluated d i j x v None s given = given
given_evaluated d i j x v (Some a) s given = given

given_ran : (d : Netlist) (i k : ℕ) (x : Input) (v : List Bit) (statements : List Statement) (s : State) → IsGiven i x v s → IsGiven i x v (ran d k statements s)
given_ran d i k x v [] s given = given
given_ran d i k x v (t ∷ statements) s given = given

pub given_after : (d : Netlist) (ranked : List ℕ) → IsAccepted d ranked → (i : ℕ) (x : Input) (v : List Bit) (s : State) (event : Event) → slice_get d.inputs i ≡ Some x → length v ≡ signal_width d x.signal → IsConsistent d s → IsTrue (is_allowed s event) → IsGiven i x v s → IsGiven i x v (after d s event)
given_after d ranked h i x v s (TakeMove k) at size c allowed given = given_taken d ranked h i k x v s at size c allowed given
given_after d ranked h i x v s (Evaluate j) at size c allowed given = given_evaluated d i j x v (slice_get d.drivers j) s given
given_after d ranked h i x v s (UpdateDriver j) at size c allowed given = given_updated d ranked h i j x v s (slice_get d.drivers j) (unwrap_or (option_at s.pend j) []) at refl given
given_after d ranked h i x v s (Run k) at size c allowed given = given_ran d i k x v (list_at s.todo k) s given
given_after d ranked h i x v s (Initialize m) at size c allowed given =
    given_put d i x v s (record s { init = set s.init m (drop 1 (list_at s.init m)) }) (flat_map (λ (a : InitialAssign). initial_written a.target a.value) (take 1 (list_at s.init m)))
    (all_flat (λ (a : InitialAssign). InitialWrites d a.target) (OfOther x.signal) (λ (a : InitialAssign). initial_written a.target a.value) (take 1 (list_at s.init m)) (λ a writes. initial_other d x.signal a.target a.value (input_net d ranked h i x at) writes)
    (some_of (λ (a : InitialAssign). InitialWrites d a.target) (list_at s.init m) (all_in (λ (a : InitialAssign). InitialWrites d a.target) s.init m c.registers.init))) refl refl given
given_after d ranked h i x v s Activate at size c allowed given = given
given_after d ranked h i x v s (Perform m) at size c allowed given =
    given_put d i x v s (record s { now = set s.now m (drop 1 (list_at s.now m)) }) (flat_map update_written (take 1 (list_at s.now m)))
    (updates_other d x.signal (take 1 (list_at s.now m)) (input_net d ranked h i x at) (some_of (UpdateWrites d) (list_at s.now m) (all_in (UpdateWrites d) s.now m c.registers.now))) refl refl given

pub given_end : HangsOnReads → (d : Netlist) (ranked : List ℕ) → IsAccepted d ranked → (i : ℕ) (x : Input) (v : List Bit) (s t : State) (events : List Event) → slice_get d.inputs i ≡ Some x → length v ≡ signal_width d x.signal → IsConsistent d s → Steps d s events t → IsGiven i x v s → IsGiven i x v t
given_end hangs d ranked h i x v s t [] at size c steps given = subst (IsGiven i x v) (sym steps) given
given_end hangs d ranked h i x v s t (event ∷ events) at size c steps given =
    given_end hangs d ranked h i x v (after d s event) t events at size (IsConsistent-after hangs d ranked s event h c steps.0) steps.1 (given_after d ranked h i x v s event at size c steps.0 given)

-- after a slot each input has what it was given, or what it had
pub input_end : HangsOnReads → (d : Netlist) (ranked : List ℕ) (s t : State) (moves : List Move) (i : ℕ) (x : Input) → IsAccepted d ranked → IsConsistent d s → DoMovesFit d moves → IsSlot d s moves t → slice_get d.inputs i ≡ Some x → value_at BX t.store.signals x.signal ≡ unwrap_or (assigned moves i) (value_at BX s.store.signals x.signal)
input_end hangs d ranked s t moves i x h c fit slot at =
    let st = opened d moves s in
    let lt : x.signal < length d.signals = net_within d.signals x.signal false (input_net d ranked h i x at) in
    let size = wanted_size d s moves i x (assigned moves i) refl fit c at lt in
    let same : 0 + i ≡ i = omega arith in
    let first = given_first moves s st i x (assigned moves i) refl (opened_at (assigned moves) 0 d.inputs i (slice_get_within d.inputs i x at) ∙ ap (assigned moves) same) refl in
    let last = given_end hangs d ranked h i x (wanted moves s.store i x) st t slot.completes.events at size (IsConsistent-opened d s moves c) slot.completes.steps first in
    ⊎_elim (λ l. absurd (none_there (wanted moves s.store i x) (sym (default_at None t.moves slot.completes.ends.moves i) ∙ l))) (λ r. r.1) last
