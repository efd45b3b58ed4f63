-- In a slot that changes data alone registers, words and edge nets stay as they were, and inputs take what they are given; so every order
-- of its events ends in one state.
use Rattle.std.proofs.Common.{◌≡◌, ◌⊎◌, inl, inr, ℕ, zero, suc, ◌+◌, ◌<◌, not, Bool, true, false, List, [], ◌∷◌, length, map, set, get_or, arith, refl, ap, sym, ◌∙◌, subst, ⊎_elim, All, Option, Some, None, option_map, is_some, unwrap_or, IsTrue, slice_get, get_or-set_same, get_or-set_other}
use Rattle.std.specs.List.{Contains, enumerate_from, list_any}
use Rattle.std.proofs.lemmas.Bool.{cases_eq, and_parts}
use Rattle.std.proofs.lemmas.Option.{same_Some, slice_get_within}
use Rattle.vod_bits.specs.Bit.{Bit, BX}
use Rattle.vod_design.specs.declared.parts.Driver.{Driver}
use Rattle.vod_design.specs.declared.parts.Input.{Input}
use Rattle.vod_design.specs.declared.parts.Signal.{Signal}
use Rattle.vod_design.specs.declared.vector.Move.{Move}
use Rattle.vod_design.specs.Accepted.{IsAccepted, IsToDrive}
use Rattle.vod_design.specs.Lawful.{assigned}
use Rattle.vod_design.specs.Netlist.{Netlist, signal_width, IsNet, IsRegister, IsInput}
use Rattle.vod_design.specs.Nets.{IsEdgeNet}
use Rattle.vod_design.specs.Values.{value_at}
use Rattle.vod_slot.specs.declared.event.Event.TheVariants.{TakeMove, Evaluate, Update as UpdateDriver, Run, Initialize, Activate, Perform}
use Rattle.vod_slot.specs.Store.{Store, Write, bits_written, places_written}
use Rattle.vod_slot.specs.State.{State, option_at, input_signals, opened, IsResting}
use Rattle.vod_slot.specs.Step.{Event, is_allowed, is_filled, has_active, after, put_all, evaluated, target_of}
use Rattle.vod_slot.specs.Run.{Steps, IsSlot, ChangesData}
use Rattle.vod_slot.specs.Settled.{IsConsistent}
use Rattle.vod_slot.specs.Edges.{edge_bit, AreEdgesKept, DoMovesFit}
use Rattle.vod_slot.proofs.Lists.{all_at, default_at}
use Rattle.vod_slot.proofs.Writes.{HangsOnReads}
use Rattle.vod_slot.proofs.Digits.{some_within}
use Rattle.vod_slot.proofs.Targets.{to_drive}
use Rattle.vod_slot.proofs.Paths.{place_in, stands_at}
use Rattle.vod_slot.proofs.Falls.{moves-put_all, init-put_all, later-put_all, now-put_all}
use Rattle.vod_slot.proofs.Ends.{IsConsistent-opened, IsConsistent-after, slot_end}
use Rattle.vod_slot.proofs.Unique.{value_size, same_at_rest}
use Rattle.vod_slot.proofs.Edges.{none_there, signal_at, item_of, lowest_there, AreEdgesKept-after}
use Rattle.vod_slot.proofs.Openings.{inputs_apart}
use Rattle.vod_slot.proofs.Outside.{not_register}
use Rattle.vod_slot.proofs.Room.{IsBetween}
use Rattle.vod_slot.proofs.Rooms.{move_brings, update_brings}
use Rattle.vod_slot.proofs.Calm.{IsCalm, OfNet, OfOther, edges_still, todo_still, nothing_filled, nothing_any, others_kept, memories_kept, bits_of, places_of, value_holds}

-- what an input has at the end
abbrev pub wanted : List Move → Store → ℕ → Input → List Bit
wanted moves store i x = unwrap_or (assigned moves i) (value_at BX store.signals x.signal)

abbrev pub IsGiven : ℕ → Input → List Bit → State → Type 0
IsGiven i x v st = (option_at st.moves i ≡ Some v) ⊎ ((option_at st.moves i ≡ None) × (value_at BX st.store.signals x.signal ≡ v))

-- what each state of such a slot keeps
pub record IsData (d : Netlist) (s : State) (moves : List Move) (st : State) : Type 0 where
  pub calm : IsCalm st
  pub edges : AreEdgesKept d (edge_bit s.store) (edge_bit s.store) st
  pub registers : (n : ℕ) → IsRegister d n → value_at BX st.store.signals n ≡ value_at BX s.store.signals n
  pub memories : st.store.memories ≡ s.store.memories
  pub inputs : (i : ℕ) (x : Input) → slice_get d.inputs i ≡ Some x → IsGiven i x (wanted moves s.store i x) st

between : (d : Netlist) (ranked : List ℕ) → IsAccepted d ranked → (o : ℕ → Bit) (st : State) → IsConsistent d st → AreEdgesKept d o o st → (n : ℕ) → IsEdgeNet d n → IsBetween o o st.store n
between d ranked h o st c kept n net = record { value = kept.values n net; there = lowest_there d ranked h st.store c.shaped.sizes n net }

calm_put : (d : Netlist) (writes : List Write) (s st : State) → IsCalm s → st.init ≡ s.init → (put_all d writes st).todo ≡ s.todo → st.later ≡ s.later → st.now ≡ s.now → IsCalm (put_all d writes st)
calm_put d writes s st calm i t l n = record {
  init = rw (init-put_all d writes st, i) calm.init;
  todo = rw t calm.todo;
  later = rw (later-put_all d writes st, l) calm.later;
  now = rw (now-put_all d writes st, n) calm.now;
}

pub wanted_size : (d : Netlist) (s : State) (moves : List Move) (i : ℕ) (x : Input) (o : Option (List Bit)) → assigned moves i ≡ o → DoMovesFit d moves → IsConsistent d s → slice_get d.inputs i ≡ Some x → x.signal < length d.signals → length (unwrap_or o (value_at BX s.store.signals x.signal)) ≡ signal_width d x.signal
wanted_size d s moves i x None is fit c at lt = value_size s.store d x.signal c.shaped.sizes lt
wanted_size d s moves i x (Some v) is fit c at lt = fit i x v at is

pub net_within : (signals : List Signal) (n : ℕ) (b : Bool) → option_map (λ (s : Signal). s.register) (slice_get signals n) ≡ Some b → n < length signals
net_within [] n b h = absurd (none_there b h)
net_within (s ∷ signals) zero b h = omega arith
net_within (s ∷ signals) (suc n) b h = let l = net_within signals n b h in omega arith

pub input_net : (d : Netlist) (ranked : List ℕ) → IsAccepted d ranked → (i : ℕ) (x : Input) → slice_get d.inputs i ≡ Some x → IsNet d x.signal
input_net d ranked h i x at = all_at (λ (y : Input). IsNet d y.signal) d.inputs i x h.flat.inputs at

taken : (d : Netlist) (ranked : List ℕ) → IsAccepted d ranked → (s : State) (moves : List Move) (st : State) (k : ℕ) → DoMovesFit d moves → IsConsistent d s → IsConsistent d st → is_some (option_at st.moves k) ≡ true → AreEdgesKept d (edge_bit s.store) (edge_bit s.store) (after d st (TakeMove k)) → IsData d s moves st → IsData d s moves (after d st (TakeMove k))
taken d ranked h s moves st k fit cs c allowed edges data_ =
    let o = edge_bit s.store in
    let value = unwrap_or (option_at st.moves k) [] in
    let signal = get_or (input_signals d.inputs) k 0 in
    let writes = bits_written signal 0 value in
    let st' = record st { moves = set st.moves k None } in
    let lk = some_within st.moves k allowed in
    let len = c.shaped.moves in
    let p = item_of d.inputs k (omega arith) in
    let n : signal ≡ p.0.signal = signal_at d.inputs k p.0 p.1 in
    let net : IsNet d signal = subst (IsNet d) (sym n) (input_net d ranked h k p.0 p.1) in
    let of_net : All (OfNet d) writes = bits_of (OfNet d) signal 0 value (λ place bit. net) in
    record {
      calm = calm_put d writes st st' data_.calm refl (todo_still d ranked h o writes st' (between d ranked h o st c data_.edges) (move_brings d o o st k (option_at st.moves k) refl allowed c data_.edges)) refl refl;
      edges = edges;
      registers = λ m register. others_kept d writes st' m (bits_of (OfOther m) signal 0 value (λ place bit same. not_register d m (subst (IsNet d) same net) register)) ∙ data_.registers m register;
      memories = memories_kept d writes st' of_net ∙ data_.memories;
      inputs = λ i x at. ⊎_elim
          (λ same.
          let none : option_at (put_all d writes st').moves i ≡ None = ap (λ xs. option_at xs i) (moves-put_all d writes st') ∙ subst (λ m. option_at (set st.moves k None) m ≡ None) same (get_or-set_same st.moves k None None lk) in
          let is : signal ≡ x.signal = ap (λ m. get_or (input_signals d.inputs) m 0) same ∙ signal_at d.inputs i x at in
          ⊎_elim
          (λ l.
          let v : value ≡ wanted moves s.store i x = ap (λ (q : Option (List Bit)). unwrap_or q []) (ap (option_at st.moves) same ∙ l) in
          let lt : x.signal < length d.signals = net_within d.signals x.signal false (input_net d ranked h i x at) in
          let size : length (wanted moves s.store i x) ≡ signal_width d x.signal = wanted_size d s moves i x (assigned moves i) refl fit cs at lt in
          inr (none, ap (λ ws. value_at BX (put_all d ws st').store.signals x.signal) (ap (λ m. bits_written m 0 value) is ∙ ap (bits_written x.signal 0) v) ∙ value_holds d x.signal (wanted moves s.store i x) st' c.shaped.sizes lt size))
          (λ r. let clash : true ≡ false = sym allowed ∙ ap is_some (ap (option_at st.moves) same ∙ r.0) in absurd (cc))
          (data_.inputs i x at))
          (λ apart.
          let m : option_at (put_all d writes st').moves i ≡ option_at st.moves i = ap (λ xs. option_at xs i) (moves-put_all d writes st') ∙ get_or-set_other st.moves k i None None (λ e. apart (sym e)) in
          let v : value_at BX (put_all d writes st').store.signals x.signal ≡ value_at BX st.store.signals x.signal
          = others_kept d writes st' x.signal (bits_of (OfOther x.signal) signal 0 value (λ place bit same. inputs_apart d.inputs k i p.0 x h.flat.inputs_differ p.1 at apart (sym n ∙ same))) in
          ⊎_elim (λ l. inl (m ∙ l)) (λ r. inr (m ∙ r.0, v ∙ r.1)) (data_.inputs i x at))
          (cases_eq k i);
    }

pub input_is : (d : Netlist) (i : ℕ) (x : Input) → slice_get d.inputs i ≡ Some x → IsInput d x.signal
input_is d i x at = stands_at (map (λ (y : Input). y.signal) d.inputs) i x.signal (mapped d.inputs i at)
  where
    mapped : (inputs : List Input) (i : ℕ) → slice_get inputs i ≡ Some x → slice_get (map (λ (y : Input). y.signal) inputs) i ≡ Some x.signal
    mapped [] i at = absurd (cc)
    mapped (y ∷ inputs) zero at = ap (λ (z : Input). Some z.signal) (same_Some y x at)
    mapped (y ∷ inputs) (suc i) at = mapped inputs i at

updated : (d : Netlist) (ranked : List ℕ) → IsAccepted d ranked → (s : State) (moves : List Move) (st : State) (j : ℕ) (driver : Option Driver) (value : Option (List Bit)) → slice_get d.drivers j ≡ driver → option_at st.pend j ≡ value → is_some value ≡ true → IsConsistent d st → IsData d s moves st →
    AreEdgesKept d (edge_bit s.store) (edge_bit s.store) (put_all d (places_written (target_of driver) (unwrap_or value [])) (record st { pend = set st.pend j None })) →
    IsData d s moves (put_all d (places_written (target_of driver) (unwrap_or value [])) (record st { pend = set st.pend j None }))
updated d ranked h s moves st j None value at is some c data_ edges = record { calm = record { init = data_.calm.init; todo = data_.calm.todo; later = data_.calm.later; now = data_.calm.now }; edges = edges; registers = data_.registers; memories = data_.memories; inputs = data_.inputs }
updated d ranked h s moves st j (Some a) value at is some c data_ edges =
    let o = edge_bit s.store in
    let bits = unwrap_or value [] in
    let writes = places_written a.target bits in
    let st' = record st { pend = set st.pend j None } in
    let drive = to_drive d ranked h j a at in
    record {
      calm = calm_put d writes st st' data_.calm refl (todo_still d ranked h o writes st' (between d ranked h o st c data_.edges) (update_brings d ranked h o o st j (Some a) value at is some data_.edges)) refl refl;
      edges = edges;
      registers = λ m register. others_kept d writes st' m (places_of (OfOther m) (IsToDrive d) (λ b bit to same. not_register d m (subst (IsNet d) same to.net) register) a.target bits drive) ∙ data_.registers m register;
      memories = memories_kept d writes st' (places_of (OfNet d) (IsToDrive d) (λ b bit to. to.net) a.target bits drive) ∙ data_.memories;
      inputs = λ i x at'.
          let m : option_at (put_all d writes st').moves i ≡ option_at st.moves i = ap (λ xs. option_at xs i) (moves-put_all d writes st') in
          let v : value_at BX (put_all d writes st').store.signals x.signal ≡ value_at BX st.store.signals x.signal
          = others_kept d writes st' x.signal (places_of (OfOther x.signal) (IsToDrive d) (λ b bit to same. to.free (subst (IsInput d) (sym same) (input_is d i x at'))) a.target bits drive) in
          ⊎_elim (λ l. inl (m ∙ l)) (λ r. inr (m ∙ r.0, v ∙ r.1)) (data_.inputs i x at');
    }

evaluated_data : (d : Netlist) (s : State) (moves : List Move) (st : State) (j : ℕ) (driver : Option Driver) → AreEdgesKept d (edge_bit s.store) (edge_bit s.store) (evaluated d j driver st) → IsData d s moves st → IsData d s moves (evaluated d j driver st)
evaluated_data d s moves st j None edges data_ = data_
evaluated_data d s moves st j (Some a) edges data_ = record { calm = record { init = data_.calm.init; todo = data_.calm.todo; later = data_.calm.later; now = data_.calm.now }; edges = edges; registers = data_.registers; memories = data_.memories; inputs = data_.inputs }

data_after : (d : Netlist) (ranked : List ℕ) → IsAccepted d ranked → (s : State) (moves : List Move) (st : State) (event : Event) → DoMovesFit d moves → IsConsistent d s → IsConsistent d st → IsTrue (is_allowed st event) → AreEdgesKept d (edge_bit s.store) (edge_bit s.store) (after d st event) → IsData d s moves st → IsData d s moves (after d st event)
data_after d ranked h s moves st (TakeMove k) fit cs c allowed edges data_ = taken d ranked h s moves st k fit cs c allowed edges data_
data_after d ranked h s moves st (Evaluate j) fit cs c allowed edges data_ = evaluated_data d s moves st j (slice_get d.drivers j) edges data_
data_after d ranked h s moves st (UpdateDriver j) fit cs c allowed edges data_ = updated d ranked h s moves st j (slice_get d.drivers j) (option_at st.pend j) refl refl allowed c data_ edges
data_after d ranked h s moves st (Run k) fit cs c allowed edges data_ = absurd (nothing_filled st.todo k data_.calm.todo allowed)
data_after d ranked h s moves st (Initialize m) fit cs c allowed edges data_ = absurd (nothing_filled st.init m data_.calm.init allowed)
data_after d ranked h s moves st Activate fit cs c allowed edges data_ =
    let p = and_parts (not (has_active st)) (list_any is_filled st.later) allowed in
    let clash : true ≡ false = sym p.1 ∙ nothing_any st.later data_.calm.later in absurd (cc)
data_after d ranked h s moves st (Perform k) fit cs c allowed edges data_ = absurd (nothing_filled st.now k data_.calm.now allowed)

pub data_end : HangsOnReads → (d : Netlist) (ranked : List ℕ) → IsAccepted d ranked → (s : State) (moves : List Move) (st t : State) (events : List Event) → DoMovesFit d moves → IsConsistent d s → IsConsistent d st → Steps d st events t → IsData d s moves st → IsData d s moves t
data_end hangs d ranked h s moves st t [] fit cs c steps data_ = subst (IsData d s moves) (sym steps) data_
data_end hangs d ranked h s moves st t (event ∷ events) fit cs c steps data_ =
    let next = IsConsistent-after hangs d ranked st event h c steps.0 in
    let edges = AreEdgesKept-after d ranked (edge_bit s.store) (edge_bit s.store) st event h c data_.edges steps.0 in
    data_end hangs d ranked h s moves (after d st event) t events fit cs next steps.1 (data_after d ranked h s moves st event fit cs c steps.0 edges data_)

pub opened_at : {A : Type 0} (f : ℕ → Option (List Bit)) (m : ℕ) (xs : List A) (i : ℕ) → i < length xs → option_at (map (λ (e : ℕ × A). f e.0) (enumerate_from m xs)) i ≡ f (m + i)
opened_at f m [] i h = absurd (omega arith)
opened_at f m (x ∷ xs) zero h = let same : m + 0 ≡ m = omega arith in sym (ap f same)
opened_at f m (x ∷ xs) (suc i) h = let same : m + suc i ≡ m + 1 + i = omega arith in opened_at f (m + 1) xs i (omega arith) ∙ sym (ap f same)

pub given_first : (moves : List Move) (s st : State) (i : ℕ) (x : Input) (o : Option (List Bit)) → assigned moves i ≡ o → option_at st.moves i ≡ assigned moves i → st.store ≡ s.store → IsGiven i x (unwrap_or o (value_at BX s.store.signals x.signal)) st
given_first moves s st i x None is m same = inr (m ∙ is, ap (λ (q : Store). value_at BX q.signals x.signal) same)
given_first moves s st i x (Some v) is m same = inl (m ∙ is)

pub data_opened : (d : Netlist) (ranked : List ℕ) → IsAccepted d ranked → (s : State) (moves : List Move) → IsConsistent d s → IsResting s → ChangesData d s moves → IsData d s moves (opened d moves s)
data_opened d ranked h s moves c rests changes = record {
  calm = record { init = rests.init; todo = rests.todo; later = rests.later; now = rests.now };
  edges = edges_still d ranked s moves h c rests changes;
  registers = λ n register. refl;
  memories = refl;
  inputs = λ i x at.
      let same : 0 + i ≡ i = omega arith in
      given_first moves s (opened d moves s) i x (assigned moves i) refl (opened_at (assigned moves) 0 d.inputs i (slice_get_within d.inputs i x at) ∙ ap (assigned moves) same) refl;
}

pub unmapped : (inputs : List Input) (i n : ℕ) → slice_get (map (λ (y : Input). y.signal) inputs) i ≡ Some n → (k : ℕ) × (x : Input) × (slice_get inputs k ≡ Some x) × (x.signal ≡ n)
unmapped [] i n at = absurd (none_there n at)
unmapped (y ∷ inputs) zero n at = (0, y, refl, same_Some y.signal n at)
unmapped (y ∷ inputs) (suc i) n at = let p = unmapped inputs i n at in (suc p.0, p.1, p.2, p.3)

-- every order ends in one state
pub data_slot : HangsOnReads → (d : Netlist) (ranked : List ℕ) (s t u : State) (moves : List Move) → IsAccepted d ranked → IsConsistent d s → DoMovesFit d moves → ChangesData d s moves → IsSlot d s moves t → IsSlot d s moves u → t ≡ u
data_slot hangs d ranked s t u moves h c fit changes to_t to_u =
    let st = opened d moves s in
    let open_ = IsConsistent-opened d s moves c in
    let first = data_opened d ranked h s moves c to_t.opens changes in
    let a = data_end hangs d ranked h s moves st t to_t.completes.events fit c open_ to_t.completes.steps first in
    let b = data_end hangs d ranked h s moves st u to_u.completes.events fit c open_ to_u.completes.steps first in
    let at_t = (slot_end hangs d ranked st t h open_ to_t.completes).0 in
    let at_u = (slot_end hangs d ranked st u h open_ to_u.completes).0 in
    same_at_rest hangs d ranked t u h at_t at_u to_t.completes.ends to_u.completes.ends
    (record {
      registers = λ n register. a.registers n register ∙ sym (b.registers n register);
      inputs = λ n input.
          let p = input_at d.inputs n input in
          let v = last t to_t.completes.ends p.0 p.1 (a.inputs p.0 p.1 p.2) in
          let w = last u to_u.completes.ends p.0 p.1 (b.inputs p.0 p.1 p.2) in
          subst (λ m. value_at BX t.store.signals m ≡ value_at BX u.store.signals m) p.3 (v ∙ sym w);
      memories = a.memories ∙ sym b.memories;
    })
  where
    last : (st : State) → IsResting st → (i : ℕ) (x : Input) → IsGiven i x (wanted moves s.store i x) st → value_at BX st.store.signals x.signal ≡ wanted moves s.store i x
    last st rests i x given = ⊎_elim (λ l. absurd (none_there (wanted moves s.store i x) (sym (default_at None st.moves rests.moves i) ∙ l))) (λ r. r.1) given

    input_at : (inputs : List Input) (n : ℕ) → Contains (map (λ (y : Input). y.signal) inputs) n → (i : ℕ) × (x : Input) × (slice_get inputs i ≡ Some x) × (x.signal ≡ n)
    input_at inputs n stands = let p = place_in (map (λ (y : Input). y.signal) inputs) n stands in unmapped inputs p.0 n p.1
