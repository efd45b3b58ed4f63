-- Edge nets as a slot begins: what each has, and what its input brings.
use Rattle.std.proofs.Common.{◌≡◌, ◌≢◌, ◌⊎◌, inl, inr, ℕ, zero, suc, ◌+◌, ◌==◌, Bool, true, false, if◌then◌else◌, List, [], ◌∷◌, length, map, flat_map, take, drop, set, get_or, replicate, arith, refl, ap, sym, ◌∙◌, subst, ⊎_elim, All, AllPairs, Option, Some, None, is_some, unwrap_or, IsTrue, slice_get, get_or-set_same, get_or-set_other}
use Rattle.std.specs.List.{Contains, enumerate_from}
use Rattle.std.proofs.lemmas.Bool.{cases_eq, cases_order, or_cases, eqb-true}
use Rattle.std.proofs.lemmas.List.Elements.{All-contains}
use Rattle.std.proofs.lemmas.Option.{same_Some, slice_get_within, get_or_from_slice_get}
use Rattle.vod_bits.specs.Bit.{Bit, BX, BZ}
use Rattle.vod_bits.specs.Value.{upper_bit}
use Rattle.vod_design.specs.declared.parts.Driver.{Driver}
use Rattle.vod_design.specs.declared.parts.InitialAssign.{InitialAssign}
use Rattle.vod_design.specs.declared.parts.Input.{Input}
use Rattle.vod_design.specs.declared.parts.Signal.{Signal}
use Rattle.vod_design.specs.declared.statement.Statement.{Statement}
use Rattle.vod_design.specs.declared.vector.Move.{Move}
use Rattle.vod_design.specs.Accepted.{IsAccepted, IsToDrive}
use Rattle.vod_design.specs.Lawful.{assigned}
use Rattle.vod_design.specs.Netlist.{Netlist, width_in, signal_width}
use Rattle.vod_design.specs.Nets.{IsEdgeNet}
use Rattle.vod_design.specs.Values.{value_at}
use Rattle.vod_slot.specs.declared.event.Event.TheVariants.{TakeMove, Evaluate, Update as UpdateDriver, Run, Initialize, Activate, Perform}
use Rattle.vod_slot.specs.Store.{Write, ToBit, list_at, bit_in, brought, bits_at, bits_written, places_written}
use Rattle.vod_slot.specs.State.{State, option_at, input_signals, is_input, first_value, start_of, opened, IsResting}
use Rattle.vod_slot.specs.Step.{Event, is_allowed, after, put_all, evaluated, target_of, ran, initial_written, update_written}
use Rattle.vod_slot.specs.Run.{Steps, Completes}
use Rattle.vod_slot.specs.Shape.{UpdateWrites, InitialWrites}
use Rattle.vod_slot.specs.Settled.{IsSettled, IsConsistent}
use Rattle.vod_slot.specs.Edges.{IsLink, edge_bit, AreEdgesKept, DoMovesFit}
use Rattle.vod_slot.proofs.Lists.{all_at, all_in, default_at}
use Rattle.vod_slot.proofs.Replaced.{in_within}
use Rattle.vod_slot.proofs.Writes.{HangsOnReads}
use Rattle.vod_slot.proofs.Digits.{some_within}
use Rattle.vod_slot.proofs.Puts.{Misses, bit_at-kept, bits-miss, places-miss}
use Rattle.vod_slot.proofs.Targets.{some_of, to_drive}
use Rattle.vod_slot.proofs.Paths.{stands_at}
use Rattle.vod_slot.proofs.Falls.{moves-put_all}
use Rattle.vod_slot.proofs.Ends.{IsConsistent-opened, IsConsistent-after, can_complete, slot_end, IsSettled-at_rest}
use Rattle.vod_slot.proofs.Links.{lowest, target_net, one_target, link_brings, single}
use Rattle.vod_slot.proofs.Edges.{none_there, signal_at, item_of, no_link, one_written, updates_missed, initials_missed, drives, lowest_there}

-- slot 0

first_at : (inputs : List Input) (m : ℕ) (signals : List Signal) (n : ℕ) → width_in signals n ≡ 1 → bit_in (value_at BX (map (λ e. first_value inputs e.0 e.1) (enumerate_from m signals)) n) 0 ≡ (if is_input inputs (m + n) then BZ else BX)
first_at inputs m [] n one = absurd (cc)
first_at inputs m (s ∷ signals) zero one =
    let b = if is_input inputs m then BZ else BX in
    let w : s.width ≡ 1 = one in
    let same : m + 0 ≡ m = omega arith in
    ap (λ k. bit_in (replicate k b) 0) w ∙ in_within (b ∷ []) 0 (omega arith) ∙ ap (λ k. if is_input inputs k then BZ else BX) (sym same)
first_at inputs m (s ∷ signals) (suc n) one =
    let same : m + 1 + n ≡ m + suc n = omega arith in
    first_at inputs (m + 1) signals n one ∙ ap (λ k. if is_input inputs k then BZ else BX) same

start_bit : (d : Netlist) (n : ℕ) → signal_width d n ≡ 1 → edge_bit (start_of d).store n ≡ (if is_input d.inputs n then BZ else BX)
start_bit d n one = let same : 0 + n ≡ n = omega arith in first_at d.inputs 0 d.signals n one ∙ ap (λ k. if is_input d.inputs k then BZ else BX) same

either : (b : Bool) → ((if b then BZ else BX) ≡ BX) ⊎ ((if b then BZ else BX) ≡ BZ)
either true = inr refl
either false = inl refl

none_in : {A : Type 0} (n i : ℕ) (v : A) → option_at (replicate n None) i ≡ Some v → ⊥
none_in zero i v h = none_there v h
none_in (suc n) zero v h = none_there v h
none_in (suc n) (suc i) v h = none_in n i v h

z_or_x : (b : Bool) → (if b then BZ else BX) ≡ BZ → b ≡ true
z_or_x true h = refl
z_or_x false h = absurd (cc)

input_found : (inputs : List Input) (n : ℕ) → is_input inputs n ≡ true → (i : ℕ) × (x : Input) × (slice_get inputs i ≡ Some x) × (x.signal ≡ n)
input_found [] n h = absurd (cc)
input_found (x ∷ inputs) n h = ⊎_elim (λ here. (0, x, refl, eqb-true x.signal n here)) (λ later. let p = input_found inputs n later in (suc p.0, p.1, p.2, p.3)) (or_cases (x.signal == n) (is_input inputs n) h)

pub AreEdgesKept-start_of : (d : Netlist) (ranked : List ℕ) → IsAccepted d ranked → AreEdgesKept d (λ n. BX) (λ n. BZ) (start_of d)
AreEdgesKept-start_of d ranked h = record {
  values = λ n net. ⊎_elim (λ x. inl (start_bit d n (h.edge_bits n net) ∙ x)) (λ z. inr (start_bit d n (h.edge_bits n net) ∙ z)) (either (is_input d.inputs n));
  moves = λ i x v at net is. absurd (none_in (length d.inputs) i v is);
  sources = λ j from to a l is.
      let input = z_or_x (is_input d.inputs to) (sym (start_bit d to (h.edge_bits to (target_net d j from to a l))) ∙ is) in
      let p = input_found d.inputs to input in
      absurd (no_link d ranked h p.0 j from to p.1 a p.2 p.3 l);
  pend = λ j from to a v l is. absurd (none_in (length d.drivers) j v is);
  openings_agree = λ j from to a l. refl;
  brought_agree = λ j from to a l. refl;
}

-- what an input has, or is about to have

abbrev IsGiven : ℕ → ℕ → Bit → State → Type 0
IsGiven i n bit st = (option_at st.moves i ≡ Some (bit ∷ [])) ⊎ ((option_at st.moves i ≡ None) × (edge_bit st.store n ≡ bit))

given_missed : (d : Netlist) (i n : ℕ) (bit : Bit) (s st : State) (writes : List Write) → All (Misses (lowest n)) writes → option_at st.moves i ≡ option_at s.moves i → st.store ≡ s.store → IsGiven i n bit s → IsGiven i n bit (put_all d writes st)
given_missed d i n bit s st writes miss m same given =
    let moves : option_at (put_all d writes st).moves i ≡ option_at s.moves i = ap (λ xs. option_at xs i) (moves-put_all d writes st) ∙ m in
    ⊎_elim (λ l. inl (moves ∙ l)) (λ r. inr (moves ∙ r.0, bit_at-kept d writes st (lowest n) miss ∙ ap (λ store. edge_bit store n) same ∙ r.1)) given

pub inputs_apart : (inputs : List Input) (i k : ℕ) (x y : Input) → AllPairs (λ a b. a.signal ≢ b.signal) inputs → slice_get inputs i ≡ Some x → slice_get inputs k ≡ Some y → i ≢ k → x.signal ≢ y.signal
inputs_apart inputs i k x y once at at' apart =
    ⊎_elim
    (λ same. absurd (apart same))
    (λ order. ⊎_elim
    (λ lt. λ e. once i k x lt (slice_get_within inputs k y at') (ap (λ (a : Input). a.signal) (get_or_from_slice_get inputs i x x at) ∙ e ∙ sym (ap (λ (a : Input). a.signal) (get_or_from_slice_get inputs k y x at'))))
    (λ gt. λ e. once k i x gt (slice_get_within inputs i x at) (ap (λ (a : Input). a.signal) (get_or_from_slice_get inputs k y x at') ∙ sym e ∙ sym (ap (λ (a : Input). a.signal) (get_or_from_slice_get inputs i x x at))))
    order)
    (cases_order i k)

given_taken : (d : Netlist) (ranked : List ℕ) → IsAccepted d ranked → (i k : ℕ) (x : Input) (bit : Bit) (s : State) → slice_get d.inputs i ≡ Some x → IsEdgeNet d x.signal → IsConsistent d s → is_some (option_at s.moves k) ≡ true → IsGiven i x.signal bit s → IsGiven i x.signal bit (after d s (TakeMove k))
given_taken d ranked h i k x bit s at net c allowed given =
    let st = record s { moves = set s.moves k None } in
    let value = unwrap_or (option_at s.moves k) [] in
    let signal = get_or (input_signals d.inputs) k 0 in
    let lt = some_within s.moves k allowed in
    let len = c.shaped.moves in
    ⊎_elim
    (λ same.
    let none : option_at (put_all d (bits_written signal 0 value) st).moves i ≡ None
    = ap (λ xs. option_at xs i) (moves-put_all d (bits_written signal 0 value) st) ∙ subst (λ m. option_at (set s.moves k None) m ≡ None) same (get_or-set_same s.moves k None None lt) in
    ⊎_elim
    (λ l.
    let v : value ≡ bit ∷ [] = ap (λ (o : Option (List Bit)). unwrap_or o []) (ap (option_at s.moves) same ∙ l) in
    let n : signal ≡ x.signal = ap (λ m. get_or (input_signals d.inputs) m 0) same ∙ signal_at d.inputs i x at in
    let w : bits_written signal 0 value ≡ ToBit x.signal 0 bit ∷ [] = ap (λ m. bits_written m 0 value) n ∙ ap (bits_written x.signal 0) v in
    inr (none, ap (λ ws. edge_bit (put_all d ws st).store x.signal) w ∙ one_written d x.signal bit st (lowest_there d ranked h s.store c.shaped.sizes x.signal net)))
    (λ r. let clash : true ≡ false = sym allowed ∙ ap is_some (ap (option_at s.moves) same ∙ r.0) in absurd (cc))
    given)
    (λ apart.
    let p = item_of d.inputs k (omega arith) in
    let n : signal ≡ p.0.signal = signal_at d.inputs k p.0 p.1 in
    given_missed d i x.signal bit s st (bits_written signal 0 value)
    (bits-miss (lowest x.signal) signal 0 value (λ e. inputs_apart d.inputs k i p.0 x h.flat.inputs_differ p.1 at apart (sym n ∙ e)))
    (get_or-set_other s.moves k i None None (λ e. apart (sym e))) refl given)
    (cases_eq k i)

given_updated : (d : Netlist) (ranked : List ℕ) → IsAccepted d ranked → (i j : ℕ) (x : Input) (bit : Bit) (s : State) (o : Option Driver) (v : List Bit) → slice_get d.inputs i ≡ Some x → slice_get d.drivers j ≡ o → IsGiven i x.signal bit s →
    IsGiven i x.signal bit (put_all d (places_written (target_of o) v) (record s { pend = set s.pend j None }))
given_updated d ranked h i j x bit s None v at is given = given
given_updated d ranked h i j x bit s (Some a) v at is given =
    given_missed d i x.signal bit s (record s { pend = set s.pend j None }) (places_written a.target v)
    (places-miss (lowest x.signal) a.target v
    (⊎_elim
    (λ stands. absurd ((All-contains (IsToDrive d) a.target (lowest x.signal) (to_drive d ranked h j a is) stands).free (input_is d.inputs i at)))
    (λ apart. apart)
    (drives a.target (lowest x.signal))))
    refl refl given
  where
    mapped : (inputs : List Input) (i : ℕ) → slice_get inputs i ≡ Some x → slice_get (map (λ (y : Input). y.signal) inputs) i ≡ Some x.signal
    mapped [] i at = absurd (cc)
    mapped (y ∷ inputs) zero at = ap (λ (z : Input). Some z.signal) (same_Some y x at)
    mapped (y ∷ inputs) (suc i) at = mapped inputs i at

    input_is : (inputs : List Input) (i : ℕ) → slice_get inputs i ≡ Some x → Contains (map (λ (y : Input). y.signal) inputs) x.signal
    input_is inputs i at = stands_at (map (λ (y : Input). y.signal) inputs) i x.signal (mapped inputs i at)

given_evaluated : (d : Netlist) (i j n : ℕ) (bit : Bit) (o : Option Driver) (s : State) → IsGiven i n bit s → IsGiven i n bit (evaluated d j o s)
given_evaluated d i j n bit None s given = given
given_evaluated d i j n bit (Some a) s given = given

given_ran : (d : Netlist) (i k n : ℕ) (bit : Bit) (statements : List Statement) (s : State) → IsGiven i n bit s → IsGiven i n bit (ran d k statements s)
given_ran d i k n bit [] s given = given
given_ran d i k n bit (t ∷ statements) s given = given

given_after : (d : Netlist) (ranked : List ℕ) → IsAccepted d ranked → (i : ℕ) (x : Input) (bit : Bit) (s : State) (event : Event) → slice_get d.inputs i ≡ Some x → IsEdgeNet d x.signal → IsConsistent d s → IsTrue (is_allowed s event) → IsGiven i x.signal bit s → IsGiven i x.signal bit (after d s event)
given_after d ranked h i x bit s (TakeMove k) at net c allowed given = given_taken d ranked h i k x bit s at net c allowed given
given_after d ranked h i x bit s (Evaluate j) at net c allowed given = given_evaluated d i j x.signal bit (slice_get d.drivers j) s given
given_after d ranked h i x bit s (UpdateDriver j) at net c allowed given = given_updated d ranked h i j x bit s (slice_get d.drivers j) (unwrap_or (option_at s.pend j) []) at refl given
given_after d ranked h i x bit s (Run k) at net c allowed given = given_ran d i k x.signal bit (list_at s.todo k) s given
given_after d ranked h i x bit s (Initialize m) at net c allowed given =
    given_missed d i x.signal bit s (record s { init = set s.init m (drop 1 (list_at s.init m)) }) (flat_map (λ (y : InitialAssign). initial_written y.target y.value) (take 1 (list_at s.init m)))
    (initials_missed d ranked h (take 1 (list_at s.init m)) (some_of (λ (y : InitialAssign). InitialWrites d y.target) (list_at s.init m) (all_in (λ (y : InitialAssign). InitialWrites d y.target) s.init m c.registers.init)) x.signal net)
    refl refl given
given_after d ranked h i x bit s Activate at net c allowed given = given
given_after d ranked h i x bit s (Perform m) at net c allowed given =
    given_missed d i x.signal bit s (record s { now = set s.now m (drop 1 (list_at s.now m)) }) (flat_map update_written (take 1 (list_at s.now m)))
    (updates_missed d ranked h (take 1 (list_at s.now m)) (some_of (UpdateWrites d) (list_at s.now m) (all_in (UpdateWrites d) s.now m c.registers.now)) x.signal net)
    refl refl given

given_end : HangsOnReads → (d : Netlist) (ranked : List ℕ) → IsAccepted d ranked → (i : ℕ) (x : Input) (bit : Bit) (s t : State) (events : List Event) → slice_get d.inputs i ≡ Some x → IsEdgeNet d x.signal → IsConsistent d s → Steps d s events t → IsGiven i x.signal bit s → IsGiven i x.signal bit t
given_end hangs d ranked h i x bit s t [] at net c steps given = subst (IsGiven i x.signal bit) (sym steps) given
given_end hangs d ranked h i x bit s t (event ∷ events) at net c steps given =
    given_end hangs d ranked h i x bit (after d s event) t events at net (IsConsistent-after hangs d ranked s event h c steps.0) steps.1 (given_after d ranked h i x bit s event at net c steps.0 given)

-- a slot opens

pub moves_at : {A : Type 0} (f : ℕ → Option (List Bit)) (m : ℕ) (xs : List A) (i : ℕ) (v : List Bit) → option_at (map (λ (e : ℕ × A). f e.0) (enumerate_from m xs)) i ≡ Some v → f (m + i) ≡ Some v
moves_at f m [] i v h = absurd (none_there v h)
moves_at f m (x ∷ xs) zero v h = let same : m + 0 ≡ m = omega arith in ap f same ∙ h
moves_at f m (x ∷ xs) (suc i) v h = let same : m + suc i ≡ m + 1 + i = omega arith in ap f same ∙ moves_at f (m + 1) xs i v h

pub link_settled : (d : Netlist) (ranked : List ℕ) → IsAccepted d ranked → (s : State) → IsConsistent d s → IsSettled d s.store → (j from to : ℕ) (a : Driver) → IsLink d j a from to → edge_bit s.store to ≡ edge_bit s.store from
link_settled d ranked h s c settled j from to a l =
    let has : bits_at s.store a.target ≡ edge_bit s.store to ∷ [] = ap (bits_at s.store) (one_target d ranked h j from to a l) in
    let e : edge_bit s.store to ∷ [] ≡ edge_bit s.store from ∷ []
    = sym has ∙ all_at (λ (x : Driver). bits_at s.store x.target ≡ brought d s.store x) d.drivers j a settled l.at ∙ link_brings d ranked h s.store c.shaped.sizes j from to a l in
    ap upper_bit e

-- what a slot brings its edge nets is what they have at an end of it
pub edges_opened : HangsOnReads → (d : Netlist) (ranked : List ℕ) (s t : State) (moves : List Move) → IsAccepted d ranked → IsConsistent d s → IsResting s → DoMovesFit d moves → Completes d (opened d moves s) t → AreEdgesKept d (edge_bit s.store) (edge_bit t.store) (opened d moves s)
edges_opened hangs d ranked s t moves h c rests fit completes =
    let st = opened d moves s in
    let open_ = IsConsistent-opened d s moves c in
    let end = slot_end hangs d ranked st t h open_ completes in
    let brings : ℕ → Bit = edge_bit t.store in
    let here = link_settled d ranked h s c (IsSettled-at_rest d s c rests) in
    let there = link_settled d ranked h t end.0 end.1 in
    record {
      values = λ n net. inl refl;
      moves = λ i x v at net is.
          let same : 0 + i ≡ i = omega arith in
          let given : assigned moves i ≡ Some v = ap (assigned moves) (sym same) ∙ moves_at (assigned moves) 0 d.inputs i v is in
          let one : v ≡ bit_in v 0 ∷ [] = single v (fit i x v at given ∙ h.edge_bits x.signal net) in
          let last = given_end hangs d ranked h i x (bit_in v 0) st t completes.events at net open_ completes.steps (inl (is ∙ ap Some one)) in
          let bit : edge_bit t.store x.signal ≡ bit_in v 0
          = ⊎_elim (λ l. absurd (none_there (bit_in v 0 ∷ []) (sym (default_at None t.moves completes.ends.moves i) ∙ l))) (λ r. r.1) last in
          one ∙ ap (λ b. b ∷ []) (sym bit);
      sources = λ j from to a l is. sym (here j from to a l) ∙ is ∙ there j from to a l;
      pend = λ j from to a v l is. absurd (none_there v (sym (default_at None s.pend rests.pend j) ∙ is));
      openings_agree = here;
      brought_agree = there;
    }

pub AreEdgesKept-opened : HangsOnReads → (d : Netlist) (ranked : List ℕ) (s : State) (moves : List Move) → IsAccepted d ranked → IsConsistent d s → IsResting s → DoMovesFit d moves → (brings : ℕ → Bit) × AreEdgesKept d (edge_bit s.store) brings (opened d moves s)
AreEdgesKept-opened hangs d ranked s moves h c rests fit =
    let p = can_complete hangs d ranked (opened d moves s) h (IsConsistent-opened d s moves c) in
    (edge_bit p.0.store, edges_opened hangs d ranked s p.0 moves h c rests fit p.1)
