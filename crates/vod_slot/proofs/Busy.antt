-- What each state keeps until updates are activated: but for edge nets all has its opening value, and no other driver is awake.
use Rattle.std.proofs.Common.{◌≡◌, ◌≢◌, ◌⊎◌, inl, inr, ℕ, zero, suc, ◌+◌, ◌<◌, ◌==◌, ◌&&◌, nat_le, nat_lt, Bool, true, false, List, [], ◌∷◌, ◌++◌, length, set, get_or, arith, refl, ap, sym, ◌∙◌, subst, ⊎_elim, All, Option, Some, None, is_some, unwrap_or, IsTrue, slice_get, get_or-set_same, get_or-set_other}
use Rattle.std.proofs.lemmas.Bool.{cases_eq, cases_Bool, and_parts, eqb-true}
use Rattle.std.proofs.lemmas.List.Elements.{All-head, All-tail, All-weaker}
use Rattle.std.proofs.lemmas.Option.{slice_get_within, get_or_from_slice_get}
use Rattle.vod_bits.specs.Bit.{Bit, BX}
use Rattle.vod_design.specs.declared.parts.Block.{Block}
use Rattle.vod_design.specs.declared.parts.Driver.{Driver}
use Rattle.vod_design.specs.declared.parts.Edge.{Edge}
use Rattle.vod_design.specs.declared.parts.Input.{Input}
use Rattle.vod_design.specs.declared.read.Read.{Read}
use Rattle.vod_design.specs.declared.read.Read.TheVariants.{Whole, Bits, Word, Ram}
use Rattle.vod_design.specs.declared.statement.Statement.{Statement}
use Rattle.vod_design.specs.declared.statement.Statement.TheViews.{out-Statement}
use Rattle.vod_design.specs.declared.vector.Class.{Class}
use Rattle.vod_design.specs.declared.vector.Class.TheVariants.{Clock, Reset, Data}
use Rattle.vod_design.specs.Accepted.{IsAccepted}
use Rattle.vod_design.specs.Netlist.{Netlist}
use Rattle.vod_design.specs.Nets.{Touches, ReadsNet, Copies, itself, IsEdgeNet}
use Rattle.vod_design.specs.Reads.{reads}
use Rattle.vod_design.specs.Values.{bounded, value_at}
use Rattle.vod_slot.specs.declared.event.Event.TheVariants.{TakeMove, Evaluate, Update as UpdateDriver, Run, Initialize, Activate, Perform}
use Rattle.vod_slot.specs.Store.{Store, ToBit, touches, feeds_driver, bit_replaced, list_at, bits_written, places_written, brought, bits_at}
use Rattle.vod_slot.specs.State.{State, Update, option_at, flag_at, input_signals}
use Rattle.vod_slot.specs.Step.{Event, is_allowed, is_filled, after, put, put_all, pending, evaluated, target_of, starts, operand, next_after, updates_of, ran}
use Rattle.vod_slot.specs.Shape.{sizes, widths}
use Rattle.vod_slot.specs.Settled.{IsConsistent}
use Rattle.vod_slot.specs.Edges.{IsLink, edge_bit, AreEdgesKept}
use Rattle.vod_slot.specs.Room.{reset_nets, nets_of}
use Rattle.vod_slot.proofs.Lists.{all_one, all_at}
use Rattle.vod_slot.proofs.Writes.{HangsOnReads}
use Rattle.vod_slot.proofs.Digits.{some_within}
use Rattle.vod_slot.proofs.Raised.{passes_at, passes_at-at}
use Rattle.vod_slot.proofs.Stacks.{list_within}
use Rattle.vod_slot.proofs.Paths.{found, stands_at}
use Rattle.vod_slot.proofs.Outside.{flag_kept}
use Rattle.vod_slot.proofs.Links.{lowest, target_net, one_target}
use Rattle.vod_slot.proofs.Edges.{none_there, left_at, signal_at, item_of}
use Rattle.vod_slot.proofs.Room.{Brings, IsBetween, begun_at}
use Rattle.vod_slot.proofs.Rooms.{nets_edges}
use Rattle.vod_slot.proofs.Calm.{data_no_edge, nothing_filled}
use Rattle.vod_slot.proofs.Starts.{had_start, HasOneEdge, AreBetween, block_turn}
use Rattle.vod_slot.proofs.Settling.{between}
use Rattle.vod_slot.proofs.Bodies.{Value}
use Rattle.vod_slot.proofs.Own.{IsStill, IsReset, body_own, own_agrees, ResetNet}
use Rattle.vod_slot.proofs.Stages.{value_in, IsRunning, IsStage, reset_there, stage_turn, stage_ran}
use Rattle.vod_slot.proofs.Still.{same_value}

-- a driver that copies an edge net
abbrev pub IsLinked : Netlist → ℕ → Driver → Type 0
IsLinked d j a = (from : ℕ) × (to : ℕ) × IsLink d j a from to

pub record IsBusy (d : Netlist) (opening : Store) (e : ℕ → Bit) (st : State) : Type 0 where
  pub init : All (λ assigns. assigns ≡ []) st.init
  pub now : All (λ updates. updates ≡ []) st.now
  pub still : IsStill d opening st.store
  pub memories : st.store.memories ≡ opening.memories
  pub quiet : (j : ℕ) (a : Driver) → slice_get d.drivers j ≡ Some a → IsLinked d j a ⊎ ((flag_at st.wake j ≡ false) × (option_at st.pend j ≡ None))
  pub moves : (i : ℕ) (x : Input) (v : List Bit) → slice_get d.inputs i ≡ Some x → x.class ≡ Data → option_at st.moves i ≡ Some v → value_at BX opening.signals x.signal ≡ v
  pub stages : (k : ℕ) (b : Block) → slice_get d.blocks k ≡ Some b → IsStage d b (value_in d opening e b) (had_start (edge_bit opening) (edge_bit st.store) b) (list_at st.todo k) (list_at st.later k)

-- what the slot brings each block
abbrev pub HaveOneEdge : Netlist → Store → (ℕ → Bit) → Type 0
HaveOneEdge d opening e = (k : ℕ) (b : Block) → slice_get d.blocks k ≡ Some b → HasOneEdge (edge_bit opening) e b

-- a driver that reads an edge net copies it
touched : (n p : ℕ) (bit : Bit) (r : Read) → touches (ToBit n p bit) r ≡ true → Touches n r
touched n p bit (Whole m) is = sym (eqb-true n m is)
touched n p bit (Bits m low width) is = sym (eqb-true n m (and_parts (n == m) (nat_le low p && nat_lt p (low + bounded width)) is).0)
touched n p bit (Word memory place) is = absurd (cc)
touched n p bit (Ram memory) is = absurd (cc)

pub reader_linked : (d : Netlist) (ranked : List ℕ) → IsAccepted d ranked → (n : ℕ) (bit : Bit) → IsEdgeNet d n → (j : ℕ) (a : Driver) → slice_get d.drivers j ≡ Some a → feeds_driver (ToBit n 0 bit) a ≡ true → IsLinked d j a
reader_linked d ranked h n bit net j a at is =
    let f = found (touches (ToBit n 0 bit)) (reads a.value) is in
    let any : ReadsNet n a.value = (f.0, f.1, slice_get_within (reads a.value) f.0 f.1 f.2, get_or_from_slice_get (reads a.value) f.0 f.1 f.1 f.2, touched n 0 bit f.1 f.3) in
    let c = all_at (λ (x : Driver). (m : ℕ) → IsEdgeNet d m → ReadsNet m x.value → (to : ℕ) × Copies m to x) d.drivers j a h.edge_readers at n net any in
    (n, c.0, record { at = at; copies = c.1; net = net })

one_flag : (d : Netlist) (n : ℕ) (bit : Bit) (st : State) (j : ℕ) (a : Driver) → slice_get d.drivers j ≡ Some a → feeds_driver (ToBit n 0 bit) a ≡ false → flag_at (put d (ToBit n 0 bit) st).wake j ≡ flag_at st.wake j
one_flag d n bit st j a at is =
    let w = ToBit n 0 bit in
    flag_kept d (w ∷ []) st j (all_one (λ v. passes_at (feeds_driver v) d.drivers j ≡ false) w (passes_at-at (feeds_driver w) d.drivers j a at ∙ is))

brings_one : (e : ℕ → Bit) (n m : ℕ) → Brings e m (ToBit n 0 (e n))
brings_one e n m = ⊎_elim (λ same. subst (λ k. Brings e k (ToBit n 0 (e n))) same (inr refl)) (λ apart. inl (inl apart)) (cases_eq n m)

-- an edge net takes what is brought
edge_put : (d : Netlist) (ranked : List ℕ) → IsAccepted d ranked → (opening : Store) (e : ℕ → Bit) (n : ℕ) (st : State) → HaveOneEdge d opening e → IsEdgeNet d n → AreBetween d (edge_bit opening) e st.store → length st.todo ≡ length d.blocks → IsBusy d opening e st → IsBusy d opening e (put d (ToBit n 0 (e n)) st)
edge_put d ranked h opening e n st one net between len busy =
    let w = ToBit n 0 (e n) in
    let o = edge_bit opening in
    record {
      init = busy.init;
      now = busy.now;
      still = λ m. ⊎_elim (λ same. inr (subst (IsEdgeNet d) same net))
          (λ apart. ⊎_elim (λ l. inl (get_or-set_other st.store.signals n m (bit_replaced 0 (e n) (value_at BX st.store.signals n)) (BX ∷ []) (λ f. apart (sym f)) ∙ l)) (λ r. inr r) (busy.still m))
          (cases_eq n m);
      memories = busy.memories;
      quiet = λ j a at. ⊎_elim
          (λ reads_it. inl (reader_linked d ranked h n (e n) net j a at reads_it))
          (λ free. ⊎_elim (λ l. inl l) (λ r. inr (one_flag d n (e n) st j a at free ∙ r.0, r.1)) (busy.quiet j a at))
          (cases_Bool (feeds_driver w a));
      moves = busy.moves;
      stages = λ k b at.
          let nets = nets_edges d ranked h k b at in
          let lt : k < length st.todo = (let l = slice_get_within d.blocks k b at in omega arith) in
          let turn = block_turn o e st.store w b (one k b at) (All-weaker (IsEdgeNet d) (IsBetween o e st.store) between (nets_of b) nets) (All-weaker (IsEdgeNet d) (λ m. Brings e m w) (λ m is. brings_one e n m) (nets_of b) nets) in
          subst (λ todo. IsStage d b (value_in d opening e b) (had_start o (edge_bit (put d w st).store) b) todo (list_at st.later k)) (sym (begun_at (starts st.store w) d.blocks st.todo k b at lt))
          (stage_turn d b (value_in d opening e b) (starts st.store w b) (had_start o (edge_bit st.store) b) (had_start o (edge_bit (put d w st).store) b) (list_at st.todo k) (list_at st.later k) (body_own d ranked h k b at) turn (busy.stages k b at));
    }

-- events

none_stays : {A : Type 0} (xs : List (Option A)) (i k : ℕ) → option_at xs k ≡ None → option_at (set xs i None) k ≡ None
none_stays [] i k h = h
none_stays (x ∷ xs) zero zero h = refl
none_stays (x ∷ xs) zero (suc k) h = h
none_stays (x ∷ xs) (suc i) zero h = h
none_stays (x ∷ xs) (suc i) (suc k) h = none_stays xs i k h

move_gone : (d : Netlist) (opening : Store) (e : ℕ → Bit) (i : ℕ) (st : State) → IsBusy d opening e st → IsBusy d opening e (record st { moves = set st.moves i None })
move_gone d opening e i st busy = record {
  init = busy.init;
  now = busy.now;
  still = busy.still;
  memories = busy.memories;
  quiet = busy.quiet;
  moves = λ m x v at data_ is. busy.moves m x v at data_ (left_at st.moves i m v is);
  stages = busy.stages;
}

pend_gone : (d : Netlist) (opening : Store) (e : ℕ → Bit) (j : ℕ) (st : State) → IsBusy d opening e st → IsBusy d opening e (record st { pend = set st.pend j None })
pend_gone d opening e j st busy = record {
  init = busy.init;
  now = busy.now;
  still = busy.still;
  memories = busy.memories;
  quiet = λ k a at. ⊎_elim (λ l. inl l) (λ r. inr (r.0, none_stays st.pend j k r.1)) (busy.quiet k a at);
  moves = busy.moves;
  stages = busy.stages;
}

pub class_of : (c : Class) → (c ≡ Data) ⊎ (c ≢ Data)
class_of Clock = inr (λ e. clash e)
  where
    clash : Clock ≡ Data → ⊥
    clash e = absurd (cc)
class_of Reset = inr (λ e. clash e)
  where
    clash : Reset ≡ Data → ⊥
    clash e = absurd (cc)
class_of Data = inl refl

busy_moved : (d : Netlist) (ranked : List ℕ) → IsAccepted d ranked → (opening : Store) (e : ℕ → Bit) (i : ℕ) (st : State) (value : Option (List Bit)) → option_at st.moves i ≡ value → is_some value ≡ true → HaveOneEdge d opening e → IsConsistent d st → AreEdgesKept d (edge_bit opening) e st → IsBusy d opening e st →
    IsBusy d opening e (put_all d (bits_written (get_or (input_signals d.inputs) i 0) 0 (unwrap_or value [])) (record st { moves = set st.moves i None }))
busy_moved d ranked h opening e i st None is some one c kept busy = absurd (cc)
busy_moved d ranked h opening e i st (Some v) is some one c kept busy =
    let st' = record st { moves = set st.moves i None } in
    let lt : i < length d.inputs = (let l = some_within st.moves i (ap is_some is ∙ some) in let w = c.shaped.moves in omega arith) in
    let p = item_of d.inputs i lt in
    let x = p.0 in
    let signal : get_or (input_signals d.inputs) i 0 ≡ x.signal = signal_at d.inputs i x p.1 in
    let gone = move_gone d opening e i st busy in
    ⊎_elim
    (λ is_data.
    let same : value_at BX st.store.signals x.signal ≡ value_at BX opening.signals x.signal
    = ⊎_elim (λ l. l) (λ net. absurd (data_no_edge d ranked h i x net.input p.1 net.stands is_data net.edge x.signal refl net.follows)) (busy.still x.signal) in
    let unchanged : put_all d (bits_written (get_or (input_signals d.inputs) i 0) 0 v) st' ≡ st'
    = ap (λ m. put_all d (bits_written m 0 v) st') signal ∙ same_value d x.signal v st' (sym (same ∙ busy.moves i x v p.1 is_data is)) in
    subst (IsBusy d opening e) (sym unchanged) gone)
    (λ apart.
    let net : IsEdgeNet d x.signal = record { input = x; stands = stands_at d.inputs i x p.1; edge = apart; follows = itself } in
    let v_is : v ≡ e x.signal ∷ [] = kept.moves i x v p.1 net is in
    let writes : bits_written (get_or (input_signals d.inputs) i 0) 0 v ≡ ToBit x.signal 0 (e x.signal) ∷ [] = ap (λ m. bits_written m 0 v) signal ∙ ap (bits_written x.signal 0) v_is in
    subst (λ ws. IsBusy d opening e (put_all d ws st')) (sym writes) (edge_put d ranked h opening e x.signal st' one net (between d ranked h (edge_bit opening) e st c kept) c.shaped.todo gone))
    (class_of x.class)

busy_updated : (d : Netlist) (ranked : List ℕ) → IsAccepted d ranked → (opening : Store) (e : ℕ → Bit) (j : ℕ) (st : State) (driver : Option Driver) (value : Option (List Bit)) → slice_get d.drivers j ≡ driver → option_at st.pend j ≡ value → is_some value ≡ true → HaveOneEdge d opening e → IsConsistent d st → AreEdgesKept d (edge_bit opening) e st → IsBusy d opening e st →
    IsBusy d opening e (put_all d (places_written (target_of driver) (unwrap_or value [])) (record st { pend = set st.pend j None }))
busy_updated d ranked h opening e j st driver None at is some one c kept busy = absurd (cc)
busy_updated d ranked h opening e j st None (Some v) at is some one c kept busy = pend_gone d opening e j st busy
busy_updated d ranked h opening e j st (Some a) (Some v) at is some one c kept busy =
    let st' = record st { pend = set st.pend j None } in
    ⊎_elim
    (λ l.
    let link : IsLink d j a l.0 l.1 = l.2 in
    let to = l.1 in
    let v_is : v ≡ e to ∷ [] = (kept.pend j l.0 to a v link is).0 in
    let writes : places_written a.target v ≡ ToBit to 0 (e to) ∷ [] = ap (λ ps. places_written ps v) (one_target d ranked h j l.0 to a link) ∙ ap (places_written (lowest to ∷ [])) v_is in
    subst (λ ws. IsBusy d opening e (put_all d ws st')) (sym writes) (edge_put d ranked h opening e to st' one (target_net d j l.0 to a link) (between d ranked h (edge_bit opening) e st c kept) c.shaped.todo (pend_gone d opening e j st busy)))
    (λ r. absurd (none_there v (sym r.1 ∙ is)))
    (busy.quiet j a at)

busy_evaluated : (d : Netlist) (opening : Store) (e : ℕ → Bit) (j : ℕ) (driver : Option Driver) (st : State) → slice_get d.drivers j ≡ driver → flag_at st.wake j ≡ true → IsBusy d opening e st → IsBusy d opening e (evaluated d j driver st)
busy_evaluated d opening e j None st at awake busy = busy
busy_evaluated d opening e j (Some a) st at awake busy = record {
  init = busy.init;
  now = busy.now;
  still = busy.still;
  memories = busy.memories;
  quiet = λ k x is. ⊎_elim
      (λ l. inl l)
      (λ r. ⊎_elim
      (λ same. let clash : true ≡ false = sym awake ∙ ap (flag_at st.wake) same ∙ r.0 in absurd (cc))
      (λ apart. inr (get_or-set_other st.wake j k false false (λ f. apart (sym f)) ∙ r.0, get_or-set_other st.pend j k (pending (brought d st.store a) (bits_at st.store a.target)) None (λ f. apart (sym f)) ∙ r.1))
      (cases_eq j k))
      (busy.quiet k x is);
  moves = busy.moves;
  stages = busy.stages;
}

-- a block with statements left runs
filled_running : (d : Netlist) (b : Block) (value : Value) (went : Bool) (s : Statement) (ss : List Statement) (later : List Update) → IsStage d b value went (s ∷ ss) later → (went ≡ true) × IsRunning d b value (s ∷ ss) later
filled_running d b value true s ss later stage = (refl, stage)
filled_running d b value false s ss later stage = let clash : suc (length ss) ≡ 0 = ap length stage.0 in absurd (omega arith)

pub reset_net : (d : Netlist) (ranked : List ℕ) → IsAccepted d ranked → (k : ℕ) (b : Block) → slice_get d.blocks k ≡ Some b → ResetNet d b.reset
reset_net d ranked h k b at = nets b.reset (nets_edges d ranked h k b at)
  where
    nets : (r : Option Edge) → All (IsEdgeNet d) (b.clock.signal ∷ reset_nets r) → ResetNet d r
    nets None each = tt
    nets (Some x) each = All-head (IsEdgeNet d) x.signal [] (All-tail (IsEdgeNet d) b.clock.signal (x.signal ∷ []) each)

busy_ran : HangsOnReads → (d : Netlist) (ranked : List ℕ) → IsAccepted d ranked → (opening : Store) (e : ℕ → Bit) (m : ℕ) (statements : List Statement) (st : State) → sizes opening ≡ widths d → HaveOneEdge d opening e → list_at st.todo m ≡ statements → is_filled statements ≡ true → IsConsistent d st → AreEdgesKept d (edge_bit opening) e st → IsBusy d opening e st →
    IsBusy d opening e (ran d m statements st)
busy_ran hangs d ranked h opening e m [] st so one is filled c kept busy = busy
busy_ran hangs d ranked h opening e m (s ∷ ss) st so one is filled c kept busy =
    let here = operand d st.store in
    let x = out-Statement s in
    let todo = next_after here x ++ ss in
    let later = list_at st.later m ++ updates_of here x in
    let lt : m < length st.todo = list_within st.todo m (ap is_filled is ∙ filled) in
    let lt' : m < length st.later = (let a = c.shaped.todo in let b = c.shaped.later in omega arith) in
    let o = edge_bit opening in
    record {
      init = busy.init;
      now = busy.now;
      still = busy.still;
      memories = busy.memories;
      quiet = busy.quiet;
      moves = busy.moves;
      stages = λ k b at.
          let value = value_in d opening e b in
          let went = had_start o (edge_bit st.store) b in
          ⊎_elim
          (λ same.
          let todo_is : list_at (set st.todo m todo) k ≡ todo = subst (λ n. list_at (set st.todo m todo) n ≡ todo) same (get_or-set_same st.todo m todo [] lt) in
          let later_is : list_at (set st.later m later) k ≡ later = subst (λ n. list_at (set st.later m later) n ≡ later) same (get_or-set_same st.later m later [] lt') in
          let was : list_at st.todo k ≡ s ∷ ss = ap (list_at st.todo) (sym same) ∙ is in
          let had : list_at st.later k ≡ list_at st.later m = ap (list_at st.later) (sym same) in
          let stage : IsStage d b value went (s ∷ ss) (list_at st.later m) = subst (λ us. IsStage d b value went (s ∷ ss) us) had (subst (λ ts. IsStage d b value went ts (list_at st.later k)) was (busy.stages k b at)) in
          let r = filled_running d b value went s ss (list_at st.later m) stage in
          let nets = nets_edges d ranked h k b at in
          let there : IsReset e st.store b.reset = reset_there o e st.store b (one k b at) (All-weaker (IsEdgeNet d) (IsBetween o e st.store) (between d ranked h o e st c kept) (nets_of b) nets) r.0 in
          let next = stage_ran d b value here s ss (list_at st.later m) (λ ex own. own_agrees hangs d ranked h e opening st.store b.reset ex so c.shaped.sizes (reset_net d ranked h k b at) busy.still there busy.memories own) r.1 in
          subst (λ g. IsStage d b value g (list_at (set st.todo m todo) k) (list_at (set st.later m later) k)) (sym r.0)
          (subst (λ us. IsRunning d b value (list_at (set st.todo m todo) k) us) (sym later_is) (subst (λ ts. IsRunning d b value ts later) (sym todo_is) next)))
          (λ apart.
          let todo_is : list_at (set st.todo m todo) k ≡ list_at st.todo k = get_or-set_other st.todo m k todo [] (λ f. apart (sym f)) in
          let later_is : list_at (set st.later m later) k ≡ list_at st.later k = get_or-set_other st.later m k later [] (λ f. apart (sym f)) in
          subst (λ us. IsStage d b value went (list_at (set st.todo m todo) k) us) (sym later_is) (subst (λ ts. IsStage d b value went ts (list_at st.later k)) (sym todo_is) (busy.stages k b at)))
          (cases_eq m k);
    }

-- whatever isn't an activation
abbrev pub IsOther : Event → Type 0
IsOther (TakeMove i) = Unit {0}
IsOther (Evaluate j) = Unit {0}
IsOther (UpdateDriver j) = Unit {0}
IsOther (Run k) = Unit {0}
IsOther (Initialize m) = Unit {0}
IsOther Activate = ⊥
IsOther (Perform k) = Unit {0}

pub busy_after : HangsOnReads → (d : Netlist) (ranked : List ℕ) → IsAccepted d ranked → (opening : Store) (e : ℕ → Bit) (st : State) (event : Event) → sizes opening ≡ widths d → HaveOneEdge d opening e → IsConsistent d st → IsTrue (is_allowed st event) → AreEdgesKept d (edge_bit opening) e st → IsOther event → IsBusy d opening e st → IsBusy d opening e (after d st event)
busy_after hangs d ranked h opening e st (TakeMove i) so one c allowed kept other busy = busy_moved d ranked h opening e i st (option_at st.moves i) refl allowed one c kept busy
busy_after hangs d ranked h opening e st (Evaluate j) so one c allowed kept other busy = busy_evaluated d opening e j (slice_get d.drivers j) st refl allowed busy
busy_after hangs d ranked h opening e st (UpdateDriver j) so one c allowed kept other busy = busy_updated d ranked h opening e j st (slice_get d.drivers j) (option_at st.pend j) refl refl allowed one c kept busy
busy_after hangs d ranked h opening e st (Run k) so one c allowed kept other busy = busy_ran hangs d ranked h opening e k (list_at st.todo k) st so one refl allowed c kept busy
busy_after hangs d ranked h opening e st (Initialize m) so one c allowed kept other busy = absurd (nothing_filled st.init m busy.init allowed)
busy_after hangs d ranked h opening e st Activate so one c allowed kept other busy = absurd other
busy_after hangs d ranked h opening e st (Perform k) so one c allowed kept other busy = absurd (nothing_filled st.now k busy.now allowed)
