-- Where nothing but nonblocking assign updates is left, edge nets have what is brought, and each block has what its body leaves. So
-- registers and words come to the same in every order.
use Rattle.std.proofs.Common.{◌≡◌, inl, ℕ, zero, suc, ◌<◌, ◌||◌, Bool, true, false, List, [], ◌∷◌, ◌++◌, length, map, flat_map, get_or, arith, refl, ap, sym, ◌∙◌, subst, ⊎_elim, All, AllPairs, Option, Some, None, is_some, slice_get}
use Rattle.std.specs.List.{Contains, list_any}
use Rattle.std.proofs.lemmas.Bool.{cases_lt}
use Rattle.std.proofs.lemmas.List.{append-nil, ext_get_or, get_or_past, length-map}
use Rattle.std.proofs.lemmas.List.Elements.{All-head, All-tail, All-cons, All-weaker}
use Rattle.std.proofs.lemmas.Option.{same_Some, slice_get_within, get_or_from_slice_get}
use Rattle.vod_bits.specs.Bit.{Bit}
use Rattle.vod_design.specs.declared.parts.Block.{Block}
use Rattle.vod_design.specs.declared.parts.Edge.{Edge}
use Rattle.vod_design.specs.declared.parts.InitialAssign.{InitialAssign}
use Rattle.vod_design.specs.declared.parts.Input.{Input}
use Rattle.vod_design.specs.declared.parts.Signal.{Signal}
use Rattle.vod_design.specs.declared.statement.Statement.{Statement}
use Rattle.vod_design.specs.declared.vector.Class.TheVariants.{Data}
use Rattle.vod_design.specs.Accepted.{IsAccepted}
use Rattle.vod_design.specs.Netlist.{Netlist}
use Rattle.vod_design.specs.Nets.{Follows, itself, copied, IsEdgeNet}
use Rattle.vod_design.specs.Uses.{Written, written_by}
use Rattle.vod_slot.specs.declared.event.Event.TheVariants.{Activate}
use Rattle.vod_slot.specs.Store.{Store, Write, list_at}
use Rattle.vod_slot.specs.State.{State, Update, IsResting}
use Rattle.vod_slot.specs.Step.{is_filled, has_active, after, update_written}
use Rattle.vod_slot.specs.Shape.{sizes, widths, UpdateWrites}
use Rattle.vod_slot.specs.Settled.{IsSettled, IsConsistent}
use Rattle.vod_slot.specs.Edges.{IsLink, edge_bit, AreEdgesKept}
use Rattle.vod_slot.specs.Room.{reset_nets, nets_of}
use Rattle.vod_slot.proofs.Lists.{all_none, default_at}
use Rattle.vod_slot.proofs.Followed.{settled_at_rest}
use Rattle.vod_slot.proofs.Paths.{place_in}
use Rattle.vod_slot.proofs.Outside.{none_of, not_register}
use Rattle.vod_slot.proofs.Edges.{none_there, item_of, edge_is_net}
use Rattle.vod_slot.proofs.Openings.{link_settled}
use Rattle.vod_slot.proofs.Rooms.{nets_edges}
use Rattle.vod_slot.proofs.Starts.{is_change, had_edge, had_reset, had_start, or_none}
use Rattle.vod_slot.proofs.Swaps.{stored, all_written, Apart, AreApart, ListsApart, SameRegisters, state_stored, count}
use Rattle.vod_slot.proofs.Settling.{assign_written, left, IsSettling, updates_state, nothing_written}
use Rattle.vod_slot.proofs.Bodies.{Value, all_updates}
use Rattle.vod_slot.proofs.Owned.{UpdateOf, Disjoint, writes_owned, owned_apart}
use Rattle.vod_slot.proofs.Stages.{value_in, IsStage}
use Rattle.vod_slot.proofs.Busy.{IsBusy}

-- nothing but those updates is left
pub record IsIdle (st : State) : Type 0 where
  pub moves : All (λ move. move ≡ None) st.moves
  pub wake : All (λ flag. flag ≡ false) st.wake
  pub pend : All (λ value. value ≡ None) st.pend
  pub todo : All (λ statements. statements ≡ []) st.todo

no_option : {A : Type 0} (o : Option A) → is_some o ≡ false → o ≡ None
no_option None h = refl
no_option (Some x) h = absurd (cc)

no_list : {A : Type 0} (xs : List A) → is_filled xs ≡ false → xs ≡ []
no_list [] h = refl
no_list (x ∷ xs) h = absurd (cc)

pub idle_of : (st : State) → has_active st ≡ false → IsIdle st
idle_of st h =
    let m = list_any is_some st.moves in
    let w = list_any (λ flag. flag) st.wake in
    let p = list_any is_some st.pend in
    let t = list_any is_filled st.todo in
    let i = list_any is_filled st.init in
    let n = list_any is_filled st.now in
    let a = or_none (m || w || p || t || i) n h in
    let b = or_none (m || w || p || t) i a.0 in
    let c = or_none (m || w || p) t b.0 in
    let e = or_none (m || w) p c.0 in
    let f = or_none m w e.0 in
    record {
      moves = All-weaker (λ o. is_some o ≡ false) (λ o. o ≡ None) (λ o. no_option o) st.moves (none_of is_some st.moves f.0);
      wake = none_of (λ flag. flag) st.wake f.1;
      pend = All-weaker (λ o. is_some o ≡ false) (λ o. o ≡ None) (λ o. no_option o) st.pend (none_of is_some st.pend e.1);
      todo = All-weaker (λ xs. is_filled xs ≡ false) (λ xs. xs ≡ []) (λ xs. no_list xs) st.todo (none_of is_filled st.todo c.1);
    }

pub idle_at_rest : (st : State) → IsResting st → IsIdle st
idle_at_rest st rests = record { moves = rests.moves; wake = rests.wake; pend = rests.pend; todo = rests.todo }

-- each driver's target has what it brings
abbrev bare : State → State
bare st = record st { moves = []; init = []; todo = []; later = []; now = [] }

idle_settled : (d : Netlist) (st : State) → IsConsistent d st → IsIdle st → IsSettled d st.store
idle_settled d st c idle =
    settled_at_rest d (bare st) c.followed
    (record { moves = all_none (λ move. move ≡ None); init = all_none (λ assigns. assigns ≡ []); wake = idle.wake; pend = idle.pend; todo = all_none (λ ss. ss ≡ []); later = all_none (λ us. us ≡ []); now = all_none (λ us. us ≡ []) })

-- where inputs have what is brought, edge nets do
arrived : (d : Netlist) (ranked : List ℕ) → IsAccepted d ranked → (o e : ℕ → Bit) (st : State) → IsConsistent d st → IsSettled d st.store → AreEdgesKept d o e st → (input : Input) → Contains d.inputs input → (input.class ≡ Data → ⊥) → edge_bit st.store input.signal ≡ e input.signal → (n : ℕ) → Follows d input.signal n →
    edge_bit st.store n ≡ e n
arrived d ranked h o e st c settled kept input stands apart root n itself = root
arrived d ranked h o e st c settled kept input stands apart root n (copied {from = from} {to = to} {a = a} is_driver copies follows) =
    let p = place_in d.drivers a is_driver in
    let link : IsLink d p.0 a from n = record { at = p.1; copies = copies; net = record { input = input; stands = stands; edge = apart; follows = follows } } in
    link_settled d ranked h st c settled p.0 from n a link ∙ arrived d ranked h o e st c settled kept input stands apart root from follows ∙ sym (kept.brought_agree p.0 from n a link)

abbrev pub InputsBrought : Netlist → (ℕ → Bit) → State → Type 0
InputsBrought d e st = (i : ℕ) (x : Input) → slice_get d.inputs i ≡ Some x → edge_bit st.store x.signal ≡ e x.signal

pub all_arrived : (d : Netlist) (ranked : List ℕ) → IsAccepted d ranked → (o e : ℕ → Bit) (st : State) → IsConsistent d st → IsIdle st → AreEdgesKept d o e st → InputsBrought d e st → (n : ℕ) → IsEdgeNet d n → edge_bit st.store n ≡ e n
all_arrived d ranked h o e st c idle kept inputs n net =
    let p = place_in d.inputs net.input net.stands in
    arrived d ranked h o e st c (idle_settled d st c idle) kept net.input net.stands net.edge (inputs p.0 net.input p.1) n net.follows

-- what each block leaves in the slot

abbrev pub fired_if : Bool → List Update → List Update
fired_if true us = us
fired_if false us = []

abbrev pub fired : Netlist → Store → (ℕ → Bit) → Block → List Update
fired d opening e b = fired_if (had_start (edge_bit opening) e b) (all_updates (value_in d opening e b) b.body)

abbrev pub end_of : Netlist → Store → (ℕ → Bit) → Store
end_of d opening e = stored (all_written update_written (map (fired d opening e) d.blocks)) opening

stage_done : (d : Netlist) (b : Block) (value : Value) (went : Bool) (later : List Update) → IsStage d b value went [] later → later ≡ fired_if went (all_updates value b.body)
stage_done d b value true later stage = sym (append-nil later) ∙ stage.leaves
stage_done d b value false later stage = stage.1

same_reset : (o cur e : ℕ → Bit) (reset : Option Edge) → All (λ n. cur n ≡ e n) (reset_nets reset) → had_reset o cur reset ≡ had_reset o e reset
same_reset o cur e None h = refl
same_reset o cur e (Some x) h = ap (is_change x (o x.signal)) (All-head (λ n. cur n ≡ e n) x.signal [] h)

same_start : (o cur e : ℕ → Bit) (b : Block) → All (λ n. cur n ≡ e n) (nets_of b) → had_start o cur b ≡ had_start o e b
same_start o cur e b h =
    let clock : had_edge o cur b.clock ≡ had_edge o e b.clock = ap (is_change b.clock (o b.clock.signal)) (All-head (λ n. cur n ≡ e n) b.clock.signal (reset_nets b.reset) h) in
    let reset = same_reset o cur e b.reset (All-tail (λ n. cur n ≡ e n) b.clock.signal (reset_nets b.reset) h) in
    ap (λ x. x || had_reset o cur b.reset) clock ∙ ap (λ x. had_edge o e b.clock || x) reset

mapped_list : (f : Block → List Update) (blocks : List Block) (k : ℕ) (b : Block) → slice_get blocks k ≡ Some b → list_at (map f blocks) k ≡ f b
mapped_list f [] k b at = absurd (cc)
mapped_list f (c ∷ blocks) zero b at = ap f (same_Some c b at)
mapped_list f (c ∷ blocks) (suc k) b at = mapped_list f blocks k b at

later_fired : (d : Netlist) (ranked : List ℕ) → IsAccepted d ranked → (opening : Store) (e : ℕ → Bit) (st : State) → IsConsistent d st → IsIdle st → ((n : ℕ) → IsEdgeNet d n → edge_bit st.store n ≡ e n) → IsBusy d opening e st → st.later ≡ map (fired d opening e) d.blocks
later_fired d ranked h opening e st c idle there busy =
    let len : length (map (fired d opening e) d.blocks) ≡ length d.blocks = length-map d.blocks (fired d opening e) in
    ext_get_or [] st.later (map (fired d opening e) d.blocks) (c.shaped.later ∙ sym len)
    (λ k lt.
    let size = c.shaped.later in
    let p = item_of d.blocks k (omega arith) in
    let b = p.0 in
    let value = value_in d opening e b in
    let o = edge_bit opening in
    let waits : list_at st.todo k ≡ [] = default_at [] st.todo idle.todo k in
    let stage = subst (λ ts. IsStage d b value (had_start o (edge_bit st.store) b) ts (list_at st.later k)) waits (busy.stages k b p.1) in
    let went = same_start o (edge_bit st.store) e b (All-weaker (IsEdgeNet d) (λ n. edge_bit st.store n ≡ e n) there (nets_of b) (nets_edges d ranked h k b p.1)) in
    stage_done d b value (had_start o (edge_bit st.store) b) (list_at st.later k) stage
    ∙ ap (λ g. fired_if g (all_updates value b.body)) went
    ∙ sym (mapped_list (fired d opening e) d.blocks k b p.1))

-- two blocks write apart

stage_owned : (d : Netlist) (b : Block) (value : Value) (went : Bool) (todo : List Statement) (later : List Update) → IsStage d b value went todo later → All (UpdateOf (written_by b.body)) later
stage_owned d b value true todo later stage = stage.owned
stage_owned d b value false todo later stage = subst (All (UpdateOf (written_by b.body))) (sym stage.1) (all_none (UpdateOf (written_by b.body)))

pair_at : {A : Type 0} (R : A → A → Type 0) (xs : List A) (j k : ℕ) (x y : A) → AllPairs R xs → slice_get xs j ≡ Some x → slice_get xs k ≡ Some y → j < k → R x y
pair_at R xs j k x y pairs at at' lt =
    let left : get_or xs j x ≡ x = get_or_from_slice_get xs j x x at in
    let right : get_or xs k x ≡ y = get_or_from_slice_get xs k y x at' in
    subst (R x) right (subst (λ z. R z (get_or xs k x)) left (pairs j k x lt (slice_get_within xs k y at')))

nothing_right : (xs : List Write) → AreApart xs []
nothing_right xs = λ i w l. all_none (λ y. Apart (get_or xs i w) y)

later_apart : (d : Netlist) (ranked : List ℕ) → IsAccepted d ranked → (opening : Store) (e : ℕ → Bit) (st : State) → IsConsistent d st → IsBusy d opening e st → ListsApart update_written st.later
later_apart d ranked h opening e st c busy j k lt =
    let size = c.shaped.later in
    ⊎_elim
    (λ inside.
    let p = item_of d.blocks j (omega arith) in
    let q = item_of d.blocks k inside in
    let o = edge_bit opening in
    let ws = written_by p.0.body in
    let vs = written_by q.0.body in
    let apart : Disjoint ws vs = pair_at (λ (a b : Block). (x : Written) → Contains (written_by a.body) x → Contains (written_by b.body) x → ⊥) d.blocks j k p.0 q.0 h.owned p.1 q.1 lt in
    owned_apart ws vs (flat_map update_written (list_at st.later j)) (flat_map update_written (list_at st.later k)) apart
    (writes_owned ws (list_at st.later j) (stage_owned d p.0 (value_in d opening e p.0) (had_start o (edge_bit st.store) p.0) (list_at st.todo j) (list_at st.later j) (busy.stages j p.0 p.1)))
    (writes_owned vs (list_at st.later k) (stage_owned d q.0 (value_in d opening e q.0) (had_start o (edge_bit st.store) q.0) (list_at st.todo k) (list_at st.later k) (busy.stages k q.0 q.1))))
    (λ outside.
    let none : list_at st.later k ≡ [] = get_or_past st.later k [] (omega arith) in
    subst (λ us. AreApart (flat_map update_written (list_at st.later j)) (flat_map update_written us)) (sym none) (nothing_right (flat_map update_written (list_at st.later j))))
    (cases_lt k (length d.blocks))

-- so registers and words come to what the bodies leave

same_opening : (d : Netlist) (ranked : List ℕ) → IsAccepted d ranked → (opening : Store) (e : ℕ → Bit) (st : State) → IsBusy d opening e st → SameRegisters d st.store opening
same_opening d ranked h opening e st busy = record {
  registers = λ n register. ⊎_elim (λ same. same) (λ net. absurd (not_register d n (edge_is_net d ranked h n net) register)) (busy.still n);
  memories = busy.memories;
}

pub sized : (d : Netlist) (store : Store) → sizes store ≡ widths d → count store ≡ length d.signals
sized d store same = sym (length-map store.signals length) ∙ ap length same ∙ length-map d.signals (λ (x : Signal). x.width)

emptied : (lists : List (List Update)) → All (λ updates. updates ≡ []) (map {A = List Update} {B = List Update} (λ updates. []) lists)
emptied [] = all_none (λ updates. updates ≡ [])
emptied (us ∷ lists) = let none : List Update = [] in All-cons (λ updates. updates ≡ []) none (map {A = List Update} {B = List Update} (λ updates. []) lists) refl (emptied lists)

pub activated : (d : Netlist) (ranked : List ℕ) → IsAccepted d ranked → (opening : Store) (e : ℕ → Bit) (st : State) → sizes opening ≡ widths d → IsConsistent d st → IsIdle st → AreEdgesKept d (edge_bit opening) e st → InputsBrought d e st → IsBusy d opening e st → IsSettling d e e (end_of d opening e) (after d st Activate)
activated d ranked h opening e st so c idle kept inputs busy =
    let there = all_arrived d ranked h (edge_bit opening) e st c idle kept inputs in
    let is = later_fired d ranked h opening e st c idle there busy in
    let writes = all_written update_written (map (fired d opening e) d.blocks) in
    let left_is : left (after d st Activate) ≡ writes
    = ap (λ (x : List Write). x ++ all_written update_written st.later) (nothing_written assign_written st.init busy.init) ∙ ap (all_written update_written) is in
    let registers : All (All (UpdateWrites d)) (map (fired d opening e) d.blocks) = subst (All (All (UpdateWrites d))) is c.registers.later in
    let same = state_stored d writes st.store opening (sized d st.store c.shaped.sizes ∙ sym (sized d opening so)) (updates_state d (map (fired d opening e) d.blocks) registers) (same_opening d ranked h opening e st busy) in
    record {
      moves = idle.moves;
      todo = idle.todo;
      later = emptied st.later;
      either = inl busy.init;
      edges = record {
        values = λ n net. inl (there n net);
        moves = λ i x v at net some. absurd (none_there v (sym (default_at None st.moves idle.moves i) ∙ some));
        sources = λ j from to a l at_end. there from l.net;
        pend = λ j from to a v l some. absurd (none_there v (sym (default_at None st.pend idle.pend j) ∙ some));
        openings_agree = kept.brought_agree;
        brought_agree = kept.brought_agree;
      };
      init_apart = λ j k lt. subst (λ (xs : List InitialAssign). AreApart (flat_map assign_written (list_at st.init j)) (flat_map assign_written xs)) (sym (default_at [] st.init busy.init k)) (nothing_right (flat_map assign_written (list_at st.init j)));
      now_apart = later_apart d ranked h opening e st c busy;
      comes = subst (λ x. SameRegisters d (stored x st.store) (end_of d opening e)) (sym left_is) same;
    }
