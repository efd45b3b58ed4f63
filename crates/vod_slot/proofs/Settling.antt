-- What each state keeps in which no block has anything to run: registers and words come to what they are to have, in each order of events.
use Rattle.std.proofs.Common.{◌≡◌, ◌⊎◌, inl, inr, ℕ, not, true, false, List, [], ◌∷◌, ◌++◌, flat_map, take, drop, set, refl, ap, sym, ◌∙◌, subst, ⊎_elim, All, Option, Some, None, is_some, unwrap_or, IsTrue, slice_get}
use Rattle.std.specs.List.{list_any}
use Rattle.std.proofs.lemmas.Bool.{and_parts}
use Rattle.std.proofs.lemmas.List.Elements.{All-head, All-tail, All-append, All-set, All-weaker}
use Rattle.vod_bits.specs.Bit.{Bit}
use Rattle.vod_design.specs.declared.parts.Driver.{Driver}
use Rattle.vod_design.specs.declared.parts.InitialAssign.{InitialAssign}
use Rattle.vod_design.specs.declared.parts.InitialTarget.{InitialTarget}
use Rattle.vod_design.specs.declared.parts.InitialTarget.TheVariants as initial
use Rattle.vod_design.specs.declared.sized.Variable.TheVariants as variable
use Rattle.vod_design.specs.declared.statement.Target.{Target}
use Rattle.vod_design.specs.declared.statement.Target.TheVariants.{Bits, Word}
use Rattle.vod_design.specs.Accepted.{IsAccepted, IsToDrive}
use Rattle.vod_design.specs.Netlist.{Netlist}
use Rattle.vod_design.specs.Nets.{IsEdgeNet}
use Rattle.vod_slot.specs.declared.event.Event.TheVariants.{TakeMove, Evaluate, Update as UpdateDriver, Run, Initialize, Activate, Perform}
use Rattle.vod_slot.specs.Store.{Store, Write, ToWord, list_at, places_written}
use Rattle.vod_slot.specs.State.{Piece, Update, State, option_at, IsResting}
use Rattle.vod_slot.specs.Step.{Event, is_allowed, is_filled, has_active, after, put_all, evaluated, target_of, initial_written, target_written, update_written}
use Rattle.vod_slot.specs.Run.{Steps}
use Rattle.vod_slot.specs.Shape.{TargetWrites, UpdateWrites, InitialWrites, AssignsWrite}
use Rattle.vod_slot.specs.Settled.{IsConsistent}
use Rattle.vod_slot.specs.Edges.{AreEdgesKept}
use Rattle.vod_slot.proofs.Lists.{all_none, all_one, all_in, default_at}
use Rattle.vod_slot.proofs.Writes.{HangsOnReads}
use Rattle.vod_slot.proofs.Puts.{Misses}
use Rattle.vod_slot.proofs.Targets.{all_flat, some_of, to_drive}
use Rattle.vod_slot.proofs.Falls.{moves-put_all, init-put_all, later-put_all, now-put_all}
use Rattle.vod_slot.proofs.Ends.{IsConsistent-after}
use Rattle.vod_slot.proofs.Links.{lowest}
use Rattle.vod_slot.proofs.Edges.{lowest_there, updates_missed, initials_missed, AreEdgesKept-after}
use Rattle.vod_slot.proofs.Room.{Brings}
use Rattle.vod_slot.proofs.Rooms.{update_brings}
use Rattle.vod_slot.proofs.Calm.{OfNet, nothing_filled, nothing_any, bits_of, places_of}
use Rattle.vod_slot.proofs.Starts.{StartsNone, AreBetween, todo_unstarted}
use Rattle.vod_slot.proofs.Swaps.{stored, stored-put_all, stored-append, all_written, ListsApart, first_written, apart-first, OfState, SameRegisters, same-same, same-then, nets_leave}

abbrev pub assign_written : InitialAssign → List Write
assign_written a = initial_written a.target a.value

-- what is left for registers and words
abbrev pub left : State → List Write
left st = all_written assign_written st.init ++ all_written update_written st.now

pub record IsSettling (d : Netlist) (o e : ℕ → Bit) (end : Store) (st : State) : Type 0 where
  pub moves : All (λ move. move ≡ None) st.moves
  pub todo : All (λ statements. statements ≡ []) st.todo
  pub later : All (λ updates. updates ≡ []) st.later
  pub either : All (λ assigns. assigns ≡ []) st.init ⊎ All (λ updates. updates ≡ []) st.now
  pub edges : AreEdgesKept d o e st
  pub init_apart : ListsApart assign_written st.init
  pub now_apart : ListsApart update_written st.now
  pub comes : SameRegisters d (stored (left st) st.store) end

-- what is left is of registers and words

target_state : (d : Netlist) (t : Option Target) (value : List Bit) → TargetWrites d t → All (OfState d) (target_written t value)
target_state d None value h = all_none (OfState d)
target_state d (Some (Bits (variable.Signal n) low)) value h = bits_of (OfState d) n low value (λ place bit. h)
target_state d (Some (Bits (variable.Local n) low)) value h = all_none (OfState d)
target_state d (Some (Word memory place)) value h = all_one (OfState d) (ToWord memory place value) tt

pub update_state : (d : Netlist) (u : Update) → UpdateWrites d u → All (OfState d) (update_written u)
update_state d u h = all_flat (λ (p : Piece). TargetWrites d p.target) (OfState d) (λ p. target_written p.target p.value) u (λ p target. target_state d p.target p.value target) h

initial_state : (d : Netlist) (t : InitialTarget) (value : List Bit) → InitialWrites d t → All (OfState d) (initial_written t value)
initial_state d (initial.Register n) value h = bits_of (OfState d) n 0 value (λ place bit. h)
initial_state d (initial.Word memory place) value h = all_one (OfState d) (ToWord memory place value) tt

pub updates_state : (d : Netlist) (lists : List (List Update)) → All (All (UpdateWrites d)) lists → All (OfState d) (all_written update_written lists)
updates_state d lists h = all_flat (All (UpdateWrites d)) (OfState d) (λ us. flat_map update_written us) lists (λ us each. all_flat (UpdateWrites d) (OfState d) update_written us (λ u writes. update_state d u writes) each) h

assigns_state : (d : Netlist) (lists : List (List InitialAssign)) → All (AssignsWrite d) lists → All (OfState d) (all_written assign_written lists)
assigns_state d lists h =
    all_flat (AssignsWrite d) (OfState d) (λ (as_ : List InitialAssign). flat_map assign_written as_) lists
    (λ as_ each. all_flat (λ (a : InitialAssign). InitialWrites d a.target) (OfState d) assign_written as_ (λ a writes. initial_state d a.target a.value writes) each) h

pub left_state : (d : Netlist) (st : State) → IsConsistent d st → All (OfState d) (left st)
left_state d st c = All-append (OfState d) (all_written assign_written st.init) (all_written update_written st.now) (assigns_state d st.init c.registers.init) (updates_state d st.now c.registers.now)

-- writes

left-put_all : (d : Netlist) (writes : List Write) (st : State) → left (put_all d writes st) ≡ left st
left-put_all d writes st =
    ap (λ (i : List (List InitialAssign)). all_written assign_written i ++ all_written update_written (put_all d writes st).now) (init-put_all d writes st)
    ∙ ap (λ (n : List (List Update)). all_written assign_written st.init ++ all_written update_written n) (now-put_all d writes st)

pub between : (d : Netlist) (ranked : List ℕ) → IsAccepted d ranked → (o e : ℕ → Bit) (st : State) → IsConsistent d st → AreEdgesKept d o e st → AreBetween d o e st.store
between d ranked h o e st c kept n net = record { value = kept.values n net; there = lowest_there d ranked h st.store c.shaped.sizes n net }

settling_put : (d : Netlist) (ranked : List ℕ) → IsAccepted d ranked → (o e : ℕ → Bit) (end : Store) (writes : List Write) (s st : State) → StartsNone d o e → IsConsistent d s → IsSettling d o e end s →
    st.store ≡ s.store → st.moves ≡ s.moves → st.todo ≡ s.todo → st.later ≡ s.later → AreEdgesKept d o e (put_all d writes st) → ((n : ℕ) → IsEdgeNet d n → All (Brings e n) writes) →
    All (λ assigns. assigns ≡ []) st.init ⊎ All (λ updates. updates ≡ []) st.now → ListsApart assign_written st.init → ListsApart update_written st.now → SameRegisters d (stored (left st) (stored writes s.store)) end →
    IsSettling d o e end (put_all d writes st)
settling_put d ranked h o e end writes s st none c settling same m t l edges brings either init now comes =
    let todo : (put_all d writes st).todo ≡ s.todo
    = todo_unstarted d ranked h o e none writes st (subst (AreBetween d o e) (sym same) (between d ranked h o e s c settling.edges)) brings ∙ t in
    let at : stored (left (put_all d writes st)) (put_all d writes st).store ≡ stored (left st) (stored writes s.store)
    = ap (λ x. stored x (put_all d writes st).store) (left-put_all d writes st) ∙ ap (stored (left st)) (stored-put_all d writes st ∙ ap (stored writes) same) in
    record {
      moves = rw (moves-put_all d writes st, m) settling.moves;
      todo = rw todo settling.todo;
      later = rw (later-put_all d writes st, l) settling.later;
      either = rw (init-put_all d writes st, now-put_all d writes st) either;
      edges = edges;
      init_apart = rw (init-put_all d writes st) init;
      now_apart = rw (now-put_all d writes st) now;
      comes = same-then d (stored (left (put_all d writes st)) (put_all d writes st).store) (stored (left st) (stored writes s.store)) end (same-same d (stored (left (put_all d writes st)) (put_all d writes st).store) (stored (left st) (stored writes s.store)) at) comes;
    }

missing : (e : ℕ → Bit) (n : ℕ) (writes : List Write) → All (Misses (lowest n)) writes → All (Brings e n) writes
missing e n writes h = All-weaker (Misses (lowest n)) (Brings e n) (λ w m. inl m) writes h

pub driver_nets : (d : Netlist) (ranked : List ℕ) → IsAccepted d ranked → (j : ℕ) (driver : Option Driver) (bits : List Bit) → slice_get d.drivers j ≡ driver → All (OfNet d) (places_written (target_of driver) bits)
driver_nets d ranked h j None bits at = all_none (OfNet d)
driver_nets d ranked h j (Some a) bits at = places_of (OfNet d) (IsToDrive d) (λ b bit to. to.net) a.target bits (to_drive d ranked h j a at)

settling_evaluated : (d : Netlist) (o e : ℕ → Bit) (end : Store) (j : ℕ) (driver : Option Driver) (st : State) → AreEdgesKept d o e (evaluated d j driver st) → IsSettling d o e end st → IsSettling d o e end (evaluated d j driver st)
settling_evaluated d o e end j None st edges s = s
settling_evaluated d o e end j (Some a) st edges s =
    record { moves = s.moves; todo = s.todo; later = s.later; either = s.either; edges = edges; init_apart = s.init_apart; now_apart = s.now_apart; comes = s.comes }

pub nothing_written : {A : Type 0} (f : A → List Write) (lists : List (List A)) → All (λ list. list ≡ []) lists → all_written f lists ≡ []
nothing_written f [] h = refl
nothing_written f (list ∷ lists) h = rw (All-head (λ l. l ≡ []) list lists h) (nothing_written f lists (All-tail (λ l. l ≡ []) list lists h))

rest_nothing : {A : Type 0} (lists : List (List A)) (k : ℕ) → All (λ list. list ≡ []) lists → All (λ list. list ≡ []) (set lists k (drop 1 (list_at lists k)))
rest_nothing {A} lists k none =
    let empty : drop 1 (list_at lists k) ≡ [] = ap (drop 1) (default_at [] lists none k) in
    All-set (λ list. list ≡ []) lists k (drop 1 (list_at lists k)) empty none

settling_initialized : (d : Netlist) (ranked : List ℕ) → IsAccepted d ranked → (o e : ℕ → Bit) (end : Store) (m : ℕ) (st : State) → StartsNone d o e → IsConsistent d st → AreEdgesKept d o e (after d st (Initialize m)) → IsSettling d o e end st → IsSettling d o e end (after d st (Initialize m))
settling_initialized d ranked h o e end m st none c edges s =
    let first = take 1 (list_at st.init m) in
    let writes = flat_map assign_written first in
    let st' = record st { init = set st.init m (drop 1 (list_at st.init m)) } in
    let rest = all_written assign_written st'.init in
    let now = all_written update_written st.now in
    let at : stored (rest ++ now) (stored writes st.store) ≡ stored (left st) st.store
    = stored-append rest now (stored writes st.store)
    ∙ ap (stored now) (first_written assign_written st.init m st.store s.init_apart)
    ∙ sym (stored-append (all_written assign_written st.init) now st.store) in
    settling_put d ranked h o e end writes st st' none c s refl refl refl refl edges
    (λ n net. missing e n writes (initials_missed d ranked h first (some_of (λ (x : InitialAssign). InitialWrites d x.target) (list_at st.init m) (all_in (λ (x : InitialAssign). InitialWrites d x.target) st.init m c.registers.init)) n net))
    (⊎_elim (λ l. inl (rest_nothing st.init m l)) (λ r. inr r) s.either)
    (apart-first assign_written st.init m s.init_apart)
    s.now_apart
    (same-then d (stored (rest ++ now) (stored writes st.store)) (stored (left st) st.store) end (same-same d (stored (rest ++ now) (stored writes st.store)) (stored (left st) st.store) at) s.comes)

settling_performed : (d : Netlist) (ranked : List ℕ) → IsAccepted d ranked → (o e : ℕ → Bit) (end : Store) (m : ℕ) (st : State) → StartsNone d o e → IsConsistent d st → is_filled (list_at st.now m) ≡ true → AreEdgesKept d o e (after d st (Perform m)) → IsSettling d o e end st → IsSettling d o e end (after d st (Perform m))
settling_performed d ranked h o e end m st none c filled edges s =
    let first = take 1 (list_at st.now m) in
    let writes = flat_map update_written first in
    let st' = record st { now = set st.now m (drop 1 (list_at st.now m)) } in
    let rest = all_written update_written st'.now in
    let init = all_written assign_written st.init in
    let idle : All (λ assigns. assigns ≡ []) st.init = ⊎_elim (λ l. l) (λ r. absurd (nothing_filled st.now m r filled)) s.either in
    let no_init : init ≡ [] = nothing_written assign_written st.init idle in
    let at : stored (init ++ rest) (stored writes st.store) ≡ stored (left st) st.store
    = ap (λ (x : List Write). stored (x ++ rest) (stored writes st.store)) no_init
    ∙ first_written update_written st.now m st.store s.now_apart
    ∙ sym (ap (λ (x : List Write). stored (x ++ all_written update_written st.now) st.store) no_init) in
    settling_put d ranked h o e end writes st st' none c s refl refl refl refl edges
    (λ n net. missing e n writes (updates_missed d ranked h first (some_of (UpdateWrites d) (list_at st.now m) (all_in (UpdateWrites d) st.now m c.registers.now)) n net))
    (inl idle)
    s.init_apart
    (apart-first update_written st.now m s.now_apart)
    (same-then d (stored (init ++ rest) (stored writes st.store)) (stored (left st) st.store) end (same-same d (stored (init ++ rest) (stored writes st.store)) (stored (left st) st.store) at) s.comes)

settling_updated : (d : Netlist) (ranked : List ℕ) → IsAccepted d ranked → (o e : ℕ → Bit) (end : Store) (j : ℕ) (st : State) → StartsNone d o e → IsConsistent d st → is_some (option_at st.pend j) ≡ true → AreEdgesKept d o e (after d st (UpdateDriver j)) → IsSettling d o e end st → IsSettling d o e end (after d st (UpdateDriver j))
settling_updated d ranked h o e end j st none c allowed edges s =
    let bits = unwrap_or (option_at st.pend j) [] in
    let driver = slice_get d.drivers j in
    let writes = places_written (target_of driver) bits in
    let st' = record st { pend = set st.pend j None } in
    settling_put d ranked h o e end writes st st' none c s refl refl refl refl edges
    (update_brings d ranked h o e st j driver (option_at st.pend j) refl refl allowed s.edges)
    s.either s.init_apart s.now_apart
    (same-then d (stored (left st) (stored writes st.store)) (stored (left st) st.store) end (nets_leave d writes (left st) st.store (driver_nets d ranked h j driver bits refl) (left_state d st c)) s.comes)

settling_after : (d : Netlist) (ranked : List ℕ) → IsAccepted d ranked → (o e : ℕ → Bit) (end : Store) (st : State) (event : Event) → StartsNone d o e → IsConsistent d st → IsTrue (is_allowed st event) → AreEdgesKept d o e (after d st event) → IsSettling d o e end st → IsSettling d o e end (after d st event)
settling_after d ranked h o e end st (TakeMove i) none c allowed edges s = let clash : true ≡ false = sym allowed ∙ ap is_some (default_at None st.moves s.moves i) in absurd (cc)
settling_after d ranked h o e end st (Evaluate j) none c allowed edges s = settling_evaluated d o e end j (slice_get d.drivers j) st edges s
settling_after d ranked h o e end st (UpdateDriver j) none c allowed edges s = settling_updated d ranked h o e end j st none c allowed edges s
settling_after d ranked h o e end st (Run k) none c allowed edges s = absurd (nothing_filled st.todo k s.todo allowed)
settling_after d ranked h o e end st (Initialize m) none c allowed edges s = settling_initialized d ranked h o e end m st none c edges s
settling_after d ranked h o e end st Activate none c allowed edges s =
    let p = and_parts (not (has_active st)) (list_any is_filled st.later) allowed in
    let clash : true ≡ false = sym p.1 ∙ nothing_any st.later s.later in absurd (cc)
settling_after d ranked h o e end st (Perform k) none c allowed edges s = settling_performed d ranked h o e end k st none c allowed edges s

pub settling_end : HangsOnReads → (d : Netlist) (ranked : List ℕ) → IsAccepted d ranked → (o e : ℕ → Bit) (end : Store) (st t : State) (events : List Event) → StartsNone d o e → IsConsistent d st → Steps d st events t → IsSettling d o e end st → IsSettling d o e end t
settling_end hangs d ranked h o e end st t [] none c steps s = subst (IsSettling d o e end) (sym steps) s
settling_end hangs d ranked h o e end st t (event ∷ events) none c steps s =
    settling_end hangs d ranked h o e end (after d st event) t events none (IsConsistent-after hangs d ranked st event h c steps.0) steps.1
    (settling_after d ranked h o e end st event none c steps.0 (AreEdgesKept-after d ranked o e st event h c s.edges steps.0) s)

-- where nothing is left, registers and words are what they were to be
pub settled_registers : (d : Netlist) (o e : ℕ → Bit) (end : Store) (t : State) → IsResting t → IsSettling d o e end t → SameRegisters d t.store end
settled_registers d o e end t rests s =
    let none : left t ≡ [] = ap (λ (x : List Write). x ++ all_written update_written t.now) (nothing_written assign_written t.init rests.init) ∙ nothing_written update_written t.now rests.now in
    subst (λ x. SameRegisters d (stored x t.store) end) none s.comes
