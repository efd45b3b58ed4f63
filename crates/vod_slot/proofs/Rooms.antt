-- The room of each block's updates suffices: what each event keeps of this.
use Rattle.std.proofs.Common.{◌≡◌, inl, inr, ℕ, zero, suc, ◌+◌, ◌*◌, ◌<◌, ◌≤◌, ◌||◌, not, Bool, true, false, List, [], ◌∷◌, ◌++◌, length, map, flat_map, take, drop, set, get_or, replicate, arith, refl, ap, sym, ◌∙◌, subst, ⊎_elim, All, Option, Some, None, is_some, unwrap_or, IsTrue, slice_get, get_or-set_same, get_or-set_other}
use Rattle.std.specs.List.{list_any}
use Rattle.std.proofs.Math.Nat.{mul-le-mul_left}
use Rattle.std.proofs.lemmas.Bool.{cases_eq, and_parts}
use Rattle.std.proofs.lemmas.List.Elements.{All-cons, All-weaker}
use Rattle.std.proofs.lemmas.List.Sums.{sum_by-cons, sum_by-append}
use Rattle.std.proofs.lemmas.Option.{slice_get_within}
use Rattle.vod_bits.specs.Bit.{Bit}
use Rattle.vod_design.specs.declared.parts.Block.{Block}
use Rattle.vod_design.specs.declared.parts.Driver.{Driver}
use Rattle.vod_design.specs.declared.parts.Edge.{Edge}
use Rattle.vod_design.specs.declared.parts.InitialAssign.{InitialAssign}
use Rattle.vod_design.specs.declared.statement.Statement.{Statement}
use Rattle.vod_design.specs.declared.statement.Statement.TheViews.{out-Statement}
use Rattle.vod_design.specs.declared.vector.Class.TheVariants.{Clock, Reset}
use Rattle.vod_design.specs.declared.vector.Move.{Move}
use Rattle.vod_design.specs.Accepted.{IsAccepted, BlockRuns}
use Rattle.vod_design.specs.Eval.{same_bit}
use Rattle.vod_design.specs.Netlist.{Netlist}
use Rattle.vod_design.specs.Nets.{FollowsClass, IsEdgeNet}
use Rattle.vod_slot.specs.declared.event.Event.TheVariants.{TakeMove, Evaluate, Update as UpdateDriver, Run, Initialize, Activate, Perform}
use Rattle.vod_slot.specs.Store.{Store, Write, ToBit, list_at, bits_written, places_written}
use Rattle.vod_slot.specs.State.{State, Update, option_at, input_signals, start_of, opened, IsResting}
use Rattle.vod_slot.specs.Step.{Event, is_allowed, is_filled, has_active, after, put_all, evaluated, target_of, operand, next_after, updates_of, ran, initial_written, update_written}
use Rattle.vod_slot.specs.Shape.{UpdateWrites, InitialWrites}
use Rattle.vod_slot.specs.Settled.{IsConsistent}
use Rattle.vod_slot.specs.Edges.{IsLink, edge_bit, AreEdgesKept}
use Rattle.vod_slot.specs.Room.{update_room, updates_room, statement_most, stack_most, reset_nets, nets_of, opening_count, openings, IsRoomKept}
use Rattle.vod_slot.proofs.Lists.{all_none, all_one, all_at, all_in, default_at}
use Rattle.vod_slot.proofs.Digits.{some_within}
use Rattle.vod_slot.proofs.Stacks.{list_within}
use Rattle.vod_slot.proofs.Puts.{Misses, bits-miss, places-miss}
use Rattle.vod_slot.proofs.Targets.{some_of}
use Rattle.vod_slot.proofs.Paths.{class_net, not_data, edge_driver}
use Rattle.vod_slot.proofs.Falls.{later-put_all, now-put_all}
use Rattle.vod_slot.proofs.Links.{lowest, one_target}
use Rattle.vod_slot.proofs.Edges.{signal_at, item_of, updates_missed, initials_missed, drives, lowest_there}
use Rattle.vod_slot.proofs.Room.{digit_at_most, statement_kept, Brings, IsBetween, put_all_charge}

-- the nets that a block waits for are edge nets
reset_edges : (d : Netlist) (b : Block) (reset : Option Edge) → BlockRuns d b reset → All (IsEdgeNet d) (reset_nets reset)
reset_edges d b None h = all_none (IsEdgeNet d)
reset_edges d b (Some x) h = all_one (IsEdgeNet d) x.signal (class_net d Reset x.signal (not_data Reset refl) h.reset_is)

pub nets_edges : (d : Netlist) (ranked : List ℕ) → IsAccepted d ranked → (k : ℕ) (b : Block) → slice_get d.blocks k ≡ Some b → All (IsEdgeNet d) (nets_of b)
nets_edges d ranked h k b at =
    All-cons (IsEdgeNet d) b.clock.signal (reset_nets b.reset)
    (class_net d Clock b.clock.signal (not_data Clock refl) (all_at (λ (x : Block). FollowsClass d Clock x.clock.signal) d.blocks k b h.clocks at))
    (reset_edges d b b.reset (all_at (λ (x : Block). BlockRuns d x x.reset) d.blocks k b h.resets at))

-- writes that keep the room
room_put : (d : Netlist) (ranked : List ℕ) → IsAccepted d ranked → (o e : ℕ → Bit) (s st : State) (writes : List Write) → IsConsistent d s → AreEdgesKept d o e s → st.store ≡ s.store → st.todo ≡ s.todo → ((n : ℕ) → IsEdgeNet d n → All (Brings e n) writes) → IsRoomKept d o st → IsRoomKept d o (put_all d writes st)
room_put d ranked h o e s st writes c kept same todo brings room k b at =
    let nets = nets_edges d ranked h k b at in
    let between : All (IsBetween o e st.store) (nets_of b)
    = All-weaker (IsEdgeNet d) (IsBetween o e st.store)
    (λ n net. subst (λ store. IsBetween o e store n) (sym same) (record { value = kept.values n net; there = lowest_there d ranked h s.store c.shaped.sizes n net })) (nets_of b) nets in
    let lt : k < length st.todo = (let l = slice_get_within d.blocks k b at in let w = c.shaped.todo in let z = ap length todo in omega arith) in
    let charge = put_all_charge d o e writes st k b at lt between (All-weaker (IsEdgeNet d) (λ n. All (Brings e n) writes) brings (nets_of b) nets) in
    let later = ap (λ xs. updates_room (list_at xs k)) (later-put_all d writes st) in
    let now = ap (λ xs. updates_room (list_at xs k)) (now-put_all d writes st) in
    let r = room k b at in
    omega arith

all_miss : (e : ℕ → Bit) (n : ℕ) (writes : List Write) → All (Misses (lowest n)) writes → All (Brings e n) writes
all_miss e n writes h = All-weaker (Misses (lowest n)) (Brings e n) (λ w m. inl m) writes h

pub move_brings : (d : Netlist) (o e : ℕ → Bit) (s : State) (i : ℕ) (value : Option (List Bit)) → option_at s.moves i ≡ value → is_some value ≡ true → IsConsistent d s → AreEdgesKept d o e s → (n : ℕ) → IsEdgeNet d n →
    All (Brings e n) (bits_written (get_or (input_signals d.inputs) i 0) 0 (unwrap_or value []))
move_brings d o e s i None is some c kept n net = absurd (cc)
move_brings d o e s i (Some v) is some c kept n net =
    let lt : i < length d.inputs = (let l = some_within s.moves i (ap is_some is ∙ some) in let w = c.shaped.moves in omega arith) in
    let p = item_of d.inputs i lt in
    let signal : get_or (input_signals d.inputs) i 0 ≡ p.0.signal = signal_at d.inputs i p.0 p.1 in
    ⊎_elim
    (λ same.
    let v_is : v ≡ e n ∷ [] = kept.moves i p.0 v p.1 (subst (IsEdgeNet d) (sym same) net) is ∙ ap (λ m. e m ∷ []) same in
    let w_is : bits_written (get_or (input_signals d.inputs) i 0) 0 v ≡ ToBit n 0 (e n) ∷ [] = ap (λ m. bits_written m 0 v) (signal ∙ same) ∙ ap (bits_written n 0) v_is in
    subst (All (Brings e n)) (sym w_is) (all_one (Brings e n) (ToBit n 0 (e n)) (inr refl)))
    (λ apart. all_miss e n (bits_written (get_or (input_signals d.inputs) i 0) 0 v) (bits-miss (lowest n) (get_or (input_signals d.inputs) i 0) 0 v (λ f. apart (sym signal ∙ f))))
    (cases_eq p.0.signal n)

pub update_brings : (d : Netlist) (ranked : List ℕ) → IsAccepted d ranked → (o e : ℕ → Bit) (s : State) (j : ℕ) (driver : Option Driver) (value : Option (List Bit)) → slice_get d.drivers j ≡ driver → option_at s.pend j ≡ value → is_some value ≡ true → AreEdgesKept d o e s → (n : ℕ) → IsEdgeNet d n →
    All (Brings e n) (places_written (target_of driver) (unwrap_or value []))
update_brings d ranked h o e s j driver None at is some kept n net = absurd (cc)
update_brings d ranked h o e s j None (Some v) at is some kept n net = all_none (Brings e n)
update_brings d ranked h o e s j (Some a) (Some v) at is some kept n net =
    ⊎_elim
    (λ stands.
    let c = edge_driver d ranked h j a (lowest n) at stands net in
    let l : IsLink d j a c.from n = record { at = at; copies = c.copies; net = c.net } in
    let w_is : places_written a.target v ≡ ToBit n 0 (e n) ∷ [] = ap (λ ps. places_written ps v) (one_target d ranked h j c.from n a l) ∙ ap (places_written (lowest n ∷ [])) (kept.pend j c.from n a v l is).0 in
    subst (All (Brings e n)) (sym w_is) (all_one (Brings e n) (ToBit n 0 (e n)) (inr refl)))
    (λ apart. all_miss e n (places_written a.target v) (places-miss (lowest n) a.target v apart))
    (drives a.target (lowest n))

-- fewer updates are active
rest_room : (us : List Update) → updates_room (drop 1 us) ≤ updates_room us
rest_room [] = omega arith
rest_room (u ∷ us) = let e = sum_by-cons update_room u us in omega arith

now_falls : (lists : List (List Update)) (m k : ℕ) → is_filled (list_at lists m) ≡ true → updates_room (list_at (set lists m (drop 1 (list_at lists m))) k) ≤ updates_room (list_at lists k)
now_falls lists m k filled =
    ⊎_elim
    (λ same.
    let here : list_at (set lists m (drop 1 (list_at lists m))) k ≡ drop 1 (list_at lists k)
    = subst (λ n. list_at (set lists m (drop 1 (list_at lists m))) n ≡ drop 1 (list_at lists n)) same (get_or-set_same lists m (drop 1 (list_at lists m)) [] (list_within lists m filled)) in
    let e = ap updates_room here in
    let r = rest_room (list_at lists k) in
    omega arith)
    (λ apart. let e = ap updates_room (get_or-set_other lists m k (drop 1 (list_at lists m)) [] (λ f. apart (sym f))) in omega arith)
    (cases_eq m k)

ran_room : (d : Netlist) (o : ℕ → Bit) (m : ℕ) (statements : List Statement) (s : State) → list_at s.todo m ≡ statements → is_filled (list_at s.todo m) ≡ true → IsConsistent d s → IsRoomKept d o s → IsRoomKept d o (ran d m statements s)
ran_room d o m [] s is filled c room k b at = room k b at
ran_room d o m (x ∷ statements) s is filled c room k b at =
    let value = operand d s.store in
    let next = next_after value (out-Statement x) in
    let new = updates_of value (out-Statement x) in
    let r = room k b at in
    let lt = list_within s.todo m filled in
    let wt = c.shaped.todo in let wl = c.shaped.later in
    ⊎_elim
    (λ same.
    let todo : list_at (set s.todo m (next ++ statements)) k ≡ next ++ statements = subst (λ n. list_at (set s.todo m (next ++ statements)) n ≡ next ++ statements) same (get_or-set_same s.todo m (next ++ statements) [] lt) in
    let later : list_at (set s.later m (list_at s.later m ++ new)) k ≡ list_at s.later k ++ new
    = subst (λ n. list_at (set s.later m (list_at s.later m ++ new)) n ≡ list_at s.later n ++ new) same (get_or-set_same s.later m (list_at s.later m ++ new) [] (omega arith)) in
    let was : stack_most (list_at s.todo k) ≡ statement_most x + stack_most statements = ap stack_most (ap (list_at s.todo) (sym same) ∙ is) ∙ sum_by-cons statement_most x statements in
    let becomes : stack_most (list_at (set s.todo m (next ++ statements)) k) ≡ stack_most next + stack_most statements = ap stack_most todo ∙ sum_by-append statement_most next statements in
    let more : updates_room (list_at (set s.later m (list_at s.later m ++ new)) k) ≡ updates_room (list_at s.later k) + updates_room new = ap updates_room later ∙ sum_by-append update_room (list_at s.later k) new in
    let fall = statement_kept value x in
    omega arith)
    (λ apart.
    let todo = ap stack_most (get_or-set_other s.todo m k (next ++ statements) [] (λ f. apart (sym f))) in
    let later = ap updates_room (get_or-set_other s.later m k (list_at s.later m ++ new) [] (λ f. apart (sym f))) in
    omega arith)
    (cases_eq m k)

evaluated_room : (d : Netlist) (o : ℕ → Bit) (j : ℕ) (driver : Option Driver) (s : State) → IsRoomKept d o s → IsRoomKept d o (evaluated d j driver s)
evaluated_room d o j None s room k b at = room k b at
evaluated_room d o j (Some a) s room k b at = room k b at

not_true : (b : Bool) → not b ≡ true → b ≡ false
not_true true h = absurd (cc)
not_true false h = refl

or_last : (a b : Bool) → (a || b) ≡ false → b ≡ false
or_last true b h = absurd (cc)
or_last false b h = h

none_filled : (lists : List (List Update)) (k : ℕ) → list_any is_filled lists ≡ false → list_at lists k ≡ []
none_filled [] k h = refl
none_filled ([] ∷ lists) zero h = refl
none_filled ([] ∷ lists) (suc k) h = none_filled lists k h
none_filled ((u ∷ us) ∷ lists) k h = absurd (cc)

emptied : (lists : List (List Update)) (k : ℕ) → list_at (map {A = List Update} {B = List Update} (λ list. []) lists) k ≡ []
emptied [] k = refl
emptied (list ∷ lists) zero = refl
emptied (list ∷ lists) (suc k) = emptied lists k

activated_room : (d : Netlist) (o : ℕ → Bit) (s : State) → IsTrue (is_allowed s Activate) → IsRoomKept d o s → IsRoomKept d o (after d s Activate)
activated_room d o s allowed room k b at =
    let p = and_parts (not (has_active s)) (list_any is_filled s.later) allowed in
    let idle = ap updates_room (none_filled s.now k (or_last _ (list_any is_filled s.now) (not_true (has_active s) p.0))) in
    let gone = ap updates_room (emptied s.later k) in
    let none : updates_room [] ≡ 0 = refl in
    let r = room k b at in
    omega arith

-- each event keeps it
pub IsRoomKept-after : (d : Netlist) (ranked : List ℕ) (o e : ℕ → Bit) (s : State) (event : Event) → IsAccepted d ranked → IsConsistent d s → AreEdgesKept d o e s → IsTrue (is_allowed s event) → IsRoomKept d o s → IsRoomKept d o (after d s event)
IsRoomKept-after d ranked o e s (TakeMove i) h c kept allowed room =
    let writes = bits_written (get_or (input_signals d.inputs) i 0) 0 (unwrap_or (option_at s.moves i) []) in
    let st = record s { moves = set s.moves i None } in
    room_put d ranked h o e s st writes c kept refl refl (move_brings d o e s i (option_at s.moves i) refl allowed c kept) (λ k b at. room k b at)
IsRoomKept-after d ranked o e s (Evaluate j) h c kept allowed room = evaluated_room d o j (slice_get d.drivers j) s room
IsRoomKept-after d ranked o e s (UpdateDriver j) h c kept allowed room =
    let writes = places_written (target_of (slice_get d.drivers j)) (unwrap_or (option_at s.pend j) []) in
    let st = record s { pend = set s.pend j None } in
    room_put d ranked h o e s st writes c kept refl refl (update_brings d ranked h o e s j (slice_get d.drivers j) (option_at s.pend j) refl refl allowed kept) (λ k b at. room k b at)
IsRoomKept-after d ranked o e s (Run m) h c kept allowed room = ran_room d o m (list_at s.todo m) s refl allowed c room
IsRoomKept-after d ranked o e s (Initialize m) h c kept allowed room =
    let writes = flat_map (λ (x : InitialAssign). initial_written x.target x.value) (take 1 (list_at s.init m)) in
    let st = record s { init = set s.init m (drop 1 (list_at s.init m)) } in
    room_put d ranked h o e s st writes c kept refl refl
    (λ n net. all_miss e n writes (initials_missed d ranked h (take 1 (list_at s.init m)) (some_of (λ (x : InitialAssign). InitialWrites d x.target) (list_at s.init m) (all_in (λ (x : InitialAssign). InitialWrites d x.target) s.init m c.registers.init)) n net))
    (λ k b at. room k b at)
IsRoomKept-after d ranked o e s Activate h c kept allowed room = activated_room d o s allowed room
IsRoomKept-after d ranked o e s (Perform m) h c kept allowed room =
    let writes = flat_map update_written (take 1 (list_at s.now m)) in
    let st = record s { now = set s.now m (drop 1 (list_at s.now m)) } in
    room_put d ranked h o e s st writes c kept refl refl
    (λ n net. all_miss e n writes (updates_missed d ranked h (take 1 (list_at s.now m)) (some_of (UpdateWrites d) (list_at s.now m) (all_in (UpdateWrites d) s.now m c.registers.now)) n net))
    (λ k b at. (let f = now_falls s.now m k allowed in let r = room k b at in omega arith))

-- as a slot opens

pub openings_at_most : (o : ℕ → Bit) (store : Store) (nets : List ℕ) → openings o store nets ≤ length nets
openings_at_most o store [] = omega arith
openings_at_most o store (n ∷ nets) =
    let e = sum_by-cons (opening_count o store) n nets in
    let here = digit_at_most (same_bit (edge_bit store n) (o n)) in
    let more = openings_at_most o store nets in
    omega arith

idle_room : (d : Netlist) (o : ℕ → Bit) (s : State) → ((k : ℕ) → list_at s.todo k ≡ []) → ((k : ℕ) → list_at s.later k ≡ []) → ((k : ℕ) → list_at s.now k ≡ []) → IsRoomKept d o s
idle_room d o s todo later now k b at =
    let t = ap stack_most (todo k) in
    let l = ap updates_room (later k) in
    let n = ap updates_room (now k) in
    let none : updates_room [] ≡ 0 = refl in
    let none' : stack_most [] ≡ 0 = refl in
    let m = mul-le-mul_left (statement_most b.body) (openings_at_most o s.store (nets_of b)) in
    omega arith

abbrev the_nil : (A : Type 0) → List A
the_nil A = []

nothing_at : {A : Type 0} (n k : ℕ) → list_at (replicate n (the_nil A)) k ≡ []
nothing_at zero k = refl
nothing_at (suc n) zero = refl
nothing_at (suc n) (suc k) = nothing_at n k

pub IsRoomKept-start_of : (d : Netlist) (o : ℕ → Bit) → IsRoomKept d o (start_of d)
IsRoomKept-start_of d o = idle_room d o (start_of d) (nothing_at {A = Statement} (length d.blocks)) (nothing_at {A = Update} (length d.blocks)) (nothing_at {A = Update} (length d.blocks))

pub IsRoomKept-opened : (d : Netlist) (o : ℕ → Bit) (s : State) (moves : List Move) → IsResting s → IsRoomKept d o (opened d moves s)
IsRoomKept-opened d o s moves rests = idle_room d o (opened d moves s) (default_at [] s.todo rests.todo) (default_at [] s.later rests.later) (default_at [] s.now rests.now)

pub room_suffices : (d : Netlist) (o : ℕ → Bit) (s : State) (k : ℕ) (b : Block) → slice_get d.blocks k ≡ Some b → IsRoomKept d o s → updates_room (list_at s.later k) + updates_room (list_at s.now k) ≤ statement_most b.body * length (nets_of b)
room_suffices d o s k b at room = let r = room k b at in omega arith
