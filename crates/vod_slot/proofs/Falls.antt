-- The weight falls with each allowed event.
use Rattle.std.proofs.Common.{◌≡◌, ◌≢◌, ℕ, zero, suc, ◌+◌, ◌*◌, ◌^◌, ◌<◌, ◌≤◌, ◌||◌, ◌++◌, not, Bool, true, false, cond, List, [], ◌∷◌, length, flat_map, take, drop, set, get_or, arith, refl, ap, sym, ◌∙◌, ⊎_elim, All, Option, Some, None, is_some, count_by, IsTrue, unwrap_or, slice_get, slice_index_or, length-append, get_or-set_other}
use Rattle.std.specs.List.{sum_by, list_any}
use Rattle.std.proofs.lemmas.Bool.{and_parts, cases_Bool, not_from_false}
use Rattle.std.proofs.lemmas.List.Sums.{sum_by-set, sum_by-cons, sum_by-append}
use Rattle.std.proofs.lemmas.Option.{slice_get_within}
use Rattle.vod_bits.specs.Bit.{Bit}
use Rattle.vod_design.specs.declared.parts.Driver.{Driver}
use Rattle.vod_design.specs.declared.parts.InitialAssign.{InitialAssign}
use Rattle.vod_design.specs.declared.statement.Statement.{Statement}
use Rattle.vod_design.specs.declared.statement.Statement.TheViews.{out-Statement}
use Rattle.vod_design.specs.Accepted.{IsAccepted}
use Rattle.vod_design.specs.Feeds.{feeds}
use Rattle.vod_design.specs.Netlist.{Netlist}
use Rattle.vod_slot.specs.declared.event.Event.TheVariants.{TakeMove, Evaluate, Update as UpdateDriver, Run, Initialize, Activate, Perform}
use Rattle.vod_slot.specs.Store.{Write, list_at, brought, bits_at, bits_written, places_written}
use Rattle.vod_slot.specs.State.{State, Update, option_at, flag_at, input_signals}
use Rattle.vod_slot.specs.Step.{Event, is_allowed, is_filled, has_active, after, put, put_all, pending, evaluated, target_of, operand, next_after, updates_of, ran, initial_written, update_written}
use Rattle.vod_slot.specs.Shape.{IsShaped, WritesRegisters, UpdateWrites, InitialWrites}
use Rattle.vod_slot.specs.Weight.{edge_path, one_writes_read, is_on_path, drivers_weight, statement_weight, stack_weight, blocks_weight, bodies_weight, edges_weight, weight_of}
use Rattle.vod_slot.proofs.Lists.{all_in}
use Rattle.vod_slot.proofs.Raised.{flag_within}
use Rattle.vod_slot.proofs.Digits.{power, falls_more, some_within, woken_rise, updated_rise, drivers_same, update_falls, evaluate_falls}
use Rattle.vod_slot.proofs.Stacks.{statement_falls, put_all_rises, list_within, first_taken, none_left, some_update}
use Rattle.vod_slot.proofs.Targets.{some_of}
use Rattle.vod_slot.proofs.Paths.{ordered, ranked_has, feeds_itself}
use Rattle.vod_slot.proofs.Outside.{IsOutside, path_kept, todo_kept, updates_outside, initials_outside, target_off_path, unfed_kept}

-- over plain numbers

edges_fall : (u' u b s' s l' l p : ℕ) → u' < u → s' ≤ s + b → l' < l + p → (u' * (b + 1) + s') * p + l' < (u * (b + 1) + s) * p + l
edges_fall u' u b s' s l' l p lt le rise = falls_more (u' * (b + 1) + s') (u * (b + 1) + s) p l' l (falls_more u' u (b + 1) s' s lt (omega arith)) rise

blocks_fall : (u' u b s' s l' l p : ℕ) → u' ≡ u → s' < s → l' < l + p → (u' * (b + 1) + s') * p + l' < (u * (b + 1) + s) * p + l
blocks_fall u' u b s' s l' l p same lt rise = rw same (falls_more (u * (b + 1) + s') (u * (b + 1) + s) p l' l (omega arith) rise)

drivers_fall : (u' u b s' s l' l p : ℕ) → u' ≡ u → s' ≡ s → l' < l → (u' * (b + 1) + s') * p + l' < (u * (b + 1) + s) * p + l
drivers_fall u' u b s' s l' l p same same' lt = rw (same, same') (omega arith)

-- what writes leave

pub moves-put_all : (d : Netlist) (writes : List Write) (st : State) → (put_all d writes st).moves ≡ st.moves
moves-put_all d [] st = refl
moves-put_all d (w ∷ writes) st = moves-put_all d writes (put d w st)

pub init-put_all : (d : Netlist) (writes : List Write) (st : State) → (put_all d writes st).init ≡ st.init
init-put_all d [] st = refl
init-put_all d (w ∷ writes) st = init-put_all d writes (put d w st)

pub pend-put_all : (d : Netlist) (writes : List Write) (st : State) → (put_all d writes st).pend ≡ st.pend
pend-put_all d [] st = refl
pend-put_all d (w ∷ writes) st = pend-put_all d writes (put d w st)

pub later-put_all : (d : Netlist) (writes : List Write) (st : State) → (put_all d writes st).later ≡ st.later
later-put_all d [] st = refl
later-put_all d (w ∷ writes) st = later-put_all d writes (put d w st)

pub now-put_all : (d : Netlist) (writes : List Write) (st : State) → (put_all d writes st).now ≡ st.now
now-put_all d [] st = refl
now-put_all d (w ∷ writes) st = now-put_all d writes (put d w st)

blocks-put_all : (d : Netlist) (writes : List Write) (st : State) → blocks_weight (put_all d writes st) + sum_by stack_weight st.todo ≡ blocks_weight st + sum_by stack_weight (put_all d writes st).todo
blocks-put_all d writes st =
    let i = ap (sum_by (length {A = InitialAssign})) (init-put_all d writes st) in
    let l = ap (sum_by (length {A = Update})) (later-put_all d writes st) in
    let n = ap (sum_by (length {A = Update})) (now-put_all d writes st) in
    omega arith

blocks_rise : (d : Netlist) (writes : List Write) (st : State) → blocks_weight (put_all d writes st) ≤ blocks_weight st + bodies_weight d.blocks
blocks_rise d writes st = let e = blocks-put_all d writes st in let r = put_all_rises d writes st in omega arith

abbrev off_path : Netlist → List ℕ → ℕ → Bool
off_path d ranked j = not (is_on_path d ranked j)

drivers_rise : (keep : ℕ → Bool) (d : Netlist) (ranked : List ℕ) (writes : List Write) (st : State) → drivers_weight keep ranked (put_all d writes st).wake (put_all d writes st).pend < drivers_weight keep ranked st.wake st.pend + 3 ^ length ranked
drivers_rise keep d ranked writes st = rw (pend-put_all d writes st) (woken_rise keep ranked st.wake (put_all d writes st).wake st.pend)

-- writes outside the path
blocks_same : (d : Netlist) (ranked : List ℕ) (writes : List Write) (st : State) → All (IsOutside d ranked) writes → blocks_weight (put_all d writes st) ≡ blocks_weight st
blocks_same d ranked writes st out =
    let e = blocks-put_all d writes st in
    let t = ap (sum_by stack_weight) (todo_kept d ranked writes st out) in
    omega arith

edges_same : (d : Netlist) (ranked : List ℕ) → IsAccepted d ranked → (writes : List Write) (st : State) → All (IsOutside d ranked) writes → edges_weight d ranked (put_all d writes st) ≡ edges_weight d ranked st
edges_same d ranked a writes st out =
    let on = is_on_path d ranked in
    let m = ap (λ (xs : List (Option (List Bit))). count_by is_some xs) (moves-put_all d writes st) in
    let w = drivers_same on ranked st.wake (put_all d writes st).wake st.pend (put_all d writes st).pend
    (λ i e l kept. (path_kept d ranked a writes st out (get_or ranked i e) kept, ap (λ p. option_at p (get_or ranked i e)) (pend-put_all d writes st))) in
    rw (m, w) refl

-- by the kinds of events

count_falls : {A : Type 0} (xs : List (Option A)) (i : ℕ) → is_some (get_or xs i None) ≡ true → count_by is_some (set xs i None) < count_by is_some xs
count_falls xs i some =
    let e : count_by is_some (set xs i None) + cond {A = ℕ} (is_some (get_or xs i None)) 1 0 ≡ count_by is_some xs + 0 = sum_by-set (λ x. cond {A = ℕ} (is_some x) 1 0) xs i None None (some_within xs i some) in
    let one : cond {A = ℕ} (is_some (get_or xs i None)) 1 0 ≡ 1 = ap (λ (b : Bool). cond {A = ℕ} b 1 0) some in
    omega arith

taken_falls : (d : Netlist) (ranked : List ℕ) (s : State) (i : ℕ) (writes : List Write) → is_some (option_at s.moves i) ≡ true → weight_of d ranked (put_all d writes (record s { moves = set s.moves i None })) < weight_of d ranked s
taken_falls d ranked s i writes some =
    let st = record s { moves = set s.moves i None } in
    let t = put_all d writes st in
    let on = is_on_path d ranked in
    let m : count_by is_some t.moves < count_by is_some s.moves = rw (moves-put_all d writes st) (count_falls s.moves i some) in
    edges_fall (edges_weight d ranked t) (edges_weight d ranked s) (bodies_weight d.blocks) (blocks_weight t) (blocks_weight s)
    (drivers_weight (off_path d ranked) ranked t.wake t.pend) (drivers_weight (off_path d ranked) ranked s.wake s.pend) (3 ^ length ranked)
    (falls_more (count_by is_some t.moves) (count_by is_some s.moves) (3 ^ length ranked) (drivers_weight on ranked t.wake t.pend) (drivers_weight on ranked s.wake s.pend) m (drivers_rise on d ranked writes st))
    (blocks_rise d writes st)
    (drivers_rise (off_path d ranked) d ranked writes st)

outside_falls : (d : Netlist) (ranked : List ℕ) → IsAccepted d ranked → (s st : State) (writes : List Write) → All (IsOutside d ranked) writes → st.moves ≡ s.moves → st.wake ≡ s.wake → st.pend ≡ s.pend → blocks_weight st < blocks_weight s → weight_of d ranked (put_all d writes st) < weight_of d ranked s
outside_falls d ranked a s st writes out m w p lt =
    let t = put_all d writes st in
    let e : edges_weight d ranked st ≡ edges_weight d ranked s = rw (m, w, p) refl in
    let l : drivers_weight (off_path d ranked) ranked st.wake st.pend ≡ drivers_weight (off_path d ranked) ranked s.wake s.pend = rw (w, p) refl in
    let b = blocks_same d ranked writes st out in
    let r = drivers_rise (off_path d ranked) d ranked writes st in
    blocks_fall (edges_weight d ranked t) (edges_weight d ranked s) (bodies_weight d.blocks) (blocks_weight t) (blocks_weight s)
    (drivers_weight (off_path d ranked) ranked t.wake t.pend) (drivers_weight (off_path d ranked) ranked s.wake s.pend) (3 ^ length ranked)
    (edges_same d ranked a writes st out ∙ e) (omega arith) (omega arith)

no_driver : {A : Type 0} (xs : List A) (i : ℕ) → i < length xs → slice_get xs i ≡ None → ⊥
no_driver [] i h e = absurd (omega arith)
no_driver (x ∷ xs) zero h e = cc
no_driver (x ∷ xs) (suc i) h e = no_driver xs i (omega arith) e

apart_from : (keep : ℕ → Bool) (b : Bool) (j q : ℕ) → keep j ≡ b → keep q ≡ not b → q ≢ j
apart_from keep true j q kept other same = let clash : true ≡ false = sym kept ∙ ap keep (sym same) ∙ other in cc
apart_from keep false j q kept other same = let clash : true ≡ false = sym other ∙ ap keep same ∙ kept in cc

not_true : (b : Bool) → not b ≡ true → b ≡ false
not_true true h = absurd (cc)
not_true false h = refl

evaluated_falls : (d : Netlist) (ranked : List ℕ) → IsAccepted d ranked → (s : State) (j : ℕ) (o : Option Driver) → slice_get d.drivers j ≡ o → IsShaped d s → flag_at s.wake j ≡ true → weight_of d ranked (evaluated d j o s) < weight_of d ranked s
evaluated_falls d ranked a s j None is shaped awake = let l = flag_within s.wake j awake in let w = shaped.wake in absurd (no_driver d.drivers j (omega arith) is)
evaluated_falls d ranked a s j (Some c) is shaped awake =
    let new = pending (brought d s.store c) (bits_at s.store c.target) in
    let wake = set s.wake j false in
    let pend = set s.pend j new in
    let on = is_on_path d ranked in
    let off = off_path d ranked in
    let lw = flag_within s.wake j awake in
    let w = shaped.wake in let p = shaped.pend in
    let stands = ranked_has d ranked a j (omega arith) in
    let P = power (length ranked) in
    ⊎_elim
    (λ kept.
    let rest = drivers_same off ranked s.wake wake s.pend pend
    (λ i e l k. (let apart = apart_from on true j (get_or ranked i e) kept (not_true (on (get_or ranked i e)) k) in (get_or-set_other s.wake j (get_or ranked i e) false false apart, get_or-set_other s.pend j (get_or ranked i e) new None apart))) in
    let fall = evaluate_falls on ranked s.wake s.pend j new kept awake lw (omega arith) stands a.order.each.once in
    edges_fall (count_by is_some s.moves * 3 ^ length ranked + drivers_weight on ranked wake pend) (edges_weight d ranked s) (bodies_weight d.blocks) (blocks_weight s) (blocks_weight s)
    (drivers_weight off ranked wake pend) (drivers_weight off ranked s.wake s.pend) (3 ^ length ranked) (omega arith) (omega arith) (omega arith))
    (λ free.
    let rest = drivers_same on ranked s.wake wake s.pend pend
    (λ i e l k. (let apart = apart_from on false j (get_or ranked i e) free k in (get_or-set_other s.wake j (get_or ranked i e) false false apart, get_or-set_other s.pend j (get_or ranked i e) new None apart))) in
    let fall = evaluate_falls off ranked s.wake s.pend j new (not_from_false (on j) free) awake lw (omega arith) stands a.order.each.once in
    drivers_fall (count_by is_some s.moves * 3 ^ length ranked + drivers_weight on ranked wake pend) (edges_weight d ranked s) (bodies_weight d.blocks) (blocks_weight s) (blocks_weight s)
    (drivers_weight off ranked wake pend) (drivers_weight off ranked s.wake s.pend) (3 ^ length ranked) (omega arith) refl fall)
    (cases_Bool (on j))

updated_falls : (d : Netlist) (ranked : List ℕ) → IsAccepted d ranked → (s : State) (j : ℕ) (o : Option Driver) (bits : List Bit) → slice_get d.drivers j ≡ o → IsShaped d s → is_some (option_at s.pend j) ≡ true →
    weight_of d ranked (put_all d (places_written (target_of o) bits) (record s { pend = set s.pend j None })) < weight_of d ranked s
updated_falls d ranked a s j None bits is shaped some = let l = some_within s.pend j some in let p = shaped.pend in absurd (no_driver d.drivers j (omega arith) is)
updated_falls d ranked a s j (Some c) bits is shaped some =
    let st = record s { pend = set s.pend j None } in
    let writes = places_written c.target bits in
    let t = put_all d writes st in
    let on = is_on_path d ranked in
    let off = off_path d ranked in
    let lt = slice_get_within d.drivers j c is in
    let stands = ranked_has d ranked a j lt in
    let m = ap (λ (xs : List (Option (List Bit))). count_by is_some xs) (moves-put_all d writes st) in
    let falls : (keep : ℕ → Bool) → keep j ≡ true → drivers_weight keep ranked t.wake t.pend < drivers_weight keep ranked s.wake s.pend
    = λ keep kept. rw (pend-put_all d writes st) (update_falls keep (feeds d.drivers) ranked s.wake t.wake s.pend j kept some stands (ordered d ranked a) (feeds_itself d ranked a j lt) (λ q free. unfed_kept d j c bits st q is free)) in
    ⊎_elim
    (λ kept.
    let fall = falls on kept in
    let rise : drivers_weight off ranked t.wake t.pend < drivers_weight off ranked s.wake s.pend + 3 ^ length ranked = rw (pend-put_all d writes st) (updated_rise off ranked s.wake t.wake s.pend j) in
    let e : edges_weight d ranked t < edges_weight d ranked s = rw m (omega arith) in
    edges_fall (edges_weight d ranked t) (edges_weight d ranked s) (bodies_weight d.blocks) (blocks_weight t) (blocks_weight s)
    (drivers_weight off ranked t.wake t.pend) (drivers_weight off ranked s.wake s.pend) (3 ^ length ranked) e (blocks_rise d writes st) rise)
    (λ free.
    let free_c = sym (ap (one_writes_read (edge_path d ranked)) is) ∙ free in
    let out = target_off_path d ranked c bits free_c in
    let same = drivers_same on ranked s.wake t.wake s.pend t.pend
    (λ i e l k. (path_kept d ranked a writes st out (get_or ranked i e) k, ap (λ p. option_at p (get_or ranked i e)) (pend-put_all d writes st) ∙ get_or-set_other s.pend j (get_or ranked i e) None None (apart_from on false j (get_or ranked i e) free k))) in
    let e : edges_weight d ranked t ≡ edges_weight d ranked s = rw (m, same) refl in
    drivers_fall (edges_weight d ranked t) (edges_weight d ranked s) (bodies_weight d.blocks) (blocks_weight t) (blocks_weight s)
    (drivers_weight off ranked t.wake t.pend) (drivers_weight off ranked s.wake s.pend) (3 ^ length ranked) e (blocks_same d ranked writes st out) (falls off (not_from_false (on j) free)))
    (cases_Bool (on j))

-- only what is left of blocks changes
still_falls : (d : Netlist) (ranked : List ℕ) (s t : State) → t.moves ≡ s.moves → t.wake ≡ s.wake → t.pend ≡ s.pend → blocks_weight t < blocks_weight s → weight_of d ranked t < weight_of d ranked s
still_falls d ranked s t m w p lt =
    let e : edges_weight d ranked t ≡ edges_weight d ranked s = rw (m, w, p) refl in
    let l : drivers_weight (off_path d ranked) ranked t.wake t.pend ≡ drivers_weight (off_path d ranked) ranked s.wake s.pend = rw (w, p) refl in
    let P = power (length ranked) in
    blocks_fall (edges_weight d ranked t) (edges_weight d ranked s) (bodies_weight d.blocks) (blocks_weight t) (blocks_weight s)
    (drivers_weight (off_path d ranked) ranked t.wake t.pend) (drivers_weight (off_path d ranked) ranked s.wake s.pend) (3 ^ length ranked) e lt (omega arith)

ran_falls : (d : Netlist) (ranked : List ℕ) (s : State) (k : ℕ) (statements : List Statement) → list_at s.todo k ≡ statements → IsShaped d s → is_filled (list_at s.todo k) ≡ true → weight_of d ranked (ran d k statements s) < weight_of d ranked s
ran_falls d ranked s k [] is shaped filled = let clash : true ≡ false = sym filled ∙ ap is_filled is in absurd (cc)
ran_falls d ranked s k (x ∷ statements) is shaped filled =
    let value = operand d s.store in
    let next = next_after value (out-Statement x) in
    let new = updates_of value (out-Statement x) in
    let lt = list_within s.todo k filled in
    let wt = shaped.todo in let wl = shaped.later in
    let t : sum_by stack_weight (set s.todo k (next ++ statements)) + stack_weight (list_at s.todo k) ≡ sum_by stack_weight s.todo + stack_weight (next ++ statements) = sum_by-set stack_weight s.todo k (next ++ statements) [] lt in
    let was : stack_weight (list_at s.todo k) ≡ statement_weight x + stack_weight statements = ap stack_weight is ∙ sum_by-cons statement_weight x statements in
    let becomes : stack_weight (next ++ statements) ≡ stack_weight next + stack_weight statements = sum_by-append statement_weight next statements in
    let l : sum_by length (set s.later k (list_at s.later k ++ new)) + length (list_at s.later k) ≡ sum_by length s.later + length (list_at s.later k ++ new) = sum_by-set (length {A = Update}) s.later k (list_at s.later k ++ new) [] (omega arith) in
    let more : length (list_at s.later k ++ new) ≡ length (list_at s.later k) + length new = length-append (list_at s.later k) new in
    let fall = statement_falls value x in
    still_falls d ranked s (ran d k (x ∷ statements) s) refl refl refl (omega arith)

not_filled : (b : Bool) (lists : List (List Update)) → list_any is_filled lists ≡ b → b ≡ false → sum_by length lists ≡ 0
not_filled b [] is none = refl
not_filled b ([] ∷ lists) is none = let none_ : List Update = [] in let e = sum_by-cons (length {A = Update}) none_ lists in let more = not_filled b lists is none in omega arith
not_filled b ((u ∷ us) ∷ lists) is none = let clash : true ≡ false = is ∙ none in absurd (cc)

or_last : (a b : Bool) → (a || b) ≡ false → b ≡ false
or_last true b h = absurd (cc)
or_last false b h = h

pub weight_of-after : (d : Netlist) (ranked : List ℕ) (s : State) (event : Event) → IsAccepted d ranked → IsShaped d s → WritesRegisters d s → IsTrue (is_allowed s event) → weight_of d ranked (after d s event) < weight_of d ranked s
weight_of-after d ranked s (TakeMove i) a shaped writes allowed = taken_falls d ranked s i (bits_written (slice_index_or (input_signals d.inputs) i 0) 0 (unwrap_or (option_at s.moves i) [])) allowed
weight_of-after d ranked s (Evaluate j) a shaped writes allowed = evaluated_falls d ranked a s j (slice_get d.drivers j) refl shaped allowed
weight_of-after d ranked s (UpdateDriver j) a shaped writes allowed = updated_falls d ranked a s j (slice_get d.drivers j) (unwrap_or (option_at s.pend j) []) refl shaped allowed
weight_of-after d ranked s (Run k) a shaped writes allowed = ran_falls d ranked s k (list_at s.todo k) refl shaped allowed
weight_of-after d ranked s (Initialize m) a shaped writes allowed =
    let f = first_taken s.init m allowed in
    outside_falls d ranked a s (record s { init = set s.init m (drop 1 (list_at s.init m)) }) (flat_map (λ (x : InitialAssign). initial_written x.target x.value) (take 1 (list_at s.init m)))
    (initials_outside d ranked a (take 1 (list_at s.init m)) (some_of (λ (x : InitialAssign). InitialWrites d x.target) (list_at s.init m) (all_in (λ (x : InitialAssign). InitialWrites d x.target) s.init m writes.init)))
    refl refl refl (omega arith)
weight_of-after d ranked s Activate a shaped writes allowed =
    let p = and_parts (not (has_active s)) (list_any is_filled s.later) allowed in
    let none = none_left s.later in
    let some = some_update s.later p.1 in
    let idle = not_filled (list_any is_filled s.now) s.now refl (or_last _ (list_any is_filled s.now) (not_true (has_active s) p.0)) in
    still_falls d ranked s (after d s Activate) refl refl refl (omega arith)
weight_of-after d ranked s (Perform k) a shaped writes allowed =
    let f = first_taken s.now k allowed in
    outside_falls d ranked a s (record s { now = set s.now k (drop 1 (list_at s.now k)) }) (flat_map update_written (take 1 (list_at s.now k)))
    (updates_outside d ranked a (take 1 (list_at s.now k)) (some_of (UpdateWrites d) (list_at s.now k) (all_in (UpdateWrites d) s.now k writes.now)))
    refl refl refl (omega arith)
