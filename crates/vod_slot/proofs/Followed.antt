-- Each driver awaits evaluation, or what it brings is its pending value, or its target has that: what each event keeps of this.
use Rattle.std.proofs.Common.{◌≡◌, ◌≢◌, ◌⊎◌, inl, inr, ℕ, zero, suc, ◌<◌, Bool, true, false, List, [], ◌∷◌, length, flat_map, take, drop, set, replicate, arith, refl, ap, sym, ◌∙◌, subst, ⊎_elim, All, Option, Some, None, is_some, unwrap_or, IsTrue, if◌then◌else◌, slice_get, slice_index_or, get_or-set_same, get_or-set_other}
use Rattle.std.proofs.lemmas.Bool.{cases_eq}
use Rattle.std.proofs.lemmas.Option.{slice_get_within, same_Some}
use Rattle.vod_bits.specs.Bit.{Bit}
use Rattle.vod_design.specs.declared.parts.Driver.{Driver}
use Rattle.vod_design.specs.declared.parts.InitialAssign.{InitialAssign}
use Rattle.vod_design.specs.declared.statement.Statement.{Statement}
use Rattle.vod_design.specs.declared.vector.Move.{Move}
use Rattle.vod_design.specs.Accepted.{IsAccepted}
use Rattle.vod_design.specs.Netlist.{Netlist}
use Rattle.vod_slot.specs.declared.event.Event.TheVariants.{TakeMove, Evaluate, Update as UpdateDriver, Run, Initialize, Activate, Perform}
use Rattle.vod_slot.specs.Store.{Write, list_at, same_bits, brought, bits_at, bits_written, places_written}
use Rattle.vod_slot.specs.State.{State, option_at, flag_at, input_signals, start_of, opened, IsResting}
use Rattle.vod_slot.specs.Step.{Event, is_allowed, after, put, put_all, pending, evaluated, target_of, ran, initial_written, update_written}
use Rattle.vod_slot.specs.Shape.{WritesRegisters, IsShaped, UpdateWrites, InitialWrites}
use Rattle.vod_slot.specs.Settled.{IsFollowed, AreFollowed, IsSettled}
use Rattle.vod_slot.proofs.Lists.{all_in, default_at, all_from_places}
use Rattle.vod_slot.proofs.Replaced.{same_bits-equal}
use Rattle.vod_slot.proofs.Writes.{HangsOnReads, length-brought, put_all-awake, put_all-woken}
use Rattle.vod_slot.proofs.Puts.{Misses, bits_at-kept, places-hold}
use Rattle.vod_slot.proofs.Targets.{some_of, to_drive, targets_once, targets_apart, are_there, updates_miss, initials_miss, input_misses, places_miss}

pend-put_all : (d : Netlist) (writes : List Write) (st : State) → (put_all d writes st).pend ≡ st.pend
pend-put_all d [] st = refl
pend-put_all d (w ∷ writes) st = pend-put_all d writes (put d w st)

-- writes that miss a driver's target
kept : HangsOnReads → (d : Netlist) (writes : List Write) (st : State) (k : ℕ) (a : Driver) (value : Option (List Bit)) → slice_get d.drivers k ≡ Some a → k < length st.wake → All (λ b. All (Misses b) writes) a.target →
    IsFollowed d st.store a (flag_at st.wake k) value → IsFollowed d (put_all d writes st).store a (flag_at (put_all d writes st).wake k) value
kept hangs d writes st k a value at h missed followed =
    let t = put_all d writes st in
    ⊎_elim
    (λ awake. inl awake)
    (λ same. ⊎_elim
    (λ awake. inl (put_all-awake d writes st k h awake))
    (λ rest. ⊎_elim
    (λ pends. inr (inl (pends ∙ ap Some (sym same))))
    (λ settled. inr (inr (settled.0, bits_at-kept d writes st a.target missed ∙ settled.1 ∙ sym same)))
    rest)
    followed)
    (put_all-woken hangs d writes st k a at h)

kept_all : HangsOnReads → (d : Netlist) (writes : List Write) (st : State) (k : ℕ) (a : Driver) → slice_get d.drivers k ≡ Some a → k < length st.wake → All (λ b. All (Misses b) writes) a.target →
    IsFollowed d st.store a (flag_at st.wake k) (option_at st.pend k) → IsFollowed d (put_all d writes st).store a (flag_at (put_all d writes st).wake k) (option_at (put_all d writes st).pend k)
kept_all hangs d writes st k a at h missed followed =
    subst (λ pend. IsFollowed d (put_all d writes st).store a (flag_at (put_all d writes st).wake k) (option_at pend k)) (sym (pend-put_all d writes st)) (kept hangs d writes st k a (option_at st.pend k) at h missed followed)

awake_within : (d : Netlist) (s : State) (k : ℕ) (a : Driver) → IsShaped d s → slice_get d.drivers k ≡ Some a → k < length s.wake
awake_within d s k a shaped at = let l = slice_get_within d.drivers k a at in let e = shaped.wake in omega arith

some_within : {A : Type 0} (xs : List (Option A)) (i : ℕ) → is_some (option_at xs i) ≡ true → i < length xs
some_within [] i h = absurd (cc)
some_within (x ∷ xs) zero h = omega arith
some_within (x ∷ xs) (suc i) h = let l = some_within xs i h in omega arith

-- a driver whose own update is performed
own : HangsOnReads → (d : Netlist) (ranked : List ℕ) (s : State) (j : ℕ) (a : Driver) (value : Option (List Bit)) → IsAccepted d ranked → IsShaped d s → slice_get d.drivers j ≡ Some a → is_some value ≡ true →
    IsFollowed d s.store a (flag_at s.wake j) value →
    IsFollowed d (put_all d (places_written a.target (unwrap_or value [])) (record s { pend = set s.pend j None })).store a (flag_at (put_all d (places_written a.target (unwrap_or value [])) (record s { pend = set s.pend j None })).wake j) None
own hangs d ranked s j a None accepted shaped at some followed = absurd (cc)
own hangs d ranked s j a (Some v) accepted shaped at some followed =
    let st = record s { pend = set s.pend j None } in
    let writes = places_written a.target v in
    let within = awake_within d s j a shaped at in
    ⊎_elim
    (λ awake. inl awake)
    (λ same. ⊎_elim
    (λ awake. inl (put_all-awake d writes st j within awake))
    (λ rest. ⊎_elim
    (λ pends.
    let is : v ≡ brought d s.store a = same_Some v (brought d s.store a) pends in
    let len : length v ≡ length a.target = ap length is ∙ length-brought d s.store a in
    inr (inr (refl, places-hold d a.target v st len (targets_once d ranked accepted j a at) (are_there d s.store a.target shaped.sizes (to_drive d ranked accepted j a at)) ∙ is ∙ sym same)))
    (λ settled. absurd (no_some v settled.0))
    rest)
    followed)
    (put_all-woken hangs d writes st j a at within)
  where
    no_some : (v : List Bit) → Some v ≡ None → ⊥
    no_some v e = let clash : true ≡ false = ap is_some e in cc

updated : HangsOnReads → (d : Netlist) (ranked : List ℕ) (s : State) (j : ℕ) → IsAccepted d ranked → IsShaped d s → is_some (option_at s.pend j) ≡ true → AreFollowed d s → AreFollowed d (after d s (UpdateDriver j))
updated hangs d ranked s j accepted shaped some followed k a at =
    let st = record s { pend = set s.pend j None } in
    let within = awake_within d s k a shaped at in
    ⊎_elim
    (λ same.
    let at' : slice_get d.drivers j ≡ Some a = subst (λ n. slice_get d.drivers n ≡ Some a) (sym same) at in
    let none : option_at (set s.pend j None) j ≡ None = get_or-set_same s.pend j None None (some_within s.pend j some) in
    let writes = places_written a.target (unwrap_or (option_at s.pend j) []) in
    let h = own hangs d ranked s j a (option_at s.pend j) accepted shaped at' some (followed j a at') in
    let t : IsFollowed d (put_all d writes st).store a (flag_at (put_all d writes st).wake j) (option_at (put_all d writes st).pend j)
    = subst (λ o. IsFollowed d (put_all d writes st).store a (flag_at (put_all d writes st).wake j) o) (sym (ap (λ p. option_at p j) (pend-put_all d writes st) ∙ none)) h in
    subst (λ o. IsFollowed d (put_all d (places_written (target_of o) (unwrap_or (option_at s.pend j) [])) st).store a (flag_at (put_all d (places_written (target_of o) (unwrap_or (option_at s.pend j) [])) st).wake k) (option_at (put_all d (places_written (target_of o) (unwrap_or (option_at s.pend j) [])) st).pend k)) (sym at')
    (subst (λ n. IsFollowed d (put_all d writes st).store a (flag_at (put_all d writes st).wake n) (option_at (put_all d writes st).pend n)) same t))
    (λ apart.
    let before : IsFollowed d st.store a (flag_at st.wake k) (option_at st.pend k)
    = subst (λ o. IsFollowed d s.store a (flag_at s.wake k) o) (sym (get_or-set_other s.pend j k None None (λ e. apart (sym e)))) (followed k a at) in
    kept_all hangs d (places_written (target_of (slice_get d.drivers j)) (unwrap_or (option_at s.pend j) [])) st k a at within (missed (slice_get d.drivers j) refl apart) before)
    (cases_eq j k)
  where
    missed : (o : Option Driver) → slice_get d.drivers j ≡ o → j ≢ k → All (λ b. All (Misses b) (places_written (target_of o) (unwrap_or (option_at s.pend j) []))) a.target
    missed None is apart = places_miss a.target [] (unwrap_or (option_at s.pend j) []) (λ i e l i' e' l'. absurd (omega arith))
    missed (Some c) is apart = places_miss a.target c.target (unwrap_or (option_at s.pend j) []) (targets_apart d ranked accepted j k c a is at apart)

-- what an evaluation leaves
pub pends : (new old : List Bit) (b : Bool) → same_bits old new ≡ b → ((if b then None else Some new) ≡ Some new) ⊎ (((if b then None else Some new) ≡ None) × (old ≡ new))
pends new old true is = inr (refl, same_bits-equal old new is)
pends new old false is = inl refl

evaluated_one : (d : Netlist) (s : State) (j : ℕ) (o : Option Driver) → slice_get d.drivers j ≡ o → IsShaped d s → AreFollowed d s → AreFollowed d (evaluated d j o s)
evaluated_one d s j None is shaped followed k a at = followed k a at
evaluated_one d s j (Some c) is shaped followed k a at =
    let new = pending (brought d s.store c) (bits_at s.store c.target) in
    ⊎_elim
    (λ same.
    let c_is : c ≡ a = same_Some c a (sym is ∙ ap (slice_get d.drivers) same ∙ at) in
    let within : j < length s.pend = (let l = slice_get_within d.drivers j c is in let e = shaped.pend in omega arith) in
    let pend : option_at (set s.pend j new) k ≡ new = subst (λ n. option_at (set s.pend j new) n ≡ new) same (get_or-set_same s.pend j new None within) in
    let p : (new ≡ Some (brought d s.store c)) ⊎ ((new ≡ None) × (bits_at s.store c.target ≡ brought d s.store c)) = pends (brought d s.store c) (bits_at s.store c.target) (same_bits (bits_at s.store c.target) (brought d s.store c)) refl in
    let q : IsFollowed d s.store c (flag_at (set s.wake j false) k) (option_at (set s.pend j new) k)
    = ⊎_elim (λ some. inr (inl (pend ∙ some))) (λ none. inr (inr (pend ∙ none.0, none.1))) p in
    subst (λ e. IsFollowed d s.store e (flag_at (set s.wake j false) k) (option_at (set s.pend j new) k)) c_is q)
    (λ apart.
    subst (λ o. IsFollowed d s.store a (flag_at (set s.wake j false) k) o) (sym (get_or-set_other s.pend j k new None (λ e. apart (sym e))))
    (subst (λ b. IsFollowed d s.store a b (option_at s.pend k)) (sym (get_or-set_other s.wake j k false false (λ e. apart (sym e)))) (followed k a at)))
    (cases_eq j k)

ran_one : (d : Netlist) (k : ℕ) (statements : List Statement) (s : State) → AreFollowed d s → AreFollowed d (ran d k statements s)
ran_one d k [] s followed j a at = followed j a at
ran_one d k (t ∷ statements) s followed j a at = followed j a at

-- each event keeps it
pub AreFollowed-after : HangsOnReads → (d : Netlist) (ranked : List ℕ) (s : State) (event : Event) → IsAccepted d ranked → IsShaped d s → WritesRegisters d s → IsTrue (is_allowed s event) → AreFollowed d s → AreFollowed d (after d s event)
AreFollowed-after hangs d ranked s (TakeMove i) accepted shaped writes allowed followed k a at =
    let value = unwrap_or (option_at s.moves i) [] in
    let h : i < length d.inputs = (let l = some_within s.moves i allowed in let e = shaped.moves in omega arith) in
    kept_all hangs d (bits_written (slice_index_or (input_signals d.inputs) i 0) 0 value) (record s { moves = set s.moves i None }) k a at (awake_within d s k a shaped at)
    (input_misses d a.target i value h (to_drive d ranked accepted k a at)) (followed k a at)
AreFollowed-after hangs d ranked s (Evaluate j) accepted shaped writes allowed followed k a at = evaluated_one d s j (slice_get d.drivers j) refl shaped followed k a at
AreFollowed-after hangs d ranked s (UpdateDriver j) accepted shaped writes allowed followed k a at = updated hangs d ranked s j accepted shaped allowed followed k a at
AreFollowed-after hangs d ranked s (Run m) accepted shaped writes allowed followed k a at = ran_one d m (list_at s.todo m) s followed k a at
AreFollowed-after hangs d ranked s (Initialize m) accepted shaped writes allowed followed k a at =
    kept_all hangs d (flat_map (λ (x : InitialAssign). initial_written x.target x.value) (take 1 (list_at s.init m))) (record s { init = set s.init m (drop 1 (list_at s.init m)) }) k a at (awake_within d s k a shaped at)
    (initials_miss d a.target (take 1 (list_at s.init m)) (to_drive d ranked accepted k a at) (some_of (λ (x : InitialAssign). InitialWrites d x.target) (list_at s.init m) (all_in (λ (x : InitialAssign). InitialWrites d x.target) s.init m writes.init)))
    (followed k a at)
AreFollowed-after hangs d ranked s Activate accepted shaped writes allowed followed k a at = followed k a at
AreFollowed-after hangs d ranked s (Perform m) accepted shaped writes allowed followed k a at =
    kept_all hangs d (flat_map update_written (take 1 (list_at s.now m))) (record s { now = set s.now m (drop 1 (list_at s.now m)) }) k a at (awake_within d s k a shaped at)
    (updates_miss d a.target (take 1 (list_at s.now m)) (to_drive d ranked accepted k a at) (some_of (UpdateWrites d) (list_at s.now m) (all_in (UpdateWrites d) s.now m writes.now)))
    (followed k a at)

set_flag : (n k : ℕ) → k < n → flag_at (replicate n true) k ≡ true
set_flag zero k h = absurd (omega arith)
set_flag (suc n) zero h = refl
set_flag (suc n) (suc k) h = set_flag n k (omega arith)

pub AreFollowed-start_of : (d : Netlist) → AreFollowed d (start_of d)
AreFollowed-start_of d k a at = inl (set_flag (length d.drivers) k (slice_get_within d.drivers k a at))

pub AreFollowed-opened : (d : Netlist) (moves : List Move) (s : State) → AreFollowed d s → AreFollowed d (opened d moves s)
AreFollowed-opened d moves s followed = λ k a at. followed k a at

-- at rest each target has what its driver brings
pub settled_at_rest : (d : Netlist) (s : State) → AreFollowed d s → IsResting s → IsSettled d s.store
settled_at_rest d s followed rests =
    all_from_places (λ (a : Driver). bits_at s.store a.target ≡ brought d s.store a) d.drivers
    (λ k a at. ⊎_elim
    (λ awake. let clash : true ≡ false = sym awake ∙ default_at false s.wake rests.wake k in absurd (cc))
    (λ rest. ⊎_elim (λ pending. let none : Some (brought d s.store a) ≡ None = sym pending ∙ default_at None s.pend rests.pend k in let clash : true ≡ false = ap is_some none in absurd (cc)) (λ settled. settled.1) rest)
    (followed k a at))
