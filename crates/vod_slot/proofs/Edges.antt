-- Edge nets change at most once in a slot: what each event keeps of this.
use Rattle.std.proofs.Common.{◌≡◌, ◌≢◌, ◌⊎◌, inl, inr, ℕ, zero, suc, ◌<◌, Bool, true, false, if◌then◌else◌, List, [], ◌∷◌, length, map, flat_map, take, drop, set, get_or, arith, refl, ap, sym, ◌∙◌, subst, ⊎_elim, All, Option, Some, None, is_some, unwrap_or, IsTrue, slice_get, get_or-set_same, get_or-set_other}
use Rattle.std.specs.List.{Contains}
use Rattle.std.proofs.lemmas.Bool.{cases_eq}
use Rattle.std.proofs.lemmas.List.Elements.{All-head, All-cons}
use Rattle.std.proofs.lemmas.Option.{same_Some, slice_get_within}
use Rattle.vod_bits.specs.Bit.{Bit}
use Rattle.vod_design.specs.declared.parts.Driver.{Driver}
use Rattle.vod_design.specs.declared.parts.InitialAssign.{InitialAssign}
use Rattle.vod_design.specs.declared.parts.Input.{Input}
use Rattle.vod_design.specs.declared.statement.Place.{Place}
use Rattle.vod_design.specs.declared.statement.Statement.{Statement}
use Rattle.vod_design.specs.Accepted.{IsAccepted, IsToDrive}
use Rattle.vod_design.specs.Netlist.{Netlist, signal_width, IsNet, IsInput}
use Rattle.vod_design.specs.Nets.{IsEdgeNet}
use Rattle.vod_slot.specs.declared.event.Event.TheVariants.{TakeMove, Evaluate, Update as UpdateDriver, Run, Initialize, Activate, Perform}
use Rattle.vod_slot.specs.Store.{Store, Write, ToBit, list_at, same_bits, brought, bits_at, bits_written, places_written}
use Rattle.vod_slot.specs.State.{State, Update, option_at, input_signals}
use Rattle.vod_slot.specs.Step.{Event, is_allowed, after, put_all, pending, evaluated, target_of, ran, initial_written, update_written}
use Rattle.vod_slot.specs.Shape.{sizes, widths, IsShaped, UpdateWrites, InitialWrites, AssignsWrite}
use Rattle.vod_slot.specs.Settled.{IsConsistent}
use Rattle.vod_slot.specs.Edges.{IsLink, edge_bit, AreEdgesKept}
use Rattle.vod_slot.proofs.Lists.{all_none, all_in}
use Rattle.vod_slot.proofs.Digits.{some_within}
use Rattle.vod_slot.proofs.Replaced.{same_bits-itself}
use Rattle.vod_slot.proofs.Followed.{pends}
use Rattle.vod_slot.proofs.Puts.{place_same, Misses, IsThere, bit_at-kept, bit_at-written, bits-miss, places-miss}
use Rattle.vod_slot.proofs.Targets.{all_flat, some_of, to_drive, targets_apart, width_at, update_misses, initial_misses}
use Rattle.vod_slot.proofs.Paths.{place_in, stands_at, edge_driver}
use Rattle.vod_slot.proofs.Outside.{follows_net}
use Rattle.vod_slot.proofs.Falls.{moves-put_all, pend-put_all}
use Rattle.vod_slot.proofs.Links.{lowest, target_net, one_target, link_brings}

pub edge_is_net : (d : Netlist) (ranked : List ℕ) → IsAccepted d ranked → (n : ℕ) → IsEdgeNet d n → IsNet d n
edge_is_net d ranked h n e = follows_net d ranked h e.input e.stands n e.follows

-- a net is as it was, or has what is brought now, where what it copies had that
abbrev Moves : Netlist → (ℕ → Bit) → Store → Store → ℕ → Type 0
Moves d e s t n = (edge_bit t n ≡ edge_bit s n) ⊎ ((edge_bit t n ≡ e n) × ((j from : ℕ) (a : Driver) → IsLink d j a from n → edge_bit s from ≡ e from))

kept_by : (d : Netlist) (o e : ℕ → Bit) (s t : State) → AreEdgesKept d o e s → ((n : ℕ) → IsEdgeNet d n → Moves d e s.store t.store n) → ((i : ℕ) (v : List Bit) → option_at t.moves i ≡ Some v → option_at s.moves i ≡ Some v) →
    ((j : ℕ) (v : List Bit) → option_at t.pend j ≡ Some v → option_at s.pend j ≡ Some v) → AreEdgesKept d o e t
kept_by d o e s t k move moves pend = record {
  values = λ n net. ⊎_elim (λ same. ⊎_elim (λ l. inl (same ∙ l)) (λ r. inr (same ∙ r)) (k.values n net)) (λ moved. inr moved.0) (move n net);
  moves = λ i x v at net is. k.moves i x v at net (moves i v is);
  sources = λ j from to a l is. stays from l.net (⊎_elim (λ same. k.sources j from to a l (sym same ∙ is)) (λ moved. moved.1 j from a l) (move to (target_net d j from to a l)));
  pend = λ j from to a v l is. (let p = k.pend j from to a v l (pend j v is) in (p.0, stays from l.net p.1));
  openings_agree = k.openings_agree;
  brought_agree = k.brought_agree;
}
  where
    stays : (n : ℕ) → IsEdgeNet d n → edge_bit s.store n ≡ e n → edge_bit t.store n ≡ e n
    stays n net is = ⊎_elim (λ same. same ∙ is) (λ moved. moved.0) (move n net)

-- writes that miss each edge net
missed : (d : Netlist) (o e : ℕ → Bit) (s st : State) (writes : List Write) → AreEdgesKept d o e s → ((n : ℕ) → IsEdgeNet d n → All (Misses (lowest n)) writes) → st.store ≡ s.store → st.moves ≡ s.moves → st.pend ≡ s.pend → AreEdgesKept d o e (put_all d writes st)
missed d o e s st writes k miss same m p =
    kept_by d o e s (put_all d writes st) k
    (λ n net. inl (bit_at-kept d writes st (lowest n) (miss n net) ∙ ap (λ store. edge_bit store n) same))
    (λ i v is. ap (λ xs. option_at xs i) (sym (moves-put_all d writes st ∙ m)) ∙ is)
    (λ j v is. ap (λ xs. option_at xs j) (sym (pend-put_all d writes st ∙ p)) ∙ is)

still : (d : Netlist) (o e : ℕ → Bit) (s t : State) → AreEdgesKept d o e s → t.store ≡ s.store → t.moves ≡ s.moves → t.pend ≡ s.pend → AreEdgesKept d o e t
still d o e s t k same m p =
    kept_by d o e s t k (λ n net. inl (ap (λ store. edge_bit store n) same)) (λ i v is. ap (λ xs. option_at xs i) (sym m) ∙ is) (λ j v is. ap (λ xs. option_at xs j) (sym p) ∙ is)

pub updates_missed : (d : Netlist) (ranked : List ℕ) → IsAccepted d ranked → (us : List Update) → All (UpdateWrites d) us → (n : ℕ) → IsEdgeNet d n → All (Misses (lowest n)) (flat_map update_written us)
updates_missed d ranked h us each n net = all_flat (UpdateWrites d) (Misses (lowest n)) update_written us (λ u writes. update_misses d (lowest n) u (edge_is_net d ranked h n net) writes) each

pub initials_missed : (d : Netlist) (ranked : List ℕ) → IsAccepted d ranked → (assigns : List InitialAssign) → AssignsWrite d assigns → (n : ℕ) → IsEdgeNet d n → All (Misses (lowest n)) (flat_map (λ (a : InitialAssign). initial_written a.target a.value) assigns)
initials_missed d ranked h assigns each n net =
    all_flat (λ (a : InitialAssign). InitialWrites d a.target) (Misses (lowest n)) (λ (a : InitialAssign). initial_written a.target a.value) assigns
    (λ a writes. initial_misses d (lowest n) a.target a.value (edge_is_net d ranked h n net) writes) each

-- the lowest bit of an edge net is there
pub lowest_there : (d : Netlist) (ranked : List ℕ) → IsAccepted d ranked → (store : Store) → sizes store ≡ widths d → (n : ℕ) → IsEdgeNet d n → IsThere store (lowest n)
lowest_there d ranked h store same n net =
    let one : signal_width d n ≡ 1 = h.edge_bits n net in
    let w : get_or (sizes store) n 0 ≡ 1 = ap (λ ns. get_or ns n 0) same ∙ sym (width_at d.signals n) ∙ one in
    omega arith

pub none_there : {A : Type 0} (v : A) → None ≡ Some v → ⊥
none_there v e = let clash : false ≡ true = ap is_some e in cc

-- what is left of a list of optional values where one was taken
pub left_at : {A : Type 0} (xs : List (Option A)) (i k : ℕ) (v : A) → option_at (set xs i None) k ≡ Some v → option_at xs k ≡ Some v
left_at [] i k v h = h
left_at (x ∷ xs) zero zero v h = absurd (none_there v h)
left_at (x ∷ xs) zero (suc k) v h = h
left_at (x ∷ xs) (suc i) zero v h = h
left_at (x ∷ xs) (suc i) (suc k) v h = left_at xs i k v h

pub signal_at : (inputs : List Input) (i : ℕ) (x : Input) → slice_get inputs i ≡ Some x → get_or (map (λ (y : Input). y.signal) inputs) i 0 ≡ x.signal
signal_at [] i x at = absurd (cc)
signal_at (y ∷ inputs) zero x at = ap (λ (z : Input). z.signal) (same_Some y x at)
signal_at (y ∷ inputs) (suc i) x at = signal_at inputs i x at

pub item_of : {A : Type 0} (xs : List A) (k : ℕ) → k < length xs → (x : A) × (slice_get xs k ≡ Some x)
item_of [] k h = absurd (omega arith)
item_of (x ∷ xs) zero h = (x, refl)
item_of (x ∷ xs) (suc k) h = item_of xs k (omega arith)

-- no driver copies to an input
pub no_link : (d : Netlist) (ranked : List ℕ) → IsAccepted d ranked → (i j from n : ℕ) (x : Input) (a : Driver) → slice_get d.inputs i ≡ Some x → x.signal ≡ n → IsLink d j a from n → ⊥
no_link d ranked h i j from n x a at same l =
    let one = one_target d ranked h j from n a l in
    let drive : IsToDrive d (lowest n) = All-head (IsToDrive d) (lowest n) [] (subst (All (IsToDrive d)) one (to_drive d ranked h j a l.at)) in
    drive.free (subst (IsInput d) same (input_is d.inputs i at))
  where
    mapped : (inputs : List Input) (i : ℕ) → slice_get inputs i ≡ Some x → slice_get (map (λ (y : Input). y.signal) inputs) i ≡ Some x.signal
    mapped [] i at = absurd (cc)
    mapped (y ∷ inputs) zero at = ap (λ (z : Input). Some z.signal) (same_Some y x at)
    mapped (y ∷ inputs) (suc i) at = mapped inputs i at

    input_is : (inputs : List Input) (i : ℕ) → slice_get inputs i ≡ Some x → Contains (map (λ (y : Input). y.signal) inputs) x.signal
    input_is inputs i at = stands_at (map (λ (y : Input). y.signal) inputs) i x.signal (mapped inputs i at)

-- one bit is written
pub one_written : (d : Netlist) (n : ℕ) (bit : Bit) (st : State) → IsThere st.store (lowest n) → edge_bit (put_all d (ToBit n 0 bit ∷ []) st).store n ≡ bit
one_written d n bit st there = bit_at-written st.store (lowest n) bit there

taken : (d : Netlist) (ranked : List ℕ) → IsAccepted d ranked → (o e : ℕ → Bit) (s : State) (i : ℕ) (value : Option (List Bit)) → option_at s.moves i ≡ value → is_some value ≡ true → IsShaped d s → AreEdgesKept d o e s →
    AreEdgesKept d o e (put_all d (bits_written (get_or (input_signals d.inputs) i 0) 0 (unwrap_or value [])) (record s { moves = set s.moves i None }))
taken d ranked h o e s i None is some shaped k = absurd (cc)
taken d ranked h o e s i (Some v) is some shaped k =
    let st = record s { moves = set s.moves i None } in
    let lt : i < length d.inputs = (let l = some_within s.moves i (ap is_some is ∙ some) in let w = shaped.moves in omega arith) in
    let p = item_of d.inputs i lt in
    let signal : get_or (input_signals d.inputs) i 0 ≡ p.0.signal = signal_at d.inputs i p.0 p.1 in
    let writes = bits_written (get_or (input_signals d.inputs) i 0) 0 v in
    kept_by d o e s (put_all d writes st) k
    (λ n net. ⊎_elim
    (λ same.
    let v_is : v ≡ e n ∷ [] = k.moves i p.0 v p.1 (subst (IsEdgeNet d) (sym same) net) is ∙ ap (λ m. e m ∷ []) same in
    let w_is : writes ≡ ToBit n 0 (e n) ∷ [] = ap (λ m. bits_written m 0 v) (signal ∙ same) ∙ ap (bits_written n 0) v_is in
    inr (ap (λ ws. edge_bit (put_all d ws st).store n) w_is ∙ one_written d n (e n) st (lowest_there d ranked h s.store shaped.sizes n net), λ j from a l. absurd (no_link d ranked h i j from n p.0 a p.1 same l)))
    (λ apart. inl (bit_at-kept d writes st (lowest n) (bits-miss (lowest n) (get_or (input_signals d.inputs) i 0) 0 v (λ f. apart (sym signal ∙ f)))))
    (cases_eq p.0.signal n))
    (λ m u at. left_at s.moves i m u (ap (λ xs. option_at xs m) (sym (moves-put_all d writes st)) ∙ at))
    (λ j u at. ap (λ xs. option_at xs j) (sym (pend-put_all d writes st)) ∙ at)

-- whether a driver drives a bit
pub drives : (places : List Place) (b : Place) → Contains places b ⊎ All (λ c. c ≢ b) places
drives [] b = inr (all_none (λ c. c ≢ b))
drives (c ∷ places) b =
    ⊎_elim
    (λ same. inl (subst (Contains (c ∷ places)) same (stands_at (c ∷ places) 0 c refl)))
    (λ apart. ⊎_elim
    (λ later. inl (let p = place_in places b later in stands_at (c ∷ places) (suc p.0) b p.1))
    (λ none. inr (All-cons (λ x. x ≢ b) c places apart none))
    (drives places b))
    (same_or_not c b)
  where
    same_or_not : (b c : Place) → (b ≡ c) ⊎ (b ≢ c)
    same_or_not b c =
        ⊎_elim (λ e. ⊎_elim (λ f. inl (place_same b c e f)) (λ n. inr (λ g. n (ap (λ (x : Place). x.bit) g))) (cases_eq b.bit c.bit)) (λ n. inr (λ g. n (ap (λ (x : Place). x.signal) g))) (cases_eq b.signal c.signal)

-- two links to one net are of one driver
same_driver : (d : Netlist) (ranked : List ℕ) → IsAccepted d ranked → (j k from other n : ℕ) (a c : Driver) → IsLink d j a from n → IsLink d k c other n → k ≡ j
same_driver d ranked h j k from other n a c l m =
    ⊎_elim
    (λ same. sym same)
    (λ apart.
    let each = targets_apart d ranked h j k a c l.at m.at apart in
    let e = subst (λ ps. All (λ (y : Place). All (λ (x : Place). x ≢ y) a.target) ps) (one_target d ranked h k other n c m) each in
    let f = subst (λ ps. All (λ (x : Place). x ≢ lowest n) ps) (one_target d ranked h j from n a l) (All-head (λ (y : Place). All (λ (x : Place). x ≢ y) a.target) (lowest n) [] e) in
    absurd (All-head (λ (x : Place). x ≢ lowest n) (lowest n) [] f refl))
    (cases_eq j k)

updated : (d : Netlist) (ranked : List ℕ) → IsAccepted d ranked → (o e : ℕ → Bit) (s : State) (j : ℕ) (driver : Option Driver) (value : Option (List Bit)) → slice_get d.drivers j ≡ driver → option_at s.pend j ≡ value → is_some value ≡ true → IsShaped d s → AreEdgesKept d o e s →
    AreEdgesKept d o e (put_all d (places_written (target_of driver) (unwrap_or value [])) (record s { pend = set s.pend j None }))
updated d ranked h o e s j driver None at is some shaped k = absurd (cc)
updated d ranked h o e s j None (Some v) at is some shaped k =
    kept_by d o e s (record s { pend = set s.pend j None }) k (λ n net. inl refl) (λ i u f. f) (λ i u f. left_at s.pend j i u f)
updated d ranked h o e s j (Some a) (Some v) at is some shaped k =
    let st = record s { pend = set s.pend j None } in
    let writes = places_written a.target v in
    kept_by d o e s (put_all d writes st) k
    (λ n net. ⊎_elim
    (λ stands.
    let c = edge_driver d ranked h j a (lowest n) at stands net in
    let l : IsLink d j a c.from n = record { at = at; copies = c.copies; net = c.net } in
    let p = k.pend j c.from n a v l is in
    let w_is : writes ≡ ToBit n 0 (e n) ∷ [] = ap (λ ps. places_written ps v) (one_target d ranked h j c.from n a l) ∙ ap (places_written (lowest n ∷ [])) p.0 in
    inr (
      ap (λ ws. edge_bit (put_all d ws st).store n) w_is ∙ one_written d n (e n) st (lowest_there d ranked h s.store shaped.sizes n net),
      λ i from b m. (let same = same_driver d ranked h j i c.from from n a b l m in (k.pend i from n b v m (ap (option_at s.pend) same ∙ is)).1),
    ))
    (λ apart. inl (bit_at-kept d writes st (lowest n) (places-miss (lowest n) a.target v apart)))
    (drives a.target (lowest n)))
    (λ m u f. ap (λ xs. option_at xs m) (sym (moves-put_all d writes st)) ∙ f)
    (λ i u f. left_at s.pend j i u (ap (λ xs. option_at xs i) (sym (pend-put_all d writes st)) ∙ f))

-- an evaluation leaves what is brought, or nothing
evaluated_link : (d : Netlist) (ranked : List ℕ) → IsAccepted d ranked → (o e : ℕ → Bit) (s : State) → IsShaped d s → AreEdgesKept d o e s → (j from to : ℕ) (a : Driver) (v : List Bit) → IsLink d j a from to → pending (brought d s.store a) (bits_at s.store a.target) ≡ Some v → (v ≡ e to ∷ []) × (edge_bit s.store from ≡ e from)
evaluated_link d ranked h o e s shaped k j from to a v l is =
    let new = brought d s.store a in
    let new_is : new ≡ edge_bit s.store from ∷ [] = link_brings d ranked h s.store shaped.sizes j from to a l in
    let old_is : bits_at s.store a.target ≡ edge_bit s.store to ∷ [] = ap (bits_at s.store) (one_target d ranked h j from to a l) in
    let bring : edge_bit s.store from ≡ e from → (v ≡ e to ∷ []) × (edge_bit s.store from ≡ e from)
    = λ at_end. (⊎_elim (λ some. same_Some v new (sym is ∙ some) ∙ new_is ∙ ap (λ b. b ∷ []) (at_end ∙ sym (k.brought_agree j from to a l))) (λ none. absurd (none_there v (sym none.0 ∙ is))) (pends new (bits_at s.store a.target) (same_bits (bits_at s.store a.target) new) refl), at_end) in
    ⊎_elim
    (λ at_start. ⊎_elim
    (λ opening.
    let same : bits_at s.store a.target ≡ new = old_is ∙ ap (λ b. b ∷ []) (opening ∙ k.openings_agree j from to a l ∙ sym at_start) ∙ sym new_is in
    let test : same_bits (bits_at s.store a.target) new ≡ true = ap (λ bs. same_bits bs new) same ∙ same_bits-itself new in
    absurd (none_there v (ap (λ (b : Bool). if b then None else Some new) (sym test) ∙ is)))
    (λ there. bring (k.sources j from to a l there))
    (k.values to (target_net d j from to a l)))
    (λ at_end. bring at_end)
    (k.values from l.net)

evaluated_kept : (d : Netlist) (ranked : List ℕ) → IsAccepted d ranked → (o e : ℕ → Bit) (s : State) (j : ℕ) (driver : Option Driver) → slice_get d.drivers j ≡ driver → IsShaped d s → AreEdgesKept d o e s → AreEdgesKept d o e (evaluated d j driver s)
evaluated_kept d ranked h o e s j None at shaped k = k
evaluated_kept d ranked h o e s j (Some c) at shaped k =
    let new = pending (brought d s.store c) (bits_at s.store c.target) in
    record {
      values = k.values;
      moves = k.moves;
      sources = k.sources;
      pend = λ i from to a v l is. ⊎_elim
          (λ same.
          let c_is : c ≡ a = same_Some c a (sym at ∙ ap (slice_get d.drivers) same ∙ l.at) in
          let within : j < length s.pend = (let lt = slice_get_within d.drivers j c at in let w = shaped.pend in omega arith) in
          let here : option_at (set s.pend j new) i ≡ new = subst (λ n. option_at (set s.pend j new) n ≡ new) same (get_or-set_same s.pend j new None within) in
          evaluated_link d ranked h o e s shaped k i from to a v l (ap (λ (x : Driver). pending (brought d s.store x) (bits_at s.store x.target)) (sym c_is) ∙ sym here ∙ is))
          (λ apart. k.pend i from to a v l (sym (get_or-set_other s.pend j i new None (λ f. apart (sym f))) ∙ is))
          (cases_eq j i);
      openings_agree = k.openings_agree;
      brought_agree = k.brought_agree;
    }

ran_kept : (d : Netlist) (o e : ℕ → Bit) (m : ℕ) (statements : List Statement) (s : State) → AreEdgesKept d o e s → AreEdgesKept d o e (ran d m statements s)
ran_kept d o e m [] s k = k
ran_kept d o e m (x ∷ statements) s k = still d o e s (ran d m (x ∷ statements) s) k refl refl refl

-- each event keeps it
pub AreEdgesKept-after : (d : Netlist) (ranked : List ℕ) (o e : ℕ → Bit) (s : State) (event : Event) → IsAccepted d ranked → IsConsistent d s → AreEdgesKept d o e s → IsTrue (is_allowed s event) → AreEdgesKept d o e (after d s event)
AreEdgesKept-after d ranked o e s (TakeMove i) h c k allowed = taken d ranked h o e s i (option_at s.moves i) refl allowed c.shaped k
AreEdgesKept-after d ranked o e s (Evaluate j) h c k allowed = evaluated_kept d ranked h o e s j (slice_get d.drivers j) refl c.shaped k
AreEdgesKept-after d ranked o e s (UpdateDriver j) h c k allowed = updated d ranked h o e s j (slice_get d.drivers j) (option_at s.pend j) refl refl allowed c.shaped k
AreEdgesKept-after d ranked o e s (Run m) h c k allowed = ran_kept d o e m (list_at s.todo m) s k
AreEdgesKept-after d ranked o e s (Initialize m) h c k allowed =
    missed d o e s (record s { init = set s.init m (drop 1 (list_at s.init m)) }) (flat_map (λ (x : InitialAssign). initial_written x.target x.value) (take 1 (list_at s.init m))) k
    (initials_missed d ranked h (take 1 (list_at s.init m)) (some_of (λ (x : InitialAssign). InitialWrites d x.target) (list_at s.init m) (all_in (λ (x : InitialAssign). InitialWrites d x.target) s.init m c.registers.init))) refl refl refl
AreEdgesKept-after d ranked o e s Activate h c k allowed = still d o e s (after d s Activate) k refl refl refl
AreEdgesKept-after d ranked o e s (Perform m) h c k allowed =
    missed d o e s (record s { now = set s.now m (drop 1 (list_at s.now m)) }) (flat_map update_written (take 1 (list_at s.now m))) k
    (updates_missed d ranked h (take 1 (list_at s.now m)) (some_of (UpdateWrites d) (list_at s.now m) (all_in (UpdateWrites d) s.now m c.registers.now))) refl refl refl
