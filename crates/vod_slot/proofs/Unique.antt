-- Where each driver's target has what it brings, registers, inputs and memory words decide all else.
use Rattle.std.proofs.Common.{◌≡◌, ◌⊎◌, inl, inr, ℕ, zero, suc, ◌+◌, ◌-◌, ◌<◌, ◌≤◌, ◌||◌, Bool, true, false, List, [], ◌∷◌, ◌++◌, length, map, flat_map, take, drop, get_or, arith, refl, ap, sym, ◌∙◌, subst, ⊎_elim, All, Some, None, option_map, option_and_then, slice_get, eq-eqb, append_assoc}
use Rattle.std.specs.List.{Contains, list_any}
use Rattle.std.proofs.lemmas.Bool.{cases_eq, cases_lt, cases_Bool, or_left, le-leb, lt-ltb}
use Rattle.std.proofs.lemmas.List.{ext_get_or, get_or-take, get_or-drop, length-take-le, length-drop, append-nil, get_or_past, get_or-map, length-map}
use Rattle.std.proofs.lemmas.List.Elements.{All-head, All-tail, All-cons, All-append, All-weaker, All-contains, All-contains_itself, Contains-append_cases}
use Rattle.std.proofs.lemmas.Map.Made.{Contains-tail}
use Rattle.std.proofs.lemmas.Option.{same_Some, slice_get_within}
use Rattle.vod_bits.specs.Bit.{Bit, BX}
use Rattle.vod_bits.specs.Value.{upper_bit, resize_bits}
use Rattle.vod_design.specs.declared.parts.Driver.{Driver}
use Rattle.vod_design.specs.declared.parts.Input.{Input}
use Rattle.vod_design.specs.declared.parts.Signal.{Signal}
use Rattle.vod_design.specs.declared.read.Read.{Read}
use Rattle.vod_design.specs.declared.read.Read.TheVariants.{Whole, Bits, Word, Ram}
use Rattle.vod_design.specs.declared.statement.Place.{Place}
use Rattle.vod_design.specs.Accepted.{IsAccepted, IsToDrive}
use Rattle.vod_design.specs.Feeds.{is_read, both_meet, feeds}
use Rattle.vod_design.specs.Netlist.{Netlist, signal_width}
use Rattle.vod_design.specs.Reads.{reads, Agree}
use Rattle.vod_design.specs.Values.{bounded, select_bits, value_at}
use Rattle.vod_slot.specs.Store.{Store, bit_in, bit_at, bits_at, brought, values_in}
use Rattle.vod_slot.specs.State.{State, IsResting}
use Rattle.vod_slot.specs.Shape.{sizes, widths}
use Rattle.vod_slot.specs.Settled.{IsSettled, AgreeFirst, IsConsistent}
use Rattle.vod_slot.proofs.Lists.{all_none, all_one, all_at}
use Rattle.vod_slot.proofs.Digits.{no_member}
use Rattle.vod_slot.proofs.Replaced.{index, in_within, selected_inside, selected_outside}
use Rattle.vod_slot.proofs.Writes.{HangsOnReads}
use Rattle.vod_slot.proofs.Targets.{width_at}
use Rattle.vod_slot.proofs.Paths.{place_in, stands_at}
use Rattle.vod_slot.proofs.Followed.{settled_at_rest}

-- values of one size with the same bits
pub value_ext : (u v : List Bit) → length u ≡ length v → ((b : ℕ) → b < length u → bit_in u b ≡ bit_in v b) → u ≡ v
value_ext u v len same =
    ext_get_or BX u v len
    (λ i h.
    let b = length u - (i + 1) in
    let at_u : get_or u (index b u) BX ≡ get_or u i BX = ap (λ k. get_or u k BX) (omega arith) in
    let at_v : get_or v (index b v) BX ≡ get_or v i BX = ap (λ k. get_or v k BX) (omega arith) in
    sym at_u ∙ sym (in_within u b (omega arith)) ∙ same b (omega arith) ∙ in_within v b (omega arith) ∙ at_v)

select_ext : (low width : ℕ) (u v : List Bit) → length u ≡ length v → ((b : ℕ) → low ≤ b → b < low + width → b < length u → bit_in u b ≡ bit_in v b) → select_bits BX low width u ≡ select_bits BX low width v
select_ext low width u v len same =
    ⊎_elim
    (λ outside. selected_outside low width u outside ∙ sym (selected_outside low width v (omega arith)))
    (λ inside.
    let m = length u - (low + width) in
    let xs = take width (drop m u) in
    let ys = take width (drop m v) in
    let lu : length (drop m u) ≡ length u - m = length-drop m u in
    let lv : length (drop m v) ≡ length v - m = length-drop m v in
    let lx : length xs ≡ width = length-take-le width (drop m u) (omega arith) in
    let ly : length ys ≡ width = length-take-le width (drop m v) (omega arith) in
    let e : xs ≡ ys
    = ext_get_or BX xs ys (lx ∙ sym ly)
    (λ i h.
    let b = low + width - (i + 1) in
    let at_u : get_or u (index b u) BX ≡ get_or u (m + i) BX = ap (λ k. get_or u k BX) (omega arith) in
    let at_v : get_or v (index b v) BX ≡ get_or v (m + i) BX = ap (λ k. get_or v k BX) (omega arith) in
    get_or-take width (drop m u) i BX (omega arith) ∙ get_or-drop m u i BX ∙ sym at_u ∙ sym (in_within u b (omega arith)) ∙ same b (omega arith) (omega arith) (omega arith)
    ∙ in_within v b (omega arith) ∙ at_v ∙ sym (get_or-drop m v i BX) ∙ sym (get_or-take width (drop m v) i BX (omega arith))) in
    let f : take width (drop (length v - (low + width)) v) ≡ ys = ap (λ n. take width (drop (n - (low + width)) v)) (sym len) in
    selected_inside low width u inside ∙ e ∙ sym f ∙ sym (selected_inside low width v (omega arith)))
    (cases_lt (length u) (low + width))

-- a bit that there is: of a register, of an input, or of a driver's target
pub is_input_test : (inputs : List Input) (n : ℕ) → Contains (map (λ (i : Input). i.signal) inputs) n ⊎ (Contains (map (λ (i : Input). i.signal) inputs) n → ⊥)
is_input_test inputs n = member (map (λ (i : Input). i.signal) inputs)
  where
    member : (ns : List ℕ) → Contains ns n ⊎ (Contains ns n → ⊥)
    member [] = inr (λ h. no_member n h)
    member (m ∷ ns) = ⊎_elim (λ same. inl (subst (Contains (m ∷ ns)) same (stands_at (m ∷ ns) 0 m refl))) (λ apart. ⊎_elim (λ later. inl (let p = place_in ns n later in stands_at (m ∷ ns) (suc p.0) n p.1)) (λ not_later. inr (λ h. not_later (Contains-tail m ns n apart h))) (member ns)) (cases_eq m n)

-- where a bit that is driven stands
pub driver_of : (drivers : List Driver) (b : Place) → Contains (flat_map (λ (a : Driver). a.target) drivers) b → (k : ℕ) × (a : Driver) × (slice_get drivers k ≡ Some a) × Contains a.target b
driver_of [] b h = absurd (no_member b h)
driver_of (a ∷ drivers) b h =
    ⊎_elim
    (λ here. (0, a, refl, here))
    (λ later. let p = driver_of drivers b later in (suc p.0, p.1, p.2, p.3))
    (Contains-append_cases a.target (flat_map (λ (x : Driver). x.target) drivers) b h)

-- two stores of a design's sizes
pub record AreStores (d : Netlist) (s t : Store) : Type 0 where
  pub first_sizes : sizes s ≡ widths d
  pub second_sizes : sizes t ≡ widths d
  pub first_settled : IsSettled d s
  pub second_settled : IsSettled d t
  pub agree : AgreeFirst d s t

abbrev SameBit : Store → Store → Place → Type 0
SameBit s t b = bit_at s b.signal b.bit ≡ bit_at t b.signal b.bit

abbrev SameTarget : Netlist → Store → Store → ℕ → Type 0
SameTarget d s t j = (a : Driver) → slice_get d.drivers j ≡ Some a → All (SameBit s t) a.target

pub any_in : {A : Type 0} (test : A → Bool) (xs : List A) (x : A) → Contains xs x → test x ≡ true → list_any test xs ≡ true
any_in test xs x h is = let p = place_in xs x h in any_at xs p.0 p.1
  where
    or_later : (a b : Bool) → b ≡ true → (a || b) ≡ true
    or_later true b h = refl
    or_later false b h = h

    any_at : (ys : List _) (k : ℕ) → slice_get ys k ≡ Some x → list_any test ys ≡ true
    any_at [] k at = absurd (cc)
    any_at (y ∷ ys) zero at = or_left (test y) (list_any test ys) (ap test (same_Some y x at) ∙ is)
    any_at (y ∷ ys) (suc k) at = or_later (test y) (list_any test ys) (any_at ys k at)

pub register_or_net : (signals : List Signal) (n : ℕ) → n < length signals → (option_map (λ (s : Signal). s.register) (slice_get signals n) ≡ Some true) ⊎ (option_map (λ (s : Signal). s.register) (slice_get signals n) ≡ Some false)
register_or_net [] n h = absurd (omega arith)
register_or_net (s ∷ signals) zero h = ⊎_elim (λ e. inl (ap Some e)) (λ e. inr (ap Some e)) (cases_Bool s.register)
register_or_net (s ∷ signals) (suc n) h = register_or_net signals n (omega arith)

abbrev bit_place : ℕ → ℕ → Place
bit_place signal bit = record { signal = signal; bit = bit }

-- a bit that is read agrees, where those do that are written by the drivers before
bit_agrees : (d : Netlist) (ranked : List ℕ) → IsAccepted d ranked → (s t : Store) → AreStores d s t → (n b : ℕ) → n < length d.signals → b < signal_width d n →
    ((c : ℕ) (a : Driver) → slice_get d.drivers c ≡ Some a → Contains a.target (bit_place n b) → All (SameBit s t) a.target) → bit_in (value_at BX s.signals n) b ≡ bit_in (value_at BX t.signals n) b
bit_agrees d ranked h s t stores n b within inside driven =
    ⊎_elim
    (λ register. ap (λ v. bit_in v b) (stores.agree.registers n register))
    (λ net. ⊎_elim
    (λ input. ap (λ v. bit_in v b) (stores.agree.inputs n input))
    (λ free.
    let to : IsToDrive d (bit_place n b) = record { net = net; free = free; inside = inside } in
    let p = driver_of d.drivers (bit_place n b) (h.driven.all (bit_place n b) to) in
    All-contains (SameBit s t) p.1.target (bit_place n b) (driven p.0 p.1 p.2 p.3) p.3)
    (is_input_test d.inputs n))
    (register_or_net d.signals n within)

pub value_size : (store : Store) (d : Netlist) (n : ℕ) → sizes store ≡ widths d → n < length d.signals → length (value_at BX store.signals n) ≡ signal_width d n
value_size store d n same h =
    let e : get_or (map length store.signals) n 0 ≡ get_or (map (λ (s : Signal). s.width) d.signals) n 0 = ap (λ ns. get_or ns n 0) same in
    let l : length store.signals ≡ length d.signals = sym (length-map store.signals length) ∙ ap length same ∙ length-map d.signals (λ (s : Signal). s.width) in
    sym (get_or-map length store.signals n (BX ∷ []) 0 (omega arith)) ∙ e ∙ sym (width_at d.signals n)

past_same : (s t : Store) (d : Netlist) (n : ℕ) → sizes s ≡ widths d → sizes t ≡ widths d → length d.signals ≤ n → value_at BX s.signals n ≡ value_at BX t.signals n
past_same s t d n e f h =
    let l : length s.signals ≡ length d.signals = sym (length-map s.signals length) ∙ ap length e ∙ length-map d.signals (λ (x : Signal). x.width) in
    let m : length t.signals ≡ length d.signals = sym (length-map t.signals length) ∙ ap length f ∙ length-map d.signals (λ (x : Signal). x.width) in
    get_or_past s.signals n (BX ∷ []) (omega arith) ∙ sym (get_or_past t.signals n (BX ∷ []) (omega arith))

read_agrees : (d : Netlist) (ranked : List ℕ) → IsAccepted d ranked → (s t : Store) → AreStores d s t → (r : Read) →
    ((b : Place) → is_read b r ≡ true → (c : ℕ) (a : Driver) → slice_get d.drivers c ≡ Some a → Contains a.target b → All (SameBit s t) a.target) → Agree BX (values_in s) (values_in t) r
read_agrees d ranked h s t stores (Whole n) driven =
    ⊎_elim
    (λ lt.
    let u = value_size s d n stores.first_sizes lt in
    let v = value_size t d n stores.second_sizes lt in
    value_ext (value_at BX s.signals n) (value_at BX t.signals n) (u ∙ sym v)
    (λ b inside. bit_agrees d ranked h s t stores n b lt (omega arith) (λ c a at stands. driven (bit_place n b) (eq-eqb n n refl) c a at stands)))
    (λ ge. past_same s t d n stores.first_sizes stores.second_sizes ge)
    (cases_lt n (length d.signals))
read_agrees d ranked h s t stores (Bits n low width) driven =
    ⊎_elim
    (λ lt.
    let u = value_size s d n stores.first_sizes lt in
    let v = value_size t d n stores.second_sizes lt in
    select_ext low (bounded width) (value_at BX s.signals n) (value_at BX t.signals n) (u ∙ sym v)
    (λ b over under inside. bit_agrees d ranked h s t stores n b lt (omega arith)
    (λ c a at stands. driven (bit_place n b) (rw (eq-eqb n n refl, le-leb low b over, lt-ltb b (low + bounded width) under) refl) c a at stands)))
    (λ ge. ap (select_bits BX low (bounded width)) (past_same s t d n stores.first_sizes stores.second_sizes ge))
    (cases_lt n (length d.signals))
read_agrees d ranked h s t stores (Word memory place) driven = ap (λ (ms : List (List (List Bit))). option_and_then (λ words. slice_get words place) (slice_get ms memory)) stores.agree.memories
read_agrees d ranked h s t stores (Ram memory) driven = λ place. ap (λ (ms : List (List (List Bit))). option_and_then (λ words. slice_get words place) (slice_get ms memory)) stores.agree.memories

bits_same : (s t : Store) (places : List Place) → bits_at s places ≡ bits_at t places → All (SameBit s t) places
bits_same s t [] h = all_none (SameBit s t)
bits_same s t (b ∷ places) h = All-cons (SameBit s t) b places (ap (λ bits. upper_bit bits) h) (bits_same s t places (ap (drop 1) h))

brought_same : HangsOnReads → (d : Netlist) (s t : Store) (a : Driver) → All (Agree BX (values_in s) (values_in t)) (reads a.value) → brought d s a ≡ brought d t a
unfolding brought
brought_same hangs d s t a each = ap (resize_bits (length a.target) false) (hangs BX d.functions (values_in s) (values_in t) [] a.value each)

-- a driver all before which agree agrees
driver_agrees : HangsOnReads → (d : Netlist) (ranked : List ℕ) → IsAccepted d ranked → (s t : Store) → AreStores d s t → (before : List ℕ) (j : ℕ) (later : List ℕ) → ranked ≡ before ++ j ∷ later → All (SameTarget d s t) before → SameTarget d s t j
driver_agrees hangs d ranked h s t stores before j later split done a at =
    let each : All (Agree BX (values_in s) (values_in t)) (reads a.value)
    = All-weaker (Contains (reads a.value)) (Agree BX (values_in s) (values_in t))
    (λ r stands. read_agrees d ranked h s t stores r
    (λ b is c x at' target.
    let fed : both_meet (Some x) (Some a) ≡ true = any_in (λ p. list_any (λ q. is_read p q) (reads a.value)) x.target b target (any_in (λ q. is_read b q) (reads a.value) r stands is) in
    let feeds_it : feeds d.drivers c j ≡ true = ap (λ o. both_meet o (slice_get d.drivers j)) at' ∙ ap (both_meet (Some x)) at ∙ fed in
    All-contains (SameTarget d s t) before c done (h.order.behind before later c j split feeds_it) x at'))
    (reads a.value) (All-contains_itself (reads a.value)) in
    let same : brought d s a ≡ brought d t a = brought_same hangs d s t a each in
    bits_same s t a.target (all_at (λ (x : Driver). bits_at s x.target ≡ brought d s x) d.drivers j a stores.first_settled at ∙ same ∙ sym (all_at (λ (x : Driver). bits_at t x.target ≡ brought d t x) d.drivers j a stores.second_settled at))

all_agree : HangsOnReads → (d : Netlist) (ranked : List ℕ) → IsAccepted d ranked → (s t : Store) → AreStores d s t → (before js : List ℕ) → ranked ≡ before ++ js → All (SameTarget d s t) before → All (SameTarget d s t) ranked
all_agree hangs d ranked h s t stores before [] split done = subst (All (SameTarget d s t)) (sym (split ∙ append-nil before)) done
all_agree hangs d ranked h s t stores before (j ∷ js) split done =
    let here = driver_agrees hangs d ranked h s t stores before j js split done in
    all_agree hangs d ranked h s t stores (before ++ j ∷ []) js (split ∙ sym (append_assoc before (j ∷ []) js)) (All-append (SameTarget d s t) before (j ∷ []) done (all_one (SameTarget d s t) j here))

abbrev store_of : List (List Bit) → List (List (List Bit)) → Store
store_of signals memories = record { signals = signals; memories = memories }

store_same : (s t : Store) → s.signals ≡ t.signals → s.memories ≡ t.memories → s ≡ t
store_same s t e f = ap (λ x. store_of x s.memories) e ∙ ap (store_of t.signals) f

-- so the stores are one
pub same_stores : HangsOnReads → (d : Netlist) (ranked : List ℕ) → IsAccepted d ranked → (s t : Store) → AreStores d s t → s ≡ t
same_stores hangs d ranked h s t stores =
    let each = all_agree hangs d ranked h s t stores [] ranked refl (all_none (SameTarget d s t)) in
    let l : length s.signals ≡ length d.signals = sym (length-map s.signals length) ∙ ap length stores.first_sizes ∙ length-map d.signals (λ (x : Signal). x.width) in
    let m : length t.signals ≡ length d.signals = sym (length-map t.signals length) ∙ ap length stores.second_sizes ∙ length-map d.signals (λ (x : Signal). x.width) in
    let signals : s.signals ≡ t.signals
    = ext_get_or (BX ∷ []) s.signals t.signals (l ∙ sym m)
    (λ n lt. read_agrees d ranked h s t stores (Whole n)
    (λ b is c a at stands. All-contains (SameTarget d s t) ranked c each (h.order.each.all c (slice_get_within d.drivers c a at)) a at)) in
    store_same s t signals stores.agree.memories

pub same_lists : {A : Type 0} (x : A) (xs ys : List A) → length xs ≡ length ys → All (λ y. y ≡ x) xs → All (λ y. y ≡ x) ys → xs ≡ ys
same_lists x [] [] len h k = refl
same_lists x [] (y ∷ ys) len h k = absurd (omega arith)
same_lists x (z ∷ xs) [] len h k = absurd (omega arith)
same_lists x (z ∷ xs) (y ∷ ys) len h k =
    let here : z ≡ y = All-head (λ w. w ≡ x) z xs h ∙ sym (All-head (λ w. w ≡ x) y ys k) in
    let more = same_lists x xs ys (omega arith) (All-tail (λ w. w ≡ x) z xs h) (All-tail (λ w. w ≡ x) y ys k) in
    cc

-- and two states in which nothing is left
pub same_at_rest : HangsOnReads → (d : Netlist) (ranked : List ℕ) (s t : State) → IsAccepted d ranked → IsConsistent d s → IsConsistent d t → IsResting s → IsResting t → AgreeFirst d s.store t.store → s ≡ t
same_at_rest hangs d ranked s t h cs ct rs rt agree =
    let a = cs.shaped in
    let b = ct.shaped in
    let store = same_stores hangs d ranked h s.store t.store
    (record { first_sizes = a.sizes; second_sizes = b.sizes; first_settled = settled_at_rest d s cs.followed rs; second_settled = settled_at_rest d t ct.followed rt; agree = agree }) in
    let moves = same_lists None s.moves t.moves (a.moves ∙ sym b.moves) rs.moves rt.moves in
    let init = same_lists [] s.init t.init (a.init ∙ sym b.init) rs.init rt.init in
    let wake = same_lists false s.wake t.wake (a.wake ∙ sym b.wake) rs.wake rt.wake in
    let pend = same_lists None s.pend t.pend (a.pend ∙ sym b.pend) rs.pend rt.pend in
    let todo = same_lists [] s.todo t.todo (a.todo ∙ sym b.todo) rs.todo rt.todo in
    let later = same_lists [] s.later t.later (a.later ∙ sym b.later) rs.later rt.later in
    let now = same_lists [] s.now t.now (a.now ∙ sym b.now) rs.now rt.now in
    ap (λ x. record s { store = x }) store
    ∙ ap (λ x. record s { store = t.store; moves = x }) moves
    ∙ ap (λ x. record s { store = t.store; moves = t.moves; init = x }) init
    ∙ ap (λ x. record s { store = t.store; moves = t.moves; init = t.init; wake = x }) wake
    ∙ ap (λ x. record s { store = t.store; moves = t.moves; init = t.init; wake = t.wake; pend = x }) pend
    ∙ ap (λ x. record s { store = t.store; moves = t.moves; init = t.init; wake = t.wake; pend = t.pend; todo = x }) todo
    ∙ ap (λ x. record s { store = t.store; moves = t.moves; init = t.init; wake = t.wake; pend = t.pend; todo = t.todo; later = x }) later
    ∙ ap (λ x. record t { now = x }) now
