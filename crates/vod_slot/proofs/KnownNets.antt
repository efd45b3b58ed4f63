-- Where registers, words and data inputs are known and all is settled, each net is known that is no edge net.
use Rattle.std.proofs.Common.{arith, ◌≡◌, ◌≢◌, ◌⊎◌, inl, inr, ◌<◌, ℕ, zero, suc, ◌+◌, false, true, List, [], ◌∷◌, ◌++◌, length, replicate, get_or, refl, ap, sym, ◌∙◌, subst, ⊎_elim, All, Some, slice_get, append_assoc, eq-eqb}
use Rattle.std.specs.List.{Contains, list_any}
use Rattle.std.proofs.lemmas.Bool.{le-leb, lt-ltb}
use Rattle.std.proofs.lemmas.List.{append-nil}
use Rattle.std.proofs.lemmas.List.Elements.{All-cons, All-append, All-weaker, All-contains, All-contains_itself}
use Rattle.std.proofs.lemmas.Option.{slice_get_within}
use Rattle.vod_bits.specs.Bit.{Bit, BX, BZ}
use Rattle.vod_design.specs.declared.parts.Driver.{Driver}
use Rattle.vod_design.specs.declared.parts.Input.{Input}
use Rattle.vod_design.specs.declared.read.Read.{Read}
use Rattle.vod_design.specs.declared.read.Read.TheVariants.{Whole, Bits, Word, Ram}
use Rattle.vod_design.specs.declared.sized.SizedExpr.{SizedExpr}
use Rattle.vod_design.specs.declared.statement.Place.{Place}
use Rattle.vod_design.specs.declared.vector.Class.TheVariants.{Data}
use Rattle.vod_design.specs.Accepted.{IsAccepted, IsToDrive, IndexInside}
use Rattle.vod_design.specs.Feeds.{is_read, both_meet, feeds}
use Rattle.vod_design.specs.Flat.{DriverFits}
use Rattle.vod_design.specs.Netlist.{Netlist, signal_width}
use Rattle.vod_design.specs.Nets.{ReadsNet, Copies, Follows, itself, copied, IsEdgeNet}
use Rattle.vod_design.specs.Reads.{reads}
use Rattle.vod_design.specs.Run.{eval}
use Rattle.vod_design.specs.Uses.{uses}
use Rattle.vod_design.specs.Values.{bounded, value_at}
use Rattle.vod_slot.specs.Store.{Store, bit_in, bit_at, bits_at, brought, values_in}
use Rattle.vod_slot.specs.State.{State}
use Rattle.vod_slot.specs.Step.{operand}
use Rattle.vod_slot.specs.Settled.{IsSettled, IsConsistent}
use Rattle.vod_slot.specs.Edges.{IsLink, edge_bit}
use Rattle.vod_slot.specs.Known.{AreKnown, HasKnown, HasKnownConstants, IsKnown, KnownRegisters, DataKnown, KnownOrZ}
use Rattle.vod_slot.proofs.Lists.{all_none, all_one, all_at}
use Rattle.vod_slot.proofs.Replaced.{index, in_within}
use Rattle.vod_slot.proofs.Paths.{place_in, stands_at}
use Rattle.vod_slot.proofs.Unique.{value_size, is_input_test, driver_of, any_in, register_or_net}
use Rattle.vod_slot.proofs.Links.{target_net}
use Rattle.vod_slot.proofs.Openings.{link_settled}
use Rattle.vod_slot.proofs.First.{input_of}
use Rattle.vod_slot.proofs.Own.{reads_any, whole_value}
use Rattle.vod_slot.proofs.Busy.{class_of}
use Rattle.vod_slot.proofs.KnownBits.{known_head, known_tail, resize_known}
use Rattle.vod_slot.proofs.KnownExprs.{ReadKnown}
use Rattle.vod_slot.proofs.KnownReads.{ReadThere, reads_there, KnownBut, value_known, by_bits, by_some_bits, all_or, each_or, word_any, ram_any}

-- a bit of a known value
bit_at_place : (v : List Bit) (i : ℕ) → i < length v → AreKnown v → IsKnown (get_or v i BX)
bit_at_place [] i lt h = absurd (omega arith)
bit_at_place (b ∷ bs) zero lt h = known_head b bs h
bit_at_place (b ∷ bs) (suc i) lt h = bit_at_place bs i (omega arith) (known_tail b bs h)

pub bit_of_known : (v : List Bit) (p : ℕ) → p < length v → AreKnown v → IsKnown (bit_in v p)
bit_of_known v p lt h = subst IsKnown (sym (in_within v p lt)) (bit_at_place v (index p v) (omega arith) h)

-- a bit is known, or of an edge net

abbrev BitOr : Netlist → Store → Place → Type 0
BitOr d store b = IsKnown (bit_at store b.signal b.bit) ⊎ IsEdgeNet d b.signal

abbrev place_of : ℕ → ℕ → Place
place_of signal bit = record { signal = signal; bit = bit }

abbrev TargetOr : Netlist → Store → ℕ → Type 0
TargetOr d store j = (a : Driver) → slice_get d.drivers j ≡ Some a → All (BitOr d store) a.target

bit_or : (d : Netlist) (ranked : List ℕ) → IsAccepted d ranked → (store : Store) → KnownRegisters d store → DataKnown d store → (n p : ℕ) → n < length d.signals → p < signal_width d n →
    ((c : ℕ) (a : Driver) → slice_get d.drivers c ≡ Some a → Contains a.target (place_of n p) → All (BitOr d store) a.target) → IsKnown (bit_at store n p) ⊎ IsEdgeNet d n
bit_or d ranked h store k data_ n p within inside driven =
    ⊎_elim
    (λ register. inl (k.bits n p register inside))
    (λ net. ⊎_elim
    (λ input.
    let q = input_of d n input in
    let x = q.1 in
    ⊎_elim
    (λ is_data.
    let size = value_size store d n k.base.signal_sizes within in
    let known : AreKnown (value_at BX store.signals n) = subst (λ m. AreKnown (value_at BX store.signals m)) q.3 (data_ q.0 x q.2 is_data) in
    inl (bit_of_known (value_at BX store.signals n) p (omega arith) known))
    (λ apart. inr (subst (IsEdgeNet d) q.3 (record { input = x; stands = stands_at d.inputs q.0 x q.2; edge = apart; follows = itself })))
    (class_of x.class))
    (λ free.
    let to : IsToDrive d (place_of n p) = record { net = net; free = free; inside = inside } in
    let q = driver_of d.drivers (place_of n p) (h.driven.all (place_of n p) to) in
    All-contains (BitOr d store) q.1.target (place_of n p) (driven q.0 q.1 q.2 q.3) q.3)
    (is_input_test d.inputs n))
    (register_or_net d.signals n within)

-- what a driver reads is known, or some of it is an edge net

abbrev EdgeRead : Netlist → SizedExpr → Type 0
EdgeRead d e = (n : ℕ) × IsEdgeNet d n × ReadsNet n e

read_or : (d : Netlist) (ranked : List ℕ) → IsAccepted d ranked → (store : Store) → KnownRegisters d store → DataKnown d store → (e : SizedExpr) (r : Read) → Contains (reads e) r → ReadThere d r →
    ((b : Place) → is_read b r ≡ true → (c : ℕ) (a : Driver) → slice_get d.drivers c ≡ Some a → Contains a.target b → All (BitOr d store) a.target) → ReadKnown (values_in store) r ⊎ EdgeRead d e
read_or d ranked h store k data_ e (Whole n) stands there driven =
    let size = value_size store d n k.base.signal_sizes there in
    ⊎_elim
    (λ each. inl (by_bits (value_at BX store.signals n) (λ p lt. each p (omega arith) (omega arith))))
    (λ net. inr (n, net, reads_any n (reads e) (Whole n) stands refl))
    (each_or (λ p. IsKnown (bit_at store n p)) (IsEdgeNet d n) 0 (signal_width d n) (λ p le lt. bit_or d ranked h store k data_ n p there (omega arith) (λ c a at target. driven (place_of n p) (eq-eqb n n refl) c a at target)))
read_or d ranked h store k data_ e (Bits n low width) stands there driven =
    let size = value_size store d n k.base.signal_sizes there.0 in
    let inside = there.1 in
    ⊎_elim
    (λ each. inl (by_some_bits (value_at BX store.signals n) low (bounded width) (omega arith) (λ p le lt. each p le lt)))
    (λ net. inr (n, net, reads_any n (reads e) (Bits n low width) stands refl))
    (each_or (λ p. IsKnown (bit_at store n p)) (IsEdgeNet d n) low (bounded width)
    (λ p le lt. bit_or d ranked h store k data_ n p there.0 (omega arith) (λ c a at target. driven (place_of n p) (rw (eq-eqb n n refl, le-leb low p le, lt-ltb p (low + bounded width) lt) refl) c a at target)))
read_or d ranked h store k data_ e (Word memory place) stands there driven = inl (word_any d store memory place k.base)
read_or d ranked h store k data_ e (Ram memory) stands there driven = inl (ram_any d store memory k.base)

brought_known : (d : Netlist) (store : Store) (a : Driver) → AreKnown (operand d store a.value).bits → AreKnown (brought d store a)
unfolding brought eval
brought_known d store a h = resize_known (length a.target) false (operand d store a.value).bits h

bits_each : (d : Netlist) (store : Store) (places : List Place) (bits : List Bit) → bits_at store places ≡ bits → AreKnown bits → All (BitOr d store) places
bits_each d store [] bits same h = all_none (BitOr d store)
bits_each d store (b ∷ places) bits same h =
    let known : AreKnown (bits_at store (b ∷ places)) = subst AreKnown (sym same) h in
    All-cons (BitOr d store) b places (inl (known_head (bit_at store b.signal b.bit) (bits_at store places) known)) (bits_each d store places (bits_at store places) refl (known_tail (bit_at store b.signal b.bit) (bits_at store places) known))

copied_each : (d : Netlist) (store : Store) (a : Driver) (from to : ℕ) → Copies from to a → IsEdgeNet d to → All (BitOr d store) a.target
copied_each d store a from to copies net = All-weaker (Contains a.target) (BitOr d store) (λ b stands. inr (subst (IsEdgeNet d) (sym (copies.target b stands)) net)) a.target (All-contains_itself a.target)

driver_or : (d : Netlist) (ranked : List ℕ) → IsAccepted d ranked → HasKnownConstants d → (store : Store) → IsSettled d store → KnownRegisters d store → DataKnown d store → (before : List ℕ) (j : ℕ) (later : List ℕ) → ranked ≡ before ++ j ∷ later → All (TargetOr d store) before → TargetOr d store j
driver_or d ranked h constants store settled k data_ before j later split done a at =
    let fits : DriverFits d a = all_at (DriverFits d) d.drivers j a h.flat.drivers at in
    let inside = all_at (λ (x : Driver). All (IndexInside d []) (uses x.value)) d.drivers j a h.driver_indices at in
    let has = all_at (λ (x : Driver). HasKnown x.value) d.drivers j a constants.drivers at in
    let there = reads_there d a.value fits.value.fits in
    let stands = All-contains_itself (reads a.value) in
    ⊎_elim
    (λ known.
    let value = value_known d ranked h constants store k.base a.value fits.value inside has known in
    bits_each d store a.target (brought d store a) (all_at (λ (x : Driver). bits_at store x.target ≡ brought d store x) d.drivers j a settled at) (brought_known d store a value))
    (λ edge.
    let c = all_at (λ (x : Driver). (m : ℕ) → IsEdgeNet d m → ReadsNet m x.value → (to : ℕ) × Copies m to x) d.drivers j a h.edge_readers at edge.0 edge.1 edge.2 in
    let link : IsLink d j a edge.0 c.0 = record { at = at; copies = c.1; net = edge.1 } in
    copied_each d store a edge.0 c.0 c.1 (target_net d j edge.0 c.0 a link))
    (all_or (ReadKnown (values_in store)) (EdgeRead d a.value) (reads a.value)
    (λ i r l. read_or d ranked h store k data_ a.value (get_or (reads a.value) i r) (stands i r l) (there i r l)
    (λ b is c x at' target.
    let r' = get_or (reads a.value) i r in
    let fed : both_meet (Some x) (Some a) ≡ true = any_in (λ p. list_any (λ q. is_read p q) (reads a.value)) x.target b target (any_in (λ q. is_read b q) (reads a.value) r' (stands i r l) is) in
    let feeds_it : feeds d.drivers c j ≡ true = ap (λ o. both_meet o (slice_get d.drivers j)) at' ∙ ap (both_meet (Some x)) at ∙ fed in
    All-contains (TargetOr d store) before c done (h.order.behind before later c j split feeds_it) x at')))

all_targets : (d : Netlist) (ranked : List ℕ) → IsAccepted d ranked → HasKnownConstants d → (store : Store) → IsSettled d store → KnownRegisters d store → DataKnown d store → (before js : List ℕ) → ranked ≡ before ++ js → All (TargetOr d store) before → All (TargetOr d store) ranked
all_targets d ranked h constants store settled k data_ before [] split done = subst (All (TargetOr d store)) (sym (split ∙ append-nil before)) done
all_targets d ranked h constants store settled k data_ before (j ∷ js) split done =
    let here = driver_or d ranked h constants store settled k data_ before j js split done in
    all_targets d ranked h constants store settled k data_ (before ++ j ∷ []) js (split ∙ sym (append_assoc before (j ∷ []) js)) (All-append (TargetOr d store) before (j ∷ []) done (all_one (TargetOr d store) j here))

pub known_but : (d : Netlist) (ranked : List ℕ) → IsAccepted d ranked → HasKnownConstants d → (store : Store) → IsSettled d store → KnownRegisters d store → DataKnown d store → KnownBut d store
known_but d ranked h constants store settled k data_ n within =
    let each = all_targets d ranked h constants store settled k data_ [] ranked refl (all_none (TargetOr d store)) in
    let size = value_size store d n k.base.signal_sizes within in
    ⊎_elim
    (λ bits. inl (by_bits (value_at BX store.signals n) (λ p lt. bits p (omega arith) (omega arith))))
    (λ net. inr net)
    (each_or (λ p. IsKnown (bit_at store n p)) (IsEdgeNet d n) 0 (signal_width d n)
    (λ p le lt. bit_or d ranked h store k data_ n p within (omega arith) (λ c a at target. All-contains (TargetOr d store) ranked c each (h.order.each.all c (slice_get_within d.drivers c a at)) a at)))

-- an edge net has what its input has

root_bit : (d : Netlist) (ranked : List ℕ) → IsAccepted d ranked → (s : State) → IsConsistent d s → IsSettled d s.store → (input : Input) → Contains d.inputs input → input.class ≢ Data → (n : ℕ) → Follows d input.signal n → edge_bit s.store n ≡ edge_bit s.store input.signal
root_bit d ranked h s c settled input stands apart n itself = refl
root_bit d ranked h s c settled input stands apart n (copied {from = from} {to = to} {a = a} is_driver copies follows) =
    let p = place_in d.drivers a is_driver in
    let link : IsLink d p.0 a from n = record { at = p.1; copies = copies; net = record { input = input; stands = stands; edge = apart; follows = follows } } in
    link_settled d ranked h s c settled p.0 from n a link ∙ root_bit d ranked h s c settled input stands apart from follows

edge_value : (d : Netlist) (ranked : List ℕ) → IsAccepted d ranked → (s : State) → IsConsistent d s → IsSettled d s.store → KnownOrZ d s.store → (n : ℕ) → IsEdgeNet d n → AreKnown (value_at BX s.store.signals n) ⊎ (value_at BX s.store.signals n ≡ BZ ∷ [])
edge_value d ranked h s c settled inputs n net =
    let x = net.input in
    let p = place_in d.inputs x net.stands in
    let root : IsEdgeNet d x.signal = record { input = x; stands = net.stands; edge = net.edge; follows = itself } in
    let same : value_at BX s.store.signals n ≡ value_at BX s.store.signals x.signal
    = whole_value d ranked h s.store n c.shaped.sizes net ∙ ap (λ b. b ∷ []) (root_bit d ranked h s c settled x net.stands net.edge n net.follows) ∙ sym (whole_value d ranked h s.store x.signal c.shaped.sizes root) in
    ⊎_elim
    (λ known. inl (subst AreKnown (sym same) known))
    (λ z. inr (same ∙ z ∙ ap (λ w. replicate w BZ) (h.edge_bits x.signal root)))
    (inputs p.0 x p.1)

pub signals_known : (d : Netlist) (ranked : List ℕ) → IsAccepted d ranked → HasKnownConstants d → (s : State) → IsConsistent d s → IsSettled d s.store → KnownRegisters d s.store → DataKnown d s.store → KnownOrZ d s.store → (n : ℕ) → n < length d.signals →
    AreKnown (value_at BX s.store.signals n) ⊎ (IsEdgeNet d n × (value_at BX s.store.signals n ≡ BZ ∷ []))
signals_known d ranked h constants s c settled k data_ inputs n within =
    ⊎_elim (λ l. inl l) (λ net. ⊎_elim (λ l. inl l) (λ z. inr (net, z)) (edge_value d ranked h s c settled inputs n net)) (known_but d ranked h constants s.store settled k data_ n within)
