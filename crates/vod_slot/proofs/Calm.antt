-- A slot that changes data alone: no block starts, and every order of its events ends in one state.
use Rattle.std.proofs.Common.{◌≡◌, ◌≢◌, inl, inr, ℕ, suc, ◌+◌, ◌-◌, ◌<◌, ◌≤◌, Bool, true, false, if◌then◌else◌, List, [], ◌∷◌, length, get_or, arith, refl, ap, sym, ◌∙◌, subst, ⊎_elim, All, Some, None, slice_get, get_or-set_other}
use Rattle.std.specs.List.{Contains, list_any}
use Rattle.std.proofs.lemmas.Bool.{cases_eq, false_from_ne_true}
use Rattle.std.proofs.lemmas.List.Elements.{All-head, All-tail, All-cons, All-weaker}
use Rattle.std.proofs.lemmas.List.Sums.{sum_by-cons}
use Rattle.std.proofs.lemmas.Option.{same_Some}
use Rattle.vod_bits.specs.Bit.{Bit, BX}
use Rattle.vod_design.specs.declared.parts.Input.{Input}
use Rattle.vod_design.specs.declared.statement.Place.{Place}
use Rattle.vod_design.specs.declared.vector.Class.TheVariants.{Data}
use Rattle.vod_design.specs.declared.vector.Move.{Move}
use Rattle.vod_design.specs.Accepted.{IsAccepted}
use Rattle.vod_design.specs.Eval.{same_bit}
use Rattle.vod_design.specs.Lawful.{assigned}
use Rattle.vod_design.specs.Netlist.{Netlist, signal_width, IsNet, IsRegister}
use Rattle.vod_design.specs.Nets.{Follows, itself, copied, IsEdgeNet}
use Rattle.vod_design.specs.Values.{value_at}
use Rattle.vod_slot.specs.Store.{Store, Write, ToBit, ToWord, bit_in, bit_at, bit_replaced, written, list_at, bits_written, places_written}
use Rattle.vod_slot.specs.State.{State, Update, opened, IsResting}
use Rattle.vod_slot.specs.Step.{is_filled, starts, put, put_all}
use Rattle.vod_slot.specs.Run.{ChangesData}
use Rattle.vod_slot.specs.Shape.{sizes, widths}
use Rattle.vod_slot.specs.Settled.{IsConsistent}
use Rattle.vod_slot.specs.Edges.{edge_bit, AreEdgesKept}
use Rattle.vod_slot.specs.Room.{nets_of, opening_count, openings}
use Rattle.vod_slot.proofs.Lists.{all_none, all_from_places, default_at}
use Rattle.vod_slot.proofs.Replaced.{in_within, same_bit-itself}
use Rattle.vod_slot.proofs.Puts.{Misses, bit_at-kept, bit_at-written, sizes-written, sizes-put_all}
use Rattle.vod_slot.proofs.Targets.{width_at}
use Rattle.vod_slot.proofs.Paths.{place_in}
use Rattle.vod_slot.proofs.Outside.{triggered_none, not_register}
use Rattle.vod_slot.proofs.Ends.{IsSettled-at_rest}
use Rattle.vod_slot.proofs.Unique.{value_ext, value_size}
use Rattle.vod_slot.proofs.Links.{single, edge_within}
use Rattle.vod_slot.proofs.Edges.{none_there, no_link}
use Rattle.vod_slot.proofs.Openings.{link_settled, inputs_apart, moves_at}
use Rattle.vod_slot.proofs.Room.{Brings, IsBetween, IsBetween-written, start_uses}
use Rattle.vod_slot.proofs.Rooms.{nets_edges, openings_at_most}

-- edge nets keep what they have

pub data_no_edge : (d : Netlist) (ranked : List ℕ) → IsAccepted d ranked → (i : ℕ) (x y : Input) → slice_get d.inputs i ≡ Some x → Contains d.inputs y → x.class ≡ Data → y.class ≢ Data → (n : ℕ) → n ≡ x.signal → Follows d y.signal n → ⊥
data_no_edge d ranked h i x y at stands is_data edge n is itself =
    let p = place_in d.inputs y stands in
    ⊎_elim
    (λ same. edge (ap (λ (z : Input). z.class) (same_Some y x (sym p.1 ∙ ap (slice_get d.inputs) same ∙ at)) ∙ is_data))
    (λ apart. inputs_apart d.inputs p.0 i y x h.flat.inputs_differ p.1 at apart is)
    (cases_eq p.0 i)
data_no_edge d ranked h i x y at stands is_data edge n is (copied {from = from} {to = to} {a = c} is_driver copies follows) =
    let p = place_in d.drivers c is_driver in
    no_link d ranked h i p.0 from n x c at (sym is) (record { at = p.1; copies = copies; net = record { input = y; stands = stands; edge = edge; follows = follows } })

value_one : (d : Netlist) (ranked : List ℕ) → IsAccepted d ranked → (s : State) → IsConsistent d s → (n : ℕ) → IsEdgeNet d n → length (value_at BX s.store.signals n) ≡ 1
value_one d ranked h s c n net = let one : signal_width d n ≡ 1 = h.edge_bits n net in value_size s.store d n c.shaped.sizes (edge_within d n one) ∙ one

pub edges_still : (d : Netlist) (ranked : List ℕ) (s : State) (moves : List Move) → IsAccepted d ranked → IsConsistent d s → IsResting s → ChangesData d s moves → AreEdgesKept d (edge_bit s.store) (edge_bit s.store) (opened d moves s)
edges_still d ranked s moves h c rests changes =
    let here = link_settled d ranked h s c (IsSettled-at_rest d s c rests) in
    record {
      values = λ n net. inl refl;
      moves = λ i x v at net is.
          let same : 0 + i ≡ i = omega arith in
          let given : assigned moves i ≡ Some v = ap (assigned moves) (sym same) ∙ moves_at (assigned moves) 0 d.inputs i v is in
          let len : length (value_at BX s.store.signals x.signal) ≡ 1 = value_one d ranked h s c x.signal net in
          ⊎_elim
          (λ is_data. absurd (data_no_edge d ranked h i x net.input at net.stands is_data net.edge x.signal refl net.follows))
          (λ has. sym has ∙ single (value_at BX s.store.signals x.signal) len)
          (changes i x v at given);
      sources = λ j from to a l is. refl;
      pend = λ j from to a v l is. absurd (none_there v (sym (default_at None s.pend rests.pend j) ∙ is));
      openings_agree = here;
      brought_agree = here;
    }

-- no block starts

abbrev Full : (ℕ → Bit) → Store → ℕ → Type 0
Full o store n = edge_bit store n ≡ o n

openings_full : (o : ℕ → Bit) (store : Store) (nets : List ℕ) → All (Full o store) nets → openings o store nets ≡ length nets
openings_full o store [] h = refl
openings_full o store (n ∷ nets) h =
    let here : opening_count o store n ≡ 1 = ap (λ (v : Bit). if same_bit v (o n) then 1 else 0) (All-head (Full o store) n nets h) ∙ ap (λ (t : Bool). if t then 1 else 0) (same_bit-itself (o n)) in
    let more = openings_full o store nets (All-tail (Full o store) n nets h) in
    let e = sum_by-cons (opening_count o store) n nets in
    omega arith

full_of : (o : ℕ → Bit) (store : Store) (n : ℕ) → IsBetween o o store n → Full o store n
full_of o store n b = ⊎_elim (λ l. l) (λ r. r) b.value

no_start : (d : Netlist) (ranked : List ℕ) → IsAccepted d ranked → (o : ℕ → Bit) (store : Store) (w : Write) → ((n : ℕ) → IsEdgeNet d n → IsBetween o o store n) → ((n : ℕ) → IsEdgeNet d n → Brings o n w) → All (λ b. starts store w b ≡ false) d.blocks
no_start d ranked h o store w between brings =
    all_from_places (λ b. starts store w b ≡ false) d.blocks
    (λ k b at. false_from_ne_true (starts store w b)
    (λ is.
    let nets = nets_edges d ranked h k b at in
    let uses = start_uses o o store w b (All-weaker (IsEdgeNet d) (IsBetween o o store) between (nets_of b) nets) (All-weaker (IsEdgeNet d) (λ n. Brings o n w) brings (nets_of b) nets) is in
    let all = openings_full o (written store w) (nets_of b) (All-weaker (IsEdgeNet d) (Full o (written store w)) (λ n net. full_of o (written store w) n (IsBetween-written o o store n w (between n net) (brings n net))) (nets_of b) nets) in
    let most = openings_at_most o store (nets_of b) in
    absurd (omega arith)))

pub todo_still : (d : Netlist) (ranked : List ℕ) → IsAccepted d ranked → (o : ℕ → Bit) (writes : List Write) (st : State) → ((n : ℕ) → IsEdgeNet d n → IsBetween o o st.store n) → ((n : ℕ) → IsEdgeNet d n → All (Brings o n) writes) → (put_all d writes st).todo ≡ st.todo
todo_still d ranked h o [] st between brings = refl
todo_still d ranked h o (w ∷ writes) st between brings =
    todo_still d ranked h o writes (put d w st) (λ n net. IsBetween-written o o st.store n w (between n net) (All-head (Brings o n) w writes (brings n net))) (λ n net. All-tail (Brings o n) w writes (brings n net))
    ∙ triggered_none (starts st.store w) d.blocks st.todo (no_start d ranked h o st.store w between (λ n net. All-head (Brings o n) w writes (brings n net)))

-- what no block and no initial item has left

pub record IsCalm (st : State) : Type 0 where
  pub init : All (λ assigns. assigns ≡ []) st.init
  pub todo : All (λ statements. statements ≡ []) st.todo
  pub later : All (λ updates. updates ≡ []) st.later
  pub now : All (λ updates. updates ≡ []) st.now

pub nothing_filled : {A : Type 0} (lists : List (List A)) (k : ℕ) → All (λ list. list ≡ []) lists → is_filled (list_at lists k) ≡ true → ⊥
nothing_filled lists k none filled = let clash : true ≡ false = sym filled ∙ ap is_filled (default_at [] lists none k) in cc

pub nothing_any : (lists : List (List Update)) → All (λ list. list ≡ []) lists → list_any is_filled lists ≡ false
nothing_any [] h = refl
nothing_any (list ∷ lists) h = rw (All-head (λ l. l ≡ []) list lists h) (nothing_any lists (All-tail (λ l. l ≡ []) list lists h))

-- what writes of nets leave

abbrev pub OfNet : Netlist → Write → Type 0
OfNet d (ToBit n place bit) = IsNet d n
OfNet d (ToWord memory place word) = ⊥

-- a write of another signal
abbrev pub OfOther : ℕ → Write → Type 0
OfOther n (ToBit m place bit) = m ≢ n
OfOther n (ToWord memory place word) = Unit {0}

other_kept : (store : Store) (n : ℕ) (w : Write) → OfOther n w → value_at BX (written store w).signals n ≡ value_at BX store.signals n
other_kept store n (ToBit m place bit) apart = get_or-set_other store.signals m n (bit_replaced place bit (value_at BX store.signals m)) (BX ∷ []) (λ e. apart (sym e))
other_kept store n (ToWord memory place word) apart = refl

pub others_kept : (d : Netlist) (writes : List Write) (st : State) (n : ℕ) → All (OfOther n) writes → value_at BX (put_all d writes st).store.signals n ≡ value_at BX st.store.signals n
others_kept d [] st n h = refl
others_kept d (w ∷ writes) st n h = others_kept d writes (put d w st) n (All-tail (OfOther n) w writes h) ∙ other_kept st.store n w (All-head (OfOther n) w writes h)

memory_kept : (store : Store) (d : Netlist) (w : Write) → OfNet d w → (written store w).memories ≡ store.memories
memory_kept store d (ToBit n place bit) net = refl
memory_kept store d (ToWord memory place word) net = absurd net

pub memories_kept : (d : Netlist) (writes : List Write) (st : State) → All (OfNet d) writes → (put_all d writes st).store.memories ≡ st.store.memories
memories_kept d [] st h = refl
memories_kept d (w ∷ writes) st h = memories_kept d writes (put d w st) (All-tail (OfNet d) w writes h) ∙ memory_kept st.store d w (All-head (OfNet d) w writes h)

pub register_other : (d : Netlist) (n : ℕ) (w : Write) → IsRegister d n → OfNet d w → OfOther n w
register_other d n (ToBit m place bit) register net = λ same. not_register d n (subst (IsNet d) same net) register
register_other d n (ToWord memory place word) register net = tt

pub bits_of : (P : Write → Type 0) (n low : ℕ) (bits : List Bit) → ((place : ℕ) (bit : Bit) → P (ToBit n place bit)) → All P (bits_written n low bits)
bits_of P n low [] each = all_none P
bits_of P n low (bit ∷ bits) each = All-cons P (ToBit n (length bits + low) bit) (bits_written n low bits) (each (length bits + low) bit) (bits_of P n low bits each)

pub places_of : (P : Write → Type 0) (Q : Place → Type 0) → ((b : Place) (bit : Bit) → Q b → P (ToBit b.signal b.bit bit)) → (places : List Place) (bits : List Bit) → All Q places → All P (places_written places bits)
places_of P Q f [] bits h = all_none P
places_of P Q f (b ∷ places) [] h = all_none P
places_of P Q f (b ∷ places) (bit ∷ bits) h = All-cons P (ToBit b.signal b.bit bit) (places_written places bits) (f b bit (All-head Q b places h)) (places_of P Q f places bits (All-tail Q b places h))

-- what a whole value that is written gives

pub bit_behind : (b : Bit) (bits : List Bit) (p : ℕ) → p < length bits → bit_in (b ∷ bits) p ≡ bit_in bits p
bit_behind b bits p h =
    let e : suc (length bits) - (p + 1) ≡ suc (length bits - (p + 1)) = omega arith in
    in_within (b ∷ bits) p (omega arith) ∙ ap (λ k. get_or (b ∷ bits) k BX) e ∙ sym (in_within bits p h)

pub bit_first : (b : Bit) (bits : List Bit) → bit_in (b ∷ bits) (length bits) ≡ b
bit_first b bits = let e : suc (length bits) - (length bits + 1) ≡ 0 = omega arith in in_within (b ∷ bits) (length bits) (omega arith) ∙ ap (λ k. get_or (b ∷ bits) k BX) e

abbrev place_at : ℕ → ℕ → Place
place_at signal bit = record { signal = signal; bit = bit }

later_miss : (n p : ℕ) (bits : List Bit) → length bits ≤ p → All (Misses (place_at n p)) (bits_written n 0 bits)
later_miss n p [] h = all_none (Misses (place_at n p))
later_miss n p (b ∷ bits) h =
    All-cons (Misses (place_at n p)) (ToBit n (length bits + 0) b) (bits_written n 0 bits) (inr (λ e. (let same : length bits + 0 ≡ p = e in absurd (omega arith)))) (later_miss n p bits (omega arith))

bits_hold : (d : Netlist) (n : ℕ) (v : List Bit) (st : State) (p : ℕ) → p < length v → length v ≤ get_or (sizes st.store) n 0 → bit_in (value_at BX (put_all d (bits_written n 0 v) st).store.signals n) p ≡ bit_in v p
bits_hold d n [] st p h fits = absurd (omega arith)
bits_hold d n (b ∷ bits) st p h fits =
    let w = ToBit n (length bits + 0) b in
    let low : length bits + 0 ≡ length bits = omega arith in
    ⊎_elim
    (λ same.
    let there : length bits + 0 < get_or (sizes st.store) n 0 = omega arith in
    bit_at-kept d (bits_written n 0 bits) (put d w st) (place_at n p) (later_miss n p bits (omega arith))
    ∙ ap (λ q. bit_at (written st.store w) n q) (same ∙ sym low)
    ∙ bit_at-written st.store (place_at n (length bits + 0)) b there
    ∙ sym (ap (bit_in (b ∷ bits)) same ∙ bit_first b bits))
    (λ apart.
    let lt : p < length bits = omega arith in
    bits_hold d n bits (put d w st) p lt (subst (λ ns. length bits ≤ get_or ns n 0) (sym (sizes-written st.store w)) (omega arith)) ∙ sym (bit_behind b bits p lt))
    (cases_eq p (length bits))

size_at : (store : Store) (d : Netlist) (n : ℕ) → sizes store ≡ widths d → get_or (sizes store) n 0 ≡ signal_width d n
size_at store d n same = ap (λ ns. get_or ns n 0) same ∙ sym (width_at d.signals n)

pub value_holds : (d : Netlist) (n : ℕ) (v : List Bit) (st : State) → sizes st.store ≡ widths d → n < length d.signals → length v ≡ signal_width d n → value_at BX (put_all d (bits_written n 0 v) st).store.signals n ≡ v
value_holds d n v st same lt len =
    let t = put_all d (bits_written n 0 v) st in
    let size : length (value_at BX t.store.signals n) ≡ signal_width d n = value_size t.store d n (sizes-put_all d (bits_written n 0 v) st ∙ same) lt in
    let fits = size_at st.store d n same in
    value_ext (value_at BX t.store.signals n) v (size ∙ sym len) (λ p h. bits_hold d n v st p (omega arith) (omega arith))
