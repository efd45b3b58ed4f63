-- Where blocks start: at an edge of a net, as it comes from its opening value to the one that is brought.
use Rattle.std.proofs.Common.{◌≡◌, ◌⊎◌, inl, inr, ℕ, ◌==◌, ◌||◌, ◌&&◌, Bool, true, false, if◌then◌else◌, List, [], ◌∷◌, refl, ap, sym, ◌∙◌, ⊎_elim, All, Option, Some, None, eq-eqb}
use Rattle.std.proofs.lemmas.Bool.{ne_eqb}
use Rattle.std.proofs.lemmas.List.Elements.{All-head, All-tail, All-weaker}
use Rattle.vod_bits.specs.Bit.{Bit, B0, B1, BX, BZ}
use Rattle.vod_design.specs.declared.parts.Block.{Block}
use Rattle.vod_design.specs.declared.parts.Edge.{Edge}
use Rattle.vod_design.specs.Accepted.{IsAccepted}
use Rattle.vod_design.specs.Netlist.{Netlist}
use Rattle.vod_design.specs.Nets.{IsEdgeNet}
use Rattle.vod_slot.specs.Store.{Store, Write, ToBit, ToWord, written}
use Rattle.vod_slot.specs.State.{State}
use Rattle.vod_slot.specs.Step.{is_rising, is_falling, is_edge, is_reset_edge, starts, put, put_all}
use Rattle.vod_slot.specs.Edges.{edge_bit}
use Rattle.vod_slot.specs.Room.{reset_nets, nets_of}
use Rattle.vod_slot.proofs.Lists.{all_at, all_from_places}
use Rattle.vod_slot.proofs.Puts.{Misses, bit_at-missed, bit_at-written}
use Rattle.vod_slot.proofs.Outside.{triggered_none}
use Rattle.vod_slot.proofs.Links.{lowest}
use Rattle.vod_slot.proofs.Room.{Brings, IsBetween, IsBetween-written}
use Rattle.vod_slot.proofs.Rooms.{nets_edges}

-- whether a change is an edge that is waited for; whether one came between some values of the nets and others; and whether a block had one
abbrev pub is_change : Edge → Bit → Bit → Bool
is_change x old new = if x.rising then is_rising old new else is_falling old new

abbrev pub had_edge : (ℕ → Bit) → (ℕ → Bit) → Edge → Bool
had_edge from to x = is_change x (from x.signal) (to x.signal)

abbrev pub had_reset : (ℕ → Bit) → (ℕ → Bit) → Option Edge → Bool
had_reset from to None = false
had_reset from to (Some x) = had_edge from to x

abbrev pub had_start : (ℕ → Bit) → (ℕ → Bit) → Block → Bool
had_start from to b = had_edge from to b.clock || had_reset from to b.reset

by_sense : (rising : Bool) (b : Bit) → (if rising then is_rising b b else is_falling b b) ≡ false
by_sense true B0 = refl
by_sense true B1 = refl
by_sense true BX = refl
by_sense true BZ = refl
by_sense false B0 = refl
by_sense false B1 = refl
by_sense false BX = refl
by_sense false BZ = refl

pub no_change : (x : Edge) (b : Bit) → is_change x b b ≡ false
no_change x b = by_sense x.rising b

and-false : (b : Bool) → (b && false) ≡ false
and-false true = refl
and-false false = refl

missed_edge : (store : Store) (w : Write) (x : Edge) → Misses (lowest x.signal) w → is_edge store w x ≡ false
missed_edge store (ToBit signal place bit) x (inl apart) = rw (ne_eqb x.signal signal (λ e. apart (sym e))) refl
missed_edge store (ToBit signal place bit) x (inr apart) = rw (ne_eqb place 0 apart) (and-false (x.signal == signal))
missed_edge store (ToWord memory place word) x h = refl

brought_edge : (store : Store) (x : Edge) (bit : Bit) → is_edge store (ToBit x.signal 0 bit) x ≡ is_change x (edge_bit store x.signal) bit
brought_edge store x bit = rw (eq-eqb x.signal x.signal refl) refl

-- no edge came by a write, or the first one did
pub data IsStep (o e : ℕ → Bit) (store : Store) (w : Write) (x : Edge) : Type 0 where
  still : is_edge store w x ≡ false → had_edge o (edge_bit (written store w)) x ≡ had_edge o (edge_bit store) x → IsStep o e store w x
  came : is_edge store w x ≡ true → had_edge o (edge_bit store) x ≡ false → had_edge o (edge_bit (written store w)) x ≡ true → had_edge o e x ≡ true → IsStep o e store w x

step_of : (o e : ℕ → Bit) (store : Store) (w : Write) (x : Edge) (b : Bool) → had_edge o e x ≡ b → edge_bit store x.signal ≡ o x.signal → edge_bit (written store w) x.signal ≡ e x.signal → is_edge store w x ≡ is_change x (edge_bit store x.signal) (e x.signal) → IsStep o e store w x
step_of o e store w x true is old new edge =
    came (edge ∙ ap (λ v. is_change x v (e x.signal)) old ∙ is)
    (ap (is_change x (o x.signal)) old ∙ no_change x (o x.signal))
    (ap (is_change x (o x.signal)) new ∙ is)
    is
step_of o e store w x false is old new edge =
    still (edge ∙ ap (λ v. is_change x v (e x.signal)) old ∙ is)
    (ap (is_change x (o x.signal)) new ∙ is ∙ sym (ap (is_change x (o x.signal)) old ∙ no_change x (o x.signal)))

pub edge_step : (o e : ℕ → Bit) (store : Store) (w : Write) (x : Edge) → IsBetween o e store x.signal → Brings e x.signal w → IsStep o e store w x
edge_step o e store w x between (inl miss) = still (missed_edge store w x miss) (ap (is_change x (o x.signal)) (bit_at-missed store w (lowest x.signal) miss))
edge_step o e store w x between (inr is) =
    let new : edge_bit (written store w) x.signal ≡ e x.signal = ap (λ v. edge_bit (written store v) x.signal) is ∙ bit_at-written store (lowest x.signal) (e x.signal) between.there in
    let edge : is_edge store w x ≡ is_change x (edge_bit store x.signal) (e x.signal) = ap (λ v. is_edge store v x) is ∙ brought_edge store x (e x.signal) in
    ⊎_elim
    (λ old. step_of o e store w x (had_edge o e x) refl old new edge)
    (λ at_end. still (edge ∙ ap (λ v. is_change x v (e x.signal)) at_end ∙ no_change x (e x.signal)) (ap (is_change x (o x.signal)) (new ∙ sym at_end)))
    between.value

-- where no edge of the block is brought, it doesn't start
pub or_none : (a b : Bool) → (a || b) ≡ false → (a ≡ false) × (b ≡ false)
or_none true b h = absurd (cc)
or_none false b h = (refl, h)

no_edge : (o e : ℕ → Bit) (store : Store) (w : Write) (x : Edge) → IsStep o e store w x → had_edge o e x ≡ false → is_edge store w x ≡ false
no_edge o e store w x (still none same) h = none
no_edge o e store w x (came is was now will) h = let clash : true ≡ false = sym will ∙ h in absurd (cc)

no_reset : (o e : ℕ → Bit) (store : Store) (w : Write) (reset : Option Edge) → All (IsBetween o e store) (reset_nets reset) → All (λ n. Brings e n w) (reset_nets reset) → had_reset o e reset ≡ false → is_reset_edge store w reset ≡ false
no_reset o e store w None between brings h = refl
no_reset o e store w (Some x) between brings h = no_edge o e store w x (edge_step o e store w x (All-head (IsBetween o e store) x.signal [] between) (All-head (λ n. Brings e n w) x.signal [] brings)) h

pub not_started : (o e : ℕ → Bit) (store : Store) (w : Write) (b : Block) → All (IsBetween o e store) (nets_of b) → All (λ n. Brings e n w) (nets_of b) → had_start o e b ≡ false → starts store w b ≡ false
not_started o e store w b between brings h =
    let nets = reset_nets b.reset in
    let n = b.clock.signal in
    let p = or_none (had_edge o e b.clock) (had_reset o e b.reset) h in
    let clock = no_edge o e store w b.clock (edge_step o e store w b.clock (All-head (IsBetween o e store) n nets between) (All-head (λ m. Brings e m w) n nets brings)) p.0 in
    let reset = no_reset o e store w b.reset (All-tail (IsBetween o e store) n nets between) (All-tail (λ m. Brings e m w) n nets brings) p.1 in
    rw (clock, reset) refl

-- what is brought starts no block
abbrev pub StartsNone : Netlist → (ℕ → Bit) → (ℕ → Bit) → Type 0
StartsNone d o e = All (λ b. had_start o e b ≡ false) d.blocks

pub same_starts_none : (d : Netlist) (e : ℕ → Bit) → StartsNone d e e
same_starts_none d e = all_from_places (λ b. had_start e e b ≡ false) d.blocks (λ k b at. none b)
  where
    reset : (r : Option Edge) → had_reset e e r ≡ false
    reset None = refl
    reset (Some x) = no_change x (e x.signal)

    none : (b : Block) → had_start e e b ≡ false
    none b = rw (no_change b.clock (e b.clock.signal), reset b.reset) refl

change_first : (rising : Bool) → (if rising then is_rising BX BZ else is_falling BX BZ) ≡ false
change_first true = refl
change_first false = refl

pub first_starts_none : (d : Netlist) → StartsNone d (λ n. BX) (λ n. BZ)
first_starts_none d = all_from_places (λ b. had_start (λ n. BX) (λ n. BZ) b ≡ false) d.blocks (λ k b at. none b)
  where
    reset : (r : Option Edge) → had_reset (λ n. BX) (λ n. BZ) r ≡ false
    reset None = refl
    reset (Some x) = change_first x.rising

    none : (b : Block) → had_start (λ n. BX) (λ n. BZ) b ≡ false
    none b = rw (change_first b.clock.rising, reset b.reset) refl

abbrev pub AreBetween : Netlist → (ℕ → Bit) → (ℕ → Bit) → Store → Type 0
AreBetween d o e store = (n : ℕ) → IsEdgeNet d n → IsBetween o e store n

pub todo_unstarted : (d : Netlist) (ranked : List ℕ) → IsAccepted d ranked → (o e : ℕ → Bit) → StartsNone d o e → (writes : List Write) (st : State) → AreBetween d o e st.store → ((n : ℕ) → IsEdgeNet d n → All (Brings e n) writes) → (put_all d writes st).todo ≡ st.todo
todo_unstarted d ranked h o e none [] st between brings = refl
todo_unstarted d ranked h o e none (w ∷ writes) st between brings =
    let here : (n : ℕ) → IsEdgeNet d n → Brings e n w = λ n net. All-head (Brings e n) w writes (brings n net) in
    let free : All (λ b. starts st.store w b ≡ false) d.blocks
    = all_from_places (λ b. starts st.store w b ≡ false) d.blocks
    (λ k b at.
    let nets = nets_edges d ranked h k b at in
    not_started o e st.store w b (each (IsBetween o e st.store) (nets_of b) nets between) (each (λ n. Brings e n w) (nets_of b) nets here) (all_at (λ c. had_start o e c ≡ false) d.blocks k b none at)) in
    todo_unstarted d ranked h o e none writes (put d w st) (λ n net. IsBetween-written o e st.store n w (between n net) (here n net)) (λ n net. All-tail (Brings e n) w writes (brings n net))
    ∙ triggered_none (starts st.store w) d.blocks st.todo free
  where
    each : (P : ℕ → Type 0) (ns : List ℕ) → All (IsEdgeNet d) ns → ((n : ℕ) → IsEdgeNet d n → P n) → All P ns
    each P ns nets f = All-weaker (IsEdgeNet d) P f ns nets

-- a block of whose nets one is brought what it has starts once at most

abbrev pub SameReset : (ℕ → Bit) → (ℕ → Bit) → Option Edge → Type 0
SameReset o e None = Unit {0}
SameReset o e (Some x) = o x.signal ≡ e x.signal

abbrev pub HasOneEdge : (ℕ → Bit) → (ℕ → Bit) → Block → Type 0
HasOneEdge o e b = (o b.clock.signal ≡ e b.clock.signal) ⊎ SameReset o e b.reset

-- whether an edge comes, and whether one came before and one did then
pub data IsTurn (comes before then_ : Bool) : Type 0 where
  rests : comes ≡ false → then_ ≡ before → IsTurn comes before then_
  begins : comes ≡ true → before ≡ false → then_ ≡ true → IsTurn comes before then_

pub never : (o e : ℕ → Bit) (store : Store) (x : Edge) → o x.signal ≡ e x.signal → IsBetween o e store x.signal → had_edge o (edge_bit store) x ≡ false
never o e store x same between = ⊎_elim (λ old. ap (is_change x (o x.signal)) old ∙ no_change x (o x.signal)) (λ new. ap (is_change x (o x.signal)) (new ∙ sym same) ∙ no_change x (o x.signal)) between.value

never_comes : (o e : ℕ → Bit) (store : Store) (w : Write) (x : Edge) → o x.signal ≡ e x.signal → IsStep o e store w x → is_edge store w x ≡ false
never_comes o e store w x same step = no_edge o e store w x step (ap (is_change x (o x.signal)) (sym same) ∙ no_change x (o x.signal))

turn_of : (o e : ℕ → Bit) (store : Store) (w : Write) (x : Edge) → IsStep o e store w x → IsTurn (is_edge store w x) (had_edge o (edge_bit store) x) (had_edge o (edge_bit (written store w)) x)
turn_of o e store w x (still none same) = rests none same
turn_of o e store w x (came is was now will) = begins is was now

reset_turn : (o e : ℕ → Bit) (store : Store) (w : Write) (reset : Option Edge) → All (IsBetween o e store) (reset_nets reset) → All (λ n. Brings e n w) (reset_nets reset) → IsTurn (is_reset_edge store w reset) (had_reset o (edge_bit store) reset) (had_reset o (edge_bit (written store w)) reset)
reset_turn o e store w None between brings = rests refl refl
reset_turn o e store w (Some x) between brings = turn_of o e store w x (edge_step o e store w x (All-head (IsBetween o e store) x.signal [] between) (All-head (λ n. Brings e n w) x.signal [] brings))

by_reset : (comes before then_ c b t : Bool) → c ≡ false → b ≡ false → t ≡ false → IsTurn comes before then_ → IsTurn (c || comes) (b || before) (t || then_)
by_reset comes before then_ c b t hc hb ht turn = rw (hc, hb, ht) turn

or-false : (b : Bool) → (b || false) ≡ b
or-false true = refl
or-false false = refl

by_clock : (comes before then_ c b t : Bool) → c ≡ false → b ≡ false → t ≡ false → IsTurn comes before then_ → IsTurn (comes || c) (before || b) (then_ || t)
by_clock comes before then_ c b t hc hb ht turn = rw (hc, hb, ht, or-false comes, or-false before, or-false then_) turn

quiet_reset : (o e : ℕ → Bit) (store : Store) (w : Write) (reset : Option Edge) → SameReset o e reset → All (IsBetween o e store) (reset_nets reset) → All (λ n. Brings e n w) (reset_nets reset) →
    (is_reset_edge store w reset ≡ false) × ((had_reset o (edge_bit store) reset ≡ false) × (had_reset o (edge_bit (written store w)) reset ≡ false))
quiet_reset o e store w None same between brings = (refl, (refl, refl))
quiet_reset o e store w (Some x) same between brings =
    let here = All-head (IsBetween o e store) x.signal [] between in
    let brought = All-head (λ n. Brings e n w) x.signal [] brings in
    (never_comes o e store w x same (edge_step o e store w x here brought), (never o e store x same here, never o e (written store w) x same (IsBetween-written o e store x.signal w here brought)))

pub block_turn : (o e : ℕ → Bit) (store : Store) (w : Write) (b : Block) → HasOneEdge o e b → All (IsBetween o e store) (nets_of b) → All (λ n. Brings e n w) (nets_of b) → IsTurn (starts store w b) (had_start o (edge_bit store) b) (had_start o (edge_bit (written store w)) b)
block_turn o e store w b (inl same) between brings =
    let n = b.clock.signal in
    let nets = reset_nets b.reset in
    let here = All-head (IsBetween o e store) n nets between in
    let brought = All-head (λ m. Brings e m w) n nets brings in
    by_reset (is_reset_edge store w b.reset) (had_reset o (edge_bit store) b.reset) (had_reset o (edge_bit (written store w)) b.reset) (is_edge store w b.clock) (had_edge o (edge_bit store) b.clock) (had_edge o (edge_bit (written store w)) b.clock)
    (never_comes o e store w b.clock same (edge_step o e store w b.clock here brought)) (never o e store b.clock same here) (never o e (written store w) b.clock same (IsBetween-written o e store n w here brought))
    (reset_turn o e store w b.reset (All-tail (IsBetween o e store) n nets between) (All-tail (λ m. Brings e m w) n nets brings))
block_turn o e store w b (inr same) between brings =
    let n = b.clock.signal in
    let nets = reset_nets b.reset in
    let q = quiet_reset o e store w b.reset same (All-tail (IsBetween o e store) n nets between) (All-tail (λ m. Brings e m w) n nets brings) in
    by_clock (is_edge store w b.clock) (had_edge o (edge_bit store) b.clock) (had_edge o (edge_bit (written store w)) b.clock) (is_reset_edge store w b.reset) (had_reset o (edge_bit store) b.reset) (had_reset o (edge_bit (written store w)) b.reset)
    q.0 q.1.0 q.1.1
    (turn_of o e store w b.clock (edge_step o e store w b.clock (All-head (IsBetween o e store) n nets between) (All-head (λ m. Brings e m w) n nets brings)))
