-- What writes leave of the bits that others hold, and what they give the bits that they are of.
use Rattle.std.proofs.Common.{◌≡◌, ◌≢◌, ◌⊎◌, inl, inr, ℕ, zero, suc, ◌+◌, ◌<◌, List, [], ◌∷◌, length, map, set, get_or, arith, refl, ap, sym, ◌∙◌, subst, ⊎_elim, All, AllPairs, length-set, get_or-set_same, get_or-set_other}
use Rattle.std.proofs.lemmas.Bool.{cases_lt, cases_eq}
use Rattle.std.proofs.lemmas.List.{get_or_past}
use Rattle.std.proofs.Math.Seq.{map-set_same}
use Rattle.std.proofs.lemmas.List.Elements.{All-head, All-tail, All-cons, All-weaker}
use Rattle.vod_bits.specs.Bit.{Bit, BX}
use Rattle.vod_design.specs.declared.statement.Place.{Place}
use Rattle.vod_design.specs.Netlist.{Netlist}
use Rattle.vod_design.specs.Values.{value_at}
use Rattle.vod_slot.specs.Store.{Store, Write, ToBit, ToWord, bit_in, bit_at, bit_replaced, written, bits_written, places_written, bits_at}
use Rattle.vod_slot.specs.State.{State}
use Rattle.vod_slot.specs.Step.{put, put_all}
use Rattle.vod_slot.specs.Shape.{sizes}
use Rattle.vod_slot.proofs.Lists.{all_none, pairs_head, pairs_tail}
use Rattle.vod_slot.proofs.Replaced.{length-replaced, in-replaced, in-replaced_other}

-- a write is of something else than a bit
abbrev pub Misses : Place → Write → Type 0
Misses b (ToBit signal place bit) = (signal ≢ b.signal) ⊎ (place ≢ b.bit)
Misses b (ToWord memory place word) = Unit {0}

value_missed : (signals : List (List Bit)) (n m place other : ℕ) (bit : Bit) → (n ≢ m) ⊎ (place ≢ other) → bit_in (value_at BX (set signals n (bit_replaced place bit (value_at BX signals n))) m) other ≡ bit_in (value_at BX signals m) other
value_missed signals n m place other bit (inl apart) = ap (λ v. bit_in v other) (get_or-set_other signals n m (bit_replaced place bit (value_at BX signals n)) (BX ∷ []) (λ e. apart (sym e)))
value_missed signals n m place other bit (inr apart) =
    let new = bit_replaced place bit (value_at BX signals n) in
    ⊎_elim
    (λ same. subst (λ k. bit_in (value_at BX (set signals n new) k) other ≡ bit_in (value_at BX signals k) other) same
    (⊎_elim
    (λ lt. ap (λ v. bit_in v other) (get_or-set_same signals n new (BX ∷ []) lt) ∙ in-replaced_other place other bit (value_at BX signals n) apart)
    (λ ge. ap (λ v. bit_in v other) (get_or_past (set signals n new) n (BX ∷ []) (rw length-set ge) ∙ sym (get_or_past signals n (BX ∷ []) ge)))
    (cases_lt n (length signals))))
    (λ other_signal. ap (λ v. bit_in v other) (get_or-set_other signals n m new (BX ∷ []) (λ e. other_signal (sym e))))
    (cases_eq n m)

pub bit_at-missed : (store : Store) (w : Write) (b : Place) → Misses b w → bit_at (written store w) b.signal b.bit ≡ bit_at store b.signal b.bit
bit_at-missed store (ToBit signal place bit) b apart = value_missed store.signals signal b.signal place b.bit bit apart
bit_at-missed store (ToWord memory place word) b apart = refl

-- a write keeps the sizes of signals
pub sizes-written : (store : Store) (w : Write) → sizes (written store w) ≡ sizes store
sizes-written store (ToBit signal place bit) = map-set_same length store.signals signal (bit_replaced place bit (value_at BX store.signals signal)) (BX ∷ []) (length-replaced place bit (value_at BX store.signals signal))
sizes-written store (ToWord memory place word) = refl

pub sizes-put_all : (d : Netlist) (writes : List Write) (st : State) → sizes (put_all d writes st).store ≡ sizes st.store
sizes-put_all d [] st = refl
sizes-put_all d (w ∷ writes) st = sizes-put_all d writes (put d w st) ∙ sizes-written st.store w

-- a bit that there is
abbrev pub IsThere : Store → Place → Type 0
IsThere store b = b.bit < get_or (sizes store) b.signal 0

there_in : (signals : List (List Bit)) (n place : ℕ) → place < get_or (map length signals) n 0 → (n < length signals) × (place < length (value_at BX signals n))
there_in [] n place h = absurd (omega arith)
there_in (v ∷ signals) zero place h = (omega arith, h)
there_in (v ∷ signals) (suc n) place h = let p = there_in signals n place h in let l = p.0 in (omega arith, p.1)

pub bit_at-written : (store : Store) (b : Place) (bit : Bit) → IsThere store b → bit_at (written store (ToBit b.signal b.bit bit)) b.signal b.bit ≡ bit
bit_at-written store b bit h =
    let p = there_in store.signals b.signal b.bit h in
    let old = value_at BX store.signals b.signal in
    ap (λ v. bit_in v b.bit) (get_or-set_same store.signals b.signal (bit_replaced b.bit bit old) (BX ∷ []) p.0) ∙ in-replaced b.bit bit old p.1

-- bits that all writes miss
pub bit_at-kept : (d : Netlist) (writes : List Write) (st : State) (b : Place) → All (Misses b) writes → bit_at (put_all d writes st).store b.signal b.bit ≡ bit_at st.store b.signal b.bit
bit_at-kept d [] st b h = refl
bit_at-kept d (w ∷ writes) st b h = bit_at-kept d writes (put d w st) b (All-tail (Misses b) w writes h) ∙ bit_at-missed st.store w b (All-head (Misses b) w writes h)

pub bits_at-kept : (d : Netlist) (writes : List Write) (st : State) (places : List Place) → All (λ b. All (Misses b) writes) places → bits_at (put_all d writes st).store places ≡ bits_at st.store places
bits_at-kept d writes st [] h = refl
bits_at-kept d writes st (b ∷ places) h =
    let here : bit_at (put_all d writes st).store b.signal b.bit ≡ bit_at st.store b.signal b.bit = bit_at-kept d writes st b (All-head (λ c. All (Misses c) writes) b places h) in
    let more : bits_at (put_all d writes st).store places ≡ bits_at st.store places = bits_at-kept d writes st places (All-tail (λ c. All (Misses c) writes) b places h) in
    cc

-- another bit than one
abbrev place_of : ℕ → ℕ → Place
place_of signal bit = record { signal = signal; bit = bit }

pub place_same : (b c : Place) → b.signal ≡ c.signal → b.bit ≡ c.bit → b ≡ c
place_same b c e f = let p : Place = record { signal = b.signal; bit = c.bit } in let q : b ≡ p = ap (λ n. place_of b.signal n) f in let r : p ≡ c = ap (λ n. place_of n c.bit) e in q ∙ r

pub misses_other : (b c : Place) (bit : Bit) → b ≢ c → Misses c (ToBit b.signal b.bit bit)
misses_other b c bit apart =
    ⊎_elim
    (λ same. inr (λ e. apart (place_same b c same e)))
    (λ other. inl other)
    (cases_eq b.signal c.signal)

pub places-miss : (c : Place) (places : List Place) (bits : List Bit) → All (λ b. b ≢ c) places → All (Misses c) (places_written places bits)
places-miss c [] bits h = all_none (Misses c)
places-miss c (b ∷ places) [] h = all_none (Misses c)
places-miss c (b ∷ places) (bit ∷ bits) h =
    All-cons (Misses c) (ToBit b.signal b.bit bit) (places_written places bits) (misses_other b c bit (All-head (λ e. e ≢ c) b places h)) (places-miss c places bits (All-tail (λ e. e ≢ c) b places h))

pub bits-miss : (c : Place) (signal low : ℕ) (bits : List Bit) → signal ≢ c.signal → All (Misses c) (bits_written signal low bits)
bits-miss c signal low [] apart = all_none (Misses c)
bits-miss c signal low (bit ∷ bits) apart = All-cons (Misses c) (ToBit signal (length bits + low) bit) (bits_written signal low bits) (inl apart) (bits-miss c signal low bits apart)

-- what is written to places that differ stands there then
there_still : (store : Store) (w : Write) (places : List Place) → All (IsThere store) places → All (IsThere (written store w)) places
there_still store w places h = All-weaker (IsThere store) (IsThere (written store w)) (λ b there. subst (λ ns. b.bit < get_or ns b.signal 0) (sym (sizes-written store w)) there) places h

pub places-hold : (d : Netlist) (places : List Place) (bits : List Bit) (st : State) → length bits ≡ length places → AllPairs (λ b c. b ≢ c) places → All (IsThere st.store) places → bits_at (put_all d (places_written places bits) st).store places ≡ bits
places-hold d [] [] st len once there = refl
places-hold d [] (bit ∷ bits) st len once there = absurd (omega arith)
places-hold d (b ∷ places) [] st len once there = absurd (omega arith)
places-hold d (b ∷ places) (bit ∷ bits) st len once there =
    let w = ToBit b.signal b.bit bit in
    let apart = pairs_head (λ x y. x ≢ y) b places once in
    let missed = places-miss b places bits (All-weaker (λ y. b ≢ y) (λ y. y ≢ b) (λ y n e. n (sym e)) places apart) in
    let here : bit_at (put_all d (places_written places bits) (put d w st)).store b.signal b.bit ≡ bit = bit_at-kept d (places_written places bits) (put d w st) b missed ∙ bit_at-written st.store b bit (All-head (IsThere st.store) b places there) in
    let more : bits_at (put_all d (places_written places bits) (put d w st)).store places ≡ bits
    = places-hold d places bits (put d w st) (omega arith) (pairs_tail (λ x y. x ≢ y) b places once) (there_still st.store w places (All-tail (IsThere st.store) b places there)) in
    cc
