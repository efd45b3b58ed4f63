-- What a write leaves as it was, and which drivers bring something else then.
use Rattle.std.proofs.Common.{◌≡◌, ◌≢◌, ◌⊎◌, inl, inr, ℕ, zero, suc, ◌+◌, ◌<◌, ◌≤◌, ◌==◌, nat_le, nat_lt, Bool, true, false, ◌&&◌, ◌||◌, not, List, [], ◌∷◌, length, set, arith, refl, ap, sym, ◌∙◌, subst, ⊎_elim, All, Some, option_and_then, slice_get, eq-eqb, length-set, get_or-set_same, get_or-set_other}
use Rattle.std.specs.List.{list_any}
use Rattle.std.proofs.lemmas.Bool.{cases_lt, cases_eq, cases_Bool, and_cases, le-leb, lt-ltb}
use Rattle.std.proofs.lemmas.List.{get_or_past, set-get_or}
use Rattle.std.proofs.lemmas.List.Elements.{All-cons}
use Rattle.vod_bits.specs.Bit.{Bit, BX}
use Rattle.vod_bits.specs.Value.{resize_bits}
use Rattle.vod_bits.specs.Lengths.{resize_length}
use Rattle.vod_design.specs.declared.parts.Driver.{Driver}
use Rattle.vod_design.specs.declared.read.Read.{Read}
use Rattle.vod_design.specs.declared.read.Read.TheVariants.{Whole, Bits, Word, Ram}
use Rattle.vod_design.specs.declared.sized.SizedExpr.{SizedExpr}
use Rattle.vod_design.specs.declared.statement.Function.{Function}
use Rattle.vod_design.specs.Eval.{same_bit}
use Rattle.vod_design.specs.Feeds.{is_read}
use Rattle.vod_design.specs.Netlist.{Netlist}
use Rattle.vod_design.specs.Reads.{reads, Agree}
use Rattle.vod_design.specs.Run.{eval}
use Rattle.vod_design.specs.Values.{Values, Frame, bounded, select_bits, value_at}
use Rattle.vod_slot.specs.Store.{Store, Write, ToBit, ToWord, list_at, bit_at, word_at, bit_replaced, written, same_bits, changes, touches, is_word_read, feeds_driver, values_in, brought}
use Rattle.vod_slot.specs.State.{State, flag_at}
use Rattle.vod_slot.specs.Step.{raised_if, put, put_all}
use Rattle.vod_slot.proofs.Replaced.{replaced-same, select-replaced, same_bit-equal, same_bits-equal}
use Rattle.vod_slot.proofs.Raised.{flag_at-raised, flag_at-raised_if, length-raised_if, passes_at-at, or_true}

-- the one fact on expressions
abbrev pub HangsOnReads : Type 0
HangsOnReads = (fill : Bit) (functions : List Function) (u v : Values) (frame : Frame) (e : SizedExpr) → All (Agree fill u v) (reads e) → eval fill functions u frame e ≡ eval fill functions v frame e

not-true : (b : Bool) → not b ≡ false → b ≡ true
not-true true h = refl
not-true false h = absurd (cc)

-- a write that changes nothing leaves everything as it was
pub written-same : (store : Store) (w : Write) → changes store w ≡ false → written store w ≡ store
written-same store (ToBit signal place bit) h =
    let is : bit_at store signal place ≡ bit = same_bit-equal (bit_at store signal place) bit (not-true (same_bit (bit_at store signal place) bit) h) in
    let old = value_at BX store.signals signal in
    ap (λ (xs : List (List Bit)). record store { signals = xs })
    (ap (λ b. set store.signals signal (bit_replaced place b old)) (sym is) ∙ ap (set store.signals signal) (replaced-same place old) ∙ set-get_or store.signals signal (BX ∷ []))
written-same store (ToWord memory place word) h =
    let is : word_at store memory place ≡ word = same_bits-equal (word_at store memory place) word (not-true (same_bits (word_at store memory place) word) h) in
    let words = list_at store.memories memory in
    ap (λ (xs : List (List (List Bit))). record store { memories = xs })
    (ap (λ b. set store.memories memory (set words place b)) (sym is) ∙ ap (set store.memories memory) (set-get_or words place []) ∙ set-get_or store.memories memory [])

-- the value at a place of a list, where it was written there or elsewhere
value_other : (signals : List (List Bit)) (n m : ℕ) (value : List Bit) → n ≢ m → value_at BX (set signals n value) m ≡ value_at BX signals m
value_other signals n m value apart = get_or-set_other signals n m value (BX ∷ []) (λ e. apart (sym e))

-- bits of a signal, with one of them replaced that isn't among them
select_written : (signals : List (List Bit)) (n low width place : ℕ) (bit : Bit) → (place < low) ⊎ (low + width ≤ place) → select_bits BX low width (value_at BX (set signals n (bit_replaced place bit (value_at BX signals n))) n) ≡ select_bits BX low width (value_at BX signals n)
select_written signals n low width place bit apart =
    let old = value_at BX signals n in
    ⊎_elim
    (λ lt. ap (select_bits BX low width) (get_or-set_same signals n (bit_replaced place bit old) (BX ∷ []) lt) ∙ select-replaced low width place bit old apart)
    (λ ge. ap (select_bits BX low width) (get_or_past (set signals n (bit_replaced place bit old)) n (BX ∷ []) (rw length-set ge) ∙ sym (get_or_past signals n (BX ∷ []) ge)))
    (cases_lt n (length signals))

eq_false : (m n : ℕ) → (m == n) ≡ false → m ≢ n
eq_false m n h e = let t : (m == n) ≡ true = eq-eqb m n e in cc

apart_from : (low place width : ℕ) → (nat_le low place && nat_lt place (low + width)) ≡ false → (place < low) ⊎ (low + width ≤ place)
apart_from low place width h =
    ⊎_elim
    (λ under. inl under)
    (λ over. ⊎_elim
    (λ lt. let t : nat_le low place ≡ true = le-leb low place over in let u : nat_lt place (low + width) ≡ true = lt-ltb place (low + width) lt in absurd (cc))
    (λ ge. inr ge)
    (cases_lt place (low + width)))
    (cases_lt place low)

bits_agree : (store : Store) (signal place : ℕ) (bit : Bit) (r : Read) → is_read (record { signal = signal; bit = place }) r ≡ false → Agree BX (values_in (written store (ToBit signal place bit))) (values_in store) r
bits_agree store signal place bit (Whole n) h =
    value_other store.signals signal n (bit_replaced place bit (value_at BX store.signals signal)) (eq_false signal n h)
bits_agree store signal place bit (Bits n low width) h =
    ⊎_elim
    (λ same. subst (λ m. select_bits BX low (bounded width) (value_at BX (set store.signals signal (bit_replaced place bit (value_at BX store.signals signal))) m) ≡ select_bits BX low (bounded width) (value_at BX store.signals m)) same
    (select_written store.signals signal low (bounded width) place bit
    (⊎_elim (λ no_. let t : (signal == n) ≡ true = eq-eqb signal n same in absurd (cc)) (λ outside. apart_from low place (bounded width) outside) (and_cases (signal == n) (nat_le low place && nat_lt place (low + bounded width)) h))))
    (λ apart. ap (select_bits BX low (bounded width)) (value_other store.signals signal n (bit_replaced place bit (value_at BX store.signals signal)) apart))
    (cases_eq signal n)
bits_agree store signal place bit (Word memory at) h = refl
bits_agree store signal place bit (Ram memory) h = λ at. refl

-- a word other than the one that was written
slice_get-set_other : {A : Type 0} (xs : List A) (n m : ℕ) (x : A) → n ≢ m → slice_get (set xs n x) m ≡ slice_get xs m
slice_get-set_other [] n m x apart = refl
slice_get-set_other (y ∷ xs) zero zero x apart = absurd (apart refl)
slice_get-set_other (y ∷ xs) zero (suc m) x apart = refl
slice_get-set_other (y ∷ xs) (suc n) zero x apart = refl
slice_get-set_other (y ∷ xs) (suc n) (suc m) x apart = slice_get-set_other xs n m x (λ e. apart (ap suc e))

word_kept : (memories : List (List (List Bit))) (memory place m p : ℕ) (word : List Bit) → (memory ≢ m) ⊎ (place ≢ p) →
    option_and_then (λ words. slice_get words p) (slice_get (set memories memory (set (list_at memories memory) place word)) m) ≡ option_and_then (λ words. slice_get words p) (slice_get memories m)
word_kept [] memory place m p word apart = refl
word_kept (words ∷ memories) zero place zero p word apart = ⊎_elim (λ no_. absurd (no_ refl)) (λ other. slice_get-set_other words place p word other) apart
word_kept (words ∷ memories) zero place (suc m) p word apart = refl
word_kept (words ∷ memories) (suc memory) place zero p word apart = refl
word_kept (words ∷ memories) (suc memory) place (suc m) p word apart = word_kept memories memory place m p word (⊎_elim (λ other. inl (λ e. other (ap suc e))) (λ other. inr other) apart)

words_agree : (store : Store) (memory place : ℕ) (word : List Bit) (r : Read) → is_word_read memory place r ≡ false → Agree BX (values_in (written store (ToWord memory place word))) (values_in store) r
words_agree store memory place word (Whole n) h = refl
words_agree store memory place word (Bits n low width) h = refl
words_agree store memory place word (Word m p) h =
    word_kept store.memories memory place m p word
    (⊎_elim (λ other. inl (λ e. eq_false m memory other (sym e))) (λ other. inr (λ e. eq_false p place other (sym e))) (and_cases (m == memory) (p == place) h))
words_agree store memory place word (Ram m) h = λ p. word_kept store.memories memory place m p word (inl (λ e. eq_false m memory h (sym e)))

-- what isn't touched reads the same
pub agrees : (store : Store) (w : Write) (r : Read) → touches w r ≡ false → Agree BX (values_in (written store w)) (values_in store) r
agrees store (ToBit signal place bit) r h = bits_agree store signal place bit r h
agrees store (ToWord memory place word) r h = words_agree store memory place word r h

or_none : (a b : Bool) → (a || b) ≡ false → (a ≡ false) × (b ≡ false)
or_none true b h = absurd (cc)
or_none false b h = (refl, h)

all_agree : (store : Store) (w : Write) (rs : List Read) → list_any (touches w) rs ≡ false → All (Agree BX (values_in (written store w)) (values_in store)) rs
all_agree store w [] h = λ i d l. absurd (omega arith)
all_agree store w (r ∷ rs) h =
    let p = or_none (touches w r) (list_any (touches w) rs) h in
    All-cons (Agree BX (values_in (written store w)) (values_in store)) r rs (agrees store w r p.0) (all_agree store w rs p.1)

-- a driver that can't read what is written brings what it brought
pub brought-other : HangsOnReads → (d : Netlist) (store : Store) (w : Write) (a : Driver) → feeds_driver w a ≡ false → brought d (written store w) a ≡ brought d store a
unfolding brought
brought-other hangs d store w a h =
    ap (resize_bits (length a.target) false) (hangs BX d.functions (values_in (written store w)) (values_in store) [] a.value (all_agree store w (reads a.value) h))

pub length-brought : (d : Netlist) (store : Store) (a : Driver) → length (brought d store a) ≡ length a.target
unfolding brought
length-brought d store a = resize_length (length a.target) false (eval BX d.functions (values_in store) [] a.value)

-- a write that changes something wakes those that can read it
woken : (happened : Bool) (d : Netlist) (w : Write) (flags : List Bool) (j : ℕ) (a : Driver) → happened ≡ true → slice_get d.drivers j ≡ Some a → j < length flags → feeds_driver w a ≡ true → flag_at (raised_if happened (feeds_driver w) d.drivers flags) j ≡ true
woken false d w flags j a is at h feeds_it = absurd (cc)
woken true d w flags j a is at h feeds_it =
    flag_at-raised (feeds_driver w) d.drivers flags j h ∙ ap (λ b. flag_at flags j || b) (passes_at-at (feeds_driver w) d.drivers j a at ∙ feeds_it) ∙ or_true (flag_at flags j)

pub put-woken : HangsOnReads → (d : Netlist) (w : Write) (st : State) (j : ℕ) (a : Driver) → slice_get d.drivers j ≡ Some a → j < length st.wake → (flag_at (put d w st).wake j ≡ true) ⊎ (brought d (put d w st).store a ≡ brought d st.store a)
put-woken hangs d w st j a at h =
    ⊎_elim
    (λ changed. ⊎_elim
    (λ feeds_it. inl (woken (changes st.store w) d w st.wake j a changed at h feeds_it))
    (λ not_fed. inr (brought-other hangs d st.store w a not_fed))
    (cases_Bool (feeds_driver w a)))
    (λ same. inr (ap (λ store. brought d store a) (written-same st.store w same)))
    (cases_Bool (changes st.store w))

-- a driver that awaits evaluation still does
pub put_all-awake : (d : Netlist) (writes : List Write) (st : State) (j : ℕ) → j < length st.wake → flag_at st.wake j ≡ true → flag_at (put_all d writes st).wake j ≡ true
put_all-awake d [] st j h is = is
put_all-awake d (w ∷ writes) st j h is =
    put_all-awake d writes (put d w st) j (rw (length-raised_if (changes st.store w) (feeds_driver w) d.drivers st.wake) h) (flag_at-raised_if (changes st.store w) (feeds_driver w) d.drivers st.wake j h is)

-- after several writes a driver is awake, or brings what it brought
pub put_all-woken : HangsOnReads → (d : Netlist) (writes : List Write) (st : State) (j : ℕ) (a : Driver) → slice_get d.drivers j ≡ Some a → j < length st.wake → (flag_at (put_all d writes st).wake j ≡ true) ⊎ (brought d (put_all d writes st).store a ≡ brought d st.store a)
put_all-woken hangs d [] st j a at h = inr refl
put_all-woken hangs d (w ∷ writes) st j a at h =
    let within : j < length (put d w st).wake = rw (length-raised_if (changes st.store w) (feeds_driver w) d.drivers st.wake) h in
    ⊎_elim
    (λ awake. inl (put_all-awake d writes (put d w st) j within awake))
    (λ same. ⊎_elim (λ awake. inl awake) (λ same_too. inr (same_too ∙ same)) (put_all-woken hangs d writes (put d w st) j a at within))
    (put-woken hangs d w st j a at h)
