-- Known values that are written: what was known stays so, and what is written is.
use Rattle.std.proofs.Common.{arith, ◌≡◌, ◌⊎◌, inl, inr, ◌<◌, ℕ, zero, suc, ◌+◌, List, [], ◌∷◌, ◌++◌, length, map, flat_map, set, get_or, refl, ap, sym, ◌∙◌, subst, ⊎_elim, All, Option, Some, None, slice_get, length-set, get_or-set_same, get_or-set_other}
use Rattle.std.specs.List.{Contains}
use Rattle.std.proofs.lemmas.Bool.{cases_eq}
use Rattle.std.proofs.lemmas.List.Elements.{All-head, All-tail, All-cons, All-append, Contains-append_cases}
use Rattle.std.proofs.lemmas.Option.{same_Some}
use Rattle.vod_bits.specs.Bit.{Bit}
use Rattle.vod_design.specs.declared.parts.Initial.{Initial}
use Rattle.vod_design.specs.declared.parts.InitialAssign.{InitialAssign}
use Rattle.vod_design.specs.declared.parts.InitialTarget.{InitialTarget}
use Rattle.vod_design.specs.declared.parts.InitialTarget.TheVariants as initial
use Rattle.vod_design.specs.declared.sized.Variable.TheVariants as variable
use Rattle.vod_design.specs.declared.statement.Place.{Place}
use Rattle.vod_design.specs.declared.statement.Target.{Target}
use Rattle.vod_design.specs.declared.statement.Target.TheVariants.{Bits, Word}
use Rattle.vod_design.specs.Flat.{InitialFits}
use Rattle.vod_design.specs.Netlist.{Netlist, signal_width}
use Rattle.vod_slot.specs.Store.{Store, Write, ToBit, ToWord, bit_at, word_at, written, list_at, bits_written}
use Rattle.vod_slot.specs.State.{Piece, Update}
use Rattle.vod_slot.specs.Step.{initial_written, target_written, update_written}
use Rattle.vod_slot.specs.Known.{AreKnown, IsKnown}
use Rattle.vod_slot.proofs.Lists.{all_none, all_one}
use Rattle.vod_slot.proofs.Puts.{IsThere, bit_at-missed, bit_at-written, sizes-written}
use Rattle.vod_slot.proofs.Targets.{all_flat}
use Rattle.vod_slot.proofs.Paths.{place_in}
use Rattle.vod_slot.proofs.Digits.{no_member}
use Rattle.vod_slot.proofs.Swaps.{stored, all_written}
use Rattle.vod_slot.proofs.Settling.{assign_written}
use Rattle.vod_slot.proofs.KnownBits.{known_head, known_tail}

abbrev pub KnownWrite : Write → Type 0
KnownWrite (ToBit n place bit) = IsKnown bit
KnownWrite (ToWord memory place word) = AreKnown word

abbrev place_at : ℕ → ℕ → Place
place_at signal bit = record { signal = signal; bit = bit }

-- that a write is of a bit, or of a word; and that one of several is

abbrev pub OfBit : ℕ → ℕ → Write → Type 0
OfBit n p (ToBit m q bit) = (m ≡ n) × (q ≡ p)
OfBit n p (ToWord memory place word) = ⊥

abbrev pub OfWord : ℕ → ℕ → Write → Type 0
OfWord n p (ToBit m q bit) = ⊥
OfWord n p (ToWord memory place word) = (memory ≡ n) × (place ≡ p)

abbrev pub Some_ : (Write → Type 0) → List Write → Type 0
Some_ P [] = ⊥
Some_ P (w ∷ writes) = P w ⊎ Some_ P writes

some_left : (P : Write → Type 0) (xs ys : List Write) → Some_ P xs → Some_ P (xs ++ ys)
some_left P [] ys h = absurd h
some_left P (x ∷ xs) ys h = ⊎_elim (λ l. inl l) (λ r. inr (some_left P xs ys r)) h

some_right : (P : Write → Type 0) (xs ys : List Write) → Some_ P ys → Some_ P (xs ++ ys)
some_right P [] ys h = h
some_right P (x ∷ xs) ys h = inr (some_right P xs ys h)

-- bits

one_bit : (store : Store) (w : Write) (n p : ℕ) → IsThere store (place_at n p) → KnownWrite w → IsKnown (bit_at store n p) ⊎ OfBit n p w → IsKnown (bit_at (written store w) n p)
one_bit store (ToBit m q bit) n p there known h =
    ⊎_elim
    (λ same. ⊎_elim
    (λ here.
    let w_is : ToBit m q bit ≡ ToBit n p bit = ap (λ k. ToBit k q bit) same ∙ ap (λ k. ToBit n k bit) here in
    subst IsKnown (sym (ap (λ w. bit_at (written store w) n p) w_is ∙ bit_at-written store (place_at n p) bit there)) known)
    (λ apart. subst IsKnown (sym (bit_at-missed store (ToBit m q bit) (place_at n p) (inr apart))) (⊎_elim (λ l. l) (λ r. absurd (apart r.1)) h))
    (cases_eq q p))
    (λ apart. subst IsKnown (sym (bit_at-missed store (ToBit m q bit) (place_at n p) (inl apart))) (⊎_elim (λ l. l) (λ r. absurd (apart r.0)) h))
    (cases_eq m n)
one_bit store (ToWord memory place word) n p there known h = ⊎_elim (λ l. l) (λ r. absurd r) h

pub bit_known : (writes : List Write) (store : Store) (n p : ℕ) → IsThere store (place_at n p) → All KnownWrite writes → IsKnown (bit_at store n p) ⊎ Some_ (OfBit n p) writes → IsKnown (bit_at (stored writes store) n p)
bit_known [] store n p there known h = ⊎_elim (λ l. l) (λ r. absurd r) h
bit_known (w ∷ writes) store n p there known h =
    let first = All-head KnownWrite w writes known in
    let rest = All-tail KnownWrite w writes known in
    let still : IsThere (written store w) (place_at n p) = subst (λ ns. p < get_or ns n 0) (sym (sizes-written store w)) there in
    ⊎_elim
    (λ l. bit_known writes (written store w) n p still rest (inl (one_bit store w n p there first (inl l))))
    (λ r. ⊎_elim
    (λ here. bit_known writes (written store w) n p still rest (inl (one_bit store w n p there first (inr here))))
    (λ later. bit_known writes (written store w) n p still rest (inr later))
    r)
    h

-- words

abbrev pub WordThere : Store → ℕ → ℕ → Type 0
WordThere store n p = (n < length store.memories) × (p < length (list_at store.memories n))

there_still : (store : Store) (w : Write) (n p : ℕ) → WordThere store n p → WordThere (written store w) n p
there_still store (ToBit m q bit) n p h = h
there_still store (ToWord m q word) n p h =
    let new = set (list_at store.memories m) q word in
    let len = length-set store.memories m new in
    let lt = h.0 in (
      omega arith,
      ⊎_elim
          (λ same.
          let at : list_at (set store.memories m new) n ≡ new = subst (λ k. list_at (set store.memories m new) k ≡ new) same (get_or-set_same store.memories m new [] (subst (λ k. k < length store.memories) (sym same) h.0)) in
          let size : length new ≡ length (list_at store.memories m) = length-set (list_at store.memories m) q word in
          let old : length (list_at store.memories m) ≡ length (list_at store.memories n) = ap (λ k. length (list_at store.memories k)) same in
          let l = ap length at in
          let in_ = h.1 in
          omega arith)
          (λ apart. let l = ap length (get_or-set_other store.memories m n new [] (λ e. apart (sym e))) in let in_ = h.1 in omega arith)
          (cases_eq m n),
    )

one_word : (store : Store) (w : Write) (n p : ℕ) → WordThere store n p → KnownWrite w → AreKnown (word_at store n p) ⊎ OfWord n p w → AreKnown (word_at (written store w) n p)
one_word store (ToBit m q bit) n p there known h = ⊎_elim (λ l. l) (λ r. absurd r) h
one_word store (ToWord m q word) n p there known h =
    let new = set (list_at store.memories m) q word in
    ⊎_elim
    (λ same.
    let at : list_at (set store.memories m new) n ≡ new = subst (λ k. list_at (set store.memories m new) k ≡ new) same (get_or-set_same store.memories m new [] (subst (λ k. k < length store.memories) (sym same) there.0)) in
    ⊎_elim
    (λ here.
    let inside : q < length (list_at store.memories m) = subst (λ k. q < length (list_at store.memories k)) (sym same) (subst (λ k. k < length (list_at store.memories n)) (sym here) there.1) in
    let is : list_at new p ≡ word = subst (λ k. list_at new k ≡ word) here (get_or-set_same (list_at store.memories m) q word [] inside) in
    subst AreKnown (sym (ap (λ ws. list_at ws p) at ∙ is)) known)
    (λ apart.
    let is : list_at new p ≡ list_at (list_at store.memories m) p = get_or-set_other (list_at store.memories m) q p word [] (λ e. apart (sym e)) in
    let old : list_at (list_at store.memories m) p ≡ word_at store n p = ap (λ k. list_at (list_at store.memories k) p) same in
    subst AreKnown (sym (ap (λ ws. list_at ws p) at ∙ is ∙ old)) (⊎_elim (λ l. l) (λ r. absurd (apart r.1)) h))
    (cases_eq q p))
    (λ apart. subst AreKnown (sym (ap (λ ws. list_at ws p) (get_or-set_other store.memories m n new [] (λ e. apart (sym e))))) (⊎_elim (λ l. l) (λ r. absurd (apart r.0)) h))
    (cases_eq m n)

pub word_known : (writes : List Write) (store : Store) (n p : ℕ) → WordThere store n p → All KnownWrite writes → AreKnown (word_at store n p) ⊎ Some_ (OfWord n p) writes → AreKnown (word_at (stored writes store) n p)
word_known [] store n p there known h = ⊎_elim (λ l. l) (λ r. absurd r) h
word_known (w ∷ writes) store n p there known h =
    let first = All-head KnownWrite w writes known in
    let rest = All-tail KnownWrite w writes known in
    let still = there_still store w n p there in
    ⊎_elim
    (λ l. word_known writes (written store w) n p still rest (inl (one_word store w n p there first (inl l))))
    (λ r. ⊎_elim
    (λ here. word_known writes (written store w) n p still rest (inl (one_word store w n p there first (inr here))))
    (λ later. word_known writes (written store w) n p still rest (inr later))
    r)
    h

-- what known values are written as

pub bits_known : (n low : ℕ) (bits : List Bit) → AreKnown bits → All KnownWrite (bits_written n low bits)
bits_known n low [] h = all_none KnownWrite
bits_known n low (b ∷ bits) h = All-cons KnownWrite (ToBit n (length bits + low) b) (bits_written n low bits) (known_head b bits h) (bits_known n low bits (known_tail b bits h))

initial_known : (t : InitialTarget) (value : List Bit) → AreKnown value → All KnownWrite (initial_written t value)
initial_known (initial.Register n) value h = bits_known n 0 value h
initial_known (initial.Word memory place) value h = all_one KnownWrite (ToWord memory place value) h

abbrev pub PieceKnown : Piece → Type 0
PieceKnown p = AreKnown p.value

abbrev pub UpdateKnown : Update → Type 0
UpdateKnown u = All PieceKnown u

target_known : (t : Option Target) (value : List Bit) → AreKnown value → All KnownWrite (target_written t value)
target_known None value h = all_none KnownWrite
target_known (Some (Bits (variable.Signal n) low)) value h = bits_known n low value h
target_known (Some (Bits (variable.Local n) low)) value h = all_none KnownWrite
target_known (Some (Word memory place)) value h = all_one KnownWrite (ToWord memory place value) h

pub updates_known : (lists : List (List Update)) → All (All UpdateKnown) lists → All KnownWrite (all_written update_written lists)
updates_known lists h =
    all_flat (All UpdateKnown) KnownWrite (λ us. flat_map update_written us) lists
    (λ us each. all_flat UpdateKnown KnownWrite update_written us (λ u known. all_flat PieceKnown KnownWrite (λ (p : Piece). target_written p.target p.value) u (λ p is. target_known p.target p.value is) known) each) h

-- what initial items write

abbrev assigns_of : Initial → List InitialAssign
assigns_of i = i.assigns

abbrev target : InitialAssign → InitialTarget
target a = a.target

pub initials_known : (initials : List Initial) → All (λ (i : Initial). All (λ (a : InitialAssign). AreKnown a.value) i.assigns) initials → All KnownWrite (all_written assign_written (map assigns_of initials))
initials_known [] h = all_none KnownWrite
initials_known (i ∷ initials) h =
    All-append KnownWrite (flat_map assign_written i.assigns) (all_written assign_written (map assigns_of initials))
    (all_flat (λ (a : InitialAssign). AreKnown a.value) KnownWrite assign_written i.assigns (λ a known. initial_known a.target a.value known) (All-head (λ (j : Initial). All (λ (a : InitialAssign). AreKnown a.value) j.assigns) i initials h))
    (initials_known initials (All-tail (λ (j : Initial). All (λ (a : InitialAssign). AreKnown a.value) j.assigns) i initials h))

some_bit : (n p : ℕ) (bits : List Bit) → p < length bits → Some_ (OfBit n p) (bits_written n 0 bits)
some_bit n p [] h = absurd (omega arith)
some_bit n p (b ∷ bits) h = ⊎_elim (λ same. inl (refl, omega arith)) (λ apart. inr (some_bit n p bits (omega arith))) (cases_eq p (length bits))

-- a target that some assignment has
assign_some : (P : Write → Type 0) (Q : InitialAssign → Type 0) (t : InitialTarget) (assigns : List InitialAssign) (k : ℕ) → ((a : InitialAssign) → a.target ≡ t → Q a → Some_ P (assign_written a)) → All Q assigns → slice_get (map target assigns) k ≡ Some t → Some_ P (flat_map assign_written assigns)
assign_some P Q t [] k f h at = absurd (cc)
assign_some P Q t (a ∷ assigns) zero f h at = some_left P (assign_written a) (flat_map assign_written assigns) (f a (same_Some a.target t at) (All-head Q a assigns h))
assign_some P Q t (a ∷ assigns) (suc k) f h at = some_right P (assign_written a) (flat_map assign_written assigns) (assign_some P Q t assigns k f (All-tail Q a assigns h) at)

initial_some : (P : Write → Type 0) (Q : InitialAssign → Type 0) (t : InitialTarget) (initials : List Initial) → ((a : InitialAssign) → a.target ≡ t → Q a → Some_ P (assign_written a)) → All (λ (i : Initial). All Q i.assigns) initials → Contains (flat_map (λ (i : Initial). map target i.assigns) initials) t → Some_ P (all_written assign_written (map assigns_of initials))
initial_some P Q t [] f h stands = absurd (no_member t stands)
initial_some P Q t (i ∷ initials) f h stands =
    ⊎_elim
    (λ here.
    let p = place_in (map target i.assigns) t here in
    some_left P (flat_map assign_written i.assigns) (all_written assign_written (map assigns_of initials)) (assign_some P Q t i.assigns p.0 f (All-head (λ (j : Initial). All Q j.assigns) i initials h) p.1))
    (λ later. some_right P (flat_map assign_written i.assigns) (all_written assign_written (map assigns_of initials)) (initial_some P Q t initials f (All-tail (λ (j : Initial). All Q j.assigns) i initials h) later))
    (Contains-append_cases (map target i.assigns) (flat_map (λ (j : Initial). map target j.assigns) initials) t stands)

abbrev Fits : Netlist → InitialAssign → Type 0
Fits d a = InitialFits d (length a.value) a.target

pub register_begun : (d : Netlist) (n p : ℕ) → All (λ (i : Initial). All (Fits d) i.assigns) d.initials → p < signal_width d n → Contains (flat_map (λ (i : Initial). map target i.assigns) d.initials) (initial.Register n) → Some_ (OfBit n p) (all_written assign_written (map assigns_of d.initials))
register_begun d n p fits inside stands =
    initial_some (OfBit n p) (Fits d) (initial.Register n) d.initials
    (λ a is fit.
    let size : InitialFits d (length a.value) (initial.Register n) = subst (InitialFits d (length a.value)) is fit in
    let w = size.1 in
    subst (λ t. Some_ (OfBit n p) (initial_written t a.value)) (sym is) (some_bit n p a.value (omega arith)))
    fits stands

pub word_begun : (d : Netlist) (m p : ℕ) → All (λ (i : Initial). All (Fits d) i.assigns) d.initials → Contains (flat_map (λ (i : Initial). map target i.assigns) d.initials) (initial.Word m p) → Some_ (OfWord m p) (all_written assign_written (map assigns_of d.initials))
word_begun d m p fits stands = initial_some (OfWord m p) (Fits d) (initial.Word m p) d.initials (λ a is fit. subst (λ t. Some_ (OfWord m p) (initial_written t a.value)) (sym is) (inl (refl, refl))) fits stands
