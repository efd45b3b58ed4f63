-- What drivers and blocks read of a store: where that is known, so are their values.
use Rattle.std.proofs.Common.{arith, ◌≡◌, ◌⊎◌, inl, inr, ◌<◌, ◌≤◌, ℕ, zero, suc, ◌+◌, ◌-◌, List, [], ◌∷◌, length, map, take, drop, get_or, refl, ap, sym, ◌∙◌, subst, ⊎_elim, All, Some, option_map, option_and_then, slice_get}
use Rattle.std.specs.List.{Contains}
use Rattle.std.proofs.lemmas.Bool.{cases_eq}
use Rattle.std.proofs.lemmas.List.{get_or-take, get_or-drop, length-take-le, length-drop}
use Rattle.std.proofs.lemmas.List.Elements.{All-head, All-tail, All-cons, All-contains_itself}
use Rattle.std.proofs.lemmas.Option.{slice_get_within, get_or_from_slice_get}
use Rattle.vod_bits.specs.Bit.{Bit, BX}
use Rattle.vod_design.specs.declared.parts.Ram.{Ram as Memory}
use Rattle.vod_design.specs.declared.parts.Signal.{Signal}
use Rattle.vod_design.specs.declared.read.Read.{Read}
use Rattle.vod_design.specs.declared.read.Read.TheVariants.{Whole, Bits, Word, Ram}
use Rattle.vod_design.specs.declared.sized.Named.{Named}
use Rattle.vod_design.specs.declared.sized.Named.TheVariants as named
use Rattle.vod_design.specs.declared.sized.SizedExpr.{SizedExpr}
use Rattle.vod_design.specs.declared.sized.Variable.TheVariants as variable
use Rattle.vod_design.specs.Accepted.{IsAccepted, IsQuiet, IndexInside}
use Rattle.vod_design.specs.Eval.{Calls}
use Rattle.vod_design.specs.Flat.{UseFits, ExprFits}
use Rattle.vod_design.specs.Functions.{use_called}
use Rattle.vod_design.specs.Netlist.{Netlist, or_0, width_in, signal_width, word_count, named_width}
use Rattle.vod_design.specs.Nets.{IsEdgeNet}
use Rattle.vod_design.specs.Reads.{whole, bits, reads}
use Rattle.vod_design.specs.Run.{call_below}
use Rattle.vod_design.specs.Uses.{Use, Whole as WholeUse, Bits as BitsUse, BitAt, Word as WordUse, WordAt, Called, Inputs, uses}
use Rattle.vod_design.specs.Values.{bounded, select_bits, value_at, named_bits}
use Rattle.vod_slot.specs.Store.{Store, bit_in, list_at, values_in}
use Rattle.vod_slot.specs.Step.{operand}
use Rattle.vod_slot.specs.Known.{AreKnown, HasKnown, HasKnownConstants, IsKnown, KnownWords}
use Rattle.vod_slot.proofs.Lists.{all_none}
use Rattle.vod_slot.proofs.Replaced.{index, in_within, selected_inside}
use Rattle.vod_slot.proofs.Unique.{value_size}
use Rattle.vod_slot.proofs.Edges.{none_there}
use Rattle.vod_slot.proofs.Calm.{bit_behind, bit_first}
use Rattle.vod_slot.proofs.Constants.{reads_follow}
use Rattle.vod_slot.proofs.Own.{reads_any}
use Rattle.vod_slot.proofs.KnownBits.{known_cons, select_known}
use Rattle.vod_slot.proofs.KnownExprs.{ReadKnown, NameKnown, UseOk, expr_known}
use Rattle.vod_slot.proofs.KnownUses.{UseGood, expr_good}
use Rattle.vod_slot.proofs.KnownCalls.{calls_known}

-- what is read is there

abbrev pub ReadThere : Netlist → Read → Type 0
ReadThere d (Whole n) = n < length d.signals
ReadThere d (Bits n low width) = (n < length d.signals) × (low + bounded width ≤ signal_width d n)
ReadThere d (Word memory place) = Unit {0}
ReadThere d (Ram memory) = Unit {0}

signal_within : (signals : List Signal) (n : ℕ) → 1 ≤ width_in signals n → n < length signals
signal_within [] n h = absurd (omega arith)
signal_within (s ∷ signals) zero h = omega arith
signal_within (s ∷ signals) (suc n) h = let l = signal_within signals n h in omega arith

names_there : (d : Netlist) (n : Named) → UseFits d [] (WholeUse n) → All (ReadThere d) (whole n)
names_there d (named.Variable (variable.Signal m)) h = All-cons (ReadThere d) (Whole m) [] (signal_within d.signals m h) (all_none (ReadThere d))
names_there d (named.Variable (variable.Local m)) h = all_none (ReadThere d)
names_there d (named.Constant b) h = all_none (ReadThere d)

bits_there : (d : Netlist) (n : Named) (low width : ℕ) → UseFits d [] (BitsUse n low width) → All (ReadThere d) (bits n low width)
bits_there d (named.Variable (variable.Signal m)) low width h =
    let some = h.0 in let inside = h.1 in
    All-cons (ReadThere d) (Bits m low width) [] (signal_within d.signals m (omega arith), omega arith) (all_none (ReadThere d))
bits_there d (named.Variable (variable.Local m)) low width h = all_none (ReadThere d)
bits_there d (named.Constant b) low width h = all_none (ReadThere d)

pub reads_there : (d : Netlist) (e : SizedExpr) → All (UseFits d []) (uses e) → All (ReadThere d) (reads e)
reads_there d e h = reads_follow (UseFits d []) (ReadThere d) (record { names = λ n fit. names_there d n fit; selections = λ n low width fit. bits_there d n low width fit; indices = λ n least i fit. names_there d n fit; words = λ memory place fit. tt; word_indices = λ memory least i fit. tt }) e h

-- memory words

count_at : (memories : List Memory) (m : ℕ) → or_0 (option_map (λ (r : Memory). r.words) (slice_get memories m)) ≡ get_or (map (λ (r : Memory). r.words) memories) m 0
count_at [] m = refl
count_at (r ∷ memories) zero = refl
count_at (r ∷ memories) (suc m) = count_at memories m

abbrev Memories : Type 0
Memories = List (List (List Bit))

found_word : (memories : Memories) (m p : ℕ) (w : List Bit) → option_and_then (λ words. slice_get words p) (slice_get memories m) ≡ Some w → (p < get_or (map length memories) m 0) × (list_at (list_at memories m) p ≡ w)
found_word [] m p w h = absurd (none_there w h)
found_word (words ∷ memories) zero p w h = (slice_get_within words p w h, get_or_from_slice_get words p w [] h)
found_word (words ∷ memories) (suc m) p w h = found_word memories m p w h

there_in : (words : List (List Bit)) (p : ℕ) → p < length words → (w : List Bit) × (slice_get words p ≡ Some w)
there_in [] p h = absurd (omega arith)
there_in (w ∷ words) zero h = (w, refl)
there_in (w ∷ words) (suc p) h = there_in words p (omega arith)

there_word : (memories : Memories) (m p : ℕ) → p < get_or (map length memories) m 0 → (w : List Bit) × (option_and_then (λ words. slice_get words p) (slice_get memories m) ≡ Some w)
there_word [] m p h = absurd (omega arith)
there_word (words ∷ memories) zero p h = there_in words p h
there_word (words ∷ memories) (suc m) p h = there_word memories m p h

count_is : (d : Netlist) (store : Store) (m : ℕ) → KnownWords d store → get_or (map length store.memories) m 0 ≡ word_count d m
count_is d store m k = ap (λ ns. get_or ns m 0) k.memory_sizes ∙ sym (count_at d.memories m)

any_word : (d : Netlist) (store : Store) (m p : ℕ) (w : List Bit) → KnownWords d store → option_and_then (λ words. slice_get words p) (slice_get store.memories m) ≡ Some w → AreKnown w
any_word d store m p w k is =
    let f = found_word store.memories m p w is in
    let count = count_is d store m k in
    let lt = f.0 in
    subst AreKnown f.1 (k.words m p (omega arith))

-- what is used is there

abbrev Fine : Netlist → Store → Calls → Use → Type 0
Fine d store calls u = UseOk calls (values_in store) [] u

name_size : (d : Netlist) (store : Store) (n : Named) → KnownWords d store → UseFits d [] (WholeUse n) → length (named_bits BX (values_in store) [] n) ≡ named_width d [] n
name_size d store (named.Variable (variable.Signal m)) k h = value_size store d m k.signal_sizes (signal_within d.signals m h)
name_size d store (named.Variable (variable.Local m)) k h = absurd (omega arith)
name_size d store (named.Constant b) k h = refl

name_there : (d : Netlist) (n : Named) → UseFits d [] (WholeUse n) → NameKnown [] n
name_there d (named.Variable (variable.Signal m)) h = tt
name_there d (named.Variable (variable.Local m)) h = absurd (omega arith)
name_there d (named.Constant b) h = tt

use_fine : (d : Netlist) (store : Store) (calls : Calls) (u : Use) → KnownWords d store → UseFits d [] u → UseGood d [] calls u → Fine d store calls u
use_fine d store calls (WholeUse n) k fits good = name_there d n fits
use_fine d store calls (BitsUse n low width) k fits good =
    let a = fits.0 in let b = fits.1 in
    let size = name_size d store n k (omega arith) in
    (name_there d n (omega arith), omega arith)
use_fine d store calls (BitAt n least i) k fits good = let inside = good.1 in let size = name_size d store n k fits in (name_there d n fits, (good.0, omega arith))
use_fine d store calls (WordUse memory place) k fits good = let count = count_is d store memory.number k in there_word store.memories memory.number place (omega arith)
use_fine d store calls (WordAt memory least i) k fits good =
    (good.0, λ place lt. (let count = count_is d store memory.number k in let most = good.1 in there_word store.memories memory.number place (omega arith)))
use_fine d store calls (Called n count) k fits good = good
use_fine d store calls (Inputs op count) k fits good = good

uses_fine : (d : Netlist) (store : Store) (calls : Calls) (us : List Use) → KnownWords d store → All (UseFits d []) us → All (UseGood d [] calls) us → All (Fine d store calls) us
uses_fine d store calls [] k fits good = all_none (Fine d store calls)
uses_fine d store calls (u ∷ us) k fits good =
    All-cons (Fine d store calls) u us (use_fine d store calls u k (All-head (UseFits d []) u us fits) (All-head (UseGood d [] calls) u us good)) (uses_fine d store calls us k (All-tail (UseFits d []) u us fits) (All-tail (UseGood d [] calls) u us good))

-- each function that is called is there
called_there : (d : Netlist) (us : List Use) → All (UseFits d []) us → All (λ u. All (λ m. m < length d.functions) (use_called u)) us
called_there d [] h = all_none (λ u. All (λ m. m < length d.functions) (use_called u))
called_there d (u ∷ us) h = All-cons (λ x. All (λ m. m < length d.functions) (use_called x)) u us (one u (All-head (UseFits d []) u us h)) (called_there d us (All-tail (UseFits d []) u us h))
  where
    one : (x : Use) → UseFits d [] x → All (λ m. m < length d.functions) (use_called x)
    one (WholeUse n) fits = all_none (λ m. m < length d.functions)
    one (BitsUse n low width) fits = all_none (λ m. m < length d.functions)
    one (BitAt n least i) fits = all_none (λ m. m < length d.functions)
    one (WordUse memory place) fits = all_none (λ m. m < length d.functions)
    one (WordAt memory least i) fits = all_none (λ m. m < length d.functions)
    one (Called n count) fits = All-cons (λ m. m < length d.functions) n [] (slice_get_within d.functions n fits.0 fits.1) (all_none (λ m. m < length d.functions))
    one (Inputs op count) fits = all_none (λ m. m < length d.functions)

-- where all that is read is known, the value is
pub value_known : (d : Netlist) (ranked : List ℕ) → IsAccepted d ranked → HasKnownConstants d → (store : Store) → KnownWords d store → (e : SizedExpr) → ExprFits d [] e → All (IndexInside d []) (uses e) → HasKnown e → All (ReadKnown (values_in store)) (reads e) → AreKnown (operand d store e).bits
value_known d ranked h constants store k e fits inside has known =
    let calls = call_below BX d.functions (length d.functions) in
    let good = expr_good d [] calls (length d.functions) e (calls_known d ranked h constants) (called_there d (uses e) fits.fits) fits inside has in
    expr_known calls (values_in store) [] e known (uses_fine d store calls (uses e) k fits.fits good.uses) good.values

-- values by their bits

pub by_bits : (v : List Bit) → ((p : ℕ) → p < length v → IsKnown (bit_in v p)) → AreKnown v
by_bits [] h = refl
by_bits (b ∷ bs) h = known_cons b bs (subst IsKnown (bit_first b bs) (h (length bs) (omega arith))) (by_bits bs (λ p lt. subst IsKnown (bit_behind b bs p lt) (h p (omega arith))))

pub by_some_bits : (v : List Bit) (low width : ℕ) → low + width ≤ length v → ((p : ℕ) → low ≤ p → p < low + width → IsKnown (bit_in v p)) → AreKnown (select_bits BX low width v)
by_some_bits v low width inside h =
    let m = length v - (low + width) in
    let xs = take width (drop m v) in
    let ld : length (drop m v) ≡ length v - m = length-drop m v in
    let lx : length xs ≡ width = length-take-le width (drop m v) (omega arith) in
    subst AreKnown (sym (selected_inside low width v inside))
    (by_bits xs
    (λ p lt.
    let i = index p xs in
    let at : get_or v (m + i) BX ≡ get_or v (index (low + p) v) BX = ap (λ k. get_or v k BX) (omega arith) in
    let same : bit_in xs p ≡ bit_in v (low + p) = in_within xs p lt ∙ get_or-take width (drop m v) i BX (omega arith) ∙ get_or-drop m v i BX ∙ at ∙ sym (in_within v (low + p) (omega arith)) in
    subst IsKnown (sym same) (h (low + p) (omega arith) (omega arith))))

-- all of a list, or something else
pub all_or : {A : Type 0} (P : A → Type 0) (Q : Type 0) (xs : List A) → All (λ x. P x ⊎ Q) xs → All P xs ⊎ Q
all_or P Q [] h = inl (all_none P)
all_or P Q (x ∷ xs) h = ⊎_elim (λ l. ⊎_elim (λ more. inl (All-cons P x xs l more)) (λ q. inr q) (all_or P Q xs (All-tail (λ y. P y ⊎ Q) x xs h))) (λ q. inr q) (All-head (λ y. P y ⊎ Q) x xs h)

pub each_or : (P : ℕ → Type 0) (Q : Type 0) (low n : ℕ) → ((p : ℕ) → low ≤ p → p < low + n → P p ⊎ Q) → ((p : ℕ) → low ≤ p → p < low + n → P p) ⊎ Q
each_or P Q low zero h = inl (λ p le lt. absurd (omega arith))
each_or P Q low (suc n) h =
    ⊎_elim
    (λ rest. ⊎_elim
    (λ last. inl (λ p le lt. ⊎_elim (λ same. subst P (sym same) last) (λ apart. rest p le (omega arith)) (cases_eq p (low + n))))
    (λ q. inr q)
    (h (low + n) (omega arith) (omega arith)))
    (λ q. inr q)
    (each_or P Q low n (λ p le lt. h p le (omega arith)))

-- what a block reads: no edge net, and all else is known
abbrev pub KnownBut : Netlist → Store → Type 0
KnownBut d store = (n : ℕ) → n < length d.signals → AreKnown (value_at BX store.signals n) ⊎ IsEdgeNet d n

quiet_read : (d : Netlist) (store : Store) (e : SizedExpr) (r : Read) → KnownWords d store → KnownBut d store → IsQuiet d e → Contains (reads e) r → ReadThere d r → ReadKnown (values_in store) r
quiet_read d store e (Whole n) k known quiet stands there = ⊎_elim (λ l. l) (λ net. absurd (quiet n net (reads_any n (reads e) (Whole n) stands refl))) (known n there)
quiet_read d store e (Bits n low width) k known quiet stands there =
    ⊎_elim
    (λ l. let size = value_size store d n k.signal_sizes there.0 in let inside = there.1 in select_known low (bounded width) (value_at BX store.signals n) (omega arith) l)
    (λ net. absurd (quiet n net (reads_any n (reads e) (Bits n low width) stands refl)))
    (known n there.0)
quiet_read d store e (Word memory place) k known quiet stands there = λ w is. any_word d store memory place w k is
quiet_read d store e (Ram memory) k known quiet stands there = λ place w is. any_word d store memory place w k is

pub quiet_known : (d : Netlist) (ranked : List ℕ) → IsAccepted d ranked → HasKnownConstants d → (store : Store) → KnownWords d store → KnownBut d store → (e : SizedExpr) → IsQuiet d e → ExprFits d [] e → All (IndexInside d []) (uses e) → HasKnown e → AreKnown (operand d store e).bits
quiet_known d ranked h constants store k known e quiet fits inside has =
    let there = reads_there d e fits.fits in
    let itself = All-contains_itself (reads e) in
    value_known d ranked h constants store k e fits inside has (λ i r l. quiet_read d store e (get_or (reads e) i r) k known quiet (itself i r l) (there i r l))

pub word_any : (d : Netlist) (store : Store) (memory place : ℕ) → KnownWords d store → ReadKnown (values_in store) (Word memory place)
word_any d store memory place k = λ w is. any_word d store memory place w k is

pub ram_any : (d : Netlist) (store : Store) (memory : ℕ) → KnownWords d store → ReadKnown (values_in store) (Ram memory)
ram_any d store memory k = λ place w is. any_word d store memory place w k is
