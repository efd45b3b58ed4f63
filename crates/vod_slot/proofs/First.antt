-- Slot 0: no block starts, and every order of its events ends in one state.
use Rattle.std.proofs.Common.{◌≡◌, ◌≢◌, ◌⊎◌, inl, inr, ℕ, zero, suc, false, List, [], ◌∷◌, ◌++◌, length, map, flat_map, replicate, get_or, refl, ap, sym, ◌∙◌, subst, ⊎_elim, All, Option, Some, None, slice_get}
use Rattle.std.specs.List.{Contains}
use Rattle.std.proofs.lemmas.Bool.{cases_eq}
use Rattle.std.proofs.lemmas.List.Elements.{All-head, All-tail, All-cons, All-append, All-weaker, All-replicate}
use Rattle.vod_bits.specs.Bit.{Bit, BX, BZ}
use Rattle.vod_design.specs.declared.parts.Initial.{Initial}
use Rattle.vod_design.specs.declared.parts.InitialAssign.{InitialAssign}
use Rattle.vod_design.specs.declared.parts.InitialTarget.{InitialTarget}
use Rattle.vod_design.specs.declared.parts.InitialTarget.TheVariants as initial
use Rattle.vod_design.specs.declared.parts.Input.{Input}
use Rattle.vod_design.specs.declared.statement.Statement.{Statement}
use Rattle.vod_design.specs.Accepted.{IsAccepted}
use Rattle.vod_design.specs.Netlist.{Netlist, signal_width}
use Rattle.vod_design.specs.Values.{value_at}
use Rattle.vod_slot.specs.Store.{Write, ToBit, ToWord, list_at, bits_written}
use Rattle.vod_slot.specs.State.{State, Update, option_at, start_of, IsResting}
use Rattle.vod_slot.specs.Step.{initial_written, update_written}
use Rattle.vod_slot.specs.Run.{Completes}
use Rattle.vod_slot.proofs.Lists.{all_none, all_one, default_at, across_of}
use Rattle.vod_slot.proofs.Writes.{HangsOnReads}
use Rattle.vod_slot.proofs.Ends.{IsConsistent-start_of, slot_end}
use Rattle.vod_slot.proofs.Unique.{value_size, same_at_rest}
use Rattle.vod_slot.proofs.Edges.{none_there}
use Rattle.vod_slot.proofs.Openings.{AreEdgesKept-start_of}
use Rattle.vod_slot.proofs.Paths.{place_in}
use Rattle.vod_slot.proofs.Calm.{bits_of}
use Rattle.vod_slot.proofs.Data.{IsGiven, net_within, input_net, unmapped}
use Rattle.vod_slot.proofs.Inputs.{given_end}
use Rattle.vod_slot.proofs.Starts.{first_starts_none}
use Rattle.vod_slot.proofs.Swaps.{Apart, AreApart, ListsApart, stored, same-same}
use Rattle.vod_slot.proofs.Settling.{assign_written, left, IsSettling, settling_end, settled_registers}

-- each register and word has one initial assignment at most

both : (xs ys zs : List Write) → AreApart xs ys → AreApart xs zs → AreApart xs (ys ++ zs)
both xs ys zs h k = λ i w l. All-append (λ y. Apart (get_or xs i w) y) ys zs (h i w l) (k i w l)

pub apart_flat : {A : Type 0} (f : A → List Write) (xs : List Write) (ys : List A) → All (λ y. AreApart xs (f y)) ys → AreApart xs (flat_map f ys)
apart_flat f xs [] h = λ i w l. all_none (λ y. Apart (get_or xs i w) y)
apart_flat f xs (y ∷ ys) h = both xs (f y) (flat_map f ys) (All-head (λ z. AreApart xs (f z)) y ys h) (apart_flat f xs ys (All-tail (λ z. AreApart xs (f z)) y ys h))

pub flat_apart : {A : Type 0} (f : A → List Write) (xs : List A) (ys : List Write) → All (λ x. AreApart (f x) ys) xs → AreApart (flat_map f xs) ys
flat_apart f [] ys h = all_none (λ x. All (λ y. Apart x y) ys)
flat_apart f (x ∷ xs) ys h = All-append (λ w. All (λ y. Apart w y) ys) (f x) (flat_map f xs) (All-head (λ z. AreApart (f z) ys) x xs h) (flat_apart f xs ys (All-tail (λ z. AreApart (f z) ys) x xs h))

other_bits : (n m : ℕ) (xs ys : List Bit) → n ≢ m → AreApart (bits_written n 0 xs) (bits_written m 0 ys)
other_bits n m xs ys apart = bits_of (λ x. All (λ y. Apart x y) (bits_written m 0 ys)) n 0 xs (λ p b. bits_of (λ y. Apart (ToBit n p b) y) m 0 ys (λ q c. apart))

word_bits : (memory place n : ℕ) (word bits : List Bit) → AreApart (ToWord memory place word ∷ []) (bits_written n 0 bits)
word_bits memory place n word bits = all_one (λ x. All (λ y. Apart x y) (bits_written n 0 bits)) (ToWord memory place word) (bits_of (λ y. Apart (ToWord memory place word) y) n 0 bits (λ q c. tt))

bits_word : (memory place n : ℕ) (word bits : List Bit) → AreApart (bits_written n 0 bits) (ToWord memory place word ∷ [])
bits_word memory place n word bits = bits_of (λ x. All (λ y. Apart x y) (ToWord memory place word ∷ [])) n 0 bits (λ p b. all_one (λ y. Apart (ToBit n p b) y) (ToWord memory place word) tt)

targets_apart : (t u : InitialTarget) (xs ys : List Bit) → t ≢ u → AreApart (initial_written t xs) (initial_written u ys)
targets_apart (initial.Register n) (initial.Register m) xs ys apart = other_bits n m xs ys (λ e. apart (ap initial.Register e))
targets_apart (initial.Register n) (initial.Word memory place) xs ys apart = bits_word memory place n ys xs
targets_apart (initial.Word memory place) (initial.Register n) xs ys apart = word_bits memory place n xs ys
targets_apart (initial.Word n p) (initial.Word m q) xs ys apart =
    all_one (λ x. All (λ y. Apart x y) (ToWord m q ys ∷ [])) (ToWord n p xs)
    (all_one (λ y. Apart (ToWord n p xs) y) (ToWord m q ys) (⊎_elim (λ e. inr (λ f. apart (ap (λ k. initial.Word k p) e ∙ ap (initial.Word m) f))) (λ other. inl other) (cases_eq n m)))

all_mapped : {A B : Type 0} (P : B → Type 0) (f : A → B) (xs : List A) → All P (map f xs) → All (λ x. P (f x)) xs
all_mapped P f [] h = all_none (λ x. P (f x))
all_mapped P f (x ∷ xs) h = All-cons (λ y. P (f y)) x xs (All-head P (f x) (map f xs) h) (all_mapped P f xs (All-tail P (f x) (map f xs) h))

abbrev target : InitialAssign → InitialTarget
target a = a.target

assigns_apart : (xs ys : List InitialAssign) → All (λ t. All (λ u. t ≢ u) (map target ys)) (map target xs) → AreApart (flat_map assign_written xs) (flat_map assign_written ys)
assigns_apart xs ys h =
    flat_apart assign_written xs (flat_map assign_written ys)
    (All-weaker (λ x. All (λ u. target x ≢ u) (map target ys)) (λ x. AreApart (assign_written x) (flat_map assign_written ys))
    (λ x each. apart_flat assign_written (assign_written x) ys
    (All-weaker (λ y. target x ≢ target y) (λ y. AreApart (assign_written x) (assign_written y)) (λ y apart. targets_apart x.target y.target x.value y.value apart) ys (all_mapped (λ u. target x ≢ u) target ys each)))
    xs (all_mapped (λ t. All (λ u. t ≢ u) (map target ys)) target xs h))

abbrev assigns_of : Initial → List InitialAssign
assigns_of i = i.assigns

initial_list : (initials : List Initial) (k : ℕ) → ((i : Initial) × (slice_get initials k ≡ Some i) × (list_at (map assigns_of initials) k ≡ i.assigns)) ⊎ (list_at (map assigns_of initials) k ≡ [])
initial_list [] k = inr refl
initial_list (i ∷ initials) zero = inl (i, refl, refl)
initial_list (i ∷ initials) (suc k) = initial_list initials k

nothing_apart : (xs : List Write) → AreApart xs []
nothing_apart xs = λ i w l. all_none (λ y. Apart (get_or xs i w) y)

initials_apart : (d : Netlist) (ranked : List ℕ) → IsAccepted d ranked → ListsApart assign_written (start_of d).init
initials_apart d ranked h j k lt =
    let lists = map assigns_of d.initials in
    ⊎_elim
    (λ p. ⊎_elim
    (λ q. subst (λ xs. AreApart (flat_map assign_written xs) (flat_map assign_written (list_at lists k))) (sym p.2)
    (subst (λ ys. AreApart (flat_map assign_written p.0.assigns) (flat_map assign_written ys)) (sym q.2)
    (assigns_apart p.0.assigns q.0.assigns (across_of (λ t u. t ≢ u) (λ (i : Initial). map target i.assigns) d.initials j k p.0 q.0 h.begun.once p.1 q.1 lt))))
    (λ past. subst (λ ys. AreApart (flat_map assign_written (list_at lists j)) (flat_map assign_written ys)) (sym past) (nothing_apart (flat_map assign_written (list_at lists j))))
    (initial_list d.initials k))
    (λ past. subst (λ xs. AreApart (flat_map assign_written xs) (flat_map assign_written (list_at lists k))) (sym past) (all_none (λ x. All (λ y. Apart x y) (flat_map assign_written (list_at lists k)))))
    (initial_list d.initials j)

abbrev no_updates : List Update
no_updates = []

abbrev no_statements : List Statement
no_statements = []

abbrev no_move : Option (List Bit)
no_move = None

nothing_now : (n k : ℕ) → list_at (replicate n no_updates) k ≡ []
nothing_now zero k = refl
nothing_now (suc n) zero = refl
nothing_now (suc n) (suc k) = nothing_now n k

pub start_settling : (d : Netlist) (ranked : List ℕ) → IsAccepted d ranked → IsSettling d (λ n. BX) (λ n. BZ) (stored (left (start_of d)) (start_of d).store) (start_of d)
start_settling d ranked h = record {
  moves = All-replicate (λ move. move ≡ None) (length d.inputs) no_move refl;
  todo = All-replicate (λ statements. statements ≡ []) (length d.blocks) no_statements refl;
  later = All-replicate (λ updates. updates ≡ []) (length d.blocks) no_updates refl;
  either = inr (All-replicate (λ updates. updates ≡ []) (length d.blocks) no_updates refl);
  edges = AreEdgesKept-start_of d ranked h;
  init_apart = initials_apart d ranked h;
  now_apart = λ j k lt. subst (λ xs. AreApart (flat_map update_written xs) (flat_map update_written (list_at (start_of d).now k))) (sym (nothing_now (length d.blocks) j)) (all_none (λ x. All (λ y. Apart x y) (flat_map update_written (list_at (start_of d).now k))));
  comes = same-same d (stored (left (start_of d)) (start_of d).store) (stored (left (start_of d)) (start_of d).store) refl;
}

-- an input keeps z
nothing_moves : (n i : ℕ) → option_at (replicate n no_move) i ≡ None
nothing_moves zero i = refl
nothing_moves (suc n) zero = refl
nothing_moves (suc n) (suc i) = nothing_moves n i

pub last_given : (st : State) → IsResting st → (i : ℕ) (x : Input) (v : List Bit) → IsGiven i x v st → value_at BX st.store.signals x.signal ≡ v
last_given st rests i x v given = ⊎_elim (λ l. absurd (none_there v (sym (default_at None st.moves rests.moves i) ∙ l))) (λ r. r.1) given

pub input_of : (d : Netlist) (n : ℕ) → Contains (map (λ (y : Input). y.signal) d.inputs) n → (i : ℕ) × (x : Input) × (slice_get d.inputs i ≡ Some x) × (x.signal ≡ n)
input_of d n stands = let p = place_in (map (λ (y : Input). y.signal) d.inputs) n stands in unmapped d.inputs p.0 n p.1

pub first_input : HangsOnReads → (d : Netlist) (ranked : List ℕ) → IsAccepted d ranked → (t : State) → Completes d (start_of d) t → (i : ℕ) (x : Input) → slice_get d.inputs i ≡ Some x → value_at BX t.store.signals x.signal ≡ value_at BX (start_of d).store.signals x.signal
first_input hangs d ranked h t c i x at =
    let start = IsConsistent-start_of d ranked h in
    let v = value_at BX (start_of d).store.signals x.signal in
    let size : length v ≡ signal_width d x.signal = value_size (start_of d).store d x.signal start.shaped.sizes (net_within d.signals x.signal false (input_net d ranked h i x at)) in
    last_given t c.ends i x v (given_end hangs d ranked h i x v (start_of d) t c.events at size start c.steps (inr (nothing_moves (length d.inputs) i, refl)))

-- every order ends in one state
pub first_slot : HangsOnReads → (d : Netlist) (ranked : List ℕ) (t u : State) → IsAccepted d ranked → Completes d (start_of d) t → Completes d (start_of d) u → t ≡ u
first_slot hangs d ranked t u h to_t to_u =
    let start = IsConsistent-start_of d ranked h in
    let first = start_settling d ranked h in
    let none = first_starts_none d in
    let end = stored (left (start_of d)) (start_of d).store in
    let a = settled_registers d (λ n. BX) (λ n. BZ) end t to_t.ends (settling_end hangs d ranked h (λ n. BX) (λ n. BZ) end (start_of d) t to_t.events none start to_t.steps first) in
    let b = settled_registers d (λ n. BX) (λ n. BZ) end u to_u.ends (settling_end hangs d ranked h (λ n. BX) (λ n. BZ) end (start_of d) u to_u.events none start to_u.steps first) in
    same_at_rest hangs d ranked t u h (slot_end hangs d ranked (start_of d) t h start to_t).0 (slot_end hangs d ranked (start_of d) u h start to_u).0 to_t.ends to_u.ends
    (record {
      registers = λ n register. a.registers n register ∙ sym (b.registers n register);
      inputs = λ n input.
          let p = input_of d n input in
          let v = first_input hangs d ranked h t to_t p.0 p.1 p.2 in
          let w = first_input hangs d ranked h u to_u p.0 p.1 p.2 in
          subst (λ m. value_at BX t.store.signals m ≡ value_at BX u.store.signals m) p.3 (v ∙ sym w);
      memories = a.memories ∙ sym b.memories;
    })
