-- Lawful vectors: each changes inputs of one class, so that all legal runs of them have the same ends.
use Rattle.std.proofs.Common.{◌≡◌, ◌≢◌, ◌⊎◌, inl, inr, ℕ, zero, suc, ◌+◌, ◌==◌, ◌||◌, Bool, true, false, if◌then◌else◌, List, [], ◌∷◌, ◌++◌, length, map, replicate, arith, refl, ap, sym, ◌∙◌, subst, ⊎_elim, All, Option, Some, None, option_map, unwrap_or, slice_get, append_assoc, eq-eqb}
use Rattle.std.specs.List.{enumerate_from}
use Rattle.std.proofs.lemmas.Bool.{cases_Bool, eqb-true, or_left}
use Rattle.std.proofs.lemmas.List.Elements.{All-head, All-tail, All-weaker}
use Rattle.std.proofs.lemmas.Option.{same_Some}
use Rattle.vod_bits.specs.Bit.{Bit, BX, BZ}
use Rattle.vod_design.specs.declared.parts.Input.{Input}
use Rattle.vod_design.specs.declared.parts.Signal.{Signal}
use Rattle.vod_design.specs.declared.vector.Class.{Class}
use Rattle.vod_design.specs.declared.vector.Class.TheVariants.{Clock, Reset, Data}
use Rattle.vod_design.specs.declared.vector.Move.{Move}
use Rattle.vod_design.specs.declared.vector.Vector.{Vector}
use Rattle.vod_design.specs.Accepted.{IsAccepted}
use Rattle.vod_design.specs.Lawful.{Port, width_at, class_at, assigned, latest, given, IsMove, IsUnmixed, IsInForm, IsLawful}
use Rattle.vod_design.specs.Netlist.{Netlist, or_0, width_in, signal_width, port, ports}
use Rattle.vod_design.specs.Values.{value_at}
use Rattle.vod_slot.specs.Store.{same_bits}
use Rattle.vod_slot.specs.State.{State, is_input, first_value, start_of, opened}
use Rattle.vod_slot.specs.Run.{Completes, IsSlot, AreSlots, IsRun}
use Rattle.vod_slot.specs.Settled.{IsConsistent}
use Rattle.vod_slot.specs.Edges.{DoMovesFit}
use Rattle.vod_slot.specs.Classes.{ChangesClass, HaveGiven}
use Rattle.vod_slot.proofs.Lists.{all_back}
use Rattle.vod_slot.proofs.Writes.{HangsOnReads}
use Rattle.vod_slot.proofs.Replaced.{same_bits-equal, same_bits-itself}
use Rattle.vod_slot.proofs.Ends.{IsConsistent-start_of, IsConsistent-opened, slot_end}
use Rattle.vod_slot.proofs.Edges.{none_there}
use Rattle.vod_slot.proofs.Data.{input_net}
use Rattle.vod_slot.proofs.Inputs.{input_end}
use Rattle.vod_slot.proofs.First.{first_input, first_slot}
use Rattle.vod_slot.proofs.Slots.{class_slot}

-- the start: z

abbrev z_if : Bool → Bit
z_if b = if b then BZ else BX

first_whole : (inputs : List Input) (m : ℕ) (signals : List Signal) (n : ℕ) (b : Bool) → option_map (λ (s : Signal). s.register) (slice_get signals n) ≡ Some b → value_at BX (map (λ e. first_value inputs e.0 e.1) (enumerate_from m signals)) n ≡ replicate (width_in signals n) (z_if (is_input inputs (m + n)))
first_whole inputs m [] n b h = absurd (none_there b h)
first_whole inputs m (s ∷ signals) zero b h = let same : m + 0 ≡ m = omega arith in ap (λ k. replicate s.width (z_if (is_input inputs k))) (sym same)
first_whole inputs m (s ∷ signals) (suc n) b h =
    let same : m + 1 + n ≡ m + suc n = omega arith in
    first_whole inputs (m + 1) signals n b h ∙ ap (λ k. replicate (width_in signals n) (z_if (is_input inputs k))) same

is_one : (inputs : List Input) (i : ℕ) (x : Input) → slice_get inputs i ≡ Some x → is_input inputs x.signal ≡ true
is_one [] i x at = absurd (none_there x at)
is_one (y ∷ inputs) zero x at = or_left (y.signal == x.signal) (is_input inputs x.signal) (eq-eqb y.signal x.signal (ap (λ (z : Input). z.signal) (same_Some y x at)))
is_one (y ∷ inputs) (suc i) x at = later (y.signal == x.signal) (is_one inputs i x at)
  where
    later : (b : Bool) → is_input inputs x.signal ≡ true → (b || is_input inputs x.signal) ≡ true
    later true h = refl
    later false h = h

pub first_given : HangsOnReads → (d : Netlist) (ranked : List ℕ) (t : State) → IsAccepted d ranked → Completes d (start_of d) t → HaveGiven d [] t
first_given hangs d ranked t h c i x at =
    let same : 0 + x.signal ≡ x.signal = omega arith in
    first_input hangs d ranked h t c i x at
    ∙ first_whole d.inputs 0 d.signals x.signal false (input_net d ranked h i x at)
    ∙ ap (λ k. replicate (signal_width d x.signal) (z_if (is_input d.inputs k))) same
    ∙ ap (λ b. replicate (signal_width d x.signal) (z_if b)) (is_one d.inputs i x at)

-- what is given after one vector more

latest_then : (a g w : Option (List Bit)) → latest (latest a g) w ≡ latest a (latest g w)
latest_then None g w = refl
latest_then (Some a) g w = refl

given_more : (before : List Vector) (v : Vector) (i : ℕ) → given (before ++ v ∷ []) i ≡ latest (assigned v.moves i) (given before i)
given_more [] v i = none_before (assigned v.moves i)
  where
    none_before : (a : Option (List Bit)) → latest None a ≡ latest a None
    none_before None = refl
    none_before (Some b) = refl
given_more (w ∷ before) v i = ap (λ g. latest g (assigned w.moves i)) (given_more before v i) ∙ latest_then (assigned v.moves i) (given before i) (assigned w.moves i)

latest_or : (a g : Option (List Bit)) (z : List Bit) → unwrap_or a (unwrap_or g z) ≡ unwrap_or (latest a g) z
latest_or None g z = refl
latest_or (Some a) g z = refl

-- what a vector in form gives

found_move : (P : Move → Type 0) (moves : List Move) (i : ℕ) (v : List Bit) → All P moves → assigned moves i ≡ Some v → (m : Move) × (m.input ≡ i) × (m.value ≡ v) × P m
found_move P [] i v h is = absurd (none_there v is)
found_move P (m ∷ moves) i v h is = by_test (m.input == i) refl (λ e. found_move P moves i v (All-tail P m moves h) e)
  where
    by_test : (b : Bool) → (m.input == i) ≡ b → (assigned moves i ≡ Some v → (n : Move) × (n.input ≡ i) × (n.value ≡ v) × P n) → (n : Move) × (n.input ≡ i) × (n.value ≡ v) × P n
    by_test true same later =
        let e : Some m.value ≡ Some v = sym (ap (λ (b : Bool). if b then Some m.value else assigned moves i) same) ∙ is in
        (m, eqb-true m.input i same, same_Some m.value v e, All-head P m moves h)
    by_test false other later = later (sym (ap (λ (b : Bool). if b then Some m.value else assigned moves i) other) ∙ is)

port_at : (d : Netlist) (i : ℕ) (x : Input) → slice_get d.inputs i ≡ Some x → slice_get (ports d) i ≡ Some (port (slice_get d.signals x.signal) x.class)
port_at d i x at = mapped d.inputs i at
  where
    mapped : (inputs : List Input) (i : ℕ) → slice_get inputs i ≡ Some x → slice_get (map (λ (y : Input). port (slice_get d.signals y.signal) y.class) inputs) i ≡ Some (port (slice_get d.signals x.signal) x.class)
    mapped [] i at = absurd (none_there x at)
    mapped (y ∷ inputs) zero at = ap (λ (z : Input). Some (port (slice_get d.signals z.signal) z.class)) (same_Some y x at)
    mapped (y ∷ inputs) (suc i) at = mapped inputs i at

port_class : (o : Option Signal) (c : Class) → (port o c).class ≡ c
port_class None c = refl
port_class (Some s) c = refl

port_width : (d : Netlist) (n : ℕ) (c : Class) → (port (slice_get d.signals n) c).width ≡ signal_width d n
port_width d n c = of (slice_get d.signals n)
  where
    of : (o : Option Signal) → (port o c).width ≡ or_0 (option_map (λ (s : Signal). s.width) o)
    of None = refl
    of (Some s) = refl

class_is : (d : Netlist) (i : ℕ) (x : Input) (class : Class) → slice_get d.inputs i ≡ Some x → class_at (ports d) i ≡ Some class → x.class ≡ class
class_is d i x class at is =
    let p = port (slice_get d.signals x.signal) x.class in
    let e : Some p.class ≡ Some class = sym (ap (option_map (λ (q : Port). q.class)) (port_at d i x at)) ∙ is in
    sym (port_class (slice_get d.signals x.signal) x.class) ∙ same_Some p.class class e

pub moves_fit : (d : Netlist) (v : Vector) → IsInForm (ports d) v → DoMovesFit d v.moves
moves_fit d v form i x value at is =
    let f = found_move (λ m. width_at (ports d) m.input ≡ Some (length m.value)) v.moves i value form.fits is in
    let p = port (slice_get d.signals x.signal) x.class in
    let e : Some p.width ≡ Some (length f.0.value) = sym (ap (option_map (λ (q : Port). q.width)) (port_at d i x at)) ∙ sym (ap (width_at (ports d)) f.1) ∙ f.3 in
    sym (sym (port_width d x.signal x.class) ∙ same_Some p.width (length f.0.value) e ∙ ap length f.2)

pub next_given : HangsOnReads → (d : Netlist) (ranked : List ℕ) (before : List Vector) (v : Vector) (s t : State) → IsAccepted d ranked → IsConsistent d s → IsInForm (ports d) v → HaveGiven d before s → IsSlot d s v.moves t → HaveGiven d (before ++ v ∷ []) t
next_given hangs d ranked before v s t h c form has slot i x at =
    let z = replicate (signal_width d x.signal) BZ in
    input_end hangs d ranked s t v.moves i x h c (moves_fit d v form) slot at
    ∙ ap (unwrap_or (assigned v.moves i)) (has i x at)
    ∙ latest_or (assigned v.moves i) (given before i) z
    ∙ ap (λ o. unwrap_or o z) (sym (given_more before v i))

-- a lawful vector changes inputs of one class

is_given : (o : Option (List Bit)) (v : List Bit) → (o ≡ Some v) ⊎ (o ≢ Some v)
is_given None v = inr (λ e. none_there v e)
is_given (Some b) v =
    ⊎_elim
    (λ same. inl (ap Some (same_bits-equal b v same)))
    (λ other. inr (λ e. (let clash : true ≡ false = sym (same_bits-itself v) ∙ ap (λ x. same_bits x v) (sym (same_Some b v e)) ∙ other in cc)))
    (cases_Bool (same_bits b v))

moves_change : (d : Netlist) (before : List Vector) (v : Vector) (s : State) (class : Class) → HaveGiven d before s → All (λ m. IsMove before m → class_at (ports d) m.input ≡ Some class) v.moves → ChangesClass d s v.moves class
moves_change d before v s class has each i x value at is =
    let f = found_move (λ m. IsMove before m → class_at (ports d) m.input ≡ Some class) v.moves i value each is in
    ⊎_elim
    (λ same. inr (has i x at ∙ ap (λ o. unwrap_or o (replicate (signal_width d x.signal) BZ)) (ap (given before) (sym f.1) ∙ same ∙ ap Some f.2)))
    (λ apart. inl (class_is d i x class at (ap (class_at (ports d)) (sym f.1) ∙ f.3 apart)))
    (is_given (given before f.0.input) f.0.value)

pub unmixed_changes : (d : Netlist) (before : List Vector) (v : Vector) (s : State) → HaveGiven d before s → IsUnmixed (ports d) before v → (class : Class) × ChangesClass d s v.moves class
unmixed_changes d before v s has unmixed =
    ⊎_elim
    (λ clocks. (Clock, moves_change d before v s Clock has clocks))
    (λ rest. ⊎_elim
    (λ data_. (Data, moves_change d before v s Data has data_))
    (λ reset. (Reset, moves_change d before v s Reset has (All-weaker (λ m. IsMove before m → m.input ≡ reset.input) (λ m. IsMove before m → class_at (ports d) m.input ≡ Some Reset) (λ m alone moves. ap (class_at (ports d)) (alone moves) ∙ reset.reset) v.moves reset.alone)))
    rest)
    unmixed

-- one end of a slot, and of a run

pub one_end : HangsOnReads → (d : Netlist) (ranked : List ℕ) (before : List Vector) (v : Vector) (s t u : State) → IsAccepted d ranked → IsConsistent d s → HaveGiven d before s → IsInForm (ports d) v → IsUnmixed (ports d) before v → IsSlot d s v.moves t → IsSlot d s v.moves u → t ≡ u
one_end hangs d ranked before v s t u h c has form unmixed to_t to_u =
    let p = unmixed_changes d before v s has unmixed in
    class_slot hangs d ranked s t u v.moves p.0 h c (moves_fit d v form) p.1 to_t to_u

slots_agree : HangsOnReads → (d : Netlist) (ranked : List ℕ) (before vs : List Vector) (s : State) (ends others : List State) → IsAccepted d ranked → IsLawful (ports d) (before ++ vs) → IsConsistent d s → HaveGiven d before s → AreSlots d s vs ends → AreSlots d s vs others → ends ≡ others
slots_agree hangs d ranked before [] s [] [] h lawful c has first again = refl
slots_agree hangs d ranked before [] s [] (u ∷ us) h lawful c has first again = absurd again
slots_agree hangs d ranked before [] s (t ∷ ts) others h lawful c has first again = absurd first
slots_agree hangs d ranked before (v ∷ vs) s [] others h lawful c has first again = absurd first
slots_agree hangs d ranked before (v ∷ vs) s (t ∷ ts) [] h lawful c has first again = absurd again
slots_agree hangs d ranked before (v ∷ vs) s (t ∷ ts) (u ∷ us) h lawful c has first again =
    let form : IsInForm (ports d) v = All-head (IsInForm (ports d)) v vs (all_back (IsInForm (ports d)) before (v ∷ vs) lawful.forms) in
    let here : t ≡ u = one_end hangs d ranked before v s t u h c has form (lawful.unmixed before v vs refl) first.0 again.0 in
    let end = (slot_end hangs d ranked (opened d v.moves s) t h (IsConsistent-opened d s v.moves c) first.0.completes).0 in
    let more : ts ≡ us
    = slots_agree hangs d ranked (before ++ v ∷ []) vs t ts us h (subst (IsLawful (ports d)) (sym (append_assoc before (v ∷ []) vs)) lawful) end (next_given hangs d ranked before v s t h c form has first.0) first.1
    (subst (λ x. AreSlots d x vs us) (sym here) again.1) in
    ap (λ x. x ∷ ts) here ∙ ap (λ xs. u ∷ xs) more

pub one_run : HangsOnReads → (d : Netlist) (ranked : List ℕ) (vectors : List Vector) (first again : State) (ends others : List State) → IsAccepted d ranked → IsLawful (ports d) vectors → IsRun d vectors first ends → IsRun d vectors again others → (first ≡ again) × (ends ≡ others)
one_run hangs d ranked vectors first again ends others h lawful run other =
    let same = first_slot hangs d ranked first again h run.first_slot other.first_slot in
    let c = (slot_end hangs d ranked (start_of d) first h (IsConsistent-start_of d ranked h) run.first_slot).0 in
    (same, slots_agree hangs d ranked [] vectors first ends others h lawful c (first_given hangs d ranked first h run.first_slot) run.slots (subst (λ x. AreSlots d x vectors others) (sym same) other.slots))
