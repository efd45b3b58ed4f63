-- Which vector may follow earlier ones.
use Rattle.std.proofs.Common.{◌≡◌, ℕ, suc, ◌+◌, ◌-◌, ◌<◌, ◌^◌, ◌&&◌, ◌||◌, ◌==◌, nat_eq, nat_lt, nat_le, not, Bool, true, false, arith, List, [], ◌∷◌, ◌++◌, length, get_or, set, take, replicate, refl, sym, ap, ◌∙◌, subst, IsTrue, All, Option, Some, None, length-set, if◌then◌else◌}
use Rattle.std.proofs.lemmas.Bool.{ne_eqb}
use Rattle.std.proofs.lemmas.Bool.Decides.{nat_tests}
use Rattle.std.proofs.Math.Seq.{take-append_seam, get_or-append_seam}
use Rattle.std.proofs.lemmas.List.{ext_get_or, get_or-replicate, length-replicate}
use Rattle.std.proofs.lemmas.List.Elements.{All-head, All-tail, All-nil, All-append, All-weaker}
use Rattle.std.specs.List.{list_all, enumerate_from, zip}
use Rattle.vod_thin_design.specs.declared.thin.Bit.{Bit}
use Rattle.vod_thin_design.specs.declared.thin.Bit.TheVariants as bit
use Rattle.vod_thin_design.specs.declared.thin.Class.TheVariants.{Clock, Data}
use Rattle.vod_thin_design.specs.declared.thin.Input.{Input}
use Rattle.vod_thin_design.specs.declared.thin.Move.{Move}
use Rattle.vod_thin_design.specs.declared.thin.Vector.{Vector}
use Rattle.vod_thin_design.specs.Bits.{is_known}
use Rattle.vod_thin_design.specs.Netlist.{Netlist, has, is_clock}
use Rattle.vod_thin_design.specs.Vectors.{IsVector, IsLawful, assigned, is_unmixed, has_data, gives_data, gives_all, known_since_after}
use Rattle.vod_thin_script.specs.Held.{value_from, AreValues, written, given, suits, are_unmixed, opens, comes_after, may_follow, known_after}
use Rattle.vod_thin_script.specs.History.{IsHistory}
use Rattle.vod_thin_script.specs.Reading.{IsMove}
use Rattle.vod_thin_script.proofs.Once.{vector_moves}
use Rattle.vod_thin_script.proofs.Lawful.{given-push, MayOpen, lawful_push, last_time-push, lawful_later, lawful_within, lawful_first, lawful_unmixed}
use Rattle.vod_thin_script.proofs.HeldLaws.{one_class, values_written}

and_both : (a b : Bool) → IsTrue (a && b) → IsTrue a × IsTrue b
and_both true b h = (refl, h)
and_both false b h = cc

both_and : (a b : Bool) → IsTrue a → IsTrue b → (a && b) ≡ true
both_and true b p q = q
both_and false b p q = cc

implied : (a b : Bool) → IsTrue (not a || b) → IsTrue a → IsTrue b
implied true b h p = h
implied false b h p = cc

implying : (a b : Bool) → (IsTrue a → IsTrue b) → IsTrue (not a || b)
implying true b h = h refl
implying false b h = refl

unmixing : (d : Netlist) (before : List Move) (values : List Bit) (v : Vector) → AreValues before values → length values ≡ length d.inputs → IsVector d v
    → are_unmixed d.inputs values v.moves ≡ is_unmixed d before v.moves
unmixing d before values v held size form =
    let are = vector_moves d v form in
    let clocks = one_class d Clock before values v.moves held size are in
    let datas = one_class d Data before values v.moves held size are in
    cc

first_or : (done : List Vector) (b : Bool) → IsTrue (not (nat_eq (length done) 0) || b) → done ≡ [] → IsTrue b
first_or [] b h none = h
first_or (v ∷ done) b h none = cc

or_first : (done : List Vector) (b : Bool) → (done ≡ [] → IsTrue b) → IsTrue (not (nat_eq (length done) 0) || b)
or_first [] b h = h refl
or_first (v ∷ done) b h = ap (λ t. not t || b) (ne_eqb (suc (length done)) 0 (λ e. omega arith))

-- the assignments give known values
abbrev pub GiveKnown : List Move → Type 0
GiveKnown moves = All (λ (m : Move). IsTrue (is_known m.value)) moves

given-known : (d : Netlist) (before : List Move) (vs : List Vector) → GiveKnown before → All (IsVector d) vs → GiveKnown (given before vs)
given-known d before [] known forms = known
given-known d before (v ∷ vs) known forms =
    given-known d (before ++ v.moves) vs (All-append (λ (m : Move). IsTrue (is_known m.value)) before v.moves known (All-head (IsVector d) v vs forms).known) (All-tail (IsVector d) v vs forms)

-- an input has a known value where it had one or was assigned
known_from : (b : Bit) (moves : List Move) (i : ℕ) → GiveKnown moves → is_known (value_from b moves i) ≡ (is_known b || has (assigned moves) i)
known_from b [] i known = none (is_known b)
  where
    none : (k : Bool) → k ≡ (k || false)
    none true = refl
    none false = refl
known_from b (m ∷ moves) i known =
    known_from (if m.input == i then m.value else b) moves i (All-tail (λ (m : Move). IsTrue (is_known m.value)) m moves known)
    ∙ by_test (m.input == i) (All-head (λ (m : Move). IsTrue (is_known m.value)) m moves known) (has (assigned moves) i)
  where
    either : (k : Bool) → true ≡ (k || true)
    either true = refl
    either false = refl

    by_test : (t : Bool) → IsTrue (is_known m.value) → (h : Bool) → (is_known (if t then m.value else b) || h) ≡ (is_known b || (t || h))
    by_test true one h = ap (λ k. k || h) one ∙ either (is_known b)
    by_test false one h = refl

known_at : (before : List Move) (values : List Bit) → AreValues before values → GiveKnown before → (i : ℕ) → i < length values → is_known (get_or values i bit.X) ≡ has (assigned before) i
known_at before values v known i lt = ap is_known (v.left i lt) ∙ known_from bit.Z before i known

-- which inputs the first vector assigns, by what it leaves
known_suit : (ns : List ℕ) (inputs : List Input) (values : List Bit) (n : ℕ) → length values ≡ length inputs
    → ((i : ℕ) → i < length values → is_known (get_or values i bit.X) ≡ has ns (n + i))
    → list_all (λ e. suits e.0 (is_known e.1)) (zip inputs values) ≡ list_all (λ e. if is_clock e.1.class then not (has ns e.0) else has ns e.0) (enumerate_from n inputs)
known_suit ns [] [] n size h = refl
known_suit ns [] (v ∷ values) n size h = absurd (omega (arith, size))
known_suit ns (x ∷ inputs) [] n size h = absurd (omega (arith, size))
known_suit ns (x ∷ inputs) (v ∷ values) n size h =
    let here : is_known v ≡ has ns n = h 0 (omega arith) ∙ ap (has ns) (omega arith) in
    let rest = known_suit ns inputs values (n + 1) (omega (arith, size)) (λ i lt. h (suc i) (omega arith) ∙ ap (has ns) (omega arith)) in
    ap (λ b. suits x b && list_all (λ e. suits e.0 (is_known e.1)) (zip inputs values)) here ∙ ap (λ r. suits x (has ns n) && r) rest

-- whether all inputs were assigned, by what they have
all_known : (ns : List ℕ) (inputs : List Input) (values : List Bit) (n : ℕ) → length values ≡ length inputs
    → ((i : ℕ) → i < length values → is_known (get_or values i bit.X) ≡ has ns (n + i))
    → list_all is_known values ≡ list_all (λ e. has ns e.0) (enumerate_from n inputs)
all_known ns [] [] n size h = refl
all_known ns [] (v ∷ values) n size h = absurd (omega (arith, size))
all_known ns (x ∷ inputs) [] n size h = absurd (omega (arith, size))
all_known ns (x ∷ inputs) (v ∷ values) n size h =
    let here : is_known v ≡ has ns n = h 0 (omega arith) ∙ ap (has ns) (omega arith) in
    let rest = all_known ns inputs values (n + 1) (omega (arith, size)) (λ i lt. h (suc i) (omega arith) ∙ ap (has ns) (omega arith)) in
    ap (λ b. b && list_all is_known values) here ∙ ap (λ r. has ns n && r) rest

length-written : (values : List Bit) (moves : List Move) → length (written values moves) ≡ length values
length-written values [] = refl
length-written values (m ∷ moves) = length-written (set values m.input m.value) moves ∙ length-set values m.input m.value

opening : (d : Netlist) (values : List Bit) (v : Vector) → AreValues [] values → length values ≡ length d.inputs → IsVector d v
    → opens d.inputs (written values v.moves) ≡ (not (has_data d) || gives_data d v.moves)
opening d values v none size form =
    let after : List Bit = written values v.moves in
    let held : AreValues v.moves after = values_written [] v.moves values none in
    ap (λ b. not (has_data d) || b) (known_suit (assigned v.moves) d.inputs after 0 (length-written values v.moves ∙ size) (λ i lt. known_at v.moves after held form.known i lt ∙ ap (has (assigned v.moves)) (omega arith)))

-- before any vector all inputs are z
pub history_fresh : (d : Netlist) (vs : List Vector) (values : List Bit) (since : Option ℕ) (latest : ℕ) → IsHistory d vs values since latest → length vs ≡ 0 → values ≡ replicate (length values) bit.Z
history_fresh d [] values since latest h none =
    ext_get_or bit.X values (replicate (length values) bit.Z) (sym (length-replicate (length values) bit.Z)) (λ i lt. h.held.left i lt ∙ sym (get_or-replicate (length values) i bit.Z bit.X lt))
history_fresh d (v ∷ vs) values since latest h none = absurd (omega arith)

-- what the code tests, in the words of the definition
pub follow_is : (d : Netlist) (inputs : List Input) (n : ℕ) (vs : List Vector) (b : Bool) (latest : ℕ) (values values' : List Bit) (v : Vector) → inputs ≡ d.inputs → n ≡ length vs → values' ≡ values
    → b ≡ may_follow inputs n latest values' v → b ≡ may_follow d.inputs (length vs) latest values v
follow_is d inputs n vs b latest values values' v same counted kept e =
    e ∙ ap (λ (xs : List Input). may_follow xs n latest values' v) same ∙ ap (λ m. may_follow d.inputs m latest values' v) counted ∙ ap (λ (bs : List Bit). may_follow d.inputs (length vs) latest bs v) kept

-- a vector that may follow
pub follows : (d : Netlist) (vs : List Vector) (values : List Bit) (since : Option ℕ) (latest : ℕ) (v : Vector) → IsHistory d vs values since latest → IsVector d v
    → IsTrue (may_follow d.inputs (length vs) latest values v) → IsLawful d (vs ++ v ∷ [])
follows d vs values since latest v h form may =
    let both = and_both (comes_after latest v.time && are_unmixed d.inputs values v.moves) (not (nat_eq (length vs) 0) || opens d.inputs (written values v.moves)) may in
    let early = and_both (comes_after latest v.time) (are_unmixed d.inputs values v.moves) both.0 in
    let times = and_both (nat_lt latest v.time) (nat_le v.time (2 ^ 63 - 1)) early.0 in
    let later : nat_lt latest v.time ≡ true = times.0 in
    let within : nat_le v.time (2 ^ 63 - 1) ≡ true = times.1 in
    let begins : vs ≡ [] → MayOpen d v = λ none. implied (has_data d) (gives_data d v.moves)
    (subst IsTrue (opening d values v (subst (λ ws. AreValues (given [] ws) values) none h.held) h.size form) (first_or vs (opens d.inputs (written values v.moves)) both.1 none)) in
    lawful_push d vs v latest h.last h.lawful (grind (arith, nat_tests)) (grind (arith, nat_tests)) form begins
    (subst IsTrue (unmixing d (given [] vs) values v h.held h.size form) early.1)

-- a vector that is lawful there may follow
pub lawful_follows : (d : Netlist) (vs : List Vector) (values : List Bit) (since : Option ℕ) (latest : ℕ) (v : Vector) → IsHistory d vs values since latest → IsVector d v
    → IsLawful d (vs ++ v ∷ []) → IsTrue (may_follow d.inputs (length vs) latest values v)
lawful_follows d vs values since latest v h form lawful =
    let later = lawful_later d vs v [] lawful in
    let within = lawful_within d vs v [] lawful in
    let last = h.last in
    let after : nat_lt latest v.time ≡ true = grind (arith, nat_tests) in
    let before : nat_le v.time (2 ^ 63 - 1) ≡ true = grind (arith, nat_tests) in
    let apart : IsTrue (are_unmixed d.inputs values v.moves) = subst IsTrue (sym (unmixing d (given [] vs) values v h.held h.size form)) (lawful_unmixed d vs v lawful) in
    let begins : IsTrue (not (nat_eq (length vs) 0) || opens d.inputs (written values v.moves)) = or_first vs (opens d.inputs (written values v.moves)) (λ none.
    subst IsTrue (sym (opening d values v (subst (λ ws. AreValues (given [] ws) values) none h.held) h.size form)) (implying (has_data d) (gives_data d v.moves) (lawful_first d vs v [] lawful none))) in
    both_and (comes_after latest v.time && are_unmixed d.inputs values v.moves) (not (nat_eq (length vs) 0) || opens d.inputs (written values v.moves))
    (both_and (comes_after latest v.time) (are_unmixed d.inputs values v.moves) (both_and (nat_lt latest v.time) (nat_le v.time (2 ^ 63 - 1)) after before) apart) begins

known_push : (d : Netlist) (before : List Move) (vs : List Vector) (v : Vector) (values : List Bit) → list_all is_known values ≡ gives_all d (given before vs ++ v.moves)
    → known_after (known_since_after d before vs) values v.time ≡ known_since_after d before (vs ++ v ∷ [])
known_push d before [] v values e = ap (λ (b : Bool). if b then Some v.time else None) e
known_push d before (w ∷ vs) v values e = by_test (gives_all d (before ++ w.moves)) (known_push d (before ++ w.moves) vs v values e)
  where
    by_test : (t : Bool) → known_after (known_since_after d (before ++ w.moves) vs) values v.time ≡ known_since_after d (before ++ w.moves) (vs ++ v ∷ [])
        → known_after (if t then Some w.time else known_since_after d (before ++ w.moves) vs) values v.time ≡ (if t then Some w.time else known_since_after d (before ++ w.moves) (vs ++ v ∷ []))
    by_test true more = refl
    by_test false more = more

-- one more vector
history_written : (d : Netlist) (vs : List Vector) (values : List Bit) (since : Option ℕ) (latest : ℕ) (v : Vector) → IsHistory d vs values since latest → IsVector d v → IsLawful d (vs ++ v ∷ [])
    → IsHistory d (vs ++ v ∷ []) (written values v.moves) (known_after since (written values v.moves) v.time) v.time
history_written d vs values since latest v h form lawful =
    let after : List Bit = written values v.moves in
    let before : List Move = given [] vs ++ v.moves in
    let size : length after ≡ length d.inputs = length-written values v.moves ∙ h.size in
    let held : AreValues before after = values_written (given [] vs) v.moves values h.held in
    let known : GiveKnown before = All-append (λ (m : Move). IsTrue (is_known m.value)) (given [] vs) v.moves (given-known d [] vs (All-nil (λ (m : Move). IsTrue (is_known m.value))) h.lawful.forms) form.known in
    let all : list_all is_known after ≡ gives_all d before = all_known (assigned before) d.inputs after 0 size (λ i lt. known_at before after held known i lt ∙ ap (has (assigned before)) (omega arith)) in
    record {
      lawful = lawful;
      size = size;
      held = subst (λ ms. AreValues ms after) (sym (given-push [] vs v)) held;
      known = ap (λ s. known_after s after v.time) h.known ∙ known_push d [] vs v after all;
      last = sym (last_time-push vs v);
    }

pub history_more : (d : Netlist) (vs : List Vector) (values : List Bit) (since : Option ℕ) (latest : ℕ) (v : Vector) → IsHistory d vs values since latest → IsVector d v → IsLawful d (vs ++ v ∷ [])
    → (after : List Bit) (known : Option ℕ) → after ≡ written values v.moves → known ≡ known_after since after v.time → IsHistory d (vs ++ v ∷ []) after known v.time
history_more d vs values since latest v h form lawful after known left made =
    let all = history_written d vs values since latest v h form lawful in
    subst (λ s. IsHistory d (vs ++ v ∷ []) after s v.time) (sym made)
    (subst (λ (bs : List Bit). IsHistory d (vs ++ v ∷ []) bs (known_after since bs v.time) v.time) (sym left) all)

-- what is written over a whole list
pub written_over : (xs ys : List Bit) (n : ℕ) → length xs ≡ n → take n (xs ++ ys) ≡ xs
written_over xs ys n e = subst (λ m. take m (xs ++ ys) ≡ xs) e (take-append_seam xs ys)

-- what was pushed stands last
pub pushed_last : (vs items : List Vector) (v other : Vector) (n : ℕ) → items ≡ vs ++ v ∷ [] → n ≡ length vs → get_or items n other ≡ v
pushed_last vs items v other n e counted = ap (λ ws. get_or ws n other) e ∙ ap (λ m. get_or (vs ++ v ∷ []) m other) counted ∙ get_or-append_seam vs v [] other

-- the inputs of a vector have values
pub inputs_within : (d : Netlist) (values : List Bit) (v : Vector) → length values ≡ length d.inputs → IsVector d v → All (λ (m : Move). m.input < length values) v.moves
inputs_within d values v size form =
    All-weaker (IsMove d) (λ (m : Move). m.input < length values) (λ m h. let inside = h.input in omega (arith, inside, size)) v.moves (vector_moves d v form)
