-- Writes outside the path of edges: they start no block, and wake no driver that is on it.
use Rattle.std.proofs.Common.{◌≡◌, ◌⊎◌, inl, inr, ℕ, zero, suc, ◌+◌, ◌<◌, ◌≤◌, arith, ◌==◌, ◌||◌, Bool, true, false, if◌then◌else◌, List, [], ◌∷◌, ◌++◌, length, flat_map, refl, ap, sym, ◌∙◌, subst, ⊎_elim, All, AllPairs, Option, Some, None, slice_get, eq-eqb}
use Rattle.std.specs.List.{Contains, list_any}
use Rattle.std.proofs.lemmas.Bool.{cases_eq, or_cases, ne_eqb, false_from_ne_true, or_left}
use Rattle.std.proofs.lemmas.List.Folds.{list_any-append, list_any_none}
use Rattle.std.proofs.lemmas.List.Elements.{All-head, All-tail, All-cons, All-weaker, All-contains}
use Rattle.std.proofs.lemmas.Map.Made.{Contains-tail}
use Rattle.std.proofs.lemmas.Option.{same_Some, slice_get_within}
use Rattle.vod_bits.specs.Bit.{Bit}
use Rattle.vod_design.specs.declared.parts.Block.{Block}
use Rattle.vod_design.specs.declared.parts.Driver.{Driver}
use Rattle.vod_design.specs.declared.parts.Edge.{Edge}
use Rattle.vod_design.specs.declared.parts.InitialAssign.{InitialAssign}
use Rattle.vod_design.specs.declared.parts.InitialTarget.{InitialTarget}
use Rattle.vod_design.specs.declared.parts.InitialTarget.TheVariants as initial
use Rattle.vod_design.specs.declared.parts.Input.{Input}
use Rattle.vod_design.specs.declared.read.Read.{Read}
use Rattle.vod_design.specs.declared.read.Read.TheVariants.{Whole}
use Rattle.vod_design.specs.declared.sized.Variable.TheVariants as variable
use Rattle.vod_design.specs.declared.statement.Place.{Place}
use Rattle.vod_design.specs.declared.statement.Statement.{Statement}
use Rattle.vod_design.specs.declared.statement.Target.{Target}
use Rattle.vod_design.specs.declared.statement.Target.TheVariants.{Bits, Word}
use Rattle.vod_design.specs.Accepted.{IsAccepted, IsToDrive}
use Rattle.vod_design.specs.Feeds.{is_read, both_meet, feeds}
use Rattle.vod_design.specs.Flat.{DriverFits}
use Rattle.vod_design.specs.Netlist.{Netlist, IsNet, IsRegister}
use Rattle.vod_design.specs.Nets.{Follows, itself, copied}
use Rattle.vod_design.specs.Reads.{reads}
use Rattle.vod_slot.specs.Store.{Store, Write, ToBit, ToWord, touches, feeds_driver, changes, bits_written, places_written}
use Rattle.vod_slot.specs.State.{State, Piece, Update, flag_at}
use Rattle.vod_slot.specs.Step.{is_edge, is_reset_edge, starts, raised, raised_if, begun, triggered, put, put_all, target_written, update_written, initial_written}
use Rattle.vod_slot.specs.Shape.{TargetWrites, UpdateWrites, InitialWrites, AssignsWrite}
use Rattle.vod_slot.specs.Weight.{reset_read, awaited, writes_read, one_writes_read, reads_before, upstream, edge_path, is_on_path}
use Rattle.vod_slot.proofs.Lists.{all_none, all_one, all_at, pairs_head, pairs_tail}
use Rattle.vod_slot.proofs.Raised.{passes_at, passes_at-at, or-false}
use Rattle.vod_slot.proofs.Digits.{no_member}
use Rattle.vod_slot.proofs.Targets.{all_flat, to_drive}
use Rattle.vod_slot.proofs.Paths.{IsPathRead, place_in, stands_at, path_reads, ordered, feeds_itself, ranked_has}

or_none : (a b : Bool) → (a || b) ≡ false → (a ≡ false) × (b ≡ false)
or_none true b h = absurd (cc)
or_none false b h = (refl, h)

pub none_of : {A : Type 0} (test : A → Bool) (xs : List A) → list_any test xs ≡ false → All (λ x. test x ≡ false) xs
none_of test [] h = all_none (λ x. test x ≡ false)
none_of test (x ∷ xs) h = let p = or_none (test x) (list_any test xs) h in All-cons (λ y. test y ≡ false) x xs p.0 (none_of test xs p.1)

any_left : {A : Type 0} (test : A → Bool) (xs ys : List A) → list_any test xs ≡ true → list_any test (xs ++ ys) ≡ true
any_left test xs ys h = list_any-append test xs ys ∙ or_left (list_any test xs) (list_any test ys) h

any_right : {A : Type 0} (test : A → Bool) (xs ys : List A) → list_any test ys ≡ true → list_any test (xs ++ ys) ≡ true
any_right test xs ys h = list_any-append test xs ys ∙ ap (λ b. list_any test xs || b) h ∙ or_true (list_any test xs)
  where
    or_true : (b : Bool) → (b || true) ≡ true
    or_true true = refl
    or_true false = refl

-- a driver that writes some of what is read here or there
writes_either : (places : List Place) (xs ys : List Read) → list_any (λ p. list_any (is_read p) (xs ++ ys)) places ≡ true → (list_any (λ p. list_any (is_read p) xs) places ≡ true) ⊎ (list_any (λ p. list_any (is_read p) ys) places ≡ true)
writes_either [] xs ys h = absurd (cc)
writes_either (p ∷ places) xs ys h =
    ⊎_elim
    (λ here. ⊎_elim
    (λ l. inl (or_left (list_any (is_read p) xs) (list_any (λ q. list_any (is_read q) xs) places) l))
    (λ r. inr (or_left (list_any (is_read p) ys) (list_any (λ q. list_any (is_read q) ys) places) r))
    (or_cases (list_any (is_read p) xs) (list_any (is_read p) ys) (sym (list_any-append (is_read p) xs ys) ∙ here)))
    (λ later. ⊎_elim
    (λ l. inl (or_later (list_any (is_read p) xs) (list_any (λ q. list_any (is_read q) xs) places) l))
    (λ r. inr (or_later (list_any (is_read p) ys) (list_any (λ q. list_any (is_read q) ys) places) r))
    (writes_either places xs ys later))
    (or_cases (list_any (is_read p) (xs ++ ys)) (list_any (λ q. list_any (is_read q) (xs ++ ys)) places) h)
  where
    or_later : (a b : Bool) → b ≡ true → (a || b) ≡ true
    or_later true b h = refl
    or_later false b h = h

writes_nothing : (places : List Place) → list_any (λ p. list_any (is_read p) []) places ≡ false
writes_nothing [] = refl
writes_nothing (p ∷ places) = writes_nothing places

-- what is read before a driver that is written by one that doesn't feed it
not_fed : (rs : List Read) (a : Driver) (o : Option Driver) → both_meet (Some a) o ≡ false → writes_read (reads_before rs o) a ≡ true → ⊥
not_fed rs a None h writes = let clash : true ≡ false = sym writes ∙ writes_nothing a.target in absurd (cc)
not_fed rs a (Some x) h writes = chosen (writes_read rs x) refl
  where
    chosen : (b : Bool) → writes_read rs x ≡ b → ⊥
    chosen true is =
        let both : writes_read (if writes_read rs x then reads x.value else []) a ≡ writes_read (reads x.value) a = ap (λ (b : Bool). writes_read (if b then reads x.value else []) a) is in
        let clash : true ≡ false = sym writes ∙ both ∙ h in absurd (cc)
    chosen false is =
        let both : writes_read (if writes_read rs x then reads x.value else []) a ≡ writes_read [] a = ap (λ (b : Bool). writes_read (if b then reads x.value else []) a) is in
        let clash : true ≡ false = sym writes ∙ both ∙ writes_nothing a.target in absurd (cc)

-- all that a driver on the path reads is on it
closed : (drivers : List Driver) (js : List ℕ) (rs : List Read) → AllPairs (λ q k. feeds drivers k q ≡ false) js → All (λ k. feeds drivers k k ≡ false) js → (c : ℕ) (a : Driver) → Contains js c → slice_get drivers c ≡ Some a → (test : Read → Bool) →
    writes_read (upstream drivers js rs) a ≡ true → list_any test (reads a.value) ≡ true → list_any test (upstream drivers js rs) ≡ true
closed drivers [] rs order self c a stands at test writes h = absurd (no_member c stands)
closed drivers (j ∷ js) rs order self c a stands at test writes h =
    let later = upstream drivers js rs in
    let before = reads_before later (slice_get drivers j) in
    ⊎_elim
    (λ same.
    let at_j : slice_get drivers j ≡ Some a = ap (slice_get drivers) same ∙ at in
    ⊎_elim
    (λ l.
    let is : before ≡ reads a.value = ap (reads_before later) at_j ∙ ap (λ (b : Bool). if b then reads a.value else []) l in
    any_right test later before (ap (list_any test) is ∙ h))
    (λ r.
    let free : feeds drivers j j ≡ false = All-head (λ k. feeds drivers k k ≡ false) j js self in
    absurd (not_fed later a (slice_get drivers j) (ap (λ o. both_meet o (slice_get drivers j)) (sym at_j) ∙ free) r))
    (writes_either a.target later before writes))
    (λ apart.
    let behind = Contains-tail j js c apart stands in
    ⊎_elim
    (λ l. any_left test later before (closed drivers js rs (pairs_tail (λ q k. feeds drivers k q ≡ false) j js order) (All-tail (λ k. feeds drivers k k ≡ false) j js self) c a behind at test l h))
    (λ r.
    let free : feeds drivers c j ≡ false = All-contains (λ k. feeds drivers k j ≡ false) js c (pairs_head (λ q k. feeds drivers k q ≡ false) j js order) behind in
    absurd (not_fed later a (slice_get drivers j) (ap (λ o. both_meet o (slice_get drivers j)) (sym at) ∙ free) r))
    (writes_either a.target later before writes))
    (cases_eq j c)

-- a write of nothing on the path
abbrev pub IsOutside : Netlist → List ℕ → Write → Type 0
IsOutside d ranked w = list_any (touches w) (edge_path d ranked) ≡ false

all_self_free : (d : Netlist) (ranked : List ℕ) → IsAccepted d ranked → All (λ k. feeds d.drivers k k ≡ false) ranked
all_self_free d ranked h = All-weaker (λ k. k < length d.drivers) (λ k. feeds d.drivers k k ≡ false) (λ k lt. feeds_itself d ranked h k lt) ranked h.order.each.only

-- it is read by no driver on the path
unread : (d : Netlist) (ranked : List ℕ) → IsAccepted d ranked → (w : Write) → IsOutside d ranked w → (q : ℕ) (o : Option Driver) → slice_get d.drivers q ≡ o → one_writes_read (edge_path d ranked) o ≡ true → passes_at (feeds_driver w) d.drivers q ≡ false
unread d ranked h w out q None at on = absurd (cc)
unread d ranked h w out q (Some a) at on =
    false_from_ne_true (passes_at (feeds_driver w) d.drivers q)
    (λ reads_it.
    let r : list_any (touches w) (reads a.value) ≡ true = sym (passes_at-at (feeds_driver w) d.drivers q a at) ∙ reads_it in
    let t = closed d.drivers ranked (awaited d.blocks) (ordered d ranked h) (all_self_free d ranked h) q a (ranked_has d ranked h q (slice_get_within d.drivers q a at)) at (touches w) on r in
    let clash : true ≡ false = sym t ∙ out in absurd (cc))

-- a flag of a driver that doesn't read what is written
raised_other : {A : Type 0} (test : A → Bool) (xs : List A) (flags : List Bool) (k : ℕ) → passes_at test xs k ≡ false → flag_at (raised test xs flags) k ≡ flag_at flags k
raised_other test [] flags k h = refl
raised_other test (x ∷ xs) [] k h = refl
raised_other test (x ∷ xs) (flag ∷ flags) zero h = ap (λ b. flag || b) h ∙ or-false flag
raised_other test (x ∷ xs) (flag ∷ flags) (suc k) h = raised_other test xs flags k h

raised_if_other : {A : Type 0} (happened : Bool) (test : A → Bool) (xs : List A) (flags : List Bool) (k : ℕ) → passes_at test xs k ≡ false → flag_at (raised_if happened test xs flags) k ≡ flag_at flags k
raised_if_other true test xs flags k h = raised_other test xs flags k h
raised_if_other false test xs flags k h = refl

pub flag_kept : (d : Netlist) (writes : List Write) (st : State) (q : ℕ) → All (λ w. passes_at (feeds_driver w) d.drivers q ≡ false) writes → flag_at (put_all d writes st).wake q ≡ flag_at st.wake q
flag_kept d [] st q h = refl
flag_kept d (w ∷ writes) st q h =
    flag_kept d writes (put d w st) q (All-tail (λ v. passes_at (feeds_driver v) d.drivers q ≡ false) w writes h)
    ∙ raised_if_other (changes st.store w) (feeds_driver w) d.drivers st.wake q (All-head (λ v. passes_at (feeds_driver v) d.drivers q ≡ false) w writes h)

pub path_kept : (d : Netlist) (ranked : List ℕ) → IsAccepted d ranked → (writes : List Write) (st : State) → All (IsOutside d ranked) writes → (q : ℕ) → is_on_path d ranked q ≡ true → flag_at (put_all d writes st).wake q ≡ flag_at st.wake q
path_kept d ranked h writes st out q on =
    flag_kept d writes st q (All-weaker (IsOutside d ranked) (λ w. passes_at (feeds_driver w) d.drivers q ≡ false) (λ w o. unread d ranked h w o q (slice_get d.drivers q) refl on) writes out)

-- it starts no block
upstream_keeps : (drivers : List Driver) (js : List ℕ) (rs : List Read) (test : Read → Bool) → list_any test (upstream drivers js rs) ≡ false → list_any test rs ≡ false
upstream_keeps drivers [] rs test h = h
upstream_keeps drivers (j ∷ js) rs test h =
    let later = upstream drivers js rs in
    let p = or_none (list_any test later) (list_any test (reads_before later (slice_get drivers j))) (sym (list_any-append test later (reads_before later (slice_get drivers j))) ∙ h) in
    upstream_keeps drivers js rs test p.0

no_edge : (store : Store) (w : Write) (e : Edge) → touches w (Whole e.signal) ≡ false → is_edge store w e ≡ false
no_edge store (ToBit signal place bit) e h =
    let apart : (e.signal == signal) ≡ false = ne_eqb e.signal signal (λ same. (let t : (signal == e.signal) ≡ true = eq-eqb signal e.signal (sym same) in let clash : true ≡ false = sym t ∙ h in cc)) in
    rw apart refl
no_edge store (ToWord memory place word) e h = refl

no_reset : (store : Store) (w : Write) (reset : Option Edge) → list_any (touches w) (reset_read reset) ≡ false → is_reset_edge store w reset ≡ false
no_reset store w None h = refl
no_reset store w (Some e) h = no_edge store w e (or_none (touches w (Whole e.signal)) false h).0

no_start : (store : Store) (w : Write) (blocks : List Block) → list_any (touches w) (awaited blocks) ≡ false → All (λ b. starts store w b ≡ false) blocks
no_start store w [] h = all_none (λ b. starts store w b ≡ false)
no_start store w (b ∷ blocks) h =
    let p = or_none (touches w (Whole b.clock.signal)) (list_any (touches w) (reset_read b.reset ++ awaited blocks)) h in
    let q = or_none (list_any (touches w) (reset_read b.reset)) (list_any (touches w) (awaited blocks)) (sym (list_any-append (touches w) (reset_read b.reset) (awaited blocks)) ∙ p.1) in
    All-cons (λ c. starts store w c ≡ false) b blocks (rw (no_edge store w b.clock p.0) (no_reset store w b.reset q.0)) (no_start store w blocks q.1)

pub begun_none : (edge : Bool) (b : Block) (statements : List Statement) → edge ≡ false → begun edge b statements ≡ statements
begun_none true b statements h = absurd (cc)
begun_none false b [] h = refl
begun_none false b (s ∷ statements) h = refl

pub triggered_none : (edge : Block → Bool) (blocks : List Block) (todo : List (List Statement)) → All (λ b. edge b ≡ false) blocks → triggered edge blocks todo ≡ todo
triggered_none edge [] todo h = refl
triggered_none edge (b ∷ blocks) [] h = refl
triggered_none edge (b ∷ blocks) (statements ∷ todo) h =
    let here : begun (edge b) b statements ≡ statements = begun_none (edge b) b statements (All-head (λ c. edge c ≡ false) b blocks h) in
    let more : triggered edge blocks todo ≡ todo = triggered_none edge blocks todo (All-tail (λ c. edge c ≡ false) b blocks h) in
    cc

pub todo_kept : (d : Netlist) (ranked : List ℕ) (writes : List Write) (st : State) → All (IsOutside d ranked) writes → (put_all d writes st).todo ≡ st.todo
todo_kept d ranked [] st out = refl
todo_kept d ranked (w ∷ writes) st out =
    todo_kept d ranked writes (put d w st) (All-tail (IsOutside d ranked) w writes out)
    ∙ triggered_none (starts st.store w) d.blocks st.todo (no_start st.store w d.blocks (upstream_keeps d.drivers ranked (awaited d.blocks) (touches w) (All-head (IsOutside d ranked) w writes out)))

-- registers and words are outside
pub follows_net : (d : Netlist) (ranked : List ℕ) → IsAccepted d ranked → (input : Input) → Contains d.inputs input → (n : ℕ) → Follows d input.signal n → IsNet d n
follows_net d ranked h input stands n itself = All-contains (λ (i : Input). IsNet d i.signal) d.inputs input h.flat.inputs stands
follows_net d ranked h input stands n (copied {from = from} {to = to} {a = c} is_driver copies follows) =
    let place = place_in d.drivers c is_driver in
    let fits : DriverFits d c = all_at (DriverFits d) d.drivers place.0 c h.flat.drivers place.1 in
    first_net c.target fits.some (to_drive d ranked h place.0 c place.1) copies.target
  where
    first_net : (places : List Place) → 1 ≤ length places → All (IsToDrive d) places → ((b : Place) → Contains places b → b.signal ≡ n) → IsNet d n
    first_net [] some drive same = absurd (omega arith)
    first_net (b ∷ places) some drive same = subst (IsNet d) (same b (stands_at (b ∷ places) 0 b refl)) (All-head (IsToDrive d) b places drive).net

pub not_register : (d : Netlist) (n : ℕ) → IsNet d n → IsRegister d n → ⊥
not_register d n net register = let e : Some true ≡ Some false = sym register ∙ net in let clash : true ≡ false = same_Some true false e in cc

pub register_outside : (d : Netlist) (ranked : List ℕ) → IsAccepted d ranked → (n place : ℕ) (bit : Bit) → IsRegister d n → IsOutside d ranked (ToBit n place bit)
register_outside d ranked h n place bit register =
    list_any_none (touches (ToBit n place bit)) (edge_path d ranked)
    (All-weaker (IsPathRead d) (λ r. touches (ToBit n place bit) r ≡ false)
    (λ r path. ap (touches (ToBit n place bit)) path.is_whole ∙ ne_eqb n path.net (λ same. not_register d n (subst (IsNet d) (sym same) (follows_net d ranked h path.is_edge.input path.is_edge.stands path.net path.is_edge.follows)) register))
    (edge_path d ranked) (path_reads d ranked h))

pub word_outside : (d : Netlist) (ranked : List ℕ) → IsAccepted d ranked → (memory place : ℕ) (word : List Bit) → IsOutside d ranked (ToWord memory place word)
word_outside d ranked h memory place word =
    list_any_none (touches (ToWord memory place word)) (edge_path d ranked)
    (All-weaker (IsPathRead d) (λ r. touches (ToWord memory place word) r ≡ false) (λ r path. ap (touches (ToWord memory place word)) path.is_whole) (edge_path d ranked) (path_reads d ranked h))

bits_outside : (d : Netlist) (ranked : List ℕ) → IsAccepted d ranked → (n low : ℕ) (value : List Bit) → IsRegister d n → All (IsOutside d ranked) (bits_written n low value)
bits_outside d ranked h n low [] register = all_none (IsOutside d ranked)
bits_outside d ranked h n low (bit ∷ value) register =
    All-cons (IsOutside d ranked) (ToBit n (length value + low) bit) (bits_written n low value) (register_outside d ranked h n (length value + low) bit register) (bits_outside d ranked h n low value register)

target_outside : (d : Netlist) (ranked : List ℕ) → IsAccepted d ranked → (t : Option Target) (value : List Bit) → TargetWrites d t → All (IsOutside d ranked) (target_written t value)
target_outside d ranked h None value writes = all_none (IsOutside d ranked)
target_outside d ranked h (Some (Bits (variable.Signal n) low)) value writes = bits_outside d ranked h n low value writes
target_outside d ranked h (Some (Bits (variable.Local n) low)) value writes = all_none (IsOutside d ranked)
target_outside d ranked h (Some (Word memory place)) value writes = all_one (IsOutside d ranked) (ToWord memory place value) (word_outside d ranked h memory place value)

pub updates_outside : (d : Netlist) (ranked : List ℕ) → IsAccepted d ranked → (us : List Update) → All (UpdateWrites d) us → All (IsOutside d ranked) (flat_map update_written us)
updates_outside d ranked h us each =
    all_flat (UpdateWrites d) (IsOutside d ranked) update_written us
    (λ u writes. all_flat (λ (p : Piece). TargetWrites d p.target) (IsOutside d ranked) (λ p. target_written p.target p.value) u (λ p target. target_outside d ranked h p.target p.value target) writes) each

initial_outside : (d : Netlist) (ranked : List ℕ) → IsAccepted d ranked → (t : InitialTarget) (value : List Bit) → InitialWrites d t → All (IsOutside d ranked) (initial_written t value)
initial_outside d ranked h (initial.Register n) value writes = bits_outside d ranked h n 0 value writes
initial_outside d ranked h (initial.Word memory place) value writes = all_one (IsOutside d ranked) (ToWord memory place value) (word_outside d ranked h memory place value)

pub initials_outside : (d : Netlist) (ranked : List ℕ) → IsAccepted d ranked → (assigns : List InitialAssign) → AssignsWrite d assigns → All (IsOutside d ranked) (flat_map (λ (a : InitialAssign). initial_written a.target a.value) assigns)
initials_outside d ranked h assigns each =
    all_flat (λ (a : InitialAssign). InitialWrites d a.target) (IsOutside d ranked) (λ (a : InitialAssign). initial_written a.target a.value) assigns (λ a writes. initial_outside d ranked h a.target a.value writes) each

-- the bits of a driver's target
places_all : (P : Write → Type 0) (Q : Place → Type 0) → ((b : Place) (bit : Bit) → Q b → P (ToBit b.signal b.bit bit)) → (places : List Place) (bits : List Bit) → All Q places → All P (places_written places bits)
places_all P Q f [] bits h = all_none P
places_all P Q f (b ∷ places) [] h = all_none P
places_all P Q f (b ∷ places) (bit ∷ bits) h = All-cons P (ToBit b.signal b.bit bit) (places_written places bits) (f b bit (All-head Q b places h)) (places_all P Q f places bits (All-tail Q b places h))

-- where a driver isn't on the path, what it writes isn't
pub target_off_path : (d : Netlist) (ranked : List ℕ) (a : Driver) (bits : List Bit) → writes_read (edge_path d ranked) a ≡ false → All (IsOutside d ranked) (places_written a.target bits)
target_off_path d ranked a bits off =
    places_all (IsOutside d ranked) (λ b. list_any (is_read b) (edge_path d ranked) ≡ false) (λ b bit h. h) a.target bits (none_of (λ b. list_any (is_read b) (edge_path d ranked)) a.target off)

-- a driver that another one doesn't feed isn't woken by it
fed_by_none : (drivers : List Driver) (a : Driver) (q : ℕ) (o : Option Driver) (bits : List Bit) → slice_get drivers q ≡ o → both_meet (Some a) o ≡ false → All (λ w. passes_at (feeds_driver w) drivers q ≡ false) (places_written a.target bits)
fed_by_none drivers a q None bits at free = places_all (λ w. passes_at (feeds_driver w) drivers q ≡ false) (λ b. Unit {0}) (λ b bit u. past (feeds_driver (ToBit b.signal b.bit bit)) drivers q at) a.target bits (λ i d l. tt)
  where
    past : {A : Type 0} (test : A → Bool) (xs : List A) (k : ℕ) → slice_get xs k ≡ None → passes_at test xs k ≡ false
    past test [] k none = refl
    past test (x ∷ xs) zero none = absurd (cc)
    past test (x ∷ xs) (suc k) none = past test xs k none
fed_by_none drivers a q (Some x) bits at free =
    places_all (λ w. passes_at (feeds_driver w) drivers q ≡ false) (λ b. list_any (λ r. is_read b r) (reads x.value) ≡ false)
    (λ b bit h. passes_at-at (feeds_driver (ToBit b.signal b.bit bit)) drivers q x at ∙ h) a.target bits (none_of (λ b. list_any (λ r. is_read b r) (reads x.value)) a.target free)

pub unfed_kept : (d : Netlist) (j : ℕ) (a : Driver) (bits : List Bit) (st : State) (q : ℕ) → slice_get d.drivers j ≡ Some a → feeds d.drivers j q ≡ false → flag_at (put_all d (places_written a.target bits) st).wake q ≡ flag_at st.wake q
unfed_kept d j a bits st q at free =
    flag_kept d (places_written a.target bits) st q (fed_by_none d.drivers a q (slice_get d.drivers q) bits refl (ap (λ o. both_meet o (slice_get d.drivers q)) (sym at) ∙ free))
