-- A window, written slot by slot, is the text of the full dump's cut.
use Rattle.std.proofs.Common.{◌≡◌, ℕ, suc, ◌<◌, ◌≤◌, List, [], ◌∷◌, ◌++◌, length, map, filter, All, nat_le, nat_lt, ◌&&◌, not, Bool, true, false, refl, ap, sym, ◌∙◌, append_assoc, arith, inl, inr, subst}
use Rattle.std.proofs.lemmas.Bool.{cases_lt}
use Rattle.std.proofs.lemmas.Bool.Decides.{nat_tests}
use Rattle.std.specs.List.{flat_map}
use Rattle.std.specs.List.Sorted.{IsNonDecreasing}
use Rattle.vod_bits.specs.Bit.{Bit}
use Rattle.vod_design.specs.Netlist.{Netlist}
use Rattle.vod_vcd.specs.Header.{header_text}
use Rattle.vod_vcd.specs.Text.{opening_text, change_text}
use Rattle.vod_vcd.specs.Dump.{Moment, Change, differing, slot_changes, is_empty, last_moment, full_dump, overwritten, cut, last_change, closing_text, dump_text}
use Rattle.vod_vcd.specs.Stream.{slot_text_of, slot_text, printed_of, printed_after, rest_text, window_text}
use Rattle.vod_vcd.proofs.Times.{AllFrom, AllTo, NotFalling, SameLength, AllFrom-weaker, AllTo-last_moment, NotFalling-from, AllFrom-from, SameLength-from}
use Rattle.vod_vcd.proofs.Overwrite.{overwritten_by, overwritten_by-differing}

-- the slots with a change
abbrev pub changed : List Change → List Change
changed changes = filter (λ change. not (is_empty change.pairs)) changes

-- the changes of later slots
abbrev pub later : List (List Bit) → List Moment → List Change
later shown moments = changed (slot_changes shown moments)

-- a slot before later changes, where it has a change
abbrev pub with_slot : ℕ → List (ℕ × List Bit) → List Change → List Change
with_slot time [] rest = rest
with_slot time (pair ∷ pairs) rest = record { time = time; pairs = pair ∷ pairs } ∷ rest

-- the tests of a cut
abbrev pub is_upto : ℕ → Change → Bool
is_upto a change = nat_le change.time a

abbrev pub is_within : ℕ → ℕ → Change → Bool
is_within a b change = nat_lt a change.time && nat_le change.time b

-- the text of some changes, and the close
abbrev pub rest_of : ℕ → List Change → ℕ → List ℕ
rest_of printed changes b = flat_map (λ change. change_text change.time change.pairs) changes ++ closing_text (last_change printed changes) b

changed-slot : (time : ℕ) (pairs : List (ℕ × List Bit)) (rest : List Change) → changed (record { time = time; pairs = pairs } ∷ rest) ≡ with_slot time pairs (changed rest)
changed-slot time [] rest = refl
changed-slot time (pair ∷ pairs) rest = refl

later-slot : (shown : List (List Bit)) (moment : Moment) (moments : List Moment) →
    later shown (moment ∷ moments) ≡ with_slot moment.time (differing shown moment.values) (later moment.values moments)
later-slot shown moment moments = changed-slot moment.time (differing shown moment.values) (slot_changes moment.values moments)

-- a slot that fails a test, and one that passes it
filter-slot_fails : (p : Change → Bool) (time : ℕ) → ((pairs : List (ℕ × List Bit)) → p record { time = time; pairs = pairs } ≡ false) →
    (pairs : List (ℕ × List Bit)) (rest : List Change) → filter p (with_slot time pairs rest) ≡ filter p rest
filter-slot_fails p time fails [] rest = refl
filter-slot_fails p time fails (pair ∷ pairs) rest = rw (fails (pair ∷ pairs)) refl

filter-slot_passes : (p : Change → Bool) (time : ℕ) → ((pairs : List (ℕ × List Bit)) → p record { time = time; pairs = pairs } ≡ true) →
    (pairs : List (ℕ × List Bit)) (rest : List Change) → filter p (with_slot time pairs rest) ≡ with_slot time pairs (filter p rest)
filter-slot_passes p time passes [] rest = refl
filter-slot_passes p time passes (pair ∷ pairs) rest = rw (passes (pair ∷ pairs)) refl

-- a test that each change from a time on fails keeps none
filter-fails : (p : Change → Bool) (time : ℕ) → ((change : Change) → time ≤ change.time → p change ≡ false) →
    (shown : List (List Bit)) (moments : List Moment) → AllFrom time moments → filter p (later shown moments) ≡ []
filter-fails p time fails shown [] all = refl
filter-fails p time fails shown (moment ∷ moments) all =
    ap (λ v. filter p v) (later-slot shown moment moments)
    ∙ filter-slot_fails p moment.time (λ pairs. fails record { time = moment.time; pairs = pairs } all.0) (differing shown moment.values) (later moment.values moments)
    ∙ filter-fails p time fails moment.values moments all.1

-- a test that each change between two times passes keeps all
filter-passes : (p : Change → Bool) (low high : ℕ) → ((change : Change) → low ≤ change.time → change.time ≤ high → p change ≡ true) →
    (shown : List (List Bit)) (moments : List Moment) → AllFrom low moments → AllTo high moments → filter p (later shown moments) ≡ later shown moments
filter-passes p low high passes shown [] from to = refl
filter-passes p low high passes shown (moment ∷ moments) from to =
    ap (λ v. filter p v) (later-slot shown moment moments)
    ∙ filter-slot_passes p moment.time (λ pairs. passes record { time = moment.time; pairs = pairs } from.0 to.0) (differing shown moment.values) (later moment.values moments)
    ∙ ap (λ v. with_slot moment.time (differing shown moment.values) v) (filter-passes p low high passes moment.values moments from.1 to.1)
    ∙ sym (later-slot shown moment moments)

rest_of-slot : (printed time : ℕ) (pairs : List (ℕ × List Bit)) (rest : List Change) (b : ℕ) →
    rest_of printed (with_slot time pairs rest) b ≡ slot_text_of time pairs ++ rest_of (printed_of printed time pairs) rest b
rest_of-slot printed time [] rest b = refl
rest_of-slot printed time (pair ∷ pairs) rest b = append_assoc (change_text time (pair ∷ pairs)) (flat_map (λ change. change_text change.time change.pairs) rest) _

-- the slots past a, as they are written, are the changes past a and not past b, and the close
rest_text-is : (a : ℕ) (shown : List (List Bit)) (printed : ℕ) (moments : List Moment) (b : ℕ) → AllFrom (suc a) moments → NotFalling moments →
    rest_text shown printed moments b ≡ rest_of printed (filter (is_within a b) (later shown moments)) b
rest_text-is a shown printed [] b from sorted = refl
rest_text-is a shown printed (moment ∷ moments) b from sorted =
    elim (cases_lt b moment.time) [
      | inl past ↦
          let stops : nat_le moment.time b ≡ false = grind (arith, nat_tests) in
          let none : filter (is_within a b) (later shown (moment ∷ moments)) ≡ [] =
          filter-fails (is_within a b) moment.time (λ change h. grind (arith, nat_tests)) shown (moment ∷ moments) (omega arith, sorted.0) in
          rw (stops, none) refl
      | inr upto ↦
          let goes_on : nat_le moment.time b ≡ true = grind (arith, nat_tests) in
          let past_a : nat_lt a moment.time ≡ true = grind (arith, nat_tests) in
          let pairs : List (ℕ × List Bit) = differing shown moment.values in
          let kept : filter (is_within a b) (later shown (moment ∷ moments)) ≡ with_slot moment.time pairs (filter (is_within a b) (later moment.values moments)) =
          ap (λ v. filter (is_within a b) v) (later-slot shown moment moments)
          ∙ filter-slot_passes (is_within a b) moment.time (λ _. rw (past_a, goes_on) refl) pairs (later moment.values moments) in
          rw goes_on (
          ap (λ v. slot_text shown moment.time moment.values ++ v) (rest_text-is a moment.values (printed_after shown printed moment.time moment.values) moments b from.1 sorted.1)
          ∙ sym (rest_of-slot printed moment.time pairs (filter (is_within a b) (later moment.values moments)) b)
          ∙ sym (ap (λ v. rest_of printed v b) kept))
    ]

overwritten-slot : (values : List (List Bit)) (time : ℕ) (pairs : List (ℕ × List Bit)) (rest : List Change) →
    overwritten values (with_slot time pairs rest) ≡ overwritten (overwritten_by values pairs) rest
overwritten-slot values time [] rest = refl
overwritten-slot values time (pair ∷ pairs) rest = refl

-- a window, as it is written, is the values at a and the rest
window_text-is : (now : List (List Bit)) (moments : List Moment) (a b : ℕ) → NotFalling moments → SameLength (length now) moments →
    window_text now moments a b
    ≡ opening_text a (overwritten now (filter (is_upto a) (later now moments))) ++ rest_of a (filter (is_within a b) (later now moments)) b
window_text-is now [] a b sorted same = refl
window_text-is now (moment ∷ moments) a b sorted same =
    elim (cases_lt a moment.time) [
      | inl past ↦
          let stops : nat_le moment.time a ≡ false = grind (arith, nat_tests) in
          let from : AllFrom (suc a) (moment ∷ moments) = (omega arith, AllFrom-weaker (suc a) moment.time moments (omega arith) sorted.0) in
          let none : filter (is_upto a) (later now (moment ∷ moments)) ≡ [] =
          filter-fails (is_upto a) (suc a) (λ change h. grind (arith, nat_tests)) now (moment ∷ moments) from in
          rw (stops, none) (ap (λ v. opening_text a now ++ v) (rest_text-is a now a (moment ∷ moments) b from sorted))
      | inr upto ↦
          let goes_on : nat_le moment.time a ≡ true = grind (arith, nat_tests) in
          let not_past : nat_lt a moment.time ≡ false = grind (arith, nat_tests) in
          let pairs : List (ℕ × List Bit) = differing now moment.values in
          let rest : List Change = later moment.values moments in
          let opening : overwritten now (filter (is_upto a) (later now (moment ∷ moments))) ≡ overwritten moment.values (filter (is_upto a) rest) =
          ap (λ v. overwritten now (filter (is_upto a) v)) (later-slot now moment moments)
          ∙ ap (λ v. overwritten now v) (filter-slot_passes (is_upto a) moment.time (λ _. goes_on) pairs rest)
          ∙ overwritten-slot now moment.time pairs (filter (is_upto a) rest)
          ∙ ap (λ v. overwritten v (filter (is_upto a) rest)) (overwritten_by-differing now moment.values (sym same.0)) in
          let changes : filter (is_within a b) (later now (moment ∷ moments)) ≡ filter (is_within a b) rest =
          ap (λ v. filter (is_within a b) v) (later-slot now moment moments)
          ∙ filter-slot_fails (is_within a b) moment.time (λ _. rw not_past refl) pairs rest in
          let P : ℕ → Type 0 = λ n. SameLength n moments in
          rw (goes_on, opening, changes) (window_text-is moment.values moments a b sorted.1 (subst P (sym same.0) same.1))
    ]

four_parts : (a b c d : List ℕ) → a ++ (b ++ (c ++ d)) ≡ a ++ b ++ c ++ d
four_parts a b c d = simp append_assoc

pub window_text-cut : (source : List ℕ) (d : Netlist) (first : List (List Bit)) (moments : List Moment) (a b : ℕ) →
    IsNonDecreasing (map (λ m. m.time) moments) → All (λ m. length m.values ≡ length first) moments →
    header_text source d ++ window_text first moments a b ≡ dump_text source d (cut (full_dump first moments) a b)
window_text-cut source d first moments a b sorted same =
    ap (λ v. header_text source d ++ v) (window_text-is first moments a b (NotFalling-from moments sorted) (SameLength-from (length first) moments same))
    ∙ four_parts (header_text source d) _ _ _

pub cut-full_dump : (first : List (List Bit)) (moments : List Moment) → IsNonDecreasing (map (λ m. m.time) moments) → All (λ m. 0 < m.time) moments →
    cut (full_dump first moments) 0 (last_moment 0 moments) ≡ full_dump first moments
cut-full_dump first moments sorted past =
    let from : AllFrom 1 moments = AllFrom-from moments past in
    let last : ℕ = last_moment 0 moments in
    let to = AllTo-last_moment 0 moments (NotFalling-from moments sorted) (AllFrom-weaker 0 1 moments (omega arith) from) in
    let none : filter (is_upto 0) (later first moments) ≡ [] = filter-fails (is_upto 0) 1 (λ change h. grind (arith, nat_tests)) first moments from in
    let all : filter (is_within 0 last) (later first moments) ≡ later first moments =
    filter-passes (is_within 0 last) 1 last (λ change h k. grind (arith, nat_tests)) first moments from to.1 in
    rw (none, all) refl
