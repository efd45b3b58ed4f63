-- Vectors past the end of a window change nothing of it.
use Rattle.std.proofs.Common.{◌≡◌, ℕ, zero, suc, ◌+◌, ◌<◌, ◌≤◌, List, [], ◌∷◌, ◌++◌, map, filter, length, Bool, true, false, not, cond, ◌&&◌, nat_lt, nat_le, Option, refl, sym, ap, subst, ◌∙◌, arith, slice_index}
use Rattle.std.proofs.lemmas.List.{append-nil}
use Rattle.std.proofs.lemmas.List.Elements.{filter-append}
use Rattle.std.proofs.lemmas.Bool.{le-leb, leb-true}
use Rattle.std.specs.List.Sorted.{IsStrictlyIncreasing}
use Rattle.vod_io.specs.Told.{appended, Puts}
use Rattle.vod_thin_design.specs.declared.thin.Bit.{Bit}
use Rattle.vod_thin_design.specs.declared.thin.Vector.{Vector}
use Rattle.vod_thin_design.specs.Netlist.{Netlist, IsAccepted}
use Rattle.vod_thin_design.specs.Vectors.{times, IsLawful}
use Rattle.vod_thin_queue.specs.State.{State}
use Rattle.vod_thin_queue.specs.Run.{AreSlots, IsRun}
use Rattle.vod_thin_vcd.specs.Dump.{Moment, Change, Dump, is_empty, differing, slot_changes, overwritten, full_dump, cut, dump_text}
use Rattle.vod_thin_window.specs.Moments.{moments}
use Rattle.vod_thin_window.specs.Progress.{IsOver}
use Rattle.vod_thin_window.specs.Request.{Request, behind, window_of, IsWritten, IsBegun}

-- all are past a time
abbrev ArePast : ℕ → List Moment → Type 0
ArePast b [] = Unit {0}
ArePast b (m ∷ ms) = (b < m.time) × ArePast b ms

abbrev AreLate : ℕ → List Vector → Type 0
AreLate b [] = Unit {0}
AreLate b (v ∷ vs) = (b < v.time) × AreLate b vs

abbrev AllFail : (Change → Bool) → List Change → Type 0
AllFail test [] = Unit {0}
AllFail test (c ∷ cs) = (test c ≡ false) × AllFail test cs

none_step : (test q : Change → Bool) (c : Change) (cs : List Change) (b : Bool) → test c ≡ false → filter test (filter q cs) ≡ [] → filter test (cond b (c ∷ filter q cs) (filter q cs)) ≡ []
none_step test q c cs true f rest = subst (λ v. cond v (c ∷ filter test (filter q cs)) (filter test (filter q cs)) ≡ []) (sym f) rest
none_step test q c cs false f rest = rest

none_of : (test q : Change → Bool) (cs : List Change) → AllFail test cs → filter test (filter q cs) ≡ []
none_of test q [] h = refl
none_of test q (c ∷ cs) h = none_step test q c cs (q c) h.0 (none_of test q cs h.1)

-- the values behind some moments
last_values : List Bit → List Moment → List Bit
last_values values [] = values
last_values values (m ∷ ms) = last_values m.values ms

changes_joined : (values : List Bit) (ms more : List Moment) → slot_changes values (ms ++ more) ≡ slot_changes values ms ++ slot_changes (last_values values ms) more
unfolding last_values
changes_joined values [] more = refl
changes_joined values (m ∷ ms) more = ap (λ cs. record { time = m.time; pairs = differing values m.values } ∷ cs) (changes_joined m.values ms more)

past_fail : (test : Change → Bool) (b : ℕ) → ((c : Change) → b < c.time → test c ≡ false) → (values : List Bit) (more : List Moment) → ArePast b more → AllFail test (slot_changes values more)
past_fail test b fails values [] h = tt
past_fail test b fails values (m ∷ ms) h = (fails (record { time = m.time; pairs = differing values m.values }) h.0, past_fail test b fails m.values ms h.1)

same_filter : (test q : Change → Bool) (b : ℕ) → ((c : Change) → b < c.time → test c ≡ false) → (first : List Bit) (ms more : List Moment) → ArePast b more →
    filter test (filter q (slot_changes first (ms ++ more))) ≡ filter test (filter q (slot_changes first ms))
same_filter test q b fails first ms more past =
    ap (λ cs. filter test (filter q cs)) (changes_joined first ms more)
    ∙ ap (filter test) (filter-append q (slot_changes first ms) (slot_changes (last_values first ms) more))
    ∙ filter-append test (filter q (slot_changes first ms)) (filter q (slot_changes (last_values first ms) more))
    ∙ ap (λ cs. filter test (filter q (slot_changes first ms)) ++ cs) (none_of test q (slot_changes (last_values first ms) more) (past_fail test b fails (last_values first ms) more past))
    ∙ append-nil (filter test (filter q (slot_changes first ms)))

at_most_false : (x b : ℕ) → b < x → nat_le x b ≡ false
at_most_false x b h = by_test (nat_le x b) refl
  where
    by_test : (v : Bool) → nat_le x b ≡ v → nat_le x b ≡ false
    by_test true e = let le = leb-true x b e in absurd (omega arith)
    by_test false e = e

and_no : (x : Bool) → (x && false) ≡ false
and_no true = refl
and_no false = refl

not_before : (a b : ℕ) → a ≤ b → (c : Change) → b < c.time → nat_le c.time a ≡ false
not_before a b le c past = at_most_false c.time a (omega arith)

not_within : (a b : ℕ) → (c : Change) → b < c.time → (nat_lt a c.time && nat_le c.time b) ≡ false
not_within a b c past = ap (λ v. nat_lt a c.time && v) (at_most_false c.time b past) ∙ and_no (nat_lt a c.time)

-- a dump from a to b, with the changes before the window and in it
dump_with : ℕ → ℕ → List Bit → List Change → List Change → Dump
dump_with a b first before within = record { start = a; opening = overwritten first before; changes = within; last = b }

cut_front : (first : List Bit) (ms more : List Moment) (a b : ℕ) → a ≤ b → ArePast b more → cut (full_dump first (ms ++ more)) a b ≡ cut (full_dump first ms) a b
unfolding dump_with
cut_front first ms more a b le past =
    let q : Change → Bool = λ change. not (is_empty change.pairs) in
    let held : filter (λ change. nat_le change.time a) (filter q (slot_changes first (ms ++ more))) ≡ filter (λ change. nat_le change.time a) (filter q (slot_changes first ms))
    = same_filter (λ change. nat_le change.time a) q b (not_before a b le) first ms more past in
    let within : filter (λ change. nat_lt a change.time && nat_le change.time b) (filter q (slot_changes first (ms ++ more))) ≡ filter (λ change. nat_lt a change.time && nat_le change.time b) (filter q (slot_changes first ms))
    = same_filter (λ change. nat_lt a change.time && nat_le change.time b) q b (not_within a b) first ms more past in
    ap (λ cs. dump_with a b first cs (filter (λ change. nat_lt a change.time && nat_le change.time b) (filter q (slot_changes first (ms ++ more))))) held
    ∙ ap (dump_with a b first (filter (λ change. nat_le change.time a) (filter q (slot_changes first ms)))) within

-- the slots of a list of vectors, of which some stand first
split_slots : (d : Netlist) (s : State) (us more : List Vector) (states : List State) → AreSlots d s (us ++ more) states →
    (front : List State) × (back : List State) × (mid : State) × AreSlots d s us front × AreSlots d mid more back × (moments (us ++ more) states ≡ moments us front ++ moments more back)
split_slots d s [] more states h = ([], states, s, tt, h, refl)
split_slots d s (v ∷ us) more [] h = absurd h
split_slots d s (v ∷ us) more (t ∷ ts) h =
    let (front, back, mid, slots, rest, same) = split_slots d t us more ts h.1 in
    (t ∷ front, back, mid, (h.0, slots), rest, ap (λ ms. record { time = v.time; values = t.val } ∷ ms) same)

late_past : (d : Netlist) (s : State) (vs : List Vector) (ends : List State) (b : ℕ) → AreSlots d s vs ends → AreLate b vs → ArePast b (moments vs ends)
late_past d s [] ends b h late = tt
late_past d s (v ∷ vs) [] b h late = absurd h
late_past d s (v ∷ vs) (t ∷ ts) b h late = (late.0, late_past d t vs ts b h.1 late.1)

rising_tail : (x : ℕ) (xs : List ℕ) → IsStrictlyIncreasing (x ∷ xs) → IsStrictlyIncreasing xs
rising_tail x xs up k few =
    let same : suc k + 1 ≡ suc (k + 1) = omega arith in
    subst (λ n. slice_index xs k < slice_index (x ∷ xs) n) same (up (suc k) (omega (arith, few)))

first_time : List Vector → ℕ
first_time [] = 0
first_time (v ∷ vs) = v.time

next_late : (v : Vector) (vs : List Vector) (b : ℕ) → b < v.time → IsStrictlyIncreasing (times (v ∷ vs)) → IsOver vs b
unfolding first_time
next_late v [] b past up w rest e = cc
next_late v (u ∷ vs) b past up w rest e =
    let next : v.time < u.time = up 0 (omega arith) in
    let same : u.time ≡ w.time = ap first_time e in
    omega arith

late_from : (vs : List Vector) (b : ℕ) → IsStrictlyIncreasing (times vs) → IsOver vs b → AreLate b vs
late_from [] b up over = tt
late_from (v ∷ vs) b up over = (over v vs refl, late_from vs b (rising_tail v.time (times vs) up) (next_late v vs b (over v vs refl) up))

late_behind : (us more : List Vector) (b : ℕ) → IsStrictlyIncreasing (times (us ++ more)) → IsOver more b → AreLate b more
late_behind [] more b up over = late_from more b up over
late_behind (u ∷ us) more b up over = late_behind us more b (rising_tail u.time (times (us ++ more)) up) over

-- the window of a run is that of its front
same_window : (r : Request) (more : List Vector) (from to : ℕ) → IsLawful r.design (r.vectors ++ more) → IsOver more to → from ≤ to → (start : State) (states : List State) → IsRun r.design (r.vectors ++ more) start states →
    (front : List State) × IsRun r.design r.vectors start front × (window_of (behind r more) from to start states ≡ window_of r from to start front)
same_window r more from to lawful over le start states run =
    let (front, back, mid, slots, rest, same) = split_slots r.design start r.vectors more states run.slots in
    let past : ArePast to (moments more back) = late_past r.design mid more back to rest (late_behind r.vectors more to lawful.rising over) in (
      front,
      record { first_slot = run.first_slot; slots = slots },
      ap (λ ms. dump_text r.source r.design (cut (full_dump start.val ms) from to)) same
          ∙ ap (dump_text r.source r.design) (cut_front start.val (moments r.vectors front) (moments more back) from to le past),
    )

pub front_written : (r : Request) (more : List Vector) (from to : ℕ) (before after : Option (List ℕ)) → IsLawful r.design (r.vectors ++ more) → IsOver more to → from ≤ to →
    ((first : State) × (ends : List State) × IsRun r.design (r.vectors ++ more) first ends) →
    IsWritten r (window_of r from to) before after → IsWritten (behind r more) (window_of (behind r more) from to) before after
front_written r more from to before after lawful over le exists w = record {
  first = exists.0;
  ends = exists.1;
  run = exists.2;
  every = λ start states legal.
      let (front, run, same) = same_window r more from to lawful over le start states legal in
      w.every start front run ∙ ap (appended before) (sym same);
}

pub front_begun : (r : Request) (more : List Vector) (from to : ℕ) (before after : Option (List ℕ)) → IsLawful r.design (r.vectors ++ more) → IsOver more to → from ≤ to →
    IsBegun r (window_of r from to) before after → IsBegun (behind r more) (window_of (behind r more) from to) before after
front_begun r more from to before after lawful over le w = record {
  every = λ start states legal.
      let (front, run, same) = same_window r more from to lawful over le start states legal in
      subst (λ t. (rest : List ℕ) × Puts before after t rest) (sym same) (w.every start front run);
}
