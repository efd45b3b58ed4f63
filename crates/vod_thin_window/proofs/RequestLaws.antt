-- The window of a request, from what the four calls of the writer write.
use Rattle.std.proofs.Common.{◌≡◌, ℕ, zero, suc, ◌<◌, ◌≤◌, ◌^◌, List, [], ◌∷◌, ◌++◌, map, length, All, refl, sym, ap, subst, ◌∙◌, arith, Option, Result, Ok, Err}
use Rattle.std.proofs.lemmas.List.Elements.{All-head, All-tail}
use Rattle.std.specs.List.Sorted.{IsStrictlyIncreasing, IsNonDecreasing}
use Rattle.vod_io.specs.Told.{appended, Puts, Written}
use Rattle.vod_io.proofs.Puts.{Puts-start}
use Rattle.vod_thin_design.specs.declared.thin.Bit.{Bit}
use Rattle.vod_thin_design.specs.declared.thin.Vector.{Vector}
use Rattle.vod_thin_design.specs.Netlist.{Netlist}
use Rattle.vod_thin_design.specs.Vectors.{times, IsLawful, last_time, last_time_after}
use Rattle.vod_thin_queue.specs.State.{State, start_of}
use Rattle.vod_thin_queue.specs.Run.{Completes, AreSlots, IsRun}
use Rattle.vod_thin_vcd.specs.Text.{header_text}
use Rattle.vod_thin_vcd.specs.Dump.{Moment, full_dump, last_moment, cut, dump_text}
use Rattle.vod_thin_vcd.specs.Stream.{window_text}
use Rattle.vod_thin_vcd.proofs.Times.{IsNonDecreasing-from_increasing}
use Rattle.vod_thin_window.specs.Moments.{moments}
use Rattle.vod_thin_window.specs.Progress.{IsReady, Awaits}
use Rattle.vod_thin_window.specs.Request.{Request, dump_of, window_of, IsWritten, IsBegun}
use Rattle.vod_thin_window.proofs.StepsLaws.{Goes, goes_on}

-- the streamed window is the text of the cut
abbrev pub StreamIsCut : Type 0
StreamIsCut = (source : List ℕ) (d : Netlist) (first : List Bit) (moments : List Moment) (a b : ℕ) →
    IsNonDecreasing (map (λ m. m.time) moments) → All (λ m. length m.values ≡ length first) moments →
    header_text source d ++ window_text first moments a b ≡ dump_text source d (cut (full_dump first moments) a b)

-- the cut of everything is the full dump
abbrev pub WholeIsFull : Type 0
WholeIsFull = (first : List Bit) (moments : List Moment) → IsNonDecreasing (map (λ m. m.time) moments) → All (λ m. 0 < m.time) moments →
    cut (full_dump first moments) 0 (last_moment 0 moments) ≡ full_dump first moments

moments_times : (d : Netlist) (s : State) (vs : List Vector) (ends : List State) → AreSlots d s vs ends → map (λ m. m.time) (moments vs ends) ≡ times vs
moments_times d s [] ends h = refl
moments_times d s (v ∷ vs) [] h = absurd h
moments_times d s (v ∷ vs) (e ∷ es) h = ap (λ ts. v.time ∷ ts) (moments_times d e vs es h.1)

moments_last : (d : Netlist) (s : State) (vs : List Vector) (ends : List State) (t : ℕ) → AreSlots d s vs ends → last_moment t (moments vs ends) ≡ last_time_after t vs
moments_last d s [] ends t h = refl
moments_last d s (v ∷ vs) [] t h = absurd h
moments_last d s (v ∷ vs) (e ∷ es) t h = moments_last d e vs es v.time h.1

-- the last of some vectors stands last
pub last_time_of : (t : ℕ) (front : List Vector) (w : Vector) → last_time_after t (front ++ w ∷ []) ≡ w.time
last_time_of t [] w = refl
last_time_of t (v ∷ vs) w = last_time_of v.time vs w

all_cons : (P : Moment → Type 0) (m : Moment) (ms : List Moment) → P m → All P ms → All P (m ∷ ms)
all_cons P m ms here behind zero x h = here
all_cons P m ms here behind (suc k) x h = behind k x (omega arith)

moments_shaped : Goes → (d : Netlist) (s : State) (vs : List Vector) (ends : List State) → Awaits d s vs → AreSlots d s vs ends → All (λ m. length m.values ≡ length d.signals) (moments vs ends)
moments_shaped law d s [] ends a h = λ k x few. absurd (omega arith)
moments_shaped law d s (v ∷ vs) [] a h = absurd h
moments_shaped law d s (v ∷ vs) (e ∷ es) a h =
    let next = goes_on law d s e v vs a h.0 in
    all_cons (λ w. length w.values ≡ length d.signals) (record { time = v.time; values = e.val }) (moments vs es) next.ready.shaped.val (moments_shaped law d e vs es next h.1)

moments_past : (d : Netlist) (s : State) (vs : List Vector) (ends : List State) → All (λ t. (1 ≤ t) × (t < 2 ^ 63)) (times vs) → AreSlots d s vs ends → All (λ m. 0 < m.time) (moments vs ends)
moments_past d s [] ends a h = λ k x few. absurd (omega arith)
moments_past d s (v ∷ vs) [] a h = absurd h
moments_past d s (v ∷ vs) (e ∷ es) a h =
    let here = All-head (λ t. (1 ≤ t) × (t < 2 ^ 63)) v.time (times vs) a in
    let one = here.0 in
    all_cons (λ w. 0 < w.time) (record { time = v.time; values = e.val }) (moments vs es) (omega arith) (moments_past d e vs es (All-tail (λ t. (1 ≤ t) × (t < 2 ^ 63)) v.time (times vs) a) h.1)

moments_rise : (d : Netlist) (s : State) (vs : List Vector) (ends : List State) → IsLawful d vs → AreSlots d s vs ends → IsNonDecreasing (map (λ m. m.time) (moments vs ends))
moments_rise d s vs ends lawful slots = IsNonDecreasing-from_increasing _ (subst IsStrictlyIncreasing (sym (moments_times d s vs ends slots)) lawful.rising)

-- what the calls write in turn is the window of the run
pub streamed_window : Goes → StreamIsCut → (r : Request) (from to : ℕ) (first : State) (ends : List State) → Awaits r.design first r.vectors → IsLawful r.design r.vectors → AreSlots r.design first r.vectors ends →
    header_text r.source r.design ++ window_text first.val (moments r.vectors ends) from to ≡ window_of r from to first ends
streamed_window goes law r from to first ends awaits lawful slots =
    law r.source r.design first.val (moments r.vectors ends) from to (moments_rise r.design first r.vectors ends lawful slots)
    (subst (λ n. All (λ m. length m.values ≡ n) (moments r.vectors ends)) (sym awaits.ready.shaped.val) (moments_shaped goes r.design first r.vectors ends awaits slots))

-- the window of everything is the dump
pub whole_window : WholeIsFull → (r : Request) (first : State) (ends : List State) → IsLawful r.design r.vectors → AreSlots r.design first r.vectors ends → window_of r 0 (last_time r.vectors) first ends ≡ dump_of r first ends
whole_window law r first ends lawful slots =
    ap (λ t. dump_text r.source r.design (cut (full_dump first.val (moments r.vectors ends)) 0 t)) (sym (moments_last r.design first r.vectors ends 0 slots))
    ∙ ap (dump_text r.source r.design) (law first.val (moments r.vectors ends) (moments_rise r.design first r.vectors ends lawful slots) (moments_past r.design first r.vectors ends lawful.within slots))

pub dump_written : WholeIsFull → (r : Request) (to : ℕ) (before after : Option (List ℕ)) → to ≡ last_time r.vectors → IsLawful r.design r.vectors → IsWritten r (window_of r 0 to) before after → IsWritten r (dump_of r) before after
dump_written law r to before after at lawful w = record {
  first = w.first;
  ends = w.ends;
  run = w.run;
  every = λ start states legal. subst (λ t. after ≡ appended before t) (ap (λ t. window_of r 0 t start states) at ∙ whole_window law r start states lawful legal.slots) (w.every start states legal);
}

pub dump_begun : WholeIsFull → (r : Request) (to : ℕ) (before after : Option (List ℕ)) → to ≡ last_time r.vectors → IsLawful r.design r.vectors → IsBegun r (window_of r 0 to) before after → IsBegun r (dump_of r) before after
dump_begun law r to before after at lawful w = record {
  every = λ start states legal. subst (λ t. (rest : List ℕ) × Puts before after t rest) (ap (λ t. window_of r 0 t start states) at ∙ whole_window law r start states lawful legal.slots) (w.every start states legal);
}

-- the run of any order has the first state and the slots of the one that was taken
run_slots : (d : Netlist) (vs : List Vector) (first start : State) (states : List State) → ((t : State) → Completes d (start_of d) t → t ≡ first) → IsRun d vs start states → (start ≡ first) × AreSlots d first vs states
run_slots d vs first start states only run =
    let same = only start run.first_slot in
    (same, subst (λ s. AreSlots d s vs states) same run.slots)

-- whatever a call wrote of the streamed window, it wrote of the window of every legal run
abbrev pub WritesRun : {T E : Type 0} → Result T E → List ℕ → Netlist → List Vector → ℕ → ℕ → State → Option (List ℕ) → Option (List ℕ) → Type 0
WritesRun result header d vs from to first before after =
    (ends : List State) → AreSlots d first vs ends → Written result before after (header ++ window_text first.val (moments vs ends) from to)

every_window : {T E : Type 0} (result : Result T E) → Goes → StreamIsCut → (r : Request) (from to : ℕ) (first : State) (before after : Option (List ℕ)) →
    Awaits r.design first r.vectors → IsLawful r.design r.vectors → ((t : State) → Completes r.design (start_of r.design) t → t ≡ first) →
    WritesRun result (header_text r.source r.design) r.design r.vectors from to first before after →
    (start : State) (states : List State) → IsRun r.design r.vectors start states → Written result before after (window_of r from to start states)
every_window result goes law r from to first before after awaits lawful only writes start states run =
    let at = run_slots r.design r.vectors first start states only run in
    let text = streamed_window goes law r from to first states awaits lawful at.1 in
    let whole : header_text r.source r.design ++ window_text first.val (moments r.vectors states) from to ≡ window_of r from to start states =
    text ∙ ap (λ s. window_of r from to s states) (sym at.0) in
    subst (λ w. Written result before after w) whole (writes states at.1)

pub window_written : {T E : Type 0} (result : Result T E) (x : T) → result ≡ Ok x → Goes → StreamIsCut → (r : Request) (from to : ℕ) (first : State) (before after : Option (List ℕ)) →
    Awaits r.design first r.vectors → IsLawful r.design r.vectors → ((t : State) → Completes r.design (start_of r.design) t → t ≡ first) →
    ((start : State) × (states : List State) × IsRun r.design r.vectors start states) →
    WritesRun result (header_text r.source r.design) r.design r.vectors from to first before after → IsWritten r (window_of r from to) before after
window_written result x e goes law r from to first before after awaits lawful only run writes = record {
  first = run.0;
  ends = run.1;
  run = run.2;
  every = λ start states legal.
      let written = every_window result goes law r from to first before after awaits lawful only writes start states legal in
      subst (λ v. Written v before after (window_of r from to start states)) e written;
}

pub window_begun : {T E : Type 0} (result : Result T E) (x : E) → result ≡ Err x → Goes → StreamIsCut → (r : Request) (from to : ℕ) (first : State) (before after : Option (List ℕ)) →
    Awaits r.design first r.vectors → IsLawful r.design r.vectors → ((t : State) → Completes r.design (start_of r.design) t → t ≡ first) →
    WritesRun result (header_text r.source r.design) r.design r.vectors from to first before after → IsBegun r (window_of r from to) before after
window_begun result x e goes law r from to first before after awaits lawful only writes = record {
  every = λ start states legal.
      let written = every_window result goes law r from to first before after awaits lawful only writes start states legal in
      subst (λ v. Written v before after (window_of r from to start states)) e written;
}

-- nothing was written
pub not_begun : (r : Request) (text : State → List State → List ℕ) (before : Option (List ℕ)) → IsBegun r text before before
not_begun r text before = record { every = λ start states legal. (text start states, Puts-start before (text start states)) }
