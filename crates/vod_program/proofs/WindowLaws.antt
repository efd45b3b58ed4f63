-- Each answer of `window`, from what its steps say.
use Rattle.std.proofs.Common.{◌≡◌, ℕ, ◌<◌, ◌≤◌, ◌⊎◌, ◌==◌, List, [], ◌∷◌, ◌++◌, length, Bool, true, false, nat_le, nat_lt, if◌then◌else◌, Option, None, Some, Result, Ok, Err, All, refl, sym, ap, subst, ◌∙◌, inl, inr, arith, cond}
use Rattle.std.proofs.lemmas.List.Elements.{All-head}
use Rattle.vod_thin_design.specs.declared.thin.Vector.{Vector}
use Rattle.vod_thin_design.specs.Netlist.{Netlist, IsAccepted}
use Rattle.vod_thin_design.specs.Vectors.{IsLawful, times}
use Rattle.vod_io.specs.Faults.{Rose}
use Rattle.vod_log.specs.Format.{Entry, committed, counts_of}
use Rattle.vod_log.specs.declared.header.Header.{Header}
use Rattle.vod_thin_replay.specs.Range.{range_of, since_range}
use Rattle.vod_thin_replay.specs.declared.held.RangeFault.{RangeFault}
use Rattle.vod_thin_replay.specs.declared.held.RangeFault.TheVariants as range
use Rattle.vod_thin_code.specs.Bytes.{IsHead}
use Rattle.vod_thin_code.specs.Held.{IsHeld, IsSound}
use Rattle.vod_thin_replay.specs.Replay.{HoldsSource, IsHeadDamagedAt, IsDamagedAt, IsDamagedUpTo, IsHeldUpTo, OnDamaged}
use Rattle.vod_thin_replay.specs.declared.ReplayFault.{ReplayFault}
use Rattle.vod_thin_replay.specs.declared.ReplayFault.TheVariants as replay
use Rattle.vod_thin_window.specs.declared.window.Window as span
use Rattle.vod_thin_window.specs.declared.window.WindowFault.{WindowFault}
use Rattle.vod_thin_window.specs.declared.window.WindowFault.TheVariants as fault
use Rattle.vod_thin_window.specs.Progress.{IsOver}
use Rattle.vod_thin_window.specs.Request.{Request, behind, window_of, IsWritten, IsBegun}
use Rattle.vod_program.specs.declared.status.Fault.{Fault}
use Rattle.vod_program.specs.declared.status.Fault.TheVariants as failed
use Rattle.vod_program.specs.declared.status.Part.TheVariants as part
use Rattle.vod_program.specs.Sources.{IsSource, IsOtherSource}
use Rattle.vod_program.specs.Phases.{window_fault, replay_fault, Fails}
use Rattle.vod_program.specs.Answer.{Output, Device, IsRisen, IsDeckRisen, IsInside, HoldsThin, HoldsOther, IsDamaged, OnSound, WindowAnswers}
use Rattle.vod_program.proofs.AnswerLaws.{request}
use Rattle.vod_program.proofs.PhaseLaws.{le_from}

-- the head's source isn't read
pub no_source : (out : Output) (deck : Device) (window : span.Window) (f : ReplayFault) → (deck.told → IsInside deck.before.bytes window) → (f ≡ replay.Deck → IsDeckRisen deck) →
    OnDamaged f (λ at. deck.told → IsHeadDamagedAt deck.before.bytes at) → out.after ≡ out.before → WindowAnswers out deck window (Err (replay_fault f))
no_source out deck window replay.Deck inside rose wrong same = rose refl
no_source out deck window (replay.Damaged at) inside rose wrong same = λ told. (inside told, inl (wrong told))
no_source out deck window replay.Memory inside rose wrong same = inl same

-- the held source isn't of the thin form
pub no_form : (out : Output) (deck : Device) (window : span.Window) (source : List ℕ) (f : Fault) → (deck.told → IsInside deck.before.bytes window) → (deck.told → HoldsSource deck.before.bytes source) → (f ≡ failed.Read → ⊥) →
    Fails part.Log f (λ at. (at ≡ 0) × IsOtherSource source) → out.after ≡ out.before → WindowAnswers out deck window (Err f)
no_form out deck window source f inside has read (inl e) same = absurd (read e)
no_form out deck window source f inside has read (inr (inl e)) same = subst (λ v. WindowAnswers out deck window (Err v)) (sym e) (inl same)
no_form out deck window source f inside has read (inr (inr (at, e, refused))) same =
    subst (λ v. WindowAnswers out deck window (Err v)) (sym e) (λ told. inr (inside told, record { source = source; has_source = has told; other = refused.1 }, refused.0))

-- the vectors aren't read
pub no_vectors : (out : Output) (deck : Device) (window : span.Window) (source : List ℕ) (d : Netlist) (f : ReplayFault) → (deck.told → IsInside deck.before.bytes window) → (deck.told → HoldsSource deck.before.bytes source) → IsSource source d → IsAccepted d →
    (f ≡ replay.Deck → IsDeckRisen deck) → OnDamaged f (λ at. deck.told → IsDamagedAt d deck.before.bytes at) → OnDamaged f (λ at. deck.told → IsDamagedUpTo d deck.before.bytes window.to at) → out.after ≡ out.before →
    WindowAnswers out deck window (Err (replay_fault f))
no_vectors out deck window source d replay.Deck inside has is accepted rose wrong first same = rose refl
no_vectors out deck window source d (replay.Damaged at) inside has is accepted rose wrong first same = λ told. (inside told, inr (source, d, has told, is, accepted, wrong told, first told))
no_vectors out deck window source d replay.Memory inside has is accepted rose wrong first same = inl same

-- the laws that make of what is read what is held
pub record Laws : Type 0 where
  pub one_head : (payload : List ℕ) (i j : ℕ) (source other : List ℕ) → IsHead payload i source → IsHead payload j other → (i ≡ j) × (source ≡ other)
  pub one_design : (source : List ℕ) (d e : Netlist) → IsSource source d → IsSource source e → d ≡ e

first_of : List Entry → List ℕ
first_of [] = []
first_of (e ∷ es) = e.payload

-- the source that was read is the one that is held
-- a log holds one source at most
pub one_source : Laws → (bytes source other : List ℕ) → HoldsSource bytes source → HoldsSource bytes other → source ≡ other
unfolding first_of
one_source laws bytes source other a b =
    let payloads : a.head.payload ≡ b.head.payload = ap first_of (sym a.entries ∙ b.entries) in
    (laws.one_head b.head.payload a.interval b.interval source other (subst (λ p. IsHead p a.interval source) payloads a.is_head) b.is_head).1

-- a head that is read isn't wrong
pub some_source : (bytes source : List ℕ) (at : ℕ) → HoldsSource bytes source → IsHeadDamagedAt bytes at → ⊥
unfolding first_of
some_source bytes source at has (inl none) = let clash : has.head ∷ has.batches ≡ [] = sym has.entries ∙ none.0 in cc
some_source bytes source at has (inr none) =
    let payloads : has.head.payload ≡ none.head.payload = ap first_of (sym has.entries ∙ none.entries) in
    none.no_head has.interval source (subst (λ p. IsHead p has.interval source) payloads has.is_head)

pub same_source : Laws → (bytes source other : List ℕ) (d : Netlist) (interval : ℕ) (vs : List Vector) → HoldsSource bytes source → IsHeld d other interval vs bytes → source ≡ other
unfolding first_of
same_source laws bytes source other d interval vs has held =
    let payloads : has.head.payload ≡ held.head.payload = ap first_of (sym has.entries ∙ held.entries) in
    (laws.one_head held.head.payload has.interval interval source other (subst (λ p. IsHead p has.interval source) payloads has.is_head) held.is_head).1

-- times past an end are those of vectors past it
none_due : (rest : List Vector) (to : ℕ) → All (λ t. to < t) (times rest) → IsOver rest to
none_due rest to past v more e = All-head (λ t. to < t) v.time (times more) (subst (λ vs. All (λ t. to < t) (times vs)) e past)

-- a text of the window of what was read is one of the window of a sound log
pub on_sound : Laws → (P : Request → Type 0) (deck : Device) (source : List ℕ) (d : Netlist) (us : List Vector) (to : ℕ) → (deck.told → HoldsSource deck.before.bytes source) → IsSource source d → (deck.told → IsHeldUpTo d deck.before.bytes to us) →
    (deck.told → (rest : List Vector) → IsLawful d (us ++ rest) → IsOver rest to → P (behind (request source d us) rest)) → OnSound deck P
on_sound laws P deck source d us to has is reads holds told other e interval vs is_other sound =
    let sources : source ≡ other = same_source laws deck.before.bytes source other e interval vs (has told) sound.held in
    let designs : d ≡ e = laws.one_design other d e (subst (λ s. IsSource s d) sources is) is_other in
    let held : IsHeld d source interval vs deck.before.bytes = subst (λ s. IsHeld d s interval vs deck.before.bytes) (sym sources) (subst (λ n. IsHeld n other interval vs deck.before.bytes) (sym designs) sound.held) in
    let before : IsLawful d vs = subst (λ n. IsLawful n vs) (sym designs) sound.lawful in
    let (rest, all, past) = reads told source interval vs held in
    let lawful : IsLawful d (us ++ rest) = subst (λ ws. IsLawful d ws) all before in
    subst (λ s. P (request s e vs)) sources (subst (λ n. P (request source n vs)) designs (subst (λ ws. P (request source d ws)) (sym all) (holds told rest lawful (none_due rest to (past before)))))

-- the window isn't written whole
pub no_window : (out : Output) (deck : Device) (window : span.Window) (f : WindowFault) → (deck.told → IsInside deck.before.bytes window × HoldsThin deck.before.bytes) → (f ≡ fault.Write → IsRisen out.faults) →
    OnSound deck (λ r. IsBegun r (window_of r window.from window.to) out.before out.after) → WindowAnswers out deck window (Err (window_fault f))
no_window out deck window fault.Write inside write begun = (write refl, inside, begun)
no_window out deck window fault.Memory inside write begun = inr begun

-- a count that rose behind a later one rose behind an earlier one
pub rose_from : (a b c : ℕ) → a ≤ b → Rose b c → Rose a c
rose_from a b c le rose = omega (arith, le, rose)

-- the same damage in the same bytes
pub damaged_same : (f : ReplayFault) (told : Type 0) (P : List ℕ → ℕ → Type 0) (a b : List ℕ) → (told → a ≡ b) → OnDamaged f (λ at. told → P a at) → OnDamaged f (λ at. told → P b at)
damaged_same replay.Deck told P a b same h = tt
damaged_same (replay.Damaged at) told P a b same h = λ t. subst (λ x. P x at) (same t) (h t)
damaged_same replay.Memory told P a b same h = tt

-- the refusals behind the first
later : span.Window → Option Header → Result (Unit {0}) RangeFault
later window last =
    if (counts_of last).vectors == 0 then Err range.NothingHeld
    else since_range (counts_of last).known (counts_of last).last window.from window.to

-- a window that a log holds doesn't end before it begins
pub in_order : (bytes : List ℕ) (window : span.Window) → IsInside bytes window → window.from ≤ window.to
unfolding later
in_order bytes window inside = by_test (nat_lt window.to window.from) refl inside.range
  where
    by_test : (t : Bool) → nat_lt window.to window.from ≡ t → range_of (counts_of (committed bytes).last) window.from window.to ≡ Ok tt → window.from ≤ window.to
    by_test false e h = le_from window.to window.from e
    by_test true e h = let clash : Err range.Backwards ≡ Ok tt = sym (ap (λ t. cond t (Err range.Backwards) (later window (committed bytes).last)) e) ∙ h in cc
