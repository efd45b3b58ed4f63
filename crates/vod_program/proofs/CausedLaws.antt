-- Each status of the program, from the answer of its command and the report of it.
use Rattle.std.proofs.Common.{◌≡◌, ◌⊎◌, ℕ, ◌<◌, ◌≤◌, ◌^◌, List, [], length, true, false, min, Option, None, Some, Result, Ok, Err, refl, sym, ap, subst, ◌∙◌, inl, inr, arith}
use Rattle.vod_thin_design.specs.declared.thin.Vector.{Vector}
use Rattle.vod_thin_design.specs.Netlist.{Netlist, IsAccepted}
use Rattle.vod_log.specs.Format.{committed, counts_of}
use Rattle.vod_thin_script.specs.Script as script
use Rattle.vod_thin_code.specs.Held.{IsHeld, IsSound}
use Rattle.vod_thin_replay.specs.Range.{range_of}
use Rattle.vod_thin_replay.specs.declared.held.RangeFault as range
use Rattle.vod_thin_replay.specs.Replay.{HoldsSource, IsReadUpTo, IsHeadDamagedAt, IsDamagedAt, IsDamagedUpTo}
use Rattle.vod_thin_window.specs.declared.window.Window as span
use Rattle.vod_thin_window.specs.Request.{Request}
use Rattle.vod_program.specs.Sources.{IsSource, IsRefusedSource, IsOtherSource, IsUnrecordable}
use Rattle.vod_program.specs.Answer.{Count, IsRisen, Inputs, Output, Device, World, IsDeckRisen, HasNoCommand, HasDesign, Asks, IsFresh, IsPlain, IsInside, HasImage, HoldsThin, HoldsOther, IsDamaged, HoldsUpTo, DumpAnswers, RecordAnswers, WindowAnswers, CommandAnswers, Answers}
use Rattle.vod_io.specs.Told.{appended, Puts}
use Rattle.vod_program.specs.Ends.{line_of, status_of, Reports}
use Rattle.vod_program.specs.Caused.{status_for, IsReported, IsCaused, IsCalm, ToldDesign, DumpStands, RecordStands, WindowStands, IsFirstDamaged, Stands, IsComplete, IsAnswered, status_line, IsSaid, MayWrite}
use Rattle.vod_program.specs.Command.{IsCommand}
use Rattle.vod_program.specs.Quiet.{Writes}
use Rattle.std.proofs.lemmas.List.{append-nil}
use Rattle.vod_thin_replay.specs.declared.held.RangeFault.TheVariants as ranges
use Rattle.vod_program.proofs.SourceLaws.{OneAnswer}
use Rattle.vod_program.proofs.CommandLaws.{one_command}
use Rattle.vod_program.proofs.WindowLaws.{Laws, one_source, some_source, same_source}
use Rattle.vod_program.specs.declared.command.Command.{Command}
use Rattle.vod_program.specs.declared.command.Command.TheVariants as command
use Rattle.vod_program.specs.declared.status.Part.TheVariants as part
use Rattle.vod_program.specs.declared.status.Status.{Status}
use Rattle.vod_program.specs.declared.status.Status.TheVariants as status
use Rattle.vod_program.specs.declared.status.Fault.{Fault}
use Rattle.vod_program.specs.declared.status.Fault.TheVariants as failed

-- the answer that was wanted, or want of memory
abbrev IsWanted : Result (Unit {0}) Fault → Result (Unit {0}) Fault → Type 0
IsWanted result wanted = (result ≡ wanted) ⊎ (result ≡ Err failed.Memory)

-- no source or script failed
no_read : {P : Type 0} (w : World) (err : Count) → IsCalm w err → IsRisen w.inputs.design_faults ⊎ (P × IsRisen w.inputs.input_faults) → ⊥
no_read w err calm (inl rose) = calm.design rose
no_read w err calm (inr other) = calm.input other.1

-- a told design isn't refused, and is one
refused_not : OneAnswer → (i : Inputs) (d : Netlist) (place : ℕ) → ToldDesign i d → ((source : List ℕ) → i.source ≡ Some source → IsRefusedSource source place) → ⊥
refused_not one i d place (source, told, is) h = one.apart source d place is (h source told)

-- what is told of a design, by the one that the source has
by_design : OneAnswer → (i : Inputs) (d : Netlist) (P : Netlist → Type 0) → ToldDesign i d → ((source : List ℕ) → i.source ≡ Some source → (e : Netlist) × IsSource source e × P e) → P d
by_design one i d P (source, told, is) h =
    let (e, other, p) = h source told in
    subst P (one.design source e d other is) p

-- what is asked for has the told design
asked_apart : OneAnswer → (i : Inputs) (r : Request) (source : List ℕ) (place : ℕ) → Asks i r → i.source ≡ Some source → IsRefusedSource source place → ⊥
asked_apart one i r source place asks told refused = one.apart source r.design place (subst (λ s. IsSource s r.design) (asks.source source told) asks.design) refused

asked_script : OneAnswer → (i : Inputs) (r : Request) (d : Netlist) (text : List ℕ) → ToldDesign i d → Asks i r → i.script ≡ Some text → script.IsScript d text r.vectors
asked_script one i r d text (source, told, is) asks read =
    let same : r.design ≡ d = one.design source r.design d (subst (λ s. IsSource s r.design) (asks.source source told) asks.design) is in
    subst (λ e. script.IsScript e text r.vectors) same (asks.script text read)

-- a script is refused, or isn't recorded, at one line, and then isn't recorded whole
unrecordable_not : OneAnswer → (source : List ℕ) (d : Netlist) (text : List ℕ) (line : ℕ) (vs : List Vector) → IsSource source d → IsUnrecordable d text line → script.IsScript d text vs → length vs < 4096 → ⊥
unrecordable_not one source d text line vs is (inl (wrong, refused, e)) reads few = one.unread source d text wrong vs is refused reads
unrecordable_not one source d text line vs is (inr (ws, other, many, e)) reads few =
    let same : length vs ≡ length ws = ap length (one.reading source d text vs ws is reads other) in
    absurd (omega (arith, same, many, few))

one_unrecordable : OneAnswer → (source : List ℕ) (d : Netlist) (text : List ℕ) (k l : ℕ) → IsSource source d → IsUnrecordable d text k → IsUnrecordable d text l → k ≡ l
one_unrecordable one source d text k l is (inl (v, refused, e)) (inl (w, again, f)) = e ∙ ap (λ n. min n 4096) (one.line source d text v w is refused again) ∙ sym f
one_unrecordable one source d text k l is (inl (v, refused, e)) (inr (ws, reads, many, f)) = absurd (one.unread source d text v ws is refused reads)
one_unrecordable one source d text k l is (inr (vs, reads, many, e)) (inl (w, again, f)) = absurd (one.unread source d text w vs is again reads)
one_unrecordable one source d text k l is (inr (vs, reads, many, e)) (inr (ws, again, more, f)) = e ∙ sym f

no_record_read : (w : World) (err : Count) → IsCalm w err → IsRisen w.inputs.design_faults ⊎ (HasDesign w.inputs × (w.device.told → IsFresh w.device) × IsRisen w.inputs.input_faults) → ⊥
no_record_read w err calm (inl rose) = calm.design rose
no_record_read w err calm (inr other) = calm.input other.2

-- the laws of held logs
pub record Held : Type 0 where
  pub laws : Laws
  pub undamaged : (d : Netlist) → IsAccepted d → (source : List ℕ) (interval : ℕ) (vs : List Vector) (bytes : List ℕ) (at : ℕ) → IsSound d source interval vs bytes → IsDamagedAt d bytes at → ⊥
  pub apart : (d : Netlist) → IsAccepted d → (bytes : List ℕ) (to : ℕ) (vs : List Vector) (at : ℕ) → IsReadUpTo d bytes to vs → IsDamagedUpTo d bytes to at → ⊥
  pub place : (d : Netlist) → IsAccepted d → (bytes : List ℕ) (to at other : ℕ) → IsDamagedUpTo d bytes to at → IsDamagedUpTo d bytes to other → at ≡ other
  pub head : (bytes : List ℕ) (at other : ℕ) → IsHeadDamagedAt bytes at → IsHeadDamagedAt bytes other → at ≡ other

same_some : {A : Type 0} {a b : A} → Some a ≡ Some b → a ≡ b
same_some e = cc

same_err : {a b : range.RangeFault} (r : Result (Unit {0}) range.RangeFault) → r ≡ Err a → r ≡ Err b → a ≡ b
same_err r e f = let both = sym e ∙ f in cc

framed_clash : (bytes : List ℕ) → (committed bytes).framed ≡ true → (committed bytes).framed ≡ false → ⊥
framed_clash bytes is not = let differ : true ≡ false = sym is ∙ not in cc

range_clash : (bytes : List ℕ) (window : span.Window) (fault : range.RangeFault) → range_of (counts_of (committed bytes).last) window.from window.to ≡ Ok tt → range_of (counts_of (committed bytes).last) window.from window.to ≡ Err fault → ⊥
range_clash bytes window fault none some = let differ : Ok tt ≡ Err fault = sym none ∙ some in cc

image_clash : (bytes : List ℕ) (at : ℕ) → IsPlain bytes → HasImage bytes at → ⊥
image_clash bytes at plain has = let clash : None ≡ Some at = sym plain.no_image ∙ has.image in cc

-- what stands where a log isn't read yet
abbrev IsNoLog : List ℕ → span.Window → ℕ → Type 0
IsNoLog bytes window at = HasImage bytes at ⊎ (IsInside bytes window × HoldsOther bytes × (at ≡ 0))

-- a source of the thin form is no other
other_apart : OneAnswer → (source : List ℕ) (d : Netlist) → IsSource source d → IsOtherSource source → ⊥
other_apart one source d is (inl long) = let short = is.short in absurd (omega (arith, long, short))
other_apart one source d is (inr (place, refused)) = one.apart source d place is refused

sound_no_log : OneAnswer → Held → (bytes : List ℕ) (window : span.Window) (at : ℕ) (source : List ℕ) (d : Netlist) (interval : ℕ) (vs : List Vector) → IsInside bytes window → IsSource source d → IsSound d source interval vs bytes → IsNoLog bytes window at → ⊥
sound_no_log one held bytes window at source d interval vs inside is sound (inl image) = image_clash bytes at inside.plain image
sound_no_log one held bytes window at source d interval vs inside is sound (inr (here, other, zero_is)) =
    let same = same_source held.laws bytes other.source source d interval vs other.has_source sound.held in
    other_apart one source d is (subst IsOtherSource same other.other)

sound_undamaged : OneAnswer → Held → (bytes : List ℕ) (to at : ℕ) (source : List ℕ) (d : Netlist) (interval : ℕ) (vs : List Vector) → IsSource source d → IsSound d source interval vs bytes → IsDamaged bytes to at → ⊥
sound_undamaged one held bytes to at source d interval vs is sound (inl none) =
    some_source bytes source at (record { head = sound.held.head; batches = sound.held.batches; entries = sound.held.entries; interval = interval; is_head = sound.held.is_head }) none
sound_undamaged one held bytes to at source d interval vs is sound (inr (other, e, has, is_other, accepted, damaged, first)) =
    let sources : other ≡ source = same_source held.laws bytes other source d interval vs has sound.held in
    let designs : e ≡ d = one.design source e d (subst (λ s. IsSource s e) sources is_other) is in
    held.undamaged d (subst IsAccepted designs accepted) source interval vs bytes at sound (subst (λ n. IsDamagedAt n bytes at) designs damaged)

-- what is read up to a time isn't damaged up to it
read_undamaged : OneAnswer → Held → (bytes : List ℕ) (to at : ℕ) (source : List ℕ) (d : Netlist) (vs : List Vector) → HoldsSource bytes source → IsSource source d → IsReadUpTo d bytes to vs → IsDamaged bytes to at → ⊥
read_undamaged one held bytes to at source d vs has is read (inl none) = some_source bytes source at has none
read_undamaged one held bytes to at source d vs has is read (inr (other, e, other_has, is_other, accepted, damaged, first)) =
    let sources : other ≡ source = one_source held.laws bytes other source other_has has in
    let designs : e ≡ d = one.design source e d (subst (λ s. IsSource s e) sources is_other) is in
    held.apart d (subst IsAccepted designs accepted) bytes to vs at read (subst (λ n. IsDamagedUpTo n bytes to at) designs first)

held_undamaged : OneAnswer → Held → (bytes : List ℕ) (to at : ℕ) (r : Request) → HoldsUpTo bytes to r → IsFirstDamaged bytes to at → ⊥
held_undamaged one held bytes to at r holds (inl none) = some_source bytes r.source at holds.has_source none
held_undamaged one held bytes to at r holds (inr (source, d, has, is, first)) =
    let sources : source ≡ r.source = one_source held.laws bytes source r.source has holds.has_source in
    let designs : d ≡ r.design = one.design r.source d r.design (subst (λ s. IsSource s d) sources is) holds.is_source in
    held.apart r.design holds.accepted bytes to r.vectors at holds.read (subst (λ n. IsDamagedUpTo n bytes to at) designs first)

-- a log is damaged at one gate
one_damaged : OneAnswer → Held → (bytes : List ℕ) (to at wanted : ℕ) → IsDamaged bytes to at → IsFirstDamaged bytes to wanted → at ≡ wanted
one_damaged one held bytes to at wanted (inl a) (inl b) = held.head bytes at wanted a b
one_damaged one held bytes to at wanted (inl a) (inr (source, d, has, is, first)) = absurd (some_source bytes source at has a)
one_damaged one held bytes to at wanted (inr (source, d, has, is, accepted, damaged, first)) (inl b) = absurd (some_source bytes source wanted has b)
one_damaged one held bytes to at wanted (inr (source, d, has, is, accepted, damaged, first)) (inr (other, e, other_has, is_other, again)) =
    let sources : other ≡ source = one_source held.laws bytes other source other_has has in
    let designs : e ≡ d = one.design source e d (subst (λ s. IsSource s e) sources is_other) is in
    held.place d accepted bytes to at wanted first (subst (λ n. IsDamagedUpTo n bytes to wanted) designs again)

one_log_place : OneAnswer → Held → (bytes : List ℕ) (window : span.Window) (at wanted : ℕ) → IsNoLog bytes window at → IsNoLog bytes window wanted → at ≡ wanted
one_log_place one held bytes window at wanted (inl image) (inl again) = same_some (sym image.image ∙ again.image)
one_log_place one held bytes window at wanted (inl image) (inr (inside, other, e)) = absurd (image_clash bytes at inside.plain image)
one_log_place one held bytes window at wanted (inr (inside, other, e)) (inl image) = absurd (image_clash bytes wanted inside.plain image)
one_log_place one held bytes window at wanted (inr (inside, other, e)) (inr (again, more, f)) = e ∙ sym f

log_not_range : (bytes : List ℕ) (window : span.Window) (at : ℕ) (fault : range.RangeFault) → IsNoLog bytes window at → IsPlain bytes → range_of (counts_of (committed bytes).last) window.from window.to ≡ Err fault → ⊥
log_not_range bytes window at fault (inl image) plain refused = image_clash bytes at plain image
log_not_range bytes window at fault (inr (inside, other, e)) plain refused = range_clash bytes window fault inside.range refused

log_framed : (bytes : List ℕ) (window : span.Window) (at : ℕ) → IsNoLog bytes window at → (committed bytes).framed ≡ true
log_framed bytes window at (inl image) = image.framed
log_framed bytes window at (inr (inside, other, e)) = inside.plain.framed

other_undamaged : OneAnswer → Held → (bytes : List ℕ) (to at : ℕ) → HoldsOther bytes → IsDamaged bytes to at → ⊥
other_undamaged one held bytes to at other (inl none) = some_source bytes other.source at other.has_source none
other_undamaged one held bytes to at other (inr (source, d, has, is, accepted, damaged, first)) =
    other_apart one source d is (subst IsOtherSource (one_source held.laws bytes other.source source other.has_source has) other.other)

log_undamaged : OneAnswer → Held → (bytes : List ℕ) (window : span.Window) (wanted at : ℕ) → IsNoLog bytes window wanted → IsInside bytes window → IsDamaged bytes window.to at → ⊥
log_undamaged one held bytes window wanted at (inl image) inside damaged = image_clash bytes wanted inside.plain image
log_undamaged one held bytes window wanted at (inr (here, other, e)) inside damaged = other_undamaged one held bytes window.to at other damaged

log_not_damaged : OneAnswer → Held → (bytes : List ℕ) (window : span.Window) (at wanted : ℕ) → IsNoLog bytes window at → IsInside bytes window → IsFirstDamaged bytes window.to wanted → ⊥
log_not_damaged one held bytes window at wanted (inl image) inside first = image_clash bytes at inside.plain image
log_not_damaged one held bytes window at wanted (inr (here, other, e)) inside (inl none) = some_source bytes other.source wanted other.has_source none
log_not_damaged one held bytes window at wanted (inr (here, other, e)) inside (inr (source, d, has, is, first)) =
    other_apart one source d is (subst IsOtherSource (one_source held.laws bytes other.source source other.has_source has) other.other)

log_not_ok : OneAnswer → Held → (bytes : List ℕ) (window : span.Window) (wanted : ℕ) → IsNoLog bytes window wanted → IsInside bytes window → HoldsThin bytes → ⊥
log_not_ok one held bytes window wanted (inl image) inside thin = image_clash bytes wanted inside.plain image
log_not_ok one held bytes window wanted (inr (here, other, e)) inside (source, d, has, is) =
    other_apart one source d is (subst IsOtherSource (one_source held.laws bytes other.source source other.has_source has) other.other)

dump_ok : OneAnswer → (w : World) (err : Count) → IsCalm w err → (result : Result (Unit {0}) Fault) → DumpAnswers w.inputs w.output result → DumpStands w.inputs (Ok tt) → IsWanted result (Ok tt)
dump_ok one w err calm (Ok done) h s = inl refl
dump_ok one w err calm (Err failed.Usage) h s = absurd h
dump_ok one w err calm (Err (failed.NotYet part.Design place)) h (d, text, design, read, (vs, is, u)) = absurd (refused_not one w.inputs d place design h)
dump_ok one w err calm (Err (failed.NotYet part.Script line)) h (d, text, design, read, (vs, is, u)) = absurd (one.unread design.0 d text line vs design.2 (by_design one w.inputs d (λ e. script.IsRefused e text line) design (λ source told. h.1 source told text read)) is)
dump_ok one w err calm (Err (failed.NotYet part.Log at)) h s = absurd h
dump_ok one w err calm (Err (failed.Range fault)) h s = absurd h
dump_ok one w err calm (Err (failed.NotALog at)) h s = absurd h
dump_ok one w err calm (Err (failed.Damaged at)) h s = absurd h
dump_ok one w err calm (Err failed.Deck) h s = absurd h
dump_ok one w err calm (Err failed.Read) h s = absurd (no_read w err calm h)
dump_ok one w err calm (Err failed.Write) h s = absurd (calm.out h.0)
dump_ok one w err calm (Err failed.Memory) h s = inr refl

dump_design : OneAnswer → (w : World) (err : Count) → IsCalm w err → (wanted : ℕ) (result : Result (Unit {0}) Fault) → DumpAnswers w.inputs w.output result → DumpStands w.inputs (Err (failed.NotYet part.Design wanted)) → IsWanted result (Err (failed.NotYet part.Design wanted))
dump_design one w err calm wanted (Ok done) h (source, told, refused) = absurd (asked_apart one w.inputs h.0 source wanted h.1 told refused)
dump_design one w err calm wanted (Err failed.Usage) h s = absurd h
dump_design one w err calm wanted (Err (failed.NotYet part.Design place)) h (source, told, refused) = inl (ap (λ p. Err (failed.NotYet part.Design p)) (one.place source place wanted (h source told) refused))
dump_design one w err calm wanted (Err (failed.NotYet part.Script line)) h (source, told, refused) = let has = h.0 source told in absurd (one.apart source has.0 wanted has.1 refused)
dump_design one w err calm wanted (Err (failed.NotYet part.Log at)) h s = absurd h
dump_design one w err calm wanted (Err (failed.Range fault)) h s = absurd h
dump_design one w err calm wanted (Err (failed.NotALog at)) h s = absurd h
dump_design one w err calm wanted (Err (failed.Damaged at)) h s = absurd h
dump_design one w err calm wanted (Err failed.Deck) h s = absurd h
dump_design one w err calm wanted (Err failed.Read) h s = absurd (no_read w err calm h)
dump_design one w err calm wanted (Err failed.Write) h s = absurd (calm.out h.0)
dump_design one w err calm wanted (Err failed.Memory) h s = inr refl

dump_script : OneAnswer → (w : World) (err : Count) → IsCalm w err → (wanted : ℕ) (result : Result (Unit {0}) Fault) → DumpAnswers w.inputs w.output result → DumpStands w.inputs (Err (failed.NotYet part.Script wanted)) → IsWanted result (Err (failed.NotYet part.Script wanted))
dump_script one w err calm wanted (Ok done) h (d, text, design, read, is) = absurd (one.unread design.0 d text wanted h.0.vectors design.2 is (asked_script one w.inputs h.0 d text design h.1 read))
dump_script one w err calm wanted (Err failed.Usage) h s = absurd h
dump_script one w err calm wanted (Err (failed.NotYet part.Design place)) h (d, text, design, read, is) = absurd (refused_not one w.inputs d place design h)
dump_script one w err calm wanted (Err (failed.NotYet part.Script line)) h (d, text, design, read, is) = inl (ap (λ l. Err (failed.NotYet part.Script l)) (one.line design.0 d text line wanted design.2 (by_design one w.inputs d (λ e. script.IsRefused e text line) design (λ source told. h.1 source told text read)) is))
dump_script one w err calm wanted (Err (failed.NotYet part.Log at)) h s = absurd h
dump_script one w err calm wanted (Err (failed.Range fault)) h s = absurd h
dump_script one w err calm wanted (Err (failed.NotALog at)) h s = absurd h
dump_script one w err calm wanted (Err (failed.Damaged at)) h s = absurd h
dump_script one w err calm wanted (Err failed.Deck) h s = absurd h
dump_script one w err calm wanted (Err failed.Read) h s = absurd (no_read w err calm h)
dump_script one w err calm wanted (Err failed.Write) h s = absurd (calm.out h.0)
dump_script one w err calm wanted (Err failed.Memory) h s = inr refl

record_ok : OneAnswer → (w : World) (err : Count) → IsCalm w err → (result : Result (Unit {0}) Fault) → RecordAnswers w.inputs w.device result → RecordStands w.inputs w.device (Ok tt) → IsWanted result (Ok tt)
record_ok one w err calm (Ok done) h s = inl refl
record_ok one w err calm (Err failed.Usage) h s = absurd h
record_ok one w err calm (Err (failed.NotYet part.Design place)) h (told, fresh, (d, text, design, read, (vs, is, few))) = absurd (refused_not one w.inputs d place design h)
record_ok one w err calm (Err (failed.NotYet part.Script line)) h (told, fresh, (d, text, design, read, (vs, is, few))) = absurd (unrecordable_not one design.0 d text line vs design.2 (by_design one w.inputs d (λ e. IsUnrecordable e text line) design (λ source source_told. h.2 source source_told text read)) is few)
record_ok one w err calm (Err (failed.NotYet part.Log at)) h (told, fresh, (d, text, design, read, (vs, is, few))) = let more = h.1 told in absurd (omega (arith, more.0, more.1, fresh))
record_ok one w err calm (Err (failed.Range fault)) h s = absurd h
record_ok one w err calm (Err (failed.NotALog at)) h s = absurd h
record_ok one w err calm (Err (failed.Damaged at)) h s = absurd h
record_ok one w err calm (Err failed.Deck) h s = absurd (calm.deck h.1)
record_ok one w err calm (Err failed.Read) h s = absurd (no_record_read w err calm h)
record_ok one w err calm (Err failed.Write) h s = absurd h
record_ok one w err calm (Err failed.Memory) h s = inr refl

record_design : OneAnswer → (w : World) (err : Count) → IsCalm w err → (wanted : ℕ) (result : Result (Unit {0}) Fault) → RecordAnswers w.inputs w.device result → RecordStands w.inputs w.device (Err (failed.NotYet part.Design wanted)) → IsWanted result (Err (failed.NotYet part.Design wanted))
record_design one w err calm wanted (Ok done) h (source, told, refused) = absurd (asked_apart one w.inputs h.0 source wanted h.1 told refused)
record_design one w err calm wanted (Err failed.Usage) h s = absurd h
record_design one w err calm wanted (Err (failed.NotYet part.Design place)) h (source, told, refused) = inl (ap (λ p. Err (failed.NotYet part.Design p)) (one.place source place wanted (h source told) refused))
record_design one w err calm wanted (Err (failed.NotYet part.Script line)) h (source, told, refused) = let has = h.0 source told in absurd (one.apart source has.0 wanted has.1 refused)
record_design one w err calm wanted (Err (failed.NotYet part.Log at)) h (source, told, refused) = let has = h.0 source told in absurd (one.apart source has.0 wanted has.1 refused)
record_design one w err calm wanted (Err (failed.Range fault)) h s = absurd h
record_design one w err calm wanted (Err (failed.NotALog at)) h s = absurd h
record_design one w err calm wanted (Err (failed.Damaged at)) h s = absurd h
record_design one w err calm wanted (Err failed.Deck) h s = absurd (calm.deck h.1)
record_design one w err calm wanted (Err failed.Read) h s = absurd (no_record_read w err calm h)
record_design one w err calm wanted (Err failed.Write) h s = absurd h
record_design one w err calm wanted (Err failed.Memory) h s = inr refl

record_script : OneAnswer → (w : World) (err : Count) → IsCalm w err → (wanted : ℕ) (result : Result (Unit {0}) Fault) → RecordAnswers w.inputs w.device result → RecordStands w.inputs w.device (Err (failed.NotYet part.Script wanted)) → IsWanted result (Err (failed.NotYet part.Script wanted))
record_script one w err calm wanted (Ok done) h (told, fresh, (d, text, design, read, is)) = absurd (unrecordable_not one design.0 d text wanted h.0.vectors design.2 is (asked_script one w.inputs h.0 d text design h.1 read) h.2.few)
record_script one w err calm wanted (Err failed.Usage) h s = absurd h
record_script one w err calm wanted (Err (failed.NotYet part.Design place)) h (told, fresh, (d, text, design, read, is)) = absurd (refused_not one w.inputs d place design h)
record_script one w err calm wanted (Err (failed.NotYet part.Script line)) h (told, fresh, (d, text, design, read, is)) = inl (ap (λ l. Err (failed.NotYet part.Script l)) (one_unrecordable one design.0 d text line wanted design.2 (by_design one w.inputs d (λ e. IsUnrecordable e text line) design (λ source source_told. h.2 source source_told text read)) is))
record_script one w err calm wanted (Err (failed.NotYet part.Log at)) h (told, fresh, (d, text, design, read, is)) = let more = h.1 told in absurd (omega (arith, more.0, more.1, fresh))
record_script one w err calm wanted (Err (failed.Range fault)) h s = absurd h
record_script one w err calm wanted (Err (failed.NotALog at)) h s = absurd h
record_script one w err calm wanted (Err (failed.Damaged at)) h s = absurd h
record_script one w err calm wanted (Err failed.Deck) h s = absurd (calm.deck h.1)
record_script one w err calm wanted (Err failed.Read) h s = absurd (no_record_read w err calm h)
record_script one w err calm wanted (Err failed.Write) h s = absurd h
record_script one w err calm wanted (Err failed.Memory) h s = inr refl

record_log : OneAnswer → (w : World) (err : Count) → IsCalm w err → (wanted : ℕ) (result : Result (Unit {0}) Fault) → RecordAnswers w.inputs w.device result → RecordStands w.inputs w.device (Err (failed.NotYet part.Log wanted)) → IsWanted result (Err (failed.NotYet part.Log wanted))
record_log one w err calm wanted (Ok done) h (told, more, is, (d, design)) = let fresh = h.2.fresh told in absurd (omega (arith, fresh, more))
record_log one w err calm wanted (Err failed.Usage) h s = absurd h
record_log one w err calm wanted (Err (failed.NotYet part.Design place)) h (told, more, is, (d, design)) = absurd (refused_not one w.inputs d place design h)
record_log one w err calm wanted (Err (failed.NotYet part.Script line)) h (told, more, is, (d, design)) = let fresh = h.1 told in absurd (omega (arith, fresh, more))
record_log one w err calm wanted (Err (failed.NotYet part.Log at)) h (told, more, is, (d, design)) = inl (ap (λ l. Err (failed.NotYet part.Log l)) ((h.1 told).0 ∙ sym is))
record_log one w err calm wanted (Err (failed.Range fault)) h s = absurd h
record_log one w err calm wanted (Err (failed.NotALog at)) h s = absurd h
record_log one w err calm wanted (Err (failed.Damaged at)) h s = absurd h
record_log one w err calm wanted (Err failed.Deck) h s = absurd (calm.deck h.1)
record_log one w err calm wanted (Err failed.Read) h (told, more, is, (d, design)) = absurd (no_record_read w err calm h)
record_log one w err calm wanted (Err failed.Write) h s = absurd h
record_log one w err calm wanted (Err failed.Memory) h s = inr refl

window_ok : OneAnswer → Held → (w : World) (err : Count) → IsCalm w err → (window : span.Window) → (result : Result (Unit {0}) Fault) → WindowAnswers w.output w.device window result → WindowStands w.device window (Ok tt) → IsWanted result (Ok tt)
window_ok one held w err calm window (Ok done) h s = inl refl
window_ok one held w err calm window (Err failed.Usage) h s = absurd h
window_ok one held w err calm window (Err (failed.NotYet part.Design place)) h s = absurd h
window_ok one held w err calm window (Err (failed.NotYet part.Script line)) h s = absurd h
window_ok one held w err calm window (Err (failed.NotYet part.Log at)) h (told, inside, inl (source, d, interval, vs, is, sound)) = absurd (sound_no_log one held w.device.before.bytes window at source d interval vs inside is sound (h told))
window_ok one held w err calm window (Err (failed.NotYet part.Log at)) h (told, inside, inr (source, d, vs, has, is, read)) = absurd (log_not_ok one held w.device.before.bytes window at (h told) inside (source, d, has, is))
window_ok one held w err calm window (Err (failed.Range fault)) h (told, inside, rest) = absurd (range_clash w.device.before.bytes window fault inside.range (h told).1)
window_ok one held w err calm window (Err (failed.NotALog at)) h (told, inside, rest) = absurd (framed_clash w.device.before.bytes inside.plain.framed (h told).framed)
window_ok one held w err calm window (Err (failed.Damaged at)) h (told, inside, inl (source, d, interval, vs, is, sound)) = absurd (sound_undamaged one held w.device.before.bytes window.to at source d interval vs is sound (h told).1)
window_ok one held w err calm window (Err (failed.Damaged at)) h (told, inside, inr (source, d, vs, has, is, read)) = absurd (read_undamaged one held w.device.before.bytes window.to at source d vs has is read (h told).1)
window_ok one held w err calm window (Err failed.Deck) h s = absurd (calm.deck h)
window_ok one held w err calm window (Err failed.Read) h s = absurd h
window_ok one held w err calm window (Err failed.Write) h s = absurd (calm.out h.0)
window_ok one held w err calm window (Err failed.Memory) h s = inr refl

window_log : OneAnswer → Held → (w : World) (err : Count) → IsCalm w err → (window : span.Window) → (wanted : ℕ) (result : Result (Unit {0}) Fault) → WindowAnswers w.output w.device window result → WindowStands w.device window (Err (failed.NotYet part.Log wanted)) → IsWanted result (Err (failed.NotYet part.Log wanted))
window_log one held w err calm window wanted (Ok done) h (told, stands) = absurd (log_not_ok one held w.device.before.bytes window wanted stands (h.0 told).0 (h.0 told).1)
window_log one held w err calm window wanted (Err failed.Usage) h s = absurd h
window_log one held w err calm window wanted (Err (failed.NotYet part.Design place)) h s = absurd h
window_log one held w err calm window wanted (Err (failed.NotYet part.Script line)) h s = absurd h
window_log one held w err calm window wanted (Err (failed.NotYet part.Log at)) h (told, stands) = inl (ap (λ l. Err (failed.NotYet part.Log l)) (one_log_place one held w.device.before.bytes window at wanted (h told) stands))
window_log one held w err calm window wanted (Err (failed.Range fault)) h (told, stands) = absurd (log_not_range w.device.before.bytes window wanted fault stands (h told).0 (h told).1)
window_log one held w err calm window wanted (Err (failed.NotALog at)) h (told, stands) = absurd (framed_clash w.device.before.bytes (log_framed w.device.before.bytes window wanted stands) (h told).framed)
window_log one held w err calm window wanted (Err (failed.Damaged at)) h (told, stands) = absurd (log_undamaged one held w.device.before.bytes window wanted at stands (h told).0 (h told).1)
window_log one held w err calm window wanted (Err failed.Deck) h s = absurd (calm.deck h)
window_log one held w err calm window wanted (Err failed.Read) h s = absurd h
window_log one held w err calm window wanted (Err failed.Write) h s = absurd (calm.out h.0)
window_log one held w err calm window wanted (Err failed.Memory) h s = inr refl

window_range : OneAnswer → Held → (w : World) (err : Count) → IsCalm w err → (window : span.Window) → (wanted : range.RangeFault) (result : Result (Unit {0}) Fault) → WindowAnswers w.output w.device window result → WindowStands w.device window (Err (failed.Range wanted)) → IsWanted result (Err (failed.Range wanted))
window_range one held w err calm window wanted (Ok done) h (told, plain, refused) = absurd (range_clash w.device.before.bytes window wanted (h.0 told).0.range refused)
window_range one held w err calm window wanted (Err failed.Usage) h s = absurd h
window_range one held w err calm window wanted (Err (failed.NotYet part.Design place)) h s = absurd h
window_range one held w err calm window wanted (Err (failed.NotYet part.Script line)) h s = absurd h
window_range one held w err calm window wanted (Err (failed.NotYet part.Log at)) h (told, plain, refused) = absurd (log_not_range w.device.before.bytes window at wanted (h told) plain refused)
window_range one held w err calm window wanted (Err (failed.Range fault)) h (told, plain, refused) = inl (ap (λ f. Err (failed.Range f)) (same_err _ (h told).1 refused))
window_range one held w err calm window wanted (Err (failed.NotALog at)) h (told, plain, refused) = absurd (framed_clash w.device.before.bytes plain.framed (h told).framed)
window_range one held w err calm window wanted (Err (failed.Damaged at)) h (told, plain, refused) = absurd (range_clash w.device.before.bytes window wanted (h told).0.range refused)
window_range one held w err calm window wanted (Err failed.Deck) h s = absurd (calm.deck h)
window_range one held w err calm window wanted (Err failed.Read) h s = absurd h
window_range one held w err calm window wanted (Err failed.Write) h s = absurd (calm.out h.0)
window_range one held w err calm window wanted (Err failed.Memory) h s = inr refl

window_wrong : OneAnswer → Held → (w : World) (err : Count) → IsCalm w err → (window : span.Window) → (wanted : ℕ) (result : Result (Unit {0}) Fault) → WindowAnswers w.output w.device window result → WindowStands w.device window (Err (failed.NotALog wanted)) → IsWanted result (Err (failed.NotALog wanted))
window_wrong one held w err calm window wanted (Ok done) h (told, wrong) = absurd (framed_clash w.device.before.bytes (h.0 told).0.plain.framed wrong.framed)
window_wrong one held w err calm window wanted (Err failed.Usage) h s = absurd h
window_wrong one held w err calm window wanted (Err (failed.NotYet part.Design place)) h s = absurd h
window_wrong one held w err calm window wanted (Err (failed.NotYet part.Script line)) h s = absurd h
window_wrong one held w err calm window wanted (Err (failed.NotYet part.Log at)) h (told, wrong) = absurd (framed_clash w.device.before.bytes (log_framed w.device.before.bytes window at (h told)) wrong.framed)
window_wrong one held w err calm window wanted (Err (failed.Range fault)) h (told, wrong) = absurd (framed_clash w.device.before.bytes (h told).0.framed wrong.framed)
window_wrong one held w err calm window wanted (Err (failed.NotALog at)) h (told, wrong) = inl (ap (λ l. Err (failed.NotALog l)) (sym (h told).gate_is ∙ wrong.gate_is))
window_wrong one held w err calm window wanted (Err (failed.Damaged at)) h (told, wrong) = absurd (framed_clash w.device.before.bytes (h told).0.plain.framed wrong.framed)
window_wrong one held w err calm window wanted (Err failed.Deck) h s = absurd (calm.deck h)
window_wrong one held w err calm window wanted (Err failed.Read) h s = absurd h
window_wrong one held w err calm window wanted (Err failed.Write) h s = absurd (calm.out h.0)
window_wrong one held w err calm window wanted (Err failed.Memory) h s = inr refl

window_damaged : OneAnswer → Held → (w : World) (err : Count) → IsCalm w err → (window : span.Window) → (wanted : ℕ) (result : Result (Unit {0}) Fault) → WindowAnswers w.output w.device window result → WindowStands w.device window (Err (failed.Damaged wanted)) → IsWanted result (Err (failed.Damaged wanted))
window_damaged one held w err calm window wanted (Ok done) h (told, inside, first) = let (r, holds, text) = h.1 told in absurd (held_undamaged one held w.device.before.bytes window.to wanted r holds first)
window_damaged one held w err calm window wanted (Err failed.Usage) h s = absurd h
window_damaged one held w err calm window wanted (Err (failed.NotYet part.Design place)) h s = absurd h
window_damaged one held w err calm window wanted (Err (failed.NotYet part.Script line)) h s = absurd h
window_damaged one held w err calm window wanted (Err (failed.NotYet part.Log at)) h (told, inside, first) = absurd (log_not_damaged one held w.device.before.bytes window at wanted (h told) inside first)
window_damaged one held w err calm window wanted (Err (failed.Range fault)) h (told, inside, first) = absurd (range_clash w.device.before.bytes window fault inside.range (h told).1)
window_damaged one held w err calm window wanted (Err (failed.NotALog at)) h (told, inside, first) = absurd (framed_clash w.device.before.bytes inside.plain.framed (h told).framed)
window_damaged one held w err calm window wanted (Err (failed.Damaged at)) h (told, inside, first) = inl (ap (λ p. Err (failed.Damaged p)) (one_damaged one held w.device.before.bytes window.to at wanted (h told).1 first))
window_damaged one held w err calm window wanted (Err failed.Deck) h s = absurd (calm.deck h)
window_damaged one held w err calm window wanted (Err failed.Read) h s = absurd h
window_damaged one held w err calm window wanted (Err failed.Write) h s = absurd (calm.out h.0)
window_damaged one held w err calm window wanted (Err failed.Memory) h s = inr refl

dump_first : OneAnswer → (w : World) (err : Count) → IsCalm w err → (result wanted : Result (Unit {0}) Fault) → DumpAnswers w.inputs w.output result → DumpStands w.inputs wanted → IsWanted result wanted
dump_first one w err calm result (Ok done) h s = dump_ok one w err calm result h s
dump_first one w err calm result (Err failed.Usage) h s = absurd s
dump_first one w err calm result (Err (failed.NotYet part.Design place)) h s = dump_design one w err calm place result h s
dump_first one w err calm result (Err (failed.NotYet part.Script line)) h s = dump_script one w err calm line result h s
dump_first one w err calm result (Err (failed.NotYet part.Log at)) h s = absurd s
dump_first one w err calm result (Err (failed.Range fault)) h s = absurd s
dump_first one w err calm result (Err (failed.NotALog at)) h s = absurd s
dump_first one w err calm result (Err (failed.Damaged at)) h s = absurd s
dump_first one w err calm result (Err failed.Deck) h s = absurd s
dump_first one w err calm result (Err failed.Read) h s = absurd s
dump_first one w err calm result (Err failed.Write) h s = absurd s
dump_first one w err calm result (Err failed.Memory) h s = absurd s

record_first : OneAnswer → (w : World) (err : Count) → IsCalm w err → (result wanted : Result (Unit {0}) Fault) → RecordAnswers w.inputs w.device result → RecordStands w.inputs w.device wanted → IsWanted result wanted
record_first one w err calm result (Ok done) h s = record_ok one w err calm result h s
record_first one w err calm result (Err failed.Usage) h s = absurd s
record_first one w err calm result (Err (failed.NotYet part.Design place)) h s = record_design one w err calm place result h s
record_first one w err calm result (Err (failed.NotYet part.Script line)) h s = record_script one w err calm line result h s
record_first one w err calm result (Err (failed.NotYet part.Log at)) h s = record_log one w err calm at result h s
record_first one w err calm result (Err (failed.Range fault)) h s = absurd s
record_first one w err calm result (Err (failed.NotALog at)) h s = absurd s
record_first one w err calm result (Err (failed.Damaged at)) h s = absurd s
record_first one w err calm result (Err failed.Deck) h s = absurd s
record_first one w err calm result (Err failed.Read) h s = absurd s
record_first one w err calm result (Err failed.Write) h s = absurd s
record_first one w err calm result (Err failed.Memory) h s = absurd s

window_first : OneAnswer → Held → (w : World) (err : Count) → IsCalm w err → (window : span.Window) → (result wanted : Result (Unit {0}) Fault) → WindowAnswers w.output w.device window result → WindowStands w.device window wanted → IsWanted result wanted
window_first one held w err calm window result (Ok done) h s = window_ok one held w err calm window result h s
window_first one held w err calm window result (Err failed.Usage) h s = absurd s
window_first one held w err calm window result (Err (failed.NotYet part.Design place)) h s = absurd s
window_first one held w err calm window result (Err (failed.NotYet part.Script line)) h s = absurd s
window_first one held w err calm window result (Err (failed.NotYet part.Log at)) h s = window_log one held w err calm window at result h s
window_first one held w err calm window result (Err (failed.Range fault)) h s = window_range one held w err calm window fault result h s
window_first one held w err calm window result (Err (failed.NotALog at)) h s = window_wrong one held w err calm window at result h s
window_first one held w err calm window result (Err (failed.Damaged at)) h s = window_damaged one held w err calm window at result h s
window_first one held w err calm window result (Err failed.Deck) h s = absurd s
window_first one held w err calm window result (Err failed.Read) h s = absurd s
window_first one held w err calm window result (Err failed.Write) h s = absurd s
window_first one held w err calm window result (Err failed.Memory) h s = absurd s

command_first : OneAnswer → Held → (w : World) (err : Count) → IsCalm w err → (c : Command) (result wanted : Result (Unit {0}) Fault) → CommandAnswers w c result → Stands w c wanted → IsWanted result wanted
command_first one held w err calm command.Record result wanted h s = record_first one w err calm result wanted h s
command_first one held w err calm (command.Window window) result wanted h s = window_first one held w err calm window result wanted h s
command_first one held w err calm command.Dump result wanted h s = dump_first one w err calm result wanted h s

-- where no count rose, an answer is reported by its status
calm_report : (result : Result (Unit {0}) Fault) (err : Count) (answer : Status) → IsReported result err answer → (IsRisen err → ⊥) → answer ≡ status_for result
calm_report result err answer (inl e) calm = e
calm_report result err answer (inr f) calm = absurd (calm f.1)

-- words that are no command are refused as such
no_command : (w : World) (result : Result (Unit {0}) Fault) → Answers w result → HasNoCommand w → result ≡ Err failed.Usage
no_command w result (inl h) none = h.1
no_command w result (inr (c, is, h)) none = absurd (none c is)

answers_command : (w : World) (result : Result (Unit {0}) Fault) (c : Command) → IsCommand w.words c → Answers w result → CommandAnswers w c result
answers_command w result c is (inl h) = absurd (h.0 c is)
answers_command w result c is (inr (e, other, h)) = subst (λ v. CommandAnswers w v result) (one_command w.words e c other is) h

wanted_status : (answer : Status) (result wanted : Result (Unit {0}) Fault) → answer ≡ status_for result → IsWanted result wanted → (answer ≡ status_for wanted) ⊎ (answer ≡ status.OutOfMemory)
wanted_status answer result wanted e (inl same) = inl (e ∙ ap status_for same)
wanted_status answer result wanted e (inr same) = inr (e ∙ ap status_for same)

pub answered : OneAnswer → Held → (w : World) (err : Count) (result : Result (Unit {0}) Fault) (answer : Status) → Answers w result → IsReported result err answer → IsAnswered w err answer
answered one held w err result answer h r = record {
  caused = record { result = result; answers = h; reported = r };
  complete = record {
    usage = λ none calm. calm_report result err answer r calm ∙ ap status_for (no_command w result h none);
    stands = λ calm c is wanted s. wanted_status answer result wanted (calm_report result err answer r calm.errors) (command_first one held w err calm c result wanted (answers_command w result c is h) s);
  };
}

-- the line of a fault is that of its status
line_status : (s : Fault) → status_line (status_of s) ≡ line_of s
line_status failed.Usage = refl
line_status (failed.NotYet p place) = refl
line_status (failed.Range ranges.Backwards) = refl
line_status (failed.Range ranges.NothingHeld) = refl
line_status (failed.Range ranges.NeverKnown) = refl
line_status (failed.Range (ranges.TooEarly time)) = refl
line_status (failed.Range (ranges.PastEnd time)) = refl
line_status (failed.NotALog at) = refl
line_status (failed.Damaged at) = refl
line_status failed.Deck = refl
line_status failed.Read = refl
line_status failed.Write = refl
line_status failed.Memory = refl

pub said : (s : Fault) (answer : Status) (before after : Option (List ℕ)) → Reports s answer before after → IsSaid answer before after
said s answer before after (inl (e, took)) = record {
  line = λ other. took ∙ ap (appended before) (sym (line_status s) ∙ ap status_line (sym e));
  part = λ write. (s, [], record { done = line_of s; whole = append-nil (line_of s); taken = took });
}
said s answer before after (inr (e, (rest, puts))) = record {
  line = λ other. absurd (other e);
  part = λ write. (s, rest, puts);
}

-- what was written with a fault may have been written with its status
pub may_write : (s : Fault) (err : Count) (answer : Status) → IsReported (Err s) err answer → Writes (Err s) → MayWrite answer
may_write s err answer (inr f) w = inr (inl f.0)
may_write s err answer (inl e) (inl w) = let clash : Err s ≡ Ok tt = w in cc
may_write s err answer (inl e) (inr (inl w)) = inr (inl (e ∙ ap status_for w))
may_write s err answer (inl e) (inr (inr w)) = inr (inr (e ∙ ap status_for w))
