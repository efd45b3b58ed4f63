use Rattle.std.proofs.Common.{◌≡◌, ◌≤◌, ◌∙◌, ℕ, Err, refl, ap, sym, subst, arith}
use Rattle.std.proofs.lemmas.Result.{err_from_is_err_and}
use Rattle.vod_deck.specs.Outcomes.{View}
use Rattle.vod_thin_design.specs.Netlist.{IsAccepted}
use Rattle.vod_log.proofs.Opening.{unchanged-then}
use Rattle.vod_thin_replay.specs.Replay.{HoldsSource, IsReadUpTo, IsHeldUpTo, IsDamagedAt, IsDamagedUpTo}
use Rattle.vod_thin_window.specs.Request.{window_of, IsWritten, IsBegun}
use Rattle.vod_program.specs.Answer.{Output, Device, IsInside, OnSound, WindowAnswers}
use Rattle.vod_program.specs.Sources.{IsSource}
use Rattle.vod_program.proofs.AnswerLaws.{request, same_request}
use Rattle.vod_program.proofs.WindowLaws.{Laws, no_vectors, no_window, on_sound, rose_from, damaged_same, in_order}
use Rattle.vod_program.proofs.window.window.Goals as goal

pub returns-in_err-log-clause-answers : goal.returns-in_err-log-clause-answers
returns-in_err-log-clause-answers g c =
    let out : Output = record { before = g.K.Sink.taken c.args.out.now; after = g.K.Sink.taken c.args.out.now; faults = record { before = g.K.Sink.faults c.args.out.now; after = g.K.Sink.faults c.args.out.now } } in
    let p = err_from_is_err_and c.from_residual.result c.from_residual.ensures.1 in
    subst (λ r. WindowAnswers out (record { told = g.L.Deck.tells; before = g.L.Deck.view c.args.deck.now; after = g.L.Deck.view c.open_window.new.deck }) c.args.window r) (sym (p.1 ∙ ap Err p.2)) (c.in_err-log.ensures.refused out refl)

pub returns-in-Err-read_vectors-clause-answers : goal.returns-in-Err-read_vectors-clause-answers
returns-in-Err-read_vectors-clause-answers g c =
    let out : Output = record { before = g.K.Sink.taken c.args.out.now; after = g.K.Sink.taken c.args.out.now; faults = record { before = g.K.Sink.faults c.args.out.now; after = g.K.Sink.faults c.args.out.now } } in
    let deck : Device = record { told = g.L.Deck.tells; before = g.L.Deck.view c.args.deck.now; after = g.L.Deck.view c.read_vectors.new.deck } in
    let window = c.args.window in
    let source = c.in-Ok.source.now in
    let d = c.in_ok-design.design in
    let inside : g.L.Deck.tells → IsInside deck.before.bytes window = c.in_ok-log.ensures.inside in
    let first : g.L.Deck.tells → (g.L.Deck.view c.open_window.new.deck).bytes ≡ deck.before.bytes = λ told. (c.in_ok-log.ensures.unchanged told).bytes in
    let second : g.L.Deck.tells → (g.L.Deck.view c.read_source.new.deck).bytes ≡ deck.before.bytes = λ told. (c.in-Ok.ensures.unchanged told).bytes ∙ first told in
    let has : g.L.Deck.tells → HoldsSource deck.before.bytes source = λ told. subst (λ b. HoldsSource b source) (first told) (c.in-Ok.ensures.source told) in
    let is : IsSource source d = c.in_ok-design.ensures.source in
    let f = c.in-Err-read_vectors.fault in
    let later : (g.L.Deck.view c.args.deck.now).faults ≤ (g.L.Deck.view c.read_source.new.deck).faults = omega (arith, c.in_ok-log.ensures.later, c.in-Ok.ensures.later) in
    subst (λ s. WindowAnswers out deck window (Err s)) (sym c.replay_fault-in-Err-read_vectors.ensures)
    (no_vectors out deck window source d f inside has is (subst IsAccepted c.design.view_is c.design.invariant)
    (λ e. rose_from _ _ _ later (c.in-Err-read_vectors.ensures.caused (ap (λ v. Err v) e)))
    (damaged_same f g.L.Deck.tells (λ b at. IsDamagedAt d b at) _ deck.before.bytes second c.in-Err-read_vectors.ensures.damaged)
    (damaged_same f g.L.Deck.tells (λ b at. IsDamagedUpTo d b window.to at) _ deck.before.bytes second c.in-Err-read_vectors.ensures.needed) refl)

pub returns-in-Ok-write_window-clause-answers : goal.returns-in-Ok-write_window-clause-answers
returns-in-Ok-write_window-clause-answers g c =
    let out : Output = record { before = g.K.Sink.taken c.args.out.now; after = g.K.Sink.taken c.write_window.new.out; faults = record { before = g.K.Sink.faults c.args.out.now; after = g.K.Sink.faults c.write_window.new.out } } in
    let deck : Device = record { told = g.L.Deck.tells; before = g.L.Deck.view c.args.deck.now; after = g.L.Deck.view c.read_vectors.new.deck } in
    let window = c.args.window in
    let source = c.in-Ok.source.now in
    let d = c.in_ok-design.design in
    let inside : g.L.Deck.tells → IsInside deck.before.bytes window = c.in_ok-log.ensures.inside in
    let first : g.L.Deck.tells → (g.L.Deck.view c.open_window.new.deck).bytes ≡ deck.before.bytes = λ told. (c.in_ok-log.ensures.unchanged told).bytes in
    let second : g.L.Deck.tells → (g.L.Deck.view c.read_source.new.deck).bytes ≡ deck.before.bytes = λ told. (c.in-Ok.ensures.unchanged told).bytes ∙ first told in
    let has : g.L.Deck.tells → HoldsSource deck.before.bytes source = λ told. subst (λ b. HoldsSource b source) (first told) (c.in-Ok.ensures.source told) in
    let is : IsSource source d = c.in_ok-design.ensures.source in
    let laws : Laws = record { one_head = c.one_head.ensures; one_design = λ s e f a b. c.one_design.ensures s e f a.thin b.thin } in
    let us = c.in-Ok-read_vectors.past.vectors in
    let reads : g.L.Deck.tells → IsHeldUpTo d deck.before.bytes window.to us = λ told. subst (λ b. IsHeldUpTo d b window.to us) (second told) (c.in-Ok-read_vectors.ensures.held told) in
    let written : IsWritten (request source d us) (window_of (request source d us) window.from window.to) out.before out.after =
    same_request (λ r. IsWritten r (window_of r window.from window.to) out.before out.after) _ source d _ us refl c.vectors.ensures.items c.in-Ok-write_window.ensures.written in (
      λ told. (inside told, (source, d, has told, is)),
      λ told. (
        request source d us,
        record {
          has_source = has told;
          is_source = is;
          accepted = c.in-Ok-write_window.ensures.accepted;
          read = subst (λ b. IsReadUpTo d b window.to us) (second told) (c.in-Ok-read_vectors.ensures.read told);
        },
        written,
      ),
      on_sound laws (λ r. IsWritten r (window_of r window.from window.to) out.before out.after) deck source d us window.to has is reads
          (λ told rest lawful over. c.window_of_front.ensures.written (request source d us) rest window.from window.to out.before out.after c.in-Ok-write_window.ensures.accepted lawful over (in_order deck.before.bytes window (inside told)) written),
    )

pub returns-in-Ok-write_window-clause-unchanged : goal.returns-in-Ok-write_window-clause-unchanged
returns-in-Ok-write_window-clause-unchanged g c =
    λ told. unchanged-then _ _ _ (c.in_ok-log.ensures.unchanged told) (unchanged-then _ _ _ (c.in-Ok.ensures.unchanged told) (c.in-Ok-read_vectors.ensures.unchanged told))

pub returns-clause-answers : goal.returns-clause-answers
returns-clause-answers g c =
    let out : Output = record { before = g.K.Sink.taken c.args.out.now; after = g.K.Sink.taken c.write_window.new.out; faults = record { before = g.K.Sink.faults c.args.out.now; after = g.K.Sink.faults c.write_window.new.out } } in
    let deck : Device = record { told = g.L.Deck.tells; before = g.L.Deck.view c.args.deck.now; after = g.L.Deck.view c.read_vectors.new.deck } in
    let window = c.args.window in
    let source = c.in-Ok.source.now in
    let d = c.in_ok-design.design in
    let inside : g.L.Deck.tells → IsInside deck.before.bytes window = c.in_ok-log.ensures.inside in
    let first : g.L.Deck.tells → (g.L.Deck.view c.open_window.new.deck).bytes ≡ deck.before.bytes = λ told. (c.in_ok-log.ensures.unchanged told).bytes in
    let second : g.L.Deck.tells → (g.L.Deck.view c.read_source.new.deck).bytes ≡ deck.before.bytes = λ told. (c.in-Ok.ensures.unchanged told).bytes ∙ first told in
    let has : g.L.Deck.tells → HoldsSource deck.before.bytes source = λ told. subst (λ b. HoldsSource b source) (first told) (c.in-Ok.ensures.source told) in
    let is : IsSource source d = c.in_ok-design.ensures.source in
    let laws : Laws = record { one_head = c.one_head.ensures; one_design = λ s e f a b. c.one_design.ensures s e f a.thin b.thin } in
    let us = c.in-Ok-read_vectors.past.vectors in
    let reads : g.L.Deck.tells → IsHeldUpTo d deck.before.bytes window.to us = λ told. subst (λ b. IsHeldUpTo d b window.to us) (second told) (c.in-Ok-read_vectors.ensures.held told) in
    let begun : IsBegun (request source d us) (window_of (request source d us) window.from window.to) out.before out.after =
    same_request (λ r. IsBegun r (window_of r window.from window.to) out.before out.after) _ source d _ us refl c.vectors.ensures.items c.in-Err-write_window.ensures.begun in
    let accepted : IsAccepted d = subst IsAccepted c.design-2.view_is c.design-2.invariant in
    subst (λ s. WindowAnswers out deck window (Err s)) (sym c.window_fault.ensures)
    (no_window out deck window c.in-Err-write_window.fault (λ told. (inside told, (source, d, has told, is))) (λ e. c.in-Err-write_window.ensures.caused (ap Err e))
    (on_sound laws (λ r. IsBegun r (window_of r window.from window.to) out.before out.after) deck source d us window.to has is reads
    (λ told rest lawful over. c.window_of_front.ensures.begun (request source d us) rest window.from window.to out.before out.after accepted lawful over (in_order deck.before.bytes window (inside told)) begun)))

pub returns-clause-unchanged : goal.returns-clause-unchanged
returns-clause-unchanged g c =
    λ told. unchanged-then _ _ _ (c.in_ok-log.ensures.unchanged told) (unchanged-then _ _ _ (c.in-Ok.ensures.unchanged told) (c.in-Ok-read_vectors.ensures.unchanged told))
