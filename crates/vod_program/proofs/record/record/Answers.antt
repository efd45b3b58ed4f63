use Rattle.std.proofs.Common.{◌≡◌, ◌≤◌, ℕ, List, [], ◌∷◌, sym, subst}
use Rattle.vod_deck.specs.Outcomes.{Outcome, View, From, Only, Leaves}
use Rattle.vod_thin_design.specs.Vectors.{IsLawful}
use Rattle.vod_thin_code.specs.Held.{IsSound, said}
use Rattle.vod_thin_store.specs.Stored.{HasSaid, HoldsBatches, Records}
use Rattle.vod_program.specs.Answer.{Inputs, Device, IsRecorded}
use Rattle.vod_program.proofs.AnswerLaws.{asked, request, same_request}
use Rattle.vod_program.proofs.RecordLaws.{IsCreated, begun_with, record_left, said_behind}
use Rattle.vod_program.proofs.record.record.Goals as goal

pub returns-in-Ok-clause-answers : goal.returns-in-Ok-clause-answers
returns-in-Ok-clause-answers g c =
    let i : Inputs = record {
      source = g.D.Source.left c.args.design.now;
      script = g.S.Source.left c.args.input.now;
      design_faults = record { before = g.D.Source.faults c.args.design.now; after = g.D.Source.faults c.reading_of.new.source };
      input_faults = record { before = g.S.Source.faults c.args.input.now; after = g.S.Source.faults c.recordable_of.new.script };
    } in
    let old : View = g.L.Deck.view c.args.deck.now in
    let mid : View = g.L.Deck.view c.open_fresh.new.deck in
    let new : View = g.L.Deck.view c.record.new.deck in
    let deck : Device = record { told = g.L.Deck.tells; before = old; after = new } in
    let read = c.in_ok-reading.ensures in
    let source = c.in_ok-reading.reading.source.items in
    let d = c.in_ok-reading.reading.design in
    let vs = c.in_ok-past.past.vectors in
    let lawful : IsLawful d vs = subst (λ e. IsLawful e vs) c.in_ok-past.ensures.design c.vectors-vectors.ensures.lawful in
    let tail = c.in_ok-tail.ensures in
    let begins : g.L.Deck.tells → (m : Outcome) → mid.may_leave m → (m.file ≡ 0 ∷ []) × IsCreated old m =
    λ told. begun_with old mid (tail.crashes told) (λ t o. g.met.L.Deck.counts_now c.open_fresh.new.deck t o) (λ o. g.met.L.Deck.only_now c.args.deck.now o) (tail.settled told).lasts (tail.created told) in
    let done = c.in-Ok.ensures in
    asked i (IsRecorded deck) source d vs read.told read.source c.in_ok-past.ensures.vectors lawful (record {
      few = c.in_ok-past.ensures.few;
      fresh = λ told. (tail.fresh told).0;
      sound = λ told. same_request (λ r. IsSound r.design r.source 4096 r.vectors new.bytes) _ source d _ vs c.as_slice-source.ensures.value c.vectors-vectors.ensures.items (done.held told);
      batches = λ told. subst (λ us. HoldsBatches us new.bytes) c.vectors-vectors.ensures.items (done.batches told);
      lasts = done.lasts;
      says = λ told o may. said_behind old mid (said vs) o (λ m left. (begins told m left).1) (subst (λ us. From mid.may_leave (HasSaid (said us)) o) c.vectors-vectors.ensures.items (done.said told o may));
    })

pub returns-in-Ok-clause-crashes : goal.returns-in-Ok-clause-crashes
returns-in-Ok-clause-crashes g c =
    let i : Inputs = record {
      source = g.D.Source.left c.args.design.now;
      script = g.S.Source.left c.args.input.now;
      design_faults = record { before = g.D.Source.faults c.args.design.now; after = g.D.Source.faults c.reading_of.new.source };
      input_faults = record { before = g.S.Source.faults c.args.input.now; after = g.S.Source.faults c.recordable_of.new.script };
    } in
    let old : View = g.L.Deck.view c.args.deck.now in
    let mid : View = g.L.Deck.view c.open_fresh.new.deck in
    let new : View = g.L.Deck.view c.record.new.deck in
    let deck : Device = record { told = g.L.Deck.tells; before = old; after = new } in
    let read = c.in_ok-reading.ensures in
    let source = c.in_ok-reading.reading.source.items in
    let d = c.in_ok-reading.reading.design in
    let vs = c.in_ok-past.past.vectors in
    let lawful : IsLawful d vs = subst (λ e. IsLawful e vs) c.in_ok-past.ensures.design c.vectors-vectors.ensures.lawful in
    let tail = c.in_ok-tail.ensures in
    let begins : g.L.Deck.tells → (m : Outcome) → mid.may_leave m → (m.file ≡ 0 ∷ []) × IsCreated old m =
    λ told. begun_with old mid (tail.crashes told) (λ t o. g.met.L.Deck.counts_now c.open_fresh.new.deck t o) (λ o. g.met.L.Deck.only_now c.args.deck.now o) (tail.settled told).lasts (tail.created told) in
    λ told. record_left i deck mid (request source d vs) (tail.fresh told).0
    (λ P p. asked i P source d vs read.told read.source c.in_ok-past.ensures.vectors lawful p)
    (tail.crashes told) (begins told)
    (same_request (λ r. Leaves mid new (From mid.may_leave (Records r.design r.source r.vectors))) _ source d _ vs c.as_slice-source.ensures.value c.vectors-vectors.ensures.items (c.record.ensures.crashes told))

pub returns-clause-crashes : goal.returns-clause-crashes
returns-clause-crashes g c =
    let i : Inputs = record {
      source = g.D.Source.left c.args.design.now;
      script = g.S.Source.left c.args.input.now;
      design_faults = record { before = g.D.Source.faults c.args.design.now; after = g.D.Source.faults c.reading_of.new.source };
      input_faults = record { before = g.S.Source.faults c.args.input.now; after = g.S.Source.faults c.recordable_of.new.script };
    } in
    let old : View = g.L.Deck.view c.args.deck.now in
    let mid : View = g.L.Deck.view c.open_fresh.new.deck in
    let new : View = g.L.Deck.view c.record.new.deck in
    let deck : Device = record { told = g.L.Deck.tells; before = old; after = new } in
    let read = c.in_ok-reading.ensures in
    let source = c.in_ok-reading.reading.source.items in
    let d = c.in_ok-reading.reading.design in
    let vs = c.in_ok-past.past.vectors in
    let lawful : IsLawful d vs = subst (λ e. IsLawful e vs) c.in_ok-past.ensures.design c.vectors-vectors.ensures.lawful in
    let tail = c.in_ok-tail.ensures in
    let begins : g.L.Deck.tells → (m : Outcome) → mid.may_leave m → (m.file ≡ 0 ∷ []) × IsCreated old m =
    λ told. begun_with old mid (tail.crashes told) (λ t o. g.met.L.Deck.counts_now c.open_fresh.new.deck t o) (λ o. g.met.L.Deck.only_now c.args.deck.now o) (tail.settled told).lasts (tail.created told) in
    λ told. record_left i deck mid (request source d vs) (tail.fresh told).0
    (λ P p. asked i P source d vs read.told read.source c.in_ok-past.ensures.vectors lawful p)
    (tail.crashes told) (begins told)
    (same_request (λ r. Leaves mid new (From mid.may_leave (Records r.design r.source r.vectors))) _ source d _ vs c.as_slice-source.ensures.value c.vectors-vectors.ensures.items (c.record.ensures.crashes told))
