use Rattle.std.proofs.Common.{map, string_bytes, ap, Err, Ok, inl, refl}
use Rattle.vod_program.specs.Answer.{Count, Inputs, Device, World, inputs_of}
use Rattle.vod_program.specs.declared.status.Status.TheVariants as status
use Rattle.vod_program.proofs.SourceLaws.{OneAnswer, one_answer}
use Rattle.vod_program.proofs.CausedLaws.{Held, answered, said, may_write}
use Rattle.vod_program.proofs.RecordLaws.{reads_left, acknowledged_left}
use Rattle.vod_program.proofs.top.vod.Goals as goal

pub returns-in-Ok-clause-answered : goal.returns-in-Ok-clause-answered
returns-in-Ok-clause-answered g c =
    let w : World = record {
      words = map string_bytes c.args.words.now;
      inputs = record {
        source = g.D.Source.left c.args.design.now;
        script = g.S.Source.left c.args.input.now;
        design_faults = record { before = g.D.Source.faults c.args.design.now; after = g.D.Source.faults c.answer-ended.new.design };
        input_faults = record { before = g.S.Source.faults c.args.input.now; after = g.S.Source.faults c.answer-ended.new.input };
      };
      output = record { before = g.K.Sink.taken c.args.out.now; after = g.K.Sink.taken c.answer-ended.new.out; faults = record { before = g.K.Sink.faults c.args.out.now; after = g.K.Sink.faults c.answer-ended.new.out } };
      device = record { told = g.L.Deck.tells; before = g.L.Deck.view c.args.deck.now; after = g.L.Deck.view c.answer-ended.new.deck };
    } in
    let one : OneAnswer = one_answer c.one_design.ensures c.one_place.ensures.refused c.one_place.ensures.thin c.plain_names.ensures c.one_reading.ensures c.one_refusal.ensures.line c.one_refusal.ensures.unread in
    let held : Held = record { laws = record { one_head = c.one_head.ensures; one_design = one.design }; undamaged = c.sound_is_undamaged.ensures.batches; apart = c.one_damage.ensures.apart; place = c.one_damage.ensures.place; head = c.one_damage.ensures.head } in
    let err : Count = record { before = g.E.Sink.faults c.args.err.now; after = g.E.Sink.faults c.args.err.now } in
    answered one held w err (Ok c.in-Ok.field-0) status.Ok c.in-Ok.ensures.answers (inl refl)

pub returns-in-Err-clause-answered : goal.returns-in-Err-clause-answered
returns-in-Err-clause-answered g c =
    let w : World = record {
      words = map string_bytes c.args.words.now;
      inputs = record {
        source = g.D.Source.left c.args.design.now;
        script = g.S.Source.left c.args.input.now;
        design_faults = record { before = g.D.Source.faults c.args.design.now; after = g.D.Source.faults c.answer-ended.new.design };
        input_faults = record { before = g.S.Source.faults c.args.input.now; after = g.S.Source.faults c.answer-ended.new.input };
      };
      output = record { before = g.K.Sink.taken c.args.out.now; after = g.K.Sink.taken c.answer-ended.new.out; faults = record { before = g.K.Sink.faults c.args.out.now; after = g.K.Sink.faults c.answer-ended.new.out } };
      device = record { told = g.L.Deck.tells; before = g.L.Deck.view c.args.deck.now; after = g.L.Deck.view c.answer-ended.new.deck };
    } in
    let one : OneAnswer = one_answer c.one_design.ensures c.one_place.ensures.refused c.one_place.ensures.thin c.plain_names.ensures c.one_reading.ensures c.one_refusal.ensures.line c.one_refusal.ensures.unread in
    let held : Held = record { laws = record { one_head = c.one_head.ensures; one_design = one.design }; undamaged = c.sound_is_undamaged.ensures.batches; apart = c.one_damage.ensures.apart; place = c.one_damage.ensures.place; head = c.one_damage.ensures.head } in
    let err : Count = record { before = g.E.Sink.faults c.args.err.now; after = g.E.Sink.faults c.report.new.err } in
    answered one held w err (Err c.in-Err.fault) c.report.result c.in-Err.ensures.answers c.report.ensures.caused

pub returns-in-Err-clause-said : goal.returns-in-Err-clause-said
returns-in-Err-clause-said g c = said c.in-Err.fault c.report.result _ _ c.report.ensures.reports

pub returns-in-Err-clause-quiet : goal.returns-in-Err-clause-quiet
returns-in-Err-clause-quiet g c =
    let err : Count = record { before = g.E.Sink.faults c.args.err.now; after = g.E.Sink.faults c.report.new.err } in
    λ none. c.in-Err.ensures.quiet (λ w. none (may_write c.in-Err.fault err c.report.result c.report.ensures.caused w))

pub returns-in-Ok-clause-reads : goal.returns-in-Ok-clause-reads
returns-in-Ok-clause-reads g c =
    let deck : Device = record { told = g.L.Deck.tells; before = g.L.Deck.view c.args.deck.now; after = g.L.Deck.view c.answer-ended.new.deck } in
    let i : Inputs = inputs_of (g.D.Source.left c.args.design.now) (g.S.Source.left c.args.input.now) (g.D.Source.faults c.args.design.now) (g.D.Source.faults c.answer-ended.new.design) (g.S.Source.faults c.args.input.now) (g.S.Source.faults c.answer-ended.new.input) in
    λ told. reads_left i deck (c.answer-ended.ensures.crashes told) (λ t o. g.met.L.Deck.counts_now c.answer-ended.new.deck t o) (λ o. g.met.L.Deck.only_now c.args.deck.now o) (c.lives.ensures told)

pub returns-in-Err-clause-reads : goal.returns-in-Err-clause-reads
returns-in-Err-clause-reads g c =
    let deck : Device = record { told = g.L.Deck.tells; before = g.L.Deck.view c.args.deck.now; after = g.L.Deck.view c.answer-ended.new.deck } in
    let i : Inputs = inputs_of (g.D.Source.left c.args.design.now) (g.S.Source.left c.args.input.now) (g.D.Source.faults c.args.design.now) (g.D.Source.faults c.answer-ended.new.design) (g.S.Source.faults c.args.input.now) (g.S.Source.faults c.answer-ended.new.input) in
    λ told. reads_left i deck (c.answer-ended.ensures.crashes told) (λ t o. g.met.L.Deck.counts_now c.answer-ended.new.deck t o) (λ o. g.met.L.Deck.only_now c.args.deck.now o) (c.lives.ensures told)

pub returns-in-Ok-clause-acknowledged : goal.returns-in-Ok-clause-acknowledged
returns-in-Ok-clause-acknowledged g c =
    let deck : Device = record { told = g.L.Deck.tells; before = g.L.Deck.view c.args.deck.now; after = g.L.Deck.view c.answer-ended.new.deck } in
    let i : Inputs = inputs_of (g.D.Source.left c.args.design.now) (g.S.Source.left c.args.input.now) (g.D.Source.faults c.args.design.now) (g.D.Source.faults c.answer-ended.new.design) (g.S.Source.faults c.args.input.now) (g.S.Source.faults c.answer-ended.new.input) in
    λ told. acknowledged_left c.said_is_held.ensures i deck (c.answer-ended.ensures.crashes told) (λ o. g.met.L.Deck.only_now c.args.deck.now o)

pub returns-in-Err-clause-acknowledged : goal.returns-in-Err-clause-acknowledged
returns-in-Err-clause-acknowledged g c =
    let deck : Device = record { told = g.L.Deck.tells; before = g.L.Deck.view c.args.deck.now; after = g.L.Deck.view c.answer-ended.new.deck } in
    let i : Inputs = inputs_of (g.D.Source.left c.args.design.now) (g.S.Source.left c.args.input.now) (g.D.Source.faults c.args.design.now) (g.D.Source.faults c.answer-ended.new.design) (g.S.Source.faults c.args.input.now) (g.S.Source.faults c.answer-ended.new.input) in
    λ told. acknowledged_left c.said_is_held.ensures i deck (c.answer-ended.ensures.crashes told) (λ o. g.met.L.Deck.only_now c.args.deck.now o)
