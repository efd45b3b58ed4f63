use Rattle.std.proofs.Common.{◌≡◌, Err, refl, sym, ap, subst, ◌∙◌, [], List, ℕ}
use Rattle.std.proofs.lemmas.Result.{err_from_is_err_and}
use Rattle.vod_thin_design.specs.Vectors.{IsLawful}
use Rattle.vod_thin_window.specs.Request.{dump_of, IsWritten, IsBegun}
use Rattle.vod_program.specs.Answer.{Inputs, Output, DumpAnswers}
use Rattle.vod_program.proofs.AnswerLaws.{no_design, no_vectors, no_dump, design_told, script_refused, asked, request, same_request}
use Rattle.vod_program.proofs.dump.dump.Goals as goal

pub returns-in_err-reading-clause-answers : goal.returns-in_err-reading-clause-answers
returns-in_err-reading-clause-answers g c =
    let i : Inputs = record {
      source = g.D.Source.left c.args.design.now;
      script = g.S.Source.left c.args.input.now;
      design_faults = record { before = g.D.Source.faults c.args.design.now; after = g.D.Source.faults c.reading_of.new.source };
      input_faults = record { before = g.S.Source.faults c.args.input.now; after = g.S.Source.faults c.args.input.now };
    } in
    let out : Output = record {
      before = g.K.Sink.taken c.args.out.now;
      after = g.K.Sink.taken c.args.out.now;
      faults = record { before = g.K.Sink.faults c.args.out.now; after = g.K.Sink.faults c.args.out.now };
    } in
    let p = err_from_is_err_and c.from_residual.result c.from_residual.ensures.1 in
    let fault = c.in_err-reading.ensures in
    subst (λ r. DumpAnswers i out r) (sym (p.1 ∙ ap Err p.2)) (no_design i out c.in_err-reading.field-0.0 fault.refused (λ e. fault.caused (ap Err e)) refl)

pub returns-in_err-past-clause-answers : goal.returns-in_err-past-clause-answers
returns-in_err-past-clause-answers g c =
    let i : Inputs = record {
      source = g.D.Source.left c.args.design.now;
      script = g.S.Source.left c.args.input.now;
      design_faults = record { before = g.D.Source.faults c.args.design.now; after = g.D.Source.faults c.reading_of.new.source };
      input_faults = record { before = g.S.Source.faults c.args.input.now; after = g.S.Source.faults c.vectors_of.new.script };
    } in
    let out : Output = record {
      before = g.K.Sink.taken c.args.out.now;
      after = g.K.Sink.taken c.args.out.now;
      faults = record { before = g.K.Sink.faults c.args.out.now; after = g.K.Sink.faults c.args.out.now };
    } in
    let read = c.in_ok-reading.ensures in
    let source = c.in_ok-reading.reading.source.items in
    let d = c.in_ok-reading.reading.design in
    let p = err_from_is_err_and c.from_residual-in_err-past.result c.from_residual-in_err-past.ensures.1 in
    let fault = c.in_err-past.ensures in
    subst (λ r. DumpAnswers i out r) (sym (p.1 ∙ ap Err p.2))
    (no_vectors i out c.in_err-past.field-0.0 (design_told i source d read.told read.source)
    (script_refused i source d c.in_err-past.field-0.0 read.told read.source fault.refused) (λ e. fault.caused (ap Err e)) refl)

pub returns-in-Ok-clause-answers : goal.returns-in-Ok-clause-answers
returns-in-Ok-clause-answers g c =
    let i : Inputs = record {
      source = g.D.Source.left c.args.design.now;
      script = g.S.Source.left c.args.input.now;
      design_faults = record { before = g.D.Source.faults c.args.design.now; after = g.D.Source.faults c.reading_of.new.source };
      input_faults = record { before = g.S.Source.faults c.args.input.now; after = g.S.Source.faults c.vectors_of.new.script };
    } in
    let read = c.in_ok-reading.ensures in
    let source = c.in_ok-reading.reading.source.items in
    let d = c.in_ok-reading.reading.design in
    let vs = c.in_ok-past.past.vectors in
    let before = g.K.Sink.taken c.args.out.now in
    let after = g.K.Sink.taken c.write_dump.new.out in
    let written : IsWritten (request source d vs) (dump_of (request source d vs)) before after =
    same_request (λ r. IsWritten r (dump_of r) before after) _ source d _ vs c.as_slice-source.ensures.value c.vectors.ensures.items c.in-Ok.ensures.written in
    asked i (λ r. IsWritten r (dump_of r) before after) source d vs read.told read.source c.in_ok-past.ensures.vectors (subst (λ e. IsLawful e vs) c.in_ok-past.ensures.design c.vectors.ensures.lawful) written

pub returns-clause-answers : goal.returns-clause-answers
returns-clause-answers g c =
    let i : Inputs = record {
      source = g.D.Source.left c.args.design.now;
      script = g.S.Source.left c.args.input.now;
      design_faults = record { before = g.D.Source.faults c.args.design.now; after = g.D.Source.faults c.reading_of.new.source };
      input_faults = record { before = g.S.Source.faults c.args.input.now; after = g.S.Source.faults c.vectors_of.new.script };
    } in
    let out : Output = record {
      before = g.K.Sink.taken c.args.out.now;
      after = g.K.Sink.taken c.write_dump.new.out;
      faults = record { before = g.K.Sink.faults c.args.out.now; after = g.K.Sink.faults c.write_dump.new.out };
    } in
    let read = c.in_ok-reading.ensures in
    let source = c.in_ok-reading.reading.source.items in
    let d = c.in_ok-reading.reading.design in
    let vs = c.in_ok-past.past.vectors in
    let begun : IsBegun (request source d vs) (dump_of (request source d vs)) out.before out.after =
    same_request (λ r. IsBegun r (dump_of r) out.before out.after) _ source d _ vs c.as_slice-source.ensures.value c.vectors.ensures.items c.in-Err.ensures.begun in
    subst (λ s. DumpAnswers i out (Err s)) (sym c.window_fault.ensures)
    (no_dump i out c.in-Err.fault (λ e. c.in-Err.ensures.caused (ap Err e))
    (asked i (λ r. IsBegun r (dump_of r) out.before out.after) source d vs read.told read.source c.in_ok-past.ensures.vectors (subst (λ e. IsLawful e vs) c.in_ok-past.ensures.design c.vectors.ensures.lawful) begun))
