use Rattle.std.proofs.Common.{◌≡◌, [], sym, ◌∙◌, subst, refl}
use Rattle.vod_operand.specs.FaultLaws.{sound_none}
use Rattle.vod_width.specs.Sizes.{look}
use Rattle.vod_constants.specs.Constants.{vector_faults}
use Rattle.vod_constants.specs.Found.{IsSize}
use Rattle.vod_constants.proofs.Facts.{look_place, refused, span_found, sized}
use Rattle.vod_constants.proofs.bounds.vector_span.Goals as goal

pub returns-in-Some-clause-is : goal.returns-in-Some-clause-is
returns-in-Some-clause-is c =
    let d = c.args.decls.now in
    let r = c.args.range.now in
    refused c.in-Some.fault (vector_faults d r) c.refusal.result c.refusal.ensures (sym (c.span_fault.ensures (look d r.first) (look d r.second) (look_place d r.first) c.in_ok-a.ensures c.in_ok-b.ensures) ∙ c.in-Some.is)

pub returns-in-None-clause-is : goal.returns-in-None-clause-is
returns-in-None-clause-is c =
    let d = c.args.decls.now in
    let r = c.args.range.now in
    let sound : vector_faults d r ≡ [] = sound_none (vector_faults d r) (sym (c.span_fault.ensures (look d r.first) (look d r.second) (look_place d r.first) c.in_ok-a.ensures c.in_ok-b.ensures) ∙ c.in-None.is) in
    let is = span_found c.in_ok-a.a c.in_ok-b.b (look d r.first) (look d r.second) c.min.result c.or_zero.result c.in_ok-a.ensures c.in_ok-b.ensures sound (c.min.ensures ∙ rw (c.selected.ensures) refl) c.or_zero.ensures in
    (sound, rw (is.0, is.1) refl)

pub returns-in-None-clause-size : goal.returns-in-None-clause-size
returns-in-None-clause-size c =
    let d = c.args.decls.now in
    let r = c.args.range.now in
    let sound : vector_faults d r ≡ [] = sound_none (vector_faults d r) (sym (c.span_fault.ensures (look d r.first) (look d r.second) (look_place d r.first) c.in_ok-a.ensures c.in_ok-b.ensures) ∙ c.in-None.is) in
    let is = span_found c.in_ok-a.a c.in_ok-b.b (look d r.first) (look d r.second) c.min.result c.or_zero.result c.in_ok-a.ensures c.in_ok-b.ensures sound (c.min.ensures ∙ rw (c.selected.ensures) refl) c.or_zero.ensures in
    subst IsSize (sym is.0) (sized (look d r.first) (look d r.second) sound)
