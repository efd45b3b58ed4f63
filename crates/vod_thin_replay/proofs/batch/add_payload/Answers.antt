-- The next vector is added, or the payload is no lawful vectors in form.
use Rattle.std.proofs.Common.{◌++◌, ◌∷◌, [], sym, ap, ◌∙◌, subst, Err}
use Rattle.vod_thin_design.specs.Netlist.{Netlist}
use Rattle.vod_thin_design.specs.Vectors.{IsLawful}
use Rattle.vod_thin_replay.proofs.Payloads.{added_more, unread, unadded}
use Rattle.vod_thin_replay.proofs.batch.add_payload.Goals as goal

pub returns-in_default-clause-added : goal.returns-in_default-clause-added
returns-in_default-clause-added c =
    unread c.args.design.now c.requires.few c.args.payload.now _ _ _ c.loop-rest.invariant.added (sym c.loop-rest-test.ensures) (rw c.in_default.is at c.in_ok-vector.ensures)

pub returns-in-Err-Refused-clause-added : goal.returns-in-Err-Refused-clause-added
returns-in-Err-Refused-clause-added c =
    let read = rw c.in-Some.is at c.in_ok-vector.ensures in
    unadded c.args.design.now c.requires.few c.args.payload.now _ _ _ c.in-Some.vector c.in-Some.behind.now c.loop-rest.invariant.added read.0 read.1
    (λ lawful. c.in-Err-Refused.ensures.refused (ap (λ f. Err f) c.in-Err-Refused.field-0-is) (subst (λ (d : Netlist). IsLawful d (c.loop-rest.past.vectors ++ c.in-Some.vector ∷ [])) (sym c.loop-rest.invariant.design) lawful))

pub loop-rest-preserved : goal.loop-rest-preserved
loop-rest-preserved c =
    let read = rw c.in-Some.is at c.in_ok-vector.ensures in
    record {
      design = c.in-Ok.ensures.design ∙ c.loop-rest.invariant.design;
      added = added_more _ _ _ _ _ _ c.in-Some.vector c.in-Some.behind.now c.loop-rest.invariant.added read.0 read.1 c.in-Ok.ensures.added;
    }
