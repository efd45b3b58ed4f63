-- One vector more, which is in form.
use Rattle.std.proofs.Common.{arith, ap, length, length-append, [], ◌∷◌}
use Rattle.std.proofs.lemmas.List.Elements.{All-push}
use Rattle.vod_thin_code.specs.Bytes.{IsInForm}
use Rattle.rows_device.proofs.records.vectors_of.Goals as goal

pub loop-rest-preserved : goal.loop-rest-preserved
loop-rest-preserved c = record {
  few = omega (arith, ap length c.in_ok-push-in-Some.ensures.items, length-append c.loop-rest.vectors.items (c.in-Some.vector ∷ []));
  forms = rw (c.in_ok-push-in-Some.ensures.items) (All-push (IsInForm c.args.design.now) _ _ c.loop-rest.invariant.forms (rw (c.in-Some.is) at c.in_ok-vector.ensures).0);
}
