use Rattle.std.proofs.Common.{subst, refl}
use Rattle.vod_design.specs.declared.parts.Scope.{Scope}
use Rattle.vod_design.specs.Flat.{ParentFits}
use Rattle.rows_idle.proofs.Numbers.{parents_step}
use Rattle.rows_idle.proofs.idle.parents_fit.Goals as goal

pub loop-n-preserved : goal.loop-n-preserved
loop-n-preserved c =
    parents_step c.args.scopes.now c.loop-n.n c.index-scopes-n.result c.loop-n-test.true c.loop-n.invariant
    (subst (λ (s : Scope). ParentFits c.loop-n.n s.parent) c.index-scopes-n.is (c.if-not-parent_fits.ensures refl))
