-- One child less is left.
use Rattle.std.proofs.Common.{◌-◌, get_or, arith}
use Rattle.std.proofs.lemmas.List.Elements.{All-push}
use Rattle.vod_vcd.specs.declared.scopes.Step.TheVariants.{Enter}
use Rattle.vod_vcd.specs.Scopes.{StepFits}
use Rattle.vod_vcd.proofs.Instances.{child-next}
use Rattle.vod_vcd.proofs.scopes.push_children.Goals as goal

pub loop-left-preserved : goal.loop-left-preserved
loop-left-preserved c = record {
  within = omega (arith, c.loop-left.invariant.within);
  so_far = rw c.in_ok-push.ensures.items
      (child-next c.args.design.now.netlist c.args.children.now c.loop-left.steps.items c.loop-left.left _ (omega (arith, c.loop-left-test.true)) c.loop-left.invariant.within c.loop-left.invariant.so_far);
  fit = rw c.in_ok-push.ensures.items
      (All-push (StepFits c.args.design.now.netlist) c.loop-left.steps.items (Enter (get_or c.args.children.now (c.loop-left.left - 1) 0)) c.loop-left.invariant.fit
      (c.requires.inside (c.loop-left.left - 1) 0 (omega (arith, c.loop-left.invariant.within, c.loop-left-test.true))));
}
