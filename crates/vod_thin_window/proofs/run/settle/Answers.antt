use Rattle.std.proofs.Common.{◌∙◌, subst}
use Rattle.vod_thin_queue.specs.Choice.{Takes}
use Rattle.vod_thin_window.proofs.StepsLaws.{leads_more}
use Rattle.vod_thin_window.proofs.run.settle.Goals as goal

pub loop-queue-preserved : goal.loop-queue-preserved
loop-queue-preserved c = record {
  design = c.step.ensures.design ∙ c.loop-queue.invariant.design;
  leads = leads_more _ _ c.loop-queue.queue.state _ 0 c.loop-queue.invariant.leads
      (subst (λ d. Takes d c.loop-queue.queue.state 0 c.step.new.self.state) c.loop-queue.invariant.design c.step.ensures.stepped);
}
