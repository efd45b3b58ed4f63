-- A step less is left, and the text is nearer to the whole.
use Rattle.std.proofs.Common.{◌≡◌, ◌++◌, sym, ◌∙◌}
use Rattle.vod_vcd.specs.Scopes.{steps_text}
use Rattle.vod_vcd.proofs.Instances.{step-less, step-next}
use Rattle.vod_vcd.proofs.scopes.take_steps.Goals as goal

abbrev so_far : (c : goal.In_ok-take_step) → c.take_step.new.text.items ++ steps_text c.args.design.now.netlist c.take_step.new.steps.items
    ≡ c.args.text.now.items ++ steps_text c.args.design.now.netlist c.args.steps.now.items
so_far c = c.in_ok-take_step.ensures.text ∙ step-next c.args.design.now.netlist _ _ _ c.loop-step.steps.items _ c.in-Some.ensures.items c.loop-step.invariant.so_far

pub loop-step-smaller : goal.loop-step-smaller
loop-step-smaller c = step-less _ _ _ _ _ (so_far c) (sym c.take_step.new.text.ok.0) c.in_ok-take_step.ensures.more

pub loop-step-preserved : goal.loop-step-preserved
loop-step-preserved c = record { so_far = so_far c; fit = c.in_ok-take_step.ensures.fit }
