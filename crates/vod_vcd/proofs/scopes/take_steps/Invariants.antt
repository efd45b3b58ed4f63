-- The text so far, continued by the steps that are left, is the whole, which each step comes nearer to.
use Rattle.std.proofs.Common.{◌≡◌, ◌++◌, ◌-◌, length, All, vec_len}
use Rattle.vod_vcd.specs.Scopes.{steps_text, StepFits}
use Rattle.vod_vcd.proofs.scopes.take_steps.Given as goal

abbrev pub invariant-loop-step : goal.invariant-loop-step
invariant-loop-step l = record {
  so_far : l.text.items ++ steps_text l.design.netlist l.steps.items ≡ l.initial.text.items ++ steps_text l.design.netlist l.initial.steps.items;
  fit : All (StepFits l.design.netlist) l.steps.items;
}

abbrev pub decreases-loop-step : goal.decreases-loop-step
decreases-loop-step l = length (l.initial.text.items ++ steps_text l.design.netlist l.initial.steps.items) - vec_len l.text
