-- The children that are left, and behind them what is to be written, are the whole.
use Rattle.std.proofs.Common.{◌≡◌, ◌≤◌, ◌++◌, length, take, flat_map, All}
use Rattle.vod_vcd.specs.Header.{scope_text}
use Rattle.vod_vcd.specs.Scopes.{steps_text, StepFits}
use Rattle.vod_vcd.proofs.scopes.push_children.Given as goal

abbrev pub invariant-loop-left : goal.invariant-loop-left
invariant-loop-left l = record {
  within : l.left ≤ length l.children;
  so_far : flat_map (scope_text l.design.netlist (length l.design.netlist.scopes)) (take l.left l.children) ++ steps_text l.design.netlist l.steps.items
      ≡ flat_map (scope_text l.design.netlist (length l.design.netlist.scopes)) l.children ++ steps_text l.design.netlist l.initial.steps.items;
  fit : All (StepFits l.design.netlist) l.steps.items;
}

abbrev pub decreases-loop-left : goal.decreases-loop-left
decreases-loop-left l = l.left
