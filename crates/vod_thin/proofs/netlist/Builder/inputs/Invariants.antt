use Rattle.std.proofs.Common.{◌≡◌, ◌++◌, drop}
use Rattle.vod_thin.specs.Netlists.{inputs_of}
use Rattle.vod_thin.proofs.Brought.{inputs_from}
use Rattle.vod_thin.proofs.netlist.Builder.inputs.Given as goal

-- the signals that are left bring the rest
abbrev pub invariant-loop-number : goal.invariant-loop-number
invariant-loop-number l = l.inputs.items ++ inputs_from l.self.clocks.now l.number (drop l.number l.self.signals.now) ≡ inputs_of l.self.clocks.now l.self.signals.now
