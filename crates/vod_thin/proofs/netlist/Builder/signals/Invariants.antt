use Rattle.std.proofs.Common.{◌≡◌, map, take}
use Rattle.vod_thin.specs.Netlists.{signal_of}
use Rattle.vod_thin.proofs.netlist.Builder.signals.Given as goal

abbrev pub invariant-loop-number : goal.invariant-loop-number
invariant-loop-number l = l.signals.items ≡ take l.number (map signal_of l.self.signals.now)
