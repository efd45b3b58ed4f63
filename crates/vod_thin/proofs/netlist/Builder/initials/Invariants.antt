use Rattle.std.proofs.Common.{◌≡◌, ◌++◌, drop}
use Rattle.vod_thin.specs.Netlists.{initials_of}
use Rattle.vod_thin.proofs.Brought.{initials_from}
use Rattle.vod_thin.proofs.netlist.Builder.initials.Given as goal

-- the signals that are left bring the rest
abbrev pub invariant-loop-number : goal.invariant-loop-number
invariant-loop-number l = l.initials.items ++ initials_from l.number (drop l.number l.self.signals.now) ≡ initials_of l.self.signals.now
