use Rattle.std.proofs.Common.{◌≡◌, drop}
use Rattle.vod_thin_syntax.specs.View.{marks_of}
use Rattle.vod_thin.specs.Machine.{run}
use Rattle.vod_thin.specs.MachineView.{machine_of}
use Rattle.vod_thin.proofs.netlist.Builder.run.Given as goal

-- the tokens that are left bring the rest
abbrev pub invariant-loop-token : goal.invariant-loop-token
invariant-loop-token l = run l.self.signals.now (machine_of l.machine) (marks_of l.self.text.source.now (drop l.token-index l.tokens)) ≡ run l.self.signals.now (machine_of l.fn.machine) (marks_of l.self.text.source.now l.tokens)
