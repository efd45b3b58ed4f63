use Rattle.std.proofs.Common.{All, take}
use Rattle.rows_idle.specs.Idle.{SignalIsFine}
use Rattle.rows_idle.proofs.idle.signals_are_fine.Given as goal

abbrev pub invariant-loop-signal : goal.invariant-loop-signal
invariant-loop-signal l = All (SignalIsFine l.scopes) (take l.signal-index l.signals)
