-- The sink took what stands before the rest.
use Rattle.std.proofs.Common.{◌≤◌, length}
use Rattle.vod_io.specs.Told.{Puts}
use Rattle.vod_io.proofs.writing.put_all.Given as goal

abbrev pub invariant-loop-rest : goal.invariant-loop-rest
invariant-loop-rest g l = record {
  puts : Puts (g.K.Sink.taken l.initial.sink) (g.K.Sink.taken l.sink) l.piece l.rest;
  counted : g.K.Sink.faults l.initial.sink ≤ g.K.Sink.faults l.sink;
}

abbrev pub decreases-loop-rest : goal.decreases-loop-rest
decreases-loop-rest g l = length l.rest
