-- What is left to write, written, gives all written.
use Rattle.std.proofs.Common.{◌≡◌, drop, length}
use Rattle.vod_thin_script.specs.Held.{written}
use Rattle.vod_thin_script.proofs.held.write.Given as goal

abbrev pub invariant-loop-assignment : goal.invariant-loop-assignment
invariant-loop-assignment l = record {
  same : length l.values ≡ length l.initial.values;
  left : written l.values (drop l.assignment-index l.moves) ≡ written l.initial.values l.moves;
}
