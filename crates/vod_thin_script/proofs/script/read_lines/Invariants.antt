-- The script is read up to the text.
use Rattle.std.proofs.Common.{◌≡◌, length}
use Rattle.vod_thin_script.proofs.Progress.{IsReadTo}
use Rattle.vod_thin_script.proofs.script.read_lines.Given as goal

abbrev pub invariant-loop-text : goal.invariant-loop-text
invariant-loop-text l = record {
  same : l.past.design ≡ l.inputs;
  read : IsReadTo l.inputs l.script l.text l.past.vectors;
}

abbrev pub decreases-loop-text : goal.decreases-loop-text
decreases-loop-text l = length l.text
