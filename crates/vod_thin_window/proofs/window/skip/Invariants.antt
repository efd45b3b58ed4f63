use Rattle.std.proofs.Common.{◌≡◌, length}
use Rattle.vod_thin_window.specs.Progress.{Awaits, Passes}
use Rattle.vod_thin_window.proofs.window.skip.Given as goal

abbrev pub invariant-loop-vector : goal.invariant-loop-vector
invariant-loop-vector l = record {
  design : l.queue.design ≡ l.fn.queue.design;
  awaits : Awaits l.fn.queue.design l.queue.state l.rest;
  passes : Passes l.fn.queue.design l.fn.queue.state l.vectors l.from l.queue.state l.rest;
}

abbrev pub decreases-loop-vector : goal.decreases-loop-vector
decreases-loop-vector l = length l.rest
