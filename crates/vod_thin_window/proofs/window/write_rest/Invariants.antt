use Rattle.std.proofs.Common.{◌≡◌, ◌≤◌, length}
use Rattle.vod_thin_window.specs.Progress.{Awaits, Follows}
use Rattle.vod_thin_window.proofs.window.write_rest.Given as goal

abbrev pub invariant-loop-vector : goal.invariant-loop-vector
invariant-loop-vector g l = record {
  design : l.queue.design ≡ l.fn.queue.design;
  awaits : Awaits l.fn.queue.design l.queue.state l.rest;
  shown : l.writer.shown ≡ l.queue.state.val;
  signals : l.writer.signals ≡ length l.fn.queue.design.signals;
  follows : Follows l.fn.queue.design l.fn.queue.state l.fn.writer.printed l.vectors l.to (g.K.Sink.taken l.fn.out) l.queue.state l.writer.printed l.rest (g.K.Sink.taken l.out);
  counted : g.K.Sink.faults l.fn.out ≤ g.K.Sink.faults l.out;
}

abbrev pub decreases-loop-vector : goal.decreases-loop-vector
decreases-loop-vector g l = length l.rest
