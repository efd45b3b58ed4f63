use Rattle.std.proofs.Common.{◌≡◌, ◌^◌}
use Rattle.vod_thin_queue.proofs.Tree.{IsDownTo}
use Rattle.vod_thin_queue.proofs.flags.Flags.find.Given as goal

abbrev pub invariant-loop : goal.invariant-loop
invariant-loop l = record {
  level : l.level ≡ 2 ^ l.counter;
  down : IsDownTo l.self-inside.counts.items l.level l.place l.left l.nth;
}
