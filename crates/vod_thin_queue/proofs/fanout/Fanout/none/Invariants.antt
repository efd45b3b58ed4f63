use Rattle.std.proofs.Common.{◌≡◌, [], map, replicate}
use Rattle.vod_thin_queue.proofs.fanout.Fanout.none.Given as goal

abbrev pub invariant-loop : goal.invariant-loop
invariant-loop l = map (λ list. list.items) l.lists.items ≡ replicate l.counter []
