-- The calls so far were made again, and what is left is the bytes of the others.
use Rattle.std.proofs.Common.{◌≡◌, ◌≤◌, [], take, drop}
use Rattle.vod_deck.specs.InMemory.{run, fresh, events_of, total_wrote}
use Rattle.vod_deck.specs.Replay.{IsReplay}
use Rattle.vod_deck.proofs.in_memory.replay.picked_file.Given as goal

abbrev pub invariant-loop-call : goal.invariant-loop-call
invariant-loop-call l = record {
  again : IsReplay l.pick (run (fresh l.first) (events_of l.wrote [] (take l.call-index l.calls))) l.replay;
  rest : l.rest ≡ drop (total_wrote (take l.call-index l.calls)) l.wrote;
  few : l.replay.writes ≤ l.call-index;
}
