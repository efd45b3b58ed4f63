-- The records before the index were read.
use Rattle.std.proofs.Common.{◌≡◌, ◌≤◌, map}
use Rattle.vod_log.specs.Tail.{IsUnchanged}
use Rattle.vod_thin_replay.specs.Replay.{entry_at}
use Rattle.vod_thin_replay.proofs.Batches.{HasRead}
use Rattle.vod_thin_replay.proofs.vectors.read_batches.Given as goal

abbrev pub invariant-loop-entry : goal.invariant-loop-entry
invariant-loop-entry g l = record {
  design : l.past.design ≡ l.design;
  read : g.L.Deck.tells → HasRead l.design l.to (map (entry_at (g.L.Deck.view l.fn.deck).bytes) l.batches) l.entry-index l.past.vectors;
  unchanged : g.L.Deck.tells → IsUnchanged (g.L.Deck.view l.fn.deck) (g.L.Deck.view l.deck);
  later : (g.L.Deck.view l.fn.deck).faults ≤ (g.L.Deck.view l.deck).faults;
}
