-- The records so far were read, and the next gate is inside.
use Rattle.std.proofs.Common.{◌+◌, ◌*◌, ◌^◌, All, length, ◌≤◌, ◌<◌, ◌-◌}
use Rattle.vod_log.specs.Opened.{IsReadUpTo}
use Rattle.vod_log.specs.Tail.{IsNear, IsUnchanged}
use Rattle.vod_log.proofs.reading.read_log.Given as goal

abbrev pub invariant-loop-records : goal.invariant-loop-records
invariant-loop-records g l = record {
  told : g.L.Deck.tells → IsReadUpTo (g.L.Deck.view l.fn.deck).bytes l.records.items l.gate l.last;
  unchanged : g.L.Deck.tells → IsUnchanged (g.L.Deck.view l.fn.deck) (g.L.Deck.view l.deck);
  later : (g.L.Deck.view l.fn.deck).faults ≤ (g.L.Deck.view l.deck).faults;
  most : (g.L.Deck.view l.deck).bytes_read ≤ (g.L.Deck.view l.fn.deck).bytes_read + 49 * length l.records.items;
  inside : l.gate < l.len;
  near : IsNear l.gate l.last;
  places : All (λ r. r.at < 2 ^ 63) l.records.items;
}

abbrev pub decreases-loop-records : goal.decreases-loop-records
decreases-loop-records g l = l.len - l.gate
