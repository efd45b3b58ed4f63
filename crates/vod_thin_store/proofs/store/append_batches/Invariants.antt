-- The vectors so far stand in whole batches on the deck.
use Rattle.std.proofs.Common.{◌≡◌, ℕ, ◌≤◌, ◌-◌, length, take, false}
use Rattle.vod_thin_store.specs.Stored.{EndsWith, HasStored}
use Rattle.vod_thin_store.proofs.store.append_batches.Given as goal

abbrev pub invariant-loop-held : goal.invariant-loop-held
invariant-loop-held g l = record {
  whole : l.tail.broken ≡ false;
  ends : EndsWith l.design (take l.held l.vectors) l.tail.last;
  stored : g.L.Deck.tells → HasStored l.design l.source l.vectors l.held (g.L.Deck.view l.fn.deck) (g.L.Deck.view l.deck) l.tail.gate l.tail.last;
  later : (g.L.Deck.view l.fn.deck).faults ≤ (g.L.Deck.view l.deck).faults;
}

abbrev pub decreases-loop-held : goal.decreases-loop-held
decreases-loop-held g l = length l.vectors - l.held
