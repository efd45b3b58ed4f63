-- The law of a deck in memory.
use Rattle.vod_deck.proofs.Calls.{live-memory}
use Rattle.vod_deck.proofs.in_memory.MemDeckDeck.lives.Goals as goal

pub returns : goal.returns
returns c = rw (← c.self.view_is) (live-memory _ _ _ _ _ _ c.self.invariant.0 0 0)
