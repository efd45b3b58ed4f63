-- A sync that was made, or failed.
use Rattle.std.proofs.Common.{rules}
use Rattle.vod_deck.proofs.Calls.{memory-sync, memory-failed-sync, elapses-sync, elapses-failed-sync, lasts-sync}
use Rattle.vod_deck.proofs.in_memory.MemDeckDeck.sync.Goals as goal

pub invariant_of-self-then-contains : goal.invariant_of-self-then-contains
invariant_of-self-then-contains c =
    (rw (c.note.ensures.items) (memory-failed-sync _ _ _ _ _ _ c.self.invariant.0), search rules)

pub returns-then-contains-clause-outcomes : goal.returns-then-contains-clause-outcomes
returns-then-contains-clause-outcomes c =
    rw (← c.self.view_is, c.note.ensures.items) (elapses-failed-sync _ _ _ _ _ _ c.self.invariant.0 _ _ _ _ _ _)

pub invariant_of-self-2 : goal.invariant_of-self-2
invariant_of-self-2 c =
    (rw (c.note-2.ensures.items) (memory-sync _ _ _ _ _ _ c.self.invariant.0), search rules)

pub returns-clause-lasts : goal.returns-clause-lasts
returns-clause-lasts c = rw (← c.self.view_is, c.note-2.ensures.items) (lasts-sync _ _ _ _ _ _ c.self.invariant.0)

pub returns-clause-outcomes : goal.returns-clause-outcomes
returns-clause-outcomes c =
    rw (← c.self.view_is, c.note-2.ensures.items) (elapses-sync _ _ _ _ _ _ c.self.invariant.0 _ _ _ _ _ _)
