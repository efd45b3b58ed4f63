-- A text that was given, and sure where the call didn't fail.
use Rattle.std.proofs.Common.{◌≡◌, ◌++◌, length, length-append, refl, inl, arith, rules}
use Rattle.vod_deck.proofs.Elapses.{elapses-still}
use Rattle.vod_deck.proofs.Calls.{memory-say, memory-failed-say, elapses-say, elapses-failed-say, whole-say}
use Rattle.vod_deck.proofs.in_memory.MemDeckDeck.say.Goals as goal

pub returns-then-is_refused-clause-outcomes : goal.returns-then-is_refused-clause-outcomes
returns-then-is_refused-clause-outcomes c = rw (← c.self.view_is) (elapses-still _ _ _ _ _ _ _ _ _ (λ o. inl refl))

pub invariant_of-self-then-contains : goal.invariant_of-self-then-contains
invariant_of-self-then-contains c =
    (rw (c.keep.ensures.items, c.note.ensures.items) (memory-failed-say _ _ _ _ _ _ c.self.invariant.0 c.args.text.now), search rules)

pub returns-then-contains-clause-outcomes : goal.returns-then-contains-clause-outcomes
returns-then-contains-clause-outcomes c =
    rw (← c.self.view_is, c.keep.ensures.items, c.note.ensures.items) (elapses-failed-say _ _ _ _ _ _ c.self.invariant.0 _ _ _ _ _ _ c.args.text.now)

pub invariant_of-self-2 : goal.invariant_of-self-2
invariant_of-self-2 c =
    let long : c.len-self-inside.result ≡ length (c.self.inside.texts.items ++ c.args.text.now) = omega (arith, length-append c.self.inside.texts.items c.args.text.now, c.self.invariant.0.all_said) in
    (rw (c.keep.ensures.items, c.note-2.ensures.items, long) (memory-say _ _ _ _ _ _ c.self.invariant.0 c.args.text.now), search rules)

pub returns-clause-whole : goal.returns-clause-whole
returns-clause-whole c =
    rw (← c.self.view_is, c.keep.ensures.items, c.note-2.ensures.items) (λ o left. whole-say _ _ _ _ _ _ c.self.invariant.0 c.args.text.now o left)

pub returns-clause-outcomes : goal.returns-clause-outcomes
returns-clause-outcomes c =
    rw (← c.self.view_is, c.keep.ensures.items, c.note-2.ensures.items) (elapses-say _ _ _ _ _ _ c.self.invariant.0 _ _ _ _ _ _ c.args.text.now)
