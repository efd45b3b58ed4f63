-- A write that was held, or failed.
use Rattle.std.proofs.Common.{◌≡◌, ◌≤◌, length, ◌∙◌, rules}
use Rattle.vod_deck.specs.InMemory.{laid}
use Rattle.vod_deck.proofs.Calls.{memory-write, memory-failed-write, elapses-write}
use Rattle.vod_deck.proofs.Files.{laid-holds}
use Rattle.vod_deck.proofs.in_memory.MemDeckDeck.write_at.Goals as goal

pub invariant_of-self-then-contains : goal.invariant_of-self-then-contains
invariant_of-self-then-contains c =
    let low : c.args.at ≤ length c.self.inside.bytes.items = rw (← c.self.view_is) at c.requires.joined in
    (rw (c.keep.ensures.items, c.note.ensures.items) (memory-failed-write _ _ _ _ _ _ c.self.invariant.0 c.args.at c.args.bytes.now low), search rules)

pub returns-then-contains-clause-outcomes : goal.returns-then-contains-clause-outcomes
returns-then-contains-clause-outcomes c =
    rw (← c.self.view_is, c.keep.ensures.items, c.note.ensures.items) (elapses-write _ _ _ _ _ _ c.self.invariant.0 _ _ _ _ _ _ c.args.at c.args.bytes.now _)

pub invariant_of-self-2 : goal.invariant_of-self-2
invariant_of-self-2 c =
    let low : c.args.at ≤ length c.self.inside.bytes.items = rw (← c.self.view_is) at c.requires.joined in
    let whole : c.lay.new.file.items ≡ laid c.args.at c.args.bytes.now c.self.inside.bytes.items = rw c.unwrap.ensures at c.lay.ensures.laid in
    (rw (whole, c.keep.ensures.items, c.note-2.ensures.items) (memory-write _ _ _ _ _ _ c.self.invariant.0 c.args.at c.args.bytes.now low), search rules)

pub returns-clause-written : goal.returns-clause-written
returns-clause-written c =
    let low : c.args.at ≤ length c.self.inside.bytes.items = rw (← c.self.view_is) at c.requires.joined in
    let whole : c.lay.new.file.items ≡ laid c.args.at c.args.bytes.now c.self.inside.bytes.items = rw c.unwrap.ensures at c.lay.ensures.laid in
    rw (← c.self.view_is) (whole ∙ laid-holds c.args.at c.args.bytes.now c.self.inside.bytes.items low)

pub returns-clause-outcomes : goal.returns-clause-outcomes
returns-clause-outcomes c =
    rw (← c.self.view_is, c.keep.ensures.items, c.note-2.ensures.items) (elapses-write _ _ _ _ _ _ c.self.invariant.0 _ _ _ _ _ _ c.args.at c.args.bytes.now _)
