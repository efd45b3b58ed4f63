-- What the calls leave is what the events leave, whose texts don't matter to the file.
use Rattle.std.proofs.Common.{◌≡◌, ℕ, List, take, sym, ◌∙◌, ap, subst, arith, rules}
use Rattle.vod_deck.specs.InMemory.{Disk, IsDisk, IsTorn, picked, run, fresh, events_of}
use Rattle.vod_deck.proofs.Files.{picked-is-torn}
use Rattle.vod_deck.proofs.Replays.{picked-same}
use Rattle.vod_deck.proofs.in_memory.picked_outcome.Goals as goal
use Rattle.vod_deck.proofs.in_memory.picked_outcome.Goals.{In_ok-said}

file-is : (c : In_ok-said) → c.in_ok-bytes.bytes.items
    ≡ picked c.args.pick (run (fresh c.deck.inside.first.items) (events_of c.deck.inside.wrote.items c.deck.inside.texts.items c.deck.inside.calls.items)).writes
    (run (fresh c.deck.inside.first.items) (events_of c.deck.inside.wrote.items c.deck.inside.texts.items c.deck.inside.calls.items)).file
file-is c =
    (rw (c.deref.ensures.value, c.deref-2.ensures.value, c.deref-3.ensures.value) at c.in_ok-bytes.ensures)
    ∙ picked-same c.args.pick c.deck.inside.first.items c.deck.inside.wrote.items c.deck.inside.texts.items c.deck.inside.calls.items

pub returns-clause-bytes : goal.returns-clause-bytes
returns-clause-bytes c = rw (← c.deck.view_is) (file-is c)

pub returns-clause-outcome : goal.returns-clause-outcome
returns-clause-outcome c =
    let d : Disk = run (fresh c.deck.inside.first.items) (events_of c.deck.inside.wrote.items c.deck.inside.texts.items c.deck.inside.calls.items) in
    let disk : IsDisk d c.deck.inside.bytes.items c.deck.inside.texts.items c.deck.inside.sure = c.deck.invariant.0.disk in
    let said : c.in_ok-said.said.items ≡ take c.deck.inside.sure c.deck.inside.texts.items = search rules in
    let P : List ℕ → Type 0 = λ f. IsTorn d.writes d.file f in
    rw (← c.deck.view_is) (record {
      file = subst P (sym (file-is c)) (picked-is-torn c.args.pick d.writes d.file disk.joined);
      said = (d.sure, omega arith, said ∙ ap (λ n. take n c.deck.inside.texts.items) disk.sure_is ∙ ap (λ t. take d.sure t) disk.given);
    })
