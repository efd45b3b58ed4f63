-- The record is appended, and then the text is said.
use Rattle.std.proofs.lemmas.Result.{on_ok_weaker}
use Rattle.vod_thin_code.specs.Held.{ack}
use Rattle.vod_thin_store.proofs.Commits.{text-of, commits-said, commits-crashes}
use Rattle.vod_thin_store.proofs.append.commit.Goals as goal

pub returns-clause-said : goal.returns-clause-said
returns-clause-said g c =
    on_ok_weaker c.say_ack.result (λ whole tells.
    let leaves = c.append.ensures.crashes tells in
    commits-said (g.L.Deck.view c.args.deck.now) (g.L.Deck.view c.append.new.deck) (g.L.Deck.view c.say_ack.new.deck) (ack c.args.after.vectors c.args.after.last)
    (text-of (g.L.Deck.view c.args.deck.now) (g.L.Deck.view c.append.new.deck) _ _ leaves
    (λ o since. g.met.L.Deck.only_now c.args.deck.now o since) (λ o now. g.met.L.Deck.counts_now c.append.new.deck _ o leaves.later now)) (whole tells)) c.say_ack.ensures.whole

pub returns-clause-crashes : goal.returns-clause-crashes
returns-clause-crashes g c = λ tells.
    let leaves = c.append.ensures.crashes tells in
    commits-crashes (g.L.Deck.view c.args.deck.now) (g.L.Deck.view c.append.new.deck) (g.L.Deck.view c.say_ack.new.deck) (ack c.args.after.vectors c.args.after.last)
    (text-of (g.L.Deck.view c.args.deck.now) (g.L.Deck.view c.append.new.deck) _ _ leaves
    (λ o since. g.met.L.Deck.only_now c.args.deck.now o since) (λ o now. g.met.L.Deck.counts_now c.append.new.deck _ o leaves.later now)) _ _ leaves
    (c.in_ok-append.ensures.held tells) (c.in_ok-append.ensures.settled tells).lasts (c.say_ack.ensures.outcomes tells)
