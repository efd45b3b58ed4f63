-- A log of more than one byte is settled once the file was made to last.
use Rattle.std.proofs.Common.{◌<◌, length, sym, ◌∙◌, ap, arith}
use Rattle.vod_log.proofs.Creates.{more-than-one, opened-settled}
use Rattle.vod_log.proofs.log.Log.open_to_append.Goals as goal

pub returns-clause-settled : goal.returns-clause-settled
returns-clause-settled g c = λ tells.
    let long : 1 < length (g.L.Deck.view c.args.deck.now).bytes =
    omega (arith, more-than-one _ (sym c.is_empty.ensures ∙ c.if-is_empty.false), c.in_ok-len.ensures.total tells, ap length (c.sync.ensures.bytes tells)) in
    opened-settled (g.L.Deck.view c.args.deck.now) (g.L.Deck.view c.sync.new.self) (g.L.Deck.view c.len.new.self) (g.L.Deck.view c.read_log.new.deck) c.in_ok-log.log
    long (c.in_ok-sync.ensures.lasts tells) (c.sync.ensures.bytes tells) (c.len.ensures.outcomes tells) (c.len.ensures.bytes tells)
    (c.read_log.ensures.unchanged tells) (c.in_ok-log.ensures.committed tells)
