-- The first committed record is the first that the log has.
use Rattle.std.proofs.Common.{ℕ, List, sym, ◌∙◌, subst}
use Rattle.vod_thin_code.specs.Bytes.{IsHead}
use Rattle.vod_thin_replay.proofs.Opened.{source_held, source_missing}
use Rattle.vod_thin_replay.proofs.source.read_source.Goals as goal

pub returns-in-Some-clause-source : goal.returns-in-Some-clause-source
returns-in-Some-clause-source g c = λ tells.
    let payload = c.as_slice.ensures ∙ c.in_ok-read_payload.ensures.payload tells in
    let is = rw c.in-Some.is at c.read_head.ensures in
    source_held g.L.Deck.tells _ c.args.log.now c.requires tells _ _ c.records-records.ensures (sym c.is_empty.ensures ∙ c.if-is_empty.false) c.in-Some._interval c.in-Some.source.now
    (subst (λ (bs : List ℕ). IsHead bs c.in-Some._interval c.in-Some.source.now) payload is)

pub returns-in-None-clause-damaged : goal.returns-in-None-clause-damaged
returns-in-None-clause-damaged g c = λ tells.
    let payload = c.as_slice.ensures ∙ c.in_ok-read_payload.ensures.payload tells in
    let missing = rw c.in-None.is at c.read_head.ensures in
    source_missing g.L.Deck.tells _ c.args.log.now c.requires tells _ _ c.records-records.ensures (sym c.is_empty.ensures ∙ c.if-is_empty.false)
    (subst (λ (bs : List ℕ). (interval : ℕ) (source : List ℕ) → IsHead bs interval source → ⊥) payload missing)
