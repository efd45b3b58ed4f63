-- The records behind the head are those of the log.
use Rattle.std.proofs.Common.{◌<◌, ◌^◌, List, subst}
use Rattle.std.proofs.lemmas.Result.{err_from_is_err_and}
use Rattle.vod_log.specs.Format.{Entry}
use Rattle.vod_log.specs.Opened.{IsPlaced}
use Rattle.vod_log.specs.declared.log.Record.{Record}
use Rattle.vod_thin_script.proofs.Names.{few_inputs}
use Rattle.vod_thin_replay.specs.Replay.{reaching, AreUpTo, IsDamagedAmong}
use Rattle.vod_thin_replay.proofs.Opened.{opened_behind, All-behind}
use Rattle.vod_thin_replay.proofs.Batches.{damaged_weaker, damaged_among, held_up_to}
use Rattle.vod_thin_replay.proofs.vectors.read_vectors.Goals as goal

pub read_batches-requires-clause-few : goal.read_batches-requires-clause-few
read_batches-requires-clause-few g c = few_inputs _ c.inputs.ensures.accepted

pub read_batches-requires-clause-inside : goal.read_batches-requires-clause-inside
read_batches-requires-clause-inside g c = λ tells.
    rw (c.behind_first-batches.ensures, c.records.ensures) (All-behind (IsPlaced (g.L.Deck.view c.args.deck.now).bytes) c.args.log.now.records (c.requires.placed tells).inside)

pub read_batches-requires-clause-short : goal.read_batches-requires-clause-short
read_batches-requires-clause-short g c = rw (c.behind_first-batches.ensures, c.records.ensures) (All-behind (λ (r : Record). r.at < 2 ^ 63) c.args.log.now.records c.requires.near)

pub returns-in_err-read_batches-clause-needed : goal.returns-in_err-read_batches-clause-needed
returns-in_err-read_batches-clause-needed g c =
    let p = err_from_is_err_and c.from_residual-in_err-read_batches.result c.from_residual-in_err-read_batches.ensures.1 in
    rw (p.1, p.2)
    (damaged_weaker c.in_err-read_batches.field-0.0 _ _
    (λ at damaged tells.
    subst (λ (es : List Entry). IsDamagedAmong c.args.design.now (reaching c.args.to 0 es) at) (opened_behind _ _ _ c.requires tells _ _ c.records.ensures c.behind_first-batches.ensures) (damaged tells))
    c.in_err-read_batches.ensures.damaged)

pub returns-in_err-read_batches-clause-damaged : goal.returns-in_err-read_batches-clause-damaged
returns-in_err-read_batches-clause-damaged g c =
    let p = err_from_is_err_and c.from_residual-in_err-read_batches.result c.from_residual-in_err-read_batches.ensures.1 in
    rw (p.1, p.2)
    (damaged_weaker c.in_err-read_batches.field-0.0 _ _
    (λ at damaged tells.
    subst (λ (es : List Entry). IsDamagedAmong c.args.design.now es at) (opened_behind _ _ _ c.requires tells _ _ c.records.ensures c.behind_first-batches.ensures)
    (damaged_among c.args.design.now c.args.to _ at (damaged tells)))
    c.in_err-read_batches.ensures.damaged)

pub returns-clause-read : goal.returns-clause-read
returns-clause-read g c = λ tells.
    subst (λ (es : List Entry). AreUpTo c.args.design.now es c.args.to c.read_batches.new.past.vectors) (opened_behind _ _ _ c.requires tells _ _ c.records.ensures c.behind_first-batches.ensures)
    (c.in_ok-read_batches.ensures.read tells)

pub returns-clause-held : goal.returns-clause-held
returns-clause-held g c = λ tells.
    held_up_to c.args.design.now (c.one_batch.ensures c.args.design.now (few_inputs _ c.inputs.ensures.accepted)) _ c.args.to _
    (subst (λ (es : List Entry). AreUpTo c.args.design.now es c.args.to c.read_batches.new.past.vectors) (opened_behind _ _ _ c.requires tells _ _ c.records.ensures c.behind_first-batches.ensures)
    (c.in_ok-read_batches.ensures.read tells)).batches
