-- What came before a failed read and in it is gone, and past the limit all that came but the last byte is kept.
use Rattle.std.proofs.Common.{◌≡◌, ◌+◌, get_or, length, arith}
use Rattle.std.proofs.lemmas.List.{length-take}
use Rattle.std.proofs.lemmas.Result.{err_from_is_err_and}
use Rattle.vod_io.proofs.Left.{IsTaken-more, take-last}
use Rattle.vod_io.proofs.reading.fill.Goals as goal

pub returns-in_err-read_on-clause-moved_some : goal.returns-in_err-read_on-clause-moved_some
returns-in_err-read_on-clause-moved_some g c =
    let p = err_from_is_err_and c.from_residual.result c.from_residual.ensures.1 in
    rw p.1 (IsTaken-more _ _ _ _ _ _ c.loop-piece.invariant.gone c.in_err-read_on.ensures.err
    (omega (arith, length-take c.min-room.result c.loop-piece.piece, c.min-room.ensures, c.loop-piece.bytes.ok.0)))

pub returns-clause-moved_more : goal.returns-clause-moved_more
returns-clause-moved_more g c is =
    let long : length c.loop-piece.bytes.items ≡ c.args.limit + 1 = omega (arith, c.loop-piece.bytes.ok.0) in (
      get_or c.loop-piece.bytes.items c.args.limit 0,
      rw (c.truncate.ensures.items, take-last c.loop-piece.bytes.items c.args.limit long) c.loop-piece.invariant.gone,
    )
