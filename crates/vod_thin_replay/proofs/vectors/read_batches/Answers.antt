-- One more record was read, or the records end, reach the time or are damaged there.
use Rattle.std.proofs.Common.{arith}
use Rattle.std.proofs.lemmas.Result.{err_from_is_err_and}
use Rattle.vod_log.proofs.Opening.{unchanged-then}
use Rattle.vod_thin_replay.proofs.Batches.{read_end, damaged_weaker, damaged_record, more_record}
use Rattle.vod_thin_replay.proofs.vectors.read_batches.Goals as goal

pub returns-then-to-last_time-clause-read : goal.returns-then-to-last_time-clause-read
returns-then-to-last_time-clause-read g c = λ tells.
    read_end _ c.args.to _ c.loop-entry.entry-index c.loop-entry.past.vectors (c.loop-entry.invariant.read tells) (omega (arith, c.last_time.ensures, c.if-to-last_time.true))

pub returns-in_err-read_batch-clause-damaged : goal.returns-in_err-read_batch-clause-damaged
returns-in_err-read_batch-clause-damaged g c =
    let p = err_from_is_err_and c.from_residual.result c.from_residual.ensures.1 in
    rw (p.1, p.2)
    (damaged_weaker c.in_err-read_batch.field-0.0 _ _
    (λ at refused tells. damaged_record _ c.args.to _ _ c.args.batches.now c.loop-entry.entry-index c.loop-entry.past.vectors _ at (c.loop-entry.invariant.read tells) c.loop-entry-test.true (c.loop-entry.invariant.unchanged tells).bytes
    (omega (arith, c.last_time.ensures, c.if-to-last_time.false)) (refused tells))
    c.in_err-read_batch.ensures.damaged)

pub loop-entry-preserved : goal.loop-entry-preserved
loop-entry-preserved g c = record {
  design = c.read_batch.ensures.design;
  read = λ tells.
      more_record _ c.args.to _ _ c.args.batches.now c.loop-entry.entry-index c.loop-entry.past.vectors _ _ (c.loop-entry.invariant.read tells) c.loop-entry-test.true (c.loop-entry.invariant.unchanged tells).bytes
      (omega (arith, c.last_time.ensures, c.if-to-last_time.false)) (c.in_ok-read_batch.ensures.added tells);
  unchanged = λ tells. unchanged-then _ _ _ (c.loop-entry.invariant.unchanged tells) (c.read_batch.ensures.unchanged tells);
  later = omega (arith, c.loop-entry.invariant.later, c.read_batch.ensures.later);
}
