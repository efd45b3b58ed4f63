use Rattle.std.proofs.Common.{arith}
use Rattle.vod_expr.proofs.Taken.{went_on, stayed, goes_on, stops_at, stops_last}
use Rattle.vod_expr_machine.specs.View.{state_of}
use Rattle.vod_expr.proofs.read.take_run.Goals as goal

pub returns-then-not-branch : goal.returns-then-not-branch
returns-then-not-branch c =
    let stay = stayed c.in_ok-step.field-0 _ _ c.step.new.self c.if-not-branch.true c.in_ok-step.ensures in
    stops_at c.args.source.now c.args.run.now c.loop-taken.taken _ c.loop-taken-test.true c.loop-taken.reader c.step.new.self c.loop-taken.invariant stay.0 stay.1

pub loop-taken-preserved : goal.loop-taken-preserved
loop-taken-preserved c =
    goes_on c.args.source.now c.args.run.now c.loop-taken.taken _ c.loop-taken-test.true (state_of c.loop-taken.reader) (state_of c.step.new.self) c.loop-taken.invariant
    (went_on c.in_ok-step.field-0 _ _ c.step.new.self c.if-not-branch.false c.in_ok-step.ensures)

pub returns : goal.returns
returns c = stops_last c.args.source.now c.args.run.now c.loop-taken.taken (omega arith) c.loop-taken.reader c.loop-taken.invariant
