use Rattle.std.proofs.Common.{◌≡◌, ◌∙◌, ap, List, ℕ}
use Rattle.vod_thin_syntax.specs.Limit.{sooner}
use Rattle.vod_thin.specs.Tables.{tables_of}
use Rattle.vod_thin.proofs.Rounds.{port_round}
use Rattle.vod_thin.proofs.judge.Judge.judge_ports.Goals as goal

pub loop-port-preserved : goal.loop-port-preserved
loop-port-preserved c =
    let more = port_round c.args.text.now.source.now (tables_of c.loop-port.self) (tables_of c.add_port.new.self) c.args.ports.now c.loop-port.port-index _ c.loop-port.first c.sooner-first.result
    c.loop-port-test.true c.in_ok-add_port.ensures (c.sooner-first.ensures ∙ ap (sooner c.loop-port.first) c.port_fault.ensures) in
    (more.0 ∙ c.loop-port.invariant.0, more.1 ∙ c.loop-port.invariant.1)
