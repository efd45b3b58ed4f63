use Rattle.std.proofs.Common.{◌++◌, ◌∙◌, ap}
use Rattle.vod_design.specs.declared.parts.Signal.{Signal}
use Rattle.rows_idle.specs.Idle.{alike, if_it}
use Rattle.rows_idle.proofs.Numbers.{numbers_step}
use Rattle.rows_idle.proofs.idle.numbers.Goals as goal

pub loop-n-preserved : goal.loop-n-preserved
loop-n-preserved c =
    numbers_step c.args.registers c.args.signals.now c.loop-n.n c.index-signals-n.result c.loop-n.list.items c.add_if.new.list.items c.loop-n-test.true c.loop-n.invariant
    (c.in_ok-add_if.ensures ∙ ap (λ t. c.loop-n.list.items ++ if_it t c.loop-n.n) (c.alike.ensures ∙ ap (λ (s : Signal). alike c.args.registers s.register) c.index-signals-n.is))
