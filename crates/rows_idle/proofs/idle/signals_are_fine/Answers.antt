use Rattle.std.proofs.Common.{All, subst, refl}
use Rattle.std.proofs.lemmas.List.{take_all}
use Rattle.std.proofs.lemmas.List.Elements.{All-more}
use Rattle.rows_idle.specs.Idle.{SignalIsFine}
use Rattle.rows_idle.proofs.idle.signals_are_fine.Goals as goal

pub loop-signal-preserved : goal.loop-signal-preserved
loop-signal-preserved c =
    All-more (SignalIsFine c.args.scopes) c.args.signals.now c.loop-signal.signal-index c.signal-item.result c.loop-signal-test.true c.loop-signal.invariant
    (subst (SignalIsFine c.args.scopes) c.signal-item.is (c.if-not-signal_is_fine.ensures refl))

pub returns : goal.returns
returns c = λ t. subst (All (SignalIsFine c.args.scopes)) (take_all c.loop-signal.signal-index c.args.signals.now c.loop-signal-test.false) c.loop-signal.invariant
