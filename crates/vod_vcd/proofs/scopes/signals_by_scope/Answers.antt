-- Each signal is of an instance that there is.
use Rattle.std.proofs.Common.{arith}
use Rattle.vod_vcd.proofs.Instances.{signal_feeds-inside, signal_feeds-length}
use Rattle.vod_vcd.proofs.scopes.signals_by_scope.Goals as goal

pub new-requires-clause-inside : goal.new-requires-clause-inside
new-requires-clause-inside c =
    rw (c.as_slice.ensures.value, c.in_ok-feeds.ensures, c.signals.ensures, c.scopes.ensures)
    (signal_feeds-inside _ 0 _ (λ k e lt. (c.requires.signals k e lt).instance))

pub new-requires-clause-few : goal.new-requires-clause-few
new-requires-clause-few c =
    rw (c.as_slice.ensures.value, c.in_ok-feeds.ensures, c.signals.ensures) (omega (arith, signal_feeds-length 0 c.args.design.now.netlist.signals, c.requires.few_signals))
