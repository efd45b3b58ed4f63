use Rattle.std.proofs.Common.{ℕ, ◌<◌, [], get_or}
use Rattle.vod_components.specs.Checks.{IsLed}
use Rattle.vod_components.proofs.checks.are_led.Given as goal

abbrev pub invariant-loop-node : goal.invariant-loop-node
invariant-loop-node l = (k : ℕ) → k < l.node → IsLed (get_or l.table k []) l.numbers l.found l.nodes k
