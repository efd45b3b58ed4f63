use Rattle.std.proofs.Common.{ℕ, List, ◌+◌, sym, subst, arith}
use Rattle.vod_level.proofs.Steps.{IsReadyTo, to_start, to_step, to_end}
use Rattle.vod_level.proofs.peel.ready.Goals as goal

pub loop-driver-init : goal.loop-driver-init
loop-driver-init c = let P : List ℕ → Type 0 = IsReadyTo 0 c.args.left.now in subst P (sym c.new-ready.ensures.items) (to_start c.args.left.now)

pub loop-driver-preserved : goal.loop-driver-preserved
loop-driver-preserved c =
    let P : List ℕ → Type 0 = IsReadyTo (c.loop-driver.driver + 1) c.args.left.now in
    subst P (sym c.in_ok-add_if_none.ensures) (to_step c.loop-driver.driver c.args.left.now c.loop-driver.ready.items c.loop-driver-test.true c.loop-driver.invariant)

pub returns : goal.returns
returns c = to_end c.loop-driver.driver c.args.left.now c.loop-driver.ready.items (omega arith) c.loop-driver.invariant
