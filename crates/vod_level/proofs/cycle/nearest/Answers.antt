use Rattle.std.proofs.Common.{◌∙◌, min, get_or, refl, ap, arith}
use Rattle.vod_level.proofs.Walking.{Nearest, nearest_step, nearest_end}
use Rattle.vod_level.proofs.cycle.nearest.Goals as goal

pub loop-driver-preserved : goal.loop-driver-preserved
loop-driver-preserved c =
    let s : Nearest c.args.drivers.now c.args.steps.now c.loop-driver.driver-index c.args.count c.loop-driver.least = record { found = c.loop-driver.invariant.found; below = c.loop-driver.invariant.below } in
    let t = nearest_step c.args.drivers.now c.args.steps.now c.loop-driver.driver-index c.args.count c.loop-driver.least (get_or c.args.drivers.now c.loop-driver.driver-index 0) c.min-least.result c.loop-driver-test.true refl
    (c.min-least.ensures ∙ ap (λ v. min c.loop-driver.least v) c.driver_at.ensures) s in
    record { found = t.found; below = t.below }

pub returns : goal.returns
returns c =
    let s : Nearest c.args.drivers.now c.args.steps.now c.loop-driver.driver-index c.args.count c.loop-driver.least = record { found = c.loop-driver.invariant.found; below = c.loop-driver.invariant.below } in
    let q = c.requires.some in
    nearest_end c.args.drivers.now c.args.steps.now c.loop-driver.driver-index c.args.count c.loop-driver.least q.0 (omega arith) c.requires.inside c.requires.few q.1 q.2 s
