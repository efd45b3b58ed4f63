use Rattle.std.proofs.Common.{◌<◌, ◌≤◌, sym, arith}
use Rattle.std.proofs.Common.{◌^◌}
use Rattle.std.proofs.lemmas.Bool.{lt-ltb}
use Rattle.std.proofs.Math.Nat.{pow-le-pow_right}
use Rattle.vod_design.proofs.Images.{width_test}
use Rattle.vod_design.proofs.image.has_width.Goals as goal

pub returns-then-width-lt64 : goal.returns-then-width-lt64
returns-then-width-lt64 c = width_test c.args.number c.args.width

pub returns-else-width-lt64 : goal.returns-else-width-lt64
returns-else-width-lt64 c =
    let two : 0 < 2 = omega arith in
    let far : 64 ≤ c.args.width = omega arith in
    let wide : 2 ^ 64 ≤ 2 ^ c.args.width = pow-le-pow_right two far in
    sym (lt-ltb c.args.number (2 ^ c.args.width) (omega (arith, c.ranges.number.fits)))
