use Rattle.std.proofs.Common.{refl}
use Rattle.vod_width.specs.declared.left.Left as code
use Rattle.vod_width.proofs.LeftSides.{concat_near}
use Rattle.vod_width.proofs.left.left_concat.Goals as goal

pub returns : goal.returns
returns c = λ ys s. let r : code.Left = record { width = c.total-width.result; parts = c.args.all.parts } in concat_near r c.args.all ys s c.total-width.ensures refl
