use Rattle.std.proofs.Common.{refl}
use Rattle.vod_width.specs.declared.left.Left as code
use Rattle.vod_width.proofs.LeftSides.{at_left}
use Rattle.vod_width.proofs.left.left_at.Goals as goal

pub returns : goal.returns
returns c = λ y h.
    let r : code.Left = record { width = c.args.x.width; parts = c.unless_fault.result } in
    at_left r c.args.x c.args.place y c.wide_fault-wide.result h c.wide_fault-wide.ensures refl c.unless_fault.ensures
