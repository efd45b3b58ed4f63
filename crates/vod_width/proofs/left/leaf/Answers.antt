use Rattle.std.proofs.Common.{refl}
use Rattle.std.specs.Option.{option_copied}
use Rattle.vod_width.specs.declared.left.Left as code
use Rattle.vod_width.proofs.LeftSides.{leaf_near}
use Rattle.vod_width.proofs.left.leaf.Goals as goal

pub returns : goal.returns
returns c = λ y s.
    let r : code.Left = record { width = c.args.x.width; parts = c.unless_fault.result } in
    leaf_near r c.args.place (option_copied c.args.declared) c.args.x y c.is_written.result c.fault_if-fault.result c.in_ok-parts.parts s refl c.is_written.ensures c.fault_if-fault.ensures c.in_ok-parts.ensures
    c.unless_fault.ensures
