use Rattle.std.proofs.Common.{length, ap, ◌∙◌, arith}
use Rattle.vod_cells.proofs.OneBit.{length-slice}
use Rattle.vod_cells.proofs.bits.before_lower.Goals as goal

pub concat-requires : goal.concat-requires
concat-requires c =
    let size = ap length c.slice.ensures ∙ length-slice 0 c.args.count c.args.value (omega (arith, c.requires.inside)) in
    omega (arith, size, c.requires.one, c.requires.inside, c.requires.within)
