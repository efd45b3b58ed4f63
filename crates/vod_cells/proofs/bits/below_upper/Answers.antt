use Rattle.std.proofs.Common.{◌+◌, ◌-◌, length, ap, ◌∙◌, arith}
use Rattle.vod_cells.proofs.OneBit.{length-slice}
use Rattle.vod_cells.proofs.bits.below_upper.Goals as goal

pub concat-requires : goal.concat-requires
concat-requires c =
    let size = ap length c.slice.ensures ∙ length-slice (c.args.place + 1) (c.width.result - (c.args.place + 1)) c.args.value (omega (arith, c.requires.inside, c.width.ensures.size)) in
    omega (arith, size, c.requires.inside, c.requires.reaches, c.requires.within, c.width.ensures.size)
