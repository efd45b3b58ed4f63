use Rattle.std.proofs.Common.{◌+◌, ◌-◌, ◌++◌, length, take, ap, ◌∙◌, arith}
use Rattle.vod_cells.proofs.OneBit.{replaced_parts}
use Rattle.vod_cells.proofs.bits.replaced.Goals as goal

pub returns : goal.returns
returns c =
    c.below_upper.ensures
    ∙ ap (λ low. take (length c.args.value - (c.args.place + 1)) c.args.value ++ low) c.before_lower.ensures
    ∙ replaced_parts c.args.place c.args.bit c.args.value c.requires (omega (arith, c.if-place-from.false, c.from.ensures, c.width.ensures.size))
