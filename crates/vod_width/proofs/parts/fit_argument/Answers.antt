use Rattle.std.proofs.Common.{◌∙◌, max, refl, ap, slice_get}
use Rattle.vod_width.specs.Calls.{width_of}
use Rattle.vod_operand.specs.FoundLaws.{ifok}
use Rattle.vod_width.proofs.Concats.{argument_sees}
use Rattle.vod_width.proofs.parts.fit_argument.Goals as goal

pub returns : goal.returns
returns c = ifok c.fit.result c.fit.ensures (λ v h y s.
    argument_sees v c.args.x y (width_of (slice_get c.args.inputs.now c.args.at)) c.max-width.result c.args.x.signed (h y s.sees s.refits) s
    (c.max-width.ensures ∙ ap (λ w. max w c.args.x.width) c.input_width.ensures) refl)
