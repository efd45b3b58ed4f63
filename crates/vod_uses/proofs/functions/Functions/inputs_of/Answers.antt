use Rattle.std.proofs.Common.{◌∙◌, ap}
use Rattle.vod_uses.specs.Calls.{number_at, inputs_of}
use Rattle.vod_uses.proofs.Called.{number_is}
use Rattle.vod_uses.proofs.functions.Functions.inputs_of.Goals as goal

pub returns : goal.returns
returns c =
    c.number_at.ensures
    ∙ ap (λ ns. number_at ns c.number_of.result) c.as_slice.ensures.value
    ∙ ap (number_at c.self.inside.inputs.items) c.number_of.ensures
    ∙ number_is c.args.name.now c.self.inside.names c.self.inside.inputs.items c.self.invariant
    ∙ ap (inputs_of c.args.name.now) c.self.view_is
