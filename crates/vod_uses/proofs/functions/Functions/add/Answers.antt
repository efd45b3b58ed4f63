use Rattle.std.proofs.Common.{◌∙◌, ◌++◌, ◌∷◌, [], ap}
use Rattle.vod_uses.specs.Calls.{called}
use Rattle.vod_uses.proofs.Called.{called_more}
use Rattle.vod_uses.proofs.functions.Functions.add.Goals as goal

pub returns-in-Ok-add : goal.returns-in-Ok-add
returns-in-Ok-add c =
    ap (λ ds. called ds c.push.new.self.items) c.in-Ok-add.ensures.ok
    ∙ ap (λ ns. called (c.self.inside.names ++ (c.args.name.now, c.plain.result) ∷ []) ns) c.in-Ok.ensures.items
    ∙ called_more c.self.inside.names c.self.inside.inputs.items (c.args.name.now, c.plain.result) c.args.inputs c.self.invariant
    ∙ ap (λ fs. fs ++ (c.args.name.now, c.args.inputs) ∷ []) c.self.view_is
