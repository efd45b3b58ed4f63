use Rattle.std.proofs.Common.{◌∙◌, ap}
use Rattle.vod_width.specs.Names.{declared}
use Rattle.vod_width.specs.Tables.{declared_at}
use Rattle.vod_width.proofs.Tables.{found_at}
use Rattle.vod_width.proofs.decls.Decls.get.Goals as goal

pub returns : goal.returns
returns c =
    let es = c.self.inside.entries.items in
    c.declared_at.ensures ∙ ap (λ xs. declared_at xs c.place_of.result) c.deref.ensures.value ∙ ap (declared_at es) c.place_of.ensures ∙ found_at c.self.inside.latest.entries es c.args.name.now c.self.invariant
    ∙ ap (λ ds. declared ds c.args.name.now) c.self.view_is
