use Rattle.std.proofs.Common.{◌≡◌, ap, ◌∙◌, refl}
use Rattle.vod_bits.proofs.Views.{widths-view, below-view}
use Rattle.vod_bits.specs.Value.{bits_of}
use Rattle.vod_four.proofs.Four.from_planes.Goals as goal

pub invariant_of-result : goal.invariant_of-result
invariant_of-result c = (c.ones.invariant.0, c.ones.invariant.1, c.ones.invariant.2, below-view c.ones.inside.width c.unks.inside.width c.ones.inside.word c.unks.inside.word c.args.ones c.args.unks c.ones.view_is c.unks.view_is c.requires c.unks.invariant.2)

pub returns : goal.returns
returns c =
    let same : c.ones.inside.width ≡ c.unks.inside.width = widths-view c.ones.inside.width c.unks.inside.width c.ones.inside.word c.unks.inside.word c.args.ones c.args.unks c.ones.view_is c.unks.view_is c.requires in
    let other : bits_of c.ones.inside.width c.unks.inside.word ≡ c.args.unks = ap (λ k. bits_of k c.unks.inside.word) same ∙ c.unks.view_is in
    rw (← c.ones.view_is, ← other) refl
