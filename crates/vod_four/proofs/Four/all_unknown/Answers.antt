use Rattle.std.proofs.Common.{◌≡◌, length, ap, sym, ◌∙◌}
use Rattle.vod_four.specs.Fields.{four_width}
use Rattle.vod_four.proofs.Planes.{zero-bits, unknown-bits}
use Rattle.vod_four.proofs.Four.all_unknown.Goals as goal

pub returns : goal.returns
returns c =
    let len : length c.args.self ≡ c.self.inside.width = sym (ap length c.self.view_is) ∙ four_width c.self.inside.width c.self.inside.ones c.self.inside.unks in
    rw (c.from_planes.ensures, c.not.ensures, len, zero-bits c.self.inside.width) (unknown-bits c.self.inside.width)
