use Rattle.std.proofs.Common.{ap, [], ◌∷◌}
use Rattle.vod_bits.specs.Value.{zip_with}
use Rattle.vod_four.proofs.Planes.{any-planes}
use Rattle.vod_four.proofs.Four.any.Goals as goal

pub returns : goal.returns
unfolding zip_with
returns c =
    rw (c.from_bounds.ensures, c.bit.ensures, c.bit-2.ensures, c.any.ensures, c.any-2.ensures, c.sure_plane.ensures, c.possible_plane.ensures)
    (ap (λ b. b ∷ []) (any-planes c.args.self))
