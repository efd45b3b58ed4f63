use Rattle.std.proofs.Common.{◌≡◌, ◌%◌, ◌^◌, mod-eq_of_lt}
use Rattle.vod_bits.proofs.Folds.{all-bits}
use Rattle.vod_bits.proofs.Bits.all.Goals as goal

pub returns : goal.returns
returns c =
    let whole : c.self.inside.word % 2 ^ c.self.inside.width ≡ c.self.inside.word = mod-eq_of_lt c.self.invariant.2 in
    rw (← c.self.view_is, c.ones.ensures) (rw whole at (all-bits c.self.inside.width c.self.inside.word))
