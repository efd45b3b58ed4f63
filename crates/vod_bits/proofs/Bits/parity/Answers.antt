use Rattle.std.proofs.Common.{◌≡◌, ◌%◌, ◌^◌, mod-eq_of_lt}
use Rattle.vod_bits.proofs.Folds.{parity-bits}
use Rattle.vod_bits.proofs.Bits.parity.Goals as goal

pub returns : goal.returns
returns c =
    let whole : c.self.inside.word % 2 ^ c.self.inside.width ≡ c.self.inside.word = mod-eq_of_lt c.self.invariant.2 in
    rw (← c.self.view_is) (rw whole at (parity-bits c.self.inside.width c.self.inside.word))
