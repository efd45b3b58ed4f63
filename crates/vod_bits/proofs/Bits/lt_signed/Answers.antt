use Rattle.std.proofs.Common.{◌≡◌, ◌^◌, ◌-◌, pos, ◌+ℤ◌}
use Rattle.vod_bits.proofs.Views.{widths-view}
use Rattle.vod_bits.proofs.Signs.{order-bits}
use Rattle.vod_bits.specs.Value.{signed_of}
use Rattle.vod_bits.proofs.Bits.lt_signed.Goals as goal

pub returns : goal.returns
returns c =
    let widths : c.self.inside.width ≡ c.other.inside.width
    = widths-view c.self.inside.width c.other.inside.width c.self.inside.word c.other.inside.word c.args.self c.args.other c.self.view_is c.other.view_is c.requires in
    let mine : pos c.from_least.result ≡ signed_of c.args.self +ℤ pos (2 ^ (c.self.inside.width - 1)) = rw c.self.view_is at c.from_least.ensures in
    let theirs : pos c.from_least-2.result ≡ signed_of c.args.other +ℤ pos (2 ^ (c.other.inside.width - 1)) = rw c.other.view_is at c.from_least-2.ensures in
    order-bits c.from_least.result c.from_least-2.result (2 ^ (c.self.inside.width - 1)) (signed_of c.args.self) (signed_of c.args.other) mine (rw widths theirs)
