use Rattle.std.proofs.Common.{◌≡◌, true, false, [], ◌∷◌}
use Rattle.vod_bits.specs.Bit.{B0, or_bit}
use Rattle.vod_bits.specs.Value.{fold_bits, all_known}
use Rattle.vod_four.proofs.Planes.{truth-any, choose-known, choose-unknown}
use Rattle.vod_four.proofs.Four.choose.Goals as goal

pub returns-in-Some : goal.returns-in-Some
returns-in-Some c =
    let known : all_known (fold_bits or_bit B0 c.args.self ∷ []) ≡ true = rw c.any.ensures at c.in-Some.ensures.1 in
    rw (c.chosen.ensures, c.in-Some.ensures.0, c.any.ensures, truth-any c.args.self) (choose-known (fold_bits or_bit B0 c.args.self) c.args.yes c.args.no known)

pub returns-in-None : goal.returns-in-None
returns-in-None c =
    let unknown : all_known (fold_bits or_bit B0 c.args.self ∷ []) ≡ false = rw c.any.ensures at c.in-None.ensures in
    rw (c.merge.ensures, truth-any c.args.self) (choose-unknown (fold_bits or_bit B0 c.args.self) c.args.yes c.args.no unknown)
