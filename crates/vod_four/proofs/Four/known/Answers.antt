use Rattle.std.proofs.Common.{◌≡◌, ◌∙◌, ap, true}
use Rattle.vod_bits.specs.Bit.{B0, or_bit}
use Rattle.vod_bits.specs.Value.{fold_bits, all_known}
use Rattle.vod_four.proofs.Planes.{unknown-any, known-any, ones-known}
use Rattle.vod_four.proofs.Four.known.Goals as goal

pub returns-then-any : goal.returns-then-any
returns-then-any c = unknown-any c.args.self (c.if-any.ensures ∙ ap (fold_bits or_bit B0) c.unk_plane.ensures)

pub returns-else-any : goal.returns-else-any
returns-else-any c =
    let known : all_known c.args.self ≡ true = known-any c.args.self (c.if-any.ensures ∙ ap (fold_bits or_bit B0) c.unk_plane.ensures) in
    (c.one_plane.ensures ∙ ones-known c.args.self known, known)
