use Rattle.std.proofs.Common.{◌≡◌, true, false, [], ◌∷◌, sym}
use Rattle.vod_bits.specs.Bit.{B0, or_bit}
use Rattle.vod_bits.specs.Value.{all_known, fold_bits}
use Rattle.vod_four.specs.Four.{truth_bit}
use Rattle.vod_value.proofs.Truths.{truth_unknown, any_of_known}
use Rattle.vod_value.proofs.states.truth.Goals as goal

pub returns-in_err-bit : goal.returns-in_err-bit
returns-in_err-bit c =
    let folded : all_known (fold_bits or_bit B0 c.args.value ∷ []) ≡ false = rw c.any.ensures at c.in_err-bit.ensures in
    let unknown : all_known (truth_bit c.args.value ∷ []) ≡ false = rw (c.truth_is_any.ensures c.args.value) folded in
    rw c.from_residual.ensures (truth_unknown c.args.value unknown)

pub returns : goal.returns
returns c =
    let known : all_known (fold_bits or_bit B0 c.args.value ∷ []) ≡ true = rw c.any.ensures at c.in_ok-bit.ensures.1 in
    rw (c.any-2.ensures, c.in_ok-bit.ensures.0, c.any.ensures, c.truth_is_any.ensures c.args.value) (sym (any_of_known (fold_bits or_bit B0 c.args.value) known))
