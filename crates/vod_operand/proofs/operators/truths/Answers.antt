use Rattle.std.proofs.Common.{false, refl}
use Rattle.vod_operand.specs.Operands.{node, own}
use Rattle.vod_operand.specs.Found.{pair_kind_of}
use Rattle.vod_operand.specs.FoundLaws.{ifok}
use Rattle.vod_operand.proofs.Trees.{paired_sees}
use Rattle.vod_operand.proofs.operators.truths.Goals as goal

pub returns : goal.returns
returns c = ifok c.paired.result c.paired.ensures (λ v e x y sx sy.
    paired_sees c.args.pair c.in_ok-a.a c.in_ok-a.b v x y (own x) (own y) 1 false 1 false
    (λ w s. node w s (pair_kind_of c.args.pair (own x) (own y))) e (c.in_ok-a.ensures.0 x sx.sees sx.refits sx.narrow) (c.in_ok-a.ensures.1 y sy.sees sy.refits sy.narrow) refl refl (λ _ _. refl))
