use Rattle.std.proofs.Common.{false, refl}
use Rattle.vod_operand.specs.Operands.{node, own}
use Rattle.vod_operand.specs.Found.{pair_kind_of}
use Rattle.vod_operand.specs.FoundLaws.{ifok}
use Rattle.vod_operand.proofs.Trees.{paired_sees}
use Rattle.vod_operand.proofs.operators.left.Goals as goal

pub returns : goal.returns
returns c = ifok c.paired.result c.paired.ensures (λ v e x y sx sy.
    paired_sees c.args.pair c.args.a c.in_ok-b.b v x y (x.sized 0 false) (own y) c.args.a.width c.args.a.signed x.width x.signed
    (λ w s. node w s (pair_kind_of c.args.pair (x.sized w s) (own y))) e sx.sees (c.in_ok-b.ensures y sy.sees sy.refits sy.narrow) sx.sees.width sx.sees.signed (λ _ _. refl))
