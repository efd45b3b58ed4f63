use Rattle.std.proofs.Common.{◌&&◌, ◌∙◌, false, refl}
use Rattle.vod_operand.specs.Operands.{node}
use Rattle.vod_operand.specs.Operators.{larger}
use Rattle.vod_operand.specs.Found.{pair_kind_of}
use Rattle.vod_operand.specs.FoundLaws.{ifok}
use Rattle.vod_operand.proofs.Trees.{paired_sees, larger_capped, both_signed}
use Rattle.vod_operand.proofs.operators.whole.Goals as goal

pub returns : goal.returns
returns c = ifok c.paired.result c.paired.ensures (λ v e x y sx sy.
    paired_sees c.args.pair c.args.a c.args.b v x y (x.sized 0 false) (y.sized 0 false) c.larger-width.result c.both_signed-signed.result (larger x.width y.width) (x.signed && y.signed)
    (λ w s. node w s (pair_kind_of c.args.pair (x.sized w s) (y.sized w s))) e sx.sees sy.sees (c.larger-width.ensures ∙ larger_capped c.args.a.width c.args.b.width x.width y.width sx.sees.width sy.sees.width) (c.both_signed-signed.ensures ∙ both_signed c.args.a.signed c.args.b.signed x.signed y.signed sx.sees.signed sy.sees.signed) (λ _ _. refl))
