use Rattle.vod_design.specs.declared.sized.SizedKind.TheVariants as kind
use Rattle.std.proofs.Common.{◌&&◌, ◌∙◌, false, refl}
use Rattle.vod_operand.specs.Operands.{node, own}
use Rattle.vod_operand.specs.Operators.{larger}
use Rattle.vod_operand.specs.FoundLaws.{ifok}
use Rattle.vod_operand.proofs.Trees.{tripled_sees, larger_capped, both_signed}
use Rattle.vod_operand.proofs.operators.conditional.Goals as goal

pub returns : goal.returns
returns c = ifok c.tripled.result c.tripled.ensures (λ v e t x y st sx sy.
    tripled_sees c.in_ok-test.test c.args.a c.args.b v t x y (own t) (x.sized 0 false) (y.sized 0 false) c.larger-width.result c.both_signed-signed.result (larger x.width y.width) (x.signed && y.signed)
    (λ w s. node w s (kind.Conditional (own t) (x.sized w s) (y.sized w s))) e (c.in_ok-test.ensures t st.sees st.refits st.narrow) sx.sees sy.sees (c.larger-width.ensures ∙ larger_capped c.args.a.width c.args.b.width x.width y.width sx.sees.width sy.sees.width) (c.both_signed-signed.ensures ∙ both_signed c.args.a.signed c.args.b.signed x.signed y.signed sx.sees.signed sy.sees.signed) refl)
