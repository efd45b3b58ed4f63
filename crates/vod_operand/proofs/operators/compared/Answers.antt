use Rattle.std.proofs.Common.{◌≡◌, ◌&&◌, ◌∙◌, false, refl, ap}
use Rattle.vod_operand.specs.Operands.{node}
use Rattle.vod_operand.specs.Operators.{larger}
use Rattle.vod_operand.specs.Found.{pair_kind_of}
use Rattle.vod_operand.specs.FoundLaws.{ifok}
use Rattle.vod_operand.proofs.Trees.{paired_sees, larger_capped, larger_exact, both_signed}
use Rattle.vod_operand.proofs.operators.compared.Goals as goal

pub returns : goal.returns
returns c = ifok c.paired.result c.paired.ensures (λ v e x y sx sy.
    let width = c.larger-width.result in
    let signed = c.both_signed-signed.result in
    let W = larger x.width y.width in
    let S = x.signed && y.signed in
    let capped = (c.larger-width.ensures ∙ larger_capped c.args.a.width c.args.b.width x.width y.width sx.sees.width sy.sees.width) in
    let same = (c.both_signed-signed.ensures ∙ both_signed c.args.a.signed c.args.b.signed x.signed y.signed sx.sees.signed sy.sees.signed) in
    paired_sees c.args.pair c.in_ok-a.a c.in_ok-a.b v x y (x.sized width signed) (y.sized width signed) 1 false 1 false
    (λ w s. node w s (pair_kind_of c.args.pair (x.sized W S) (y.sized W S))) e (c.in_ok-a.ensures.0 x sx.sees sx.refits) (c.in_ok-a.ensures.1 y sy.sees sy.refits) refl refl
    (λ p q.
    let exact : width ≡ W = larger_exact width x.width y.width capped (sx.narrow p) (sy.narrow q) in
    ap (λ w. node 0 false (pair_kind_of c.args.pair (x.sized w signed) (y.sized w signed))) exact ∙ ap (λ s. node 0 false (pair_kind_of c.args.pair (x.sized W s) (y.sized W s))) same))
