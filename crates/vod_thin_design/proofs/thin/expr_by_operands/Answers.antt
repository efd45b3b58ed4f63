use Rattle.std.proofs.Common.{◌∙◌, ap, sym}
use Rattle.vod_thin_design.proofs.Agree.{value-roll, reads-roll}
use Rattle.vod_thin_design.specs.Expr.{value_of, reads}
use Rattle.vod_thin_design.specs.declared.thin.Expr.TheOpen.{Signal, Not, And, Xor, Or}
use Rattle.vod_thin_design.specs.declared.thin.Expr.TheVariants.{rolls-Signal, rolls-Not, rolls-And, rolls-Xor, rolls-Or}
use Rattle.vod_thin_design.proofs.thin.expr_by_operands.Goals as goal

pub returns-clause-signal : goal.returns-clause-signal
returns-clause-signal c u s = (ap (λ x. value_of x u) (sym (rolls-Signal s)) ∙ value-roll u (Signal s), ap reads (sym (rolls-Signal s)) ∙ reads-roll (Signal s))

pub returns-clause-inverted : goal.returns-clause-inverted
returns-clause-inverted c u a = (ap (λ x. value_of x u) (sym (rolls-Not a)) ∙ value-roll u (Not a), ap reads (sym (rolls-Not a)) ∙ reads-roll (Not a))

pub returns-clause-and : goal.returns-clause-and
returns-clause-and c u a b = (ap (λ x. value_of x u) (sym (rolls-And a b)) ∙ value-roll u (And a b), ap reads (sym (rolls-And a b)) ∙ reads-roll (And a b))

pub returns-clause-xor : goal.returns-clause-xor
returns-clause-xor c u a b = (ap (λ x. value_of x u) (sym (rolls-Xor a b)) ∙ value-roll u (Xor a b), ap reads (sym (rolls-Xor a b)) ∙ reads-roll (Xor a b))

pub returns-clause-or : goal.returns-clause-or
returns-clause-or c u a b = (ap (λ x. value_of x u) (sym (rolls-Or a b)) ∙ value-roll u (Or a b), ap reads (sym (rolls-Or a b)) ∙ reads-roll (Or a b))
