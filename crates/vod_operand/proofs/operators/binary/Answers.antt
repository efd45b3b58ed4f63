use Rattle.std.proofs.Common.{◌∙◌, ap, subst}
use Rattle.vod_operand.specs.Operands.{Looked}
use Rattle.vod_operand.specs.Found.{Sees}
use Rattle.vod_operand.specs.FoundLaws.{ifok}
use Rattle.vod_operand.proofs.Trees.{rows_are, look_row}
use Rattle.vod_operand.proofs.operators.binary.Goals as goal

pub returns-in-Whole : goal.returns-in-Whole
returns-in-Whole c = ifok c.whole.result c.whole.ensures (λ v h x y sx sy.
    let P : Looked → Type 0 = λ z. Sees v z in subst P (ap (λ r. look_row r x y) c.in-Whole.ensures ∙ rows_are c.args.op x y) (h x y sx sy))

pub returns-in-Left : goal.returns-in-Left
returns-in-Left c = ifok c.left.result c.left.ensures (λ v h x y sx sy.
    let P : Looked → Type 0 = λ z. Sees v z in subst P (ap (λ r. look_row r x y) c.in-Left.ensures ∙ rows_are c.args.op x y) (h x y sx sy))

pub returns-in-Compared : goal.returns-in-Compared
returns-in-Compared c = ifok c.compared.result c.compared.ensures (λ v h x y sx sy.
    let P : Looked → Type 0 = λ z. Sees v z in subst P (ap (λ r. look_row r x y) c.in-Compared.ensures ∙ rows_are c.args.op x y) (h x y sx sy))

pub returns-in-Truths : goal.returns-in-Truths
returns-in-Truths c = ifok c.truths.result c.truths.ensures (λ v h x y sx sy.
    let P : Looked → Type 0 = λ z. Sees v z in subst P (ap (λ r. look_row r x y) c.in-Truths.ensures ∙ rows_are c.args.op x y) (h x y sx sy))
