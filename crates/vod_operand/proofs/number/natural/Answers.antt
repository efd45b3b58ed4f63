use Rattle.std.proofs.Common.{sym, ◌∙◌}
use Rattle.vod_operand.specs.FoundLaws.{ifok}
use Rattle.vod_operand.proofs.Numbers.{known_here}
use Rattle.vod_operand.proofs.number.natural.Goals as goal

pub returns-in-Ok : goal.returns-in-Ok
returns-in-Ok c = ifok c.number_of_tree.result c.number_of_tree.ensures (λ n e y s. e ∙ known_here c.args.x.now y c.in-Ok.tree (sym c.in-Ok.is) s)
