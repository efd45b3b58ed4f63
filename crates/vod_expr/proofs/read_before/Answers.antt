use Rattle.vod_expr_machine.specs.Numerals.{number_of}
use Rattle.vod_expr.proofs.Ends.{read_before_by}
use Rattle.vod_expr.proofs.Numerals.{knows}
use Rattle.vod_expr.proofs.read_before.Goals as goal

pub returns : goal.returns
returns c = λ ts us t tree d ends. read_before_by number_of (knows c.one_literal.ensures) ts us t tree d ends
