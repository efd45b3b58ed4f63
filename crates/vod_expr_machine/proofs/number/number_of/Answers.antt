use Rattle.vod_expr_machine.proofs.Numerals.{number_is}
use Rattle.vod_expr_machine.proofs.number.number_of.Goals as goal

pub returns : goal.returns
returns c = number_is c.one_literal.ensures c.args.text.now c.args.place c.literal_of-literal.result c.literal_of-literal.ensures.stands
