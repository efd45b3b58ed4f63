use Rattle.std.proofs.Common.{◌∙◌, ap}
use Rattle.vod_bits.specs.Bit.{B0}
use Rattle.vod_bits.specs.Value.{number_of, shift_left, shift_right}
use Rattle.vod_four.proofs.Moves.{copying}
use Rattle.vod_four.proofs.Known.{negative-known, shift_left-known, shift_right-known, shift_signed-known, operand-known}
use Rattle.vod_four.proofs.law.agree_on_shifts.Goals as goal

pub returns-clause-negative : goal.returns-clause-negative
returns-clause-negative c = negative-known c.args.a c.of-a.ensures.known

pub returns-clause-left : goal.returns-clause-left
returns-clause-left c =
    shift_left-known c.args.amount c.args.a c.of-amount.ensures.known ∙ ap (shift_left (number_of c.args.amount)) (operand-known c.args.a c.of-a.ensures.known)

pub returns-clause-right : goal.returns-clause-right
returns-clause-right c =
    shift_right-known c.args.amount c.args.a c.of-amount.ensures.known ∙ ap (shift_right B0 (number_of c.args.amount)) (operand-known c.args.a c.of-a.ensures.known)

pub returns-clause-signed : goal.returns-clause-signed
returns-clause-signed c =
    shift_signed-known c.args.amount c.args.a c.of-amount.ensures.known ∙ ap (copying (number_of c.args.amount)) (operand-known c.args.a c.of-a.ensures.known)
