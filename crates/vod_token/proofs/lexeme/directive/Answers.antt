use Rattle.std.proofs.Common.{◌≡◌, ◌+◌, length, length-append, arith, ap, sym, ◌∙◌}
use Rattle.vod_token.proofs.Directives.{directive_sound}
use Rattle.vod_token.proofs.lexeme.directive.Goals as goal

pub overflow_sub-result : goal.overflow_sub-result
overflow_sub-result c =
    let read = directive_sound c.args.bytes.now c.in-Some.rest.now (sym c.in-Some.ensures) in
    let sum : length c.args.bytes.now ≡ length read.text + length c.in-Some.rest.now = ap length read.parts ∙ length-append read.text c.in-Some.rest.now in
    omega arith
