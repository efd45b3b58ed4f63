use Rattle.std.proofs.Common.{◌+◌, ap, sym, ◌∙◌, arith}
use Rattle.std.proofs.lemmas.Grind.{common_steps}
use Rattle.std.specs.List.{prefix_len}
use Rattle.vod_text.specs.Numeral.{based_len}
use Rattle.vod_token.proofs.Numbers.{TailParts, tail_parts, known_base}
use Rattle.vod_token.specs.Form.{is_white, base_of}
use Rattle.vod_token.proofs.number.digits_behind.Goals as goal

parts : (c : goal.Else-len-eq0) → TailParts c.args.tail.now c.in_ok-base.base (c.sign_len-sign.result + 1 + c.run.result) c.digits_len-len.result
parts c = tail_parts c.args.tail.now c.sign_len-sign.result c.in_ok-base.base c.run.result c.digits_len-len.result c.sign_len-sign.ensures.value
    (c.in_ok-base.ensures.1 ∙ ap base_of c.byte_at.ensures.value) (c.run.ensures.value ∙ ap (prefix_len is_white) c.rest_from.ensures)
    (c.digits_len-len.ensures.value ∙ ap (based_len c.in_ok-base.base) c.rest_from-2.ensures)

pub returns-then-len-eq0-clause-none : goal.returns-then-len-eq0-clause-none
returns-then-len-eq0-clause-none c =
    let parts = tail_parts c.args.tail.now c.sign_len-sign.result c.in_ok-base.base c.run.result c.digits_len-len.result c.sign_len-sign.ensures.value
    (c.in_ok-base.ensures.1 ∙ ap base_of c.byte_at.ensures.value) (c.run.ensures.value ∙ ap (prefix_len is_white) c.rest_from.ensures)
    (c.digits_len-len.ensures.value ∙ ap (based_len c.in_ok-base.base) c.rest_from-2.ensures) in
    sym parts.len_is ∙ c.if-len-eq0.true

pub returns-else-len-eq0-clause-some : goal.returns-else-len-eq0-clause-some
returns-else-len-eq0-clause-some c =
    let p = parts c in
    let start = p.start_is in
    let len = p.len_is in
    let some = c.if-len-eq0.false in
    record {
      base = p.base_is;
      start = start;
      end = omega arith;
      some = omega arith;
      within = grind (arith, common_steps);
      known = known_base c.byte_at.result c.in_ok-base.base c.in_ok-base.ensures.1 c.in_ok-base.ensures.0;
    }
