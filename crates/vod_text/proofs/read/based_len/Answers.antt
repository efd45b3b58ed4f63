use Rattle.std.proofs.Common.{ap, arith, unwrap_or, ◌≡◌, ◌≤◌, ◌-◌, ◌+◌, ◌∙◌, sym, List, ℕ, length, take, drop}
use Rattle.std.proofs.lemmas.Grind.{common_steps}
use Rattle.std.specs.List.{prefix_len}
use Rattle.vod_text.proofs.Forms.{unwrap_position, based_len-digit}
use Rattle.vod_text.specs.Numeral.{is_further}
use Rattle.vod_text.proofs.read.based_len.Goals as goal

pub returns-in-len1-up : goal.returns-in-len1-up
returns-in-len1-up c =
    let rest : List ℕ = take (length c.args.text.now - 1) (drop 1 c.args.text.now) in
    let rest_is : rest ≡ drop 1 c.args.text.now = grind (arith, common_steps) in
    let some : 1 ≤ length c.args.text.now = c.in-len1-up.len_at_least in
    let first = sym c.is_digit.ensures ∙ c.if-is_digit.true in
    let whole = based_len-digit c.args.base c.args.text.now rest some rest_is first in
    let front : c.unwrap_or.result ≡ prefix_len (is_further c.args.base) rest =
    c.unwrap_or.ensures ∙ ap (λ o. unwrap_or o (length rest)) c.other_than_further.ensures ∙ unwrap_position (is_further c.args.base) rest in
    sym (whole ∙ ap (λ n. 1 + n) (sym front))
