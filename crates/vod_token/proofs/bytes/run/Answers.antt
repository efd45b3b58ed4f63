use Rattle.std.proofs.Common.{◌∙◌, ◌≤◌, ap, unwrap_or, length, subst, sym}
use Rattle.std.proofs.lemmas.List.Sums.{prefix_len-le-length}
use Rattle.vod_text.proofs.Forms.{unwrap_position}
use Rattle.vod_token.specs.Scan.{is_in}
use Rattle.vod_token.proofs.bytes.run.Goals as goal

pub returns-clause-value : goal.returns-clause-value
returns-clause-value c =
    c.unwrap_or.ensures ∙ ap (λ o. unwrap_or o (length c.args.bytes.now)) c.other_than.ensures ∙ unwrap_position (is_in c.args.class) c.args.bytes.now

pub returns-clause-within : goal.returns-clause-within
returns-clause-within c =
    subst (λ n. n ≤ length c.args.bytes.now) (sym (returns-clause-value c)) (prefix_len-le-length (is_in c.args.class) c.args.bytes.now)
