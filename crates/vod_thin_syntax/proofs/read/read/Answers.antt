use Rattle.std.proofs.Common.{◌≡◌, ℕ, List, Option, drop, length, sym, ◌∙◌, ap, subst}
use Rattle.std.specs.Option.{unwrap_or}
use Rattle.vod_token.specs.declared.Token.{Token}
use Rattle.vod_thin_syntax.proofs.Breaking.{sentence_broken, number_broken, break_at, refused_at}
use Rattle.vod_thin_syntax.specs.Limit.{limit_of}
use Rattle.vod_thin_syntax.specs.Outcome.{Broken, place_at, least_of}
use Rattle.vod_thin_syntax.specs.Refusal.{IsRefusedAt}
use Rattle.vod_thin_syntax.specs.Syntax.{IsSentence}
use Rattle.vod_thin_syntax.specs.View.{marks_of}
use Rattle.vod_thin_syntax.proofs.read.read.Goals as goal

pub returns-then-is_cut_off-clause-fault : goal.returns-then-is_cut_off-clause-fault
returns-then-is_cut_off-clause-fault c =
    let source = c.args.source.now in
    let ts : List Token = c.in_ok-cut.cut.list.items in
    let stop : Option ℕ = c.in_ok-cut.cut.stop in
    let m = c.in-Ok.ensures.read.0 in
    let is : IsSentence (marks_of source ts) m = subst (λ v. IsSentence (marks_of source v) m) c.deref-2.ensures.value c.in-Ok.ensures.read.1 in
    let limit : c.in_ok-limit.limit ≡ limit_of source ts = c.in_ok-limit.ensures ∙ ap (limit_of source) c.deref.ensures.value in
    let least = sentence_broken c.one_cut.ensures source c.args.more ts stop c.requires.short c.requires.cut c.in_ok-cut.ensures.falls m is (sym c.is_cut_off.ensures ∙ c.if-is_cut_off.true) in
    subst (IsRefusedAt source c.args.more) (sym (c.least_of.ensures ∙ ap (least_of c.in_ok-limit.limit) c.unwrap_or-end.ensures))
    (refused_at c.one_cut.ensures source c.args.more ts stop c.in_ok-cut.ensures.falls c.in_ok-limit.limit limit (unwrap_or stop (length source)) least)

pub returns-in-Err-At-clause-fault : goal.returns-in-Err-At-clause-fault
returns-in-Err-At-clause-fault c =
    let source = c.args.source.now in
    let ts : List Token = c.in_ok-cut.cut.list.items in
    let stop : Option ℕ = c.in_ok-cut.cut.stop in
    let number : ℕ = c.in-Err-At.number in
    let broken : Broken (marks_of source ts) (marks_of source (drop number ts)) =
    subst (λ v. Broken (marks_of source v) (marks_of source (drop number v))) c.deref-2.ensures.value
    (break_at source c.deref-2.result.now c.in-Err-At.field-0 number c.in-Err-At.field-0-is c.in-Err-At.ensures.broken) in
    let limit : c.in_ok-limit.limit ≡ limit_of source ts = c.in_ok-limit.ensures ∙ ap (limit_of source) c.deref.ensures.value in
    let least = number_broken c.one_cut.ensures source c.args.more ts stop c.requires.short c.in_ok-cut.ensures.falls number broken in
    let place : c.place_at-place.result ≡ place_at (drop number ts) (unwrap_or stop (length source)) =
    c.place_at-place.ensures ∙ ap (λ v. place_at (drop number v) c.unwrap_or-end.result) c.deref-in-Err-At.ensures.value ∙ ap (place_at (drop number ts)) c.unwrap_or-end.ensures in
    subst (IsRefusedAt source c.args.more) (sym (c.least_of-in-Err-At.ensures ∙ ap (least_of c.in_ok-limit.limit) place))
    (refused_at c.one_cut.ensures source c.args.more ts stop c.in_ok-cut.ensures.falls c.in_ok-limit.limit limit (place_at (drop number ts) (unwrap_or stop (length source))) least)
