use Rattle.std.proofs.Common.{◌≤◌, ◌∷◌, arith, ap, sym, ◌∙◌}
use Rattle.std.specs.Prelude.{reverse}
use Rattle.vod_token.proofs.Nestings.{nesting_is, changed_small, last_small, deep_here, deep_later, deep_none}
use Rattle.vod_token.specs.Nesting.{nesting}
use Rattle.vod_token.specs.declared.Token.{Token}
use Rattle.vod_token.specs.declared.TokenKind.TheVariants.{Name}
use Rattle.vod_token.specs.declared.TheConstants.{NESTING}
use Rattle.vod_token.proofs.nesting.first_too_deep.Goals as goal

none : Token
none = record { kind = Name; start = 0; end = 0 }

pub change-requires : goal.change-requires
change-requires c = let small = last_small c.loop-token.last (reverse c.loop-token.outer.items) in let within = c.loop-token.invariant.within in omega arith

pub nesting-requires : goal.nesting-requires
nesting-requires c =
    let small = changed_small c.effect_of.result c.loop-token.last (reverse c.loop-token.outer.items) in
    let within = c.loop-token.invariant.within in
    let same = ap nesting c.in_ok-change.ensures in
    let is = nesting_is c.change.new.last c.deref.result.now in
    let items = ap (λ xs. nesting (c.change.new.last ∷ reverse xs)) c.deref.ensures.value in
    omega arith

pub returns-then-nesting-gt-NESTING : goal.returns-then-nesting-gt-NESTING
unfolding none
returns-then-nesting-gt-NESTING c =
    let items = ap (λ xs. nesting (c.change.new.last ∷ reverse xs)) c.deref.ensures.value in
    let deep = deep_here c.args.source.now c.loop-token.last (reverse c.loop-token.outer.items) c.args.tokens.now c.loop-token.token-index none c.effect_of.result
    (c.change.new.last ∷ reverse c.change.new.outer.items) c.loop-token-test.true c.effect_of.ensures c.in_ok-change.ensures (let over = c.if-nesting-gt-NESTING.true in let is = c.nesting.ensures in omega arith) in
    sym (sym c.loop-token.invariant.left ∙ deep)

pub loop-token-preserved : goal.loop-token-preserved
unfolding none
loop-token-preserved c =
    let items = ap (λ xs. nesting (c.change.new.last ∷ reverse xs)) c.deref.ensures.value in
    let small : nesting (c.change.new.last ∷ reverse c.change.new.outer.items) ≤ NESTING = (let fits = c.if-nesting-gt-NESTING.false in let is = c.nesting.ensures in omega arith) in
    record {
      within = small;
      left = deep_later c.args.source.now c.loop-token.last (reverse c.loop-token.outer.items) c.args.tokens.now c.loop-token.token-index none c.effect_of.result
          (c.change.new.last ∷ reverse c.change.new.outer.items) c.loop-token-test.true c.effect_of.ensures c.in_ok-change.ensures small ∙ c.loop-token.invariant.left;
    }

pub returns : goal.returns
returns c = sym (sym c.loop-token.invariant.left ∙ deep_none c.args.source.now (c.loop-token.last ∷ reverse c.loop-token.outer.items) c.args.tokens.now c.loop-token.token-index c.loop-token-test.false)
