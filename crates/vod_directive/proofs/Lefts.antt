-- The tokens that are left behind one.
use Rattle.std.proofs.Common.{◌≡◌, ℕ, zero, suc, ◌+◌, List, [], ◌∷◌, drop, refl, ap, sym, ◌∙◌, add-one}
use Rattle.vod_token.specs.declared.Token.{Token}
use Rattle.vod_expr.specs.Grammar.{lexemes}
use Rattle.vod_grammar.specs.Read.{rest_of}

rest_drop : (source : List ℕ) (ts : List Token) (at : ℕ) → rest_of (lexemes source (drop at ts)) ≡ lexemes source (drop (suc at) ts)
rest_drop source [] zero = refl
rest_drop source [] (suc at) = refl
rest_drop source (t ∷ ts) zero = refl
rest_drop source (t ∷ ts) (suc at) = rest_drop source ts at

pub rest_left : (source : List ℕ) (ts : List Token) (at : ℕ) → lexemes source (drop (at + 1) ts) ≡ rest_of (lexemes source (drop at ts))
rest_left source ts at = ap (λ k. lexemes source (drop k ts)) (add-one at) ∙ sym (rest_drop source ts at)
