-- The tokens that are left.
use Rattle.std.proofs.Common.{◌≡◌, ℕ, min, zero, suc, ◌+◌, List, [], ◌∷◌, drop, length, refl, ap, sym, ◌∙◌, add-one, arith}
use Rattle.std.proofs.lemmas.List.{drop-drop, drop-map}
use Rattle.vod_token.specs.declared.Token.{Token}
use Rattle.vod_expr.specs.Grammar.{lexeme, lexemes}
use Rattle.vod_grammar.specs.Read.{rest_of}

rest_drop : (source : List ℕ) (ts : List Token) (at : ℕ) → rest_of (lexemes source (drop at ts)) ≡ lexemes source (drop (suc at) ts)
rest_drop source [] zero = refl
rest_drop source [] (suc at) = refl
rest_drop source (t ∷ ts) zero = refl
rest_drop source (t ∷ ts) (suc at) = rest_drop source ts at

pub rest_left : (source : List ℕ) (ts : List Token) (at : ℕ) → lexemes source (drop (at + 1) ts) ≡ rest_of (lexemes source (drop at ts))
rest_left source ts at = ap (λ k. lexemes source (drop k ts)) (add-one at) ∙ sym (rest_drop source ts at)

drop_nil : (n : ℕ) → drop {A = Token} n [] ≡ []
drop_nil zero = refl
drop_nil (suc n) = refl

-- behind the tokens of an expression, where it was read from the least of the place and the end
from_left : (ts : List Token) (at : ℕ) → drop (min at (length ts)) ts ≡ drop at ts
from_left [] at = drop_nil (min at (length {A = Token} [])) ∙ sym (drop_nil at)
from_left (t ∷ ts) zero = ap (λ k. drop k (t ∷ ts)) (let e : min zero (suc (length ts)) ≡ zero = omega arith in e)
from_left (t ∷ ts) (suc at) = ap (λ k. drop k (t ∷ ts)) (let e : min (suc at) (suc (length ts)) ≡ suc (min at (length ts)) = omega arith in e) ∙ from_left ts at

pub tree_left : (source : List ℕ) (ts : List Token) (at n : ℕ) → lexemes source (drop (min at (length ts) + n) ts) ≡ drop n (lexemes source (drop at ts))
tree_left source ts at n =
    ap (lexemes source) (sym (drop-drop n (min at (length ts)) ts) ∙ ap (drop n) (from_left ts at)) ∙ sym (drop-map (lexeme source) n (drop at ts))

pub from_read : (source : List ℕ) (ts : List Token) (at : ℕ) → lexemes source (drop (min at (length ts)) ts) ≡ lexemes source (drop at ts)
from_read source ts at = ap (lexemes source) (from_left ts at)
