-- Each state stands behind tokens that begin an expression.
use Rattle.std.proofs.Common.{◌≡◌, ℕ, List, [], ◌∷◌, ◌++◌, refl, ap, sym, subst, ◌∙◌, append_assoc, append-nil, arith}
use Rattle.vod_token.specs.declared.TokenKind.TheVariants as kinds
use Rattle.vod_tree.specs.declared.expr.Expr.{Expr}
use Rattle.vod_tree.specs.declared.expr.ExprKind.{ExprKind}
use Rattle.vod_tree.specs.declared.expr.ExprKind.TheVariants as tree_kind
use Rattle.vod_expr_machine.specs.declared.word.Mark.{Mark}
use Rattle.vod_expr_machine.specs.declared.word.Mark.TheVariants as mark
use Rattle.vod_expr_machine.specs.declared.machine.Frame.{Frame}
use Rattle.vod_expr_machine.specs.declared.machine.Head.{Head}
use Rattle.vod_expr_machine.specs.declared.machine.Head.TheVariants.{Wanted, Bare, Named, Whole, Outer}
use Rattle.vod_expr.specs.Grammar.{Lexeme, IsSymbol, IsName, IsExpr, name, index, range, call, paren, concat, replicate, prefixed, joined, choice, one}
use Rattle.vod_expr_machine.specs.Machine.{mark_text}
use Rattle.vod_expr.specs.Grammar.{Begins}
use Rattle.vod_expr.proofs.Sound.{lower, need, parts_last, Begun, nothing, in_prefix, in_left, in_chosen, in_otherwise, in_paren, in_index, in_range, in_call, in_brace, in_concat, in_replicate}
use Rattle.vod_expr.proofs.States.{AfterWhole, AfterInner, Stands, name_is_whole, need_within}

-- a name, and a mark, with which an expression can go on
filler : Lexeme
filler = record { kind = kinds.Name; text = []; place = 0 }

filler_is : IsName filler
unfolding filler
filler_is = refl

sign : Mark → Lexeme
sign m = record { kind = kinds.Symbol; text = mark_text m; place = 0 }

sign_is : (m : Mark) → IsSymbol (sign m) (mark_text m)
unfolding sign
sign_is m = (refl, refl)

-- these tokens and those behind them go on to an expression
pub record Viable (ts us : List Lexeme) : Type 0 where
  pub rest : List Lexeme
  pub result : Expr
  pub expr : IsExpr 0 (ts ++ (us ++ rest)) result

again : (ts us ws vs extra : List Lexeme) → ((rest : List Lexeme) → ts ++ (us ++ rest) ≡ ws ++ (vs ++ (extra ++ rest))) → Viable ts us → Viable ws vs
again ts us ws vs extra same v = record { rest = extra ++ v.rest; result = v.result; expr = subst (λ w. IsExpr 0 w v.result) (same v.rest) v.expr }

viable : (fs : List Frame) (ts : List Lexeme) → Begun fs ts → (us : List Lexeme) (x : Expr) → IsExpr (need fs) us x → Viable ts us
viable _ _ nothing us x e = record { rest = []; result = x; expr = subst (λ w. IsExpr 0 w x) (sym (append-nil us)) e }
viable _ _ (in_prefix fs ts t op d within is) us x e =
    again ts (t ∷ us) (ts ++ t ∷ []) us [] (λ rest. simp append_assoc)
    (viable fs ts d (t ∷ us) _ (lower 11 _ _ (prefixed 11 t op us x (omega arith) is e) (need fs) within))
viable _ _ (in_left fs ts vs t op q b d within first is) us x e =
    again ts (vs ++ t ∷ us) (ts ++ (vs ++ t ∷ [])) us [] (λ rest. simp append_assoc)
    (viable fs ts d (vs ++ t ∷ us) _ (joined (need fs) t op vs us q b x is within first e))
viable _ _ (in_chosen fs ts vs t q b d within first is) us x e =
    let rest_tokens = sign mark.Colon ∷ filler ∷ [] in
    again ts (vs ++ t ∷ (us ++ rest_tokens)) (ts ++ (vs ++ t ∷ [])) us rest_tokens (λ rest. simp append_assoc)
    (viable fs ts d (vs ++ t ∷ (us ++ rest_tokens)) _
    (lower 0 _ _ (choice t (sign mark.Colon) vs us (filler ∷ []) q b x _ is (sign_is mark.Colon) first e (name 0 filler filler_is)) (need fs) within))
viable _ _ (in_otherwise fs ts ws vs t colon q b c d within first is second colons) us x e =
    again ts (ws ++ t ∷ (vs ++ colon ∷ us)) (ts ++ (ws ++ t ∷ (vs ++ colon ∷ []))) us [] (λ rest. simp append_assoc)
    (viable fs ts d (ws ++ t ∷ (vs ++ colon ∷ us)) _ (lower 0 _ _ (choice t colon ws vs us q b c x is colons first second e) (need fs) within))
viable _ _ (in_paren fs ts t d is) us x e =
    let c = sign mark.CloseParen in
    again ts (t ∷ (us ++ c ∷ [])) (ts ++ t ∷ []) us (c ∷ []) (λ rest. simp append_assoc)
    (viable fs ts d (t ∷ (us ++ c ∷ [])) _ (paren (need fs) t c us x is e (sign_is mark.CloseParen)))
viable _ _ (in_index fs ts t opener d isn is) us x e =
    let c = sign mark.CloseBracket in
    again ts (t ∷ opener ∷ (us ++ c ∷ [])) (ts ++ t ∷ opener ∷ []) us (c ∷ []) (λ rest. simp append_assoc)
    (viable fs ts d (t ∷ opener ∷ (us ++ c ∷ [])) _ (index (need fs) t opener c us x isn is e (sign_is mark.CloseBracket)))
viable _ _ (in_range fs ts vs t opener colon b d isn is first colons) us x e =
    let c = sign mark.CloseBracket in
    again ts (t ∷ opener ∷ (vs ++ colon ∷ (us ++ c ∷ []))) (ts ++ t ∷ opener ∷ (vs ++ colon ∷ [])) us (c ∷ []) (λ rest. simp append_assoc)
    (viable fs ts d (t ∷ opener ∷ (vs ++ colon ∷ (us ++ c ∷ []))) _ (range (need fs) t opener colon c vs us b x isn is first colons e (sign_is mark.CloseBracket)))
viable _ _ (in_call fs ts vs t opener xs d isn is parts) us x e =
    let c = sign mark.CloseParen in
    again ts (t ∷ opener ∷ (vs ++ us ++ c ∷ [])) (ts ++ t ∷ opener ∷ vs) us (c ∷ []) (λ rest. simp append_assoc)
    (viable fs ts d (t ∷ opener ∷ (vs ++ us ++ c ∷ [])) _ (call (need fs) t opener c (vs ++ us) (xs ++ x ∷ []) isn is (parts_last vs us xs x parts e) (sign_is mark.CloseParen)))
viable _ _ (in_brace fs ts t d is) us x e =
    let c = sign mark.CloseBrace in
    again ts (t ∷ (us ++ c ∷ [])) (ts ++ t ∷ []) us (c ∷ []) (λ rest. simp append_assoc)
    (viable fs ts d (t ∷ (us ++ c ∷ [])) _ (concat (need fs) t c us (x ∷ []) is (one us x e) (sign_is mark.CloseBrace)))
viable _ _ (in_concat fs ts vs t xs d is parts) us x e =
    let c = sign mark.CloseBrace in
    again ts (t ∷ (vs ++ us ++ c ∷ [])) (ts ++ t ∷ vs) us (c ∷ []) (λ rest. simp append_assoc)
    (viable fs ts d (t ∷ (vs ++ us ++ c ∷ [])) _ (concat (need fs) t c (vs ++ us) (xs ++ x ∷ []) is (parts_last vs us xs x parts e) (sign_is mark.CloseBrace)))
viable _ _ (in_replicate fs ts ws vs t inner b xs d is first inners parts) us x e =
    let c = sign mark.CloseBrace in
    again ts (t ∷ (ws ++ inner ∷ (vs ++ us ++ c ∷ c ∷ []))) (ts ++ t ∷ (ws ++ inner ∷ vs)) us (c ∷ c ∷ []) (λ rest. simp append_assoc)
    (viable fs ts d (t ∷ (ws ++ inner ∷ (vs ++ us ++ c ∷ c ∷ []))) _
    (replicate (need fs) t inner c c ws (vs ++ us) b (xs ++ x ∷ []) is first inners (parts_last vs us xs x parts e) (sign_is mark.CloseBrace) (sign_is mark.CloseBrace)))

wanted_begins : (fs : List Frame) (ts : List Lexeme) → Begun fs ts → Begins ts
wanted_begins fs ts d =
    let v = viable fs ts d (filler ∷ []) _ (name (need fs) filler filler_is) in
    (filler ∷ v.rest, v.result, v.expr)

whole_begins : (fs : List Frame) (ts : List Lexeme) (q : ℕ) (a : ExprKind) → AfterWhole fs ts q a → Begins ts
whole_begins fs ts q a s =
    let v = viable fs s.before s.begun s.last _ (lower 12 _ _ s.expr (need fs) (need_within fs)) in
    let same : s.before ++ (s.last ++ v.rest) ≡ ts ++ v.rest = sym (append_assoc s.before s.last v.rest) ∙ ap (λ w. w ++ v.rest) (sym s.split) in
    (v.rest, v.result, subst (λ w. IsExpr 0 w v.result) same v.expr)

inner_begins : (fs : List Frame) (ts : List Lexeme) (q : ℕ) (a : Expr) (xs : List Expr) → AfterInner fs ts q a xs → Begins ts
inner_begins fs ts q a xs s =
    let c = sign mark.CloseBrace in
    let all = s.opener ∷ (s.count ++ s.inner ∷ (s.parts ++ s.closer ∷ c ∷ [])) in
    let v = viable fs s.before s.begun all _ (replicate (need fs) s.opener s.inner s.closer c s.count s.parts a xs s.opens s.expr s.inners s.exprs s.closes (sign_is mark.CloseBrace)) in
    let regrouped : s.before ++ (all ++ v.rest) ≡ s.before ++ s.opener ∷ (s.count ++ s.inner ∷ (s.parts ++ s.closer ∷ [])) ++ (c ∷ v.rest) = simp append_assoc in
    let same : s.before ++ (all ++ v.rest) ≡ ts ++ (c ∷ v.rest) = regrouped ∙ ap (λ w. w ++ (c ∷ v.rest)) (sym s.split) in
    (c ∷ v.rest, v.result, subst (λ w. IsExpr 0 w v.result) same v.expr)

pub stands_begins : (g : Head) (fs : List Frame) (ts : List Lexeme) → Stands g fs ts → Begins ts
stands_begins Wanted fs ts s = wanted_begins fs ts s.0
stands_begins Bare fs ts s = wanted_begins fs ts s
stands_begins (Named n) fs ts s = whole_begins fs ts n.place (tree_kind.Name n) (name_is_whole fs ts n s)
stands_begins (Whole q a) fs ts s = whole_begins fs ts q a s
stands_begins (Outer q a xs) fs ts s = inner_begins fs ts q a xs s
