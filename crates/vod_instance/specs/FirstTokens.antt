-- With which symbols no expression begins.
use Rattle.std.proofs.Common.{◌≡◌, ℕ, Bool, true, false, ◌||◌, ◌==◌, List, [], ◌∷◌, Option, Some, refl, sym, ◌∙◌, ap}
use Rattle.std.specs.Prelude.{codes}
use Rattle.vod_token.specs.declared.TokenKind.TheVariants as kinds
use Rattle.vod_tree.specs.declared.expr.Expr.{Expr}
use Rattle.vod_tree.specs.declared.expr.UnaryOp.{UnaryOp}
use Rattle.vod_tree.specs.declared.expr.UnaryOp.TheVariants as unary
use Rattle.vod_expr.specs.Answer.{BeginsNone}
use Rattle.vod_expr.specs.Grammar.{Lexeme, IsSymbol, IsExpr, AreExprs, Begins, one, more}
use Rattle.vod_expr.specs.Operators.{unary_text}
use Rattle.vod_grammar.specs.FrontLaws.{first_token}
use Rattle.vod_grammar.specs.Read.{first, passes}
use Rattle.vod_grammar.specs.WordLaws.{word_is}
use Rattle.vod_grammar.specs.Words.{Is, is_word, is_symbol, kind_by, spelling}
use Rattle.vod_grammar.specs.declared.word.Word.{Word}

-- an expression has a token, and each begins with one of its own kind
pub record Expressions : Type 0 where
  pub some : (a : Expr) → IsExpr 0 [] a → ⊥
  pub none : (t : Lexeme) (ts : List Lexeme) → BeginsNone t → Begins (t ∷ ts) → ⊥

-- `)` and `.`
abbrev pub begins_none : List ℕ → Bool
begins_none [] = false
begins_none (b ∷ bs) = b == 41 || b == 46

no_operator : (op : UnaryOp) → begins_none (unary_text op) ≡ false
no_operator unary.Minus = refl
no_operator unary.LogicalNot = refl
no_operator unary.Not = refl
no_operator unary.And = refl
no_operator unary.Nand = refl
no_operator unary.Or = refl
no_operator unary.Nor = refl
no_operator unary.Xor = refl
no_operator unary.Xnor = refl
no_operator unary.XorNot = refl

apart : (t : Lexeme) (text : List ℕ) → begins_none t.text ≡ true → begins_none text ≡ false → IsSymbol t text → ⊥
apart t text e n h = let clash : true ≡ false = sym e ∙ ap begins_none h.1 ∙ n in cc

symbol_none : (w : Word) → is_symbol w ≡ true → begins_none (spelling w) ≡ true → (t : Lexeme) → Is w t → BeginsNone t
symbol_none w s e t h =
    let own : t.kind ≡ kinds.Symbol = h.kind ∙ ap kind_by s in
    let text : begins_none t.text ≡ true = ap begins_none h.text ∙ e in
    record {
      name = λ k. let clash : kinds.Symbol ≡ kinds.Name = sym own ∙ k in cc;
      number = λ k. let clash : kinds.Symbol ≡ kinds.Number = sym own ∙ k in cc;
      operator = λ op k. apart t (unary_text op) text (no_operator op) k;
      paren = λ k. apart t (codes "(") text refl k;
      brace = λ k. apart t (codes "{") text refl k;
    }

module _ (known : Expressions) (w : Word) (s : is_symbol w ≡ true) (e : begins_none (spelling w) ≡ true) where
  pub expr_first : (ts : List Lexeme) (a : Expr) (b : Option Lexeme) → IsExpr 0 ts a → passes (is_word w) (first ts b) ≡ false
  expr_first [] a b d = absurd (known.some a d)
  expr_first (t ∷ ts) a b d = by (is_word w t) refl
    where
      by : (c : Bool) → is_word w t ≡ c → is_word w t ≡ false
      by true h = absurd (known.none t [] (symbol_none w s e t (word_is w t h)) (ts, a, d))
      by false h = h

  pub exprs_first : (ts : List Lexeme) (xs : List Expr) (b : Option Lexeme) → AreExprs ts xs → passes (is_word w) (first ts b) ≡ false
  exprs_first _ _ b (one ts a d) = expr_first ts a b d
  exprs_first _ _ b (more comma ts us a xs k d ds) = ap (passes (is_word w)) (first_token ts comma us b) ∙ expr_first ts a (Some comma) d
