-- With which words no expression, left side or statement begins.
use Rattle.std.proofs.Common.{◌≡◌, Bool, true, false, not, List, [], ◌∷◌, ◌++◌, Option, refl, sym, ◌∙◌, ap, subst}
use Rattle.vod_token.specs.declared.TokenKind.TheVariants as kinds
use Rattle.vod_tree.specs.declared.expr.Expr.{Expr}
use Rattle.vod_tree.specs.declared.statement.CaseItem.{CaseItem}
use Rattle.vod_tree.specs.declared.statement.Lval.{Lval}
use Rattle.vod_tree.specs.declared.statement.Statement.{Statement}
use Rattle.vod_expr.specs.Answer.{BeginsNone}
use Rattle.vod_expr.specs.Grammar.{Lexeme, IsExpr, AreExprs, Begins, one as one_expr, more as more_exprs}
use Rattle.vod_grammar.specs.Read.{first, passes}
use Rattle.vod_grammar.specs.WordLaws.{is_word-other, is_word-name, word_is}
use Rattle.vod_grammar.specs.Words.{Is, is_word, is_other, is_symbol, kind_by, are_same}
use Rattle.vod_grammar.specs.declared.word.Word.{Word}
use Rattle.vod_grammar.specs.declared.word.Word.TheVariants as word
use Rattle.vod_statement.specs.LeftSide.{IsLval, name, index, range, concat}
use Rattle.vod_statement.specs.Statements.{IsStatement, AreStatements, IsItem, AreItems, assigned, alone, branches, cases, block, empty, no_statement, one_statement, values, default, no_item, one_item}
use Rattle.vod_statement.specs.declared.context.Context.{Context}

-- an expression has a token, and each begins with one of its own kind
pub record Expressions : Type 0 where
  pub some : (a : Expr) → IsExpr 0 [] a → ⊥
  pub none : (t : Lexeme) (ts : List Lexeme) → BeginsNone t → Begins (t ∷ ts) → ⊥

pub heads : {t u : Lexeme} {ts us : List Lexeme} → t ∷ ts ≡ u ∷ us → t ≡ u
heads h = cc

pub no_head : {t : Lexeme} {ts : List Lexeme} → [] ≡ t ∷ ts → ⊥
no_head h = cc

-- there is a first token, and it isn't this word
pub record Without (w : Word) (ts : List Lexeme) : Type 0 where
  pub token : Lexeme
  pub rest : List Lexeme
  pub split : ts ≡ token ∷ rest
  pub is : is_word w token ≡ false

pub without_next : (w : Word) (ts us : List Lexeme) (b : Option Lexeme) → Without w ts → passes (is_word w) (first (ts ++ us) b) ≡ false
without_next w ts us b s = ap (λ v. passes (is_word w) (first (v ++ us) b)) s.split ∙ s.is

pub without_first : (w : Word) (ts : List Lexeme) (b : Option Lexeme) → Without w ts → passes (is_word w) (first ts b) ≡ false
without_first w ts b s = ap (λ v. passes (is_word w) (first v b)) s.split ∙ s.is

pub without_other : (w : Word) (ts : List Lexeme) (b : Option Lexeme) → Without w ts → passes (is_other w) (first ts b) ≡ true
without_other w ts b s = ap (λ v. passes (is_other w) (first v b)) s.split ∙ ap not s.is

by_word : (w v : Word) → are_same w v ≡ false → (t : Lexeme) (us : List Lexeme) → Is v t → Without w (t ∷ us)
by_word w v e t us h = record { token = t; rest = us; split = refl; is = is_word-other w v t h ∙ e }

-- a reserved word begins no expression
reserved_none : (w : Word) → is_symbol w ≡ false → (t : Lexeme) → Is w t → BeginsNone t
reserved_none w e t h =
    let own : t.kind ≡ kinds.Reserved = h.kind ∙ ap kind_by e in
    record {
      name = λ k. let clash : kinds.Reserved ≡ kinds.Name = sym own ∙ k in cc;
      number = λ k. let clash : kinds.Reserved ≡ kinds.Number = sym own ∙ k in cc;
      operator = λ op k. let clash : kinds.Reserved ≡ kinds.Symbol = sym own ∙ k.0 in cc;
      paren = λ k. let clash : kinds.Reserved ≡ kinds.Symbol = sym own ∙ k.0 in cc;
      brace = λ k. let clash : kinds.Reserved ≡ kinds.Symbol = sym own ∙ k.0 in cc;
    }

pub exprs_some : Expressions → (ts : List Lexeme) (xs : List Expr) → AreExprs ts xs → ts ≡ [] → ⊥
exprs_some known _ _ (one_expr ts a d) e = known.some a (subst (λ v. IsExpr 0 v a) e d)
exprs_some known _ _ (more_exprs comma [] us a xs k d ds) e = known.some a d
exprs_some known _ _ (more_exprs comma (t ∷ ts) us a xs k d ds) e = cc

exprs_begin : Expressions → (ts : List Lexeme) (xs : List Expr) → AreExprs ts xs → (t : Lexeme) (us : List Lexeme) → ts ≡ t ∷ us → Begins (t ∷ [])
exprs_begin known _ _ (one_expr ts a d) t us e = (us, a, subst (λ v. IsExpr 0 v a) e d)
exprs_begin known _ _ (more_exprs comma [] us a xs k d ds) t vs e = absurd (known.some a d)
exprs_begin known _ _ (more_exprs comma (s ∷ ts) us a xs k d ds) t vs e = (ts, a, subst (λ v. IsExpr 0 (v ∷ ts) a) (heads e) d)

pub exprs_word : Expressions → (w : Word) → is_symbol w ≡ false → (t : Lexeme) (ts : List Lexeme) (xs : List Expr) → AreExprs (t ∷ ts) xs → is_word w t ≡ false
exprs_word known w e t ts xs d = by (is_word w t) refl
  where
    by : (b : Bool) → is_word w t ≡ b → is_word w t ≡ false
    by true h = absurd (known.none t [] (reserved_none w e t (word_is w t h)) (exprs_begin known (t ∷ ts) xs d t ts refl))
    by false h = h

pub lval_word : (w : Word) → are_same w word.OpenBrace ≡ false → (t : Lexeme) (ts : List Lexeme) (x : Lval) → IsLval (t ∷ ts) x → is_word w t ≡ false
lval_word w e t _ _ (name h) = is_word-name w t h
lval_word w e t _ _ (index h o d c) = is_word-name w t h
lval_word w e t _ _ (range h o d k g c) = is_word-name w t h
lval_word w e t _ _ (concat o ds c) = is_word-other w word.OpenBrace t o ∙ e

-- the word is none of those with which statements begin
abbrev pub Apart : Word → Type 0
Apart w = (are_same w word.If ≡ false) × (are_same w word.Case ≡ false) × (are_same w word.Begin ≡ false) × (are_same w word.Semicolon ≡ false) × (are_same w word.OpenBrace ≡ false)

pub statement_word : (c : Context) (w : Word) → Apart w → (o : Bool) (ts : List Lexeme) (x : Statement) → IsStatement c o ts x → Without w ts
statement_word c w a o _ _ (assigned {t = t} {ts = ts} {target = target} d e v k) = record { token = t; rest = _; split = refl; is = lval_word w a.4 t ts target d }
statement_word c w a o _ _ (alone {t = t} h p e k s) = by_word w word.If a.0 t _ h
statement_word c w a o _ _ (branches {t = t} h p e k s l r) = by_word w word.If a.0 t _ h
statement_word c w a o _ _ (cases {t = t} h p e k i is l) = by_word w word.Case a.1 t _ h
statement_word c w a o _ _ (block {t = t} h n s l) = by_word w word.Begin a.2 t _ h
statement_word c w a o _ _ (empty {t = t} h) = by_word w word.Semicolon a.3 t _ h

pub statements_word : (c : Context) (w : Word) → Apart w → (ts : List Lexeme) (xs : List Statement) (b : Option Lexeme) → passes (is_word w) b ≡ false → AreStatements c ts xs → passes (is_word w) (first ts b) ≡ false
statements_word c w a _ _ b n no_statement = n
statements_word c w a _ _ b n (one_statement {ts = ts} {us = us} {a = x} {open_ended = o} s ss) = without_next w ts us b (statement_word c w a o ts x s)

-- an item begins with no reserved word but `default`
pub item_word : Expressions → (c : Context) (w : Word) → is_symbol w ≡ false → are_same w word.Default ≡ false → (ts : List Lexeme) (x : CaseItem) → IsItem c ts x → Without w ts
item_word known c w e a _ _ (values {t = t} {ts = ts} {xs = xs} d k s) = record { token = t; rest = _; split = refl; is = exprs_word known w e t ts xs d }
item_word known c w e a _ _ (default {t = t} h n s) = by_word w word.Default a t _ h

pub items_word : Expressions → (c : Context) (w : Word) → is_symbol w ≡ false → are_same w word.Default ≡ false → (ts : List Lexeme) (xs : List CaseItem) (b : Option Lexeme) → passes (is_word w) b ≡ false → AreItems c ts xs
    → passes (is_word w) (first ts b) ≡ false
items_word known c w e a _ _ b n no_item = n
items_word known c w e a _ _ b n (one_item {ts = ts} {us = us} {a = x} i is) = without_next w ts us b (item_word known c w e a ts x i)
