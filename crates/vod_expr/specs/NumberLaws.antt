-- A token that is spelled as a number stands for one.
use Rattle.std.proofs.Common.{◌≡◌, ℕ, ◌%◌, ◌^◌, Bool, true, false, cond, refl, sym, ◌∙◌}
use Rattle.vod_token.specs.Form.{Form, IsSpelled, kind_of}
use Rattle.vod_token.specs.Form.Form.{Word, Plain, Based, Directive, Symbol}
use Rattle.vod_token.specs.Literal.{literal, StandsFor}
use Rattle.vod_token.specs.Word.{is_reserved}
use Rattle.vod_token.specs.declared.TokenKind.TheVariants as kinds
use Rattle.vod_token.specs.declared.value.Literal.{Literal}
use Rattle.vod_tree.specs.declared.ident.Number.{Number}
use Rattle.vod_expr.specs.Grammar.{Lexeme, IsLexeme, IsNumber, number_from}

word_is_none : (b : Bool) → kinds.Number ≡ cond b kinds.Reserved kinds.Name → ⊥
word_is_none true h = cc
word_is_none false h = cc

stands : (t : Lexeme) → t.kind ≡ kinds.Number → (n : Literal) → StandsFor t.text n → (x : Number) × IsNumber t x
stands t kind n is = (number_from t.place n, (kind, (n, is, refl)))

by_form : (t : Lexeme) → t.kind ≡ kinds.Number → (form : Form) → IsSpelled t.text form → t.kind ≡ kind_of t.text form → (x : Number) × IsNumber t x
by_form t k Word spelled is = absurd (word_is_none (is_reserved t.text) (sym k ∙ is))
by_form t k (Plain value) spelled is = stands t k (literal 32 true value) (Plain value, spelled, refl)
by_form t k (Based size signed value) spelled is = stands t k (literal size signed (value % (2 ^ size))) (Based size signed value, spelled, refl)
by_form t k Directive spelled is = let clash : kinds.Number ≡ kinds.Directive = sym k ∙ is in cc
by_form t k Symbol spelled is = let clash : kinds.Number ≡ kinds.Symbol = sym k ∙ is in cc

pub numbered : (t : Lexeme) → IsLexeme t → t.kind ≡ kinds.Number → (n : Number) × IsNumber t n
numbered t own k = by_form t k own.form own.spelled own.is
