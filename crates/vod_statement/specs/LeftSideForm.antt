-- How left sides are read.
use Rattle.std.specs.Prelude.{ℕ, zero, suc, Bool, ◌||◌}
use Rattle.vod_token.specs.declared.TokenKind.TheVariants as kinds
use Rattle.vod_tree.specs.declared.expr.Expr.{Expr}
use Rattle.vod_tree.specs.declared.ident.Ident.{Ident}
use Rattle.vod_tree.specs.declared.statement.Lval.{Lval}
use Rattle.vod_tree.specs.declared.statement.LvalKind.TheVariants as kind
use Rattle.vod_expr.specs.Grammar.{Lexeme}
use Rattle.vod_grammar.specs.Form.{Form, word_form, name_form, expression_form, give, then, mapped, either, separated, limit}
use Rattle.vod_grammar.specs.Words.{is_word, same_kind}
use Rattle.vod_grammar.specs.declared.word.Word.TheVariants as word
use Rattle.vod_statement.specs.LeftSide.{IsLval, lval}

-- behind the name and the expressions of a select: `]`
abbrev pub range_end : Ident → Expr → Expr → Form Lval
range_end name a b = mapped (λ _. lval name.place (kind.Range name a b)) (word_form word.CloseBracket)

-- behind the name and the first expression of a select: `: expr ]` or `]`
abbrev pub ranged : Ident → Expr → Form Lval
ranged name a =
    either word.Colon
    (λ _. then expression_form (range_end name a))
    (mapped (λ _. lval name.place (kind.Index name a)) (word_form word.CloseBracket))

-- behind a name: a select, or nothing
abbrev pub selected : Ident → Form Lval
selected name = either word.OpenBracket (λ _. then expression_form (ranged name)) (give (lval name.place (kind.Name name)))

-- a name, with a select or without one
abbrev pub named : Form Lval
named = then name_form selected

-- behind `{`: left sides of this form, and `}`
abbrev pub joined : Form Lval → ℕ → Form Lval
joined f place = then (separated f) (λ xs. mapped (λ _. lval place (kind.Concat xs)) (word_form word.CloseBrace))

-- a left side whose parts are of this form
abbrev pub around : Form Lval → Form Lval
around f = either word.OpenBrace (joined f) named

-- the first token of a left side
abbrev pub starts_lval : Lexeme → Bool
starts_lval t = is_word word.OpenBrace t || same_kind t.kind kinds.Name

-- a left side with fewer nested `{` than this
unfoldable pub lval_form : ℕ → Form Lval
lval_form zero = limit starts_lval (λ m ts x b. IsLval ts x)
lval_form (suc n) = around (lval_form n)
