-- The first tokens of left sides and statements.
use Rattle.std.proofs.Common.{◌≡◌, ◌||◌, Option, None, Some, refl}
use Rattle.vod_expr.specs.Grammar.{Lexeme}
use Rattle.vod_token.specs.declared.TokenKind.TheVariants as kinds
use Rattle.vod_grammar.specs.Read.{passes}
use Rattle.vod_grammar.specs.Words.{is_word, same_kind}
use Rattle.vod_grammar.specs.declared.word.Word.TheVariants as word
use Rattle.vod_statement.specs.LeftSideForm.{starts_lval}
use Rattle.vod_statement.specs.StatementForm.{starts_statement}

pub lval_next : (o : Option Lexeme) → passes starts_lval o ≡ (passes (is_word word.OpenBrace) o || passes (λ t. same_kind t.kind kinds.Name) o)
lval_next None = refl
lval_next (Some t) = refl

pub statement_next : (o : Option Lexeme) → passes starts_statement o
    ≡ (passes (is_word word.If) o || (passes (is_word word.Case) o || (passes (is_word word.Begin) o || (passes (is_word word.Semicolon) o || passes starts_lval o))))
statement_next None = refl
statement_next (Some t) = refl
