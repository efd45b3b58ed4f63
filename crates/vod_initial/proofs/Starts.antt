-- The first tokens of the statements of an `initial`.
use Rattle.std.proofs.Common.{◌≡◌, ◌||◌, Option, None, Some, refl}
use Rattle.vod_expr.specs.Grammar.{Lexeme}
use Rattle.vod_token.specs.declared.TokenKind.TheVariants as kinds
use Rattle.vod_grammar.specs.Read.{passes}
use Rattle.vod_grammar.specs.Words.{is_word, same_kind}
use Rattle.vod_grammar.specs.declared.word.Word.TheVariants as word
use Rattle.vod_initial.specs.InitialForm.{starts_initial}

pub initial_next : (o : Option Lexeme) → passes starts_initial o ≡ (passes (is_word word.For) o || (passes (is_word word.Begin) o || passes (λ t. same_kind t.kind kinds.Name) o))
initial_next None = refl
initial_next (Some t) = refl
