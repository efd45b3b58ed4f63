-- The first tokens of declarations.
use Rattle.std.proofs.Common.{◌≡◌, ◌||◌, Option, None, Some, refl}
use Rattle.vod_expr.specs.Grammar.{Lexeme}
use Rattle.vod_grammar.specs.Read.{passes}
use Rattle.vod_grammar.specs.Words.{is_word}
use Rattle.vod_grammar.specs.declared.word.Word.TheVariants as word
use Rattle.vod_declaration.specs.FunctionsForm.{starts_function_declaration}
use Rattle.vod_declaration.specs.ItemsForm.{starts_declaration}

pub declaration_next : (o : Option Lexeme) → passes starts_declaration o
    ≡ (passes (is_word word.Input) o || (passes (is_word word.Output) o || (passes (is_word word.Wire) o || (passes (is_word word.Reg) o
    || (passes (is_word word.Integer) o || (passes (is_word word.Parameter) o || passes (is_word word.Localparam) o))))))
declaration_next None = refl
declaration_next (Some t) = refl

pub function_declaration_next : (o : Option Lexeme) → passes starts_function_declaration o ≡ (passes (is_word word.Input) o || passes (is_word word.Reg) o)
function_declaration_next None = refl
function_declaration_next (Some t) = refl
