-- The number that a token stands for, as a function.
use Rattle.vod_token.specs.Literal.{literal_of}
use Rattle.vod_tree.specs.declared.ident.Number.{Number}
use Rattle.vod_expr_machine.specs.Lexeme.{Lexeme, number_from}

unfoldable pub number_of : Lexeme → Number
number_of t = number_from t.place (literal_of t.text)
