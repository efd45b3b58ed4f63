-- Numbers, by what is known of their texts.
use Rattle.std.proofs.Common.{[], ◌∷◌, true, refl}
use Rattle.std.specs.Prelude.{codes}
use Rattle.vod_token.specs.Form.Form.{Plain}
use Rattle.vod_token.specs.Literal.{literal}
use Rattle.vod_token.specs.declared.TokenKind.TheVariants as kinds
use Rattle.vod_tree.specs.declared.ident.Number.{Number}
use Rattle.vod_expr.specs.Grammar.{Lexeme, IsNumber, number_from}
use Rattle.vod_grammar.specs.Facts.{Facts}
use Rattle.vod_grammar.specs.Form.{number_form, a_number}
use Rattle.vod_grammar.specs.Laws.{Laws}
use Rattle.vod_grammar.specs.TokenLaws as tokens

-- the token `0`
some_number : Lexeme
some_number = record { kind = kinds.Number; text = codes "0"; place = 0 }

zero_from : Number
zero_from = number_from 0 (literal 32 true 0)

some_number-is : IsNumber some_number zero_from
unfolding some_number zero_from
some_number-is = (refl, (literal 32 true 0, (Plain 0, ((refl, tt), refl), refl), refl))

pub number_laws : Facts → Laws number_form
number_laws facts = tokens.number_laws facts.literal (record { tokens = some_number ∷ []; value = zero_from; is = a_number some_number-is })
