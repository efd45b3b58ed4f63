-- The number of a token is the one that it stands for.
use Rattle.std.proofs.Common.{◌≡◌, ℕ, List, ap, sym}
use Rattle.vod_token.specs.Literal.{StandsFor, literal_of}
use Rattle.vod_token.specs.declared.TokenKind.TheVariants as kinds
use Rattle.vod_token.specs.declared.value.Literal.{Literal}
use Rattle.vod_expr_machine.specs.Lexeme.{number_from}
use Rattle.vod_expr_machine.specs.Numerals.{number_of}

pub number_is : ((t : List ℕ) (m : Literal) → StandsFor t m → literal_of t ≡ m) → (text : List ℕ) (place : ℕ) (n : Literal) → StandsFor text n → number_from place n ≡ number_of (record { kind = kinds.Number; text = text; place = place })
unfolding number_of
number_is one text place n stands = ap (number_from place) (sym (one text n stands))
