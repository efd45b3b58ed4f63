-- The number of a token is the one that it stands for.
use Rattle.std.proofs.Common.{◌≡◌, ℕ, List, ap, sym, subst, ◌∙◌}
use Rattle.vod_token.specs.Literal.{StandsFor, literal_of}
use Rattle.vod_token.specs.declared.value.Literal.{Literal}
use Rattle.vod_expr.specs.Grammar.{Lexeme, IsLexeme, IsNumber, number_from}
use Rattle.vod_expr.specs.NumberLaws.{numbered}
use Rattle.vod_expr_machine.specs.Numerals.{number_of}
use Rattle.vod_expr.proofs.Complete.{Knows}
use Rattle.vod_expr.proofs.States.{Sure}

-- what is known of texts that stand for numbers
abbrev pub OneLiteral : Type 0
OneLiteral = (text : List ℕ) (n : Literal) → StandsFor text n → literal_of text ≡ n

pub knows : OneLiteral → Knows number_of
unfolding number_of
knows one t n isn = ap (number_from t.place) (one t.text isn.1.0 isn.1.1) ∙ sym isn.1.2

pub own_number : OneLiteral → (t : Lexeme) → IsLexeme t → Sure number_of t
own_number one t is = λ k. let n = numbered t is k in subst (IsNumber t) (sym (knows one t n.0 n.1)) n.1
