-- A statement is its alternative, at the place of its first token.
use Rattle.std.proofs.Common.{◌≡◌, ℕ, suc, List, sym, ap, subst}
use Rattle.vod_tree.specs.declared.statement.InitialKind.{InitialKind}
use Rattle.vod_expr.specs.Grammar.{Lexeme}
use Rattle.vod_grammar.specs.Read.{Got, followed, give, place_of}
use Rattle.vod_initial.specs.Initial.{initial}
use Rattle.vod_initial.specs.InitialForm.{alternatives, initial_form}

around_read : (n : ℕ) (ts : List Lexeme) (kind : InitialKind) (rest : List Lexeme) → (alternatives (initial_form n)).read ts ≡ Got kind rest → (initial_form (suc n)).read ts ≡ Got (initial (place_of ts) kind) rest
unfolding initial_form
around_read n ts kind rest h = ap (λ r. followed r (λ x. give (initial (place_of ts) x))) h

pub nested_read : (depth n : ℕ) (ts : List Lexeme) (kind : InitialKind) (rest : List Lexeme) → depth ≡ suc n → (alternatives (initial_form n)).read ts ≡ Got kind rest → (initial_form depth).read ts ≡ Got (initial (place_of ts) kind) rest
nested_read depth n ts kind rest e h = subst (λ v. (initial_form v).read ts ≡ Got (initial (place_of ts) kind) rest) (sym e) (around_read n ts kind rest h)
