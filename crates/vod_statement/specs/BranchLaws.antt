-- The branches of an `if`: a statement, and behind it `else` and another one, or nothing.
use Rattle.std.proofs.Common.{◌≡◌, List, [], ◌∷◌, ◌++◌, Option, None, Some, refl, sym, subst, append-nil}
use Rattle.vod_tree.specs.declared.statement.Statement.{Statement}
use Rattle.vod_expr.specs.Grammar.{Lexeme}
use Rattle.vod_grammar.specs.EitherLaws.{either_laws}
use Rattle.vod_grammar.specs.Form.{Form, Alone, Before, ThenPhrase, in_turn, changed, led, unled, nothing}
use Rattle.vod_grammar.specs.Laws.{Laws, Begun}
use Rattle.vod_grammar.specs.PartLaws.{mapped_laws}
use Rattle.vod_grammar.specs.Read.{first}
use Rattle.vod_grammar.specs.ThenLaws.{closed_laws}
use Rattle.vod_grammar.specs.TokenLaws.{give_laws}
use Rattle.vod_grammar.specs.declared.word.Word.TheVariants as word
use Rattle.vod_statement.specs.FirstTokens.{heads, no_head}
use Rattle.vod_statement.specs.StatementForm.{Branches, only, both, branches, otherwise}

module _ (f : Form Statement) (lf : Laws f) where
  first_into : (us : List Lexeme) (x : Statement) (vs : List Lexeme) (y : Statement × Option Statement) (b : Option Lexeme) → f.phrase Before us x (first vs b) → (otherwise f x).phrase Before vs y b → Branches f.phrase Before (us ++ vs) y b
  first_into us x _ _ b p (led h (changed r)) = both p h r
  first_into us x _ _ b p (unled n nothing) = subst (λ v. Branches f.phrase Before v (x, None) b) (sym (append-nil us)) (only n p)

  branches_into : (ts : List Lexeme) (y : Statement × Option Statement) (b : Option Lexeme) → ThenPhrase f.phrase (λ x. (otherwise f x).phrase) Before ts y b → Branches f.phrase Before ts y b
  branches_into _ y b (in_turn {us = us} {vs = vs} {x = x} p q) = first_into us x vs y b p q

  branches_parts : (ts : List Lexeme) (y : Statement × Option Statement) (b : Option Lexeme) → Branches f.phrase Before ts y b → ThenPhrase f.phrase (λ x. (otherwise f x).phrase) Before ts y b
  branches_parts ts _ b (only {a = a} n p) = subst (λ v. ThenPhrase f.phrase (λ x. (otherwise f x).phrase) Before v (a, None) b) (append-nil ts) (in_turn {us = ts} {vs = []} p (unled n nothing))
  branches_parts _ _ b (both p h r) = in_turn p (led h (changed r))

  branches_free : (ts : List Lexeme) (y : Statement × Option Statement) (b c : Option Lexeme) → Branches f.phrase Alone ts y b → Branches f.phrase Alone ts y c
  branches_free ts _ b c (only {a = a} n p) = only (λ e. cc) (lf.free ts a b c p)
  branches_free _ _ b c (both {vs = vs} {d = d} p h r) = both p h (lf.free vs d b c r)

  branches_wider : (ts : List Lexeme) (y : Statement × Option Statement) (b : Option Lexeme) → Branches f.phrase Before ts y b → Branches f.phrase Alone ts y b
  branches_wider ts _ b (only {a = a} n p) = only (λ e. cc) (lf.wider ts a b p)
  branches_wider _ _ b (both {vs = vs} {d = d} p h r) = both p h (lf.wider vs d b r)

  branches_close : (us : List Lexeme) (x : Statement) → f.phrase Alone us x None → Begun (Branches f.phrase) us
  branches_close us x p = record { more = []; value = (x, None); is = subst (λ v. Branches f.phrase Alone v (x, None) None) (sym (append-nil us)) (only (λ e. cc) p) }

  joined : (us : List Lexeme) (x : Statement) (t : Lexeme) (vs ts : List Lexeme) (y : Statement × Option Statement) → ts ≡ t ∷ vs → f.phrase Before us x (Some t) → (otherwise f x).phrase Alone ts y None
      → Branches f.phrase Alone (us ++ ts) y None
  joined us x t vs _ _ e p (led h (changed r)) = both (subst (λ v. f.phrase Before us x (Some v)) (sym (heads e)) p) h r
  joined us x t vs _ _ e p (unled n nothing) = absurd (no_head e)

  branches_join : (us : List Lexeme) (x : Statement) (t : Lexeme) (vs : List Lexeme) (y : Statement × Option Statement) → f.phrase Before us x (Some t) → (otherwise f x).phrase Alone (t ∷ vs) y None
      → Branches f.phrase Alone (us ++ t ∷ vs) y None
  branches_join us x t vs y p q = joined us x t vs (t ∷ vs) y refl p q

  pub branches_laws : Laws (branches f)
  branches_laws =
      closed_laws f (otherwise f) lf (λ a. either_laws word.Else _ _ (λ _. mapped_laws _ f lf) (give_laws (a, None))) (Branches f.phrase)
      (record { into = branches_into; parts = branches_parts; free = branches_free; wider = branches_wider; close = branches_close; join = branches_join })
