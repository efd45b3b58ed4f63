-- One part or more, with `,` between.
use Rattle.std.specs.Prelude.{List, [], ◌∷◌, ◌++◌}
use Rattle.vod_expr.specs.Grammar.{Lexeme}
use Rattle.vod_grammar.specs.Words.{Is}
use Rattle.vod_grammar.specs.declared.word.Word.TheVariants as word

-- which tokens are a part with which tree
abbrev pub Relation : Type 0 → Type 1
Relation A = List Lexeme → A → Type 0

-- the tokens are such parts, with `,` between
pub data AreListed {A : Type 0} (R : Relation A) : List Lexeme → List A → Type 0 where
  last : {ts : List Lexeme} {x : A} → R ts x → AreListed R ts (x ∷ [])
  next : {comma : Lexeme} {ts us : List Lexeme} {x : A} {xs : List A}
      → R ts x → Is word.Comma comma → AreListed R us xs → AreListed R (ts ++ comma ∷ us) (x ∷ xs)
