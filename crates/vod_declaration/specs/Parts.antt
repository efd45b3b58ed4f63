-- Parts that may be left out, and parts with `,` between.
use Rattle.std.specs.Prelude.{Bool, true, false, List, [], ◌∷◌, ◌++◌, Option, None, Some}
use Rattle.vod_tree.specs.declared.ident.Ident.{Ident}
use Rattle.vod_expr.specs.Grammar.{Lexeme, IsName, ident_of}
use Rattle.vod_grammar.specs.Words.{Is}
use Rattle.vod_grammar.specs.declared.word.Word.{Word}
use Rattle.vod_grammar.specs.declared.word.Word.TheVariants as word

-- NAME
pub data IsIdent : List Lexeme → Ident → Type 0 where
  ident : {t : Lexeme} → IsName t → IsIdent (t ∷ []) (ident_of t)

-- [ WORD ]: whether the word stands there
pub data IsFlag (w : Word) : List Lexeme → Bool → Type 0 where
  absent : IsFlag w [] false
  present : {t : Lexeme} → Is w t → IsFlag w (t ∷ []) true

-- [ part ]
pub data IsOptional {A : Type 0} (P : List Lexeme → A → Type 0) : List Lexeme → Option A → Type 0 where
  nothing : IsOptional P [] None
  something : {ts : List Lexeme} {x : A} → P ts x → IsOptional P ts (Some x)

-- { "," part }
pub data AreFurther {A : Type 0} (P : List Lexeme → A → Type 0) : List Lexeme → List A → Type 0 where
  no_more : AreFurther P [] []
  one_more : {comma : Lexeme} {ts us : List Lexeme} {x : A} {xs : List A}
      → Is word.Comma comma → P ts x → AreFurther P us xs → AreFurther P (comma ∷ (ts ++ us)) (x ∷ xs)

-- part { "," part }
pub data AreListed {A : Type 0} (P : List Lexeme → A → Type 0) : List Lexeme → List A → Type 0 where
  listed : {ts us : List Lexeme} {x : A} {xs : List A} → P ts x → AreFurther P us xs → AreListed P (ts ++ us) (x ∷ xs)
