-- The name of a block, behind its `begin` (IEEE 1364-2005, A.6.3).
use Rattle.std.specs.Prelude.{List, [], ◌∷◌, Option, None, Some}
use Rattle.vod_tree.specs.declared.ident.Ident.{Ident}
use Rattle.vod_expr.specs.Grammar.{Lexeme, IsName, ident_of}
use Rattle.vod_grammar.specs.Form.{Form, name_form, give, mapped, either}
use Rattle.vod_grammar.specs.Words.{Is}
use Rattle.vod_grammar.specs.declared.word.Word.TheVariants as word

-- `: NAME` or nothing
pub data IsLabel : List Lexeme → Option Ident → Type 0 where
  unlabelled : IsLabel [] None
  labelled : {colon t : Lexeme} → Is word.Colon colon → IsName t → IsLabel (colon ∷ t ∷ []) (Some (ident_of t))

abbrev pub label_form : Form (Option Ident)
label_form = either word.Colon (λ _. mapped (λ name. Some name) name_form) (give None)
