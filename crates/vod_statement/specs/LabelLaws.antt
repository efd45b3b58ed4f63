-- The form of the name of a block is exact.
use Rattle.std.specs.Prelude.{◌≡◌, false, List, Option, None}
use Rattle.vod_tree.specs.declared.ident.Ident.{Ident}
use Rattle.vod_expr.specs.Grammar.{Lexeme}
use Rattle.vod_grammar.specs.EitherLaws.{either_laws}
use Rattle.vod_grammar.specs.Form.{Sight, a_name, nothing, changed, led, unled, in_led, in_other, name_form}
use Rattle.vod_grammar.specs.Laws.{Laws}
use Rattle.vod_grammar.specs.PartLaws.{mapped_laws}
use Rattle.vod_grammar.specs.Read.{passes}
use Rattle.vod_grammar.specs.TokenLaws.{name_laws, give_laws}
use Rattle.vod_grammar.specs.Words.{is_word}
use Rattle.vod_grammar.specs.declared.word.Word.TheVariants as word
use Rattle.vod_statement.specs.Label.{IsLabel, unlabelled, labelled, label_form}

pub label_is : (m : Sight) (ts : List Lexeme) (x : Option Ident) (b : Option Lexeme) → label_form.phrase m ts x b → IsLabel ts x
label_is m _ _ b (led k (changed (a_name h))) = labelled k h
label_is m _ _ b (unled n nothing) = unlabelled

pub label_into : (m : Sight) (ts : List Lexeme) (x : Option Ident) (b : Option Lexeme) → passes (is_word word.Colon) b ≡ false → IsLabel ts x → label_form.phrase m ts x b
label_into m _ _ b n (labelled k h) = led k (changed (a_name h))
label_into m _ _ b n unlabelled = unled (λ e. n) nothing

pub label_laws : Laws label_form
label_laws = either_laws word.Colon _ _ (λ _. mapped_laws _ name_form name_laws) (give_laws None)

pub label_shallow : (front : List Lexeme) (t : Lexeme) → label_form.deep front t → ⊥
label_shallow _ t (in_led h d) = d
label_shallow _ t (in_other n d) = d
