-- The form of a name with a value or without one is exact.
use Rattle.std.proofs.Common.{List, ◌∷◌, Option, None, Some}
use Rattle.vod_tree.specs.declared.declaration.Value.{Value}
use Rattle.vod_tree.specs.declared.ident.Ident.{Ident}
use Rattle.vod_expr.specs.Grammar.{Lexeme, IsName, ident_of}
use Rattle.vod_grammar.specs.Form.{Sight, a_name, nothing as no_token, in_turn, changed, led, unled, name_form, expression_form}
use Rattle.vod_grammar.specs.WordLaws.{is_word-name}
use Rattle.vod_grammar.specs.declared.word.Word.TheVariants as word
use Rattle.vod_declaration.specs.FlatLaws.{Flat, name_flat, give_flat, mapped_flat, then_flat, either_flat}
use Rattle.vod_declaration.specs.PartsLaws.{Are, Of, Ends, Unworded, expression_end}
use Rattle.vod_declaration.specs.Ports.{IsValue, value, plain, initial}
use Rattle.vod_declaration.specs.PortsForm.{valued, value_form}

-- what stands behind a name is a value with it
pub valued_is : (t : Lexeme) → IsName t → (m : Sight) (ts : List Lexeme) (x : Value) (b : Option Lexeme) → (valued (ident_of t)).phrase m ts x b → IsValue (t ∷ ts) x
valued_is t h m _ x b (led {t = equals} {ts = ts} k q) =
    expression_end (λ a. value (ident_of t) (Some a)) (λ us z. IsValue (t ∷ equals ∷ us) z) (λ us a d. initial h k d) m ts x b q
valued_is t h m _ _ b (unled n no_token) = plain h

pub values_are : Are value_form IsValue
values_are m _ x b (in_turn {vs = vs} (a_name {t = t} h) q) = valued_is t h m vs x b q

pub of_values : Of value_form IsValue Ends
of_values m _ _ b e (plain h) = in_turn (a_name h) (unled (λ k. e.equals) no_token)
of_values m _ _ b e (initial {ts = ts} {a = a} h k d) = in_turn (a_name h) (led k (changed (e.read m ts a d)))

pub value_unworded : Unworded IsValue
value_unworded w _ _ (plain {t = t} h) b = is_word-name w t h
value_unworded w _ _ (initial {t = t} h k d) b = is_word-name w t h

pub valued_flat : Flat expression_form → (n : Ident) → Flat (valued n)
valued_flat le n = either_flat word.Equals _ _ (λ _. mapped_flat _ expression_form le) (give_flat (value n None))

pub value_flat : Flat expression_form → Flat value_form
value_flat le = then_flat name_form valued name_flat (valued_flat le)
