-- Parts that `.` begins, or expressions.
use Rattle.std.proofs.Common.{◌≡◌, ℕ, List, [], ◌∷◌, ◌++◌, Option, Some, refl}
use Rattle.vod_tree.specs.declared.expr.Expr.{Expr}
use Rattle.vod_expr.specs.Grammar.{Lexeme, AreExprs}
use Rattle.vod_grammar.specs.EitherLaws.{either_laws}
use Rattle.vod_grammar.specs.Form.{Form, Sight, Before, a_word, in_turn, changed, led, unled, word_form, expression_form, mapped, behind, separated}
use Rattle.vod_grammar.specs.Laws.{Laws}
use Rattle.vod_grammar.specs.ListLaws.{ReadBefore, exprs_are, are_exprs}
use Rattle.vod_grammar.specs.PartLaws.{mapped_laws, separated_laws, behind_laws}
use Rattle.vod_grammar.specs.RepeatLaws.{repeated_laws}
use Rattle.vod_grammar.specs.ThenLaws.{then_laws}
use Rattle.vod_grammar.specs.TokenLaws.{word_laws}
use Rattle.vod_grammar.specs.WordLaws.{is_word-other}
use Rattle.vod_grammar.specs.Words.{Is, is_word}
use Rattle.vod_grammar.specs.declared.word.Word.TheVariants as word
use Rattle.vod_instance.specs.FirstTokens.{Expressions, exprs_first}
use Rattle.vod_instance.specs.InstancesForm.{dotted, dotted_behind, by_name_or_order}
use Rattle.vod_instance.specs.Listed.{Relation, AreListed}
use Rattle.vod_instance.specs.ListedLaws.{Are, Fit, listed_of, of_listed}
use Rattle.vod_instance.specs.ShallowLaws.{Shallow, word_shallow, expression_shallow, mapped_shallow, then_shallow, either_shallow, further_shallow, separated_shallow}

module _ {A B : Type 0} (name_it : List A → B) (order_it : List Expr → B) (part : ℕ → Form A) where
  module _ (R : Relation A) (Q : Relation B) where
    -- the phrases are lists of such parts, or of expressions
    dotted_are : Are (dotted part) R → (t : Lexeme) → Is word.Period t → (m : Sight) (ts : List Lexeme) (xs : List A) (b : Option Lexeme) → (dotted_behind part t.place).phrase m ts xs b → AreListed R (t ∷ ts) xs
    dotted_are is t h m _ xs b (in_turn {us = us} {vs = vs} {x = x} p q) =
        listed_of (dotted part) R is m (t ∷ (us ++ vs)) xs b (in_turn {us = t ∷ us} {vs = vs} {x = x} (in_turn {us = t ∷ []} {vs = us} (a_word h) p) q)

    pub named_or_ordered : Are (dotted part) R → ((ts : List Lexeme) (xs : List A) → AreListed R ts xs → Q ts (name_it xs)) → ((ts : List Lexeme) (xs : List Expr) → AreExprs ts xs → Q ts (order_it xs))
        → Are (by_name_or_order name_it order_it part) Q
    named_or_ordered is onto along m _ _ b (led {t = t} {ts = ts} h (changed {x = xs} p)) = onto (t ∷ ts) xs (dotted_are is t h m ts xs b p)
    named_or_ordered is onto along m ts _ b (unled n (changed {x = xs} p)) = along ts xs (exprs_are m ts xs b p)

    -- such lists are phrases
    undotted : (m : Sight) (ts : List Lexeme) (xs : List A) (b : Option Lexeme) → (separated (dotted part)).phrase m ts xs b → (by_name_or_order name_it order_it part).phrase m ts (name_it xs) b
    undotted m _ xs b (in_turn {vs = vs} {x = x} (in_turn {vs = us} (a_word {t = t} h) p) q) = led h (changed (in_turn {us = us} {vs = vs} {x = x} p q))

    pub named_fit : Fit (dotted part) R → (m : Sight) (ts : List Lexeme) (xs : List A) (closer : Lexeme) → Is word.CloseParen closer → AreListed R ts xs
        → (by_name_or_order name_it order_it part).phrase m ts (name_it xs) (Some closer)
    named_fit fit m ts xs closer c d = undotted m ts xs (Some closer) (of_listed (dotted part) R fit m ts xs (Some closer) (is_word-other word.Comma word.CloseParen closer c) d)

  pub ordered_fit : ReadBefore → Expressions → (m : Sight) (ts : List Lexeme) (xs : List Expr) (closer : Lexeme) → Is word.CloseParen closer → AreExprs ts xs
      → (by_name_or_order name_it order_it part).phrase m ts (order_it xs) (Some closer)
  ordered_fit read known m ts xs closer c d =
      unled (λ z. exprs_first known word.Period refl refl ts xs (Some closer) d)
      (changed (are_exprs read m ts xs word.CloseParen closer c refl (is_word-other word.Comma word.CloseParen closer c) d))

  -- the laws of the form
  has_comma : (ts : List Lexeme) (x : A) (b : Option Lexeme) → (behind word.Comma (dotted part)).phrase Before ts x b → ts ≡ [] → ⊥
  has_comma _ x b (in_turn (a_word h) q) e = cc

  dotted_behind_laws : ((place : ℕ) → Laws (part place)) → (place : ℕ) → Laws (dotted_behind part place)
  dotted_behind_laws lp place =
      then_laws (part place) _ (lp place)
      (λ x. repeated_laws (is_word word.Comma) (behind word.Comma (dotted part))
      (behind_laws word.Comma (dotted part) (then_laws (word_form word.Period) part (word_laws word.Period) lp))
      (λ y b p. has_comma [] y b p refl) (x ∷ []))

  pub by_name_or_order_laws : Laws expression_form → ((place : ℕ) → Laws (part place)) → Laws (by_name_or_order name_it order_it part)
  by_name_or_order_laws le lp =
      either_laws word.Period (λ place. mapped name_it (dotted_behind part place)) (mapped order_it (separated expression_form))
      (λ place. mapped_laws name_it (dotted_behind part place) (dotted_behind_laws lp place))
      (mapped_laws order_it (separated expression_form) (separated_laws expression_form le))

  -- nothing in it is nested too deep
  dotted_behind_shallow : ((place : ℕ) → Shallow (part place)) → (place : ℕ) → Shallow (dotted_behind part place)
  dotted_behind_shallow sp place = then_shallow (part place) _ (sp place) (λ x. further_shallow (dotted part) (x ∷ []) (then_shallow (word_form word.Period) part (word_shallow word.Period) sp))

  pub by_name_or_order_shallow : ((place : ℕ) → Shallow (part place)) → Shallow (by_name_or_order name_it order_it part)
  by_name_or_order_shallow sp =
      either_shallow word.Period (λ place. mapped name_it (dotted_behind part place)) (mapped order_it (separated expression_form))
      (λ place. mapped_shallow name_it (dotted_behind part place) (dotted_behind_shallow sp place))
      (mapped_shallow order_it (separated expression_form) (separated_shallow expression_form expression_shallow))
