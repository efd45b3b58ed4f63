-- A statement that begins as many levels below as the form has is one where it stops.
use Rattle.std.proofs.Common.{◌≡◌, ℕ, zero, suc, true, false, not, List, [], ◌∷◌, ◌++◌, None, Some, refl, sym, ◌∙◌, ap, subst, append_assoc}
use Rattle.vod_tree.specs.declared.statement.InitialStatement.{InitialStatement}
use Rattle.vod_expr.specs.Grammar.{Lexeme}
use Rattle.vod_grammar.specs.Form.{Before, RepeatedDeep, a_word, in_first, in_second, in_led, in_other, in_next, in_later, number_form, expression_form}
use Rattle.vod_grammar.specs.Laws.{Laws}
use Rattle.vod_grammar.specs.ListLaws.{ReadBefore}
use Rattle.vod_grammar.specs.Read.{first, passes}
use Rattle.vod_grammar.specs.WordLaws.{is_word-other}
use Rattle.vod_grammar.specs.Words.{is_word, is_other}
use Rattle.vod_grammar.specs.declared.word.Word.{Word}
use Rattle.vod_grammar.specs.declared.word.Word.TheVariants as word
use Rattle.vod_statement.specs.FirstTokens.{without_next, without_other, heads}
use Rattle.vod_statement.specs.LabelLaws.{label_into}
use Rattle.vod_initial.specs.Depth.{Below, here, in_loop, in_block}
use Rattle.vod_initial.specs.Initial.{AreInitials, no_initial, one_initial}
use Rattle.vod_initial.specs.InitialForm.{around, starts_initial, initial_form}
use Rattle.vod_initial.specs.InitialFormLaws.{begun_any}
use Rattle.vod_initial.specs.InitialPhrases.{Apart, initial_word, is_start, is_test, is_step, is_initial}

module _ (le : Laws expression_form) (ln : Laws number_form) (read : ReadBefore) (t : Lexeme) (e : starts_initial t ≡ true) where
  -- a token that begins a statement is no word that begins none
  start_word : (w : Word) → Apart w → is_word w t ≡ false
  start_word w a =
      let b = begun_any le ln t e in
      let s = initial_word w a (t ∷ b.more) b.value b.is in
      ap (is_word w) (heads s.split) ∙ s.is

  below_word : (w : Word) → Apart w → (n : ℕ) (front : List Lexeme) → Below n front → passes (is_word w) (first front (Some t)) ≡ false
  below_word w a _ _ here = start_word w a
  below_word w a _ _ (in_loop {t = s} h o st te sp c b) = is_word-other w word.For s h ∙ a.0
  below_word w a _ _ (in_block {t = s} h l is b) = is_word-other w word.Begin s h ∙ a.1

  -- nor do statements before it begin with one
  body_word : (w : Word) → Apart w → (n : ℕ) (us : List Lexeme) (xs : List InitialStatement) (front : List Lexeme) → AreInitials us xs → Below n front → passes (is_word w) (first (us ++ front) (Some t)) ≡ false
  body_word w a n _ _ front no_initial b = below_word w a n front b
  body_word w a n _ _ front (one_initial {ts = ts} {us = us} {a = x} i is) b =
      ap (λ v. passes (is_word w) (first v (Some t))) (append_assoc ts us front) ∙ without_next w ts (us ++ front) (Some t) (initial_word w a ts x i)

  other_word : (front : List Lexeme) → passes (is_word word.End) (first front (Some t)) ≡ false → passes (is_other word.End) (first front (Some t)) ≡ true
  other_word [] k = ap not k
  other_word (s ∷ ss) k = ap not k

  module _ (n k : ℕ) (below : (front : List Lexeme) → Below n front → (initial_form k).deep front t) where
    body_below : (us : List Lexeme) (xs : List InitialStatement) (front : List Lexeme) → AreInitials us xs → Below n front → RepeatedDeep (is_other word.End) (initial_form k).phrase (initial_form k).deep (us ++ front) t
    body_below _ _ front no_initial b = in_next (other_word front (below_word word.End (refl, refl) n front b)) (below front b)
    body_below _ _ front (one_initial {ts = ts} {us = us} {a = x} {xs = xs} i is) b =
        subst (λ v. RepeatedDeep (is_other word.End) (initial_form k).phrase (initial_form k).deep v t) (sym (append_assoc ts us front))
        (in_later (without_other word.End ts None (initial_word word.End (refl, refl) ts x i)) (is_initial read k Before ts x (first (us ++ front) (Some t)) i) (body_below us xs front is b))

    around_below : (front : List Lexeme) → Below (suc n) front → (around (initial_form k)).deep front t
    around_below _ (in_loop {closer = closer} {ts = ts} {us = us} {vs = vs} {front = front} {start = start} {test = test} {step = step} h o st te sp c b) =
        in_led h (in_second (a_word o) (in_second (is_start read Before ts start (first (us ++ (vs ++ closer ∷ front)) (Some t)) st)
        (in_second (is_test read Before us test (first (vs ++ closer ∷ front) (Some t)) te) (in_second (is_step read Before vs step (Some closer) sp) (in_second (a_word c) (below front b))))))
    around_below _ (in_block {t = s} {ts = ls} {us = us} {front = front} {name = name} {before = xs} h l is b) =
        in_other (is_word-other word.For word.Begin s h)
        (in_led h (in_second (label_into Before ls name (first (us ++ front) (Some t)) (body_word word.Colon (refl, refl) n us xs front is b) l) (in_first (body_below us xs front is b))))

  pub below_deep : (n : ℕ) (front : List Lexeme) → Below n front → (initial_form n).deep front t
  unfolding initial_form
  below_deep zero _ here = (refl, e)
  below_deep (suc n) front b = around_below n n (below_deep n) front b
