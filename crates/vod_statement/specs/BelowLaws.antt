-- A statement that begins as many levels below as the form has is one where it stops.
use Rattle.std.proofs.Common.{◌≡◌, ℕ, zero, suc, true, false, not, List, [], ◌∷◌, ◌++◌, Option, None, Some, refl, sym, ◌∙◌, ap, subst, append_assoc}
use Rattle.vod_tree.specs.declared.statement.CaseItem.{CaseItem}
use Rattle.vod_tree.specs.declared.statement.Statement.{Statement}
use Rattle.vod_expr.specs.Grammar.{Lexeme}
use Rattle.vod_grammar.specs.Form.{Form, Sight, Before, RepeatedDeep, a_word, in_first, in_second, in_led, in_other, in_next, in_later, expression_form, several}
use Rattle.vod_grammar.specs.Laws.{Laws}
use Rattle.vod_grammar.specs.ListLaws.{ReadBefore, are_exprs}
use Rattle.vod_grammar.specs.Read.{first, passes}
use Rattle.vod_grammar.specs.WordLaws.{is_word-other}
use Rattle.vod_grammar.specs.Words.{is_word, is_other, is_symbol, are_same}
use Rattle.vod_grammar.specs.declared.word.Word.{Word}
use Rattle.vod_grammar.specs.declared.word.Word.TheVariants as word
use Rattle.vod_statement.specs.Depth.{Below, IsItemLabel, here, in_branch, in_other as in_else, in_block, in_case, by_values, by_default}
use Rattle.vod_statement.specs.FirstTokens.{Expressions, Apart, without_next, without_other, exprs_word, exprs_some, heads, statement_word, item_word}
use Rattle.vod_statement.specs.LabelLaws.{label_into}
use Rattle.vod_statement.specs.StatementForm.{StatementPhrase, statement_form, around, item_form, starts_statement}
use Rattle.vod_statement.specs.StatementFormLaws.{begun_any, is_statement}
use Rattle.vod_statement.specs.StatementPhrases.{open_into, colon_into, item_into}
use Rattle.vod_statement.specs.Statements.{AreStatements, AreItems, no_statement, one_statement, no_item, one_item}
use Rattle.vod_statement.specs.declared.context.Context.{Context}

-- a token that begins a statement is no word that begins none
start_word : Laws expression_form → (c : Context) (w : Word) → Apart w → (t : Lexeme) → starts_statement t ≡ true → is_word w t ≡ false
start_word le c w a t e =
    let b = begun_any le c t (is_word word.If t) refl e in
    let s = statement_word c w a b.is.open_ended (t ∷ b.more) b.value b.is.is in
    ap (is_word w) (heads s.split) ∙ s.is

below_word : Laws expression_form → (c : Context) (w : Word) → Apart w → (n : ℕ) (front : List Lexeme) (t : Lexeme) → starts_statement t ≡ true → Below c n front → passes (is_word w) (first front (Some t)) ≡ false
below_word le c w a _ _ t e here = start_word le c w a t e
below_word le c w a _ _ t e (in_branch {t = s} h p x k b) = is_word-other w word.If s h ∙ a.0
below_word le c w a _ _ t e (in_else {t = s} h p x k q l b) = is_word-other w word.If s h ∙ a.0
below_word le c w a _ _ t e (in_block {t = s} h l ss b) = is_word-other w word.Begin s h ∙ a.2
below_word le c w a _ _ t e (in_case {t = s} h p x k is l b) = is_word-other w word.Case s h ∙ a.1

front_other : (w : Word) (front : List Lexeme) (t : Lexeme) → passes (is_word w) (first front (Some t)) ≡ false → passes (is_other w) (first front (Some t)) ≡ true
front_other w [] t e = ap not e
front_other w (o ∷ os) t e = ap not e

-- nor do statements before it begin with one
body_word : Laws expression_form → (c : Context) (w : Word) → Apart w → (n : ℕ) (us : List Lexeme) (xs : List Statement) (front : List Lexeme) (t : Lexeme) → starts_statement t ≡ true → AreStatements c us xs → Below c n front
    → passes (is_word w) (first (us ++ front) (Some t)) ≡ false
body_word le c w a n _ _ front t e no_statement b = below_word le c w a n front t e b
body_word le c w a n _ _ front t e (one_statement {ts = ts} {us = us} {a = x} {open_ended = o} s ss) b =
    ap (λ v. passes (is_word w) (first v (Some t))) (append_assoc ts us front) ∙ without_next w ts (us ++ front) (Some t) (statement_word c w a o ts x s)

module _ (le : Laws expression_form) (c : Context) (size : ℕ) (read : ReadBefore) (known : Expressions) (f : Form Statement) (into : (m : Sight) (ts : List Lexeme) (x : Statement) (b : Option Lexeme) → StatementPhrase c m ts x b → f.phrase m ts x b)
    (n : ℕ) (t : Lexeme) (e : starts_statement t ≡ true) (below : (front : List Lexeme) → Below c n front → f.deep front t) where
  -- the statements of a block before it
  body_below : (us : List Lexeme) (xs : List Statement) (front : List Lexeme) → AreStatements c us xs → Below c n front → RepeatedDeep (is_other word.End) f.phrase f.deep (us ++ front) t
  body_below _ _ front no_statement b = in_next (front_other word.End front t (below_word le c word.End (refl, refl, refl, refl, refl) n front t e b)) (below front b)
  body_below _ _ front (one_statement {ts = ts} {us = us} {a = x} {xs = xs} {open_ended = o} s ss) b =
      subst (λ v. RepeatedDeep (is_other word.End) f.phrase f.deep v t) (sym (append_assoc ts us front))
      (in_later (without_other word.End ts None (statement_word c word.End (refl, refl, refl, refl, refl) o ts x s))
      (open_into c size read known f into Before o ts x (first (us ++ front) (Some t)) (body_word le c word.Else (refl, refl, refl, refl, refl) n us xs front t e ss b) s) (body_below us xs front ss b))

  -- what stands before the statement of an item
  label_below : (vs front : List Lexeme) → IsItemLabel vs → Below c n front → (item_form f).deep (vs ++ front) t
  unfolding item_form
  label_below _ front (by_values {colon = colon} {ts = []} {xs = xs} d k) b = absurd (exprs_some known [] xs d refl)
  label_below _ front (by_values {colon = colon} {ts = s ∷ ts} {xs = xs} d k) b =
      subst (λ v. (item_form f).deep v t) (sym (append_assoc (s ∷ ts) (colon ∷ []) front))
      (in_other (exprs_word known word.Default refl s ts xs d) (in_second (are_exprs read Before (s ∷ ts) xs word.Colon colon k refl (is_word-other word.Comma word.Colon colon k) d) (in_second (a_word k) (below front b))))
  label_below _ front (by_default {t = s} {ts = ts} h k) b =
      in_led h (in_second (colon_into c size read known f into Before ts (first front (Some t)) (below_word le c word.Colon (refl, refl, refl, refl, refl) n front t e b) k).1 (below front b))

  -- a label begins with no other reserved word
  label_word : (w : Word) → is_symbol w ≡ false → are_same w word.Default ≡ false → (vs front : List Lexeme) → IsItemLabel vs → passes (is_word w) (first (vs ++ front) (Some t)) ≡ false
  label_word w r a _ front (by_values {ts = []} {xs = xs} d k) = absurd (exprs_some known [] xs d refl)
  label_word w r a _ front (by_values {ts = s ∷ ts} {xs = xs} d k) = exprs_word known w r s ts xs d
  label_word w r a _ front (by_default {t = s} h k) = is_word-other w word.Default s h ∙ a

  items_word_below : (w : Word) → is_symbol w ≡ false → are_same w word.Default ≡ false → (us : List Lexeme) (xs : List CaseItem) (vs front : List Lexeme) → AreItems c us xs → IsItemLabel vs
      → passes (is_word w) (first (us ++ (vs ++ front)) (Some t)) ≡ false
  items_word_below w r a _ _ vs front no_item l = label_word w r a vs front l
  items_word_below w r a _ _ vs front (one_item {ts = ts} {us = us} {a = x} i is) l =
      ap (λ v. passes (is_word w) (first v (Some t))) (append_assoc ts us (vs ++ front)) ∙ without_next w ts (us ++ (vs ++ front)) (Some t) (item_word known c w r a ts x i)

  items_below : (us : List Lexeme) (xs : List CaseItem) (vs front : List Lexeme) → AreItems c us xs → IsItemLabel vs → Below c n front → RepeatedDeep (is_other word.Endcase) (item_form f).phrase (item_form f).deep (us ++ (vs ++ front)) t
  items_below _ _ vs front no_item l b = in_next (front_other word.Endcase (vs ++ front) t (label_word word.Endcase refl refl vs front l)) (label_below vs front l b)
  items_below _ _ vs front (one_item {ts = ts} {us = us} {a = x} {xs = xs} i is) l b =
      subst (λ v. RepeatedDeep (is_other word.Endcase) (item_form f).phrase (item_form f).deep v t) (sym (append_assoc ts us (vs ++ front)))
      (in_later (without_other word.Endcase ts None (item_word known c word.Endcase refl refl ts x i))
      (item_into c size read known f into Before ts x (first (us ++ (vs ++ front)) (Some t)) (items_word_below word.Else refl refl us xs vs front is l) i) (items_below us xs vs front is l b))

  several_below : (us : List Lexeme) (xs : List CaseItem) (vs front : List Lexeme) → AreItems c us xs → IsItemLabel vs → Below c n front → (several (is_other word.Endcase) (item_form f)).deep (us ++ (vs ++ front)) t
  several_below _ _ vs front no_item l b = in_first (label_below vs front l b)
  several_below _ _ vs front (one_item {ts = ts} {us = us} {a = x} {xs = xs} i is) l b =
      subst (λ v. (several (is_other word.Endcase) (item_form f)).deep v t) (sym (append_assoc ts us (vs ++ front)))
      (in_second (item_into c size read known f into Before ts x (first (us ++ (vs ++ front)) (Some t)) (items_word_below word.Else refl refl us xs vs front is l) i) (items_below us xs vs front is l b))

  around_below : (front : List Lexeme) → Below c (suc n) front → (around c size f).deep front t
  around_below _ (in_branch {closer = closer} {ts = ts} {test = test} h p d k b) =
      in_led h (in_second (a_word p) (in_second (read Before ts test word.CloseParen closer d k refl) (in_second (a_word k) (in_first (below _ b)))))
  around_below _ (in_else {closer = closer} {other = other} {ts = ts} {us = us} {test = test} {a = x} h p d k s l b) =
      in_led h (in_second (a_word p) (in_second (read Before ts test word.CloseParen closer d k refl) (in_second (a_word k)
      (in_second (into Before us x (Some other) (record { open_ended = false; is = s; closed = λ z q. cc })) (in_led l (below _ b))))))
  around_below _ (in_block {t = s} {ts = ls} {us = us} {front = front} {name = name} {before = xs} h l ss b) =
      in_other (is_word-other word.If word.Begin s h) (in_other (is_word-other word.Case word.Begin s h)
      (in_led h (in_second (label_into Before ls name (first (us ++ front) (Some t)) (body_word le c word.Colon (refl, refl, refl, refl, refl) n us xs front t e ss b) l) (in_first (body_below us xs front ss b)))))
  around_below _ (in_case {t = s} {closer = closer} {ts = ts} {us = us} {vs = vs} {front = front} {value = value} {before = xs} h p d k is l b) =
      in_other (is_word-other word.If word.Case s h)
      (in_led h (in_second (a_word p) (in_second (read Before ts value word.CloseParen closer d k refl) (in_second (a_word k) (in_first (several_below us xs vs front is l b))))))

pub below_deep : Laws expression_form → ReadBefore → Expressions → (c : Context) (size n : ℕ) (front : List Lexeme) (t : Lexeme) → starts_statement t ≡ true → Below c n front → (statement_form c size n).deep front t
unfolding statement_form
below_deep le read known c size zero _ t e here = (refl, e)
below_deep le read known c size (suc n) front t e b =
    around_below le c size read known (statement_form c size n) (is_statement le read known c size n) n t e (λ us d. below_deep le read known c size n us t e d) front b
