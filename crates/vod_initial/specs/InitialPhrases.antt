-- The statements of an `initial` are phrases of the form.
use Rattle.std.proofs.Common.{◌≡◌, ℕ, zero, suc, Bool, false, not, List, [], ◌∷◌, ◌++◌, Option, None, Some, refl, ◌∙◌, ap}
use Rattle.vod_tree.specs.declared.expr.Expr.{Expr}
use Rattle.vod_tree.specs.declared.ident.Ident.{Ident}
use Rattle.vod_tree.specs.declared.ident.Number.{Number}
use Rattle.vod_tree.specs.declared.statement.InitialStatement.{InitialStatement}
use Rattle.vod_expr.specs.Grammar.{Lexeme}
use Rattle.vod_grammar.specs.Form.{Form, Sight, a_word, a_name, a_number, nothing, in_turn, changed, put, led, unled}
use Rattle.vod_grammar.specs.FrontLaws.{first-append}
use Rattle.vod_grammar.specs.ListLaws.{ReadBefore, Many, none, more, of_many}
use Rattle.vod_grammar.specs.Read.{first, passes}
use Rattle.vod_grammar.specs.WordLaws.{is_word-is, is_word-other, is_word-name}
use Rattle.vod_grammar.specs.Words.{is_word, is_other, are_same}
use Rattle.vod_grammar.specs.declared.word.Word.{Word}
use Rattle.vod_grammar.specs.declared.word.Word.TheVariants as word
use Rattle.vod_statement.specs.FirstTokens.{Without, without_next, without_other}
use Rattle.vod_statement.specs.LabelLaws.{label_into}
use Rattle.vod_initial.specs.Initial.{IsValue, IsStart, IsComparison, IsTest, IsStep, IsInitial, AreInitials, a_value, a_start, less, less_equal, a_test, a_step, assigned, indexed, loop, block, no_initial, one_initial}
use Rattle.vod_initial.specs.InitialForm.{value_form, start_form, comparison_form, test_form, step_form, around, initial_form}

-- with which words no value and no statement begins
value_word : (w : Word) → are_same w word.Equals ≡ false → (ts : List Lexeme) (x : Expr) (b : Option Lexeme) → IsValue ts x → passes (is_word w) (first ts b) ≡ false
value_word w n _ _ b (a_value {equals = equals} e d k) = is_word-other w word.Equals equals e ∙ n

abbrev pub Apart : Word → Type 0
Apart w = (are_same w word.For ≡ false) × (are_same w word.Begin ≡ false)

without_name : (w : Word) (t : Lexeme) (ts : List Lexeme) → is_word w t ≡ false → Without w (t ∷ ts)
without_name w t ts e = record { token = t; rest = ts; split = refl; is = e }

pub initial_word : (w : Word) → Apart w → (ts : List Lexeme) (x : InitialStatement) → IsInitial ts x → Without w ts
initial_word w a _ _ (assigned {t = t} h v) = without_name w t _ (is_word-name w t h)
initial_word w a _ _ (indexed {t = t} h o d c v) = without_name w t _ (is_word-name w t h)
initial_word w a _ _ (loop {t = t} h o s e p c i) = without_name w t _ (is_word-other w word.For t h ∙ a.0)
initial_word w a _ _ (block {t = t} h l is e) = without_name w t _ (is_word-other w word.Begin t h ∙ a.1)

initials_word : (w : Word) → Apart w → (ts : List Lexeme) (xs : List InitialStatement) (b : Option Lexeme) → passes (is_word w) b ≡ false → AreInitials ts xs → passes (is_word w) (first ts b) ≡ false
initials_word w a _ _ b n no_initial = n
initials_word w a _ _ b n (one_initial {ts = ts} {us = us} {a = x} i is) = without_next w ts us b (initial_word w a ts x i)

module _ (read : ReadBefore) where
  is_value : (m : Sight) (ts : List Lexeme) (x : Expr) (b : Option Lexeme) → IsValue ts x → value_form.phrase m ts x b
  is_value m _ _ b (a_value {semicolon = semicolon} {ts = ts} {a = a} e d k) = in_turn (a_word e) (in_turn (read m ts a word.Semicolon semicolon d k refl) (changed (a_word k)))

  pub is_start : (m : Sight) (ts : List Lexeme) (x : Ident × Expr) (b : Option Lexeme) → IsStart ts x → start_form.phrase m ts x b
  is_start m _ _ b (a_start {ts = ts} {a = a} h v) = in_turn (a_name h) (changed (is_value m ts a b v))

  is_comparison : (m : Sight) (t : Lexeme) (v : Bool) (b : Option Lexeme) → IsComparison t v → comparison_form.phrase m (t ∷ []) v b
  is_comparison m t _ b (less h) = unled (λ e. is_word-other word.LessEqual word.Less t h) (changed (a_word h))
  is_comparison m t _ b (less_equal h) = led h nothing

  pub is_test : (m : Sight) (ts : List Lexeme) (x : Ident × Bool × Expr) (b : Option Lexeme) → IsTest ts x → test_form.phrase m ts x b
  is_test m _ _ b (a_test {comparison = comparison} {semicolon = semicolon} {ts = ts} {inclusive = inclusive} {a = a} h c d k) =
      in_turn (a_name h) (in_turn (is_comparison m comparison inclusive (first (ts ++ semicolon ∷ []) b) c) (in_turn (read m ts a word.Semicolon semicolon d k refl) (changed (a_word k))))

  pub is_step : (m : Sight) (ts : List Lexeme) (x : Ident × Ident × Number) (b : Option Lexeme) → IsStep ts x → step_form.phrase m ts x b
  is_step m _ _ b (a_step h e i p k) = in_turn (a_name h) (in_turn (a_word e) (in_turn (a_name i) (in_turn (a_word p) (changed (a_number k)))))

  module _ (f : Form InitialStatement) (into : (m : Sight) (ts : List Lexeme) (x : InitialStatement) (b : Option Lexeme) → IsInitial ts x → f.phrase m ts x b) where
    -- statements before `end`
    body_into : (m : Sight) (ts : List Lexeme) (xs : List InitialStatement) (b : Option Lexeme) → passes (is_other word.End) b ≡ false → AreInitials ts xs → Many (is_other word.End) f.phrase m ts xs b
    body_into m _ _ b e no_initial = none (λ k. e)
    body_into m _ _ b e (one_initial {ts = ts} {us = us} {a = x} {xs = xs} i is) =
        more (λ k. without_other word.End ts None (initial_word word.End (refl, refl) ts x i)) (into m ts x (first us b) i) (body_into m us xs b e is)

    around_into : (m : Sight) (ts : List Lexeme) (x : InitialStatement) (b : Option Lexeme) → IsInitial ts x → (around f).phrase m ts x b
    around_into m _ _ b (assigned {t = t} {ts = ts} {a = a} h v) =
        put (unled (λ e. is_word-name word.For t h) (unled (λ e. is_word-name word.Begin t h)
        (in_turn (a_name h) (unled (λ e. value_word word.OpenBracket refl ts a b v) (changed (is_value m ts a b v))))))
    around_into m _ _ b (indexed {t = t} {closer = closer} {ts = ts} {us = us} {index = index} {a = a} h o d c v) =
        put (unled (λ e. is_word-name word.For t h) (unled (λ e. is_word-name word.Begin t h)
        (in_turn (a_name h) (led o (in_turn (read m ts index word.CloseBracket closer d c refl) (in_turn (a_word c) (changed (is_value m us a b v))))))))
    around_into m _ _ b (loop {t = t} {closer = closer} {ts = ts} {us = us} {vs = vs} {ws = ws} {start = start} {test = test} {step = step} {body = body} h o s e p c i) =
        put (led h (in_turn (a_word o) (in_turn (is_start m ts start (first (us ++ (vs ++ closer ∷ ws)) b) s) (in_turn (is_test m us test (first (vs ++ closer ∷ ws) b) e)
        (in_turn (is_step m vs step (Some closer) p) (in_turn (a_word c) (changed (into m ws body b i))))))))
    around_into m _ _ b (block {t = t} {last = last} {ts = ts} {us = us} {name = name} {body = body} h l is e) =
        let colon : passes (is_word word.Colon) (first us (Some last)) ≡ false = initials_word word.Colon (refl, refl) us body (Some last) (is_word-other word.Colon word.End last e) is in
        put (unled (λ z. is_word-other word.For word.Begin t h) (led h
        (in_turn (label_into m ts name (first (us ++ last ∷ []) b) (ap (passes (is_word word.Colon)) (first-append us (last ∷ []) b) ∙ colon) l)
        (in_turn (of_many (is_other word.End) f m us body (Some last) (body_into m us body (Some last) (ap not (is_word-is word.End last e)) is)) (changed (a_word e))))))

  pub is_initial : (n : ℕ) (m : Sight) (ts : List Lexeme) (x : InitialStatement) (b : Option Lexeme) → IsInitial ts x → (initial_form n).phrase m ts x b
  unfolding initial_form
  is_initial zero m ts x b i = i
  is_initial (suc n) m ts x b i = around_into (initial_form n) (is_initial n) m ts x b i
