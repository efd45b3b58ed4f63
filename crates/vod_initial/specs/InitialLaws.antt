-- Phrases of the form are statements of an `initial`.
use Rattle.std.proofs.Common.{ℕ, zero, suc, Bool, true, false, List, ◌∷◌, ◌++◌, Option}
use Rattle.vod_tree.specs.declared.expr.Expr.{Expr}
use Rattle.vod_tree.specs.declared.ident.Ident.{Ident}
use Rattle.vod_tree.specs.declared.ident.Number.{Number}
use Rattle.vod_tree.specs.declared.statement.InitialKind.{InitialKind}
use Rattle.vod_tree.specs.declared.statement.InitialKind.TheVariants as kind
use Rattle.vod_tree.specs.declared.statement.InitialStatement.{InitialStatement}
use Rattle.vod_expr.specs.Grammar.{Lexeme, IsName, IsExpr, ident_of}
use Rattle.vod_grammar.specs.Form.{Form, Sight, an_expression, a_word, a_name, a_number, nothing, in_turn, changed, put, led, unled, word_form, number_form, mapped}
use Rattle.vod_grammar.specs.ListLaws.{Many, none, more, many_of}
use Rattle.vod_grammar.specs.Read.{first, place_of}
use Rattle.vod_grammar.specs.Words.{Is, is_other}
use Rattle.vod_grammar.specs.declared.word.Word.TheVariants as word
use Rattle.vod_statement.specs.Label.{IsLabel}
use Rattle.vod_statement.specs.LabelLaws.{label_is}
use Rattle.vod_initial.specs.Initial.{IsValue, IsStart, IsComparison, IsTest, IsStep, IsInitial, AreInitials, a_value, a_start, less, less_equal, a_test, a_step, assigned, indexed, loop, block, no_initial, one_initial, initial, for_loop}
use Rattle.vod_initial.specs.InitialForm.{value_form, target, start_form, test_form, step_form, body_form, for_form, block_form, alternatives, around, initial_form}

value_end : (equals : Lexeme) (ts : List Lexeme) (a : Expr) → Is word.Equals equals → IsExpr 0 ts a → (m : Sight) (vs : List Lexeme) (x : Expr) (b : Option Lexeme) → (mapped (λ _. a) (word_form word.Semicolon)).phrase m vs x b
    → IsValue (equals ∷ (ts ++ vs)) x
value_end equals ts a e d m _ _ b (changed (a_word k)) = a_value e d k

pub value_is : (m : Sight) (ts : List Lexeme) (x : Expr) (b : Option Lexeme) → value_form.phrase m ts x b → IsValue ts x
value_is m _ x b (in_turn (a_word {t = equals} e) (in_turn {us = ts} {vs = vs} {x = a} (an_expression d r) q)) = value_end equals ts a e d m vs x b q

start_end : (t : Lexeme) → IsName t → (m : Sight) (ts : List Lexeme) (x : Ident × Expr) (b : Option Lexeme) → (mapped {B = Ident × Expr} (λ a. (ident_of t, a)) value_form).phrase m ts x b → IsStart (t ∷ ts) x
start_end t h m ts _ b (changed {x = a} p) = a_start h (value_is m ts a b p)

pub start_is : (m : Sight) (ts : List Lexeme) (x : Ident × Expr) (b : Option Lexeme) → start_form.phrase m ts x b → IsStart ts x
start_is m _ x b (in_turn {vs = ts} (a_name {t = t} h) q) = start_end t h m ts x b q

test_end : (t comparison : Lexeme) (inclusive : Bool) (ts : List Lexeme) (a : Expr) → IsName t → IsComparison comparison inclusive → IsExpr 0 ts a → (m : Sight) (vs : List Lexeme) (x : Ident × Bool × Expr) (b : Option Lexeme)
    → (mapped {B = Ident × Bool × Expr} (λ _. (ident_of t, inclusive, a)) (word_form word.Semicolon)).phrase m vs x b → IsTest (t ∷ comparison ∷ (ts ++ vs)) x
test_end t comparison inclusive ts a h c d m _ _ b (changed (a_word k)) = a_test h c d k

pub test_is : (m : Sight) (ts : List Lexeme) (x : Ident × Bool × Expr) (b : Option Lexeme) → test_form.phrase m ts x b → IsTest ts x
test_is m _ x b (in_turn (a_name {t = t} h) (in_turn (led {t = comparison} c nothing) (in_turn {us = ts} {vs = vs} {x = a} (an_expression d r) q))) =
    test_end t comparison true ts a h (less_equal c) d m vs x b q
test_is m _ x b (in_turn (a_name {t = t} h) (in_turn (unled n (changed (a_word {t = comparison} c))) (in_turn {us = ts} {vs = vs} {x = a} (an_expression d r) q))) =
    test_end t comparison false ts a h (less c) d m vs x b q

step_end : (t equals from plus : Lexeme) → IsName t → Is word.Equals equals → IsName from → Is word.Plus plus → (m : Sight) (ts : List Lexeme) (x : Ident × Ident × Number) (b : Option Lexeme)
    → (mapped {B = Ident × Ident × Number} (λ n. (ident_of t, ident_of from, n)) number_form).phrase m ts x b → IsStep (t ∷ equals ∷ from ∷ plus ∷ ts) x
step_end t equals from plus h e i p m _ _ b (changed (a_number k)) = a_step h e i p k

pub step_is : (m : Sight) (ts : List Lexeme) (x : Ident × Ident × Number) (b : Option Lexeme) → step_form.phrase m ts x b → IsStep ts x
step_is m _ x b (in_turn (a_name {t = t} h) (in_turn (a_word {t = equals} e) (in_turn (a_name {t = from} i) (in_turn {vs = ts} (a_word {t = plus} p) q)))) =
    step_end t equals from plus h e i p m ts x b q

indexed_is : (t opener closer : Lexeme) (ts : List Lexeme) (index : Expr) → IsName t → Is word.OpenBracket opener → IsExpr 0 ts index → Is word.CloseBracket closer → (m : Sight) (us : List Lexeme) (k : InitialKind) (b : Option Lexeme)
    → (mapped (λ a. kind.AssignIndex (ident_of t) index a) value_form).phrase m us k b → IsInitial (t ∷ opener ∷ (ts ++ closer ∷ us)) (initial t.place k)
indexed_is t opener closer ts index h o d c m us _ b (changed {x = a} p) = indexed h o d c (value_is m us a b p)

target_is : (t : Lexeme) → IsName t → (m : Sight) (us : List Lexeme) (k : InitialKind) (b : Option Lexeme) → (target (ident_of t)).phrase m us k b → IsInitial (t ∷ us) (initial t.place k)
target_is t h m _ k b (led {t = opener} o (in_turn {us = ts} {x = index} (an_expression d r) (in_turn {vs = us} (a_word {t = closer} c) q))) = indexed_is t opener closer ts index h o d c m us k b q
target_is t h m us _ b (unled n (changed {x = a} p)) = assigned h (value_is m us a b p)

module _ (f : Form InitialStatement) (is : (m : Sight) (ts : List Lexeme) (x : InitialStatement) (b : Option Lexeme) → f.phrase m ts x b → IsInitial ts x) where
  many_are : (m : Sight) (ts : List Lexeme) (xs : List InitialStatement) (b : Option Lexeme) → Many (is_other word.End) f.phrase m ts xs b → AreInitials ts xs
  many_are m _ _ b (none stop) = no_initial
  many_are m _ _ b (more {us = us} {vs = vs} {x = x} {xs = xs} go p q) = one_initial (is m us x (first vs b) p) (many_are m vs xs b q)

  body_is : (t opener closer : Lexeme) (ts us vs : List Lexeme) (start : Ident × Expr) (test : Ident × Bool × Expr) (step : Ident × Ident × Number)
      → Is word.For t → Is word.OpenParen opener → IsStart ts start → IsTest us test → IsStep vs step → Is word.CloseParen closer → (m : Sight) (ws : List Lexeme) (k : InitialKind) (b : Option Lexeme)
      → (mapped (λ body. kind.For (for_loop start test step body)) f).phrase m ws k b → IsInitial (t ∷ opener ∷ (ts ++ (us ++ (vs ++ closer ∷ ws)))) (initial t.place k)
  body_is t opener closer ts us vs start test step h o s e p c m ws _ b (changed {x = body} q) = loop h o s e p c (is m ws body b q)

  steps_is : (t opener : Lexeme) (ts us : List Lexeme) (start : Ident × Expr) (test : Ident × Bool × Expr) → Is word.For t → Is word.OpenParen opener → IsStart ts start → IsTest us test
      → (m : Sight) (rest : List Lexeme) (step : Ident × Ident × Number) (vs : List Lexeme) → IsStep vs step → (k : InitialKind) (b : Option Lexeme) → (body_form start test step f).phrase m rest k b
      → IsInitial (t ∷ opener ∷ (ts ++ (us ++ (vs ++ rest)))) (initial t.place k)
  steps_is t opener ts us start test h o s e m _ step vs p k b (in_turn {vs = ws} (a_word {t = closer} c) q) = body_is t opener closer ts us vs start test step h o s e p c m ws k b q

  for_is : (m : Sight) (t : Lexeme) → Is word.For t → (ts : List Lexeme) (k : InitialKind) (b : Option Lexeme) → (for_form f).phrase m ts k b → IsInitial (t ∷ ts) (initial t.place k)
  for_is m t h _ k b (in_turn (a_word {t = opener} o) (in_turn {us = ts} {vs = ps} {x = start} s (in_turn {us = us} {vs = qs} {x = test} e (in_turn {us = vs} {vs = rest} {x = step} p q)))) =
      steps_is t opener ts us start test h o (start_is m ts start (first ps b) s) (test_is m us test (first qs b) e) m rest step vs (step_is m vs step (first rest b) p) k b q

  end_is : (m : Sight) (t : Lexeme) (ts us : List Lexeme) (name : Option Ident) (body : List InitialStatement) → Is word.Begin t → IsLabel ts name → AreInitials us body → (vs : List Lexeme) (k : InitialKind) (b : Option Lexeme)
      → (mapped (λ _. kind.Block name body) (word_form word.End)).phrase m vs k b → IsInitial (t ∷ (ts ++ (us ++ vs))) (initial t.place k)
  end_is m t ts us name body h l ss _ _ b (changed (a_word e)) = block h l ss e

  block_is : (m : Sight) (t : Lexeme) → Is word.Begin t → (ts : List Lexeme) (k : InitialKind) (b : Option Lexeme) → (block_form f).phrase m ts k b → IsInitial (t ∷ ts) (initial t.place k)
  block_is m t h _ k b (in_turn {us = ts} {vs = ws} {x = name} p (in_turn {us = us} {vs = vs} {x = body} q l)) =
      end_is m t ts us name body h (label_is m ts name (first ws b) p) (many_are m us body (first vs b) (many_of (is_other word.End) f m us body (first vs b) q)) vs k b l

  alternatives_are : (m : Sight) (ts : List Lexeme) (k : InitialKind) (b : Option Lexeme) → (alternatives f).phrase m ts k b → IsInitial ts (initial (place_of ts) k)
  alternatives_are m _ k b (led {t = t} {ts = ts} h p) = for_is m t h ts k b p
  alternatives_are m _ k b (unled n (led {t = t} {ts = ts} h p)) = block_is m t h ts k b p
  alternatives_are m _ k b (unled n (unled i (in_turn {vs = us} (a_name {t = t} h) q))) = target_is t h m us k b q

  around_is : (m : Sight) (ts : List Lexeme) (x : InitialStatement) (b : Option Lexeme) → (around f).phrase m ts x b → IsInitial ts x
  around_is m ts _ b (put {x = k} p) = alternatives_are m ts k b p

pub initial_is : (n : ℕ) (m : Sight) (ts : List Lexeme) (x : InitialStatement) (b : Option Lexeme) → (initial_form n).phrase m ts x b → IsInitial ts x
unfolding initial_form
initial_is zero m ts x b p = p
initial_is (suc n) m ts x b p = around_is (initial_form n) (initial_is n) m ts x b p
