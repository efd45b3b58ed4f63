-- Where a statement of an `initial` is nested too deep: as many levels below the one that is read as its form has.
use Rattle.std.proofs.Common.{◌≡◌, ℕ, zero, suc, Bool, true, List, ◌∷◌, ◌++◌, Option, Some, sym, subst, append_assoc}
use Rattle.vod_tree.specs.declared.expr.Expr.{Expr}
use Rattle.vod_tree.specs.declared.ident.Ident.{Ident}
use Rattle.vod_tree.specs.declared.ident.Number.{Number}
use Rattle.vod_tree.specs.declared.statement.InitialStatement.{InitialStatement}
use Rattle.vod_expr.specs.Grammar.{Lexeme}
use Rattle.vod_grammar.specs.Form.{Form, Sight, Before, RepeatedDeep, in_first, in_second, in_led, in_other, in_next, in_later, a_word}
use Rattle.vod_grammar.specs.Read.{first}
use Rattle.vod_grammar.specs.Words.{Is, is_other}
use Rattle.vod_grammar.specs.declared.word.Word.TheVariants as word
use Rattle.vod_statement.specs.Label.{IsLabel}
use Rattle.vod_statement.specs.LabelLaws.{label_is}
use Rattle.vod_initial.specs.Depth.{Below, here, in_loop, in_block}
use Rattle.vod_initial.specs.Initial.{IsStart, IsTest, IsStep, IsInitial, AreInitials, no_initial, one_initial}
use Rattle.vod_initial.specs.InitialForm.{value_form, assigned, start_form, comparison_form, test_form, step_form, body_form, for_form, around, starts_initial, initial_form}
use Rattle.vod_initial.specs.InitialLaws.{start_is, test_is, step_is, initial_is}

-- the token begins a statement so many levels below
abbrev pub IsDeep : ℕ → List Lexeme → Lexeme → Type 0
IsDeep n front t = Below n front × (starts_initial t ≡ true)

-- no value and no part of the head of a `for` is nested too deep
value_never : (front : List Lexeme) (t : Lexeme) → value_form.deep front t → ⊥
value_never front t (in_first d) = d
value_never _ t (in_second p (in_first d)) = d
value_never _ t (in_second p (in_second q d)) = d

start_never : (front : List Lexeme) (t : Lexeme) → start_form.deep front t → ⊥
start_never front t (in_first d) = d
start_never _ t (in_second {front = front} p d) = value_never front t d

comparison_never : (front : List Lexeme) (t : Lexeme) → comparison_form.deep front t → ⊥
comparison_never _ t (in_led h d) = d
comparison_never front t (in_other e d) = d

test_never : (front : List Lexeme) (t : Lexeme) → test_form.deep front t → ⊥
test_never front t (in_first d) = d
test_never _ t (in_second p (in_first {front = front} d)) = comparison_never front t d
test_never _ t (in_second p (in_second q (in_first d))) = d
test_never _ t (in_second p (in_second q (in_second r d))) = d

step_never : (front : List Lexeme) (t : Lexeme) → step_form.deep front t → ⊥
step_never front t (in_first d) = d
step_never _ t (in_second p (in_first d)) = d
step_never _ t (in_second p (in_second q (in_first d))) = d
step_never _ t (in_second p (in_second q (in_second r (in_first d)))) = d
step_never _ t (in_second p (in_second q (in_second r (in_second s d)))) = d

assigned_never : (front : List Lexeme) (t : Lexeme) → assigned.deep front t → ⊥
assigned_never front t (in_first d) = d
assigned_never _ t (in_second p (in_led h (in_first d))) = d
assigned_never _ t (in_second p (in_led h (in_second q (in_first d)))) = d
assigned_never _ t (in_second p (in_led h (in_second q (in_second {front = front} r d)))) = value_never front t d
assigned_never _ t (in_second {front = front} p (in_other e d)) = value_never front t d

-- a statement too deep in the statements of a block
data InBody (n : ℕ) : List Lexeme → Lexeme → Type 0 where
  in_body : {us front : List Lexeme} {t : Lexeme} {before : List InitialStatement} → AreInitials us before → IsDeep n front t → InBody n (us ++ front) t

module _ (f : Form InitialStatement) (is : (m : Sight) (ts : List Lexeme) (x : InitialStatement) (b : Option Lexeme) → f.phrase m ts x b → IsInitial ts x) (n : ℕ) (deep : (front : List Lexeme) (t : Lexeme) → f.deep front t → IsDeep n front t) where
  body_deep : (front : List Lexeme) (t : Lexeme) → RepeatedDeep (is_other word.End) f.phrase f.deep front t → InBody n front t
  body_deep front t (in_next e d) = in_body no_initial (deep front t d)
  body_deep _ t (in_later {us = us} {front = front} {x = x} e p d) = by front (body_deep front t d)
    where
      by : (rest : List Lexeme) → InBody n rest t → InBody n (us ++ rest) t
      by _ (in_body {us = vs} {front = more} is_all q) = subst (λ v. InBody n v t) (append_assoc us vs more) (in_body (one_initial (is Before us x (first front (Some t)) p) is_all) q)

  block_deep : (s : Lexeme) (ls front : List Lexeme) (t : Lexeme) (name : Option Ident) → Is word.Begin s → IsLabel ls name → InBody n front t → IsDeep (suc n) (s ∷ (ls ++ front)) t
  block_deep s ls _ t name h l (in_body is_all d) = (in_block h l is_all d.0, d.1)

  loop_deep : (s opener : Lexeme) (ts us vs : List Lexeme) (start : Ident × Expr) (test : Ident × Bool × Expr) (step : Ident × Ident × Number) → Is word.For s → Is word.OpenParen opener → IsStart ts start → IsTest us test → IsStep vs step
      → (front : List Lexeme) (t : Lexeme) → (body_form start test step f).deep front t → IsDeep (suc n) (s ∷ opener ∷ (ts ++ (us ++ (vs ++ front)))) t
  loop_deep s opener ts us vs start test step h o st te sp front t (in_first d) = absurd d
  loop_deep s opener ts us vs start test step h o st te sp _ t (in_second {front = front} (a_word c) d) = let k = deep front t d in (in_loop h o st te sp c k.0, k.1)

  for_deep : (s : Lexeme) → Is word.For s → (front : List Lexeme) (t : Lexeme) → (for_form f).deep front t → IsDeep (suc n) (s ∷ front) t
  for_deep s h front t (in_first d) = absurd d
  for_deep s h _ t (in_second p (in_first {front = front} d)) = absurd (start_never front t d)
  for_deep s h _ t (in_second p (in_second q (in_first {front = front} d))) = absurd (test_never front t d)
  for_deep s h _ t (in_second p (in_second q (in_second r (in_first {front = front} d)))) = absurd (step_never front t d)
  for_deep s h _ t (in_second (a_word {t = opener} o) (in_second {us = ts} {front = ps} {x = start} p (in_second {us = us} {front = qs} {x = test} q (in_second {us = vs} {front = front} {x = step} r d)))) =
      loop_deep s opener ts us vs start test step h o (start_is Before ts start (first ps (Some t)) p) (test_is Before us test (first qs (Some t)) q) (step_is Before vs step (first front (Some t)) r) front t d

  around_deep : (front : List Lexeme) (t : Lexeme) → (around f).deep front t → IsDeep (suc n) front t
  around_deep _ t (in_led {t = s} {front = front} h d) = for_deep s h front t d
  around_deep _ t (in_other m (in_led h (in_first (in_led k d)))) = absurd d
  around_deep _ t (in_other m (in_led h (in_first (in_other k d)))) = absurd d
  around_deep _ t (in_other m (in_led {t = s} h (in_second {us = ls} {x = name} p (in_first {front = front} d)))) = block_deep s ls front t name h (label_is Before ls name (first front (Some t)) p) (body_deep front t d)
  around_deep _ t (in_other m (in_led h (in_second p (in_second q d)))) = absurd d
  around_deep front t (in_other m (in_other i d)) = absurd (assigned_never front t d)

pub deep_is : (n : ℕ) (front : List Lexeme) (t : Lexeme) → (initial_form n).deep front t → IsDeep n front t
unfolding initial_form
deep_is zero front t d = (subst (λ v. Below zero v) (sym d.0) here, d.1)
deep_is (suc n) front t d = around_deep (initial_form n) (initial_is n) n (deep_is n) front t d
