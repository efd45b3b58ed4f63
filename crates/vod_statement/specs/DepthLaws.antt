-- Where a statement is nested too deep: as many levels below the one that is read as its form has.
use Rattle.std.proofs.Common.{◌≡◌, ◌≤◌, ◌⊎◌, inl, inr, ℕ, zero, suc, true, List, [], ◌∷◌, ◌++◌, length, Option, Some, refl, sym, subst, append_assoc, arith}
use Rattle.std.proofs.lemmas.List.{length-append}
use Rattle.vod_tree.specs.declared.expr.Expr.{Expr}
use Rattle.vod_tree.specs.declared.ident.Ident.{Ident}
use Rattle.vod_tree.specs.declared.statement.CaseItem.{CaseItem}
use Rattle.vod_tree.specs.declared.statement.Statement.{Statement}
use Rattle.vod_expr.specs.Grammar.{Lexeme, IsExpr, AreExprs}
use Rattle.vod_grammar.specs.Form.{Form, Sight, Before, RepeatedDeep, behind, several, in_first, in_second, in_led, in_other, in_next, in_later, an_expression, a_word, nothing, led, unled, separated, expression_form}
use Rattle.vod_grammar.specs.ListLaws.{ReadBefore, exprs_are}
use Rattle.vod_grammar.specs.Laws.{Laws}
use Rattle.vod_grammar.specs.Read.{first}
use Rattle.vod_grammar.specs.Words.{Is, is_word, is_other}
use Rattle.vod_grammar.specs.declared.word.Word.TheVariants as word
use Rattle.vod_statement.specs.Depth.{Below, IsItemLabel, here, in_branch, in_other as in_else, in_block, in_case, by_values, by_default}
use Rattle.vod_statement.specs.FirstTokens.{Expressions, exprs_some}
use Rattle.vod_statement.specs.Label.{IsLabel}
use Rattle.vod_statement.specs.LabelLaws.{label_is}
use Rattle.vod_statement.specs.LeftSideLaws.{lval_deep}
use Rattle.vod_statement.specs.StatementForm.{StatementPhrase, statement_form, around, branches as branches_form, item_form, starts_statement}
use Rattle.vod_statement.specs.StatementFormLaws.{statement_is}
use Rattle.vod_statement.specs.StatementLaws.{ends_closed, item_is}
use Rattle.vod_statement.specs.Statements.{IsStatement, AreStatements, IsItem, AreItems, no_statement, one_statement, no_item, one_item, no_colon, a_colon}
use Rattle.vod_statement.specs.declared.context.Context.{Context}

-- the token begins a statement so many levels below, or as many tokens stand before it as left sides have levels
abbrev pub IsDeep : Context → ℕ → ℕ → List Lexeme → Lexeme → Type 0
IsDeep c size n front t = (Below c n front × (starts_statement t ≡ true)) ⊎ (size ≤ length front)

past : (us front : List Lexeme) → length front ≤ length (us ++ front)
past us front = let e = length-append us front in omega (arith, e)

deeper : (c : Context) (size n : ℕ) (front whole : List Lexeme) (t : Lexeme) → (Below c n front → Below c (suc n) whole) → length front ≤ length whole → IsDeep c size n front t → IsDeep c size (suc n) whole t
deeper c size n front whole t into within (inl b) = inl (into b.0, b.1)
deeper c size n front whole t into within (inr h) = inr (omega (arith, within, h))

-- a list of expressions is nowhere too deep
more_exprs_deep : (front : List Lexeme) (t : Lexeme) → RepeatedDeep (is_word word.Comma) (behind word.Comma expression_form).phrase (behind word.Comma expression_form).deep front t → ⊥
more_exprs_deep front t (in_next e (in_first d)) = d
more_exprs_deep _ t (in_next e (in_second p d)) = d
more_exprs_deep _ t (in_later {front = front} e p d) = more_exprs_deep front t d

no_exprs_deep : (front : List Lexeme) (t : Lexeme) → (separated expression_form).deep front t → ⊥
no_exprs_deep front t (in_first d) = d
no_exprs_deep _ t (in_second {front = front} p d) = more_exprs_deep front t d

-- a statement too deep in an item, in items, and in the statements of a block
data InItem (c : Context) (size n : ℕ) : List Lexeme → Lexeme → Type 0 where
  in_item : {vs front : List Lexeme} {t : Lexeme} → IsItemLabel vs → IsDeep c size n front t → InItem c size n (vs ++ front) t

data InItems (c : Context) (size n : ℕ) : List Lexeme → Lexeme → Type 0 where
  in_items : {us vs front : List Lexeme} {t : Lexeme} {before : List CaseItem} → AreItems c us before → IsItemLabel vs → IsDeep c size n front t → InItems c size n (us ++ (vs ++ front)) t

data InBody (c : Context) (size n : ℕ) : List Lexeme → Lexeme → Type 0 where
  in_body : {us front : List Lexeme} {t : Lexeme} {before : List Statement} → AreStatements c us before → IsDeep c size n front t → InBody c size n (us ++ front) t

module _ (c : Context) (size : ℕ) (some_exprs : (xs : List Expr) → AreExprs [] xs → ⊥) (f : Form Statement) (is : (m : Sight) (ts : List Lexeme) (x : Statement) (b : Option Lexeme) → f.phrase m ts x b → StatementPhrase c m ts x b)
    (n : ℕ) (deep : (front : List Lexeme) (t : Lexeme) → f.deep front t → IsDeep c size n front t) where
  branch_deep : (s opener closer : Lexeme) (ts front : List Lexeme) (t : Lexeme) (test : Expr) → Is word.If s → Is word.OpenParen opener → IsExpr 0 ts test → Is word.CloseParen closer → (branches_form f).deep front t
      → IsDeep c size (suc n) (s ∷ opener ∷ (ts ++ closer ∷ front)) t
  branch_deep s opener closer ts front t test h p e k (in_first d) =
      let a = past ts (closer ∷ front) in
      deeper c size n front (s ∷ opener ∷ (ts ++ closer ∷ front)) t (λ b. in_branch h p e k b) (omega (arith, a)) (deep front t d)
  branch_deep s opener closer ts _ t test h p e k (in_second {us = us} {x = x} r (in_led {t = other} {front = front} l d)) =
      let q = is Before us x (Some other) r in
      let shut = ends_closed q.open_ended other l (q.closed refl) in
      let a = past ts (closer ∷ (us ++ other ∷ front)) in
      let g = past us (other ∷ front) in
      deeper c size n front (s ∷ opener ∷ (ts ++ closer ∷ (us ++ other ∷ front))) t (λ b. in_else h p e k (subst (λ v. IsStatement c v us x) shut q.is) l b) (omega (arith, a, g)) (deep front t d)
  branch_deep s opener closer ts _ t test h p e k (in_second r (in_other l d)) = absurd d

  item_deep : (front : List Lexeme) (t : Lexeme) → (item_form f).deep front t → InItem c size n front t
  unfolding item_form
  item_deep _ t (in_led h (in_first (in_led k d))) = absurd d
  item_deep _ t (in_led h (in_first (in_other k d))) = absurd d
  item_deep _ t (in_led h (in_second {front = front} (led k nothing) d)) = in_item (by_default h (a_colon k)) (deep front t d)
  item_deep _ t (in_led h (in_second {front = front} (unled m nothing) d)) = in_item (by_default h no_colon) (deep front t d)
  item_deep front t (in_other m (in_first d)) = absurd (no_exprs_deep front t d)
  item_deep _ t (in_other m (in_second p (in_first d))) = absurd d
  item_deep _ t (in_other m (in_second {us = us} {x = xs} p (in_second {front = front} (a_word {t = colon} k) d))) =
      subst (λ v. InItem c size n v t) (append_assoc us (colon ∷ []) front) (in_item (by_values (exprs_are Before us xs (Some colon) p) k) (deep front t d))

  next_item : (front : List Lexeme) (t : Lexeme) → InItem c size n front t → InItems c size n front t
  next_item _ t (in_item l d) = in_items no_item l d

  later_item : (us : List Lexeme) (x : CaseItem) → IsItem c us x → (front : List Lexeme) (t : Lexeme) → InItems c size n front t → InItems c size n (us ++ front) t
  later_item us x i _ t (in_items {us = ws} {vs = vs} {front = front} items l d) = subst (λ v. InItems c size n v t) (append_assoc us ws (vs ++ front)) (in_items (one_item i items) l d)

  items_deep : (front : List Lexeme) (t : Lexeme) → RepeatedDeep (is_other word.Endcase) (item_form f).phrase (item_form f).deep front t → InItems c size n front t
  items_deep front t (in_next e d) = next_item front t (item_deep front t d)
  items_deep _ t (in_later {us = us} {front = front} {x = x} e p d) = later_item us x (item_is c size some_exprs f is Before us x (first front (Some t)) p) front t (items_deep front t d)

  several_deep : (front : List Lexeme) (t : Lexeme) → (several (is_other word.Endcase) (item_form f)).deep front t → InItems c size n front t
  several_deep front t (in_first d) = next_item front t (item_deep front t d)
  several_deep _ t (in_second {us = us} {front = front} {x = x} p d) = later_item us x (item_is c size some_exprs f is Before us x (first front (Some t)) p) front t (items_deep front t d)

  case_deep : (s opener closer : Lexeme) (ts front : List Lexeme) (t : Lexeme) (value : Expr) → Is word.Case s → Is word.OpenParen opener → IsExpr 0 ts value → Is word.CloseParen closer → InItems c size n front t
      → IsDeep c size (suc n) (s ∷ opener ∷ (ts ++ closer ∷ front)) t
  case_deep s opener closer ts _ t value h p e k (in_items {us = us} {vs = vs} {front = front} items l d) =
      let a = past ts (closer ∷ (us ++ (vs ++ front))) in
      let g = past us (vs ++ front) in
      let j = past vs front in
      deeper c size n front (s ∷ opener ∷ (ts ++ closer ∷ (us ++ (vs ++ front)))) t (λ b. in_case h p e k items l b) (omega (arith, a, g, j)) d

  body_deep : (front : List Lexeme) (t : Lexeme) → RepeatedDeep (is_other word.End) f.phrase f.deep front t → InBody c size n front t
  body_deep front t (in_next e d) = in_body no_statement (deep front t d)
  body_deep _ t (in_later {us = us} {front = front} {x = x} e p d) = by front (body_deep front t d)
    where
      by : (rest : List Lexeme) → InBody c size n rest t → InBody c size n (us ++ rest) t
      by _ (in_body {us = vs} {front = more} ss q) = subst (λ v. InBody c size n v t) (append_assoc us vs more) (in_body (one_statement (is Before us x (first front (Some t)) p).is ss) q)

  block_deep : (s : Lexeme) (ls front : List Lexeme) (t : Lexeme) (name : Option Ident) → Is word.Begin s → IsLabel ls name → InBody c size n front t → IsDeep c size (suc n) (s ∷ (ls ++ front)) t
  block_deep s ls _ t name h l (in_body {us = us} {front = front} ss d) =
      let a = past ls (us ++ front) in
      let g = past us front in
      deeper c size n front (s ∷ (ls ++ (us ++ front))) t (λ b. in_block h l ss b) (omega (arith, a, g)) d

  around_deep : (front : List Lexeme) (t : Lexeme) → (around c size f).deep front t → IsDeep c size (suc n) front t
  around_deep _ t (in_led h (in_first d)) = absurd d
  around_deep _ t (in_led h (in_second p (in_first d))) = absurd d
  around_deep _ t (in_led h (in_second p (in_second q (in_first d)))) = absurd d
  around_deep _ t (in_led {t = s} h (in_second (a_word {t = opener} p) (in_second {us = ts} {x = test} (an_expression e r) (in_second {front = front} (a_word {t = closer} k) d)))) =
      branch_deep s opener closer ts front t test h p e k d
  around_deep _ t (in_other m (in_led h (in_first d))) = absurd d
  around_deep _ t (in_other m (in_led h (in_second p (in_first d)))) = absurd d
  around_deep _ t (in_other m (in_led h (in_second p (in_second q (in_first d))))) = absurd d
  around_deep _ t (in_other m (in_led {t = s} h (in_second (a_word {t = opener} p) (in_second {us = ts} {x = value} (an_expression e r) (in_second (a_word {t = closer} k) (in_first {front = front} d)))))) =
      case_deep s opener closer ts front t value h p e k (several_deep front t d)
  around_deep _ t (in_other m (in_led h (in_second p (in_second q (in_second r (in_second g d)))))) = absurd d
  around_deep _ t (in_other m (in_other i (in_led h (in_first (in_led k d))))) = absurd d
  around_deep _ t (in_other m (in_other i (in_led h (in_first (in_other k d))))) = absurd d
  around_deep _ t (in_other m (in_other i (in_led {t = s} h (in_second {us = ls} {x = name} p (in_first {front = front} d))))) =
      block_deep s ls front t name h (label_is Before ls name (first front (Some t)) p) (body_deep front t d)
  around_deep _ t (in_other m (in_other i (in_led h (in_second p (in_second q d))))) = absurd d
  around_deep _ t (in_other m (in_other i (in_other j (in_led h d)))) = absurd d
  around_deep front t (in_other m (in_other i (in_other j (in_other l (in_first d))))) = inr (lval_deep size front t d)
  around_deep _ t (in_other m (in_other i (in_other j (in_other l (in_second p (in_first d)))))) = absurd d
  around_deep _ t (in_other m (in_other i (in_other j (in_other l (in_second p (in_second q (in_first d))))))) = absurd d
  around_deep _ t (in_other m (in_other i (in_other j (in_other l (in_second p (in_second q (in_second r d))))))) = absurd d

pub deep_is : Laws expression_form → ReadBefore → Expressions → (c : Context) (size n : ℕ) (front : List Lexeme) (t : Lexeme) → (statement_form c size n).deep front t → IsDeep c size n front t
unfolding statement_form
deep_is le read known c size zero front t d = inl (subst (λ v. Below c zero v) (sym d.0) here, d.1)
deep_is le read known c size (suc n) front t d =
    around_deep c size (λ xs k. exprs_some known [] xs k refl) (statement_form c size n) (statement_is le read known c size n) n (λ us u p. deep_is le read known c size n us u p) front t d
