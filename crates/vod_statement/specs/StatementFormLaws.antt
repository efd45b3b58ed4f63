-- The laws of the form of statements.
use Rattle.std.proofs.Common.{◌≡◌, ℕ, zero, suc, Bool, true, false, ◌||◌, List, [], ◌∷◌, ◌++◌, Option, refl, sym, ◌∙◌, ap}
use Rattle.vod_tree.specs.declared.expr.Expr.{Expr}
use Rattle.vod_tree.specs.declared.statement.CaseItem.{CaseItem}
use Rattle.vod_tree.specs.declared.statement.CaseLabel.{CaseLabel}
use Rattle.vod_tree.specs.declared.statement.Lval.{Lval}
use Rattle.vod_tree.specs.declared.statement.Statement.{Statement}
use Rattle.vod_tree.specs.declared.statement.StatementKind.{StatementKind}
use Rattle.vod_tree.specs.declared.statement.StatementKind.TheVariants as kind
use Rattle.vod_expr.specs.Grammar.{Lexeme, IsExpr}
use Rattle.vod_grammar.specs.EitherLaws.{either_laws}
use Rattle.vod_grammar.specs.Form.{Form, Sight, Before, ExpressionPhrase, an_expression, in_turn, put, led, unled, word_form, expression_form, mapped, repeated, several, separated, flag}
use Rattle.vod_grammar.specs.Laws.{Laws, Begun}
use Rattle.vod_grammar.specs.ListLaws.{ReadBefore, exprs_are}
use Rattle.vod_grammar.specs.PartLaws.{mapped_laws, placed_laws, separated_laws, several_laws, flag_laws, limit_laws, Limited}
use Rattle.vod_grammar.specs.Read as reads
use Rattle.vod_grammar.specs.Read.{Read, Reading, Got, Failed, followed, first}
use Rattle.vod_grammar.specs.RepeatLaws.{HasToken, repeated_laws}
use Rattle.vod_grammar.specs.SameLaws.{Same, same_laws}
use Rattle.vod_grammar.specs.ThenLaws.{then_laws}
use Rattle.vod_grammar.specs.TokenLaws.{word_laws, give_laws}
use Rattle.vod_grammar.specs.WordLaws.{is_word-is, word_is, word_token, word_token-is}
use Rattle.vod_grammar.specs.Words.{Is, is_word, is_other}
use Rattle.vod_grammar.specs.declared.word.Word.TheVariants as word
use Rattle.vod_statement.specs.BranchLaws.{branches_laws}
use Rattle.vod_statement.specs.FirstTokens.{Expressions, exprs_some, heads, no_head}
use Rattle.vod_statement.specs.Label.{unlabelled, label_form}
use Rattle.vod_statement.specs.LabelLaws.{label_laws}
use Rattle.vod_statement.specs.LeftSideForm.{lval_form, starts_lval}
use Rattle.vod_statement.specs.LeftSideLaws.{lval_laws, lval_is, lval_starts, lval_begins, or_left, or_right}
use Rattle.vod_statement.specs.StatementForm.{StatementPhrase, statement_form, around, alternatives, branches as branches_form, assigned as assigned_form, assigned_parts, value_form, chosen, cases as cases_form, block as block_form, behind_test, tested, item_form, item_parts, starts_statement}
use Rattle.vod_statement.specs.StatementLaws.{around_is}
use Rattle.vod_statement.specs.StatementPhrases.{around_into}
use Rattle.vod_statement.specs.Statements.{IsStatement, assigned, alone, branches, cases, block, empty, no_statement, default, no_item, no_colon, assigns, assignment, statement, item}
use Rattle.vod_statement.specs.declared.context.Context.{Context}

-- two readings behind a first one are one that is made of both
pub in_two : {A B C : Type 0} (r : Read A) (f : A → Reading B) (g : A → Reading C) (next : B → Reading C) → ((x : A) (rest : List Lexeme) → g x rest ≡ followed (f x rest) next) → followed r g ≡ followed (followed r f) next
in_two (Got x rest) f g next h = h x rest
in_two (Failed fault) f g next h = refl

tested_read : {A : Type 0} (next : Expr → Form A) (ts : List Lexeme) → (behind_test next).read ts ≡ (tested next).read ts
tested_read next ts =
    in_two ((word_form word.OpenParen).read ts) _ _ (λ test. (next test).read)
    (λ _ us. in_two (expression_form.read us) _ _ (λ test. (next test).read) (λ test vs. in_two ((word_form word.CloseParen).read vs) (λ _. reads.give test) _ (λ test. (next test).read) (λ _ ws. refl)))

tested_same : {A : Type 0} (next : Expr → Form A) → Same (behind_test next) (tested next)
tested_same next = record {
  read = λ ts. sym (tested_read next ts);
  into = λ m ts x b p. p;
  out = λ m ts x b p. p;
  into_deep = λ front t d. d;
  out_deep = λ front t d. d;
}

assigned_read : (c : Context) (size : ℕ) (ts : List Lexeme) → (assigned_parts c size).read ts ≡ (assigned_form c size).read ts
assigned_read c size ts =
    let next : Lval → Reading StatementKind = λ target. (mapped (λ value. assignment c target value) value_form).read in
    in_two ((lval_form size).read ts) _ _ next
    (λ target us. in_two ((word_form (assigns c)).read us) (λ _. reads.give target) _ next
    (λ _ vs. in_two (expression_form.read vs) _ _ (λ value. reads.give (assignment c target value))
    (λ value ws. in_two ((word_form word.Semicolon).read ws) (λ _. reads.give value) _ (λ value. reads.give (assignment c target value)) (λ _ rest. refl))))

assigned_same : (c : Context) (size : ℕ) → Same (assigned_parts c size) (assigned_form c size)
assigned_same c size = record {
  read = λ ts. sym (assigned_read c size ts);
  into = λ m ts x b p. p;
  out = λ m ts x b p. p;
  into_deep = λ front t d. d;
  out_deep = λ front t d. d;
}

tested_laws : {A : Type 0} → Laws expression_form → (next : Expr → Form A) → ((e : Expr) → Laws (next e)) → Laws (tested next)
tested_laws le next ln =
    same_laws (behind_test next) (tested next) (tested_same next)
    (then_laws (word_form word.OpenParen) _ (word_laws word.OpenParen) (λ _. then_laws expression_form _ le (λ test. then_laws (word_form word.CloseParen) _ (word_laws word.CloseParen) (λ _. ln test))))

-- a statement has a token
statement_some : (c : Context) (o : Bool) (ts : List Lexeme) (x : Statement) → IsStatement c o ts x → ts ≡ [] → ⊥
statement_some c o _ _ (assigned d e v k) r = cc
statement_some c o _ _ (alone h p e k s) r = cc
statement_some c o _ _ (branches h p e k s l q) r = cc
statement_some c o _ _ (cases h p e k i is l) r = cc
statement_some c o _ _ (block h n s l) r = cc
statement_some c o _ _ (empty h) r = cc

front_none : (us vs : List Lexeme) → us ++ vs ≡ [] → us ≡ []
front_none [] vs e = refl
front_none (u ∷ us) vs e = cc

module _ (le : Laws expression_form) (known : Expressions) (c : Context) (size : ℕ) (f : Form Statement) (lf : Laws f) (some : HasToken f) where
  item_parts_some : (ts : List Lexeme) (x : CaseLabel × Statement) (b : Option Lexeme) → (item_parts f).phrase Before ts x b → ts ≡ [] → ⊥
  item_parts_some _ x b (led h p) e = cc
  item_parts_some _ x b (unled n (in_turn {us = us} {vs = vs} {x = xs} q r)) e = exprs_some known us xs (exprs_are Before us xs (first vs b) q) (front_none us vs e)

  item_some : (ts : List Lexeme) (x : CaseItem) (b : Option Lexeme) → (item_form f).phrase Before ts x b → ts ≡ [] → ⊥
  unfolding item_form
  item_some ts _ b (put {x = x} p) e = item_parts_some ts x b p e

  alternatives_some : (ts : List Lexeme) (x : StatementKind) (b : Option Lexeme) → (alternatives c size f).phrase Before ts x b → ts ≡ [] → ⊥
  alternatives_some _ x b (led h p) e = cc
  alternatives_some _ x b (unled n (led h p)) e = cc
  alternatives_some _ x b (unled n (unled i (led h p))) e = cc
  alternatives_some _ x b (unled n (unled i (unled j (led h p)))) e = cc
  alternatives_some _ x b (unled n (unled i (unled j (unled l (in_turn {us = us} {vs = vs} {x = target} p q))))) e =
      let s = lval_starts us target (lval_is size Before us target (first vs b) p) in no_head (sym (front_none us vs e) ∙ s.2)

  item_laws : Laws (item_form f)
  unfolding item_form
  item_laws =
      placed_laws (λ at part. item at part.0 part.1) (item_parts f)
      (either_laws word.Default _ _ (λ _. then_laws (flag word.Colon) _ (flag_laws word.Colon) (λ _. mapped_laws _ f lf))
      (then_laws (separated expression_form) _ (separated_laws expression_form le) (λ xs. then_laws (word_form word.Colon) _ (word_laws word.Colon) (λ _. mapped_laws _ f lf))))
      (λ x b p. item_parts_some [] x b p refl)

  cases_laws : Laws (cases_form f)
  cases_laws =
      tested_laws le _ (λ value. then_laws (several (is_other word.Endcase) (item_form f)) _ (several_laws (is_other word.Endcase) (item_form f) item_laws (λ x b p. item_some [] x b p refl))
      (λ xs. mapped_laws _ (word_form word.Endcase) (word_laws word.Endcase)))

  block_laws : Laws (block_form f)
  block_laws =
      then_laws label_form _ label_laws
      (λ name. then_laws (repeated (is_other word.End) f []) _ (repeated_laws (is_other word.End) f lf some []) (λ body. mapped_laws _ (word_form word.End) (word_laws word.End)))

  chosen_laws : Laws (chosen f)
  chosen_laws = tested_laws le _ (λ test. mapped_laws _ (branches_form f) (branches_laws f lf))

  assigned_laws : Laws (assigned_form c size)
  assigned_laws =
      same_laws (assigned_parts c size) (assigned_form c size) (assigned_same c size)
      (then_laws (lval_form size) _ (lval_laws le size)
      (λ target. then_laws (word_form (assigns c)) _ (word_laws (assigns c)) (λ _. then_laws expression_form _ le (λ value. mapped_laws _ (word_form word.Semicolon) (word_laws word.Semicolon)))))

  around_laws : Laws (around c size f)
  around_laws =
      placed_laws statement (alternatives c size f)
      (either_laws word.If _ _ (λ _. chosen_laws) (either_laws word.Case _ _ (λ _. cases_laws) (either_laws word.Begin _ _ (λ _. block_laws)
      (either_laws word.Semicolon _ _ (λ _. give_laws kind.Empty) assigned_laws))))
      (λ x b p. alternatives_some [] x b p refl)

-- the first token
pub statement_starts : (c : Context) (o : Bool) (ts : List Lexeme) (x : Statement) → IsStatement c o ts x → (t : Lexeme) × (us : List Lexeme) × (ts ≡ t ∷ us) × (starts_statement t ≡ true)
statement_starts c o _ _ (assigned {t = t} {ts = ts} {target = target} d e v k) =
    let s = lval_starts (t ∷ ts) target d in
    (t, _, refl, or_right (is_word word.If t) _ (or_right (is_word word.Case t) _ (or_right (is_word word.Begin t) _ (or_right (is_word word.Semicolon t) _ (ap starts_lval (heads s.2) ∙ s.3)))))
statement_starts c o _ _ (alone {t = t} h p e k s) = (t, _, refl, or_left (is_word word.If t) _ (is_word-is word.If t h))
statement_starts c o _ _ (branches {t = t} h p e k s l q) = (t, _, refl, or_left (is_word word.If t) _ (is_word-is word.If t h))
statement_starts c o _ _ (cases {t = t} h p e k i is l) = (t, _, refl, or_right (is_word word.If t) _ (or_left (is_word word.Case t) _ (is_word-is word.Case t h)))
statement_starts c o _ _ (block {t = t} h n s l) = (t, _, refl, or_right (is_word word.If t) _ (or_right (is_word word.Case t) _ (or_left (is_word word.Begin t) _ (is_word-is word.Begin t h))))
statement_starts c o _ _ (empty {t = t} h) =
    (t, _, refl, or_right (is_word word.If t) _ (or_right (is_word word.Case t) _ (or_right (is_word word.Begin t) _ (or_left (is_word word.Semicolon t) _ (is_word-is word.Semicolon t h)))))

pub or_other : (a b : Bool) → (a || b) ≡ true → a ≡ false → b ≡ true
or_other a b e h = sym (ap (λ v. v || b) h) ∙ e

pub is_expr : {m : Sight} {ts : List Lexeme} {x : Expr} {b : Option Lexeme} → ExpressionPhrase m ts x b → IsExpr 0 ts x
is_expr (an_expression d r) = d

-- each such token begins a statement
module _ (le : Laws expression_form) (c : Context) (t : Lexeme) where
  begun : (o : Bool) (more : List Lexeme) (x : Statement) → IsStatement c o (t ∷ more) x → Begun (StatementPhrase c) (t ∷ [])
  begun o more x s = record { more = more; value = x; is = record { open_ended = o; is = s; closed = λ e k. cc } }

  begun_if : Is word.If t → Begun (StatementPhrase c) (t ∷ [])
  begun_if h = begun true _ _ (alone h (word_token-is word.OpenParen) (is_expr le.example.is) (word_token-is word.CloseParen) (empty (word_token-is word.Semicolon)))

  begun_case : Is word.Case t → Begun (StatementPhrase c) (t ∷ [])
  begun_case h =
      begun false _ _
      (cases h (word_token-is word.OpenParen) (is_expr le.example.is) (word_token-is word.CloseParen) (default (word_token-is word.Default) no_colon (empty (word_token-is word.Semicolon))) no_item (word_token-is word.Endcase))

  begun_block : Is word.Begin t → Begun (StatementPhrase c) (t ∷ [])
  begun_block h = begun false _ _ (block h unlabelled no_statement (word_token-is word.End))

  begun_assigned : starts_lval t ≡ true → Begun (StatementPhrase c) (t ∷ [])
  begun_assigned e = let b = lval_begins t e in begun false _ _ (assigned b.is (word_token-is (assigns c)) (is_expr le.example.is) (word_token-is word.Semicolon))

  begun_semicolon : (v : Bool) → is_word word.Semicolon t ≡ v → (is_word word.Semicolon t || starts_lval t) ≡ true → Begun (StatementPhrase c) (t ∷ [])
  begun_semicolon true h e = begun false [] _ (empty (word_is word.Semicolon t h))
  begun_semicolon false h e = begun_assigned (or_other (is_word word.Semicolon t) (starts_lval t) e h)

  begun_begin : (v : Bool) → is_word word.Begin t ≡ v → (is_word word.Begin t || (is_word word.Semicolon t || starts_lval t)) ≡ true → Begun (StatementPhrase c) (t ∷ [])
  begun_begin true h e = begun_block (word_is word.Begin t h)
  begun_begin false h e = begun_semicolon (is_word word.Semicolon t) refl (or_other (is_word word.Begin t) _ e h)

  begun_cases : (v : Bool) → is_word word.Case t ≡ v → (is_word word.Case t || (is_word word.Begin t || (is_word word.Semicolon t || starts_lval t))) ≡ true → Begun (StatementPhrase c) (t ∷ [])
  begun_cases true h e = begun_case (word_is word.Case t h)
  begun_cases false h e = begun_begin (is_word word.Begin t) refl (or_other (is_word word.Case t) _ e h)

  pub begun_any : (v : Bool) → is_word word.If t ≡ v → starts_statement t ≡ true → Begun (StatementPhrase c) (t ∷ [])
  begun_any true h e = begun_if (word_is word.If t h)
  begun_any false h e = begun_cases (is_word word.Case t) refl (or_other (is_word word.If t) _ e h)

statement_limited : Laws expression_form → (c : Context) → Limited starts_statement (StatementPhrase c)
statement_limited le c = record {
  example = record { tokens = word_token word.Semicolon ∷ []; value = _; is = record { open_ended = false; is = empty (word_token-is word.Semicolon); closed = λ e k. cc } };
  free = λ ts x b d p. record { open_ended = p.open_ended; is = p.is; closed = λ e k. cc };
  wider = λ ts x b p. record { open_ended = p.open_ended; is = p.is; closed = λ e k. cc };
  ends = λ ts x b p. record { open_ended = p.open_ended; is = p.is; closed = λ e k. refl };
  starts = λ ts x b p. statement_starts c p.open_ended ts x p.is;
  begins = λ t e. begun_any le c t (is_word word.If t) refl e;
}

module _ (le : Laws expression_form) (read : ReadBefore) (known : Expressions) (c : Context) (size : ℕ) where
  pub statement_is : (n : ℕ) (m : Sight) (ts : List Lexeme) (x : Statement) (b : Option Lexeme) → (statement_form c size n).phrase m ts x b → StatementPhrase c m ts x b
  unfolding statement_form
  statement_is zero m ts x b p = p
  statement_is (suc n) m ts x b p = around_is c size (λ xs d. exprs_some known [] xs d refl) (statement_form c size n) (statement_is n) m ts x b p

  pub is_statement : (n : ℕ) (m : Sight) (ts : List Lexeme) (x : Statement) (b : Option Lexeme) → StatementPhrase c m ts x b → (statement_form c size n).phrase m ts x b
  unfolding statement_form
  is_statement zero m ts x b p = p
  is_statement (suc n) m ts x b p = around_into c size read known (statement_form c size n) (is_statement n) m p.open_ended ts x b p.closed p.is

  form_some : (n : ℕ) → HasToken (statement_form c size n)
  form_some n x b p = let s = statement_is n Before [] x b p in statement_some c s.open_ended [] x s.is refl

  pub statement_laws : (n : ℕ) → Laws (statement_form c size n)
  unfolding statement_form
  statement_laws zero = limit_laws starts_statement (StatementPhrase c) (statement_limited le c)
  statement_laws (suc n) = around_laws le known c size (statement_form c size n) (statement_laws n) (form_some n)
