-- The laws of the form of statements of an `initial`.
use Rattle.std.proofs.Common.{◌≡◌, ℕ, zero, suc, Bool, true, false, ◌||◌, List, [], ◌∷◌, ◌++◌, Option, refl, sym, ◌∙◌, ap}
use Rattle.vod_token.specs.declared.TokenKind.TheVariants as kinds
use Rattle.vod_tree.specs.declared.expr.Expr.{Expr}
use Rattle.vod_tree.specs.declared.ident.Ident.{Ident}
use Rattle.vod_tree.specs.declared.ident.Number.{Number}
use Rattle.vod_tree.specs.declared.statement.InitialKind.{InitialKind}
use Rattle.vod_tree.specs.declared.statement.InitialKind.TheVariants as kind
use Rattle.vod_tree.specs.declared.statement.InitialStatement.{InitialStatement}
use Rattle.vod_expr.specs.Grammar.{Lexeme, IsName, IsNumber}
use Rattle.vod_grammar.specs.EitherLaws.{either_laws}
use Rattle.vod_grammar.specs.Form.{Form, Sight, Before, NumberPhrase, a_number, a_name, in_turn, led, unled, word_form, name_form, number_form, expression_form, then, mapped, repeated}
use Rattle.vod_grammar.specs.Laws.{Laws, Begun}
use Rattle.vod_grammar.specs.PartLaws.{mapped_laws, placed_laws, limit_laws, Limited}
use Rattle.vod_grammar.specs.Read as reads
use Rattle.vod_grammar.specs.Read.{Reading}
use Rattle.vod_grammar.specs.RepeatLaws.{HasToken, repeated_laws}
use Rattle.vod_grammar.specs.SameLaws.{Same, same_laws}
use Rattle.vod_grammar.specs.ThenLaws.{then_laws}
use Rattle.vod_grammar.specs.TokenLaws.{word_laws, name_laws, give_laws, some_name, some_name-is}
use Rattle.vod_grammar.specs.WordLaws.{is_word-is, kind_same, word_is, word_token, word_token-is}
use Rattle.vod_grammar.specs.Words.{Is, is_word, is_other, same_kind}
use Rattle.vod_grammar.specs.declared.word.Word.TheVariants as word
use Rattle.vod_statement.specs.Label.{unlabelled, label_form}
use Rattle.vod_statement.specs.LabelLaws.{label_laws}
use Rattle.vod_statement.specs.LeftSideLaws.{or_left, or_right}
use Rattle.vod_statement.specs.StatementFormLaws.{in_two, is_expr, or_other}
use Rattle.vod_initial.specs.Initial.{IsValue, IsInitial, a_value, a_start, less, a_test, a_step, assigned, indexed, loop, block, no_initial, for_loop, initial}
use Rattle.vod_initial.specs.InitialForm.{value_form, target, assigned as assigned_form, start_form, comparison_form, test_form, step_form, body_form, bounds_form, last_form, for_parts, for_form, block_form, alternatives, around, starts_initial, initial_form}
use Rattle.vod_initial.specs.InitialLaws.{initial_is}

-- a `for` is read in two steps as it is part by part
for_read : (f : Form InitialStatement) (ts : List Lexeme) → (for_parts f).read ts ≡ (for_form f).read ts
for_read f ts =
    let close : (Ident × Expr) → (Ident × Bool × Expr) → (Ident × Ident × Number) → Reading InitialKind = λ start test step. (mapped (λ body. kind.For (for_loop start test step body)) f).read in
    let behind : (Ident × Expr) × (Ident × Bool × Expr) → Reading InitialKind = λ bounds. (then step_form (λ step. body_form bounds.0 bounds.1 step f)).read in
    let whole : (Ident × Expr) × (Ident × Bool × Expr) × (Ident × Ident × Number) → Reading InitialKind = λ head. close head.0 head.1 head.2 in
    in_two ((word_form word.OpenParen).read ts) _ _ behind
    (λ _ us. in_two (start_form.read us) _ _ behind (λ start vs. in_two (test_form.read vs) (λ test. reads.give (start, test)) _ behind (λ _ ws. refl)))
    ∙ in_two (bounds_form.read ts) (λ bounds. (mapped (λ step. (bounds.0, bounds.1, step)) last_form).read) behind whole
    (λ bounds us.
    in_two (step_form.read us) _ _ (close bounds.0 bounds.1) (λ step vs. in_two ((word_form word.CloseParen).read vs) (λ _. reads.give step) _ (close bounds.0 bounds.1) (λ _ ws. refl))
    ∙ in_two (last_form.read us) (λ step. reads.give (bounds.0, bounds.1, step)) (close bounds.0 bounds.1) whole (λ _ ws. refl))

for_same : (f : Form InitialStatement) → Same (for_parts f) (for_form f)
for_same f = record {
  read = λ ts. sym (for_read f ts);
  into = λ m ts x b p. p;
  out = λ m ts x b p. p;
  into_deep = λ front t d. d;
  out_deep = λ front t d. d;
}

comparison_laws : Laws comparison_form
comparison_laws = either_laws word.LessEqual _ _ (λ _. give_laws true) (mapped_laws _ (word_form word.Less) (word_laws word.Less))

-- a statement has a token
initial_some : (ts : List Lexeme) (x : InitialStatement) → IsInitial ts x → ts ≡ [] → ⊥
initial_some _ _ (assigned h v) r = cc
initial_some _ _ (indexed h o d c v) r = cc
initial_some _ _ (loop h o s e p c i) r = cc
initial_some _ _ (block h l is e) r = cc

alternatives_some : (f : Form InitialStatement) (ts : List Lexeme) (x : InitialKind) (b : Option Lexeme) → (alternatives f).phrase Before ts x b → ts ≡ [] → ⊥
alternatives_some f _ x b (led h p) e = cc
alternatives_some f _ x b (unled n (led h p)) e = cc
alternatives_some f _ x b (unled n (unled i (in_turn (a_name h) q))) e = cc

module _ (le : Laws expression_form) (ln : Laws number_form) where
  value_laws : Laws value_form
  value_laws = then_laws (word_form word.Equals) _ (word_laws word.Equals) (λ _. then_laws expression_form _ le (λ a. mapped_laws _ (word_form word.Semicolon) (word_laws word.Semicolon)))

  assigned_laws : Laws assigned_form
  assigned_laws =
      then_laws name_form target name_laws
      (λ name. either_laws word.OpenBracket _ _
      (λ _. then_laws expression_form _ le (λ index. then_laws (word_form word.CloseBracket) _ (word_laws word.CloseBracket) (λ _. mapped_laws _ value_form value_laws)))
      (mapped_laws _ value_form value_laws))

  start_laws : Laws start_form
  start_laws = then_laws name_form _ name_laws (λ index. mapped_laws _ value_form value_laws)

  test_laws : Laws test_form
  test_laws =
      then_laws name_form _ name_laws
      (λ tested. then_laws comparison_form _ comparison_laws (λ inclusive. then_laws expression_form _ le (λ bound. mapped_laws _ (word_form word.Semicolon) (word_laws word.Semicolon))))

  step_laws : Laws step_form
  step_laws =
      then_laws name_form _ name_laws
      (λ stepped. then_laws (word_form word.Equals) _ (word_laws word.Equals)
      (λ _. then_laws name_form _ name_laws (λ from. then_laws (word_form word.Plus) _ (word_laws word.Plus) (λ _. mapped_laws _ number_form ln))))

  module _ (f : Form InitialStatement) (lf : Laws f) (some : HasToken f) where
    for_laws : Laws (for_form f)
    for_laws =
        same_laws (for_parts f) (for_form f) (for_same f)
        (then_laws (word_form word.OpenParen) _ (word_laws word.OpenParen)
        (λ _. then_laws start_form _ start_laws
        (λ start. then_laws test_form _ test_laws
        (λ test. then_laws step_form _ step_laws (λ step. then_laws (word_form word.CloseParen) _ (word_laws word.CloseParen) (λ _. mapped_laws _ f lf))))))

    block_laws : Laws (block_form f)
    block_laws =
        then_laws label_form _ label_laws
        (λ name. then_laws (repeated (is_other word.End) f []) _ (repeated_laws (is_other word.End) f lf some []) (λ body. mapped_laws _ (word_form word.End) (word_laws word.End)))

    around_laws : Laws (around f)
    around_laws =
        placed_laws initial (alternatives f)
        (either_laws word.For _ _ (λ _. for_laws) (either_laws word.Begin _ _ (λ _. block_laws) assigned_laws))
        (λ x b p. alternatives_some f [] x b p refl)

-- the first token
starts_name : (t : Lexeme) → IsName t → starts_initial t ≡ true
starts_name t h = or_right (is_word word.For t) _ (or_right (is_word word.Begin t) (same_kind t.kind kinds.Name) (ap (λ k. same_kind k kinds.Name) h))

pub initial_starts : (ts : List Lexeme) (x : InitialStatement) → IsInitial ts x → (t : Lexeme) × (us : List Lexeme) × (ts ≡ t ∷ us) × (starts_initial t ≡ true)
initial_starts _ _ (assigned {t = t} h v) = (t, _, refl, starts_name t h)
initial_starts _ _ (indexed {t = t} h o d c v) = (t, _, refl, starts_name t h)
initial_starts _ _ (loop {t = t} h o s e p c i) = (t, _, refl, or_left (is_word word.For t) _ (is_word-is word.For t h))
initial_starts _ _ (block {t = t} h l is e) = (t, _, refl, or_right (is_word word.For t) _ (or_left (is_word word.Begin t) _ (is_word-is word.Begin t h)))

record SomeNumber : Type 0 where
  token : Lexeme
  value : Number
  is : IsNumber token value

some_number : {m : Sight} {ts : List Lexeme} {n : Number} {b : Option Lexeme} → NumberPhrase m ts n b → SomeNumber
some_number (a_number {t = t} {n = n} k) = record { token = t; value = n; is = k }

abbrev pub InitialPhrase : Sight → List Lexeme → InitialStatement → Option Lexeme → Type 0
InitialPhrase m ts x b = IsInitial ts x

-- each such token begins a statement
module _ (le : Laws expression_form) (ln : Laws number_form) where
  a_given : IsValue (word_token word.Equals ∷ (le.example.tokens ++ word_token word.Semicolon ∷ [])) le.example.value
  a_given = a_value (word_token-is word.Equals) (is_expr le.example.is) (word_token-is word.Semicolon)

  begun_for : (t : Lexeme) → Is word.For t → Begun InitialPhrase (t ∷ [])
  begun_for t h =
      let number = some_number ln.example.is in
      record {
        more = _;
        value = _;
        is = loop h (word_token-is word.OpenParen) (a_start {t = some_name} some_name-is a_given)
            (a_test {t = some_name} some_name-is (less (word_token-is word.Less)) (is_expr le.example.is) (word_token-is word.Semicolon))
            (a_step {t = some_name} {from = some_name} some_name-is (word_token-is word.Equals) some_name-is (word_token-is word.Plus) number.is) (word_token-is word.CloseParen) (assigned {t = some_name} some_name-is a_given);
      }

  begun_block : (t : Lexeme) → (v : Bool) → is_word word.Begin t ≡ v → (is_word word.Begin t || same_kind t.kind kinds.Name) ≡ true → Begun InitialPhrase (t ∷ [])
  begun_block t true h e = record { more = _; value = _; is = block (word_is word.Begin t h) unlabelled no_initial (word_token-is word.End) }
  begun_block t false h e = record { more = _; value = _; is = assigned (kind_same t.kind kinds.Name (or_other (is_word word.Begin t) (same_kind t.kind kinds.Name) e h)) a_given }

  begun_by : (t : Lexeme) → (v : Bool) → is_word word.For t ≡ v → starts_initial t ≡ true → Begun InitialPhrase (t ∷ [])
  begun_by t true h e = begun_for t (word_is word.For t h)
  begun_by t false h e = begun_block t (is_word word.Begin t) refl (or_other (is_word word.For t) _ e h)

  pub begun_any : (t : Lexeme) → starts_initial t ≡ true → Begun InitialPhrase (t ∷ [])
  begun_any t e = begun_by t (is_word word.For t) refl e

  initial_limited : Limited starts_initial InitialPhrase
  initial_limited = record {
    example = record { tokens = _; value = _; is = assigned {t = some_name} some_name-is a_given };
    free = λ ts x b c p. p;
    wider = λ ts x b p. p;
    ends = λ ts x b p. p;
    starts = λ ts x b p. initial_starts ts x p;
    begins = begun_any;
  }

  form_some : (n : ℕ) → HasToken (initial_form n)
  form_some n x b p = initial_some [] x (initial_is n Before [] x b p) refl

  pub initial_laws : (n : ℕ) → Laws (initial_form n)
  unfolding initial_form
  initial_laws zero = limit_laws starts_initial InitialPhrase initial_limited
  initial_laws (suc n) = around_laws le ln (initial_form n) (initial_laws n) (form_some n)
