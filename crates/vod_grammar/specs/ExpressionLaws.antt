-- Expressions, by what is known of their reader.
use Rattle.std.proofs.Common.{◌≡◌, inl, ℕ, zero, suc, ◌<◌, ◌≤◌, List, [], ◌∷◌, ◌++◌, length, take, drop, length-take, arith, Option, None, Some, Result, Ok, Err, Bool, true, false, ◌||◌, ◌==◌, refl, sym, ◌∙◌, ap, subst, append-nil}
use Rattle.std.proofs.Math.Seq.{drop-append_seam}
use Rattle.std.proofs.lemmas.List.{take-append-drop}
use Rattle.std.proofs.lemmas.List.Elements.{All-nil, All-cons}
use Rattle.std.specs.Prelude.{All, MatchResult, codes}
use Rattle.vod_tree.specs.declared.expr.BinaryOp.{BinaryOp}
use Rattle.vod_tree.specs.declared.expr.BinaryOp.TheVariants as binary
use Rattle.vod_tree.specs.declared.expr.Expr.{Expr}
use Rattle.vod_expr.specs.Answer.{fault_at, expr_read, expr_len, IsRead, IsRefused, EndsExpr}
use Rattle.vod_expr.specs.Grammar.{Lexeme, IsLexeme, IsSymbol, IsExpr, name as name_expr, IsLongest}
use Rattle.vod_expr.specs.Operators.{binary_text}
use Rattle.vod_expr.specs.declared.ParseFault.{ParseFault}
use Rattle.vod_expr.specs.declared.ParseFault.TheVariants.{End}
use Rattle.vod_grammar.specs.Facts.{Facts}
use Rattle.vod_grammar.specs.Form.{Sight, Alone, Before, ReadTo, ExpressionPhrase, an_expression, expression_form}
use Rattle.vod_grammar.specs.Laws.{Laws, Taken, Stopped, AreLexemes}
use Rattle.vod_grammar.specs.Read.{Got, Failed, first, tree_read, expression_read}
use Rattle.vod_grammar.specs.Words.{Is, spelling}
use Rattle.vod_grammar.specs.declared.word.Word.{Word}
use Rattle.vod_grammar.specs.FrontLaws.{got_value, got_rest, failed_fault, got_failed}
use Rattle.vod_grammar.specs.TokenLaws.{some_name, some_name-is}

-- tokens of a source, by their numbers
all_lexemes : (ts : List Lexeme) → AreLexemes ts → All IsLexeme ts
all_lexemes [] own = All-nil IsLexeme
all_lexemes (t ∷ ts) own = All-cons IsLexeme t ts own.0 (all_lexemes ts own.1)

drop_none : (n : ℕ) → drop {A = Lexeme} n [] ≡ []
drop_none zero = refl
drop_none (suc n) = refl

-- an answer has the place of its length, and is right
abbrev pub Placed : List Lexeme → Result (Expr × ℕ) ParseFault → Type 0
Placed ts r = MatchResult r (λ read. read.1 ≡ expr_len ts) (λ fault. fault ≡ fault_at (drop (expr_len ts) ts))

abbrev pub Right : List Lexeme → Result (Expr × ℕ) ParseFault → Type 0
Right ts r = MatchResult r (λ read. IsRead ts read.1 read.0) (λ fault. IsRefused ts fault)

alone_read : (ts : List Lexeme) (x : Expr) (b : Option Lexeme) → ReadTo Alone ts x b
alone_read ts x b e = cc

same_some : {t u : Lexeme} → Some t ≡ Some u → t ≡ u
same_some h = cc

module _ (facts : Facts) where
  -- an expression that was read, before tokens that begin as those behind it do
  same_read : (front : List Lexeme) (x : Expr) (rest other : List Lexeme) → expr_len (front ++ rest) ≡ length front → expr_read (front ++ rest) ≡ Ok (x, length front)
      → first other None ≡ first rest None → expr_read (front ++ other) ≡ Ok (x, length front)
  same_read front x [] [] len h e = h
  same_read front x [] (o ∷ other) len h e = cc
  same_read front x (t ∷ rest) [] len h e = cc
  same_read front x (t ∷ rest) (o ∷ other) len h e = ap (λ v. expr_read (front ++ v ∷ other)) (same_some e) ∙ facts.ahead front rest other t len ∙ h

  read_taken : (ts : List Lexeme) (x : Expr) (n : ℕ) → AreLexemes ts → expr_read ts ≡ Ok (x, n) → Taken expression_form.phrase ts x (drop n ts)
  read_taken ts x n own h =
      let right : IsRead ts n x = subst (Right ts) h (facts.right ts (all_lexemes ts own)) in
      let len : n ≡ expr_len ts = subst (Placed ts) h (facts.place ts) in
      let within : expr_len ts ≤ length ts = facts.within ts in
      let size : length (take n ts) ≡ n = omega (arith, length-take n ts) in
      let whole : take n ts ++ drop n ts ≡ ts = take-append-drop n ts in
      record {
        front = take n ts;
        split = sym whole;
        is = an_expression right.expr (λ m rest e.
            same_read (take n ts) x (drop n ts) rest (ap expr_len whole ∙ sym len ∙ sym size) (ap expr_read whole ∙ h ∙ ap (λ v. Ok (x, v)) (sym size)) e);
      }

  expression_sound : (ts : List Lexeme) (x : Expr) (rest : List Lexeme) → AreLexemes ts → (r : Result (Expr × ℕ) ParseFault) → expr_read ts ≡ r → tree_read r ts ≡ Got x rest → Taken expression_form.phrase ts x rest
  expression_sound ts x rest own (Err fault) e h = absurd (got_failed (sym h))
  expression_sound ts x rest own (Ok read) e h =
      let p = read_taken ts read.0 read.1 own e in
      subst (λ v. Taken expression_form.phrase ts v rest) (got_value h) (subst (Taken expression_form.phrase ts read.0) (got_rest h) p)

  refused_stops : (ts : List Lexeme) (fault : ParseFault) → AreLexemes ts → expr_read ts ≡ Err fault → Stopped expression_form ts fault
  refused_stops ts fault own h =
      let n : ℕ = expr_len ts in
      let longest : IsLongest ts n = facts.longest ts (all_lexemes ts own) in
      let place : fault ≡ fault_at (drop (expr_len ts) ts) = subst (Placed ts) h (facts.place ts) in
      let within : n ≤ length ts = facts.within ts in
      let size : length (take n ts) ≡ n = omega (arith, length-take n ts) in
      let whole : take n ts ++ drop n ts ≡ ts = take-append-drop n ts in
      record {
        front = take n ts;
        rest = drop n ts;
        split = sym whole;
        is = place;
        begun = record { more = longest.begins.0; value = longest.begins.1; is = an_expression longest.begins.2 (alone_read (take n ts ++ longest.begins.0) longest.begins.1 None) };
        same = λ t us other e.
            let before : take n ts ++ t ∷ us ≡ ts = ap (λ v. take n ts ++ v) (sym e) ∙ whole in
            ap (λ r. tree_read r (take n ts ++ t ∷ other)) (facts.ahead (take n ts) us other t (ap expr_len before ∙ sym size) ∙ ap expr_read before ∙ h)
            ∙ ap Failed (place ∙ ap fault_at e);
      }

  expression_stops : (ts : List Lexeme) (fault : ParseFault) → AreLexemes ts → (r : Result (Expr × ℕ) ParseFault) → expr_read ts ≡ r → tree_read r ts ≡ Failed fault → Stopped expression_form ts fault
  expression_stops ts fault own (Ok read) e h = absurd (got_failed h)
  expression_stops ts fault own (Err inner) e h = refused_stops ts fault own (e ∙ ap Err (failed_fault h))

  expression_empty : (r : Result (Expr × ℕ) ParseFault) → expr_read [] ≡ r → tree_read r [] ≡ Failed End
  expression_empty (Ok read) e =
      let len : read.1 ≡ expr_len [] = subst (Placed []) e (facts.place []) in
      let within : expr_len [] ≤ 0 = facts.within [] in
      let some : 0 < read.1 = facts.some [] read.0 read.1 e in
      absurd (omega arith)
  expression_empty (Err fault) e =
      let place : fault ≡ fault_at (drop (expr_len []) []) = subst (Placed []) e (facts.place []) in
      ap Failed (place ∙ ap fault_at (drop_none (expr_len [])))

  expression_full : (ts : List Lexeme) (x : Expr) (b : Option Lexeme) (rest : List Lexeme) → b ≡ first rest None → ExpressionPhrase Before ts x b → expression_read (ts ++ rest) ≡ Got x rest
  expression_full ts x b rest e (an_expression d r) = ap (λ v. tree_read v (ts ++ rest)) (r refl rest (sym e)) ∙ ap (Got x) (drop-append_seam ts rest)

  expression_free : (m : Sight) (ts : List Lexeme) (x : Expr) (b c : Option Lexeme) → ExpressionPhrase m ts x b → ExpressionPhrase Alone ts x c
  expression_free m ts x b c (an_expression d r) = an_expression d (alone_read ts x c)

  last_read : (ts : List Lexeme) (x : Expr) → IsExpr 0 ts x → (rest : List Lexeme) → first rest None ≡ None → expr_read (ts ++ rest) ≡ Ok (x, length ts)
  last_read ts x d [] e = ap expr_read (append-nil ts) ∙ facts.last ts x d
  last_read ts x d (t ∷ rest) e = cc

  expression_ends : (ts : List Lexeme) (x : Expr) (b : Option Lexeme) → ExpressionPhrase Before ts x b → ExpressionPhrase Before ts x None
  expression_ends ts x b (an_expression d r) = an_expression d (λ m rest e. last_read ts x d rest e)

  pub expression_laws : Laws expression_form
  expression_laws = record {
    example = record { tokens = some_name ∷ []; value = _; is = an_expression (name_expr 0 some_name some_name-is) (alone_read (some_name ∷ []) _ None) };
    empty = inl (expression_empty (expr_read []) refl);
    free = expression_free Alone;
    wider = λ ts x b p. expression_free Before ts x b b p;
    ends = expression_ends;
    sound = λ ts x rest own h. expression_sound ts x rest own (expr_read ts) refl h;
    full = λ ts x rest p. inl (expression_full ts x (first rest None) rest refl p);
    stops = λ ts fault own h. inl (expression_stops ts fault own (expr_read ts) refl h);
    halts = λ front t other d. absurd d;
    begins = λ front t d. absurd d;
  }

  -- an expression before a token with which none goes on, and at the end
  before_read : (ts : List Lexeme) (x : Expr) (t : Lexeme) → IsExpr 0 ts x → EndsExpr t → (rest : List Lexeme) → first rest None ≡ Some t → expr_read (ts ++ rest) ≡ Ok (x, length ts)
  before_read ts x t d ends [] e = cc
  before_read ts x t d ends (u ∷ rest) e = ap (λ v. expr_read (ts ++ v ∷ rest)) (same_some e) ∙ facts.before ts rest t x d ends

  pub expression_before : (m : Sight) (ts : List Lexeme) (x : Expr) (t : Lexeme) → IsExpr 0 ts x → EndsExpr t → ExpressionPhrase m ts x (Some t)
  expression_before m ts x t d ends = an_expression d (λ e rest k. before_read ts x t d ends rest k)

  pub expression_last : (m : Sight) (ts : List Lexeme) (x : Expr) → IsExpr 0 ts x → ExpressionPhrase m ts x None
  expression_last m ts x d = an_expression d (λ e rest k. last_read ts x d rest k)

-- the words behind which no expression goes on, by their first byte: `)`, `]`, `,`, `:` and `;`
abbrev pub closes : List ℕ → Bool
closes [] = false
closes (b ∷ bs) = b == 41 || (b == 93 || (b == 44 || (b == 58 || b == 59)))

no_operator : (op : BinaryOp) → closes (binary_text op) ≡ false
no_operator binary.Mul = refl
no_operator binary.Add = refl
no_operator binary.Sub = refl
no_operator binary.ShiftLeft = refl
no_operator binary.ShiftRight = refl
no_operator binary.ArithmeticLeft = refl
no_operator binary.ArithmeticRight = refl
no_operator binary.Less = refl
no_operator binary.LessEqual = refl
no_operator binary.Greater = refl
no_operator binary.GreaterEqual = refl
no_operator binary.Equal = refl
no_operator binary.NotEqual = refl
no_operator binary.CaseEqual = refl
no_operator binary.CaseNotEqual = refl
no_operator binary.And = refl
no_operator binary.Xor = refl
no_operator binary.Xnor = refl
no_operator binary.XorNot = refl
no_operator binary.Or = refl
no_operator binary.LogicalAnd = refl
no_operator binary.LogicalOr = refl

apart : (t : Lexeme) (text : List ℕ) → closes t.text ≡ true → closes text ≡ false → IsSymbol t text → ⊥
apart t text e n h = let clash : true ≡ false = sym e ∙ ap closes h.1 ∙ n in cc

pub expression_ends_at : (w : Word) (t : Lexeme) → Is w t → closes (spelling w) ≡ true → EndsExpr t
expression_ends_at w t h e =
    let own : closes t.text ≡ true = ap closes h.text ∙ e in
    record {
      operator = λ op k. apart t (binary_text op) own (no_operator op) k;
      question = λ k. apart t (codes "?") own refl k;
      bracket = λ k. apart t (codes "[") own refl k;
      paren = λ k. apart t (codes "(") own refl k;
    }
