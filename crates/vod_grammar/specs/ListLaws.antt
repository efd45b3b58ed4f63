-- Lists as they are written: each phrase behind the one before, and with `,` between.
use Rattle.std.proofs.Common.{◌≡◌, List, [], ◌∷◌, ◌++◌, Option, None, Some, Bool, true, false, refl, sym, ◌∙◌, subst, append_assoc, append-nil}
use Rattle.vod_tree.specs.declared.expr.Expr.{Expr}
use Rattle.vod_expr.specs.Grammar.{Lexeme, IsExpr, AreExprs, one as e_one, more as e_more}
use Rattle.vod_grammar.specs.ExpressionLaws.{closes}
use Rattle.vod_grammar.specs.Form.{Form, Phrase, Sight, Before, a_word, in_turn, RepeatedPhrase, no_more, one_more, repeated, behind, several, separated, expression_form, ExpressionPhrase, an_expression}
use Rattle.vod_grammar.specs.Read.{first, passes}
use Rattle.vod_grammar.specs.Words.{Is, is_word, spelling}
use Rattle.vod_grammar.specs.WordLaws.{is_word-is}
use Rattle.vod_grammar.specs.declared.word.Word.{Word}
use Rattle.vod_grammar.specs.declared.word.Word.TheVariants as words

-- one phrase or more, with `,` between
pub data Commas {A : Type 0} (P : Phrase A) : Sight → List Lexeme → List A → Option Lexeme → Type 0 where
  last : {m : Sight} {ts : List Lexeme} {x : A} {b : Option Lexeme} → (m ≡ Before → passes (is_word words.Comma) b ≡ false) → P m ts x b → Commas P m ts (x ∷ []) b
  next : {m : Sight} {us vs : List Lexeme} {t : Lexeme} {x : A} {xs : List A} {b : Option Lexeme}
      → Is words.Comma t → P m us x (Some t) → Commas P m vs xs b → Commas P m (us ++ t ∷ vs) (x ∷ xs) b

-- phrases while the next token passes a test, or none
pub data Many {A : Type 0} (test : Lexeme → Bool) (P : Phrase A) : Sight → List Lexeme → List A → Option Lexeme → Type 0 where
  none : {m : Sight} {b : Option Lexeme} → (m ≡ Before → passes test b ≡ false) → Many test P m [] [] b
  more : {m : Sight} {us vs : List Lexeme} {x : A} {xs : List A} {b : Option Lexeme}
      → (m ≡ Before → passes test (first us None) ≡ true) → P m us x (first vs b) → Many test P m vs xs b → Many test P m (us ++ vs) (x ∷ xs) b

-- one phrase, and others while the next token passes a test
pub data Several {A : Type 0} (test : Lexeme → Bool) (P : Phrase A) : Sight → List Lexeme → List A → Option Lexeme → Type 0 where
  some : {m : Sight} {us vs : List Lexeme} {x : A} {xs : List A} {b : Option Lexeme} → P m us x (first vs b) → Many test P m vs xs b → Several test P m (us ++ vs) (x ∷ xs) b

-- those behind others
record Behind {A : Type 0} (test : Lexeme → Bool) (P : Phrase A) (m : Sight) (sofar : List A) (ts : List Lexeme) (xs : List A) (b : Option Lexeme) : Type 0 where
  parts : List A
  all : xs ≡ sofar ++ parts
  many : Many test P m ts parts b

behind_of : {A : Type 0} (test : Lexeme → Bool) (P : Phrase A) (m : Sight) (sofar : List A) (ts : List Lexeme) (xs : List A) (b : Option Lexeme) → RepeatedPhrase test P m sofar ts xs b → Behind test P m sofar ts xs b
behind_of test P m sofar _ _ b (no_more stop) = record { parts = []; all = sym (append-nil sofar); many = none stop }
behind_of test P m sofar _ xs b (one_more {us = us} {vs = vs} {x = x} go p q) =
    let r = behind_of test P m (sofar ++ x ∷ []) vs xs b q in
    record { parts = x ∷ r.parts; all = r.all ∙ append_assoc sofar (x ∷ []) r.parts; many = more go p r.many }

of_behind : {A : Type 0} (test : Lexeme → Bool) (P : Phrase A) (m : Sight) (sofar : List A) (ts : List Lexeme) (xs : List A) (b : Option Lexeme) → Many test P m ts xs b → RepeatedPhrase test P m sofar ts (sofar ++ xs) b
of_behind test P m sofar _ _ b (none stop) =
    let p : RepeatedPhrase test P m sofar [] sofar b = no_more stop in
    subst (λ v. RepeatedPhrase test P m sofar [] v b) (sym (append-nil sofar)) p
of_behind test P m sofar _ _ b (more {us = us} {vs = vs} {x = x} {xs = xs} go p q) =
    subst (λ v. RepeatedPhrase test P m sofar (us ++ vs) v b) (append_assoc sofar (x ∷ []) xs) (one_more go p (of_behind test P m (sofar ++ x ∷ []) vs xs b q))

pub many_of : {A : Type 0} (test : Lexeme → Bool) (f : Form A) (m : Sight) (ts : List Lexeme) (xs : List A) (b : Option Lexeme) → (repeated test f []).phrase m ts xs b → Many test f.phrase m ts xs b
many_of test f m ts xs b p = let r = behind_of test f.phrase m [] ts xs b p in subst (λ v. Many test f.phrase m ts v b) (sym r.all) r.many

pub of_many : {A : Type 0} (test : Lexeme → Bool) (f : Form A) (m : Sight) (ts : List Lexeme) (xs : List A) (b : Option Lexeme) → Many test f.phrase m ts xs b → (repeated test f []).phrase m ts xs b
of_many test f m ts xs b p = of_behind test f.phrase m [] ts xs b p

pub several_of : {A : Type 0} (test : Lexeme → Bool) (f : Form A) (m : Sight) (ts : List Lexeme) (xs : List A) (b : Option Lexeme) → (several test f).phrase m ts xs b → Several test f.phrase m ts xs b
several_of test f m _ xs b (in_turn {us = us} {vs = vs} {x = x} p q) =
    let r = behind_of test f.phrase m (x ∷ []) vs xs b q in
    subst (λ v. Several test f.phrase m (us ++ vs) v b) (sym r.all) (some p r.many)

pub of_several : {A : Type 0} (test : Lexeme → Bool) (f : Form A) (m : Sight) (ts : List Lexeme) (xs : List A) (b : Option Lexeme) → Several test f.phrase m ts xs b → (several test f).phrase m ts xs b
of_several test f m _ _ b (some {vs = vs} {x = x} {xs = xs} p q) = in_turn p (of_behind test f.phrase m (x ∷ []) vs xs b q)

-- phrases behind commas, behind a first one
commas_from : {A : Type 0} (f : Form A) (m : Sight) (us : List Lexeme) (x : A) (vs : List Lexeme) (xs : List A) (b : Option Lexeme) → f.phrase m us x (first vs b)
    → Many (is_word words.Comma) (behind words.Comma f).phrase m vs xs b → Commas f.phrase m (us ++ vs) (x ∷ xs) b
commas_from f m us x _ _ b p (none stop) = subst (λ v. Commas f.phrase m v (x ∷ []) b) (sym (append-nil us)) (last stop p)
commas_from f m us x _ _ b p (more {vs = vs} {xs = xs} go (in_turn {vs = ws} {y = y} (a_word h) q) r) = next h p (commas_from f m ws y vs xs b q r)

record Parted {A : Type 0} (f : Form A) (m : Sight) (ts : List Lexeme) (xs : List A) (b : Option Lexeme) : Type 0 where
  us : List Lexeme
  vs : List Lexeme
  x : A
  ys : List A
  split : ts ≡ us ++ vs
  all : xs ≡ x ∷ ys
  one : f.phrase m us x (first vs b)
  rest : Many (is_word words.Comma) (behind words.Comma f).phrase m vs ys b

parted : {A : Type 0} (f : Form A) (m : Sight) (ts : List Lexeme) (xs : List A) (b : Option Lexeme) → Commas f.phrase m ts xs b → Parted f m ts xs b
parted f m ts _ b (last {x = x} stop p) = record { us = ts; vs = []; x = x; ys = []; split = sym (append-nil ts); all = refl; one = p; rest = none stop }
parted f m _ _ b (next {us = us} {vs = vs} {t = t} {x = x} {xs = xs} h p c) =
    let r = parted f m vs xs b c in
    record {
      us = us;
      vs = t ∷ vs;
      x = x;
      ys = xs;
      split = refl;
      all = refl;
      one = p;
      rest = subst (λ v. Many (is_word words.Comma) (behind words.Comma f).phrase m (t ∷ v) xs b) (sym r.split)
          (subst (λ v. Many (is_word words.Comma) (behind words.Comma f).phrase m (t ∷ (r.us ++ r.vs)) v b) (sym r.all)
          (more {us = t ∷ r.us} {vs = r.vs} (λ e. is_word-is words.Comma t h) (in_turn {us = t ∷ []} {vs = r.us} (a_word h) r.one) r.rest));
    }

pub commas_of : {A : Type 0} (f : Form A) (m : Sight) (ts : List Lexeme) (xs : List A) (b : Option Lexeme) → (separated f).phrase m ts xs b → Commas f.phrase m ts xs b
commas_of f m _ xs b (in_turn {us = us} {vs = vs} {x = x} p q) =
    let r = behind_of (is_word words.Comma) (behind words.Comma f).phrase m (x ∷ []) vs xs b q in
    subst (λ v. Commas f.phrase m (us ++ vs) v b) (sym r.all) (commas_from f m us x vs r.parts b p r.many)

pub of_commas : {A : Type 0} (f : Form A) (m : Sight) (ts : List Lexeme) (xs : List A) (b : Option Lexeme) → Commas f.phrase m ts xs b → (separated f).phrase m ts xs b
of_commas f m ts xs b c =
    let r = parted f m ts xs b c in
    subst (λ v. (separated f).phrase m v xs b) (sym r.split)
    (subst (λ v. (separated f).phrase m (r.us ++ r.vs) v b) (sym r.all)
    (in_turn r.one (of_behind (is_word words.Comma) (behind words.Comma f).phrase m (r.x ∷ []) r.vs r.ys b r.rest)))

-- lists of expressions
commas_exprs : (m : Sight) (ts : List Lexeme) (xs : List Expr) (b : Option Lexeme) → Commas ExpressionPhrase m ts xs b → AreExprs ts xs
commas_exprs m ts _ b (last {x = x} stop (an_expression d r)) = e_one ts x d
commas_exprs m _ _ b (next {us = us} {vs = vs} {t = t} {x = x} {xs = xs} h (an_expression d r) c) = e_more t us vs x xs (h.kind, h.text) d (commas_exprs m vs xs b c)

pub exprs_are : (m : Sight) (ts : List Lexeme) (xs : List Expr) (b : Option Lexeme) → (separated expression_form).phrase m ts xs b → AreExprs ts xs
exprs_are m ts xs b p = commas_exprs m ts xs b (commas_of expression_form m ts xs b p)

-- an expression before a token with which none goes on
abbrev pub ReadBefore : Type 0
ReadBefore = (m : Sight) (ts : List Lexeme) (x : Expr) (w : Word) (t : Lexeme) → IsExpr 0 ts x → Is w t → closes (spelling w) ≡ true → ExpressionPhrase m ts x (Some t)

exprs_commas : ReadBefore → (m : Sight) (ts : List Lexeme) (xs : List Expr) (w : Word) (t : Lexeme) → Is w t → closes (spelling w) ≡ true → is_word words.Comma t ≡ false → AreExprs ts xs → Commas ExpressionPhrase m ts xs (Some t)
exprs_commas read m ts _ w t h e n (e_one _ a d) = last (λ k. n) (read m ts a w t d h e)
exprs_commas read m _ _ w t h e n (e_more comma ts us a xs k d ds) =
    let is : Is words.Comma comma = record { kind = k.0; text = k.1 } in
    next is (read m ts a words.Comma comma d is refl) (exprs_commas read m us xs w t h e n ds)

pub are_exprs : ReadBefore → (m : Sight) (ts : List Lexeme) (xs : List Expr) (w : Word) (t : Lexeme) → Is w t → closes (spelling w) ≡ true → is_word words.Comma t ≡ false → AreExprs ts xs → (separated expression_form).phrase m ts xs (Some t)
are_exprs read m ts xs w t h e n ds = of_commas expression_form m ts xs (Some t) (exprs_commas read m ts xs w t h e n ds)
