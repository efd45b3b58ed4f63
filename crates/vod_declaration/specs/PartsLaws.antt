-- What the phrases of parts are, and which phrases such parts are.
use Rattle.std.proofs.Common.{◌≡◌, Bool, true, false, List, [], ◌∷◌, ◌++◌, Option, Some, refl, sym, ◌∙◌, ap, subst, append_assoc, append-nil}
use Rattle.vod_tree.specs.declared.expr.Expr.{Expr}
use Rattle.vod_tree.specs.declared.ident.Ident.{Ident}
use Rattle.vod_expr.specs.Grammar.{Lexeme, IsExpr, ident_of}
use Rattle.vod_grammar.specs.ExpressionLaws.{closes}
use Rattle.vod_grammar.specs.Form.{Form, Sight, ExpressionPhrase, a_word, a_name, an_expression, nothing as no_token, in_turn, changed, led, unled, no_more as no_part, one_more as one_part, word_form, name_form, expression_form, mapped, separated, flag}
use Rattle.vod_grammar.specs.FrontLaws.{first-append}
use Rattle.vod_grammar.specs.ListLaws.{ReadBefore}
use Rattle.vod_grammar.specs.Read.{first, passes}
use Rattle.vod_grammar.specs.WordLaws.{is_word-is, is_word-other, is_word-name}
use Rattle.vod_grammar.specs.Words.{Is, is_word, spelling, are_same}
use Rattle.vod_grammar.specs.declared.word.Word.{Word}
use Rattle.vod_grammar.specs.declared.word.Word.TheVariants as word
use Rattle.vod_declaration.specs.Parts.{IsIdent, IsFlag, AreFurther, AreListed, ident, absent, present, no_more, one_more, listed}
use Rattle.vod_declaration.specs.PartsForm.{further, listed as listed_form, enclosed}

-- A phrase whose value hangs on its last part alone is what is said of that part.
pub word_end : {A : Type 0} (w : Word) (x : A) (R : List Lexeme → A → Type 0) → ((t : Lexeme) → Is w t → R (t ∷ []) x)
    → (m : Sight) (ts : List Lexeme) (y : A) (b : Option Lexeme) → (mapped (λ _. x) (word_form w)).phrase m ts y b → R ts y
word_end w x R is m _ _ b (changed (a_word {t = t} h)) = is t h

pub name_end : {A : Type 0} (change : Ident → A) (R : List Lexeme → A → Type 0) → ((ts : List Lexeme) (n : Ident) → IsIdent ts n → R ts (change n))
    → (m : Sight) (ts : List Lexeme) (y : A) (b : Option Lexeme) → (mapped change name_form).phrase m ts y b → R ts y
name_end change R is m _ _ b (changed (a_name {t = t} h)) = is (t ∷ []) (ident_of t) (ident h)

pub expression_end : {A : Type 0} (change : Expr → A) (R : List Lexeme → A → Type 0) → ((ts : List Lexeme) (a : Expr) → IsExpr 0 ts a → R ts (change a))
    → (m : Sight) (ts : List Lexeme) (y : A) (b : Option Lexeme) → (mapped change expression_form).phrase m ts y b → R ts y
expression_end change R is m ts _ b (changed (an_expression {x = a} d r)) = is ts a d

pub part_end : {A B : Type 0} (change : A → B) (f : Form A) (R : List Lexeme → B → Type 0) (m : Sight) (b : Option Lexeme) → ((ts : List Lexeme) (x : A) → f.phrase m ts x b → R ts (change x))
    → (ts : List Lexeme) (y : B) → (mapped change f).phrase m ts y b → R ts y
part_end change f R m b is ts _ (changed {x = x} p) = is ts x p

-- tokens that the word doesn't begin, whatever follows
abbrev pub Avoids : Word → List Lexeme → Type 0
Avoids w ts = (b : Option Lexeme) → passes (is_word w) (first ts b) ≡ false

pub avoids_more : (w : Word) (ts us : List Lexeme) → Avoids w ts → Avoids w (ts ++ us)
avoids_more w ts us a b = ap (passes (is_word w)) (first-append ts us b) ∙ a (first us b)

-- such parts begin with no word
abbrev pub Unworded : {A : Type 0} → (List Lexeme → A → Type 0) → Type 0
Unworded {A} P = (w : Word) (ts : List Lexeme) (x : A) → P ts x → Avoids w ts

pub ident_unworded : Unworded IsIdent
ident_unworded w _ _ (ident {t = t} h) b = is_word-name w t h

pub listed_unworded : {A : Type 0} (P : List Lexeme → A → Type 0) → Unworded P → Unworded (AreListed P)
listed_unworded P un w _ _ (listed {ts = ts} {us = us} {x = x} d ds) = avoids_more w ts us (un w ts x d)

-- flags
pub flag_is : (w : Word) (m : Sight) (ts : List Lexeme) (x : Bool) (b : Option Lexeme) → (flag w).phrase m ts x b → IsFlag w ts x
flag_is w m _ _ b (led h no_token) = present h
flag_is w m _ _ b (unled n no_token) = absent

pub is_flag : (w : Word) (m : Sight) (ts : List Lexeme) (x : Bool) (b : Option Lexeme) → passes (is_word w) b ≡ false → IsFlag w ts x → (flag w).phrase m ts x b
is_flag w m _ _ b n absent = unled (λ e. n) no_token
is_flag w m _ _ b n (present h) = led h no_token

pub flag_avoids : (w v : Word) → are_same w v ≡ false → (ts : List Lexeme) (x : Bool) → IsFlag v ts x → (us : List Lexeme) → Avoids w us → Avoids w (ts ++ us)
flag_avoids w v e _ _ absent us a b = a b
flag_avoids w v e _ _ (present {t = t} h) us a b = is_word-other w v t h ∙ e

-- what may stand behind a name or an expression: neither goes on there
pub record Ends (b : Option Lexeme) : Type 0 where
  pub read : (m : Sight) (ts : List Lexeme) (x : Expr) → IsExpr 0 ts x → ExpressionPhrase m ts x b
  pub equals : passes (is_word word.Equals) b ≡ false
  pub bracket : passes (is_word word.OpenBracket) b ≡ false

pub ends_at : ReadBefore → (w : Word) (t : Lexeme) → Is w t → closes (spelling w) ≡ true → are_same word.Equals w ≡ false → are_same word.OpenBracket w ≡ false → Ends (Some t)
ends_at before w t h e n k = record {
  read = λ m ts x d. before m ts x w t d h e;
  equals = is_word-other word.Equals w t h ∙ n;
  bracket = is_word-other word.OpenBracket w t h ∙ k;
}

pub paren_ends : ReadBefore → (t : Lexeme) → Is word.CloseParen t → Ends (Some t)
paren_ends before t h = ends_at before word.CloseParen t h refl refl refl

pub semicolon_ends : ReadBefore → (t : Lexeme) → Is word.Semicolon t → Ends (Some t)
semicolon_ends before t h = ends_at before word.Semicolon t h refl refl refl

pub comma_ends : ReadBefore → (t : Lexeme) → Is word.Comma t → Ends (Some t)
comma_ends before t h = ends_at before word.Comma t h refl refl refl

-- the phrases of a form are such parts; and such parts are phrases, before what they may stand before
abbrev pub Are : {A : Type 0} → Form A → (List Lexeme → A → Type 0) → Type 0
Are {A} f P = (m : Sight) (ts : List Lexeme) (x : A) (b : Option Lexeme) → f.phrase m ts x b → P ts x

abbrev pub Of : {A : Type 0} → Form A → (List Lexeme → A → Type 0) → (Option Lexeme → Type 0) → Type 0
Of {A} f P E = (m : Sight) (ts : List Lexeme) (x : A) (b : Option Lexeme) → E b → P ts x → f.phrase m ts x b

pub idents_are : Are name_form IsIdent
idents_are m _ _ b (a_name h) = ident h

pub of_idents : Of name_form IsIdent (λ b. Unit {0})
of_idents m _ _ b e (ident h) = a_name h

-- parts behind others are these and further ones
record Behind {A : Type 0} (P : List Lexeme → A → Type 0) (sofar : List A) (ts : List Lexeme) (xs : List A) : Type 0 where
  parts : List A
  all : xs ≡ sofar ++ parts
  further : AreFurther P ts parts

module _ {A : Type 0} (f : Form A) (P : List Lexeme → A → Type 0) (is : Are f P) where
  behind_of : (m : Sight) (sofar : List A) (ts : List Lexeme) (xs : List A) (b : Option Lexeme) → (further f sofar).phrase m ts xs b → Behind P sofar ts xs
  behind_of m sofar _ _ b (no_part stop) = record { parts = []; all = sym (append-nil sofar); further = no_more }
  behind_of m sofar _ xs b (one_part {vs = vs} go (in_turn {vs = us} {y = x} (a_word k) p) q) =
      let r = behind_of m (sofar ++ x ∷ []) vs xs b q in
      record { parts = x ∷ r.parts; all = r.all ∙ append_assoc sofar (x ∷ []) r.parts; further = one_more k (is m us x (first vs b) p) r.further }

  pub listed_are : (m : Sight) (ts : List Lexeme) (xs : List A) (b : Option Lexeme) → (separated f).phrase m ts xs b → AreListed P ts xs
  listed_are m _ xs b (in_turn {us = us} {vs = vs} {x = x} p q) =
      let r = behind_of m (x ∷ []) vs xs b q in
      subst (λ v. AreListed P (us ++ vs) v) (sym r.all) (listed (is m us x (first vs b) p) r.further)

  pub listed_end : {B : Type 0} (change : List A → B) (R : List Lexeme → B → Type 0)
      → ((ts : List Lexeme) (xs : List A) (t : Lexeme) → AreListed P ts xs → Is word.Semicolon t → R (ts ++ t ∷ []) (change xs))
      → (m : Sight) (ts : List Lexeme) (y : B) (b : Option Lexeme) → (listed_form change f).phrase m ts y b → R ts y
  listed_end change R make m _ y b (in_turn {us = us} {vs = vs} {x = xs} p q) =
      word_end word.Semicolon (change xs) (λ ws z. R (us ++ ws) z) (λ t h. make us xs t (listed_are m us xs (first vs b) p) h) m vs y b q

  pub enclosed_end : (first_one : Form A) (Q : List Lexeme → A → Type 0) → Are first_one Q → (R : List Lexeme → List A → Type 0)
      → ((ts us : List Lexeme) (x : A) (xs : List A) (t : Lexeme) → Q ts x → AreFurther P us xs → Is word.CloseParen t → R (ts ++ (us ++ t ∷ [])) (x ∷ xs))
      → (m : Sight) (ts : List Lexeme) (y : List A) (b : Option Lexeme) → (enclosed first_one f).phrase m ts y b → R ts y
  enclosed_end first_one Q are R make m _ y b (in_turn {us = ts} {vs = ws} {x = x} p (in_turn {us = us} {vs = vs} {x = xs} q l)) =
      let r = behind_of m (x ∷ []) us xs (first vs b) q in
      word_end word.CloseParen xs (λ v z. R (ts ++ (us ++ v)) z)
      (λ t h. subst (λ v. R (ts ++ (us ++ t ∷ [])) v) (sym r.all) (make ts us x r.parts t (are m ts x (first ws b) p) r.further h)) m vs y b l

-- such parts are phrases, where a `,` may stand behind each
module _ {A : Type 0} (f : Form A) (P : List Lexeme → A → Type 0) (E : Option Lexeme → Type 0) (of : Of f P E) (commas : (t : Lexeme) → Is word.Comma t → E (Some t)) where
  further_ends : (ts : List Lexeme) (xs : List A) (b : Option Lexeme) → E b → AreFurther P ts xs → E (first ts b)
  further_ends _ _ b e no_more = e
  further_ends _ _ b e (one_more {comma = comma} k d ds) = commas comma k

  of_behind : (m : Sight) (sofar : List A) (ts : List Lexeme) (xs : List A) (b : Option Lexeme) → E b → passes (is_word word.Comma) b ≡ false → AreFurther P ts xs → (further f sofar).phrase m ts (sofar ++ xs) b
  of_behind m sofar _ _ b e n no_more =
      let p : (further f sofar).phrase m [] sofar b = no_part (λ k. n) in
      subst (λ v. (further f sofar).phrase m [] v b) (sym (append-nil sofar)) p
  of_behind m sofar _ _ b e n (one_more {comma = comma} {ts = ts} {us = us} {x = x} {xs = xs} k d ds) =
      subst (λ v. (further f sofar).phrase m (comma ∷ (ts ++ us)) v b) (append_assoc sofar (x ∷ []) xs)
      (one_part {us = comma ∷ ts} {vs = us} (λ z. is_word-is word.Comma comma k)
      (in_turn {us = comma ∷ []} {vs = ts} (a_word k) (of m ts x (first us b) (further_ends us xs b e ds) d)) (of_behind m (sofar ++ x ∷ []) us xs b e n ds))

  pub of_listed : (m : Sight) (ts : List Lexeme) (xs : List A) (b : Option Lexeme) → E b → passes (is_word word.Comma) b ≡ false → AreListed P ts xs → (separated f).phrase m ts xs b
  of_listed m _ _ b e n (listed {ts = ts} {us = us} {x = x} {xs = xs} d ds) = in_turn (of m ts x (first us b) (further_ends us xs b e ds) d) (of_behind m (x ∷ []) us xs b e n ds)

  pub is_listed : {B : Type 0} (change : List A → B) (m : Sight) (ts : List Lexeme) (xs : List A) (t : Lexeme) (b : Option Lexeme) → E (Some t) → AreListed P ts xs → Is word.Semicolon t
      → (listed_form change f).phrase m (ts ++ t ∷ []) (change xs) b
  is_listed change m ts xs t b e d h = in_turn (of_listed m ts xs (Some t) e (is_word-other word.Comma word.Semicolon t h) d) (changed (a_word h))

  pub is_enclosed : (first_one : Form A) (m : Sight) (ts us : List Lexeme) (x : A) (xs : List A) (t : Lexeme) (b : Option Lexeme)
      → E (Some t) → ((c : Option Lexeme) → E c → first_one.phrase m ts x c) → AreFurther P us xs → Is word.CloseParen t → (enclosed first_one f).phrase m (ts ++ (us ++ t ∷ [])) (x ∷ xs) b
  is_enclosed first_one m ts us x xs t b e p ds h =
      in_turn (p (first (us ++ t ∷ []) b) (subst E (sym (first-append us (t ∷ []) b)) (further_ends us xs (Some t) e ds)))
      (in_turn (of_behind m (x ∷ []) us xs (Some t) e (is_word-other word.Comma word.CloseParen t h) ds) (changed (a_word h)))
