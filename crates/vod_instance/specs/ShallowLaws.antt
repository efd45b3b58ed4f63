-- Forms with no part that may be nested too deep.
use Rattle.std.proofs.Common.{ℕ, List, ◌∷◌, [], Bool}
use Rattle.vod_expr.specs.Grammar.{Lexeme}
use Rattle.vod_grammar.specs.Form.{Form, then, in_first, in_second, either, in_led, in_other, repeated, in_next, in_later, behind, separated, give, mapped, word_form, name_form, expression_form}
use Rattle.vod_grammar.specs.Words.{is_word}
use Rattle.vod_grammar.specs.declared.word.Word.{Word}
use Rattle.vod_grammar.specs.declared.word.Word.TheVariants as word

-- nothing is nested too deep
pub record Shallow {A : Type 0} (f : Form A) : Type 0 where
  pub none : (front : List Lexeme) (t : Lexeme) → f.deep front t → ⊥

pub word_shallow : (w : Word) → Shallow (word_form w)
word_shallow w = record { none = λ front t d. d }

pub name_shallow : Shallow name_form
name_shallow = record { none = λ front t d. d }

pub expression_shallow : Shallow expression_form
expression_shallow = record { none = λ front t d. d }

pub give_shallow : {A : Type 0} (x : A) → Shallow (give x)
give_shallow x = record { none = λ front t d. d }

pub mapped_shallow : {A B : Type 0} (change : A → B) (f : Form A) → Shallow f → Shallow (mapped change f)
mapped_shallow change f sf = record { none = sf.none }

then_none : {A B : Type 0} (f : Form A) (g : A → Form B) → Shallow f → ((x : A) → Shallow (g x)) → (front : List Lexeme) (t : Lexeme) → (then f g).deep front t → ⊥
then_none f g sf sg front t (in_first d) = sf.none front t d
then_none f g sf sg _ t (in_second {front = front} {x = x} p d) = (sg x).none front t d

pub then_shallow : {A B : Type 0} (f : Form A) (g : A → Form B) → Shallow f → ((x : A) → Shallow (g x)) → Shallow (then f g)
then_shallow f g sf sg = record { none = then_none f g sf sg }

either_none : {A : Type 0} (w : Word) (f : ℕ → Form A) (g : Form A) → ((place : ℕ) → Shallow (f place)) → Shallow g → (front : List Lexeme) (u : Lexeme) → (either w f g).deep front u → ⊥
either_none w f g sf sg _ u (in_led {t = t} {front = front} h d) = (sf t.place).none front u d
either_none w f g sf sg front u (in_other e d) = sg.none front u d

pub either_shallow : {A : Type 0} (w : Word) (f : ℕ → Form A) (g : Form A) → ((place : ℕ) → Shallow (f place)) → Shallow g → Shallow (either w f g)
either_shallow w f g sf sg = record { none = either_none w f g sf sg }

repeated_none : {A : Type 0} (test : Lexeme → Bool) (f : Form A) (sofar : List A) → Shallow f → (front : List Lexeme) (t : Lexeme) → (repeated test f sofar).deep front t → ⊥
repeated_none test f sofar sf front t (in_next e d) = sf.none front t d
repeated_none test f sofar sf _ t (in_later {front = front} e p d) = repeated_none test f sofar sf front t d

pub repeated_shallow : {A : Type 0} (test : Lexeme → Bool) (f : Form A) (sofar : List A) → Shallow f → Shallow (repeated test f sofar)
repeated_shallow test f sofar sf = record { none = repeated_none test f sofar sf }

-- each further one behind its `,`
pub further_shallow : {A : Type 0} (f : Form A) (sofar : List A) → Shallow f → Shallow (repeated (is_word word.Comma) (behind word.Comma f) sofar)
further_shallow f sofar sf = repeated_shallow (is_word word.Comma) (behind word.Comma f) sofar (then_shallow (word_form word.Comma) (λ _. f) (word_shallow word.Comma) (λ _. sf))

pub separated_shallow : {A : Type 0} (f : Form A) → Shallow f → Shallow (separated f)
separated_shallow f sf = then_shallow f (λ x. repeated (is_word word.Comma) (behind word.Comma f) (x ∷ [])) sf (λ x. further_shallow f (x ∷ []) sf)
