-- Forms in which nothing is nested too deep, with their laws.
use Rattle.std.proofs.Common.{◌≡◌, ℕ, Bool, true, false, List, [], ◌∷◌, Option, refl}
use Rattle.vod_expr.specs.Grammar.{Lexeme}
use Rattle.vod_grammar.specs.EitherLaws.{either_laws}
use Rattle.vod_grammar.specs.Form.{Form, Before, a_word, in_turn, in_first, in_second, in_led, in_other, in_next, in_later, word_form, name_form, expression_form, give, then, mapped, either, behind, separated, flag, repeated}
use Rattle.vod_grammar.specs.Laws.{Laws}
use Rattle.vod_grammar.specs.PartLaws.{mapped_laws}
use Rattle.vod_grammar.specs.RepeatLaws.{HasToken, repeated_laws}
use Rattle.vod_grammar.specs.ThenLaws.{then_laws}
use Rattle.vod_grammar.specs.TokenLaws.{word_laws, name_laws, give_laws}
use Rattle.vod_grammar.specs.Words.{is_word}
use Rattle.vod_grammar.specs.declared.word.Word.{Word}
use Rattle.vod_grammar.specs.declared.word.Word.TheVariants as word
use Rattle.vod_declaration.specs.PartsForm.{further, listed, enclosed}

-- nothing is nested too deep
abbrev pub Shallow : {A : Type 0} → Form A → Type 0
Shallow f = (front : List Lexeme) (t : Lexeme) → f.deep front t → ⊥

pub record Flat {A : Type 0} (f : Form A) : Type 0 where
  pub laws : Laws f
  pub shallow : Shallow f

pub word_flat : (w : Word) → Flat (word_form w)
word_flat w = record { laws = word_laws w; shallow = λ front t d. d }

pub name_flat : Flat name_form
name_flat = record { laws = name_laws; shallow = λ front t d. d }

pub expression_flat : Laws expression_form → Flat expression_form
expression_flat le = record { laws = le; shallow = λ front t d. d }

pub give_flat : {A : Type 0} (x : A) → Flat (give x)
give_flat x = record { laws = give_laws x; shallow = λ front t d. d }

pub mapped_flat : {A B : Type 0} (change : A → B) (f : Form A) → Flat f → Flat (mapped change f)
mapped_flat change f lf = record { laws = mapped_laws change f lf.laws; shallow = lf.shallow }

then_shallow : {A B : Type 0} (f : Form A) (g : A → Form B) → Shallow f → ((x : A) → Shallow (g x)) → (front : List Lexeme) (t : Lexeme) → (then f g).deep front t → ⊥
then_shallow f g sf sg front t (in_first d) = sf front t d
then_shallow f g sf sg _ t (in_second {front = front} {x = x} p d) = sg x front t d

pub then_flat : {A B : Type 0} (f : Form A) (g : A → Form B) → Flat f → ((x : A) → Flat (g x)) → Flat (then f g)
then_flat f g lf lg = record { laws = then_laws f g lf.laws (λ x. (lg x).laws); shallow = then_shallow f g lf.shallow (λ x. (lg x).shallow) }

either_shallow : {A : Type 0} (w : Word) (f : ℕ → Form A) (g : Form A) → ((place : ℕ) → Shallow (f place)) → Shallow g → (front : List Lexeme) (t : Lexeme) → (either w f g).deep front t → ⊥
either_shallow w f g sf sg _ u (in_led {t = t} {front = front} h d) = sf t.place front u d
either_shallow w f g sf sg front u (in_other e d) = sg front u d

pub either_flat : {A : Type 0} (w : Word) (f : ℕ → Form A) (g : Form A) → ((place : ℕ) → Flat (f place)) → Flat g → Flat (either w f g)
either_flat w f g lf lg = record { laws = either_laws w f g (λ place. (lf place).laws) lg.laws; shallow = either_shallow w f g (λ place. (lf place).shallow) lg.shallow }

pub flag_flat : (w : Word) → Flat (flag w)
flag_flat w = either_flat w (λ _. give true) (give false) (λ _. give_flat true) (give_flat false)

repeated_shallow : {A : Type 0} (test : Lexeme → Bool) (f : Form A) (sofar : List A) → Shallow f → (front : List Lexeme) (t : Lexeme) → (repeated test f sofar).deep front t → ⊥
repeated_shallow test f sofar sf front t (in_next e d) = sf front t d
repeated_shallow test f sofar sf _ t (in_later {front = front} {x = x} e p d) = repeated_shallow test f sofar sf front t d

pub repeated_flat : {A : Type 0} (test : Lexeme → Bool) (f : Form A) (sofar : List A) → Flat f → HasToken f → Flat (repeated test f sofar)
repeated_flat test f sofar lf some = record { laws = repeated_laws test f lf.laws some sofar; shallow = repeated_shallow test f sofar lf.shallow }

-- a phrase behind a word has the word's token
behind_split : {A : Type 0} (w : Word) (f : Form A) (ts : List Lexeme) (x : A) (b : Option Lexeme) → (behind w f).phrase Before ts x b → ts ≡ [] → ⊥
behind_split w f _ x b (in_turn (a_word h) q) e = cc

pub behind_token : {A : Type 0} (w : Word) (f : Form A) → HasToken (behind w f)
behind_token w f x b p = behind_split w f [] x b p refl

pub behind_flat : {A : Type 0} (w : Word) (f : Form A) → Flat f → Flat (behind w f)
behind_flat w f lf = then_flat (word_form w) (λ _. f) (word_flat w) (λ _. lf)

pub further_flat : {A : Type 0} (f : Form A) → Flat f → (sofar : List A) → Flat (further f sofar)
further_flat f lf sofar = repeated_flat (is_word word.Comma) (behind word.Comma f) sofar (behind_flat word.Comma f lf) (behind_token word.Comma f)

pub separated_flat : {A : Type 0} (f : Form A) → Flat f → Flat (separated f)
separated_flat f lf = then_flat f (λ x. further f (x ∷ [])) lf (λ x. further_flat f lf (x ∷ []))

pub listed_flat : {A B : Type 0} (change : List A → B) (f : Form A) → Flat f → Flat (listed change f)
listed_flat change f lf =
    then_flat (separated f) (λ xs. mapped (λ _. change xs) (word_form word.Semicolon)) (separated_flat f lf)
    (λ xs. mapped_flat (λ _. change xs) (word_form word.Semicolon) (word_flat word.Semicolon))

pub enclosed_flat : {A : Type 0} (first other : Form A) → Flat first → Flat other → Flat (enclosed first other)
enclosed_flat first other lf lo =
    then_flat first (λ x. then (further other (x ∷ [])) (λ xs. mapped (λ _. xs) (word_form word.CloseParen))) lf
    (λ x. then_flat (further other (x ∷ [])) (λ xs. mapped (λ _. xs) (word_form word.CloseParen)) (further_flat other lo (x ∷ []))
    (λ xs. mapped_flat (λ _. xs) (word_form word.CloseParen) (word_flat word.CloseParen)))
