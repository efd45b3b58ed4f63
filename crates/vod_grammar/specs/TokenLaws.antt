-- Words, names and numbers.
use Rattle.std.proofs.Common.{◌≡◌, inl, inr, ℕ, List, [], ◌∷◌, ◌++◌, Option, None, Bool, true, false, cond, refl, sym, ◌∙◌, ap, subst}
use Rattle.vod_token.specs.Literal.{StandsFor, literal_of}
use Rattle.vod_token.specs.declared.TokenKind.TheVariants as kinds
use Rattle.vod_token.specs.declared.value.Literal.{Literal}
use Rattle.vod_tree.specs.declared.ident.Ident.{Ident}
use Rattle.vod_tree.specs.declared.ident.Number.{Number}
use Rattle.vod_expr.specs.Grammar.{Lexeme, IsLexeme, IsName, IsNumber, ident_of, number_from}
use Rattle.vod_expr.specs.NumberLaws.{numbered}
use Rattle.vod_expr_machine.specs.Numerals.{number_of}
use Rattle.vod_expr.specs.declared.ParseFault.{ParseFault}
use Rattle.vod_expr.specs.declared.ParseFault.TheVariants.{At, End}
use Rattle.vod_grammar.specs.Form.{Form, Sight, Alone, Before, WordPhrase, a_word, word_form, NamePhrase, a_name, name_form, NumberPhrase, a_number, number_form, NoPhrase, nothing, give}
use Rattle.vod_grammar.specs.Laws.{Laws, Example, Taken, Stopped, AreLexemes}
use Rattle.vod_grammar.specs.Read.{Got, Failed, first}
use Rattle.vod_grammar.specs.Words.{is_word, same_kind}
use Rattle.vod_grammar.specs.declared.word.Word.{Word}
use Rattle.vod_grammar.specs.FrontLaws.{got_value, got_rest, failed_fault, got_failed}
use Rattle.vod_grammar.specs.WordLaws.{word_is, is_word-is, word_token, word_token-is, kind_same}

-- a reader of one token, by a test of it
pub record OneToken {A : Type 0} (f : Form A) (test : Lexeme → Bool) (value : Lexeme → A) : Type 0 where
  pub ended : f.read [] ≡ Failed End
  pub yes : (t : Lexeme) (ts : List Lexeme) → test t ≡ true → f.read (t ∷ ts) ≡ Got (value t) ts
  pub no : (t : Lexeme) (ts : List Lexeme) → test t ≡ false → f.read (t ∷ ts) ≡ Failed (At t.place)
  pub into : (m : Sight) (t : Lexeme) (b : Option Lexeme) → IsLexeme t → test t ≡ true → f.phrase m (t ∷ []) (value t) b
  pub out : (m : Sight) (ts : List Lexeme) (x : A) (b : Option Lexeme) → f.phrase m ts x b → (t : Lexeme) × (ts ≡ t ∷ []) × (test t ≡ true) × (x ≡ value t)
  pub free : (m n : Sight) (ts : List Lexeme) (x : A) (b c : Option Lexeme) → f.phrase m ts x b → f.phrase n ts x c
  pub example : Example f.phrase
  pub shallow : (front : List Lexeme) (t : Lexeme) → f.deep front t → ⊥

module _ {A : Type 0} (f : Form A) (test : Lexeme → Bool) (value : Lexeme → A) (one : OneToken f test value) where
  one_sound : (ts : List Lexeme) (x : A) (rest : List Lexeme) → AreLexemes ts → f.read ts ≡ Got x rest → Taken f.phrase ts x rest
  one_sound [] x rest all h = absurd (got_failed (sym h ∙ one.ended))
  one_sound (t ∷ ts) x rest all h = by (test t) refl
    where
      by : (b : Bool) → test t ≡ b → Taken f.phrase (t ∷ ts) x rest
      by true e =
          let same : Got (value t) ts ≡ Got x rest = sym (one.yes t ts e) ∙ h in
          record { front = t ∷ []; split = ap (λ v. t ∷ v) (got_rest same); is = subst (λ v. f.phrase Before (t ∷ []) v (first rest None)) (got_value same) (one.into Before t (first rest None) all.0 e) }
      by false e = absurd (got_failed (sym h ∙ one.no t ts e))

  one_full : (ts : List Lexeme) (x : A) (b : Option Lexeme) (rest : List Lexeme) → f.phrase Before ts x b → f.read (ts ++ rest) ≡ Got x rest
  one_full ts x b rest p =
      let o = one.out Before ts x b p in
      ap (λ v. f.read (v ++ rest)) o.1 ∙ one.yes o.0 rest o.2 ∙ ap (λ v. Got v rest) (sym o.3)

  one_stops : (ts : List Lexeme) (fault : ParseFault) → f.read ts ≡ Failed fault → Stopped f ts fault
  one_stops [] fault h = record {
    front = [];
    rest = [];
    split = refl;
    is = failed_fault (sym h ∙ one.ended);
    begun = record { more = one.example.tokens; value = one.example.value; is = one.example.is };
    same = λ t us other e. cc;
  }
  one_stops (t ∷ ts) fault h = by (test t) refl
    where
      by : (b : Bool) → test t ≡ b → Stopped f (t ∷ ts) fault
      by true e = absurd (got_failed (sym (one.yes t ts e) ∙ h))
      by false e = record {
        front = [];
        rest = t ∷ ts;
        split = refl;
        is = failed_fault (sym h ∙ one.no t ts e);
        begun = record { more = one.example.tokens; value = one.example.value; is = one.example.is };
        same = λ u us other k. let same : t ≡ u = cc in ap (λ v. f.read (v ∷ other)) (sym same) ∙ one.no t other e ∙ ap (λ v. Failed (At v.place)) same;
      }

  pub one_laws : Laws f
  one_laws = record {
    example = one.example;
    empty = inl one.ended;
    free = λ ts x b c p. one.free Alone Alone ts x b c p;
    wider = λ ts x b p. one.free Before Alone ts x b b p;
    ends = λ ts x b p. one.free Before Before ts x b None p;
    sound = one_sound;
    full = λ ts x rest p. inl (one_full ts x (first rest None) rest p);
    stops = λ ts fault all h. inl (one_stops ts fault h);
    halts = λ front t other d. absurd (one.shallow front t d);
    begins = λ front t d. absurd (one.shallow front t d);
  }

-- a word
word_out : (w : Word) (m : Sight) (ts : List Lexeme) (x : ℕ) (b : Option Lexeme) → WordPhrase w m ts x b → (t : Lexeme) × (ts ≡ t ∷ []) × (is_word w t ≡ true) × (x ≡ t.place)
word_out w m ts x b (a_word {t = t} h) = (t, refl, is_word-is w t h, refl)

word_free : (w : Word) (m n : Sight) (ts : List Lexeme) (x : ℕ) (b c : Option Lexeme) → WordPhrase w m ts x b → WordPhrase w n ts x c
word_free w m n ts x b c (a_word h) = a_word h

pub word_laws : (w : Word) → Laws (word_form w)
word_laws w = one_laws (word_form w) (is_word w) (λ t. t.place) (record {
  ended = refl;
  yes = λ t ts e. ap (λ v. cond v (Got t.place ts) (Failed (At t.place))) e;
  no = λ t ts e. ap (λ v. cond v (Got t.place ts) (Failed (At t.place))) e;
  into = λ m t b own e. a_word (word_is w t e);
  out = word_out w;
  free = word_free w;
  example = record { tokens = word_token w ∷ []; value = (word_token w).place; is = a_word (word_token-is w) };
  shallow = λ front t d. d;
})

-- a name
name_out : (m : Sight) (ts : List Lexeme) (x : Ident) (b : Option Lexeme) → NamePhrase m ts x b → (t : Lexeme) × (ts ≡ t ∷ []) × (same_kind t.kind kinds.Name ≡ true) × (x ≡ ident_of t)
name_out m ts x b (a_name {t = t} h) = (t, refl, ap (λ k. same_kind k kinds.Name) h, refl)

name_free : (m n : Sight) (ts : List Lexeme) (x : Ident) (b c : Option Lexeme) → NamePhrase m ts x b → NamePhrase n ts x c
name_free m n ts x b c (a_name h) = a_name h

pub some_name : Lexeme
some_name = record { kind = kinds.Name; text = []; place = 0 }

pub some_name-is : IsName some_name
unfolding some_name
some_name-is = refl

pub name_laws : Laws name_form
name_laws = one_laws name_form (λ t. same_kind t.kind kinds.Name) ident_of (record {
  ended = refl;
  yes = λ t ts e. ap (λ v. cond v (Got (ident_of t) ts) (Failed (At t.place))) e;
  no = λ t ts e. ap (λ v. cond v (Got (ident_of t) ts) (Failed (At t.place))) e;
  into = λ m t b own e. a_name (kind_same t.kind kinds.Name e);
  out = name_out;
  free = name_free;
  example = record { tokens = some_name ∷ []; value = ident_of some_name; is = a_name some_name-is };
  shallow = λ front t d. d;
})

-- a number; a text stands for one at most
abbrev pub OneLiteral : Type 0
OneLiteral = (text : List ℕ) (n : Literal) → StandsFor text n → literal_of text ≡ n

number_is : OneLiteral → (t : Lexeme) (n : Number) → IsNumber t n → number_of t ≡ n
unfolding number_of
number_is one t n h = ap (number_from t.place) (one t.text h.1.0 h.1.1) ∙ sym h.1.2

number_out : OneLiteral → (m : Sight) (ts : List Lexeme) (x : Number) (b : Option Lexeme) → NumberPhrase m ts x b → (t : Lexeme) × (ts ≡ t ∷ []) × (same_kind t.kind kinds.Number ≡ true) × (x ≡ number_of t)
number_out one m ts x b (a_number {t = t} {n = n} h) = (t, refl, ap (λ k. same_kind k kinds.Number) h.0, sym (number_is one t n h))

number_free : (m n : Sight) (ts : List Lexeme) (x : Number) (b c : Option Lexeme) → NumberPhrase m ts x b → NumberPhrase n ts x c
number_free m n ts x b c (a_number h) = a_number h

number_into : OneLiteral → (m : Sight) (t : Lexeme) (b : Option Lexeme) → IsLexeme t → same_kind t.kind kinds.Number ≡ true → NumberPhrase m (t ∷ []) (number_of t) b
number_into one m t b own e =
    let n = numbered t own (kind_same t.kind kinds.Number e) in
    a_number (subst (IsNumber t) (sym (number_is one t n.0 n.1)) n.1)

pub number_laws : OneLiteral → Example number_form.phrase → Laws number_form
number_laws one example = one_laws number_form (λ t. same_kind t.kind kinds.Number) number_of (record {
  ended = refl;
  yes = λ t ts e. ap (λ v. cond v (Got (number_of t) ts) (Failed (At t.place))) e;
  no = λ t ts e. ap (λ v. cond v (Got (number_of t) ts) (Failed (At t.place))) e;
  into = number_into one;
  out = number_out one;
  free = number_free;
  example = example;
  shallow = λ front t d. d;
})

-- nothing is read
nothing_taken : {A : Type 0} (x : A) (ts : List Lexeme) (y : A) (rest : List Lexeme) → Got x ts ≡ Got y rest → Taken (give x).phrase ts y rest
nothing_taken x ts y rest h =
    let p : NoPhrase x Before [] x (first rest None) = nothing in
    record { front = []; split = got_rest h; is = subst (λ v. NoPhrase x Before [] v (first rest None)) (got_value h) p }

nothing_free : {A : Type 0} (x : A) (m n : Sight) (ts : List Lexeme) (y : A) (b c : Option Lexeme) → NoPhrase x m ts y b → NoPhrase x n ts y c
nothing_free x m n ts y b c nothing = nothing

nothing_full : {A : Type 0} (x : A) (m : Sight) (ts : List Lexeme) (y : A) (b : Option Lexeme) (rest : List Lexeme) → NoPhrase x m ts y b → Got x (ts ++ rest) ≡ Got y rest
nothing_full x m ts y b rest nothing = refl

pub give_laws : {A : Type 0} (x : A) → Laws (give x)
give_laws x = record {
  example = record { tokens = []; value = x; is = nothing };
  empty = inr (x, refl);
  free = λ ts y b c p. nothing_free x Alone Alone ts y b c p;
  wider = λ ts y b p. nothing_free x Before Alone ts y b b p;
  ends = λ ts y b p. nothing_free x Before Before ts y b None p;
  sound = λ ts y rest all h. nothing_taken x ts y rest h;
  full = λ ts y rest p. inl (nothing_full x Before ts y (first rest None) rest p);
  stops = λ ts fault all h. absurd (got_failed h);
  halts = λ front t other d. absurd d;
  begins = λ front t d. absurd d;
}
