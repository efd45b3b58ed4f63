-- Forms of phrases: how they are read, and which tokens they are.
use Rattle.std.specs.Prelude.{◌≡◌, ℕ, Bool, true, false, List, [], ◌∷◌, ◌++◌, Option, None, Some, Ok, length}
use Rattle.vod_tree.specs.declared.expr.Expr.{Expr}
use Rattle.vod_tree.specs.declared.ident.Ident.{Ident}
use Rattle.vod_tree.specs.declared.ident.Number.{Number}
use Rattle.vod_expr.specs.Answer.{expr_read}
use Rattle.vod_expr.specs.Grammar.{Lexeme, IsName, IsNumber, IsExpr, ident_of}
use Rattle.vod_expr.specs.declared.ParseFault.TheVariants.{Statement}
use Rattle.vod_grammar.specs.Words.{Is, is_word}
use Rattle.vod_grammar.specs.Read as reads
use Rattle.vod_grammar.specs.Read.{Read, Failed, Reading, first, passes}
use Rattle.vod_grammar.specs.declared.word.Word.{Word}
use Rattle.vod_grammar.specs.declared.word.Word.TheVariants as words

-- how closely tokens are looked at: alone, or with the token behind them, with which a reader has to stop
pub data Sight : Type 0 where
  Alone : Sight
  Before : Sight

-- which tokens are a phrase of which value, before some token or the end
abbrev pub Phrase : Type 0 → Type 1
Phrase A = Sight → List Lexeme → A → Option Lexeme → Type 0

-- behind which tokens one begins a part that is nested too deep
abbrev pub Depth : Type 1
Depth = List Lexeme → Lexeme → Type 0

pub record Form (A : Type 0) : Type 1 where
  pub read : Reading A
  pub phrase : Phrase A
  pub deep : Depth

-- nothing is nested too deep
abbrev pub never : Depth
never front t = ⊥

-- a word, as its place
pub data WordPhrase (w : Word) : Sight → List Lexeme → ℕ → Option Lexeme → Type 0 where
  a_word : {m : Sight} {t : Lexeme} {b : Option Lexeme} → Is w t → WordPhrase w m (t ∷ []) t.place b

abbrev pub word_form : Word → Form ℕ
word_form w = record { read = reads.word_read w; phrase = WordPhrase w; deep = never }

pub data NamePhrase : Sight → List Lexeme → Ident → Option Lexeme → Type 0 where
  a_name : {m : Sight} {t : Lexeme} {b : Option Lexeme} → IsName t → NamePhrase m (t ∷ []) (ident_of t) b

abbrev pub name_form : Form Ident
name_form = record { read = reads.name_read; phrase = NamePhrase; deep = never }

pub data NumberPhrase : Sight → List Lexeme → Number → Option Lexeme → Type 0 where
  a_number : {m : Sight} {t : Lexeme} {b : Option Lexeme} {n : Number} → IsNumber t n → NumberPhrase m (t ∷ []) n b

abbrev pub number_form : Form Number
number_form = record { read = reads.number_read; phrase = NumberPhrase; deep = never }

-- an expression, behind which the reader stops at this token
abbrev pub ReadTo : Sight → List Lexeme → Expr → Option Lexeme → Type 0
ReadTo m ts x b = m ≡ Before → (rest : List Lexeme) → first rest None ≡ b → expr_read (ts ++ rest) ≡ Ok (x, length ts)

pub data ExpressionPhrase : Sight → List Lexeme → Expr → Option Lexeme → Type 0 where
  an_expression : {m : Sight} {ts : List Lexeme} {x : Expr} {b : Option Lexeme} → IsExpr 0 ts x → ReadTo m ts x b → ExpressionPhrase m ts x b

abbrev pub expression_form : Form Expr
expression_form = record { read = reads.expression_read; phrase = ExpressionPhrase; deep = never }

-- no token
pub data NoPhrase {A : Type 0} (x : A) : Sight → List Lexeme → A → Option Lexeme → Type 0 where
  nothing : {m : Sight} {b : Option Lexeme} → NoPhrase x m [] x b

abbrev pub give : {A : Type 0} → A → Form A
give x = record { read = reads.give x; phrase = NoPhrase x; deep = never }

-- one phrase, and behind it another
pub data ThenPhrase {A B : Type 0} (P : Phrase A) (Q : A → Phrase B) : Sight → List Lexeme → B → Option Lexeme → Type 0 where
  in_turn : {m : Sight} {us vs : List Lexeme} {x : A} {y : B} {b : Option Lexeme} → P m us x (first vs b) → Q x m vs y b → ThenPhrase P Q m (us ++ vs) y b

pub data ThenDeep {A : Type 0} (P : Phrase A) (D : Depth) (E : A → Depth) : List Lexeme → Lexeme → Type 0 where
  in_first : {front : List Lexeme} {t : Lexeme} → D front t → ThenDeep P D E front t
  in_second : {us front : List Lexeme} {x : A} {t : Lexeme} → P Before us x (first front (Some t)) → E x front t → ThenDeep P D E (us ++ front) t

abbrev pub then : {A B : Type 0} → Form A → (A → Form B) → Form B
then f g = record {
  read = reads.bind f.read (λ x. (g x).read);
  phrase = ThenPhrase f.phrase (λ x. (g x).phrase);
  deep = ThenDeep f.phrase f.deep (λ x. (g x).deep);
}

-- The same, as a phrase that may be told apart from its parts: where the first part is one that the second can follow.
abbrev pub closed : {A B : Type 0} → Form A → (A → Form B) → Phrase B → Form B
closed f g R = record { read = (then f g).read; phrase = R; deep = (then f g).deep }

-- a phrase with another value
pub data MappedPhrase {A B : Type 0} (change : A → B) (P : Phrase A) : Sight → List Lexeme → B → Option Lexeme → Type 0 where
  changed : {m : Sight} {ts : List Lexeme} {x : A} {b : Option Lexeme} → P m ts x b → MappedPhrase change P m ts (change x) b

abbrev pub mapped : {A B : Type 0} → (A → B) → Form A → Form B
mapped change f = record { read = reads.bind f.read (λ x. reads.give (change x)); phrase = MappedPhrase change f.phrase; deep = f.deep }

-- a phrase with a value that hangs on the place of its first token too
pub data PlacedPhrase {A B : Type 0} (change : ℕ → A → B) (P : Phrase A) : Sight → List Lexeme → B → Option Lexeme → Type 0 where
  put : {m : Sight} {ts : List Lexeme} {x : A} {b : Option Lexeme} → P m ts x b → PlacedPhrase change P m ts (change (reads.place_of ts) x) b

abbrev pub placed : {A B : Type 0} → (ℕ → A → B) → Form A → Form B
placed change f = record { read = reads.placed change f.read; phrase = PlacedPhrase change f.phrase; deep = f.deep }

-- a phrase with a value that hangs on how many tokens it has too
pub data CountedPhrase {A B : Type 0} (change : ℕ → A → B) (P : Phrase A) : Sight → List Lexeme → B → Option Lexeme → Type 0 where
  numbered : {m : Sight} {ts : List Lexeme} {x : A} {b : Option Lexeme} → P m ts x b → CountedPhrase change P m ts (change (length ts) x) b

abbrev pub counted : {A B : Type 0} → (ℕ → A → B) → Form A → Form B
counted change f = record { read = reads.counted change f.read; phrase = CountedPhrase change f.phrase; deep = f.deep }

-- what a word begins, or else another phrase, which the word doesn't begin
pub data EitherPhrase {A : Type 0} (w : Word) (P : ℕ → Phrase A) (Q : Phrase A) : Sight → List Lexeme → A → Option Lexeme → Type 0 where
  led : {m : Sight} {t : Lexeme} {ts : List Lexeme} {x : A} {b : Option Lexeme} → Is w t → P t.place m ts x b → EitherPhrase w P Q m (t ∷ ts) x b
  unled : {m : Sight} {ts : List Lexeme} {x : A} {b : Option Lexeme} → (m ≡ Before → passes (is_word w) (first ts b) ≡ false) → Q m ts x b → EitherPhrase w P Q m ts x b

pub data EitherDeep (w : Word) (D : ℕ → Depth) (E : Depth) : List Lexeme → Lexeme → Type 0 where
  in_led : {t : Lexeme} {front : List Lexeme} {u : Lexeme} → Is w t → D t.place front u → EitherDeep w D E (t ∷ front) u
  in_other : {front : List Lexeme} {u : Lexeme} → passes (is_word w) (first front (Some u)) ≡ false → E front u → EitherDeep w D E front u

abbrev pub either : {A : Type 0} → Word → (ℕ → Form A) → Form A → Form A
either w f g = record {
  read = reads.either w (λ place. (f place).read) g.read;
  phrase = EitherPhrase w (λ place. (f place).phrase) g.phrase;
  deep = EitherDeep w (λ place. (f place).deep) g.deep;
}

-- the one phrase where its first token passes a test, or else the other
pub data ChosenPhrase {A : Type 0} (test : Lexeme → Bool) (P Q : Phrase A) : Sight → List Lexeme → A → Option Lexeme → Type 0 where
  the_one : {m : Sight} {ts : List Lexeme} {x : A} {b : Option Lexeme} → (m ≡ Before → passes test (first ts None) ≡ true) → P m ts x b → ChosenPhrase test P Q m ts x b
  the_other : {m : Sight} {ts : List Lexeme} {x : A} {b : Option Lexeme} → (m ≡ Before → passes test (first ts b) ≡ false) → Q m ts x b → ChosenPhrase test P Q m ts x b

pub data ChosenDeep (test : Lexeme → Bool) (D E : Depth) : List Lexeme → Lexeme → Type 0 where
  in_the_one : {front : List Lexeme} {u : Lexeme} → passes test (first front (Some u)) ≡ true → D front u → ChosenDeep test D E front u
  in_the_other : {front : List Lexeme} {u : Lexeme} → passes test (first front (Some u)) ≡ false → E front u → ChosenDeep test D E front u

abbrev pub choose : {A : Type 0} → (Lexeme → Bool) → Form A → Form A → Form A
choose test f g = record { read = reads.choose test f.read g.read; phrase = ChosenPhrase test f.phrase g.phrase; deep = ChosenDeep test f.deep g.deep }

-- phrases behind those that were read, while the next token passes a test
pub data RepeatedPhrase {A : Type 0} (test : Lexeme → Bool) (P : Phrase A) (m : Sight) : List A → List Lexeme → List A → Option Lexeme → Type 0 where
  no_more : {sofar : List A} {b : Option Lexeme} → (m ≡ Before → passes test b ≡ false) → RepeatedPhrase test P m sofar [] sofar b
  one_more : {sofar : List A} {us vs : List Lexeme} {x : A} {xs : List A} {b : Option Lexeme}
      → (m ≡ Before → passes test (first us None) ≡ true) → P m us x (first vs b)
      → RepeatedPhrase test P m (sofar ++ x ∷ []) vs xs b → RepeatedPhrase test P m sofar (us ++ vs) xs b

pub data RepeatedDeep {A : Type 0} (test : Lexeme → Bool) (P : Phrase A) (D : Depth) : List Lexeme → Lexeme → Type 0 where
  in_next : {front : List Lexeme} {t : Lexeme} → passes test (first front (Some t)) ≡ true → D front t → RepeatedDeep test P D front t
  in_later : {us front : List Lexeme} {x : A} {t : Lexeme} → passes test (first us None) ≡ true → P Before us x (first front (Some t))
      → RepeatedDeep test P D front t → RepeatedDeep test P D (us ++ front) t

abbrev pub repeated : {A : Type 0} → (Lexeme → Bool) → Form A → List A → Form (List A)
repeated test f sofar = record {
  read = reads.repeat test f.read sofar;
  phrase = λ m ts xs b. RepeatedPhrase test f.phrase m sofar ts xs b;
  deep = RepeatedDeep test f.phrase f.deep;
}

-- the same, where the form of each hangs on those before it
pub data RepeatedByPhrase {A : Type 0} (test : Lexeme → Bool) (P : List A → Phrase A) (m : Sight) : List A → List Lexeme → List A → Option Lexeme → Type 0 where
  at_last : {sofar : List A} {b : Option Lexeme} → (m ≡ Before → passes test b ≡ false) → RepeatedByPhrase test P m sofar [] sofar b
  one_on : {sofar : List A} {us vs : List Lexeme} {x : A} {xs : List A} {b : Option Lexeme}
      → (m ≡ Before → passes test (first us None) ≡ true) → P sofar m us x (first vs b)
      → RepeatedByPhrase test P m (sofar ++ x ∷ []) vs xs b → RepeatedByPhrase test P m sofar (us ++ vs) xs b

pub data RepeatedByDeep {A : Type 0} (test : Lexeme → Bool) (P : List A → Phrase A) (D : List A → Depth) : List A → List Lexeme → Lexeme → Type 0 where
  in_nearest : {sofar : List A} {front : List Lexeme} {t : Lexeme} → passes test (first front (Some t)) ≡ true → D sofar front t → RepeatedByDeep test P D sofar front t
  in_further : {sofar : List A} {us front : List Lexeme} {x : A} {t : Lexeme} → passes test (first us None) ≡ true → P sofar Before us x (first front (Some t))
      → RepeatedByDeep test P D (sofar ++ x ∷ []) front t → RepeatedByDeep test P D sofar (us ++ front) t

abbrev pub repeated_by : {A : Type 0} → (Lexeme → Bool) → (List A → Form A) → List A → Form (List A)
repeated_by test f sofar = record {
  read = reads.repeat_by test (λ before. (f before).read) sofar;
  phrase = λ m ts xs b. RepeatedByPhrase test (λ before. (f before).phrase) m sofar ts xs b;
  deep = RepeatedByDeep test (λ before. (f before).phrase) (λ before. (f before).deep) sofar;
}

-- a phrase behind a word
abbrev pub behind : {A : Type 0} → Word → Form A → Form A
behind w f = then (word_form w) (λ _. f)

-- one phrase, and others while the next token passes a test
abbrev pub several : {A : Type 0} → (Lexeme → Bool) → Form A → Form (List A)
several test f = then f (λ x. repeated test f (x ∷ []))

-- one phrase or more, with `,` between
abbrev pub separated : {A : Type 0} → Form A → Form (List A)
separated f = then f (λ x. repeated (is_word words.Comma) (behind words.Comma f) (x ∷ []))

-- whether a word stands there
abbrev pub flag : Word → Form Bool
flag w = either w (λ _. give true) (give false)

-- a phrase that is nested too deep where it begins: a token that passes a test begins one
abbrev pub too_deep : (Lexeme → Bool) → Depth
too_deep test front t = (front ≡ []) × (test t ≡ true)

abbrev pub refuse_by : {A : Type 0} → Bool → Lexeme → Read A
refuse_by true t = Failed (Statement t.place)
refuse_by false t = reads.refuse (t ∷ [])

abbrev pub limit_read : {A : Type 0} → (Lexeme → Bool) → Reading A
limit_read test [] = reads.refuse []
limit_read test (t ∷ ts) = refuse_by (test t) t

abbrev pub limit : {A : Type 0} → (Lexeme → Bool) → Phrase A → Form A
limit test P = record { read = limit_read test; phrase = P; deep = too_deep test }
