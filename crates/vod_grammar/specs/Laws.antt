-- What holds of a form: its reader and its phrases agree.
use Rattle.std.specs.Prelude.{◌≡◌, ◌⊎◌, ℕ, List, [], ◌∷◌, ◌++◌, Option, None, Some}
use Rattle.std.specs.List.{AllByRecursion}
use Rattle.vod_expr.specs.Answer.{fault_at}
use Rattle.vod_expr.specs.Grammar.{Lexeme, IsLexeme}
use Rattle.vod_expr.specs.declared.ParseFault.{ParseFault}
use Rattle.vod_expr.specs.declared.ParseFault.TheVariants.{At, End, Statement}
use Rattle.vod_grammar.specs.Form.{Form, Phrase, Depth, Alone, Before, ThenPhrase}
use Rattle.vod_grammar.specs.Read.{Got, Failed, first}

-- tokens of a source, as far as expressions see them
abbrev pub AreLexemes : List Lexeme → Type 0
AreLexemes ts = AllByRecursion IsLexeme ts

-- some tokens are a phrase
pub record Example {A : Type 0} (P : Phrase A) : Type 0 where
  pub tokens : List Lexeme
  pub value : A
  pub is : P Alone tokens value None

-- a phrase begins with these tokens
pub record Begun {A : Type 0} (P : Phrase A) (front : List Lexeme) : Type 0 where
  pub more : List Lexeme
  pub value : A
  pub is : P Alone (front ++ more) value None

-- a phrase stands before the rest of the tokens
pub record Taken {A : Type 0} (P : Phrase A) (ts : List Lexeme) (x : A) (rest : List Lexeme) : Type 0 where
  pub front : List Lexeme
  pub split : ts ≡ front ++ rest
  pub is : P Before front x (first rest None)

-- A phrase begins with the tokens before the fault, and the reader stops at the token there, whatever follows it.
pub record Stopped {A : Type 0} (f : Form A) (ts : List Lexeme) (fault : ParseFault) : Type 0 where
  pub front : List Lexeme
  pub rest : List Lexeme
  pub split : ts ≡ front ++ rest
  pub is : fault ≡ fault_at rest
  pub begun : Begun f.phrase front
  pub same : (t : Lexeme) (us other : List Lexeme) → rest ≡ t ∷ us → f.read (front ++ t ∷ other) ≡ Failed (At t.place)

-- these tokens end before the phrase does, or are it whole
abbrev pub Unfinished : {A : Type 0} → Form A → List Lexeme → Type 0
Unfinished {A} f ts = (f.read ts ≡ Failed End) ⊎ ((x : A) × (f.read ts ≡ Got x []))

-- A part that is nested too deep begins with this token, and the reader stops there, whatever follows, and not before.
pub record Halted {A : Type 0} (f : Form A) (ts : List Lexeme) (fault : ParseFault) : Type 0 where
  pub front : List Lexeme
  pub token : Lexeme
  pub rest : List Lexeme
  pub split : ts ≡ front ++ token ∷ rest
  pub is : fault ≡ Statement token.place
  pub deep : f.deep front token
  pub same : (other : List Lexeme) → f.read (front ++ token ∷ other) ≡ Failed (Statement token.place)
  pub ahead : Unfinished f front

-- a part is nested too deep
pub record Passed (D : Depth) (ts : List Lexeme) : Type 0 where
  pub front : List Lexeme
  pub token : Lexeme
  pub rest : List Lexeme
  pub split : ts ≡ front ++ token ∷ rest
  pub deep : D front token

pub record Laws {A : Type 0} (f : Form A) : Type 0 where
  pub example : Example f.phrase
  pub empty : Unfinished f []
  -- alone, the token behind doesn't count
  pub free : (ts : List Lexeme) (x : A) (b c : Option Lexeme) → f.phrase Alone ts x b → f.phrase Alone ts x c
  pub wider : (ts : List Lexeme) (x : A) (b : Option Lexeme) → f.phrase Before ts x b → f.phrase Alone ts x b
  pub ends : (ts : List Lexeme) (x : A) (b : Option Lexeme) → f.phrase Before ts x b → f.phrase Before ts x None
  -- what is read is a phrase, and a phrase is read where nothing in it is nested too deep
  pub sound : (ts : List Lexeme) (x : A) (rest : List Lexeme) → AreLexemes ts → f.read ts ≡ Got x rest → Taken f.phrase ts x rest
  pub full : (ts : List Lexeme) (x : A) (rest : List Lexeme) → f.phrase Before ts x (first rest None) → (f.read (ts ++ rest) ≡ Got x rest) ⊎ Passed f.deep ts
  pub stops : (ts : List Lexeme) (fault : ParseFault) → AreLexemes ts → f.read ts ≡ Failed fault → Stopped f ts fault ⊎ Halted f ts fault
  -- where a part is nested too deep the reader has stopped, and a phrase begins so
  pub halts : (front : List Lexeme) (t : Lexeme) (other : List Lexeme) → f.deep front t → (place : ℕ) × (f.read (front ++ t ∷ other) ≡ Failed (Statement place))
  pub begins : (front : List Lexeme) (t : Lexeme) → f.deep front t → Begun f.phrase (front ++ t ∷ [])

-- A phrase R of two parts, one behind the other. Before some token it is its parts; alone it may ask more of the first part,
-- so it is said how it goes on where the first part ends, and what it is with the second.
pub record Closes {A B : Type 0} (f : Form A) (g : A → Form B) (R : Phrase B) : Type 0 where
  pub into : (ts : List Lexeme) (y : B) (b : Option Lexeme) → ThenPhrase f.phrase (λ x. (g x).phrase) Before ts y b → R Before ts y b
  pub parts : (ts : List Lexeme) (y : B) (b : Option Lexeme) → R Before ts y b → ThenPhrase f.phrase (λ x. (g x).phrase) Before ts y b
  pub free : (ts : List Lexeme) (y : B) (b c : Option Lexeme) → R Alone ts y b → R Alone ts y c
  pub wider : (ts : List Lexeme) (y : B) (b : Option Lexeme) → R Before ts y b → R Alone ts y b
  pub close : (us : List Lexeme) (x : A) → f.phrase Alone us x None → Begun R us
  pub join : (us : List Lexeme) (x : A) (t : Lexeme) (vs : List Lexeme) (y : B) → f.phrase Before us x (Some t) → (g x).phrase Alone (t ∷ vs) y None → R Alone (us ++ t ∷ vs) y None
