-- The places at which a source isn't of the thin form.
use Rattle.std.specs.Prelude.{◌≡◌, ℕ, ◌≤◌, ◌^◌, ◌⊎◌, Bool, true, List, [], ◌∷◌, ◌++◌, length, Option, None, Some}
use Rattle.vod_token.specs.declared.Token.{Token}
use Rattle.vod_thin_syntax.specs.Tokens.{Falls}
use Rattle.vod_thin_syntax.specs.Syntax.{Value, Module, IsSentence, Begins}
use Rattle.vod_thin_syntax.specs.View.{marks_of}
use Rattle.vod_thin_syntax.specs.Limit.{limit_of}

-- a source is read as this module
pub record Reads (source : List ℕ) (ts : List Token) (m : Module Value) : Type 0 where
  pub falls : Falls 0 source ts None
  pub sentence : IsSentence (marks_of source ts) m

-- The sentence breaks off at a place: no token of the form begins there; no sentence begins with the tokens up to there,
-- but one does with those before; the tokens end there and are no sentence, but one begins with them; or a source of more
-- bytes than may be has its first byte too many there.
pub data Breaks (source : List ℕ) (more : Bool) : ℕ → Type 0 where
  no_token : (ts : List Token) (place : ℕ) → Falls 0 source ts (Some place) → Breaks source more place
  no_sentence : (before : List Token) (t : Token) (behind : List Token) (stop : Option ℕ) → Falls 0 source (before ++ t ∷ behind) stop
      → Begins (marks_of source before) → (Begins (marks_of source (before ++ t ∷ [])) → ⊥) → Breaks source more t.start
  too_short : (ts : List Token) → Falls 0 source ts None
      → Begins (marks_of source ts) → ((m : Module Value) → IsSentence (marks_of source ts) m → ⊥) → Breaks source more (length source)
  too_long : more ≡ true → Breaks source more (2 ^ 20)

-- a token that is past a limit begins at the place
abbrev pub Passes : List ℕ → ℕ → Type 0
Passes source place = (ts : List Token) × (stop : Option ℕ) × Falls 0 source ts stop × (limit_of source ts ≡ Some place)

-- the sentence breaks off, and the least of all places where it does and where a limit is passed
pub record IsRefusedAt (source : List ℕ) (more : Bool) (place : ℕ) : Type 0 where
  pub breaks : (broken : ℕ) × Breaks source more broken
  pub is : Breaks source more place ⊎ Passes source place
  pub least : (broken : ℕ) → Breaks source more broken → place ≤ broken
  pub limit : (passed : ℕ) → Passes source passed → place ≤ passed
