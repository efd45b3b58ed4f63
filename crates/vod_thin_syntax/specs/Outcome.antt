-- What reading a source comes to.
use Rattle.std.specs.Prelude.{◌≡◌, ℕ, Bool, List, [], ◌∷◌, ◌++◌, drop, Option, None, Some, min, ⊤}
use Rattle.vod_token.specs.declared.Token.{Token}
use Rattle.vod_thin_syntax.specs.declared.fault.SyntaxFault.{SyntaxFault}
use Rattle.vod_thin_syntax.specs.declared.fault.SyntaxFault.TheVariants as faults
use Rattle.vod_thin_syntax.specs.declared.read.Break.{Break}
use Rattle.vod_thin_syntax.specs.declared.read.Break.TheVariants as breaks
use Rattle.vod_thin_syntax.specs.declared.syntax.Sentence.{Sentence}
use Rattle.vod_thin_syntax.specs.Limit.{limit_of}
use Rattle.vod_thin_syntax.specs.Refusal.{Reads, IsRefusedAt}
use Rattle.vod_thin_syntax.specs.Syntax.{Mark, Value, Module, IsSentence, Begins, printed}
use Rattle.vod_thin_syntax.specs.View.{marks_of, module_of}

-- tokens that are no sentence, up to those of them that can't go on: some sentence begins with the tokens before, and none
-- with one more
pub record Broken (marks rest : List Mark) : Type 0 where
  pub front : List Mark
  pub split : marks ≡ front ++ rest
  pub begins : Begins front
  pub ends : (t : Mark) (behind : List Mark) → rest ≡ t ∷ behind → Begins (front ++ t ∷ []) → ⊥
  pub none : (m : Module Value) → IsSentence marks m → ⊥

abbrev pub IsBreak : List ℕ → List Token → Break → Type 0
IsBreak source ts (breaks.At number) = Broken (marks_of source ts) (marks_of source (drop number ts))
IsBreak source ts breaks.Memory = ⊤

-- a source is read as this sentence of the code
pub record IsRead (source : List ℕ) (s : Sentence) : Type 0 where
  pub tree : Module Value
  pub reads : Reads source s.tokens.items tree
  pub stands : module_of source s.tokens.items s.module ≡ printed tree
  pub limit : s.limit ≡ limit_of source s.tokens.items

-- a source isn't of the form
abbrev pub IsFault : List ℕ → Bool → SyntaxFault → Type 0
IsFault source more (faults.At place) = IsRefusedAt source more place
IsFault source more faults.Memory = ⊤

-- where the first token begins, or where there are none
abbrev pub place_at : List Token → ℕ → ℕ
place_at [] end = end
place_at (t ∷ ts) end = t.start

abbrev pub least_of : Option ℕ → ℕ → ℕ
least_of None place = place
least_of (Some passed) place = min passed place
