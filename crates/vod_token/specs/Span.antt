-- Where the tokens of a source lie.
use Rattle.std.specs.Prelude.{◌≡◌, ℕ, ◌<◌, ◌≤◌, List, [], ◌∷◌, length, None, ⊤}
use Rattle.vod_token.specs.Cut.{wrong_with}
use Rattle.vod_token.specs.Form.{Form, IsSpelled, kind_of}
use Rattle.vod_token.specs.Nesting.{slice_of}
use Rattle.vod_token.specs.declared.Token.{Token}
use Rattle.vod_token.specs.declared.TokenKind.{TokenKind}

-- the span lies in the source and isn't empty
pub record LiesIn (source : List ℕ) (t : Token) : Type 0 where
  pub some : t.start < t.end
  pub within : t.end ≤ length source

-- the slice is a token of this kind, with nothing wrong
pub record IsTokenText (text : List ℕ) (kind : TokenKind) : Type 0 where
  pub form : Form
  pub spelled : IsSpelled text form
  pub right : wrong_with 0 (length text) form ≡ None
  pub is : kind ≡ kind_of text form

-- the token lies in the source, and its slice is a token of its kind
pub record IsTokenOf (source : List ℕ) (t : Token) : Type 0 where
  pub lies : LiesIn source t
  pub text : IsTokenText (slice_of source t) t.kind

-- tokens from a place of the source on, whose spans rise
abbrev pub AreTokens : List ℕ → ℕ → List Token → Type 0
AreTokens source from [] = ⊤
AreTokens source from (t ∷ ts) = (from ≤ t.start) × LiesIn source t × IsTokenText (slice_of source t) t.kind × AreTokens source t.end ts
