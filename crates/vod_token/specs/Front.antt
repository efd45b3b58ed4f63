-- The longest token at the front of the bytes.
use Rattle.std.specs.Prelude.{◌≡◌, ℕ, ◌<◌, ◌≤◌, Bool, false, List, [], ◌∷◌, length, take, drop}
use Rattle.vod_token.specs.Cut.{Holds}
use Rattle.vod_token.specs.Form.{Form, kind_of, is_letter}
use Rattle.vod_token.specs.declared.TokenKind.{TokenKind}

-- it has this kind and this length
pub record IsFront (bytes : List ℕ) (kind : TokenKind) (len : ℕ) : Type 0 where
  pub form : Form
  pub some : 0 < len
  pub within : len ≤ length bytes
  pub holds : Holds (take len bytes) (drop len bytes) form
  pub is : kind ≡ kind_of (take len bytes) form

-- a letter stands at the front
abbrev pub begins_word : List ℕ → Bool
begins_word [] = false
begins_word (b ∷ bs) = is_letter b
