-- How the bytes of a source fall into white space and tokens of the thin form, and where they first don't.
use Rattle.std.specs.Prelude.{◌≡◌, ℕ, ◌+◌, ◌⊎◌, true, false, List, [], ◌∷◌, ◌++◌, length, Option, None, Some}
use Rattle.vod_token.specs.Cut.{Holds, token}
use Rattle.vod_token.specs.Form.{is_white, Form, kind_of}
use Rattle.vod_token.specs.declared.Token.{Token}
use Rattle.vod_token.specs.declared.TokenKind.{TokenKind}
use Rattle.vod_token.specs.declared.TokenKind.TheVariants.{Name}
use Rattle.vod_thin_syntax.specs.declared.words.Word.{Word}
use Rattle.vod_thin_syntax.specs.Words.{spelling}

-- a token that the thin form has: a name, or one that is spelled as a word, number or symbol of it
abbrev pub IsOfForm : List ℕ → TokenKind → Type 0
IsOfForm text kind = (kind ≡ Name) ⊎ ((word : Word) × (text ≡ spelling word))

-- no longest token of the bytes is of the thin form
abbrev pub HoldsNone : List ℕ → Type 0
HoldsNone bytes = (text rest : List ℕ) (form : Form) → bytes ≡ text ++ rest → Holds text rest form → IsOfForm text (kind_of text form) → ⊥

-- The bytes from a place on fall into white space and these tokens, the longest at each place, to the end where no place
-- is named, and else up to the first byte where no token of the thin form begins.
pub data Falls : ℕ → List ℕ → List Token → Option ℕ → Type 0 where
  ends : (at : ℕ) → Falls at [] [] None
  skips : (at b : ℕ) (bs : List ℕ) (ts : List Token) (stop : Option ℕ) → is_white b ≡ true → Falls (at + 1) bs ts stop → Falls at (b ∷ bs) ts stop
  takes : (at : ℕ) (text rest : List ℕ) (form : Form) (ts : List Token) (stop : Option ℕ)
      → Holds text rest form → IsOfForm text (kind_of text form) → Falls (at + length text) rest ts stop
      → Falls at (text ++ rest) (token at text form ∷ ts) stop
  stops : (at b : ℕ) (bs : List ℕ) → is_white b ≡ false → HoldsNone (b ∷ bs) → Falls at (b ∷ bs) [] (Some at)
