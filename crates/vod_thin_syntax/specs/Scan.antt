-- The tokens of a source, as the code finds them.
use Rattle.std.specs.Prelude.{ℕ, ◌-◌, ◌<◌, ◌≤◌, ◌+◌, Bool, true, List, ◌∷◌, length, drop, Option}
use Rattle.std.specs.Option.{is_some}
use Rattle.vod_token.specs.declared.Token.{Token}
use Rattle.vod_token.specs.declared.TokenKind.{TokenKind}
use Rattle.vod_token.specs.declared.TokenKind.TheVariants.{Name, Reserved, Number, Directive, Symbol}
use Rattle.vod_thin_syntax.specs.Words.{word_of}
use Rattle.vod_thin_syntax.specs.Tokens.{Falls}

-- whether the thin form has a token
abbrev pub is_of_form : TokenKind → List ℕ → Bool
is_of_form Name text = true
is_of_form Reserved text = is_some (word_of text)
is_of_form Number text = is_some (word_of text)
is_of_form Directive text = is_some (word_of text)
is_of_form Symbol text = is_some (word_of text)

-- a token at the front of the bytes that begin at a place: what the bytes behind it fall into, these fall into with it
pub record Continues (at : ℕ) (bytes : List ℕ) (t : Token) : Type 0 where
  pub some : at < t.end
  pub within : t.end ≤ at + length bytes
  pub step : (ts : List Token) (stop : Option ℕ) → Falls t.end (drop (t.end - at) bytes) ts stop → Falls at bytes (t ∷ ts) stop
