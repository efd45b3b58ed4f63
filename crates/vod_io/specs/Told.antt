-- Bytes that a source has left or a sink has taken, `None` where it doesn't tell them.
use Rattle.std.specs.Prelude.{◌≡◌, ℕ, ◌≤◌, List, ◌++◌, length, Option, None, Some, Result, MatchResult}

-- what was left before `front` was read, where `rest` is left now
abbrev pub put_back : List ℕ → Option (List ℕ) → Option (List ℕ)
put_back front None = None
put_back front (Some rest) = Some (front ++ rest)

-- what a sink has taken after `text`, where it had taken `held`
abbrev pub appended : Option (List ℕ) → List ℕ → Option (List ℕ)
appended None text = None
appended (Some held) text = Some (held ++ text)

-- a fact about the bytes, where they are told
abbrev pub Tells : Option (List ℕ) → (List ℕ → Type 0) → Type 0
Tells told P = (bytes : List ℕ) → told ≡ Some bytes → P bytes

-- the bytes, where they are told, are these
abbrev pub Told : Option (List ℕ) → List ℕ → Type 0
Told told expected = Tells told (λ bytes. bytes ≡ expected)

-- a sink took a prefix of `text`, and `rest` is what it hasn't taken
pub record Puts (before after : Option (List ℕ)) (text rest : List ℕ) : Type 0 where
  pub done : List ℕ
  pub whole : done ++ rest ≡ text
  pub taken : after ≡ appended before done

-- a write of `text` took all of it with Ok, and else a prefix
abbrev pub Written : {T E : Type 0} → Result T E → Option (List ℕ) → Option (List ℕ) → List ℕ → Type 0
Written result before after text =
    MatchResult result (λ _. after ≡ appended before text) (λ _. (rest : List ℕ) × Puts before after text rest)

-- some bytes, at most `most`, were taken from a source
pub record IsTaken (before after : Option (List ℕ)) (most : ℕ) : Type 0 where
  pub done : List ℕ
  pub few : length done ≤ most
  pub gone : before ≡ put_back done after

-- `count` bytes, at most `most`, were taken from a source and appended to `old`
pub record Comes (before after : Option (List ℕ)) (old new : List ℕ) (count most : ℕ) : Type 0 where
  pub came : List ℕ
  pub counted : length came ≡ count
  pub few : count ≤ most
  pub gone : before ≡ put_back came after
  pub kept : new ≡ old ++ came
