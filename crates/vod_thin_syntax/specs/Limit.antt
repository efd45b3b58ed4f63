-- The first token of a source that is past a limit.
use Rattle.std.specs.Prelude.{ℕ, ◌-◌, Bool, true, false, ◌&&◌, if◌then◌else◌, nat_lt, List, [], ◌∷◌, Option, None, Some, codes, min}
use Rattle.std.specs.Str.{bytes_eq}
use Rattle.std.specs.List.{slice_get}
use Rattle.vod_token.specs.Nesting.{slice_of, deep_at}
use Rattle.vod_token.specs.declared.Token.{Token}
use Rattle.vod_token.specs.declared.TokenKind.{TokenKind}
use Rattle.vod_token.specs.declared.TokenKind.TheVariants.{Name, Reserved, Number, Directive, Symbol}

-- the lesser of two places, where there are any
abbrev pub sooner : Option ℕ → Option ℕ → Option ℕ
sooner None b = b
sooner (Some p) None = Some p
sooner (Some p) (Some q) = Some (min p q)

abbrev pub is_name : TokenKind → Bool
is_name Name = true
is_name Reserved = false
is_name Number = false
is_name Directive = false
is_name Symbol = false

-- a name of more than 1,024 bytes
abbrev pub is_long : Token → Bool
is_long t = is_name t.kind && nat_lt 1024 (t.end - t.start)

-- where the first such name begins
abbrev pub first_long : List Token → Option ℕ
first_long [] = None
first_long (t ∷ ts) = if is_long t then Some t.start else first_long ts

-- the places of the tokens that stand directly behind a word, where it stands before the first of them or doesn't: the
-- names of all inputs, outputs, wires or registers
abbrev pub behind : Bool → List ℕ → List ℕ → List Token → List ℕ
behind there source word [] = []
behind true source word (t ∷ ts) = t.start ∷ behind (bytes_eq (slice_of source t) word) source word ts
behind false source word (t ∷ ts) = behind (bytes_eq (slice_of source t) word) source word ts

-- where the 257th of them begins
abbrev pub crowded : List ℕ → List ℕ → List Token → Option ℕ
crowded source word ts = slice_get (behind false source word ts) 256

-- where the first token begins that is past a limit: a name of more than 1,024 bytes, the name of a 257th input, output,
-- wire or register, or the nesting 65
abbrev pub limit_of : List ℕ → List Token → Option ℕ
limit_of source ts =
    sooner (first_long ts) (sooner (deep_at source ts) (sooner (sooner (crowded source (codes "input") ts) (crowded source (codes "output") ts))
    (sooner (crowded source (codes "wire") ts) (crowded source (codes "reg") ts))))
