-- Numbers as texts: which texts are numbers of a form, the number that each writes, and where any other text is wrong.
-- That bytes are digits, and the number that they write, are std's `IsNumeral` and `digits_value`.
use Rattle.std.specs.Prelude.{◌≡◌, ℕ, ◌+◌, ◌-◌, ◌^◌, ◌<◌, ◌≤◌, Bool, true, ◌&&◌, ◌||◌, if◌then◌else◌, ◌==◌, nat_lt, nat_le, min, List, [], ◌∷◌, ◌++◌, length, take, Result, Ok, Err}
use Rattle.std.specs.List.{prefix_len, filter, AllByRecursion}
use Rattle.std.specs.Char.{is_digit}
use Rattle.std.specs.Str.Parse.{IsNumeral, digits_value}
use Rattle.vod_text.specs.declared.read.NumberFault.{NumberFault}
use Rattle.vod_text.specs.declared.read.NumberFault.TheVariants.{Spelling, Range}

-- 1 to `most` digits of the base
abbrev pub IsDigits : ℕ → ℕ → List ℕ → Type 0
IsDigits base most text = IsNumeral base text × (length text ≤ most)

-- a decimal number: 1 to 19 digits
abbrev pub IsDecimal : List ℕ → Type 0
IsDecimal text = IsDigits 10 19 text

-- a hexadecimal number: 1 to 32 digits, in either case
abbrev pub IsHexadecimal : List ℕ → Type 0
IsHexadecimal text = IsDigits 16 32 text

-- a byte that may stand behind the first digit: a digit of the base, or `_`
abbrev pub is_further : ℕ → ℕ → Bool
is_further base b = is_digit b base || b == 95

-- the digits of a based number: one digit, and then digits and underscores (IEEE 1364-2005, 3.5.1)
abbrev pub IsBased : ℕ → List ℕ → Type 0
IsBased base [] = ⊥
IsBased base (d ∷ ds) = (is_digit d base ≡ true) × AllByRecursion (λ b. is_further base b ≡ true) ds

-- the number that the digits of the text write, its underscores left out
abbrev pub based_value : ℕ → List ℕ → ℕ
based_value base text = digits_value base (filter (λ b. is_digit b base) text)

-- some text of the form begins with these bytes
abbrev pub Begins : (List ℕ → Type 0) → List ℕ → Type 0
Begins F front = (rest : List ℕ) × F (front ++ rest)

-- the first place where the text isn't of the form: that of the first wrong byte, or the length where only the end comes too early
pub record IsFirstWrong (F : List ℕ → Type 0) (text : List ℕ) (at : ℕ) : Type 0 where
  pub within : at ≤ length text
  pub before : Begins F (take at text)
  pub here : at < length text → Begins F (take (at + 1) text) → ⊥
  pub end : at ≡ length text → F text → ⊥

-- how many bytes from the front on are digits of the base, `most` at most
abbrev pub digits_len : ℕ → ℕ → List ℕ → ℕ
digits_len base most text = min most (prefix_len (λ b. is_digit b base) text)

-- how many bytes from the front on are such digits of a based number
abbrev pub based_len : ℕ → List ℕ → ℕ
based_len base [] = 0
based_len base (d ∷ ds) = if is_digit d base then 1 + prefix_len (is_further base) ds else 0

-- what is answered on a text of which `len` bytes are right and which then has this value
abbrev pub answer_of : ℕ → ℕ → ℕ → List ℕ → Result ℕ NumberFault
answer_of len value max text =
    if nat_lt 0 len && len == length text then (if nat_le value max then Ok value else Err Range) else Err (Spelling len)

-- the answer on a decimal number, as one equation
abbrev pub decimal_of : List ℕ → ℕ → Result ℕ NumberFault
decimal_of text max = answer_of (digits_len 10 19 text) (digits_value 10 text) max text

-- the answer on a hexadecimal number
abbrev pub hexadecimal_of : List ℕ → Result ℕ NumberFault
hexadecimal_of text = answer_of (digits_len 16 32 text) (digits_value 16 text) (2 ^ 128 - 1) text

-- the answer on the digits of a based number
abbrev pub based_of : List ℕ → ℕ → Result ℕ NumberFault
based_of text base = answer_of (based_len base text) (based_value base text) (2 ^ 128 - 1) text
