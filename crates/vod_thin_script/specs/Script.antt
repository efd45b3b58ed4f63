-- Which bytes are a script of a design in the thin form, and its vectors.
use Rattle.std.specs.Prelude.{◌≡◌, ◌≢◌, ℕ, suc, ◌<◌, ◌≤◌, ◌^◌, ◌⊎◌, List, [], ◌∷◌, ◌++◌, length, slice_index_or}
use Rattle.std.specs.List.{flat_map}
use Rattle.std.specs.List.Sorted.{IsPermutation, IsStrictlyIncreasing}
use Rattle.std.specs.Str.Parse.{digits_value}
use Rattle.vod_text.specs.Numeral.{IsDecimal}
use Rattle.vod_thin_design.specs.declared.thin.Bit.{Bit}
use Rattle.vod_thin_design.specs.declared.thin.Bit.TheVariants as bit
use Rattle.vod_thin_design.specs.declared.thin.Move.{Move}
use Rattle.vod_thin_design.specs.declared.thin.Vector.{Vector}
use Rattle.vod_thin_design.specs.Netlist.{Netlist}
use Rattle.vod_thin_design.specs.Vectors.{IsLawful, assigned}
use Rattle.vod_thin_design.specs.Names.{input_names}

-- the digit of a bit
abbrev pub digit_of : Bit → ℕ
digit_of bit.Zero = 48
digit_of bit.One = 49
digit_of bit.X = 120
digit_of bit.Z = 122

-- a space, `NAME=VALUE`
abbrev pub assignment_text : Netlist → Move → List ℕ
assignment_text d move = 32 ∷ (slice_index_or (input_names d) move.input [] ++ 61 ∷ digit_of move.value ∷ [])

-- `TIME NAME=VALUE ..`: the line of a vector, without its LF; the time is 1 to 19 decimal digits, and the assignments are those
-- of the vector in any order, which the vector has by rising input
pub record IsLine (d : Netlist) (line : List ℕ) (v : Vector) : Type 0 where
  pub time : List ℕ
  pub decimal : IsDecimal time
  pub value : digits_value 10 time ≡ v.time
  pub moves : List Move
  pub order : IsPermutation moves v.moves
  pub rises : IsStrictlyIncreasing (assigned v.moves)
  pub text : line ≡ time ++ flat_map (assignment_text d) moves

-- lines of these vectors, in order, each ended by LF
abbrev pub AreLines : Netlist → List ℕ → List Vector → Type 0
AreLines d bytes [] = bytes ≡ []
AreLines d bytes (v ∷ vs) = (line : List ℕ) × (rest : List ℕ) × (bytes ≡ line ++ 10 ∷ rest) × IsLine d line v × AreLines d rest vs

-- at most 1,048,576 bytes are a script of these vectors, which are lawful
pub record IsScript (d : Netlist) (bytes : List ℕ) (vs : List Vector) : Type 0 where
  pub short : length bytes ≤ 2 ^ 20
  pub lines : AreLines d bytes vs
  pub lawful : IsLawful d vs

-- The first line that breaks a rule, by its number from 1: the lines before it are of lawful vectors, and it isn't the line of
-- a vector that is lawful behind them.
pub record IsWrongLine (d : Netlist) (bytes : List ℕ) (line : ℕ) : Type 0 where
  pub short : length bytes ≤ 2 ^ 20
  pub before : List ℕ
  pub from : List ℕ
  pub whole : bytes ≡ before ++ from
  pub more : from ≢ []
  pub vectors : List Vector
  pub lines : AreLines d before vectors
  pub lawful : IsLawful d vectors
  pub wrong : (text rest : List ℕ) (v : Vector) → from ≡ text ++ 10 ∷ rest → IsLine d text v → IsLawful d (vectors ++ v ∷ []) → ⊥
  pub number : line ≡ suc (length vectors)

-- where a script is refused: at its first wrong line, or at 0 where it has more than 1,048,576 bytes
abbrev pub IsRefused : Netlist → List ℕ → ℕ → Type 0
IsRefused d bytes line = ((2 ^ 20 < length bytes) × (line ≡ 0)) ⊎ IsWrongLine d bytes line
