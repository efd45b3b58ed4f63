-- What the reader has judged so far.
use Rattle.std.specs.Prelude.{◌≡◌, ℕ, ◌<◌, ◌^◌, List, [], ◌∷◌, ◌++◌, length, IsTrue}
use Rattle.std.specs.List.Sorted.{IsPermutation, IsStrictlyIncreasing}
use Rattle.std.specs.Str.Parse.{digits_value}
use Rattle.vod_text.specs.Numeral.{IsDecimal}
use Rattle.vod_thin_design.specs.declared.thin.Bit.{Bit}
use Rattle.vod_thin_design.specs.declared.thin.Move.{Move}
use Rattle.vod_thin_design.specs.declared.thin.Vector.{Vector}
use Rattle.vod_thin_design.specs.Bits.{is_known}
use Rattle.vod_thin_design.specs.Netlist.{Netlist}
use Rattle.vod_thin_design.specs.Vectors.{IsVector, IsLawful, assigned}
use Rattle.vod_thin_script.specs.Script.{IsLine, digit_of, assignment_text}

-- `=VALUE`, where the value is 0 or 1
pub record IsValue (text : List ℕ) (value : Bit) : Type 0 where
  pub known : IsTrue (is_known value)
  pub spelled : text ≡ 61 ∷ digit_of value ∷ []

-- an assignment that a vector may have: of an input of the design, a known value
pub record IsMove (d : Netlist) (move : Move) : Type 0 where
  pub input : move.input < length d.inputs
  pub known : IsTrue (is_known move.value)

-- `NAME=VALUE`, an assignment that a vector may have
pub record Assigns (d : Netlist) (piece : List ℕ) (move : Move) : Type 0 where
  pub allowed : IsMove d move
  pub spelled : 32 ∷ piece ≡ assignment_text d move

-- assignments by rising input
pub record AreByInput (moves sorted : List Move) : Type 0 where
  pub order : IsPermutation moves sorted
  pub rises : IsStrictlyIncreasing (assigned sorted)

-- decimal digits write a time that a vector may have
pub record IsTime (text : List ℕ) (time : ℕ) : Type 0 where
  pub decimal : IsDecimal text
  pub value : digits_value 10 text ≡ time
  pub within : time < 2 ^ 63

-- the line of a vector in form, at a time that it may have
pub record IsVectorLine (d : Netlist) (line : List ℕ) (v : Vector) : Type 0 where
  pub spelled : IsLine d line v
  pub form : IsVector d v
  pub within : v.time < 2 ^ 63

-- the line of a vector that is lawful behind some vectors, which it makes these
pub record AddsLine (d : Netlist) (line : List ℕ) (before after : List Vector) : Type 0 where
  pub vector : Vector
  pub whole : after ≡ before ++ vector ∷ []
  pub spelled : IsLine d line vector
  pub lawful : IsLawful d after
