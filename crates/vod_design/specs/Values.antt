-- What an expression is evaluated over, and values at a size (IEEE 1364-2005, 5.2, 5.4). A bit that isn't there is `fill`: x where
-- values have four states.
use Rattle.std.specs.Prelude.{ℕ, ◌+◌, ◌-◌, nat_le, min, max, Bool, ◌&&◌, if◌then◌else◌, List, [], ◌∷◌, length, replicate, slice_index_or, Option, None, Some}
use Rattle.vod_bits.specs.Bit.{Bit}
use Rattle.vod_bits.specs.Value.{number_of, all_known, resize_bits, slice_bits}
use Rattle.vod_bits.specs.declared.TheConstants.{WIDTH}
use Rattle.vod_design.specs.declared.sized.Variable.{Variable}
use Rattle.vod_design.specs.declared.sized.Variable.TheVariants.{Signal, Local}
use Rattle.vod_design.specs.declared.sized.Named.{Named}
use Rattle.vod_design.specs.declared.sized.Named.TheVariants as named

-- the values of the signals by number, and of the memory words by memory and place, with none where there is no such word
pub record Values : Type 0 where
  pub signal : ℕ → List Bit
  pub word : ℕ → ℕ → Option (List Bit)

-- the values of a function's inputs, locals and result
abbrev pub Frame : Type 0
Frame = List (List Bit)

-- an operand's value, and whether it is signed
pub record Operand : Type 0 where
  pub bits : List Bit
  pub signed : Bool

-- so many bits that aren't there
abbrev pub unknown : Bit → ℕ → List Bit
unknown fill width = replicate width fill

-- a size from 1 to WIDTH: the nearest to the one given
abbrev pub bounded : ℕ → ℕ
bounded width = max 1 (min width WIDTH)

-- a value at a size: extended by its upper bit where it is signed, else by 0, or its lower bits (5.4.1, 5.5.2)
unfoldable pub at_size : ℕ → Bool → List Bit → List Bit
at_size width signed bits = resize_bits (bounded width) signed bits

-- the value at a place of a list, one bit that isn't there where there is none
abbrev pub value_at : Bit → List (List Bit) → ℕ → List Bit
value_at fill values n = slice_index_or values n (fill ∷ [])

-- `width` bits from the place `low` up, none of them there where they aren't all inside (5.2.1)
unfoldable pub select_bits : Bit → ℕ → ℕ → List Bit → List Bit
select_bits fill low width bits = if nat_le (low + width) (length bits) then slice_bits low width bits else unknown fill width

-- the place that an index names above the least index: none where a bit of it is x or z, or where it is below (5.2.1, 5.2.2)
abbrev pub index_place : ℕ → List Bit → Option ℕ
index_place least index = if all_known index && nat_le least (number_of index) then Some (number_of index - least) else None

-- the value of a variable and of a name
abbrev pub variable_bits : Bit → Values → Frame → Variable → List Bit
variable_bits fill values frame (Signal n) = values.signal n
variable_bits fill values frame (Local n) = value_at fill frame n

abbrev pub named_bits : Bit → Values → Frame → Named → List Bit
named_bits fill values frame (named.Variable x) = variable_bits fill values frame x
named_bits fill values frame (named.Constant bits) = bits

-- the bit at a place, one that isn't there where there is no place
abbrev pub bit_at_place : Bit → List Bit → Option ℕ → List Bit
bit_at_place fill bits None = fill ∷ []
bit_at_place fill bits (Some place) = select_bits fill place 1 bits

-- a memory word, so many bits that aren't there where there is none
abbrev pub word_or_x : Bit → ℕ → Option (List Bit) → List Bit
word_or_x fill width None = unknown fill width
word_or_x fill width (Some bits) = bits

-- the memory word at a place, or none
abbrev pub word_at : Values → ℕ → Option ℕ → Option (List Bit)
word_at values memory None = None
word_at values memory (Some place) = values.word memory place
