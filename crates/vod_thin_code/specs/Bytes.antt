-- The bytes of a record of a log: numbers are little-endian.
use Rattle.std.specs.Prelude.{◌≡◌, ℕ, ◌<◌, ◌≤◌, ◌^◌, List, [], ◌∷◌, ◌++◌, length, codes, Option, None, Some}
use Rattle.std.specs.Int.{w32, w64, to_le_bytes}
use Rattle.std.specs.List.{flat_map}
use Rattle.std.specs.List.Sorted.{IsStrictlyIncreasing}
use Rattle.vod_thin_design.specs.declared.thin.Bit.{Bit}
use Rattle.vod_thin_design.specs.declared.thin.Bit.TheVariants.{Zero, One, X, Z}
use Rattle.vod_thin_design.specs.declared.thin.Move.{Move}
use Rattle.vod_thin_design.specs.declared.thin.Vector.{Vector}
use Rattle.vod_thin_design.specs.Netlist.{Netlist}
use Rattle.vod_thin_design.specs.Vectors.{IsVector, assigned}
use Rattle.vod_log.specs.Format.{kind_number, never}
use Rattle.vod_log.specs.declared.header.Header.{Header}

-- the number of a value; no vector has x or z
abbrev pub number_of : Bit → ℕ
number_of Zero = 0
number_of One = 1
number_of X = 2
number_of Z = 3

-- an assignment: the number of its input in four bytes, and its value in eight
abbrev pub move_bytes : Move → List ℕ
move_bytes move = to_le_bytes w32 move.input ++ to_le_bytes w64 (number_of move.value)

-- a vector: its time in eight bytes, the count of its assignments in four, and these
abbrev pub vector_bytes : Vector → List ℕ
vector_bytes v = to_le_bytes w64 v.time ++ to_le_bytes w32 (length v.moves) ++ flat_map move_bytes v.moves

-- the payload of a batch
abbrev pub batch_bytes : List Vector → List ℕ
batch_bytes vs = flat_map vector_bytes vs

-- the payload of a head: the interval in eight bytes, and the source
abbrev pub head_bytes : ℕ → List ℕ → List ℕ
head_bytes interval source = to_le_bytes w64 interval ++ source

-- the number of a known-since time: all ones where there is none
abbrev pub known_number : Option ℕ → ℕ
known_number None = never
known_number (Some time) = time

-- a header: `VODR`, the kind, version 1, two zeros, and five numbers of eight bytes
abbrev pub header_bytes : Header → List ℕ
header_bytes h =
    codes "VODR" ++ (kind_number h.kind ∷ 1 ∷ 0 ∷ 0 ∷ [])
    ++ to_le_bytes w64 h.length ++ to_le_bytes w64 h.before ++ to_le_bytes w64 h.after ++ to_le_bytes w64 h.last ++ to_le_bytes w64 (known_number h.known)

-- a record behind its gate: header, payload, and a closed gate
abbrev pub record_bytes : Header → List ℕ → List ℕ
record_bytes h payload = header_bytes h ++ payload ++ 0 ∷ []

-- a vector as a log holds it: in form, with a time of eight bytes, its assignments by rising input number
pub record IsInForm (d : Netlist) (v : Vector) : Type 0 where
  pub vector : IsVector d v
  pub time : v.time < 2 ^ 64
  pub rises : IsStrictlyIncreasing (assigned v.moves)

-- a payload is that of a head with this interval and source
pub record IsHead (payload : List ℕ) (interval : ℕ) (source : List ℕ) : Type 0 where
  pub bytes : payload ≡ head_bytes interval source
  pub positive : 1 ≤ interval
  pub most : interval ≤ 4096
