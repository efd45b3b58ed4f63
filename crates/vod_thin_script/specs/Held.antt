-- What inputs hold between the lines of a script.
use Rattle.std.specs.Prelude.{◌≡◌, ℕ, ◌-◌, ◌^◌, ◌<◌, ◌==◌, ◌||◌, ◌&&◌, Bool, true, not, nat_eq, nat_lt, nat_le, List, [], ◌∷◌, ◌++◌, length, zip, Option, Some, None, slice_get, slice_set, if◌then◌else◌}
use Rattle.std.specs.List.{list_all, list_any}
use Rattle.vod_thin_design.specs.declared.thin.Bit.{Bit}
use Rattle.vod_thin_design.specs.declared.thin.Bit.TheVariants.{Z}
use Rattle.vod_thin_design.specs.declared.thin.Class.{Class}
use Rattle.vod_thin_design.specs.declared.thin.Class.TheVariants.{Clock, Data}
use Rattle.vod_thin_design.specs.declared.thin.Input.{Input}
use Rattle.vod_thin_design.specs.declared.thin.Move.{Move}
use Rattle.vod_thin_design.specs.declared.thin.Vector.{Vector}
use Rattle.vod_thin_design.specs.Bits.{same_bit, is_known, value_at}
use Rattle.vod_thin_design.specs.Netlist.{is_clock}

-- the value of an input behind some assignments, where it was this one before
abbrev pub value_from : Bit → List Move → ℕ → Bit
value_from bit [] i = bit
value_from bit (move ∷ moves) i = value_from (if move.input == i then move.value else bit) moves i

-- what each input has behind some assignments: the last value, and z where there is none
pub record AreValues (moves : List Move) (values : List Bit) : Type 0 where
  pub left : (i : ℕ) → i < length values → value_at values i ≡ value_from Z moves i

-- the values, with some assignments written into them
abbrev pub written : List Bit → List Move → List Bit
written values [] = values
written values (move ∷ moves) = written (slice_set values move.input move.value) moves

-- whether an assignment leaves its input as it is
abbrev pub leaves : List Bit → Move → Bool
leaves values move = same_bit (value_at values move.input) move.value

-- whether a class is this one
abbrev pub same_class : Class → Class → Bool
same_class Clock class = is_clock class
same_class Data class = not (is_clock class)

-- whether an input, where there is one, is of the class
abbrev pub is_of : Class → Option Input → Bool
is_of class None = true
is_of class (Some input) = same_class class input.class

-- whether what some assignments change is all of one class
abbrev pub change_only : List Input → List Bit → Class → List Move → Bool
change_only inputs values class moves = list_all (λ move. leaves values move || is_of class (slice_get inputs move.input)) moves

-- whether it is all of clocks or all of data
abbrev pub are_unmixed : List Input → List Bit → List Move → Bool
are_unmixed inputs values moves = change_only inputs values Clock moves || change_only inputs values Data moves

-- whether an input may be assigned or not by the first vector: data is, a clock isn't
abbrev pub suits : Input → Bool → Bool
suits input assigned = if is_clock input.class then not assigned else assigned

-- whether the inputs whose value is known may be those of the first vector
abbrev pub opens : List Input → List Bit → Bool
opens inputs values = not (list_any (λ input. not (is_clock input.class)) inputs) || list_all (λ e. suits e.0 (is_known e.1)) (zip inputs values)

-- whether a time may follow the last one
abbrev pub comes_after : ℕ → ℕ → Bool
comes_after last time = nat_lt last time && nat_le time (2 ^ 63 - 1)

-- whether a vector in form may follow so many earlier ones
abbrev pub may_follow : List Input → ℕ → ℕ → List Bit → Vector → Bool
may_follow inputs earlier last values v =
    (comes_after last v.time && are_unmixed inputs values v.moves) && (not (nat_eq earlier 0) || opens inputs (written values v.moves))

-- since when all inputs are known, behind a vector at this time that leaves these values
abbrev pub known_after : Option ℕ → List Bit → ℕ → Option ℕ
known_after (Some since) values time = Some since
known_after None values time = if list_all is_known values then Some time else None

-- all that some vectors assign, behind some assignments
abbrev pub given : List Move → List Vector → List Move
given before [] = before
given before (v ∷ vs) = given (before ++ v.moves) vs
