-- Assignments, read from bytes one by one.
use Rattle.std.specs.Prelude.{ℕ, zero, suc, ◌+◌, ◌==◌, ◌&&◌, nat_le, nat_lt, List, [], ◌∷◌, take, drop, Option, None, Some, if◌then◌else◌}
use Rattle.std.specs.Int.{w32, w64, from_le_bytes}
use Rattle.vod_thin_design.specs.declared.thin.Bit.{Bit}
use Rattle.vod_thin_design.specs.declared.thin.Bit.TheVariants.{Zero, One}
use Rattle.vod_thin_design.specs.declared.thin.Move.{Move}

-- the value of a number that isn't above 1
abbrev pub bit_of : ℕ → Bit
bit_of value = if value == 0 then Zero else One

-- an assignment of these numbers: of an input from `least` on, below `inputs`, and of 0 or 1
abbrev pub move_of : ℕ → ℕ → ℕ → ℕ → Option Move
move_of least inputs input value =
    if nat_le least input && nat_lt input inputs && nat_le value 1
    then Some (record { input = input; value = bit_of value })
    else None

-- the assignment that some bytes begin with
abbrev pub move_at : ℕ → ℕ → List ℕ → Option Move
move_at least inputs bytes = move_of least inputs (from_le_bytes w32 (take 4 bytes)) (from_le_bytes w64 (take 8 (drop 4 bytes)))

abbrev pub in_front : Move → Option (List Move) → Option (List Move)
in_front move None = None
in_front move (Some moves) = Some (move ∷ moves)

abbrev pub followed : Option Move → (Move → Option (List Move)) → Option (List Move)
followed None more = None
followed (Some move) more = in_front move (more move)

-- so many assignments that some bytes begin with, by rising input number
abbrev pub moves_at : ℕ → ℕ → ℕ → List ℕ → Option (List Move)
moves_at zero least inputs bytes = Some []
moves_at (suc count) least inputs bytes = followed (move_at least inputs bytes) (λ move. moves_at count (move.input + 1) inputs (drop 12 bytes))
