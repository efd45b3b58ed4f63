-- The code's machine as the definitions see it.
use Rattle.std.specs.Prelude.{◌≡◌, ℕ, Bool, false, nat_le, List, reverse}
use Rattle.vod_thin_design.specs.declared.thin.Expr.{Expr}
use Rattle.vod_thin.specs.declared.machine.Frame.{Frame}
use Rattle.vod_thin.specs.declared.machine.Frame.TheVariants.{Inverted, Opened, Left}
use Rattle.vod_thin.specs.declared.machine.Machine as code_machine
use Rattle.vod_thin.specs.Machine.{Machine, machine, tight, combined, reduce}

-- the frames, the last first
abbrev pub frames_of : code_machine.Machine → List Frame
frames_of m = reverse m.frames

abbrev pub machine_of : code_machine.Machine → Machine
machine_of m = machine (frames_of m) m.last

-- whether a frame takes in an operand at a level
abbrev pub binds : ℕ → Frame → Bool
binds level Inverted = false
binds level Opened = false
binds level (Left op a) = nat_le level (tight op)

-- nothing on top takes in an operand at a level
abbrev pub RestsAt : ℕ → List Frame → Type 0
RestsAt level frames = (e : Expr) → reduce level frames e ≡ machine frames e

-- an operand, taken in by a frame
abbrev pub taken_in : Frame → Expr → Expr
taken_in Inverted e = e
taken_in Opened e = e
taken_in (Left op a) e = combined op a e
