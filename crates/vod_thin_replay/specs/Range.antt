-- Whether a window is in what a log holds.
use Rattle.std.specs.Prelude.{ℕ, ◌==◌, nat_lt, if◌then◌else◌, List, Option, None, Some, Result, Ok, Err, find}
use Rattle.std.specs.Option.{option_map}
use Rattle.vod_log.specs.declared.header.Counts.{Counts}
use Rattle.vod_log.specs.declared.log.Record.{Record}
use Rattle.vod_log.specs.Format.{same_kind}
use Rattle.vod_log.specs.declared.header.Kind.TheVariants.{Image}
use Rattle.vod_thin_replay.specs.declared.held.RangeFault.{RangeFault}
use Rattle.vod_thin_replay.specs.declared.held.RangeFault.TheVariants.{Backwards, NothingHeld, NeverKnown, TooEarly, PastEnd}

-- the same where there are vectors, by the time since when every input is known
abbrev pub since_range : Option ℕ → ℕ → ℕ → ℕ → Result (Unit {0}) RangeFault
since_range None last from to = Err NeverKnown
since_range (Some known) last from to =
    if nat_lt from known then Err (TooEarly known)
    else (if nat_lt last to then Err (PastEnd last)
    else Ok tt)

-- the first refusal of a window between two times, or none
abbrev pub range_of : Counts → ℕ → ℕ → Result (Unit {0}) RangeFault
range_of held from to =
    if nat_lt to from then Err Backwards
    else (if held.vectors == 0 then Err NothingHeld
    else since_range held.known held.last from to)

-- the gate of the first image among some records
abbrev pub first_image : List Record → Option ℕ
first_image records = option_map (λ r. r.at) (find (λ r. same_kind r.header.kind Image) records)
