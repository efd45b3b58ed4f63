-- Which sources are designs, and where others are refused.
use Rattle.std.specs.Prelude.{◌≡◌, ℕ, ◌<◌, ◌≤◌, ◌^◌, ◌⊎◌, List, length, take, min, nat_lt}
use Rattle.vod_thin_design.specs.declared.thin.Vector.{Vector}
use Rattle.vod_thin_design.specs.Netlist.{Netlist}
use Rattle.vod_thin_script.specs.Script as script
use Rattle.vod_thin.specs.Thin.{IsThin, IsRefused}

-- a source of at most 1,048,576 bytes is of the thin form, with this design
pub record IsSource (source : List ℕ) (d : Netlist) : Type 0 where
  pub short : length source ≤ 2 ^ 20
  pub thin : IsThin source d

-- where a source is refused; of a longer one its first 1,048,576 bytes are judged
abbrev pub IsRefusedSource : List ℕ → ℕ → Type 0
IsRefusedSource source place = IsRefused (take (2 ^ 20) source) (nat_lt (2 ^ 20) (length source)) place

-- a source that isn't of the thin form, or is longer
abbrev pub IsOtherSource : List ℕ → Type 0
IsOtherSource source = (2 ^ 20 < length source) ⊎ ((place : ℕ) × IsRefusedSource source place)

-- where a script isn't recorded: where it is refused, or at the line of its 4,096th vector, where that is the lesser
abbrev pub IsUnrecordable : Netlist → List ℕ → ℕ → Type 0
IsUnrecordable d text line = ((wrong : ℕ) × script.IsRefused d text wrong × (line ≡ min wrong 4096)) ⊎ ((vs : List Vector) × script.IsScript d text vs × (4096 ≤ length vs) × (line ≡ 4096))
