-- The target of the small design's driver is there.
use Rattle.std.proofs.Common.{◌≡◌, ◌<◌, length, arith, All}
use Rattle.vod_design.specs.declared.parts.Driver.{Driver}
use Rattle.vod_design.specs.declared.statement.Place.{Place}
use Rattle.vod_design.specs.Netlist.{Netlist}
use Rattle.vod_slot.proofs.Lists.{all_one}
use Rattle.rows_cells.specs.Small.{small, shown, bit}

pub target_there : (d : Netlist) (a : Driver) → d ≡ small → a ≡ shown → All (λ (p : Place). p.signal < length d.signals) a.target
target_there d a is at = rw (is, at) (all_one (λ (p : Place). p.signal < length small.signals) (bit 1) (omega arith))
