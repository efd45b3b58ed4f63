-- A flat design with where its parts stand in the source, and one with the order of its drivers.
use Rattle.std.specs.Prelude.{ℕ, List}
use Rattle.vod_design.specs.declared.design.Origins.{Origins}
use Rattle.vod_design.specs.declared.parts.Block.{Block}
use Rattle.vod_design.specs.declared.parts.Driver.{Driver}
use Rattle.vod_design.specs.declared.parts.Initial.{Initial}
use Rattle.vod_design.specs.declared.parts.Input.{Input}
use Rattle.vod_design.specs.declared.parts.Precision.{Precision}
use Rattle.vod_design.specs.declared.parts.Ram.{Ram}
use Rattle.vod_design.specs.declared.parts.Scope.{Scope}
use Rattle.vod_design.specs.declared.parts.Signal.{Signal}
use Rattle.vod_design.specs.declared.statement.Function.{Function}
use Rattle.vod_design.specs.Netlist.{Netlist}

pub record Placed : Type 0 where
  pub netlist : Netlist
  pub origins : Origins

pub record Ordered : Type 0 where
  pub netlist : Netlist
  pub ranked : List ℕ

-- a netlist of these parts
abbrev pub parts : List Signal → List Input → List Driver → List Block → List Ram → List Initial → List Scope → List Function → Precision → Netlist
parts signals inputs drivers blocks memories initials scopes functions precision = record {
  signals = signals;
  inputs = inputs;
  drivers = drivers;
  blocks = blocks;
  memories = memories;
  initials = initials;
  scopes = scopes;
  functions = functions;
  precision = precision;
}

abbrev pub placed : Netlist → Origins → Placed
placed netlist origins = record { netlist = netlist; origins = origins }

abbrev pub ordered : Netlist → List ℕ → Ordered
ordered netlist ranked = record { netlist = netlist; ranked = ranked }
