-- What a fault says of a script.
use Rattle.std.specs.Prelude.{ℕ, List, ⊤}
use Rattle.vod_thin_design.specs.Netlist.{Netlist}
use Rattle.vod_thin_script.specs.declared.ScriptFault.{ScriptFault}
use Rattle.vod_thin_script.specs.declared.ScriptFault.TheVariants.{Refused, Memory}
use Rattle.vod_thin_script.specs.declared.line.LineFault as line_fault
use Rattle.vod_thin_script.specs.declared.line.LineFault.TheVariants as fault
use Rattle.vod_thin_script.specs.declared.history.AddFault as add_fault
use Rattle.vod_thin_script.specs.declared.history.AddFault.TheVariants as added
use Rattle.vod_thin_script.specs.Script.{IsRefused, IsWrongLine}

-- the script is refused there
abbrev pub IsFault : Netlist → List ℕ → ScriptFault → Type 0
IsFault d bytes (Refused line) = IsRefused d bytes line
IsFault d bytes Memory = ⊤

-- the line is the first wrong one
abbrev pub IsLineFault : Netlist → List ℕ → ScriptFault → Type 0
IsLineFault d bytes (Refused line) = IsWrongLine d bytes line
IsLineFault d bytes Memory = ⊤

-- the fault of a line with this number
abbrev pub fault_at : ℕ → line_fault.LineFault → ScriptFault
fault_at line fault.Refused = Refused line
fault_at line fault.Memory = Memory

-- the fault of a line whose vector isn't added
abbrev pub line_fault_of : add_fault.AddFault → line_fault.LineFault
line_fault_of added.Refused = fault.Refused
line_fault_of added.Memory = fault.Memory
