-- How the faults of the calls below are those of the program, and how a phase fails.
use Rattle.std.specs.Prelude.{◌≡◌, ◌⊎◌, ℕ, min}
use Rattle.vod_io.specs.declared.reading.FillFault as fill
use Rattle.vod_io.specs.declared.reading.FillFault.TheVariants as fills
use Rattle.vod_thin_script.specs.declared.ScriptFault as script
use Rattle.vod_thin_script.specs.declared.ScriptFault.TheVariants as scripts
use Rattle.vod_thin.specs.declared.fault.ThinFault as thin
use Rattle.vod_thin.specs.declared.fault.ThinFault.TheVariants as thins
use Rattle.vod_program.specs.declared.status.Part.{Part}
use Rattle.vod_program.specs.declared.status.Fault.{Fault}
use Rattle.vod_program.specs.declared.status.Fault.TheVariants as failed
use Rattle.vod_program.specs.declared.status.Part.TheVariants as part
use Rattle.vod_log.specs.declared.log.LogFault.{LogFault}
use Rattle.vod_log.specs.declared.log.LogFault.TheVariants as logs
use Rattle.vod_thin_store.specs.declared.StoreFault.{StoreFault}
use Rattle.vod_thin_store.specs.declared.StoreFault.TheVariants as stores
use Rattle.vod_thin_replay.specs.declared.ReplayFault.{ReplayFault}
use Rattle.vod_thin_replay.specs.declared.ReplayFault.TheVariants as replays
use Rattle.vod_thin_window.specs.declared.window.WindowFault.{WindowFault}
use Rattle.vod_thin_window.specs.declared.window.WindowFault.TheVariants as windows

-- the faults of the calls that read a source, a script and a design of the thin form
abbrev pub fill_fault : fill.FillFault → Fault
fill_fault fills.Read = failed.Read
fill_fault fills.Memory = failed.Memory

abbrev pub script_fault : script.ScriptFault → Fault
script_fault (scripts.Refused line) = failed.NotYet part.Script line
script_fault scripts.Memory = failed.Memory

abbrev pub thin_fault : thin.ThinFault → Fault
thin_fault (thins.At place) = failed.NotYet part.Design place
thin_fault thins.Memory = failed.Memory

-- how a phase that reads a part fails: what it reads failed, memory ran out, or the part is refused at a place of which this holds
abbrev pub Fails : Part → Fault → (ℕ → Type 0) → Type 0
Fails p f P = (f ≡ failed.Read) ⊎ (f ≡ failed.Memory) ⊎ ((place : ℕ) × (f ≡ failed.NotYet p place) × P place)

-- the fault where no more than so many lines are read
abbrev pub fault_within : Fault → ℕ → Fault
fault_within failed.Usage lines = failed.Usage
fault_within (failed.NotYet p line) lines = failed.NotYet p (min line lines)
fault_within (failed.Range fault) lines = failed.Range fault
fault_within (failed.NotALog at) lines = failed.NotALog at
fault_within (failed.Damaged at) lines = failed.Damaged at
fault_within failed.Deck lines = failed.Deck
fault_within failed.Read lines = failed.Read
fault_within failed.Write lines = failed.Write
fault_within failed.Memory lines = failed.Memory

-- the faults of the layers that commands call
abbrev pub window_fault : WindowFault → Fault
window_fault windows.Write = failed.Write
window_fault windows.Memory = failed.Memory

abbrev pub replay_fault : ReplayFault → Fault
replay_fault replays.Deck = failed.Deck
replay_fault (replays.Damaged at) = failed.Damaged at
replay_fault replays.Memory = failed.Memory

abbrev pub store_fault : StoreFault → Fault
store_fault stores.Deck = failed.Deck
store_fault stores.NotEmpty = failed.NotYet part.Log 0
store_fault stores.Memory = failed.Memory

-- a log that isn't opened: for reading, and for appending to an empty one
abbrev pub log_fault : LogFault → Fault
log_fault logs.Deck = failed.Deck
log_fault (logs.NotALog at) = failed.NotALog at
log_fault logs.Memory = failed.Memory

abbrev pub append_fault : LogFault → Fault
append_fault logs.Deck = failed.Deck
append_fault (logs.NotALog at) = failed.NotYet part.Log at
append_fault logs.Memory = failed.Memory
