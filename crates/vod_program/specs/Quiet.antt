-- Which faults leave what alone.
use Rattle.std.specs.Prelude.{◌≡◌, ◌⊎◌, Result, Ok, Err}
use Rattle.vod_program.specs.declared.status.Fault.{Fault}
use Rattle.vod_program.specs.declared.status.Fault.TheVariants as failed
use Rattle.vod_program.specs.declared.command.Command.{Command}
use Rattle.vod_program.specs.declared.command.Command.TheVariants.{Record, Window, Dump}

-- an answer with which something may have been written
abbrev pub Writes : Result (Unit {0}) Fault → Type 0
Writes answer = (answer ≡ Ok tt) ⊎ (answer ≡ Err failed.Write) ⊎ (answer ≡ Err failed.Memory)

-- the commands that read a design and an input, and those on a log
abbrev pub ReadsInputs : Command → Type 0
ReadsInputs Record = Unit {0}
ReadsInputs (Window window) = ⊥
ReadsInputs Dump = Unit {0}

abbrev pub UsesDeck : Command → Type 0
UsesDeck Record = Unit {0}
UsesDeck (Window window) = Unit {0}
UsesDeck Dump = ⊥
