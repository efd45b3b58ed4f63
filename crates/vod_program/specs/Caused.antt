-- The statuses of the program, each with its cause, and what stands in for each refusal.
use Rattle.std.specs.Prelude.{◌≡◌, ℕ, ◌<◌, ◌≤◌, ◌⊎◌, List, [], length, Option, None, Some, Result, Ok, Err}
use Rattle.vod_io.specs.Told.{appended, Puts}
use Rattle.vod_thin_design.specs.declared.thin.Vector.{Vector}
use Rattle.vod_thin_design.specs.Netlist.{Netlist}
use Rattle.vod_log.specs.Format.{committed, counts_of}
use Rattle.vod_log.specs.Opened.{IsWrongAt}
use Rattle.vod_thin_script.specs.Script.{IsScript, IsRefused}
use Rattle.vod_thin_code.specs.Held.{IsSound}
use Rattle.vod_thin_replay.specs.Range.{range_of}
use Rattle.vod_thin_replay.specs.Replay.{HoldsSource, IsReadUpTo, IsHeadDamagedAt, IsDamagedUpTo}
use Rattle.vod_thin_replay.specs.declared.held.RangeFault.TheVariants as range
use Rattle.vod_thin_window.specs.declared.window.Window as span
use Rattle.vod_program.specs.Command.{IsCommand}
use Rattle.vod_program.specs.Sources.{IsSource, IsRefusedSource, IsUnrecordable}
use Rattle.vod_program.specs.Answer.{Count, IsRisen, Inputs, Output, Device, World, IsDeckRisen, HasNoCommand, IsFresh, IsPlain, HasImage, IsInside, HoldsOther, Answers}
use Rattle.vod_program.specs.Ends.{line_of, text_of, status_of}
use Rattle.vod_program.specs.declared.command.Command.{Command}
use Rattle.vod_program.specs.declared.command.Command.TheVariants.{Record, Window, Dump}
use Rattle.vod_program.specs.declared.status.Part.TheVariants as part
use Rattle.vod_program.specs.declared.status.Status.{Status}
use Rattle.vod_program.specs.declared.status.Status.TheVariants as status
use Rattle.vod_program.specs.declared.status.Fault.{Fault}
use Rattle.vod_program.specs.declared.status.Fault.TheVariants as failed

-- the status of an answer
abbrev pub status_for : Result (Unit {0}) Fault → Status
status_for (Ok done) = status.Ok
status_for (Err s) = status_of s

-- an answer is reported by its status, or the error stream failed: `err` counts its faults
abbrev pub IsReported : Result (Unit {0}) Fault → Count → Status → Type 0
IsReported result err answer = (answer ≡ status_for result) ⊎ ((answer ≡ status.WriteFault) × IsRisen err)

-- each status comes only with its cause
pub record IsCaused (w : World) (err : Count) (answer : Status) : Type 0 where
  pub result : Result (Unit {0}) Fault
  pub answers : Answers w result
  pub reported : IsReported result err answer

-- a call of whose objects no count of faults rose
pub record IsCalm (w : World) (err : Count) : Type 0 where
  pub design : IsRisen w.inputs.design_faults → ⊥
  pub input : IsRisen w.inputs.input_faults → ⊥
  pub deck : IsDeckRisen w.device → ⊥
  pub out : IsRisen w.output.faults → ⊥
  pub errors : IsRisen err → ⊥

-- the source is told, and is refused at a place; it is told, and has this design
abbrev pub ToldRefused : Inputs → ℕ → Type 0
ToldRefused i place = (source : List ℕ) × (i.source ≡ Some source) × IsRefusedSource source place

abbrev pub ToldDesign : Inputs → Netlist → Type 0
ToldDesign i d = (source : List ℕ) × (i.source ≡ Some source) × IsSource source d

-- the design and the script are told
abbrev pub ToldScript : Inputs → (Netlist → List ℕ → Type 0) → Type 0
ToldScript i P = (d : Netlist) × (text : List ℕ) × ToldDesign i d × (i.script ≡ Some text) × P d text

-- a script of a design, with these vectors
abbrev pub HasVectors : (List Vector → Type 0) → Netlist → List ℕ → Type 0
HasVectors P d text = (vs : List Vector) × IsScript d text vs × P vs

-- which answer stands where all is told and nothing fails: for `dump`
abbrev pub DumpStands : Inputs → Result (Unit {0}) Fault → Type 0
DumpStands i (Ok done) = ToldScript i (HasVectors (λ vs. Unit {0}))
DumpStands i (Err failed.Usage) = ⊥
DumpStands i (Err (failed.NotYet part.Design place)) = ToldRefused i place
DumpStands i (Err (failed.NotYet part.Script line)) = ToldScript i (λ d text. IsRefused d text line)
DumpStands i (Err (failed.NotYet part.Log at)) = ⊥
DumpStands i (Err (failed.Range fault)) = ⊥
DumpStands i (Err (failed.NotALog at)) = ⊥
DumpStands i (Err (failed.Damaged at)) = ⊥
DumpStands i (Err failed.Deck) = ⊥
DumpStands i (Err failed.Read) = ⊥
DumpStands i (Err failed.Write) = ⊥
DumpStands i (Err failed.Memory) = ⊥

-- for `record`
abbrev pub RecordStands : Inputs → Device → Result (Unit {0}) Fault → Type 0
RecordStands i deck (Ok done) = deck.told × IsFresh deck × ToldScript i (HasVectors (λ vs. length vs < 4096))
RecordStands i deck (Err failed.Usage) = ⊥
RecordStands i deck (Err (failed.NotYet part.Design place)) = ToldRefused i place
RecordStands i deck (Err (failed.NotYet part.Script line)) = deck.told × IsFresh deck × ToldScript i (λ d text. IsUnrecordable d text line)
RecordStands i deck (Err (failed.NotYet part.Log at)) = deck.told × (1 < length deck.before.bytes) × (at ≡ length deck.before.bytes) × ((d : Netlist) × ToldDesign i d)
RecordStands i deck (Err (failed.Range fault)) = ⊥
RecordStands i deck (Err (failed.NotALog at)) = ⊥
RecordStands i deck (Err (failed.Damaged at)) = ⊥
RecordStands i deck (Err failed.Deck) = ⊥
RecordStands i deck (Err failed.Read) = ⊥
RecordStands i deck (Err failed.Write) = ⊥
RecordStands i deck (Err failed.Memory) = ⊥

-- the head of a log is wrong, or its source is read and the first wrong record up to a time stands at this gate
abbrev pub IsFirstDamaged : List ℕ → ℕ → ℕ → Type 0
IsFirstDamaged bytes to at = IsHeadDamagedAt bytes at ⊎ ((source : List ℕ) × (d : Netlist) × HoldsSource bytes source × IsSource source d × IsDamagedUpTo d bytes to at)

-- for `window`
abbrev pub WindowStands : Device → span.Window → Result (Unit {0}) Fault → Type 0
WindowStands deck window (Ok done) = deck.told × IsInside deck.before.bytes window
    × (((source : List ℕ) × (d : Netlist) × (interval : ℕ) × (vs : List Vector) × IsSource source d × IsSound d source interval vs deck.before.bytes)
    ⊎ ((source : List ℕ) × (d : Netlist) × (vs : List Vector) × HoldsSource deck.before.bytes source × IsSource source d × IsReadUpTo d deck.before.bytes window.to vs))
WindowStands deck window (Err failed.Usage) = ⊥
WindowStands deck window (Err (failed.NotYet part.Design place)) = ⊥
WindowStands deck window (Err (failed.NotYet part.Script line)) = ⊥
WindowStands deck window (Err (failed.NotYet part.Log at)) = deck.told × (HasImage deck.before.bytes at ⊎ (IsInside deck.before.bytes window × HoldsOther deck.before.bytes × (at ≡ 0)))
WindowStands deck window (Err (failed.Range fault)) = deck.told × IsPlain deck.before.bytes × (range_of (counts_of (committed deck.before.bytes).last) window.from window.to ≡ Err fault)
WindowStands deck window (Err (failed.NotALog at)) = deck.told × IsWrongAt (committed deck.before.bytes) at
WindowStands deck window (Err (failed.Damaged at)) = deck.told × IsInside deck.before.bytes window × IsFirstDamaged deck.before.bytes window.to at
WindowStands deck window (Err failed.Deck) = ⊥
WindowStands deck window (Err failed.Read) = ⊥
WindowStands deck window (Err failed.Write) = ⊥
WindowStands deck window (Err failed.Memory) = ⊥

abbrev pub Stands : World → Command → Result (Unit {0}) Fault → Type 0
Stands w Record answer = RecordStands w.inputs w.device answer
Stands w (Window window) answer = WindowStands w.device window answer
Stands w Dump answer = DumpStands w.inputs answer

-- where nothing failed, a call gives the answer that stands, unless memory ran out
pub record IsComplete (w : World) (err : Count) (answer : Status) : Type 0 where
  pub usage : HasNoCommand w → (IsRisen err → ⊥) → answer ≡ status.Usage
  pub stands : IsCalm w err → (command : Command) → IsCommand w.words command → (result : Result (Unit {0}) Fault) → Stands w command result →
      (answer ≡ status_for result) ⊎ (answer ≡ status.OutOfMemory)

-- a status has its cause, and is the one that stands
pub record IsAnswered (w : World) (err : Count) (answer : Status) : Type 0 where
  pub caused : IsCaused w err answer
  pub complete : IsComplete w err answer

-- the line of a status
abbrev pub status_line : Status → List ℕ
status_line status.Ok = []
status_line status.Usage = line_of failed.Usage
status_line status.Backwards = line_of (failed.Range range.Backwards)
status_line status.NothingHeld = line_of (failed.Range range.NothingHeld)
status_line status.NeverKnown = line_of (failed.Range range.NeverKnown)
status_line (status.TooEarly time) = line_of (failed.Range (range.TooEarly time))
status_line (status.PastEnd time) = line_of (failed.Range (range.PastEnd time))
status_line (status.NotALog at) = line_of (failed.NotALog at)
status_line (status.Damaged at) = line_of (failed.Damaged at)
status_line status.DeckFault = line_of failed.Deck
status_line status.ReadFault = line_of failed.Read
status_line status.WriteFault = []
status_line status.OutOfMemory = line_of failed.Memory
status_line (status.NotYet p place) = line_of (failed.NotYet p place)

-- the error stream took the line of the status, and with a fault of a sink a prefix of some line
pub record IsSaid (answer : Status) (before after : Option (List ℕ)) : Type 0 where
  pub line : (answer ≡ status.WriteFault → ⊥) → after ≡ appended before (status_line answer)
  pub part : answer ≡ status.WriteFault → (s : Fault) × (rest : List ℕ) × Puts before after (line_of s) rest

-- with these statuses alone something may have been written
abbrev pub MayWrite : Status → Type 0
MayWrite answer = (answer ≡ status.Ok) ⊎ (answer ≡ status.WriteFault) ⊎ (answer ≡ status.OutOfMemory)
