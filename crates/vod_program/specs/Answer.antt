-- The answers of the commands, each with its cause.
use Rattle.std.specs.Prelude.{◌≡◌, ℕ, ◌<◌, ◌≤◌, ◌⊎◌, true, List, [], length, map, Option, None, Some, Result, Ok, Err}
use Rattle.vod_io.specs.Told.{Tells}
use Rattle.vod_io.specs.Faults.{Rose}
use Rattle.vod_deck.specs.Outcomes.{Outcome, View, From, Only}
use Rattle.vod_thin_design.specs.declared.thin.Vector.{Vector}
use Rattle.vod_thin_design.specs.Netlist.{Netlist, IsAccepted}
use Rattle.vod_thin_design.specs.Vectors.{IsLawful}
use Rattle.vod_log.specs.Format.{committed, counts_of}
use Rattle.vod_log.specs.Opened.{records_of, IsWrongAt}
use Rattle.vod_thin_script.specs.Script.{IsScript, IsRefused}
use Rattle.vod_thin_code.specs.Held.{IsHeld, IsSound, IsEmpty, Acknowledges, said}
use Rattle.vod_thin_store.specs.Stored.{HasSaid, HoldsBatches, Adds}
use Rattle.vod_thin_replay.specs.Range.{range_of, first_image}
use Rattle.vod_thin_replay.specs.Replay.{HoldsSource, IsReadUpTo, IsHeadDamagedAt, IsDamagedAt, IsDamagedUpTo}
use Rattle.vod_thin_window.specs.Request.{Request, dump_of, window_of, IsWritten, IsBegun}
use Rattle.vod_program.specs.Command.{IsCommand}
use Rattle.vod_program.specs.Sources.{IsSource, IsRefusedSource, IsOtherSource, IsUnrecordable}
use Rattle.vod_program.specs.declared.command.Command.{Command}
use Rattle.vod_program.specs.declared.command.Command.TheVariants.{Record, Window, Dump}
use Rattle.vod_thin_window.specs.declared.window.Window as span
use Rattle.vod_program.specs.declared.status.Part.TheVariants as part
use Rattle.vod_program.specs.declared.status.Fault.{Fault}
use Rattle.vod_program.specs.declared.status.Fault.TheVariants as failed

-- a count before and after a call
pub record Count : Type 0 where
  pub before : ℕ
  pub after : ℕ

abbrev pub IsRisen : Count → Type 0
IsRisen count = Rose count.before count.after

-- the design and the input: what they tell at entry, and their counts of faults
pub record Inputs : Type 0 where
  pub source : Option (List ℕ)
  pub script : Option (List ℕ)
  pub design_faults : Count
  pub input_faults : Count

-- the sink: what it told before and tells after, and its count of faults
pub record Output : Type 0 where
  pub before : Option (List ℕ)
  pub after : Option (List ℕ)
  pub faults : Count

-- the deck: whether it tells, and what is seen of it before and after
pub record Device : Type 1 where
  pub told : Type 0
  pub before : View
  pub after : View

-- what a call is handed and what it leaves
pub record World : Type 1 where
  pub words : List (List ℕ)
  pub inputs : Inputs
  pub output : Output
  pub device : Device

-- what is seen of a call: of the design and the input what they told at entry, of the sink what it told before and after,
-- of the deck whether it tells and what is seen of it before and after; of each but the deck its count of faults before and after
abbrev pub inputs_of : (source script : Option (List ℕ)) (design_before design_after input_before input_after : ℕ) → Inputs
inputs_of source script db da ib ia = record {
  source = source;
  script = script;
  design_faults = record { before = db; after = da };
  input_faults = record { before = ib; after = ia };
}

abbrev pub output_of : (before after : Option (List ℕ)) (faults_before faults_after : ℕ) → Output
output_of before after fb fa = record { before = before; after = after; faults = record { before = fb; after = fa } }

abbrev pub device_of : Type 0 → View → View → Device
device_of told before after = record { told = told; before = before; after = after }

abbrev pub world_of : List (List ℕ) → Inputs → Output → Device → World
world_of words inputs output device = record { words = words; inputs = inputs; output = output; device = device }

abbrev pub IsDeckRisen : Device → Type 0
IsDeckRisen deck = Rose deck.before.faults deck.after.faults

-- the words are no command
abbrev pub HasNoCommand : World → Type 0
HasNoCommand w = (command : Command) → IsCommand w.words command → ⊥

-- the source, where it is told, is of the thin form; it is refused at a place
abbrev pub HasDesign : Inputs → Type 0
HasDesign i = Tells i.source (λ source. (d : Netlist) × IsSource source d)

abbrev pub HasNoDesign : Inputs → ℕ → Type 0
HasNoDesign i place = Tells i.source (λ source. IsRefusedSource source place)

-- the script, where it and the source are told, is refused at a line; it isn't recorded, from a line on
abbrev pub HasNoVectors : Inputs → ℕ → Type 0
HasNoVectors i line = Tells i.source (λ source. Tells i.script (λ text. (d : Netlist) × IsSource source d × IsRefused d text line))

abbrev pub HasNoRecording : Inputs → ℕ → Type 0
HasNoRecording i line = Tells i.source (λ source. Tells i.script (λ text. (d : Netlist) × IsSource source d × IsUnrecordable d text line))

-- what is asked for: the source and its design, and the vectors of the script, by what is told of both
pub record Asks (i : Inputs) (r : Request) : Type 0 where
  pub source : Tells i.source (λ source. r.source ≡ source)
  pub script : Tells i.script (λ text. IsScript r.design text r.vectors)
  pub design : IsSource r.source r.design
  pub lawful : IsLawful r.design r.vectors

abbrev pub AsksFor : Inputs → (Request → Type 0) → Type 0
AsksFor i P = (r : Request) × Asks i r × P r

-- the answers of `dump DESIGN`
abbrev pub DumpAnswers : Inputs → Output → Result (Unit {0}) Fault → Type 0
DumpAnswers i out (Ok done) = AsksFor i (λ r. IsWritten r (dump_of r) out.before out.after)
DumpAnswers i out (Err failed.Usage) = ⊥
DumpAnswers i out (Err (failed.NotYet part.Design place)) = HasNoDesign i place
DumpAnswers i out (Err (failed.NotYet part.Script line)) = HasDesign i × HasNoVectors i line
DumpAnswers i out (Err (failed.NotYet part.Log at)) = ⊥
DumpAnswers i out (Err (failed.Range fault)) = ⊥
DumpAnswers i out (Err (failed.NotALog at)) = ⊥
DumpAnswers i out (Err (failed.Damaged at)) = ⊥
DumpAnswers i out (Err failed.Deck) = ⊥
DumpAnswers i out (Err failed.Read) = IsRisen i.design_faults ⊎ (HasDesign i × IsRisen i.input_faults)
DumpAnswers i out (Err failed.Write) = IsRisen out.faults × AsksFor i (λ r. IsBegun r (dump_of r) out.before out.after)
DumpAnswers i out (Err failed.Memory) = (out.after ≡ out.before) ⊎ AsksFor i (λ r. IsBegun r (dump_of r) out.before out.after)

-- the deck reads as a file of at most one byte
abbrev pub IsFresh : Device → Type 0
IsFresh deck = length deck.before.bytes ≤ 1

-- all was recorded: whatever a crash leaves, the log is sound and holds the source and the vectors, in batches of 64 and a
-- rest, and behind the longest text of before their acknowledgements were said
pub record IsRecorded (deck : Device) (r : Request) : Type 0 where
  pub few : length r.vectors < 4096
  pub fresh : deck.told → IsFresh deck
  pub sound : deck.told → IsSound r.design r.source 4096 r.vectors deck.after.bytes
  pub batches : deck.told → HoldsBatches r.vectors deck.after.bytes
  pub lasts : deck.told → Only deck.after.bytes deck.after.may_leave
  pub says : deck.told → (c : Outcome) → deck.after.may_leave c → From deck.before.may_leave (HasSaid (said r.vectors)) c

-- the answers of `record DESIGN LOG`
abbrev pub RecordAnswers : Inputs → Device → Result (Unit {0}) Fault → Type 0
RecordAnswers i deck (Ok done) = AsksFor i (IsRecorded deck)
RecordAnswers i deck (Err failed.Usage) = ⊥
RecordAnswers i deck (Err (failed.NotYet part.Design place)) = HasNoDesign i place
RecordAnswers i deck (Err (failed.NotYet part.Script line)) = HasDesign i × (deck.told → IsFresh deck) × HasNoRecording i line
RecordAnswers i deck (Err (failed.NotYet part.Log at)) = HasDesign i × (deck.told → (at ≡ length deck.before.bytes) × (1 < at))
RecordAnswers i deck (Err (failed.Range fault)) = ⊥
RecordAnswers i deck (Err (failed.NotALog at)) = ⊥
RecordAnswers i deck (Err (failed.Damaged at)) = ⊥
RecordAnswers i deck (Err failed.Deck) = HasDesign i × IsDeckRisen deck
RecordAnswers i deck (Err failed.Read) = IsRisen i.design_faults ⊎ (HasDesign i × (deck.told → IsFresh deck) × IsRisen i.input_faults)
RecordAnswers i deck (Err failed.Write) = ⊥
RecordAnswers i deck (Err failed.Memory) = Unit {0}

-- the log is framed and holds no image
pub record IsPlain (bytes : List ℕ) : Type 0 where
  pub framed : (committed bytes).framed ≡ true
  pub no_image : first_image (records_of (committed bytes).entries) ≡ None

-- a window is in what a log without an image holds
pub record IsInside (bytes : List ℕ) (window : span.Window) : Type 0 where
  pub plain : IsPlain bytes
  pub range : range_of (counts_of (committed bytes).last) window.from window.to ≡ Ok tt

-- a log holds an image, the first at this gate
pub record HasImage (bytes : List ℕ) (at : ℕ) : Type 0 where
  pub framed : (committed bytes).framed ≡ true
  pub image : first_image (records_of (committed bytes).entries) ≡ Some at

-- a log holds a source of the thin form
abbrev pub HoldsThin : List ℕ → Type 0
HoldsThin bytes = (source : List ℕ) × (d : Netlist) × HoldsSource bytes source × IsSource source d

-- a log holds a source that isn't of the thin form
pub record HoldsOther (bytes : List ℕ) : Type 0 where
  pub source : List ℕ
  pub has_source : HoldsSource bytes source
  pub other : IsOtherSource source

-- the payload of the record at a gate is wrong, the first such one up to a time
abbrev pub IsDamaged : List ℕ → ℕ → ℕ → Type 0
IsDamaged bytes to at =
    IsHeadDamagedAt bytes at
    ⊎ ((source : List ℕ) × (d : Netlist) × HoldsSource bytes source × IsSource source d × IsAccepted d × IsDamagedAt d bytes at × IsDamagedUpTo d bytes to at)

-- what a log holds up to a time: its source with the design of that, and the vectors of its batches as far as the first that
-- reaches the time, which are lawful
pub record HoldsUpTo (bytes : List ℕ) (to : ℕ) (r : Request) : Type 0 where
  pub has_source : HoldsSource bytes r.source
  pub is_source : IsSource r.source r.design
  pub accepted : IsAccepted r.design
  pub read : IsReadUpTo r.design bytes to r.vectors

-- a text of the window of what a log holds up to the window's end
abbrev pub OnHeld : Device → span.Window → (Request → Type 0) → Type 0
OnHeld deck window P = deck.told → (r : Request) × HoldsUpTo deck.before.bytes window.to r × P r

-- on a sound log without an image: a text of the window of its source and vectors
abbrev pub OnSound : Device → (Request → Type 0) → Type 0
OnSound deck P = deck.told → (source : List ℕ) (d : Netlist) (interval : ℕ) (vs : List Vector) → IsSource source d → IsSound d source interval vs deck.before.bytes →
    P (record { source = source; design = d; vectors = vs })

-- the answers of `window LOG A B`
abbrev pub WindowAnswers : Output → Device → span.Window → Result (Unit {0}) Fault → Type 0
WindowAnswers out deck window (Ok done) =
    (deck.told → IsInside deck.before.bytes window × HoldsThin deck.before.bytes)
    × OnHeld deck window (λ r. IsWritten r (window_of r window.from window.to) out.before out.after)
    × OnSound deck (λ r. IsWritten r (window_of r window.from window.to) out.before out.after)
WindowAnswers out deck window (Err failed.Usage) = ⊥
WindowAnswers out deck window (Err (failed.NotYet part.Design place)) = ⊥
WindowAnswers out deck window (Err (failed.NotYet part.Script line)) = ⊥
WindowAnswers out deck window (Err (failed.NotYet part.Log at)) = deck.told → HasImage deck.before.bytes at ⊎ (IsInside deck.before.bytes window × HoldsOther deck.before.bytes × (at ≡ 0))
WindowAnswers out deck window (Err (failed.Range fault)) = deck.told → IsPlain deck.before.bytes × (range_of (counts_of (committed deck.before.bytes).last) window.from window.to ≡ Err fault)
WindowAnswers out deck window (Err (failed.NotALog at)) = deck.told → IsWrongAt (committed deck.before.bytes) at
WindowAnswers out deck window (Err (failed.Damaged at)) = deck.told → IsInside deck.before.bytes window × IsDamaged deck.before.bytes window.to at
WindowAnswers out deck window (Err failed.Deck) = IsDeckRisen deck
WindowAnswers out deck window (Err failed.Read) = ⊥
WindowAnswers out deck window (Err failed.Write) = IsRisen out.faults × (deck.told → IsInside deck.before.bytes window × HoldsThin deck.before.bytes) × OnSound deck (λ r. IsBegun r (window_of r window.from window.to) out.before out.after)
WindowAnswers out deck window (Err failed.Memory) = (out.after ≡ out.before) ⊎ OnSound deck (λ r. IsBegun r (window_of r window.from window.to) out.before out.after)

-- the answers of a command
abbrev pub CommandAnswers : World → Command → Result (Unit {0}) Fault → Type 0
CommandAnswers w Record answer = RecordAnswers w.inputs w.device answer
CommandAnswers w (Window window) answer = WindowAnswers w.output w.device window answer
CommandAnswers w Dump answer = DumpAnswers w.inputs w.output answer

-- the answers of the program: those of the command that the words are, or that they are none
abbrev pub Answers : World → Result (Unit {0}) Fault → Type 0
Answers w answer = (HasNoCommand w × (answer ≡ Err failed.Usage)) ⊎ ((command : Command) × IsCommand w.words command × CommandAnswers w command answer)

-- what a crash during `record` leaves, from an outcome at entry: that outcome's file; or where the deck reads as one byte or
-- none, an empty log, or the source and the first of the vectors, with the acknowledgements of no more than these said
abbrev pub IsLeft : Inputs → Device → Outcome → Outcome → Type 0
IsLeft i deck e c =
    ((c.file ≡ e.file) × (c.said ≡ e.said))
    ⊎ (IsFresh deck × (length e.file ≤ 1) × ((IsEmpty c.file × (c.said ≡ e.said)) ⊎ AsksFor i (λ r. Adds r.design r.source r.vectors e c)))

-- the file as it reads afterwards is what a crash during the call may have left, with some text
abbrev pub Reads : Inputs → Device → Type 0
Reads i deck = (text : List ℕ) × From deck.before.may_leave (IsLeft i deck) (record { file = deck.after.bytes; said = text })

-- a file is a log that holds so many vectors at least
abbrev pub HoldsSome : List ℕ → ℕ → Type 0
HoldsSome file n = (n ≡ 0) ⊎ ((d : Netlist) × (source : List ℕ) × (interval : ℕ) × (vs : List Vector) × IsHeld d source interval vs file × (n ≤ length vs))

-- an outcome holds all vectors that its text acknowledges
abbrev pub IsAcknowledged : Outcome → Type 0
IsAcknowledged c = (n : ℕ) → Acknowledges c.said n → HoldsSome c.file n

-- where it was so in each outcome at entry, each outcome since holds what it acknowledges
abbrev pub KeepsAcknowledged : Device → Type 0
KeepsAcknowledged deck = ((c : Outcome) → deck.before.may_leave c → IsAcknowledged c) → (c : Outcome) → deck.after.left_since deck.before.moment c → IsAcknowledged c
