-- How a call ends: its status, the number of that, and the line on the error stream.
use Rattle.std.specs.Prelude.{◌≡◌, ◌⊎◌, ℕ, List, [], Option, None, Some, codes, ◌++◌, ◌∷◌}
use Rattle.std.specs.Fmt.{decimal}
use Rattle.vod_io.specs.Told.{appended, Puts}
use Rattle.vod_thin_replay.specs.declared.held.RangeFault.{RangeFault}
use Rattle.vod_thin_replay.specs.declared.held.RangeFault.TheVariants as range
use Rattle.vod_program.specs.declared.status.Part.TheVariants as part
use Rattle.vod_program.specs.declared.status.Status.{Status}
use Rattle.vod_program.specs.declared.status.Status.TheVariants as status
use Rattle.vod_program.specs.declared.status.Fault.{Fault}
use Rattle.vod_program.specs.declared.status.Fault.TheVariants as failed

-- the number of a status
abbrev pub code_of : Status → ℕ
code_of status.Ok = 0
code_of status.Usage = 2
code_of status.Backwards = 5
code_of status.NothingHeld = 5
code_of status.NeverKnown = 5
code_of (status.TooEarly time) = 5
code_of (status.PastEnd time) = 5
code_of (status.NotALog at) = 6
code_of (status.Damaged at) = 6
code_of status.DeckFault = 7
code_of status.ReadFault = 8
code_of status.WriteFault = 9
code_of status.OutOfMemory = 10
code_of (status.NotYet p place) = 12

-- the status of a window that isn't in a log
abbrev pub range_status : RangeFault → Status
range_status range.Backwards = status.Backwards
range_status range.NothingHeld = status.NothingHeld
range_status range.NeverKnown = status.NeverKnown
range_status (range.TooEarly time) = status.TooEarly time
range_status (range.PastEnd time) = status.PastEnd time

-- the status of a fault
abbrev pub status_of : Fault → Status
status_of failed.Usage = status.Usage
status_of (failed.NotYet p place) = status.NotYet p place
status_of (failed.Range fault) = range_status fault
status_of (failed.NotALog at) = status.NotALog at
status_of (failed.Damaged at) = status.Damaged at
status_of failed.Deck = status.DeckFault
status_of failed.Read = status.ReadFault
status_of failed.Write = status.WriteFault
status_of failed.Memory = status.OutOfMemory

-- the line of a fault, up to its number or its end; none of a failed sink
abbrev pub text_of : Fault → List ℕ
text_of failed.Usage = codes "usage: vod [--every N] ACTION [ARGS].."
text_of (failed.NotYet part.Design place) = codes "not yet: design at "
text_of (failed.NotYet part.Script line) = codes "not yet: script line "
text_of (failed.NotYet part.Log at) = codes "not yet: log at "
text_of (failed.Range range.Backwards) = codes "window refused: Backwards"
text_of (failed.Range range.NothingHeld) = codes "window refused: NothingHeld"
text_of (failed.Range range.NeverKnown) = codes "window refused: NeverKnown"
text_of (failed.Range (range.TooEarly time)) = codes "window refused: TooEarly "
text_of (failed.Range (range.PastEnd time)) = codes "window refused: PastEnd "
text_of (failed.NotALog at) = codes "log refused: NotALog "
text_of (failed.Damaged at) = codes "log refused: Damaged "
text_of failed.Deck = codes "deck fault"
text_of failed.Read = codes "read fault"
text_of failed.Write = []
text_of failed.Memory = codes "out of memory"

-- the number at the end of a line
abbrev pub number_of : Fault → Option ℕ
number_of failed.Usage = None
number_of (failed.NotYet p place) = Some place
number_of (failed.Range range.Backwards) = None
number_of (failed.Range range.NothingHeld) = None
number_of (failed.Range range.NeverKnown) = None
number_of (failed.Range (range.TooEarly time)) = Some time
number_of (failed.Range (range.PastEnd time)) = Some time
number_of (failed.NotALog at) = Some at
number_of (failed.Damaged at) = Some at
number_of failed.Deck = None
number_of failed.Read = None
number_of failed.Write = None
number_of failed.Memory = None

-- a number in its shortest decimal, if there is one
abbrev pub number_text : Option ℕ → List ℕ
number_text None = []
number_text (Some number) = decimal number

-- the LF behind a line; none of a failed sink
abbrev pub ending : Fault → List ℕ
ending failed.Usage = 10 ∷ []
ending (failed.NotYet p place) = 10 ∷ []
ending (failed.Range fault) = 10 ∷ []
ending (failed.NotALog at) = 10 ∷ []
ending (failed.Damaged at) = 10 ∷ []
ending failed.Deck = 10 ∷ []
ending failed.Read = 10 ∷ []
ending failed.Write = []
ending failed.Memory = 10 ∷ []

-- the line of a fault
abbrev pub line_of : Fault → List ℕ
line_of s = text_of s ++ (number_text (number_of s) ++ ending s)

-- a fault was reported: its line was taken and its status answered, or the sink failed and took a prefix of the line
abbrev pub Reports : Fault → Status → Option (List ℕ) → Option (List ℕ) → Type 0
Reports s answer before after =
    ((answer ≡ status_of s) × (after ≡ appended before (line_of s))) ⊎ ((answer ≡ status.WriteFault) × ((rest : List ℕ) × Puts before after (line_of s) rest))
