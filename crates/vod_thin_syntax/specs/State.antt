-- The reader of the code: the tokens that are left from the next one on, and what a call answers.
use Rattle.std.specs.Prelude.{◌≡◌, ℕ, List, drop, Result, Ok, Err}
use Rattle.vod_thin_syntax.specs.declared.reader.Reader as code_reader
use Rattle.vod_thin_syntax.specs.declared.reader.Stop.{Stop}
use Rattle.vod_thin_syntax.specs.declared.reader.Stop.TheVariants as stop
use Rattle.vod_thin_syntax.specs.Syntax.{Mark}
use Rattle.vod_thin_syntax.specs.View.{marks_of}
use Rattle.vod_thin_syntax.specs.Reader.{Read, Got, Refused}

abbrev pub left : code_reader.Reader → ℕ → List Mark
left r at = marks_of r.source.now (drop at r.tokens.now)

-- a call read what was to be read, or stands at the tokens that can't go on
abbrev pub Gives : {T A : Type 0} → (T → A) → Result T Stop → List Mark → Read A → Type 0
Gives view (Ok x) rest expected = expected ≡ Got (view x) rest
Gives view (Err stop.Refused) rest expected = expected ≡ Refused rest
Gives view (Err stop.Memory) rest expected = Unit {0}
