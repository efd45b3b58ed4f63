-- The words of the program.
use Rattle.std.specs.Prelude.{◌≡◌, ℕ, ◌<◌, ◌^◌, List, [], ◌∷◌, codes}
use Rattle.std.specs.Str.Parse.{digits_value}
use Rattle.vod_text.specs.Numeral.{IsDecimal}
use Rattle.vod_program.specs.declared.command.Command.{Command}
use Rattle.vod_program.specs.declared.command.Command.TheVariants.{Record, Window, Dump}

-- 1 to 19 decimal digits write this time, which is below 2^63
pub record IsTime (text : List ℕ) (time : ℕ) : Type 0 where
  pub decimal : IsDecimal text
  pub value : digits_value 10 text ≡ time
  pub within : time < 2 ^ 63

-- `record DESIGN LOG`, `window LOG A B` with the times A and B, `dump DESIGN`
abbrev pub IsCommand : List (List ℕ) → Command → Type 0
IsCommand words Record = (design : List ℕ) × (log : List ℕ) × (words ≡ codes "record" ∷ design ∷ log ∷ [])
IsCommand words (Window window) = (log : List ℕ) × (a : List ℕ) × (b : List ℕ) × (words ≡ codes "window" ∷ log ∷ a ∷ b ∷ []) × IsTime a window.from × IsTime b window.to
IsCommand words Dump = (design : List ℕ) × (words ≡ codes "dump" ∷ design ∷ [])
