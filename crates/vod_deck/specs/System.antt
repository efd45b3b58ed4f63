-- What callers see of a deck of the system.
use Rattle.std.specs.Prelude.{ℕ, Bool, List, []}
use Rattle.vod_deck.specs.Outcomes.{View}

-- the path of the file, whether it is created and written, and the counts of faults and of bytes read
pub record FileView : Type 0 where
  pub path : List ℕ
  pub writes : Bool
  pub faults : ℕ
  pub bytes_read : ℕ

-- a deck of the system tells its counts alone
abbrev pub untold : FileView → View
untold v = record { bytes = []; may_leave = λ _. ⊥; moment = 0; left_since = λ _ _. ⊥; faults = v.faults; bytes_read = v.bytes_read }
