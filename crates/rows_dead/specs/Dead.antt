-- A device on which each call fails: it holds no byte, and nothing was said.
use Rattle.std.specs.Prelude.{◌≡◌, ℕ, ◌≤◌, List, [], refl}
use Rattle.vod_deck.specs.Outcomes.{Outcome, View}

-- what a crash leaves of it: no byte, and no text
abbrev pub IsBare : Outcome → Type 0
IsBare c = (c.file ≡ []) × (c.said ≡ [])

-- what callers see of it
abbrev pub dead : ℕ → View
dead faults = record { bytes = []; may_leave = IsBare; moment = 0; left_since = λ _ c. IsBare c; faults = faults; bytes_read = 0 }

pub dead-counts_now : (faults t : ℕ) (c : Outcome) → t ≤ (dead faults).moment → (dead faults).may_leave c → (dead faults).left_since t c
dead-counts_now faults t c le now = now

pub dead-only_now : (faults : ℕ) (c : Outcome) → (dead faults).left_since (dead faults).moment c → (dead faults).may_leave c
dead-only_now faults c left = left
