-- What a writer holds between its calls.
use Rattle.std.specs.Prelude.{ℕ, ◌+◌, ◌*◌, ◌<◌, ◌≤◌, ◌^◌, List}
use Rattle.vod_thin_design.specs.declared.thin.Bit.{Bit}

-- the header's text, how many signals there are, the values last shown, and the time printed last
pub record Page : Type 0 where
  pub header : List ℕ
  pub signals : ℕ
  pub shown : List Bit
  pub printed : ℕ

-- the most bytes that a call other than the header writes: 22 of the time line, 10 of `$dumpvars`, 5 of `$end`, 6 a signal
abbrev pub most_bytes : ℕ → ℕ
most_bytes signals = 37 + 6 * signals

-- a writer for so many signals has few enough, and room for what a call writes
pub record HasRoom (signals capacity : ℕ) : Type 0 where
  pub few : signals < 2 ^ 25
  pub room : most_bytes signals ≤ capacity
