-- What a writer holds between its calls.
use Rattle.std.specs.Prelude.{◌≢◌, ℕ, ◌+◌, ◌*◌, ◌<◌, ◌≤◌, List, [], All, AllPairs, Contains, length, slice_index_or}
use Rattle.vod_bits.specs.Bit.{Bit}

-- the header's text, how many signals there are, the values last shown, and the time printed last
pub record Page : Type 0 where
  pub header : List ℕ
  pub signals : ℕ
  pub shown : List (List Bit)
  pub printed : ℕ

-- the most bytes that a call other than the header writes: 22 of the time line, 10 of `$dumpvars`, 5 of `$end`, 70 a signal
abbrev pub most_bytes : ℕ → ℕ
most_bytes signals = 37 + 70 * signals

-- a writer for so many signals has few enough, and room for what a call writes and for the numbers of all
pub record HasRoom (signals text numbers : ℕ) : Type 0 where
  pub few : signals ≤ 16384
  pub room : most_bytes signals ≤ text
  pub all : signals ≤ numbers

-- numbers of signals, each once, among them each signal whose value differs
pub record Covers (written : List ℕ) (before now : List (List Bit)) : Type 0 where
  pub inside : All (λ n. n < length now) written
  pub once : AllPairs (λ m n. m ≢ n) written
  pub all : (n : ℕ) → n < length now → slice_index_or before n [] ≢ slice_index_or now n [] → Contains written n
