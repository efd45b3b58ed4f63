-- The digits behind the `'` of a based number, as a value of the code.
use Rattle.std.specs.Prelude.{◌≡◌, ℕ, ◌+◌, ◌<◌, ◌≤◌, ◌⊎◌, List, length}
use Rattle.vod_token.specs.Scan.{tail_base, tail_start, tail_len}
use Rattle.vod_token.specs.declared.number.Digits.{Digits}

pub record AreDigits (tail : List ℕ) (d : Digits) : Type 0 where
  pub base : d.base ≡ tail_base tail
  pub start : d.start ≡ tail_start tail
  pub end : d.end ≡ tail_start tail + tail_len tail
  pub some : 0 < tail_len tail
  pub within : d.end ≤ length tail
  pub known : (d.base ≡ 2) ⊎ (d.base ≡ 8) ⊎ (d.base ≡ 10) ⊎ (d.base ≡ 16)
