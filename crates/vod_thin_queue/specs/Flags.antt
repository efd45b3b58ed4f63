-- Flags, and the counts of those that are set.
use Rattle.std.specs.Prelude.{◌≡◌, ℕ, ◌+◌, ◌*◌, ◌<◌, ◌≤◌, ◌^◌, ◌==◌, Bool, true, false, not, List, length, fold, count_by, slice_set, slice_index, if◌then◌else◌}
use Rattle.vod_thin_queue.specs.State.{flag_at}

-- 1 where a flag is set, and 0 where it isn't
abbrev pub digit_of : Bool → ℕ
digit_of true = 1
digit_of false = 0

-- how many flags are set
abbrev pub set_count : List Bool → ℕ
set_count flags = count_by (λ flag. flag) flags

-- the flags, with those at some places set
abbrev pub set_all : List Bool → List ℕ → List Bool
set_all flags places = fold (λ flags place. slice_set flags place true) flags places

-- so it is where something happened, and else the flags are as they were
abbrev pub set_where : Bool → List Bool → List ℕ → List Bool
set_where true flags places = set_all flags places
set_where false flags places = flags

-- in a binary tree of counts that has its root at 1, each node counts what its children at 2n and 2n + 1 do
abbrev pub AreSums : ℕ → List ℕ → Type 0
AreSums leaves counts = (n : ℕ) → 1 ≤ n → n < leaves → slice_index counts n ≡ slice_index counts (2 * n) + slice_index counts (2 * n + 1)

-- so it is but for one node, which has yet to count one more, or one less
abbrev pub AreSumsBut : ℕ → Bool → ℕ → List ℕ → Type 0
AreSumsBut node added leaves counts = (n : ℕ) → 1 ≤ n → n < leaves →
    slice_index counts n + (if n == node then digit_of added else 0) ≡ slice_index counts (2 * n) + slice_index counts (2 * n + 1) + (if n == node then digit_of (not added) else 0)

-- a tree of counts over the flags, with a leaf for each
pub record IsTree (flags : List Bool) (counts : List ℕ) (leaves height : ℕ) : Type 0 where
  pub few : length flags < 2 ^ 25
  pub low : height ≤ 25
  pub power : leaves ≡ 2 ^ height
  pub room : length flags ≤ leaves
  pub size : length counts ≡ 2 * leaves
  pub leaf : (k : ℕ) → k < leaves → slice_index counts (leaves + k) ≡ digit_of (flag_at flags k)
  pub sums : AreSums leaves counts
