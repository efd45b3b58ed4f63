-- A weight that falls with each step, so that every order of steps ends.
use Rattle.std.specs.Prelude.{ℕ, ◌+◌, ◌*◌, ◌^◌, Bool, List, [], ◌∷◌, Option, is_some, length, count_by, if◌then◌else◌}
use Rattle.std.specs.List.{sum_by}
use Rattle.vod_thin_design.specs.declared.thin.Bit.{Bit}
use Rattle.vod_thin_queue.specs.State.{State}

-- what is left of one driver: 2 where it awaits evaluation, and 1 where it has a pending value
abbrev pub driver_weight : Bool → Option Bit → ℕ
driver_weight flag value = (if flag then 2 else 0) + (if is_some value then 1 else 0)

-- what is left of the drivers, as a number in base 3: the update of one weighs more than all that it can wake
abbrev pub drivers_weight : List Bool → List (Option Bit) → ℕ
drivers_weight [] values = 0
drivers_weight (flag ∷ flags) [] = 0
drivers_weight (flag ∷ flags) (value ∷ values) = driver_weight flag value * 3 ^ length flags + drivers_weight flags values

-- what is left of the blocks: 3 for a statement, 2 for an update in later, and 1 for one in now
abbrev pub blocks_weight : State → ℕ
blocks_weight st = 3 * count_by (λ flag. flag) st.todo + 2 * sum_by length st.later + sum_by length st.now

-- what is left but for the drivers: a move weighs more than all blocks that it can start
abbrev pub changes_weight : State → ℕ
changes_weight st = (3 * length st.todo + 1) * count_by is_some st.moves + count_by (λ flag. flag) st.init + blocks_weight st

-- what is left of a state: each change weighs more than all drivers that it can wake
abbrev pub weight_of : State → ℕ
weight_of st = changes_weight st * 3 ^ length st.wake + drivers_weight st.wake st.pend
