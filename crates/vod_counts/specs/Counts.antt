-- How many instances modules have.
use Rattle.std.specs.Prelude.{◌≡◌, ◌<◌, ℕ, zero, suc, ◌+◌, ◌*◌, ◌==◌, min, List, [], ◌∷◌, length, slice_index, Option, if◌then◌else◌}
use Rattle.vod_fanout.specs.declared.Feed.{Feed}
use Rattle.vod_modules.specs.Faults.{is_number}

-- the top has one instance of its own
abbrev pub own : Option ℕ → ℕ → ℕ
own top k = if is_number top k then 1 else 0

-- each instance of a module has those that the module's items make
abbrev pub made : (ℕ → ℕ) → List Feed → ℕ → ℕ
made counts [] k = 0
made counts (e ∷ es) k = (if e.reader == k then counts e.source else 0) + made counts es k

-- how many instances a module has less than d levels below the top: with as many levels as there are modules all instances, as no
-- module instantiates itself through a chain
abbrev pub instances_of : List Feed → Option ℕ → ℕ → ℕ → ℕ
instances_of edges top zero k = 0
instances_of edges top (suc d) k = own top k + made (instances_of edges top d) edges k

-- the sum of what each instance has, where modules from a number on have these
abbrev pub total : (ℕ → ℕ) → ℕ → List ℕ → ℕ
total counts k [] = 0
total counts k (w ∷ ws) = counts k * w + total counts (suc k) ws

-- a count, as far as it is told apart: more than each limit
abbrev pub capped : ℕ → ℕ
capped n = min n 33554432

-- a table has the counts of n modules
abbrev pub IsTable : ℕ → (ℕ → ℕ) → List ℕ → Type 0
IsTable n counts table = (length table ≡ n) × ((k : ℕ) → k < n → capped (slice_index table k) ≡ capped (counts k))
