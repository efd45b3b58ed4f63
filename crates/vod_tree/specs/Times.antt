-- Counts and units of times (IEEE 1364-2005, 19.8).
use Rattle.std.specs.Prelude.{ℕ, ◌+◌, ◌-◌}
use Rattle.vod_tree.specs.declared.module.Time.{Time}
use Rattle.vod_tree.specs.declared.module.TimeCount.{TimeCount}
use Rattle.vod_tree.specs.declared.module.TimeCount.TheVariants as count
use Rattle.vod_tree.specs.declared.module.TimeUnit.{TimeUnit}
use Rattle.vod_tree.specs.declared.module.TimeUnit.TheVariants as unit

-- how many units a count is
abbrev pub count_number : TimeCount → ℕ
count_number count.One = 1
count_number count.Ten = 10
count_number count.Hundred = 100

-- how many of a unit are a second
abbrev pub per_second : TimeUnit → ℕ
per_second unit.S = 1
per_second unit.Ms = 1000
per_second unit.Us = 1000000
per_second unit.Ns = 1000000000
per_second unit.Ps = 1000000000000
per_second unit.Fs = 1000000000000000

-- The same as powers of ten: a count is 10 to the first, a second has 10 to the second of a unit, and a time is 100 seconds
-- divided by 10 to the third.
abbrev pub count_exponent : TimeCount → ℕ
count_exponent count.One = 0
count_exponent count.Ten = 1
count_exponent count.Hundred = 2

abbrev pub unit_exponent : TimeUnit → ℕ
unit_exponent unit.S = 0
unit_exponent unit.Ms = 3
unit_exponent unit.Us = 6
unit_exponent unit.Ns = 9
unit_exponent unit.Ps = 12
unit_exponent unit.Fs = 15

abbrev pub time_exponent : Time → ℕ
time_exponent t = unit_exponent t.unit + (2 - count_exponent t.count)
