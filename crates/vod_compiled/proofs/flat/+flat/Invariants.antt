use Rattle.std.proofs.Common.{◌≡◌, map, drop}
use Rattle.vod_compiled.specs.Code.{is_flat, all_flat}
use Rattle.vod_compiled.proofs.flat.+flat.Given as goal

abbrev pub invariant-all_flat-loop-e : goal.invariant-all_flat-loop-e
invariant-all_flat-loop-e l = all_flat (map is_flat (drop l.e-index l.exprs)) ≡ all_flat (map is_flat l.exprs)
