use Rattle.std.proofs.Common.{◌≡◌, ◌++◌, flat_map, take}
use Rattle.vod_design.specs.Reads.{reads}
use Rattle.vod_eval.proofs.reads.+reads.Given as goal

abbrev pub invariant-add_all_reads-loop-e : goal.invariant-add_all_reads-loop-e
invariant-add_all_reads-loop-e l = l.list.items ≡ l.fn.list.items ++ flat_map reads (take l.e-index l.exprs)
