use Rattle.vod_counts.specs.Counts.{instances_of, IsTable}
use Rattle.vod_counts.proofs.counts.counts_of.Given as goal

abbrev pub invariant-loop-level : goal.invariant-loop-level
invariant-loop-level l = IsTable l.count (instances_of l.edges l.top l._level) l.table.items
