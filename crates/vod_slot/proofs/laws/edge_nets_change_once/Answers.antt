use Rattle.vod_slot.proofs.Edges.{AreEdgesKept-after}
use Rattle.vod_slot.proofs.Openings.{AreEdgesKept-start_of, AreEdgesKept-opened}
use Rattle.vod_slot.proofs.laws.edge_nets_change_once.Goals as goal

pub returns-clause-start : goal.returns-clause-start
returns-clause-start c = AreEdgesKept-start_of

pub returns-clause-opened : goal.returns-clause-opened
returns-clause-opened c = AreEdgesKept-opened c.value_hangs_on_reads.ensures

pub returns-clause-after : goal.returns-clause-after
returns-clause-after c = AreEdgesKept-after
