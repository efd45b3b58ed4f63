use Rattle.std.proofs.Common.{None, ap, map, ◌∙◌}
use Rattle.vod_thin_queue.specs.Core.{updates_of}
use Rattle.vod_thin_queue.proofs.Count.{map-replicate}
use Rattle.vod_thin_queue.proofs.updates.Updates.none.Goals as goal

pub returns : goal.returns
returns c = ap (map updates_of) c.in_ok-none.ensures ∙ map-replicate updates_of c.args.blocks None
