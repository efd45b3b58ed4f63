use Rattle.std.proofs.Common.{◌∙◌, ap}
use Rattle.std.proofs.lemmas.List.{get_or_read}
use Rattle.vod_thin_queue.specs.Flags.{set_count}
use Rattle.vod_thin_queue.proofs.Tree.{count_at_root, root_within}
use Rattle.vod_thin_queue.proofs.flags.Flags.count.Goals as goal

pub returns-clause-count : goal.returns-clause-count
returns-clause-count c =
    get_or_read _ 1 _ (root_within _ _ _ _ c.self.invariant) c.index.ensures 0 ∙ count_at_root _ _ _ _ c.self.invariant ∙ ap set_count c.self.view_is
