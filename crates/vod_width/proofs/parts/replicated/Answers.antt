use Rattle.vod_width.proofs.Concats.{replicate_sees}
use Rattle.vod_width.proofs.parts.replicated.Goals as goal

pub returns : goal.returns
returns c = λ x ys m s.
    replicate_sees c.unplaced.result c.args.place c.args.parts x ys c.args.count c.or_zero-number.result c.tree_count-times.result c.total-width.result c.times_wide.result c.both_hold-constant.result c.concat_tree-concat.result
    c.in_ok-tree.tree s m c.or_zero-number.ensures c.total-width.ensures c.both_hold-constant.ensures c.concat_tree-concat.ensures c.tree_count-times.ensures c.in_ok-tree.ensures c.times_wide.ensures c.unplaced.ensures
