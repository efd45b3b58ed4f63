use Rattle.std.proofs.Common.{◌+◌, arith, get_or-set_other}
use Rattle.vod_thin_queue.proofs.Tree.{count_small}
use Rattle.vod_thin_queue.proofs.flags.Flags.write.Goals as goal

pub recount-requires-clause-small : goal.recount-requires-clause-small
recount-requires-clause-small c =
    λ n one le. rw (c.deref_mut.ensures.value, get_or-set_other c.self.inside.counts.items (c.self.inside.leaves + c.args.place) n c.from.result 0 (λ e. omega arith))
    (count_small c.self.inside.flags.items c.self.inside.counts.items c.self.inside.leaves c.self.inside.height n c.self.invariant one)
