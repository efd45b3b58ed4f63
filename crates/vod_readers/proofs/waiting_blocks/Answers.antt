use Rattle.std.proofs.Common.{◌∙◌, [], replicate, arith}
use Rattle.vod_readers.specs.Collected.{feeds_all}
use Rattle.vod_readers.specs.Readers.{nets_of}
use Rattle.vod_readers.proofs.Once.{collected, collected_inside, ended}
use Rattle.vod_readers.proofs.waiting_blocks.Goals as goal

pub table-requires : goal.table-requires
table-requires c =
    let items = c.args.blocks.now in
    let now = c.loop-k.collected in
    let all = ended nets_of items c.loop-k.k now.marks.items now.feeds.items (feeds_all nets_of 0 (replicate c.args.signals 0) [] items) (omega arith) c.loop-k.invariant in
    collected_inside nets_of c.args.signals items now.feeds.items all

pub returns-clause-made : goal.returns-clause-made
returns-clause-made c =
    let items = c.args.blocks.now in
    let now = c.loop-k.collected in
    let all = ended nets_of items c.loop-k.k now.marks.items now.feeds.items (feeds_all nets_of 0 (replicate c.args.signals 0) [] items) (omega arith) c.loop-k.invariant in
    c.in_ok-table.ensures.made ∙ collected nets_of c.args.signals items now.feeds.items all
