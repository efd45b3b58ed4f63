use Rattle.std.proofs.Common.{length}
use Rattle.vod_thin_design.specs.declared.thin.Block.{Block}
use Rattle.vod_thin_queue.proofs.Accepted.{within_read, register_within, assigned_is_register}
use Rattle.vod_thin_queue.proofs.agenda.block_at.Goals as goal

pub returns-clause-within : goal.returns-clause-within
returns-clause-within c =
    within_read (λ (block : Block). block.register) (length c.args.design.now.signals) c.args.design.now.blocks _ c.args.place _ c.blocks-2.ensures.items c.requires c.index-blocks-place.is
    (register_within c.args.design.now _ (assigned_is_register c.args.design.now c.blocks-2.ensures.accepted c.args.place c.requires))
