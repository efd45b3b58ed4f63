use Rattle.vod_thin_queue.proofs.OneUpdate.{updates-add}
use Rattle.vod_thin_queue.proofs.updates.Updates.add.Goals as goal

pub returns : goal.returns
returns c = updates-add c.args.self.now _ _ c.args.block c.args.bit c.self.view_is c.requires.none c.write.ensures
