use Rattle.vod_thin_queue.proofs.OneUpdate.{updates-rest}
use Rattle.vod_thin_queue.proofs.updates.Updates.take.Goals as goal

pub returns-clause-rest : goal.returns-clause-rest
returns-clause-rest c = updates-rest c.args.self.now _ _ c.args.block c.self.view_is c.take.ensures.taken
