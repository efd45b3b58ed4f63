use Rattle.vod_thin_queue.proofs.OneUpdate.{updates-nth}
use Rattle.vod_thin_queue.proofs.updates.Updates.find.Goals as goal

pub returns-clause-nth : goal.returns-clause-nth
returns-clause-nth c = updates-nth c.args.self.now _ _ c.args.nth c.self.view_is c.find.ensures.nth
