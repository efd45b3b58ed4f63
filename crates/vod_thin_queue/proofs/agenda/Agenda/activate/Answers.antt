use Rattle.vod_thin_queue.proofs.Puts.{activate-done}
use Rattle.vod_thin_queue.proofs.agenda.Agenda.activate.Goals as goal

pub returns : goal.returns
returns c = activate-done c.args.self.now _ c.self.view_is _ _ c.swap.ensures.x_after c.swap.ensures.y_after c.requires.shaped c.requires.allowed
