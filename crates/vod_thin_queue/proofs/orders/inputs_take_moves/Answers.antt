use Rattle.vod_thin_queue.proofs.Moves.{HasTaken-next, unmixed}
use Rattle.vod_thin_queue.proofs.orders.inputs_take_moves.Goals as goal

pub returns-clause-next : goal.returns-clause-next
returns-clause-next c = HasTaken-next

pub returns-clause-unmixed : goal.returns-clause-unmixed
returns-clause-unmixed c = unmixed
