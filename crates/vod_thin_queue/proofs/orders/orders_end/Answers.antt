use Rattle.vod_thin_queue.proofs.Ends.{order_length, slot, run}
use Rattle.vod_thin_queue.proofs.orders.orders_end.Goals as goal

pub returns-clause-order_ends : goal.returns-clause-order_ends
returns-clause-order_ends c = order_length

pub returns-clause-slot_exists : goal.returns-clause-slot_exists
returns-clause-slot_exists c = slot

pub returns-clause-run_exists : goal.returns-clause-run_exists
returns-clause-run_exists c = run
