use Rattle.vod_slot.proofs.KnownNets.{signals_known}
use Rattle.vod_slot.proofs.laws.settled_signals_are_known.Goals as goal

pub returns : goal.returns
returns c d ranked h constants s consistent settled k given inputs n within =
    signals_known d ranked h constants s consistent settled
    (record { base = record { signal_sizes = consistent.shaped.sizes; memory_sizes = consistent.shaped.memories; words = k.words }; bits = k.bits }) given inputs n within
