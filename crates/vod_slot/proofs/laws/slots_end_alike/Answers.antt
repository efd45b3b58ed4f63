use Rattle.vod_slot.proofs.Slots.{class_slot}
use Rattle.vod_slot.proofs.laws.slots_end_alike.Goals as goal

pub returns : goal.returns
returns c = class_slot c.value_hangs_on_reads.ensures
