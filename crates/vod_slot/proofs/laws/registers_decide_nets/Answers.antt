use Rattle.vod_slot.proofs.Unique.{same_at_rest}
use Rattle.vod_slot.proofs.laws.registers_decide_nets.Goals as goal

pub returns : goal.returns
returns c = same_at_rest c.value_hangs_on_reads.ensures
