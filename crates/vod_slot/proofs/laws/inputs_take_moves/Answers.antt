use Rattle.vod_slot.proofs.Inputs.{input_end}
use Rattle.vod_slot.proofs.laws.inputs_take_moves.Goals as goal

pub returns : goal.returns
returns c = input_end c.value_hangs_on_reads.ensures
