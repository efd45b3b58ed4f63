use Rattle.vod_thin_script.proofs.Names.{few_inputs}
use Rattle.vod_thin_replay.proofs.Damages.{read_up_to, one_up_to, one_head_damaged}
use Rattle.vod_thin_replay.proofs.law.one_damage.Goals as goal

pub returns-clause-head : goal.returns-clause-head
returns-clause-head c = one_head_damaged

pub returns-clause-apart : goal.returns-clause-apart
returns-clause-apart c = λ d accepted. read_up_to d (c.one_batch.ensures d (few_inputs d accepted))

pub returns-clause-place : goal.returns-clause-place
returns-clause-place c = λ d accepted. one_up_to d (c.one_batch.ensures d (few_inputs d accepted))
