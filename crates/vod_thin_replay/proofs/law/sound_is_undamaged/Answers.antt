use Rattle.vod_thin_script.proofs.Names.{few_inputs}
use Rattle.vod_thin_replay.proofs.Batches.{headed, undamaged}
use Rattle.vod_thin_replay.proofs.law.sound_is_undamaged.Goals as goal

pub returns-clause-head : goal.returns-clause-head
returns-clause-head c = headed

pub returns-clause-batches : goal.returns-clause-batches
returns-clause-batches c = λ d accepted. undamaged d (c.one_batch.ensures d (few_inputs d accepted))
