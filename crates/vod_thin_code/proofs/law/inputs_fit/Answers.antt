use Rattle.vod_thin_code.proofs.Vectors.{few_inputs}
use Rattle.vod_thin_code.proofs.law.inputs_fit.Goals as goal

pub returns : goal.returns
returns c = few_inputs
