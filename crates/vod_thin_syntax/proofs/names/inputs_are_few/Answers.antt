use Rattle.vod_thin_syntax.proofs.InputLaws.{few_inputs}
use Rattle.vod_thin_syntax.proofs.names.inputs_are_few.Goals as goal

pub returns : goal.returns
returns c = few_inputs
