use Rattle.vod_declared.proofs.Once.{modules_once}
use Rattle.vod_declared.proofs.source.names_are_declared_once.Goals as goal

pub returns : goal.returns
returns c = modules_once
