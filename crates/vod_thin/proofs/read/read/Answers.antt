use Rattle.std.proofs.Common.{sym, subst}
use Rattle.vod_thin.specs.Faults.{IsFault}
use Rattle.vod_thin.proofs.ReadLaws.{fault_kept}
use Rattle.vod_thin.proofs.read.read.Goals as goal

pub returns-in-Err-clause-refused : goal.returns-in-Err-clause-refused
returns-in-Err-clause-refused c = subst (IsFault c.args.source.now c.args.more) (sym c.from.ensures) (fault_kept c.args.source.now c.args.more c.in-Err.fault c.in-Err.ensures.fault)
