use Rattle.vod_thin_script.proofs.Refusals.{one_line, unread}
use Rattle.vod_thin_script.proofs.script.one_refusal.Goals as goal

pub returns-clause-line : goal.returns-clause-line
returns-clause-line c = one_line

pub returns-clause-unread : goal.returns-clause-unread
returns-clause-unread c = unread
