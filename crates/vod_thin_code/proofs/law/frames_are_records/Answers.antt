use Rattle.vod_thin_code.proofs.Frames.{begins, header_read, long, closed, entry}
use Rattle.vod_thin_code.proofs.law.frames_are_records.Goals as goal

pub returns-clause-begins : goal.returns-clause-begins
returns-clause-begins c = begins

pub returns-clause-header : goal.returns-clause-header
returns-clause-header c = header_read

pub returns-clause-long : goal.returns-clause-long
returns-clause-long c = long

pub returns-clause-closed : goal.returns-clause-closed
returns-clause-closed c = closed

pub returns-clause-entry : goal.returns-clause-entry
returns-clause-entry c = entry
