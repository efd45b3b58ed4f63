use Rattle.std.proofs.Common.{ap, sym, ◌∙◌}
use Rattle.vod_thin_design.specs.Vectors.{last_time}
use Rattle.vod_thin_window.proofs.RequestLaws.{last_time_of}
use Rattle.vod_thin_window.proofs.window.last_time.Goals as goal

pub returns-in-Some : goal.returns-in-Some
returns-in-Some c = sym (ap last_time c.in-Some.ensures.cases.0 ∙ last_time_of 0 c.in-Some.field-0-1.now c.in-Some.last.now)
