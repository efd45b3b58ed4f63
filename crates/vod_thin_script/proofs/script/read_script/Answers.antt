-- The assignments of each line were sorted.
use Rattle.vod_thin_script.proofs.Progress.{lines_rise}
use Rattle.vod_thin_script.proofs.script.read_script.Goals as goal

pub returns-clause-rises : goal.returns-clause-rises
returns-clause-rises c = lines_rise _ _ _ c.in_ok-read_lines.ensures.lines
