use Rattle.vod_vcd.proofs.Windows.{window_text-cut, cut-full_dump}
use Rattle.vod_vcd.proofs.law.window_is_cut.Goals as goal

pub returns-clause-window : goal.returns-clause-window
returns-clause-window c = window_text-cut

pub returns-clause-whole : goal.returns-clause-whole
returns-clause-whole c = cut-full_dump
