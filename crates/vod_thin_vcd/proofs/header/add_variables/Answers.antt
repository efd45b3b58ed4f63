-- One line more.
use Rattle.vod_thin_vcd.proofs.Entries.{lines-next}
use Rattle.vod_thin_vcd.specs.Text.{var_line}
use Rattle.vod_thin_vcd.proofs.header.add_variables.Goals as goal

pub loop-number-preserved : goal.loop-number-preserved
loop-number-preserved c =
    rw c.in_ok-add_variable.ensures (lines-next (λ e. var_line e.0 e.1) _ _ _ _ _ c.loop-number-test.true c.index-signals-number.is c.loop-number.invariant)
