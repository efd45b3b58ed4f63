-- The text so far, continued by the lines of the signals that are left, is the whole.
use Rattle.std.proofs.Common.{◌≡◌, ◌++◌, drop}
use Rattle.std.specs.List.{enumerate_from, flat_map}
use Rattle.vod_thin_vcd.specs.Text.{var_line}
use Rattle.vod_thin_vcd.proofs.header.add_variables.Given as goal

abbrev pub invariant-loop-number : goal.invariant-loop-number
invariant-loop-number l =
    l.text.items ++ flat_map (λ e. var_line e.0 e.1) (enumerate_from l.number (drop l.number l.signals))
    ≡ l.initial.text.items ++ flat_map (λ e. var_line e.0 e.1) (enumerate_from 0 l.signals)
