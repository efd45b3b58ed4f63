-- The text so far, continued by the lines of the signals that are left, is the whole.
use Rattle.std.proofs.Common.{◌≡◌, ◌++◌, drop, flat_map}
use Rattle.vod_vcd.specs.Scopes.{var_line_at}
use Rattle.vod_vcd.proofs.scopes.add_variables.Given as goal

abbrev pub invariant-loop-number : goal.invariant-loop-number
invariant-loop-number l =
    l.text.items ++ flat_map (var_line_at l.signals) (drop l.number-index l.numbers) ≡ l.initial.text.items ++ flat_map (var_line_at l.signals) l.numbers
