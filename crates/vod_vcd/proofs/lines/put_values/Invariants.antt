-- The text so far, continued by the lines of the values that are left, is the whole.
use Rattle.std.proofs.Common.{◌≡◌, ◌≤◌, ◌++◌, ◌+◌, ◌*◌, drop, vec_len, vec_capacity}
use Rattle.std.specs.List.{enumerate_from}
use Rattle.vod_vcd.specs.Text.{value_lines}
use Rattle.vod_vcd.proofs.lines.put_values.Given as goal

abbrev pub invariant-loop-signal : goal.invariant-loop-signal
invariant-loop-signal l = record {
  len : vec_len l.text ≤ vec_len l.initial.text + 70 * l.signal;
  room : vec_capacity l.initial.text ≤ vec_capacity l.text;
  so_far : l.text.items ++ value_lines (enumerate_from l.signal (drop l.signal l.values))
      ≡ l.initial.text.items ++ value_lines (enumerate_from 0 l.values);
}
