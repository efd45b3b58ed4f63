-- The text so far, continued by the lines of the signals that are left, is the whole.
use Rattle.std.proofs.Common.{◌≡◌, ◌≤◌, ◌++◌, ◌+◌, ◌*◌, drop, vec_len, vec_capacity}
use Rattle.vod_vcd.specs.Text.{value_lines}
use Rattle.vod_vcd.proofs.Differ.{differing_from}
use Rattle.vod_vcd.proofs.lines.put_changes.Given as goal

abbrev pub invariant-loop-signal : goal.invariant-loop-signal
invariant-loop-signal l = record {
  len : vec_len l.text ≤ vec_len l.initial.text + 70 * l.signal;
  room : vec_capacity l.initial.text ≤ vec_capacity l.text;
  so_far : l.text.items ++ value_lines (differing_from l.signal (drop l.signal l.before) (drop l.signal l.now))
      ≡ l.initial.text.items ++ value_lines (differing_from 0 l.before l.now);
}
