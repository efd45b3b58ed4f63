-- The values so far, with those of the signals that are left taken over, are the whole.
use Rattle.std.proofs.Common.{◌≡◌, length, drop, vec_len}
use Rattle.vod_vcd.specs.Chosen.{taken_over}
use Rattle.vod_vcd.proofs.writer.Last.take_over.Given as goal

abbrev pub invariant-loop-number : goal.invariant-loop-number
invariant-loop-number l = record {
  len : vec_len l.self.values ≡ length l.values;
  so_far : taken_over l.self.values.items l.values (drop l.number-index l.numbers) ≡ taken_over l.initial.self.values.items l.values l.numbers;
}
