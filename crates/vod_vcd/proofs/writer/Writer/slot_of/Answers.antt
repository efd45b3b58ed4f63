-- Where no line was put, no value differs, so the values shown are those of the slot already.
use Rattle.std.proofs.Common.{◌≡◌, [], ◌++◌, length, sym, ◌∙◌, ap, arith, length-append}
use Rattle.vod_vcd.specs.Dump.{differing}
use Rattle.vod_vcd.specs.Text.{value_lines}
use Rattle.vod_vcd.proofs.Differ.{none-value_lines, unchanged-page}
use Rattle.vod_vcd.proofs.writer.Writer.slot_of.Goals as goal

pub returns-then-len-unchanged-clause-shown : goal.returns-then-len-unchanged-clause-shown
returns-then-len-unchanged-clause-shown g c =
    let long : length c.args.self.now.shown ≡ c.args.self.now.signals = rw (← c.self.view_is) (sym c.self.inside.last.values.ok.0) in
    let kept : c.deref.result.now ≡ c.args.self.now.shown = rw (← c.self.view_is) c.deref.ensures.value in
    let put : c.put_written.new.text.items ≡ c.put_time_line.new.text.items ++ value_lines (differing c.deref.result.now c.args.values.now) = c.put_written.ensures.put in
    let short : length (value_lines (differing c.deref.result.now c.args.values.now)) ≡ 0 =
    omega (
      arith,
      ap length put,
      length-append c.put_time_line.new.text.items (value_lines (differing c.deref.result.now c.args.values.now)),
      c.put_written.new.text.ok.0,
      c.put_time_line.new.text.ok.0,
    ) in
    let none : differing c.args.self.now.shown c.args.values.now ≡ [] = rw (← kept) (none-value_lines _ short) in
    c.self.view_is ∙ unchanged-page c.args.self.now c.args.time c.args.values.now (long ∙ sym c.requires.same) none
