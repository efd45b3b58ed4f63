-- Nothing else differs.
use Rattle.std.proofs.Common.{◌≡◌, [], drop, ◌∙◌, ap, sym}
use Rattle.std.proofs.Math.ListN.{drop_of_length-le}
use Rattle.vod_vcd.specs.Chosen.{taken_over}
use Rattle.vod_vcd.proofs.Cover.{taken-is}
use Rattle.vod_vcd.proofs.writer.Last.take_over.Goals as goal

pub returns-clause-values : goal.returns-clause-values
returns-clause-values c =
    let none : drop c.loop-number.number-index c.args.numbers.now ≡ [] = drop_of_length-le c.args.numbers.now c.loop-number-test.false in
    sym (ap (taken_over c.loop-number.self.values.items c.args.values.now) none) ∙ c.loop-number.invariant.so_far
    ∙ taken-is c.args.numbers.now c.args.self.now.values.items c.args.values.now (sym c.args.self.now.values.ok.0 ∙ c.requires.same) c.requires.covers
