use Rattle.vod_width.specs.View.{allows}
use Rattle.vod_width.proofs.Selects.{number_step, number_is}
use Rattle.vod_width.proofs.limit.number_within.Goals as goal

pub returns : goal.returns
returns c = λ y s. record {
  natural = c.in_ok-natural.ensures y s;
  number = number_is (allows c.args.limit) y c.in_ok-natural.natural c.kept-number.result (c.in_ok-natural.ensures y s) c.kept-number.ensures;
  constant = s.constant;
  fault =
      number_step (allows c.args.limit) c.args.x.now y c.in_ok-natural.natural c.kept-number.result c.is_found.result c.part_fault.result (c.in_ok-natural.ensures y s) c.kept-number.ensures
      c.is_found.ensures c.part_fault.ensures s;
}
