use Rattle.std.proofs.Common.{refl}
use Rattle.vod_bits.specs.Value.{zip_with}
use Rattle.vod_value.proofs.known.BitsValue.logic_or.Goals as goal

pub returns : goal.returns
unfolding zip_with
returns c = rw (c.or.ensures, c.bit.ensures, c.bit-2.ensures, c.any.ensures, c.any-2.ensures, c.truth_is_any.ensures c.args.self, c.truth_is_any.ensures c.args.other) refl
