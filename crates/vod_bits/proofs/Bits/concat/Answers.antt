use Rattle.std.proofs.Common.{arith, ◌≡◌, ◌≤◌, ◌+◌, length}
use Rattle.vod_bits.proofs.Views.{length-view, joined-word, joined-lt}
use Rattle.vod_bits.proofs.Numbers.{concat-bits}
use Rattle.vod_bits.specs.Word.{word_bits}
use Rattle.vod_bits.proofs.Bits.concat.Goals as goal

pub overflow_add-result : goal.overflow_add-result
overflow_add-result c =
    let upper : length c.args.self ≡ c.self.inside.width = length-view c.self.inside.width c.self.inside.word c.args.self c.self.view_is in
    let lower : length c.args.low ≡ c.low.inside.width = length-view c.low.inside.width c.low.inside.word c.args.low c.low.view_is in
    omega arith

pub overflow_shl-result : goal.overflow_shl-result
overflow_shl-result c =
    let upper : length c.args.self ≡ c.self.inside.width = length-view c.self.inside.width c.self.inside.word c.args.self c.self.view_is in
    let lower : length c.args.low ≡ c.low.inside.width = length-view c.low.inside.width c.low.inside.word c.args.low c.low.view_is in
    omega arith

pub invariant_of-result : goal.invariant_of-result
invariant_of-result c =
    let upper : length c.args.self ≡ c.self.inside.width = length-view c.self.inside.width c.self.inside.word c.args.self c.self.view_is in
    let lower : length c.args.low ≡ c.low.inside.width = length-view c.low.inside.width c.low.inside.word c.args.low c.low.view_is in
    let fits : c.self.inside.width + c.low.inside.width ≤ word_bits = omega arith in (
      omega arith,
      omega arith,
      rw (joined-word c.self.inside.width c.low.inside.width word_bits c.self.inside.word c.low.inside.word c.self.invariant.2 c.low.invariant.2 fits)
          (joined-lt c.self.inside.width c.low.inside.width c.self.inside.word c.low.inside.word c.self.invariant.2 c.low.invariant.2),
    )

pub returns : goal.returns
returns c =
    let upper : length c.args.self ≡ c.self.inside.width = length-view c.self.inside.width c.self.inside.word c.args.self c.self.view_is in
    let lower : length c.args.low ≡ c.low.inside.width = length-view c.low.inside.width c.low.inside.word c.args.low c.low.view_is in
    let fits : c.self.inside.width + c.low.inside.width ≤ word_bits = omega arith in
    rw (← c.self.view_is, ← c.low.view_is, joined-word c.self.inside.width c.low.inside.width word_bits c.self.inside.word c.low.inside.word c.self.invariant.2 c.low.invariant.2 fits)
    (concat-bits c.self.inside.width c.low.inside.width c.self.inside.word c.low.inside.word c.low.invariant.2)
