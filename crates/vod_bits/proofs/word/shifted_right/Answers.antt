use Rattle.std.proofs.Common.{arith, ◌≤◌, ◌<◌, ◌/◌, ◌^◌, zero-add, ◌+◌, pow_mono}
use Rattle.std.proofs.lemmas.Nat.{shr_below}
use Rattle.vod_bits.specs.Word.{word_bits}
use Rattle.vod_bits.proofs.word.shifted_right.Goals as goal

pub returns-else-amount-from : goal.returns-else-amount-from
returns-else-amount-from c =
    let past : word_bits ≤ c.args.amount = omega arith in
    let power : 2 ^ word_bits ≤ 2 ^ c.args.amount = pow_mono past in
    let below : c.args.word < 2 ^ (0 + c.args.amount) = rw (zero-add c.args.amount) (omega arith) in
    let none : c.args.word / 2 ^ c.args.amount < 2 ^ 0 = shr_below c.args.word 0 c.args.amount below in
    omega arith
