use Rattle.std.proofs.Common.{arith, ◌≡◌, ◌+◌, ◌-◌, ◌*◌, ◌^◌, ◌%◌, ◌∙◌, ap, sym, pow-add, mul_assoc}
use Rattle.std.proofs.Math.Nat.{mul-mod_left}
use Rattle.vod_bits.specs.Word.{word_bits}
use Rattle.vod_bits.proofs.word.shifted_left.Goals as goal

pub returns-else-amount-from : goal.returns-else-amount-from
returns-else-amount-from c =
    let count : c.args.amount ≡ (c.args.amount - word_bits) + word_bits = omega arith in
    let power : 2 ^ c.args.amount ≡ 2 ^ (c.args.amount - word_bits) * 2 ^ word_bits = ap (λ n. 2 ^ n) count ∙ pow-add 2 (c.args.amount - word_bits) word_bits in
    let whole : c.args.word * 2 ^ c.args.amount ≡ c.args.word * 2 ^ (c.args.amount - word_bits) * 2 ^ word_bits
    = ap (λ n. c.args.word * n) power ∙ sym (mul_assoc c.args.word (2 ^ (c.args.amount - word_bits)) (2 ^ word_bits)) in
    sym (ap (λ n. n % 2 ^ word_bits) whole ∙ mul-mod_left (c.args.word * 2 ^ (c.args.amount - word_bits)) (2 ^ word_bits))
