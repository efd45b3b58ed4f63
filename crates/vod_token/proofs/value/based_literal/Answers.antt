use Rattle.std.proofs.Common.{◌≡◌, ◌-◌, take, drop, arith, ap, sym, ◌∙◌, refl, List, ℕ}
use Rattle.vod_text.specs.Numeral.{based_len}
use Rattle.vod_token.proofs.Numbers.{based_len-whole}
use Rattle.vod_token.specs.Scan.{tail_start, tail_len}
use Rattle.vod_token.proofs.value.based_literal.Goals as goal

pub sized_literal-requires-clause-digits : goal.sized_literal-requires-clause-digits
sized_literal-requires-clause-digits c =
    let d = c.in-Some.ensures.some in
    let rest : List ℕ = drop c.in-Some.digits.start c.args.tail.now in
    let len : c.in-Some.digits.end - c.in-Some.digits.start ≡ tail_len c.args.tail.now = (let s = d.start in let e = d.end in omega arith) in
    let same : tail_len c.args.tail.now ≡ based_len c.in-Some.digits.base rest = ap (λ n. based_len n (drop (tail_start c.args.tail.now) c.args.tail.now)) (sym d.base) ∙ ap (λ n. based_len c.in-Some.digits.base (drop n c.args.tail.now)) (sym d.start) in
    based_len-whole c.in-Some.digits.base (c.in-Some.digits.end - c.in-Some.digits.start) rest (take (c.in-Some.digits.end - c.in-Some.digits.start) rest) (len ∙ same) refl
