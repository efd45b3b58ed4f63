use Rattle.std.proofs.Common.{rules, ◌≡◌, ◌<◌, ◌^◌, ℕ, List, take, sym, subst, get_or, arith, length}
use Rattle.std.proofs.lemmas.Grind.{common_steps}
use Rattle.std.specs.Fmt.{decimal}
use Rattle.std.specs.Str.Parse.{IsNumeral}
use Rattle.std.proofs.lemmas.Fmt.{length-decimal-le, decimal_is_IsNumeral, first_decimal, decimal_nonempty}
use Rattle.vod_text.proofs.print.put_decimal.Goals as goal

pub write_digits-start-requires : goal.write_digits-start-requires
write_digits-start-requires c = search (rules, length-decimal-le 20)

pub returns-clause-text : goal.returns-clause-text
returns-clause-text c = grind (arith, common_steps)

pub returns-clause-digits : goal.returns-clause-digits
returns-clause-digits c = subst (IsNumeral 10) (sym (returns-clause-text c)) (decimal_is_IsNumeral c.args.n (omega arith)).0

pub returns-clause-value : goal.returns-clause-value
returns-clause-value c = rw (returns-clause-text c) ((decimal_is_IsNumeral c.args.n (omega arith)).1)

-- A text whose front is the decimal begins as the decimal does.
first : (k n : ℕ) (text : List ℕ) → take k text ≡ decimal n → 0 < n → n < 2 ^ 64 → 48 < get_or text 0 0
first k n text e more small =
    let some = decimal_nonempty n small in
    let digit = first_decimal n more small in
    let front : 48 < get_or (take k text) 0 0 = rw e digit in
    let long : 0 < length (take k text) = rw e some in
    grind (arith, common_steps)

pub returns-clause-shortest : goal.returns-clause-shortest
returns-clause-shortest c = λ more. first _ c.args.n _ (returns-clause-text c) more (omega arith)
