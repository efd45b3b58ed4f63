-- The spellings of marks and operators, and what is spelled so.
use Rattle.std.proofs.Common.{◌≡◌, ℕ, ◌<◌, ◌≤◌, ◌==◌, ◌&&◌, Bool, true, false, cond, List, [], ◌∷◌, Option, None, Some, refl, ap, ◌∙◌, arith}
use Rattle.std.specs.List.{AllByRecursion}
use Rattle.std.specs.Option.{option_or}
use Rattle.std.proofs.lemmas.Bool.{eqb-true}
use Rattle.vod_tree.specs.declared.expr.UnaryOp.{UnaryOp}
use Rattle.vod_tree.specs.declared.expr.UnaryOp.TheVariants as unary
use Rattle.vod_tree.specs.declared.expr.BinaryOp.{BinaryOp}
use Rattle.vod_tree.specs.declared.expr.BinaryOp.TheVariants as binary
use Rattle.vod_expr_machine.specs.declared.word.Mark.{Mark}
use Rattle.vod_expr_machine.specs.declared.word.Mark.TheVariants as mark
use Rattle.vod_expr.specs.Operators.{unary_text, binary_text, tight}
use Rattle.vod_expr_machine.specs.Machine.{same_text, looked_up, mark_text, marks, unaries, arithmetic, comparisons, connectives, mark_of, unary_of, arithmetic_of, comparison_of, connective_of, binary_of}

pub mark_spelled : (m : Mark) → mark_of (mark_text m) ≡ Some m
unfolding mark_of
mark_spelled mark.OpenParen = refl
mark_spelled mark.CloseParen = refl
mark_spelled mark.OpenBracket = refl
mark_spelled mark.CloseBracket = refl
mark_spelled mark.OpenBrace = refl
mark_spelled mark.CloseBrace = refl
mark_spelled mark.Comma = refl
mark_spelled mark.Colon = refl
mark_spelled mark.Question = refl

pub unary_unmarked : (op : UnaryOp) → mark_of (unary_text op) ≡ None
unfolding mark_of
unary_unmarked unary.Minus = refl
unary_unmarked unary.LogicalNot = refl
unary_unmarked unary.Not = refl
unary_unmarked unary.And = refl
unary_unmarked unary.Nand = refl
unary_unmarked unary.Or = refl
unary_unmarked unary.Nor = refl
unary_unmarked unary.Xor = refl
unary_unmarked unary.Xnor = refl
unary_unmarked unary.XorNot = refl

pub unary_spelled : (op : UnaryOp) → unary_of (unary_text op) ≡ Some op
unfolding unary_of
unary_spelled unary.Minus = refl
unary_spelled unary.LogicalNot = refl
unary_spelled unary.Not = refl
unary_spelled unary.And = refl
unary_spelled unary.Nand = refl
unary_spelled unary.Or = refl
unary_spelled unary.Nor = refl
unary_spelled unary.Xor = refl
unary_spelled unary.Xnor = refl
unary_spelled unary.XorNot = refl

pub binary_unmarked : (op : BinaryOp) → mark_of (binary_text op) ≡ None
unfolding mark_of
binary_unmarked binary.Mul = refl
binary_unmarked binary.Add = refl
binary_unmarked binary.Sub = refl
binary_unmarked binary.ShiftLeft = refl
binary_unmarked binary.ShiftRight = refl
binary_unmarked binary.ArithmeticLeft = refl
binary_unmarked binary.ArithmeticRight = refl
binary_unmarked binary.Less = refl
binary_unmarked binary.LessEqual = refl
binary_unmarked binary.Greater = refl
binary_unmarked binary.GreaterEqual = refl
binary_unmarked binary.Equal = refl
binary_unmarked binary.NotEqual = refl
binary_unmarked binary.CaseEqual = refl
binary_unmarked binary.CaseNotEqual = refl
binary_unmarked binary.And = refl
binary_unmarked binary.Xor = refl
binary_unmarked binary.Xnor = refl
binary_unmarked binary.XorNot = refl
binary_unmarked binary.Or = refl
binary_unmarked binary.LogicalAnd = refl
binary_unmarked binary.LogicalOr = refl

pub binary_spelled : (op : BinaryOp) → binary_of (binary_text op) ≡ Some op
unfolding binary_of arithmetic_of comparison_of connective_of
binary_spelled binary.Mul = refl
binary_spelled binary.Add = refl
binary_spelled binary.Sub = refl
binary_spelled binary.ShiftLeft = refl
binary_spelled binary.ShiftRight = refl
binary_spelled binary.ArithmeticLeft = refl
binary_spelled binary.ArithmeticRight = refl
binary_spelled binary.Less = refl
binary_spelled binary.LessEqual = refl
binary_spelled binary.Greater = refl
binary_spelled binary.GreaterEqual = refl
binary_spelled binary.Equal = refl
binary_spelled binary.NotEqual = refl
binary_spelled binary.CaseEqual = refl
binary_spelled binary.CaseNotEqual = refl
binary_spelled binary.And = refl
binary_spelled binary.Xor = refl
binary_spelled binary.Xnor = refl
binary_spelled binary.XorNot = refl
binary_spelled binary.Or = refl
binary_spelled binary.LogicalAnd = refl
binary_spelled binary.LogicalOr = refl

pub tight_some : (op : BinaryOp) → 0 < tight op
tight_some binary.Mul = omega arith
tight_some binary.Add = omega arith
tight_some binary.Sub = omega arith
tight_some binary.ShiftLeft = omega arith
tight_some binary.ShiftRight = omega arith
tight_some binary.ArithmeticLeft = omega arith
tight_some binary.ArithmeticRight = omega arith
tight_some binary.Less = omega arith
tight_some binary.LessEqual = omega arith
tight_some binary.Greater = omega arith
tight_some binary.GreaterEqual = omega arith
tight_some binary.Equal = omega arith
tight_some binary.NotEqual = omega arith
tight_some binary.CaseEqual = omega arith
tight_some binary.CaseNotEqual = omega arith
tight_some binary.And = omega arith
tight_some binary.Xor = omega arith
tight_some binary.Xnor = omega arith
tight_some binary.XorNot = omega arith
tight_some binary.Or = omega arith
tight_some binary.LogicalAnd = omega arith
tight_some binary.LogicalOr = omega arith

pub tight_within : (op : BinaryOp) → tight op ≤ 10
tight_within binary.Mul = omega arith
tight_within binary.Add = omega arith
tight_within binary.Sub = omega arith
tight_within binary.ShiftLeft = omega arith
tight_within binary.ShiftRight = omega arith
tight_within binary.ArithmeticLeft = omega arith
tight_within binary.ArithmeticRight = omega arith
tight_within binary.Less = omega arith
tight_within binary.LessEqual = omega arith
tight_within binary.Greater = omega arith
tight_within binary.GreaterEqual = omega arith
tight_within binary.Equal = omega arith
tight_within binary.NotEqual = omega arith
tight_within binary.CaseEqual = omega arith
tight_within binary.CaseNotEqual = omega arith
tight_within binary.And = omega arith
tight_within binary.Xor = omega arith
tight_within binary.Xnor = omega arith
tight_within binary.XorNot = omega arith
tight_within binary.Or = omega arith
tight_within binary.LogicalAnd = omega arith
tight_within binary.LogicalOr = omega arith

-- texts that are found the same are one
pub same_text-true : (xs ys : List ℕ) → same_text xs ys ≡ true → xs ≡ ys
same_text-true [] [] h = refl
same_text-true [] (y ∷ ys) h = cc
same_text-true (x ∷ xs) [] h = cc
same_text-true (x ∷ xs) (y ∷ ys) h = by_test (x == y) refl h (same_text-true xs ys)
  where
    by_test : (v : Bool) → (x == y) ≡ v → (v && same_text xs ys) ≡ true → (same_text xs ys ≡ true → xs ≡ ys) → x ∷ xs ≡ y ∷ ys
    by_test true e h tail =
        let heads : x ≡ y = eqb-true x y e in
        let tails : xs ≡ ys = tail h in
        cc
    by_test false e h tail = cc

-- what is found in a table of right spellings is spelled so
found_spelled : {A : Type 0} (text_of : A → List ℕ) (rows : List (List ℕ × A)) (text : List ℕ) (a : A) → AllByRecursion (λ row. row.0 ≡ text_of row.1) rows → looked_up rows text ≡ Some a → text ≡ text_of a
found_spelled text_of [] text a all h = cc
found_spelled {A} text_of (row ∷ rows) text a all h = by_test (same_text text row.0) refl h (found_spelled text_of rows text a all.1)
  where
    by_test : (v : Bool) → same_text text row.0 ≡ v → cond v (Some row.1) (looked_up rows text) ≡ Some a → (looked_up rows text ≡ Some a → text ≡ text_of a) → text ≡ text_of a
    by_test true e h more =
        let same : row.1 ≡ a = cc in
        same_text-true text row.0 e ∙ all.0 ∙ ap text_of same
    by_test false e h more = more h

pub mark_found : (text : List ℕ) (m : Mark) → mark_of text ≡ Some m → text ≡ mark_text m
unfolding mark_of
mark_found text m h = found_spelled mark_text marks text m (refl, (refl, (refl, (refl, (refl, (refl, (refl, (refl, (refl, tt))))))))) h

pub unary_found : (text : List ℕ) (op : UnaryOp) → unary_of text ≡ Some op → text ≡ unary_text op
unfolding unary_of
unary_found text op h = found_spelled unary_text unaries text op (refl, (refl, (refl, (refl, (refl, (refl, (refl, (refl, (refl, (refl, tt)))))))))) h

found_or : {A : Type 0} (o p : Option A) (a : A) (R : Type 0) → option_or o p ≡ Some a → (o ≡ Some a → R) → (p ≡ Some a → R) → R
found_or None p a R h first second = second h
found_or (Some x) p a R h first second = first h

arithmetic_found : (text : List ℕ) (op : BinaryOp) → arithmetic_of text ≡ Some op → text ≡ binary_text op
unfolding arithmetic_of
arithmetic_found text op h = found_spelled binary_text arithmetic text op (refl, (refl, (refl, (refl, (refl, (refl, (refl, tt))))))) h

comparison_found : (text : List ℕ) (op : BinaryOp) → comparison_of text ≡ Some op → text ≡ binary_text op
unfolding comparison_of
comparison_found text op h = found_spelled binary_text comparisons text op (refl, (refl, (refl, (refl, (refl, (refl, (refl, (refl, tt)))))))) h

connective_found : (text : List ℕ) (op : BinaryOp) → connective_of text ≡ Some op → text ≡ binary_text op
unfolding connective_of
connective_found text op h = found_spelled binary_text connectives text op (refl, (refl, (refl, (refl, (refl, (refl, (refl, tt))))))) h

pub binary_found : (text : List ℕ) (op : BinaryOp) → binary_of text ≡ Some op → text ≡ binary_text op
unfolding binary_of
binary_found text op h =
    found_or (arithmetic_of text) (option_or (comparison_of text) (connective_of text)) op (text ≡ binary_text op) h (arithmetic_found text op)
    (λ g. found_or (comparison_of text) (connective_of text) op (text ≡ binary_text op) g (comparison_found text op) (connective_found text op))
