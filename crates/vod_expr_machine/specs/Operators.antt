-- The operators of expressions: how they are spelled and how tightly they bind (IEEE 1364-2005, 5.1.2).
use Rattle.std.specs.Prelude.{ℕ, List, codes}
use Rattle.vod_tree.specs.declared.expr.UnaryOp.{UnaryOp}
use Rattle.vod_tree.specs.declared.expr.UnaryOp.TheVariants as unary
use Rattle.vod_tree.specs.declared.expr.BinaryOp.{BinaryOp}
use Rattle.vod_tree.specs.declared.expr.BinaryOp.TheVariants as binary

-- how an operator before a primary is spelled
abbrev pub unary_text : UnaryOp → List ℕ
unary_text unary.Minus = codes "-"
unary_text unary.LogicalNot = codes "!"
unary_text unary.Not = codes "~"
unary_text unary.And = codes "&"
unary_text unary.Nand = codes "~&"
unary_text unary.Or = codes "|"
unary_text unary.Nor = codes "~|"
unary_text unary.Xor = codes "^"
unary_text unary.Xnor = codes "~^"
unary_text unary.XorNot = codes "^~"

-- how an operator between two operands is spelled
abbrev pub binary_text : BinaryOp → List ℕ
binary_text binary.Mul = codes "*"
binary_text binary.Add = codes "+"
binary_text binary.Sub = codes "-"
binary_text binary.ShiftLeft = codes "<<"
binary_text binary.ShiftRight = codes ">>"
binary_text binary.ArithmeticLeft = codes "<<<"
binary_text binary.ArithmeticRight = codes ">>>"
binary_text binary.Less = codes "<"
binary_text binary.LessEqual = codes "<="
binary_text binary.Greater = codes ">"
binary_text binary.GreaterEqual = codes ">="
binary_text binary.Equal = codes "=="
binary_text binary.NotEqual = codes "!="
binary_text binary.CaseEqual = codes "==="
binary_text binary.CaseNotEqual = codes "!=="
binary_text binary.And = codes "&"
binary_text binary.Xor = codes "^"
binary_text binary.Xnor = codes "~^"
binary_text binary.XorNot = codes "^~"
binary_text binary.Or = codes "|"
binary_text binary.LogicalAnd = codes "&&"
binary_text binary.LogicalOr = codes "||"

-- how tightly it binds; `?:` is at 0, and an operand at 11
abbrev pub tight : BinaryOp → ℕ
tight binary.Mul = 10
tight binary.Add = 9
tight binary.Sub = 9
tight binary.ShiftLeft = 8
tight binary.ShiftRight = 8
tight binary.ArithmeticLeft = 8
tight binary.ArithmeticRight = 8
tight binary.Less = 7
tight binary.LessEqual = 7
tight binary.Greater = 7
tight binary.GreaterEqual = 7
tight binary.Equal = 6
tight binary.NotEqual = 6
tight binary.CaseEqual = 6
tight binary.CaseNotEqual = 6
tight binary.And = 5
tight binary.Xor = 4
tight binary.Xnor = 4
tight binary.XorNot = 4
tight binary.Or = 3
tight binary.LogicalAnd = 2
tight binary.LogicalOr = 1
