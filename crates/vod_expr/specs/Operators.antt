-- The operators of expressions: how they are spelled and how tightly they bind (IEEE 1364-2005, 5.1.2).
pub use Rattle.vod_expr_machine.specs.Operators.{unary_text, binary_text, tight}
