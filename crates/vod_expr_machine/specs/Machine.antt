-- Expressions read token by token: what may come next, and what it adds.
use Rattle.std.specs.Prelude.{ℕ, nat_lt, nat_eq, Bool, List, [], ◌∷◌, ◌++◌, Option, None, Some, option_and_then, if◌then◌else◌, codes}
use Rattle.std.specs.Cmp.Lexicographic.{pointwise}
use Rattle.std.specs.Option.{option_or}
use Rattle.vod_token.specs.declared.TokenKind.{TokenKind}
use Rattle.vod_token.specs.declared.TokenKind.TheVariants as kinds
use Rattle.vod_tree.specs.declared.expr.Expr.{Expr}
use Rattle.vod_tree.specs.declared.expr.ExprKind.{ExprKind}
use Rattle.vod_tree.specs.declared.expr.ExprKind.TheVariants as e
use Rattle.vod_tree.specs.declared.expr.UnaryOp.{UnaryOp}
use Rattle.vod_tree.specs.declared.expr.UnaryOp.TheVariants as unary
use Rattle.vod_tree.specs.declared.expr.BinaryOp.{BinaryOp}
use Rattle.vod_tree.specs.declared.expr.BinaryOp.TheVariants as binary
use Rattle.vod_tree.specs.declared.ident.Ident.{Ident}
use Rattle.vod_tree.specs.declared.ident.Number.{Number}
use Rattle.vod_expr_machine.specs.declared.word.Mark.{Mark}
use Rattle.vod_expr_machine.specs.declared.word.Mark.TheVariants as mark
use Rattle.vod_expr_machine.specs.declared.machine.Frame.{Frame}
use Rattle.vod_expr_machine.specs.declared.machine.Frame.TheVariants.{Prefix, Left, Chosen, Otherwise, Paren, Index, Range, Call, Brace, Concat, Replicate}
use Rattle.vod_expr_machine.specs.declared.machine.Head.{Head}
use Rattle.vod_expr_machine.specs.declared.machine.Head.TheVariants.{Wanted, Bare, Named, Whole, Outer}
use Rattle.vod_expr_machine.specs.Operators.{tight}
use Rattle.vod_expr_machine.specs.Lexeme.{Lexeme, ident_of, at}

-- two texts are one
abbrev pub same_text : List ℕ → List ℕ → Bool
same_text a b = pointwise nat_eq a b

-- what stands beside a text in a table
abbrev pub looked_up : {A : Type 0} → List (List ℕ × A) → List ℕ → Option A
looked_up [] text = None
looked_up (row ∷ rows) text = if same_text text row.0 then Some row.1 else looked_up rows text

-- how a mark is spelled
abbrev pub mark_text : Mark → List ℕ
mark_text mark.OpenParen = codes "("
mark_text mark.CloseParen = codes ")"
mark_text mark.OpenBracket = codes "["
mark_text mark.CloseBracket = codes "]"
mark_text mark.OpenBrace = codes "{"
mark_text mark.CloseBrace = codes "}"
mark_text mark.Comma = codes ","
mark_text mark.Colon = codes ":"
mark_text mark.Question = codes "?"

abbrev pub marks : List (List ℕ × Mark)
marks =
    (codes "(", mark.OpenParen) ∷ (codes ")", mark.CloseParen) ∷ (codes "[", mark.OpenBracket) ∷ (codes "]", mark.CloseBracket)
    ∷ (codes "{", mark.OpenBrace) ∷ (codes "}", mark.CloseBrace) ∷ (codes ",", mark.Comma) ∷ (codes ":", mark.Colon)
    ∷ (codes "?", mark.Question) ∷ []

abbrev pub unaries : List (List ℕ × UnaryOp)
unaries =
    (codes "-", unary.Minus) ∷ (codes "!", unary.LogicalNot) ∷ (codes "~", unary.Not) ∷ (codes "&", unary.And)
    ∷ (codes "~&", unary.Nand) ∷ (codes "|", unary.Or) ∷ (codes "~|", unary.Nor) ∷ (codes "^", unary.Xor)
    ∷ (codes "~^", unary.Xnor) ∷ (codes "^~", unary.XorNot) ∷ []

-- those between two operands: arithmetic and shifts, comparisons, and those of bits and of truth
abbrev pub arithmetic : List (List ℕ × BinaryOp)
arithmetic =
    (codes "*", binary.Mul) ∷ (codes "+", binary.Add) ∷ (codes "-", binary.Sub) ∷ (codes "<<", binary.ShiftLeft)
    ∷ (codes ">>", binary.ShiftRight) ∷ (codes "<<<", binary.ArithmeticLeft) ∷ (codes ">>>", binary.ArithmeticRight) ∷ []

abbrev pub comparisons : List (List ℕ × BinaryOp)
comparisons =
    (codes "<", binary.Less) ∷ (codes "<=", binary.LessEqual) ∷ (codes ">", binary.Greater) ∷ (codes ">=", binary.GreaterEqual)
    ∷ (codes "==", binary.Equal) ∷ (codes "!=", binary.NotEqual) ∷ (codes "===", binary.CaseEqual) ∷ (codes "!==", binary.CaseNotEqual) ∷ []

abbrev pub connectives : List (List ℕ × BinaryOp)
connectives =
    (codes "&", binary.And) ∷ (codes "^", binary.Xor) ∷ (codes "~^", binary.Xnor) ∷ (codes "^~", binary.XorNot) ∷ (codes "|", binary.Or)
    ∷ (codes "&&", binary.LogicalAnd) ∷ (codes "||", binary.LogicalOr) ∷ []

unfoldable pub mark_of : List ℕ → Option Mark
mark_of text = looked_up marks text

unfoldable pub unary_of : List ℕ → Option UnaryOp
unary_of text = looked_up unaries text

unfoldable pub arithmetic_of : List ℕ → Option BinaryOp
arithmetic_of text = looked_up arithmetic text

unfoldable pub comparison_of : List ℕ → Option BinaryOp
comparison_of text = looked_up comparisons text

unfoldable pub connective_of : List ℕ → Option BinaryOp
connective_of text = looked_up connectives text

unfoldable pub binary_of : List ℕ → Option BinaryOp
binary_of text = option_or (arithmetic_of text) (option_or (comparison_of text) (connective_of text))

-- what was read last, and what is begun around it, the last first
pub record Machine : Type 0 where
  pub head : Head
  pub frames : List Frame

-- an expression at a place, and what is begun around it
pub record Reduced : Type 0 where
  pub frames : List Frame
  pub place : ℕ
  pub kind : ExprKind

abbrev pub machine : Head → List Frame → Machine
machine head frames = record { head = head; frames = frames }

abbrev pub reduced : List Frame → ℕ → ExprKind → Reduced
reduced frames place kind = record { frames = frames; place = place; kind = kind }

-- the expression taken into what binds at least as tightly as a level
abbrev pub reduce : ℕ → List Frame → ℕ → ExprKind → Reduced
reduce k [] p a = reduced [] p a
reduce k (Prefix q op ∷ fs) p a = reduce k fs q (e.Unary op (at p a))
reduce k (Left q b op ∷ fs) p a = if nat_lt (tight op) k then reduced (Left q b op ∷ fs) p a else reduce k fs q (e.Binary op (at q b) (at p a))
reduce k (Otherwise q b c ∷ fs) p a = if nat_lt 0 k then reduced (Otherwise q b c ∷ fs) p a else reduce k fs q (e.Conditional (at q b) c (at p a))
reduce k (Chosen q b ∷ fs) p a = reduced (Chosen q b ∷ fs) p a
reduce k (Paren q ∷ fs) p a = reduced (Paren q ∷ fs) p a
reduce k (Index n ∷ fs) p a = reduced (Index n ∷ fs) p a
reduce k (Range n b ∷ fs) p a = reduced (Range n b ∷ fs) p a
reduce k (Call n xs ∷ fs) p a = reduced (Call n xs ∷ fs) p a
reduce k (Brace q ∷ fs) p a = reduced (Brace q ∷ fs) p a
reduce k (Concat q xs ∷ fs) p a = reduced (Concat q xs ∷ fs) p a
reduce k (Replicate q b xs ∷ fs) p a = reduced (Replicate q b xs ∷ fs) p a

abbrev pub whole : List Frame → ℕ → ExprKind → Option Machine
whole fs p a = Some (machine (Whole p a) fs)

-- behind an expression that stands in a frame: `)`, `]`, `,`, `:`, `{`, `}`
abbrev pub at_close_paren : List Frame → Expr → Option Machine
at_close_paren (Paren q ∷ fs) a = whole fs q (e.Paren a)
at_close_paren (Call n xs ∷ fs) a = whole fs n.place (e.Call n (xs ++ a ∷ []))
at_close_paren _ a = None

abbrev pub at_close_bracket : List Frame → Expr → Option Machine
at_close_bracket (Index n ∷ fs) a = whole fs n.place (e.Index n a)
at_close_bracket (Range n b ∷ fs) a = whole fs n.place (e.Range n b a)
at_close_bracket _ a = None

abbrev pub at_comma : List Frame → Expr → Option Machine
at_comma (Call n xs ∷ fs) a = Some (machine Wanted (Call n (xs ++ a ∷ []) ∷ fs))
at_comma (Brace q ∷ fs) a = Some (machine Wanted (Concat q (a ∷ []) ∷ fs))
at_comma (Concat q xs ∷ fs) a = Some (machine Wanted (Concat q (xs ++ a ∷ []) ∷ fs))
at_comma (Replicate q b xs ∷ fs) a = Some (machine Wanted (Replicate q b (xs ++ a ∷ []) ∷ fs))
at_comma _ a = None

abbrev pub at_colon : List Frame → Expr → Option Machine
at_colon (Chosen q b ∷ fs) a = Some (machine Wanted (Otherwise q b a ∷ fs))
at_colon (Index n ∷ fs) a = Some (machine Wanted (Range n a ∷ fs))
at_colon _ a = None

abbrev pub at_open_brace : List Frame → Expr → Option Machine
at_open_brace (Brace q ∷ fs) a = Some (machine Wanted (Replicate q a [] ∷ fs))
at_open_brace _ a = None

abbrev pub at_close_brace : List Frame → Expr → Option Machine
at_close_brace (Brace q ∷ fs) a = whole fs q (e.Concat (a ∷ []))
at_close_brace (Concat q xs ∷ fs) a = whole fs q (e.Concat (xs ++ a ∷ []))
at_close_brace (Replicate q b xs ∷ fs) a = Some (machine (Outer q b (xs ++ a ∷ [])) fs)
at_close_brace _ a = None

-- what an expression becomes behind which an operator or `?` stands
abbrev pub chosen : Reduced → Option Machine
chosen r = Some (machine Wanted (Chosen r.place r.kind ∷ r.frames))

abbrev pub joined_with : BinaryOp → Reduced → Option Machine
joined_with op r = Some (machine Wanted (Left r.place r.kind op ∷ r.frames))

abbrev pub tree : Reduced → Expr
tree r = at r.place r.kind

-- behind an expression that was taken into what binds more tightly than the mark
unfoldable pub at_part : Mark → Reduced → Option Machine
at_part mark.Question r = chosen r
at_part mark.Colon r = at_colon r.frames (tree r)
at_part mark.Comma r = at_comma r.frames (tree r)
at_part mark.CloseParen r = at_close_paren r.frames (tree r)
at_part mark.CloseBracket r = at_close_bracket r.frames (tree r)
at_part mark.CloseBrace r = at_close_brace r.frames (tree r)
at_part mark.OpenBrace r = at_open_brace r.frames (tree r)
at_part mark.OpenParen r = None
at_part mark.OpenBracket r = None

-- how tightly that must bind
abbrev pub level_at : Mark → ℕ
level_at mark.Question = 1
level_at _ = 0

abbrev pub behind : Mark → List Frame → ℕ → ExprKind → Option Machine
behind m fs p a = at_part m (reduce (level_at m) fs p a)

abbrev pub followed : List Frame → ℕ → ExprKind → Option BinaryOp → Option Machine
followed fs p a None = None
followed fs p a (Some op) = joined_with op (reduce (tight op) fs p a)

abbrev pub preceded : List Frame → ℕ → Option UnaryOp → Option Machine
preceded fs p None = None
preceded fs p (Some op) = Some (machine Bare (Prefix p op ∷ fs))

-- a mark where an operand is wanted; behind a name; behind the inner `}`
abbrev pub opened : Mark → List Frame → ℕ → Option Machine
opened mark.OpenParen fs p = Some (machine Wanted (Paren p ∷ fs))
opened mark.OpenBrace fs p = Some (machine Wanted (Brace p ∷ fs))
opened _ fs p = None

abbrev pub named : Mark → List Frame → Ident → Option Machine
named mark.OpenParen fs n = Some (machine Wanted (Call n [] ∷ fs))
named mark.OpenBracket fs n = Some (machine Wanted (Index n ∷ fs))
named m fs n = behind m fs n.place (e.Name n)

abbrev pub outer : Mark → List Frame → ℕ → Expr → List Expr → Option Machine
outer mark.CloseBrace fs p a xs = whole fs p (e.Replicate a xs)
outer _ fs p a xs = None

-- a mark comes, at its place
unfoldable pub on_mark : Head → List Frame → ℕ → Mark → Option Machine
on_mark Wanted fs p m = opened m fs p
on_mark Bare fs p m = opened m fs p
on_mark (Named n) fs p m = named m fs n
on_mark (Whole q a) fs p m = behind m fs q a
on_mark (Outer q a xs) fs p m = outer m fs q a xs

-- an operator comes
unfoldable pub on_operator : Head → List Frame → ℕ → List ℕ → Option Machine
on_operator Wanted fs p text = preceded fs p (unary_of text)
on_operator Bare fs p text = None
on_operator (Named n) fs p text = followed fs n.place (e.Name n) (binary_of text)
on_operator (Whole q a) fs p text = followed fs q a (binary_of text)
on_operator (Outer q a xs) fs p text = None

-- a name or a number comes, which makes this head
unfoldable pub on_operand : Head → List Frame → Head → Option Machine
on_operand Wanted fs h = Some (machine h fs)
on_operand Bare fs h = Some (machine h fs)
on_operand (Named n) fs h = None
on_operand (Whole q a) fs h = None
on_operand (Outer q a xs) fs h = None

abbrev pub on_symbol : Machine → ℕ → List ℕ → Option Mark → Option Machine
on_symbol s p text (Some m) = on_mark s.head s.frames p m
on_symbol s p text None = on_operator s.head s.frames p text

-- a token comes; the number that it stands for is given
unfoldable pub on_kind : TokenKind → (Lexeme → Number) → Machine → Lexeme → Option Machine
on_kind kinds.Number number s t = on_operand s.head s.frames (Whole t.place (e.Number (number t)))
on_kind kinds.Name number s t = on_operand s.head s.frames (Named (ident_of t))
on_kind kinds.Symbol number s t = on_symbol s t.place t.text (mark_of t.text)
on_kind kinds.Reserved number s t = None
on_kind kinds.Directive number s t = None

abbrev pub step : (Lexeme → Number) → Machine → Lexeme → Option Machine
step number s t = on_kind t.kind number s t

-- tokens come in turn
abbrev pub run : (Lexeme → Number) → Machine → List Lexeme → Option Machine
run number s [] = Some s
run number s (t ∷ ts) = option_and_then (λ u. run number u ts) (step number s t)

-- the tree of an expression around which nothing is begun
abbrev pub alone : List Frame → Expr → Option Expr
alone [] a = Some a
alone (f ∷ fs) a = None

unfoldable pub ended : Head → List Frame → Option Expr
ended Wanted fs = None
ended Bare fs = None
ended (Named n) fs = let r = reduce 0 fs n.place (e.Name n) in alone r.frames (tree r)
ended (Whole q a) fs = let r = reduce 0 fs q a in alone r.frames (tree r)
ended (Outer q a xs) fs = None

-- before any token
abbrev pub start : Machine
start = machine Wanted []
