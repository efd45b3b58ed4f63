-- The code's machine as the definitions see it.
use Rattle.std.specs.Prelude.{◌≡◌, ℕ, nat_lt, not, Bool, true, false, List, reverse, Option, None, Some, Result, Ok, Err}
use Rattle.vod_tree.specs.declared.expr.Expr.{Expr}
use Rattle.vod_tree.specs.declared.expr.ExprKind.{ExprKind}
use Rattle.vod_tree.specs.declared.expr.ExprKind.TheVariants as e
use Rattle.vod_expr_machine.specs.declared.machine.Reader.{Reader}
use Rattle.vod_expr_machine.specs.declared.machine.Frame.{Frame}
use Rattle.vod_expr_machine.specs.declared.machine.Frame.TheVariants.{Prefix, Left, Otherwise}
use Rattle.vod_expr_machine.specs.Lexeme.{at}
use Rattle.vod_expr_machine.specs.Operators.{tight}
use Rattle.vod_expr_machine.specs.Machine.{Machine, machine, reduce, reduced, ended}

-- the frames, the last first
abbrev pub frames_of : Reader → List Frame
frames_of r = reverse r.frames

abbrev pub state_of : Reader → Machine
state_of r = machine r.head (frames_of r)

-- whether a frame takes in an expression of a level
abbrev pub binds : ℕ → Frame → Bool
binds k (Prefix q op) = true
binds k (Left q b op) = not (nat_lt (tight op) k)
binds k (Otherwise q b c) = not (nat_lt 0 k)
binds k _ = false

-- the place and the kind of what it then is
abbrev pub taken_place : ℕ → Frame → ℕ
taken_place p (Prefix q op) = q
taken_place p (Left q b op) = q
taken_place p (Otherwise q b c) = q
taken_place p _ = p

abbrev pub taken_kind : ℕ → ExprKind → Frame → ExprKind
taken_kind p a (Prefix q op) = e.Unary op (at p a)
taken_kind p a (Left q b op) = e.Binary op (at q b) (at p a)
taken_kind p a (Otherwise q b c) = e.Conditional (at q b) c (at p a)
taken_kind p a _ = a

-- nothing on top takes in an expression of the level
abbrev pub Rests : ℕ → List Frame → Type 0
Rests k fs = (p : ℕ) (a : ExprKind) → reduce k fs p a ≡ reduced fs p a

-- A step came to where it was to come; or no token goes on so, and the tree is the one that stood there. For want of memory
-- nothing is said.
abbrev pub Gives : {E : Type 0} → Result Bool E → Option Machine → Option Expr → Reader → Type 0
Gives (Ok true) expected tree new = expected ≡ Some (state_of new)
Gives (Ok false) expected tree new = (expected ≡ None) × (ended new.head (frames_of new) ≡ tree)
Gives (Err _) expected tree new = Unit {0}
