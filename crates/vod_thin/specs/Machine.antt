-- Expressions read token by token: what was begun, the last first, and the operand that was read last.
use Rattle.std.specs.Prelude.{ℕ, Bool, nat_le, List, [], ◌∷◌, if◌then◌else◌}
use Rattle.vod_thin_design.specs.declared.thin.Expr.{Expr}
use Rattle.vod_thin_design.specs.declared.thin.Expr.TheVariants as expr
use Rattle.vod_thin_syntax.specs.declared.words.Word.{Word}
use Rattle.vod_thin_syntax.specs.declared.words.Word.TheVariants as word
use Rattle.vod_thin_syntax.specs.Syntax.{Mark, Named, Fixed}
use Rattle.vod_thin.specs.declared.machine.Operator.{Operator}
use Rattle.vod_thin.specs.declared.machine.Operator.TheVariants.{And, Xor, Or}
use Rattle.vod_thin.specs.declared.machine.Frame.{Frame}
use Rattle.vod_thin.specs.declared.machine.Frame.TheVariants.{Inverted, Opened, Left}
use Rattle.vod_thin.specs.declared.names.Kind.{Kind}
use Rattle.vod_thin.specs.Netlists.{number_of}

pub record Machine : Type 0 where
  pub frames : List Frame
  pub last : Expr

abbrev pub machine : List Frame → Expr → Machine
machine frames last = record { frames = frames; last = last }

-- how strongly an operator binds (IEEE 1364-2005, 5.1.2)
abbrev pub tight : Operator → ℕ
tight And = 2
tight Xor = 1
tight Or = 0

abbrev pub combined : Operator → Expr → Expr → Expr
combined And a b = expr.And a b
combined Xor a b = expr.Xor a b
combined Or a b = expr.Or a b

-- an operand, taken into the left operands before it whose operators bind at least so strongly
abbrev pub reduce : ℕ → List Frame → Expr → Machine
reduce level [] e = machine [] e
reduce level (Inverted ∷ frames) e = machine (Inverted ∷ frames) e
reduce level (Opened ∷ frames) e = machine (Opened ∷ frames) e
reduce level (Left op a ∷ frames) e = if nat_le level (tight op) then reduce level frames (combined op a e) else machine (Left op a ∷ frames) e

-- a whole operand, before which `~` may stand
abbrev pub settled : List Frame → Expr → Machine
settled [] e = machine [] e
settled (Inverted ∷ frames) e = machine frames (expr.Not e)
settled (Opened ∷ frames) e = machine (Opened ∷ frames) e
settled (Left op a ∷ frames) e = machine (Left op a ∷ frames) e

-- `)`
abbrev pub closed : List Frame → Expr → Machine
closed [] e = machine [] e
closed (Inverted ∷ frames) e = machine (Inverted ∷ frames) e
closed (Opened ∷ frames) e = settled frames e
closed (Left op a ∷ frames) e = machine (Left op a ∷ frames) e

abbrev pub on_close : Machine → Machine
on_close m = closed m.frames m.last

-- an operator behind its left operand
abbrev pub on_operator : Operator → Machine → Machine
on_operator op m = machine (Left op m.last ∷ m.frames) (expr.Signal 0)

-- a word or symbol comes
unfoldable pub on_word : Machine → Word → Machine
on_word m word.Not = machine (Inverted ∷ m.frames) m.last
on_word m word.Open = machine (Opened ∷ m.frames) m.last
on_word m word.Close = on_close (reduce 0 m.frames m.last)
on_word m word.And = on_operator And (reduce (tight And) m.frames m.last)
on_word m word.Xor = on_operator Xor (reduce (tight Xor) m.frames m.last)
on_word m word.Or = on_operator Or (reduce (tight Or) m.frames m.last)
on_word m _ = m

-- a token comes
abbrev pub step : List (List ℕ × Kind) → Machine → Mark → Machine
step signals m (Named name) = settled m.frames (expr.Signal (number_of signals name.bytes))
step signals m (Fixed word) = on_word m word

abbrev pub run : List (List ℕ × Kind) → Machine → List Mark → Machine
run signals m [] = m
run signals m (mark ∷ marks) = run signals (step signals m mark) marks

-- before any token
abbrev pub start : Machine
start = machine [] (expr.Signal 0)

abbrev pub last_of : Machine → Expr
last_of m = m.last

-- the expression behind the last token
abbrev pub ended : Machine → Expr
ended m = last_of (reduce 0 m.frames m.last)

-- the expression that these tokens are
abbrev pub read_expr : List (List ℕ × Kind) → List Mark → Expr
read_expr signals marks = let m : Machine = run signals start marks in last_of (reduce 0 m.frames m.last)
