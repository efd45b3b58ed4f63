-- A tree at another size and sign: the parts that have the size and sign of the whole have the new ones, and the others are as they were. Places stay.
use Rattle.std.specs.Prelude.{◌≡◌, ℕ, Bool}
use Rattle.vod_design.specs.declared.sized.BinaryOp.{BinaryOp}
use Rattle.vod_design.specs.declared.sized.ShiftOp.{ShiftOp}
use Rattle.vod_design.specs.declared.sized.UnaryOp.{UnaryOp}
use Rattle.vod_design.specs.declared.sized.SizedExpr.{SizedExpr}
use Rattle.vod_design.specs.declared.sized.SizedKind.{SizedKind}
use Rattle.vod_design.specs.declared.sized.SizedKind.TheVariants as kind

mutual
  pub data Fits : ℕ → Bool → SizedExpr → SizedExpr → Type 0 where
    fits : (w : ℕ) (s : Bool) (e r : SizedExpr) → r.place ≡ e.place → r.width ≡ w → r.signed ≡ s → FitsKind w s e.kind r.kind → Fits w s e r

  pub data FitsKind : ℕ → Bool → SizedKind → SizedKind → Type 0 where
    unary : (w : ℕ) (s : Bool) (k l : SizedKind) (op : UnaryOp) (a b : SizedExpr) → k ≡ kind.Unary op a → l ≡ kind.Unary op b → Fits w s a b → FitsKind w s k l
    binary : (w : ℕ) (s : Bool) (k l : SizedKind) (op : BinaryOp) (a b c d : SizedExpr) → k ≡ kind.Binary op a b → l ≡ kind.Binary op c d → Fits w s a c → Fits w s b d → FitsKind w s k l
    shift : (w : ℕ) (s : Bool) (k l : SizedKind) (op : ShiftOp) (a b amount : SizedExpr) → k ≡ kind.Shift op a amount → l ≡ kind.Shift op b amount → Fits w s a b → FitsKind w s k l
    conditional : (w : ℕ) (s : Bool) (k l : SizedKind) (test a b c d : SizedExpr) → k ≡ kind.Conditional test a b → l ≡ kind.Conditional test c d → Fits w s a c → Fits w s b d → FitsKind w s k l
    other : (w : ℕ) (s : Bool) (k : SizedKind) → ((op : UnaryOp) (a : SizedExpr) → k ≡ kind.Unary op a → ⊥) → ((op : BinaryOp) (a b : SizedExpr) → k ≡ kind.Binary op a b → ⊥)
        → ((op : ShiftOp) (a b : SizedExpr) → k ≡ kind.Shift op a b → ⊥) → ((t a b : SizedExpr) → k ≡ kind.Conditional t a b → ⊥) → FitsKind w s k k
