-- An expression's value and what it reads, by its operands; and that its value hangs on what it reads alone.
use Rattle.std.proofs.Common.{◌≡◌, ℕ, [], ◌∷◌, ◌++◌, subst, ap, List, All}
use Rattle.std.proofs.lemmas.List.Elements.{All-head, All-tail, All-nil, All-cons}
use Rattle.vod_thin_design.specs.declared.thin.Bit.{Bit}
use Rattle.vod_thin_design.specs.declared.thin.Expr.{Expr}
use Rattle.vod_thin_design.specs.declared.thin.Expr.TheOpen.{Expr-F, Signal, Not, And, Xor, Or}
use Rattle.vod_thin_design.specs.declared.thin.Expr.TheViews.{roll-Expr}
use Rattle.vod_thin_design.specs.declared.thin.Expr.TheFolds.{fold-roll-Expr, ind-Expr}
use Rattle.vod_thin_design.specs.Bits.{not_bit, and_bit, xor_bit, or_bit}
use Rattle.vod_thin_design.specs.Expr.{value_of, value_step, reads, reads_step}

-- the front, and the rest, of a list of which all holds
pub front_of : {X : Type 0} (P : X → Type 0) (xs ys : List X) → All P (xs ++ ys) → All P xs
front_of P [] ys h = All-nil P
front_of P (x ∷ xs) ys h = All-cons P x xs (All-head P x (xs ++ ys) h) (front_of P xs ys (All-tail P x (xs ++ ys) h))

pub rest_of : {X : Type 0} (P : X → Type 0) (xs ys : List X) → All P (xs ++ ys) → All P ys
rest_of P [] ys h = h
rest_of P (x ∷ xs) ys h = rest_of P xs ys (All-tail P x (xs ++ ys) h)

abbrev value-at : (ℕ → Bit) → Expr-F Expr → Bit
value-at u (Signal s) = u s
value-at u (Not a) = not_bit (value_of a u)
value-at u (And a b) = and_bit (value_of a u) (value_of b u)
value-at u (Xor a b) = xor_bit (value_of a u) (value_of b u)
value-at u (Or a b) = or_bit (value_of a u) (value_of b u)

abbrev reads-at : Expr-F Expr → List ℕ
reads-at (Signal s) = s ∷ []
reads-at (Not a) = reads a
reads-at (And a b) = reads a ++ reads b
reads-at (Xor a b) = reads a ++ reads b
reads-at (Or a b) = reads a ++ reads b

pub value-roll : (u : ℕ → Bit) (x : Expr-F Expr) → value_of (roll-Expr x) u ≡ value-at u x
unfolding value_of
value-roll u (Signal s) = fold-roll-Expr Bit (value_step u) (Signal s)
value-roll u (Not a) = fold-roll-Expr Bit (value_step u) (Not a)
value-roll u (And a b) = fold-roll-Expr Bit (value_step u) (And a b)
value-roll u (Xor a b) = fold-roll-Expr Bit (value_step u) (Xor a b)
value-roll u (Or a b) = fold-roll-Expr Bit (value_step u) (Or a b)

pub reads-roll : (x : Expr-F Expr) → reads (roll-Expr x) ≡ reads-at x
unfolding reads
reads-roll (Signal s) = fold-roll-Expr (List ℕ) reads_step (Signal s)
reads-roll (Not a) = fold-roll-Expr (List ℕ) reads_step (Not a)
reads-roll (And a b) = fold-roll-Expr (List ℕ) reads_step (And a b)
reads-roll (Xor a b) = fold-roll-Expr (List ℕ) reads_step (Xor a b)
reads-roll (Or a b) = fold-roll-Expr (List ℕ) reads_step (Or a b)

abbrev Agrees : Expr → Type 0
Agrees e = (u v : ℕ → Bit) → All (λ s. u s ≡ v s) (reads e) → value_of e u ≡ value_of e v

abbrev base : Expr-F ((e : Expr) × Agrees e) → Expr-F Expr
base (Signal s) = Signal s
base (Not a) = Not a.0
base (And a b) = And a.0 b.0
base (Xor a b) = Xor a.0 b.0
base (Or a b) = Or a.0 b.0

at-agree : (y : Expr-F ((e : Expr) × Agrees e)) (u v : ℕ → Bit) → All (λ s. u s ≡ v s) (reads-at (base y)) → value-at u (base y) ≡ value-at v (base y)
at-agree (Signal s) u v h = All-head (λ s. u s ≡ v s) s [] h
at-agree (Not a) u v h = ap not_bit (a.1 u v h)
at-agree (And a b) u v h = let p = a.1 u v (front_of (λ s. u s ≡ v s) (reads a.0) (reads b.0) h) in let q = b.1 u v (rest_of (λ s. u s ≡ v s) (reads a.0) (reads b.0) h) in cc
at-agree (Xor a b) u v h = let p = a.1 u v (front_of (λ s. u s ≡ v s) (reads a.0) (reads b.0) h) in let q = b.1 u v (rest_of (λ s. u s ≡ v s) (reads a.0) (reads b.0) h) in cc
at-agree (Or a b) u v h = let p = a.1 u v (front_of (λ s. u s ≡ v s) (reads a.0) (reads b.0) h) in let q = b.1 u v (rest_of (λ s. u s ≡ v s) (reads a.0) (reads b.0) h) in cc

step : (y : Expr-F ((e : Expr) × Agrees e)) → Agrees (roll-Expr (base y))
step y u v h =
    let at : value-at u (base y) ≡ value-at v (base y) = at-agree y u v (subst (All (λ s. u s ≡ v s)) (reads-roll (base y)) h) in
    let p = value-roll u (base y) in
    let q = value-roll v (base y) in
    cc

-- where two environments agree on what the expression reads, its values are equal
pub value_of-agree : (e : Expr) → Agrees e
value_of-agree = ind-Expr Agrees (λ x y is. subst (λ z. Agrees (roll-Expr z)) is (step y))
