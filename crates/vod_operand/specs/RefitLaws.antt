-- A tree that is given another size and sign is the tree at these.
use Rattle.std.proofs.Common.{◌≡◌, ℕ, Bool, List, refl, sym, ◌∙◌, ap, subst}
use Rattle.vod_bits.specs.Bit.{Bit}
use Rattle.vod_tree.specs.declared.expr.BinaryOp.{BinaryOp}
use Rattle.vod_tree.specs.declared.expr.UnaryOp.{UnaryOp}
use Rattle.vod_tree.specs.declared.expr.BinaryOp.TheVariants as by
use Rattle.vod_tree.specs.declared.expr.UnaryOp.TheVariants as sign
use Rattle.vod_design.specs.declared.sized.ShiftOp.{ShiftOp}
use Rattle.vod_design.specs.declared.sized.SizedExpr.{SizedExpr}
use Rattle.vod_design.specs.declared.sized.SizedKind.{SizedKind}
use Rattle.vod_design.specs.declared.sized.NamedMemory.{NamedMemory}
use Rattle.vod_design.specs.declared.sized.Named.{Named}
use Rattle.vod_design.specs.declared.sized.ComparisonOp.{ComparisonOp}
use Rattle.vod_design.specs.declared.sized.LogicalOp.{LogicalOp}
use Rattle.vod_design.specs.declared.sized.ReductionOp.{ReductionOp}
use Rattle.vod_design.specs.declared.sized.SizedKind.TheOpen.{SizedKind-F}
use Rattle.vod_design.specs.declared.sized.SizedKind.TheVariants.{rolls-Unary, rolls-Binary, rolls-Shift, rolls-Conditional}
use Rattle.vod_design.specs.declared.sized.SizedKind.TheViews.{out-SizedKind, roll-SizedKind, out-roll-SizedKind}
use Rattle.vod_design.specs.declared.sized.BinaryOp as sized_binary
use Rattle.vod_design.specs.declared.sized.UnaryOp as sized_unary
use Rattle.vod_design.specs.declared.sized.SizedKind.TheVariants as kind
use Rattle.vod_design.specs.declared.sized.BinaryOp.TheVariants as binary_op
use Rattle.vod_design.specs.declared.sized.ShiftOp.TheVariants as shift_op
use Rattle.vod_design.specs.declared.sized.UnaryOp.TheVariants as unary_op
use Rattle.vod_operand.specs.Fits.{Fits, FitsKind, fits, unary, binary, shift, conditional, other}
use Rattle.vod_operand.specs.Operands.{Looked, node, standing, own, at_place}
use Rattle.vod_operand.specs.Operators.{like_operand, like_both, like_left, look_conditional, look_unary, look_binary}
use Rattle.vod_operand.specs.Found.{Refits}

abbrev Layer : Type 0
Layer = SizedKind-F SizedKind SizedExpr

-- a kind none of whose operands has the size of the whole stays
pub record IsFixed (k : SizedKind) : Type 0 where
  pub not_unary : (op : sized_unary.UnaryOp) (a : SizedExpr) → k ≡ kind.Unary op a → ⊥
  pub not_binary : (op : sized_binary.BinaryOp) (a b : SizedExpr) → k ≡ kind.Binary op a b → ⊥
  pub not_shift : (op : ShiftOp) (a b : SizedExpr) → k ≡ kind.Shift op a b → ⊥
  pub not_conditional : (t a b : SizedExpr) → k ≡ kind.Conditional t a b → ⊥

kind_stays : (w : ℕ) (s : Bool) (k l : SizedKind) → IsFixed k → FitsKind w s k l → l ≡ k
kind_stays w s k l f (unary _ _ _ _ op a b p q h) = absurd (f.not_unary op a p)
kind_stays w s k l f (binary _ _ _ _ op a b c d p q h i) = absurd (f.not_binary op a b p)
kind_stays w s k l f (shift _ _ _ _ op a b m p q h) = absurd (f.not_shift op a m p)
kind_stays w s k l f (conditional _ _ _ _ t a b c d p q h i) = absurd (f.not_conditional t a b p)
kind_stays w s k l f (other _ _ _ n o p q) = refl

-- a tree by its place, its size, its sign and its kind
by_parts : (r : SizedExpr) (w : ℕ) (s : Bool) (k : SizedKind) → r.place ≡ 0 → r.width ≡ w → r.signed ≡ s → r.kind ≡ k → r ≡ node w s k
by_parts r w s k o p q h = ap (λ z. standing z r) o ∙ ap (λ v. node v r.signed r.kind) p ∙ ap (λ v. node w v r.kind) q ∙ ap (node w s) h

pub fixed : (w : ℕ) (s : Bool) (v : ℕ) (t : Bool) (k : SizedKind) (r : SizedExpr) → IsFixed k → Fits w s (node v t k) r → r ≡ node w s k
fixed w s v t k r f (fits _ _ _ _ o p q h) = by_parts r w s k o p q (kind_stays w s k r.kind f h)

-- the layer that a kind was made of
opened : (k : SizedKind) (x : Layer) → k ≡ roll-SizedKind x → out-SizedKind k ≡ x
opened k x e = ap out-SizedKind e ∙ out-roll-SizedKind x

first_or : SizedExpr → Layer → SizedExpr
first_or d (SizedKind-F.Unary op a) = a
first_or d (SizedKind-F.Binary op a b) = a
first_or d (SizedKind-F.Shift op a b) = a
first_or d (SizedKind-F.Conditional t a b) = a
first_or d _ = d

second_or : SizedExpr → Layer → SizedExpr
second_or d (SizedKind-F.Binary op a b) = b
second_or d (SizedKind-F.Shift op a b) = b
second_or d (SizedKind-F.Conditional t a b) = b
second_or d _ = d

third_or : SizedExpr → Layer → SizedExpr
third_or d (SizedKind-F.Conditional t a b) = t
third_or d _ = d

same_layer : (k : SizedKind) (x y : Layer) → k ≡ roll-SizedKind x → k ≡ roll-SizedKind y → x ≡ y
same_layer k x y p q = sym (opened k x p) ∙ opened k y q

fits_unary : (w : ℕ) (s : Bool) (op : sized_unary.UnaryOp) (a b : SizedExpr) (l : SizedKind) → ((r : SizedExpr) → Fits w s a r → r ≡ b) → FitsKind w s (kind.Unary op a) l → l ≡ kind.Unary op b
unfolding first_or
fits_unary w s op a b l f (unary _ _ _ _ o c d p q h) =
    let x : SizedKind-F.Unary op a ≡ SizedKind-F.Unary o c = same_layer (kind.Unary op a) (SizedKind-F.Unary op a) (SizedKind-F.Unary o c) (sym (rolls-Unary op a)) (p ∙ sym (rolls-Unary o c)) in
    let e : a ≡ c = ap (first_or a) x in
    let same_op : op ≡ o = cc in
    let T : SizedExpr → Type 0 = λ z. Fits w s z d in
    let back : Fits w s a d = subst T (sym e) h in
    let done : d ≡ b = f d back in
    q ∙ ap (λ z. kind.Unary o z) done ∙ ap (λ z. kind.Unary z b) (sym same_op)
fits_unary w s op a b l f (binary _ _ _ _ o c d e g p q h i) = absurd (cc)
fits_unary w s op a b l f (shift _ _ _ _ o c d m p q h) = absurd (cc)
fits_unary w s op a b l f (conditional _ _ _ _ u c d e g p q h i) = absurd (cc)
fits_unary w s op a b l f (other _ _ _ n o p q) = absurd (n op a refl)

fits_binary : (w : ℕ) (s : Bool) (op : sized_binary.BinaryOp) (a b u v : SizedExpr) (l : SizedKind) → ((r : SizedExpr) → Fits w s a r → r ≡ u) → ((r : SizedExpr) → Fits w s b r → r ≡ v)
    → FitsKind w s (kind.Binary op a b) l → l ≡ kind.Binary op u v
unfolding first_or second_or
fits_binary w s op a b u v l f g (binary _ _ _ _ o c d e m p q h i) =
    let x : SizedKind-F.Binary op a b ≡ SizedKind-F.Binary o c d = same_layer (kind.Binary op a b) (SizedKind-F.Binary op a b) (SizedKind-F.Binary o c d) (sym (rolls-Binary op a b)) (p ∙ sym (rolls-Binary o c d)) in
    let first_is : a ≡ c = ap (first_or a) x in
    let second_is : b ≡ d = ap (second_or b) x in
    let same_op : op ≡ o = cc in
    let T : SizedExpr → Type 0 = λ z. Fits w s z e in
    let U : SizedExpr → Type 0 = λ z. Fits w s z m in
    let one : e ≡ u = f e (subst T (sym first_is) h) in
    let two : m ≡ v = g m (subst U (sym second_is) i) in
    q ∙ ap (λ z. kind.Binary o z m) one ∙ ap (λ z. kind.Binary o u z) two ∙ ap (λ z. kind.Binary z u v) (sym same_op)
fits_binary w s op a b u v l f g (unary _ _ _ _ o c d p q h) = absurd (cc)
fits_binary w s op a b u v l f g (shift _ _ _ _ o c d m p q h) = absurd (cc)
fits_binary w s op a b u v l f g (conditional _ _ _ _ t c d e m p q h i) = absurd (cc)
fits_binary w s op a b u v l f g (other _ _ _ n o p q) = absurd (o op a b refl)

fits_shift : (w : ℕ) (s : Bool) (op : ShiftOp) (a m u : SizedExpr) (l : SizedKind) → ((r : SizedExpr) → Fits w s a r → r ≡ u) → FitsKind w s (kind.Shift op a m) l → l ≡ kind.Shift op u m
unfolding first_or second_or
fits_shift w s op a m u l f (shift _ _ _ _ o c d n p q h) =
    let x : SizedKind-F.Shift op a m ≡ SizedKind-F.Shift o c n = same_layer (kind.Shift op a m) (SizedKind-F.Shift op a m) (SizedKind-F.Shift o c n) (sym (rolls-Shift op a m)) (p ∙ sym (rolls-Shift o c n)) in
    let first_is : a ≡ c = ap (first_or a) x in
    let second_is : m ≡ n = ap (second_or m) x in
    let same_op : op ≡ o = cc in
    let T : SizedExpr → Type 0 = λ z. Fits w s z d in
    let one : d ≡ u = f d (subst T (sym first_is) h) in
    q ∙ ap (λ z. kind.Shift o z n) one ∙ ap (λ z. kind.Shift o u z) (sym second_is) ∙ ap (λ z. kind.Shift z u m) (sym same_op)
fits_shift w s op a m u l f (unary _ _ _ _ o c d p q h) = absurd (cc)
fits_shift w s op a m u l f (binary _ _ _ _ o c d e g p q h i) = absurd (cc)
fits_shift w s op a m u l f (conditional _ _ _ _ t c d e g p q h i) = absurd (cc)
fits_shift w s op a m u l f (other _ _ _ n o p q) = absurd (p op a m refl)

fits_conditional : (w : ℕ) (s : Bool) (t a b u v : SizedExpr) (l : SizedKind) → ((r : SizedExpr) → Fits w s a r → r ≡ u) → ((r : SizedExpr) → Fits w s b r → r ≡ v)
    → FitsKind w s (kind.Conditional t a b) l → l ≡ kind.Conditional t u v
unfolding first_or second_or third_or
fits_conditional w s t a b u v l f g (conditional _ _ _ _ o c d e m p q h i) =
    let x : SizedKind-F.Conditional t a b ≡ SizedKind-F.Conditional o c d = same_layer (kind.Conditional t a b) (SizedKind-F.Conditional t a b) (SizedKind-F.Conditional o c d) (sym (rolls-Conditional t a b)) (p ∙ sym (rolls-Conditional o c d)) in
    let first_is : a ≡ c = ap (first_or a) x in
    let second_is : b ≡ d = ap (second_or b) x in
    let third_is : t ≡ o = ap (third_or t) x in
    let T : SizedExpr → Type 0 = λ z. Fits w s z e in
    let U : SizedExpr → Type 0 = λ z. Fits w s z m in
    let one : e ≡ u = f e (subst T (sym first_is) h) in
    let two : m ≡ v = g m (subst U (sym second_is) i) in
    q ∙ ap (λ z. kind.Conditional o z m) one ∙ ap (λ z. kind.Conditional o u z) two ∙ ap (λ z. kind.Conditional z u v) (sym third_is)
fits_conditional w s t a b u v l f g (unary _ _ _ _ o c d p q h) = absurd (cc)
fits_conditional w s t a b u v l f g (binary _ _ _ _ o c d e m p q h i) = absurd (cc)
fits_conditional w s t a b u v l f g (shift _ _ _ _ o c d m p q h) = absurd (cc)
fits_conditional w s t a b u v l f g (other _ _ _ n o p q) = absurd (q t a b refl)

refits_by : (w : ℕ) (s : Bool) (v : ℕ) (t : Bool) (k m : SizedKind) (r : SizedExpr) → ((l : SizedKind) → FitsKind w s k l → l ≡ m) → Fits w s (node v t k) r → r ≡ node w s m
refits_by w s v t k m r f (fits _ _ _ _ o p q h) = by_parts r w s m o p q (f r.kind h)

-- an expression at its place
placed_by : (place w : ℕ) (s : Bool) (e u r : SizedExpr) → ((x : SizedExpr) → Fits w s e x → x ≡ u) → Fits w s (standing place e) r → r ≡ standing place u
placed_by place w s e u r f (fits _ _ _ _ o p q h) =
    let back : Fits w s e (standing e.place r) = fits w s e (standing e.place r) refl p q h in
    ap (λ z. standing z r) o ∙ ap (standing place) (f (standing e.place r) back)

pub placed_refits : (place : ℕ) (x : Looked) → Refits x → Refits (at_place place x)
placed_refits place x f w v s t r h = placed_by place w s (x.sized v t) (x.sized w s) r (f w v s t) h

-- what each row of the table of sizes gives
pub like_refits : (op : sized_unary.UnaryOp) (a : Looked) → Refits a → Refits (like_operand (kind.Unary op) a)
like_refits op a f w v s t r h = refits_by w s v t _ _ r (λ l. fits_unary w s op (a.sized v t) (a.sized w s) l (λ x. f w v s t x)) h

pub both_refits : (op : sized_binary.BinaryOp) (a b : Looked) → Refits a → Refits b → Refits (like_both (kind.Binary op) a b)
both_refits op a b f g w v s t r h =
    refits_by w s v t _ _ r (λ l. fits_binary w s op (a.sized v t) (b.sized v t) (a.sized w s) (b.sized w s) l (λ x. f w v s t x) (λ x. g w v s t x)) h

pub left_refits : (op : ShiftOp) (a b : Looked) → Refits a → Refits (like_left (kind.Shift op) a b)
left_refits op a b f w v s t r h = refits_by w s v t _ _ r (λ l. fits_shift w s op (a.sized v t) (own b) (a.sized w s) l (λ x. f w v s t x)) h

pub conditional_refits : (t a b : Looked) → Refits a → Refits b → Refits (look_conditional t a b)
conditional_refits o a b f g w v s t r h =
    refits_by w s v t _ _ r (λ l. fits_conditional w s (own o) (a.sized v t) (b.sized v t) (a.sized w s) (b.sized w s) l (λ x. f w v s t x) (λ x. g w v s t x)) h

-- an expression whose kind is the same at each size
pub stays : (k : SizedKind) → IsFixed k → (w v : ℕ) (s t : Bool) (r : SizedExpr) → Fits w s (node v t k) r → r ≡ node w s k
stays k f w v s t r h = fixed w s v t k r f h

abbrev pub fixed_by : (k : SizedKind) → ((op : sized_unary.UnaryOp) (a : SizedExpr) → k ≡ kind.Unary op a → ⊥) → ((op : sized_binary.BinaryOp) (a b : SizedExpr) → k ≡ kind.Binary op a b → ⊥)
    → ((op : ShiftOp) (a b : SizedExpr) → k ≡ kind.Shift op a b → ⊥) → ((t a b : SizedExpr) → k ≡ kind.Conditional t a b → ⊥) → IsFixed k
fixed_by k a b c d = record { not_unary = a; not_binary = b; not_shift = c; not_conditional = d }

pub fixed_Number : (b : List Bit) → IsFixed (kind.Number b)
fixed_Number b = fixed_by (kind.Number b) (λ o c h. absurd (cc)) (λ o c d h. absurd (cc)) (λ o c d h. absurd (cc)) (λ o c d h. absurd (cc))

pub fixed_Name : (n : Named) → IsFixed (kind.Name n)
fixed_Name n = fixed_by (kind.Name n) (λ o c h. absurd (cc)) (λ o c d h. absurd (cc)) (λ o c d h. absurd (cc)) (λ o c d h. absurd (cc))

pub fixed_Select : (n : Named) (x y : ℕ) → IsFixed (kind.Select n x y)
fixed_Select n x y = fixed_by (kind.Select n x y) (λ o c h. absurd (cc)) (λ o c d h. absurd (cc)) (λ o c d h. absurd (cc)) (λ o c d h. absurd (cc))

pub fixed_Index : (n : Named) (x : ℕ) (e : SizedExpr) → IsFixed (kind.Index n x e)
fixed_Index n x e = fixed_by (kind.Index n x e) (λ o c h. absurd (cc)) (λ o c d h. absurd (cc)) (λ o c d h. absurd (cc)) (λ o c d h. absurd (cc))

pub fixed_Word : (m : NamedMemory) (p : ℕ) → IsFixed (kind.Word m p)
fixed_Word m p = fixed_by (kind.Word m p) (λ o c h. absurd (cc)) (λ o c d h. absurd (cc)) (λ o c d h. absurd (cc)) (λ o c d h. absurd (cc))

pub fixed_WordIndex : (m : NamedMemory) (x : ℕ) (e : SizedExpr) → IsFixed (kind.WordIndex m x e)
fixed_WordIndex m x e = fixed_by (kind.WordIndex m x e) (λ o c h. absurd (cc)) (λ o c d h. absurd (cc)) (λ o c d h. absurd (cc)) (λ o c d h. absurd (cc))

pub fixed_Comparison : (op : ComparisonOp) (x y : SizedExpr) → IsFixed (kind.Comparison op x y)
fixed_Comparison op x y = fixed_by (kind.Comparison op x y) (λ o c h. absurd (cc)) (λ o c d h. absurd (cc)) (λ o c d h. absurd (cc)) (λ o c d h. absurd (cc))

pub fixed_LogicalNot : (x : SizedExpr) → IsFixed (kind.LogicalNot x)
fixed_LogicalNot x = fixed_by (kind.LogicalNot x) (λ o c h. absurd (cc)) (λ o c d h. absurd (cc)) (λ o c d h. absurd (cc)) (λ o c d h. absurd (cc))

pub fixed_Logical : (op : LogicalOp) (x y : SizedExpr) → IsFixed (kind.Logical op x y)
fixed_Logical op x y = fixed_by (kind.Logical op x y) (λ o c h. absurd (cc)) (λ o c d h. absurd (cc)) (λ o c d h. absurd (cc)) (λ o c d h. absurd (cc))

pub fixed_Reduction : (op : ReductionOp) (x : SizedExpr) → IsFixed (kind.Reduction op x)
fixed_Reduction op x = fixed_by (kind.Reduction op x) (λ o c h. absurd (cc)) (λ o c d h. absurd (cc)) (λ o c d h. absurd (cc)) (λ o c d h. absurd (cc))

pub fixed_Concat : (xs : List SizedExpr) → IsFixed (kind.Concat xs)
fixed_Concat xs = fixed_by (kind.Concat xs) (λ o c h. absurd (cc)) (λ o c d h. absurd (cc)) (λ o c d h. absurd (cc)) (λ o c d h. absurd (cc))

pub fixed_Replicate : (n : ℕ) (x : SizedExpr) → IsFixed (kind.Replicate n x)
fixed_Replicate n x = fixed_by (kind.Replicate n x) (λ o c h. absurd (cc)) (λ o c d h. absurd (cc)) (λ o c d h. absurd (cc)) (λ o c d h. absurd (cc))

pub fixed_Call : (n : ℕ) (xs : List SizedExpr) → IsFixed (kind.Call n xs)
fixed_Call n xs = fixed_by (kind.Call n xs) (λ o c h. absurd (cc)) (λ o c d h. absurd (cc)) (λ o c d h. absurd (cc)) (λ o c d h. absurd (cc))

pub unary_refits : (op : UnaryOp) (a : Looked) → Refits a → Refits (look_unary op a)
unary_refits sign.Minus a f = like_refits unary_op.Minus a f
unary_refits sign.Not a f = like_refits unary_op.Not a f
unary_refits sign.LogicalNot a f = stays _ (fixed_LogicalNot _)
unary_refits sign.And a f = stays _ (fixed_Reduction _ _)
unary_refits sign.Nand a f = stays _ (fixed_Reduction _ _)
unary_refits sign.Or a f = stays _ (fixed_Reduction _ _)
unary_refits sign.Nor a f = stays _ (fixed_Reduction _ _)
unary_refits sign.Xor a f = stays _ (fixed_Reduction _ _)
unary_refits sign.Xnor a f = stays _ (fixed_Reduction _ _)
unary_refits sign.XorNot a f = stays _ (fixed_Reduction _ _)

pub binary_refits : (op : BinaryOp) (a b : Looked) → Refits a → Refits b → Refits (look_binary op a b)
binary_refits by.Mul a b f g = both_refits binary_op.Mul a b f g
binary_refits by.Add a b f g = both_refits binary_op.Add a b f g
binary_refits by.Sub a b f g = both_refits binary_op.Sub a b f g
binary_refits by.And a b f g = both_refits binary_op.And a b f g
binary_refits by.Xor a b f g = both_refits binary_op.Xor a b f g
binary_refits by.Xnor a b f g = both_refits binary_op.Xnor a b f g
binary_refits by.XorNot a b f g = both_refits binary_op.Xnor a b f g
binary_refits by.Or a b f g = both_refits binary_op.Or a b f g
binary_refits by.ShiftLeft a b f g = left_refits shift_op.Left a b f
binary_refits by.ArithmeticLeft a b f g = left_refits shift_op.Left a b f
binary_refits by.ShiftRight a b f g = left_refits shift_op.Right a b f
binary_refits by.ArithmeticRight a b f g = left_refits shift_op.ArithmeticRight a b f
binary_refits by.Less a b f g = stays _ (fixed_Comparison _ _ _)
binary_refits by.LessEqual a b f g = stays _ (fixed_Comparison _ _ _)
binary_refits by.Greater a b f g = stays _ (fixed_Comparison _ _ _)
binary_refits by.GreaterEqual a b f g = stays _ (fixed_Comparison _ _ _)
binary_refits by.Equal a b f g = stays _ (fixed_Comparison _ _ _)
binary_refits by.NotEqual a b f g = stays _ (fixed_Comparison _ _ _)
binary_refits by.CaseEqual a b f g = stays _ (fixed_Comparison _ _ _)
binary_refits by.CaseNotEqual a b f g = stays _ (fixed_Comparison _ _ _)
binary_refits by.LogicalAnd a b f g = stays _ (fixed_Logical _ _ _)
binary_refits by.LogicalOr a b f g = stays _ (fixed_Logical _ _ _)
