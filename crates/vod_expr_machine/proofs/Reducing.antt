-- What a frame takes in, one frame at a time.
use Rattle.std.proofs.Common.{◌≡◌, ℕ, nat_lt, not, Bool, true, false, cond, List, [], ◌∷◌, refl, ap, sym, ◌∙◌, arith}
use Rattle.vod_tree.specs.declared.expr.ExprKind.{ExprKind}
use Rattle.vod_tree.specs.declared.expr.ExprKind.TheVariants as tree_kind
use Rattle.vod_expr_machine.specs.declared.machine.Frame.{Frame}
use Rattle.vod_expr_machine.specs.declared.machine.Frame.TheVariants.{Prefix, Left, Chosen, Otherwise, Paren, Index, Range, Call, Brace, Concat, Replicate}
use Rattle.vod_expr_machine.specs.declared.machine.Head.TheVariants.{Whole}
use Rattle.vod_expr_machine.specs.Lexeme.{at}
use Rattle.vod_expr_machine.specs.Operators.{tight}
use Rattle.vod_expr_machine.specs.Machine.{reduced, reduce, ended, alone, tree}
use Rattle.vod_expr_machine.specs.View.{binds, taken_place, taken_kind}

when_true : {A : Type 0} (b : Bool) (x y : A) → not b ≡ true → cond b x y ≡ y
when_true true x y h = cc
when_true false x y h = refl

when_false : {A : Type 0} (b : Bool) (x y : A) → not b ≡ false → cond b x y ≡ x
when_false true x y h = refl
when_false false x y h = cc

pub reduce_binds : (k : ℕ) (f : Frame) (fs : List Frame) (p : ℕ) (a : ExprKind) → binds k f ≡ true → reduce k (f ∷ fs) p a ≡ reduce k fs (taken_place p f) (taken_kind p a f)
reduce_binds k (Prefix q op) fs p a h = refl
reduce_binds k (Left q b op) fs p a h = when_true (nat_lt (tight op) k) (reduced (Left q b op ∷ fs) p a) (reduce k fs q (tree_kind.Binary op (at q b) (at p a))) h
reduce_binds k (Otherwise q b c) fs p a h = when_true (nat_lt 0 k) (reduced (Otherwise q b c ∷ fs) p a) (reduce k fs q (tree_kind.Conditional (at q b) c (at p a))) h
reduce_binds k _ fs p a h = cc

pub reduce_stays : (k : ℕ) (f : Frame) (fs : List Frame) (p : ℕ) (a : ExprKind) → binds k f ≡ false → reduce k (f ∷ fs) p a ≡ reduced (f ∷ fs) p a
reduce_stays k (Prefix q op) fs p a h = cc
reduce_stays k (Left q b op) fs p a h = when_false (nat_lt (tight op) k) (reduced (Left q b op ∷ fs) p a) (reduce k fs q (tree_kind.Binary op (at q b) (at p a))) h
reduce_stays k (Otherwise q b c) fs p a h = when_false (nat_lt 0 k) (reduced (Otherwise q b c ∷ fs) p a) (reduce k fs q (tree_kind.Conditional (at q b) c (at p a))) h
reduce_stays k _ fs p a h = refl

reads_low : (n : ℕ) → nat_lt n 0 ≡ false
reads_low n = grind (arith)

-- what was taken in up to a level is then taken in whole as before
pub reduce_again : (k : ℕ) (fs : List Frame) (p : ℕ) (a : ExprKind) → reduce 0 (reduce k fs p a).frames (reduce k fs p a).place (reduce k fs p a).kind ≡ reduce 0 fs p a
reduce_again k [] p a = refl
reduce_again k (Prefix q op ∷ fs) p a = reduce_again k fs q (tree_kind.Unary op (at p a))
reduce_again k (Left q b op ∷ fs) p a = by_test (nat_lt (tight op) k) (reduce_again k fs q (tree_kind.Binary op (at q b) (at p a)) ∙ sym (ap (λ v. cond v (reduced (Left q b op ∷ fs) p a) (reduce 0 fs q (tree_kind.Binary op (at q b) (at p a)))) (reads_low (tight op))))
  where
    by_test : (v : Bool) → (let r = reduce k fs q (tree_kind.Binary op (at q b) (at p a)) in reduce 0 r.frames r.place r.kind ≡ reduce 0 (Left q b op ∷ fs) p a)
        → (let r = cond v (reduced (Left q b op ∷ fs) p a) (reduce k fs q (tree_kind.Binary op (at q b) (at p a))) in reduce 0 r.frames r.place r.kind ≡ reduce 0 (Left q b op ∷ fs) p a)
    by_test true h = refl
    by_test false h = h
reduce_again k (Otherwise q b c ∷ fs) p a = by_test (nat_lt 0 k) (reduce_again k fs q (tree_kind.Conditional (at q b) c (at p a)))
  where
    by_test : (v : Bool) → (let r = reduce k fs q (tree_kind.Conditional (at q b) c (at p a)) in reduce 0 r.frames r.place r.kind ≡ reduce 0 (Otherwise q b c ∷ fs) p a)
        → (let r = cond v (reduced (Otherwise q b c ∷ fs) p a) (reduce k fs q (tree_kind.Conditional (at q b) c (at p a))) in reduce 0 r.frames r.place r.kind ≡ reduce 0 (Otherwise q b c ∷ fs) p a)
    by_test true h = refl
    by_test false h = h
reduce_again k (Chosen q b ∷ fs) p a = refl
reduce_again k (Paren q ∷ fs) p a = refl
reduce_again k (Index n ∷ fs) p a = refl
reduce_again k (Range n b ∷ fs) p a = refl
reduce_again k (Call n xs ∷ fs) p a = refl
reduce_again k (Brace q ∷ fs) p a = refl
reduce_again k (Concat q xs ∷ fs) p a = refl
reduce_again k (Replicate q b xs ∷ fs) p a = refl

pub ended_reduced : (k : ℕ) (fs gs : List Frame) (p q : ℕ) (a b : ExprKind) → reduce k fs p a ≡ reduced gs q b → ended (Whole q b) gs ≡ ended (Whole p a) fs
unfolding ended
ended_reduced k fs gs p q a b h =
    let same : reduce 0 gs q b ≡ reduce 0 fs p a = sym (ap (λ r. reduce 0 r.frames r.place r.kind) h) ∙ reduce_again k fs p a in
    ap (λ r. alone r.frames (tree r)) same
