-- Sizes of several expressions together.
use Rattle.std.proofs.Common.{◌≡◌, max, Bool, true, false, ◌&&◌, List, [], ◌∷◌, ◌++◌, refl, sym, ◌∙◌, ap, arith}
use Rattle.vod_design.specs.declared.sized.SizedExpr.{SizedExpr}
use Rattle.vod_design.specs.declared.statement.Size.{Size}
use Rattle.vod_design.specs.Run.{largest, all_signed}
use Rattle.vod_eval.specs.Sizes.{size_with, own, joint, common}

and_true : (b : Bool) → (b && true) ≡ b
and_true true = refl
and_true false = refl

and_twice : (a b c : Bool) → ((a && b) && c) ≡ (a && (b && c))
and_twice true b c = refl
and_twice false b c = refl

-- beside no expression
pub joint_none : (s : Size) → joint s (common []) ≡ s
joint_none s = let w : max s.width 0 ≡ s.width = omega arith in ap (λ n. size_with n (s.signed && true)) w ∙ ap (size_with s.width) (and_true s.signed)

pub joint_twice : (s t u : Size) → joint (joint s t) u ≡ joint s (joint t u)
joint_twice s t u =
    let w : max (max s.width t.width) u.width ≡ max s.width (max t.width u.width) = omega arith in
    ap (λ n. size_with n ((s.signed && t.signed) && u.signed)) w ∙ ap (size_with (max s.width (max t.width u.width))) (and_twice s.signed t.signed u.signed)

pub common_more : (es fs : List SizedExpr) → common (es ++ fs) ≡ joint (common es) (common fs)
common_more [] fs = let w : largest fs ≡ max 0 (largest fs) = omega arith in ap (λ n. size_with n (all_signed fs)) w
common_more (e ∷ es) fs = ap (joint (own e)) (common_more es fs) ∙ sym (joint_twice (own e) (common es) (common fs))
