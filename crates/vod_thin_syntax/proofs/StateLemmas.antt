-- The tokens that are left behind the next one.
use Rattle.std.proofs.Common.{◌≡◌, ℕ, zero, suc, ◌+◌, ◌-◌, ◌<◌, ◌≤◌, List, [], ◌∷◌, ◌++◌, take, drop, length, refl, ap, sym, ◌∙◌, add-one, arith}
use Rattle.std.proofs.lemmas.List.{drop-drop}
use Rattle.std.proofs.lemmas.List.Elements.{All-nil, All-cons, All-tail}
use Rattle.std.specs.Prelude.{All}
use Rattle.std.specs.Prelude.{slice_range}
use Rattle.vod_token.specs.declared.Token.{Token}
use Rattle.vod_thin_syntax.specs.Reader.{rest_of}
use Rattle.vod_thin_syntax.specs.Syntax.{Mark}
use Rattle.vod_thin_syntax.specs.View.{mark_of, marks_of}

rest_drop : (source : List ℕ) (ts : List Token) (at : ℕ) → rest_of (marks_of source (drop at ts)) ≡ marks_of source (drop (suc at) ts)
rest_drop source [] zero = refl
rest_drop source [] (suc at) = refl
rest_drop source (t ∷ ts) zero = refl
rest_drop source (t ∷ ts) (suc at) = rest_drop source ts at

pub rest_left : (source : List ℕ) (ts : List Token) (at : ℕ) → marks_of source (drop (at + 1) ts) ≡ rest_of (marks_of source (drop at ts))
rest_left source ts at = ap (λ k. marks_of source (drop k ts)) (add-one at) ∙ sym (rest_drop source ts at)

-- one more token of a range
take_more : (source : List ℕ) (ts : List Token) (n : ℕ) (t : Mark) (rest : List Mark) → marks_of source (drop n ts) ≡ t ∷ rest → marks_of source (take (suc n) ts) ≡ marks_of source (take n ts) ++ t ∷ []
take_more source [] zero t rest h = cc
take_more source [] (suc n) t rest h = cc
take_more source (u ∷ ts) zero t rest h = let same : mark_of source u ≡ t = cc in ap (λ v. v ∷ []) same
take_more source (u ∷ ts) (suc n) t rest h = ap (λ v. mark_of source u ∷ v) (take_more source ts n t rest h)

pub range_more : (source : List ℕ) (ts : List Token) (from at : ℕ) (t : Mark) (rest : List Mark) → from ≤ at → marks_of source (drop at ts) ≡ t ∷ rest
    → marks_of source (slice_range ts from (at + 1)) ≡ marks_of source (slice_range ts from at) ++ t ∷ []
range_more source ts from at t rest le h =
    let n : ℕ = at - from in
    let behind : drop n (drop from ts) ≡ drop at ts = drop-drop n from ts ∙ ap (λ k. drop k ts) (let s : from + n ≡ at = omega arith in s) in
    ap (λ k. marks_of source (take k (drop from ts))) (let s : at + 1 - from ≡ suc n = omega arith in s)
    ∙ take_more source (drop from ts) n t rest (ap (marks_of source) behind ∙ h)

pub range_none : (source : List ℕ) (ts : List Token) (at : ℕ) → marks_of source (slice_range ts at at) ≡ []
range_none source ts at = ap (λ k. marks_of source (take k (drop at ts))) (let s : at - at ≡ 0 = omega arith in s)

pub some_left : (source : List ℕ) (ts : List Token) (at : ℕ) (t : Mark) (rest : List Mark) → marks_of source (drop at ts) ≡ t ∷ rest → at < length ts
some_left source [] zero t rest h = cc
some_left source [] (suc at) t rest h = cc
some_left source (u ∷ ts) zero t rest h = omega arith
some_left source (u ∷ ts) (suc at) t rest h = let less = some_left source ts at t rest h in omega arith

-- one more that passes
pub all_push : {X : Type 0} (P : X → Type 0) (xs : List X) (x : X) → All P xs → P x → All P (xs ++ x ∷ [])
all_push P [] x h p = All-cons P x [] p (All-nil P)
all_push P (y ∷ ys) x h p = All-cons P y (ys ++ x ∷ []) (h 0 y (omega arith)) (all_push P ys x (All-tail P y ys h) p)
