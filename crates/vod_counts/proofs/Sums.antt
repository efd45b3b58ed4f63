-- Sums of counts that aren't told apart past the limits.
use Rattle.std.proofs.Common.{◌≡◌, ◌<◌, ◌+◌, ◌==◌, ℕ, Bool, true, false, cond, List, [], ◌∷◌, All, refl, arith}
use Rattle.std.proofs.lemmas.List.Elements.{All-head, All-tail}
use Rattle.vod_fanout.specs.declared.Feed.{Feed}
use Rattle.vod_counts.specs.Counts.{made, capped}

sum_capped : (a b x y : ℕ) → capped a ≡ capped b → capped x ≡ capped y → capped (a + x) ≡ capped (b + y)
sum_capped a b x y h k = omega (arith, h, k)

chosen_capped : (t : Bool) (x y : ℕ) → capped x ≡ capped y → capped (cond t x 0) ≡ capped (cond t y 0)
chosen_capped true x y h = h
chosen_capped false x y h = refl

-- counts that are alike as far as they are told apart make alike sums
pub made_capped : (f g : ℕ → ℕ) (edges : List Feed) (n k : ℕ) → All (λ e. e.source < n) edges → ((j : ℕ) → j < n → capped (f j) ≡ capped (g j))
    → (a b : ℕ) → capped a ≡ capped b → capped (a + made f edges k) ≡ capped (b + made g edges k)
made_capped f g [] n k all h a b e = omega (arith, e)
made_capped f g (edge ∷ edges) n k all h a b e =
    let one = chosen_capped (edge.reader == k) (f edge.source) (g edge.source) (h edge.source (All-head (λ (e : Feed). e.source < n) edge edges all)) in
    let more = made_capped f g edges n k (All-tail (λ (e : Feed). e.source < n) edge edges all) h (a + cond (edge.reader == k) (f edge.source) 0) (b + cond (edge.reader == k) (g edge.source) 0)
    (sum_capped a b (cond (edge.reader == k) (f edge.source) 0) (cond (edge.reader == k) (g edge.source) 0) e one) in
    omega (arith, more)
