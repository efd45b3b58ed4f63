-- Limits that are passed, as far as counts are told apart.
use Rattle.std.proofs.Common.{◌≡◌, ◌<◌, ◌≤◌, ◌+◌, ◌*◌, ℕ, zero, suc, nat_lt, Bool, true, false, cond, List, [], ◌∷◌, Option, None, Some, length, refl, sym, ◌∙◌, ap, arith}
use Rattle.std.proofs.lemmas.Bool.Decides.{nat_tests}
use Rattle.std.proofs.Math.Nat.{mul-zero, mul-suc}
use Rattle.vod_tree.specs.declared.«module».Tree.{Tree}
use Rattle.vod_modules.specs.Faults.{module_count}
use Rattle.vod_counts.specs.Counts.{total, capped}
use Rattle.vod_counts.specs.declared.first.Totals.{Totals}
use Rattle.vod_counts.specs.declared.limit.Limit.{Limit}
use Rattle.vod_counts.specs.declared.limit.Limit.TheVariants as limit
use Rattle.vod_counts.specs.Limits.{each_module, one_count, signal_count, input_count, token_count, top_of, over_instances, count_at, limit_of}
use Rattle.vod_counts.specs.Totals.{AreTotals, past_of}

-- products with one factor of which no more is told
big_times : (f g w : ℕ) → 33554432 ≤ f → 33554432 ≤ g → capped (f * w) ≡ capped (g * w)
big_times f g zero a b = ap capped (mul-zero f ∙ sym (mul-zero g))
big_times f g (suc w) a b =
    let x = mul-suc f w in
    let y = mul-suc g w in
    omega (arith, x, y, a, b)

times_by : (t : Bool) (f g w : ℕ) → t ≡ nat_lt f 33554432 → capped f ≡ capped g → capped (f * w) ≡ capped (g * w)
times_by true f g w e h =
    let same : f ≡ g = grind (arith, nat_tests) in
    ap (λ x. capped (x * w)) same
times_by false f g w e h = big_times f g w (grind (arith, nat_tests)) (grind (arith, nat_tests))

pub times_capped : (f g w : ℕ) → capped f ≡ capped g → capped (f * w) ≡ capped (g * w)
times_capped f g w h = times_by (nat_lt f 33554432) f g w refl h

-- sums over counts that are alike as far as they are told apart
pub total_capped : (f g : ℕ → ℕ) (n k : ℕ) (ws : List ℕ) → k + length ws ≤ n → ((j : ℕ) → j < n → capped (f j) ≡ capped (g j)) → capped (total f k ws) ≡ capped (total g k ws)
total_capped f g n k [] le h = refl
total_capped f g n k (w ∷ ws) le h =
    let one = times_capped (f k) (g k) w (h k (omega (arith, le))) in
    let more = total_capped f g n (suc k) ws (omega (arith, le)) h in
    omega (arith, one, more)

-- a limit below what is told apart
pub passed : (most a b : ℕ) → most < 33554432 → capped a ≡ capped b → nat_lt most a ≡ nat_lt most b
passed most a b small h = grind (arith, nat_tests)

-- the first limit, by whether each is passed
abbrev choose : Bool → Bool → Bool → Bool → Option Limit
choose p q r s = cond p (Some limit.Instances) (cond q (Some limit.Signals) (cond r (Some limit.Inputs) (cond s (Some limit.Tokens) None)))

pub past_limit : (t : Tree) (s : Totals) → nat_lt 256 (module_count t) ≡ false → AreTotals t.items (module_count t) (top_of t) s → past_of s ≡ limit_of t
past_limit t s few is =
    let p = nat_lt 4096 (over_instances one_count t) in
    let q = nat_lt 16384 (over_instances signal_count t) in
    let r = nat_lt 1024 (count_at (each_module input_count t.items) (top_of t)) in
    let u = nat_lt 16777216 (over_instances token_count t) in
    let one : nat_lt 4096 s.instances ≡ p = passed 4096 s.instances (over_instances one_count t) (omega (arith)) is.instances in
    let two : nat_lt 16384 s.signals ≡ q = passed 16384 s.signals (over_instances signal_count t) (omega (arith)) is.signals in
    let three : nat_lt 1024 s.inputs ≡ r = ap (nat_lt 1024) is.inputs in
    let four : nat_lt 16777216 s.tokens ≡ u = passed 16777216 s.tokens (over_instances token_count t) (omega (arith)) is.tokens in
    ap (λ x. choose x (nat_lt 16384 s.signals) (nat_lt 1024 s.inputs) (nat_lt 16777216 s.tokens)) one
    ∙ ap (λ x. choose p x (nat_lt 1024 s.inputs) (nat_lt 16777216 s.tokens)) two
    ∙ ap (λ x. choose p q x (nat_lt 16777216 s.tokens)) three
    ∙ ap (λ x. choose p q r x) four
    ∙ sym (ap (λ x. cond x (Some limit.Modules) (choose p q r u)) few)
