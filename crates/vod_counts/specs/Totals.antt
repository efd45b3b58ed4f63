-- What the code finds of all instances.
use Rattle.std.specs.Prelude.{◌≡◌, ℕ, List, [], ◌∷◌, Option}
use Rattle.vod_tree.specs.declared.«module».Module.{Module}
use Rattle.vod_tree.specs.declared.«module».SourceItem.{SourceItem}
use Rattle.vod_counts.specs.declared.first.Totals.{Totals}
use Rattle.vod_counts.specs.declared.limit.Limit.{Limit}
use Rattle.vod_counts.specs.declared.limit.Limit.TheVariants as limit
use Rattle.vod_counts.specs.Counts.{instances_of, total, capped}
use Rattle.vod_counts.specs.Edges.{instance_edges}
use Rattle.vod_counts.specs.Limits.{each_module, one_count, signal_count, input_count, token_count, count_at, first_past}

-- the sum of a count over all instances of so many modules
abbrev pub summed : List SourceItem → ℕ → Option ℕ → (Option Module → List ℕ) → ℕ
summed parts n top count = total (instances_of (instance_edges n parts) top n) 0 (each_module count parts)

-- the sums, as far as they are told apart
pub record AreTotals (parts : List SourceItem) (n : ℕ) (top : Option ℕ) (s : Totals) : Type 0 where
  pub instances : capped s.instances ≡ capped (summed parts n top one_count)
  pub signals : capped s.signals ≡ capped (summed parts n top signal_count)
  pub inputs : s.inputs ≡ count_at (each_module input_count parts) top
  pub tokens : capped s.tokens ≡ capped (summed parts n top token_count)

abbrev pub past_of : Totals → Option Limit
past_of s = first_past
    ((limit.Instances, (4096, s.instances)) ∷ (limit.Signals, (16384, s.signals)) ∷ (limit.Inputs, (1024, s.inputs)) ∷ (limit.Tokens, (16777216, s.tokens)) ∷ [])
