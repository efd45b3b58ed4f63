use Rattle.std.proofs.Common.{◌≡◌, ◌∙◌, ◌+◌, ℕ, suc, List, arith, refl, sym, subst, slice_index}
use Rattle.vod_counts.specs.Counts.{own, instances_of, IsTable}
use Rattle.vod_counts.proofs.Sums.{made_capped}
use Rattle.vod_counts.proofs.counts.counts_of.Goals as goal

pub loop-level-preserved : goal.loop-level-preserved
loop-level-preserved c =
    let n = c.args.count in
    let edges = c.args.edges.now in
    let level = instances_of edges c.args.top c.loop-level._level in
    let before : IsTable n level c.as_slice.result.now = subst (λ (t : List ℕ). IsTable n level t) (sym c.as_slice.ensures.value) c.loop-level.invariant in
    let now = c.in_ok-table-2.ensures in
    let next : suc c.loop-level._level ≡ c.loop-level._level + 1 = omega (arith) in
    let grown : IsTable n (instances_of edges c.args.top (suc c.loop-level._level)) c.in_ok-table-2.table.items =
    (now.0, λ k h. now.1 k h ∙ made_capped (slice_index c.as_slice.result.now) level edges n k c.requires.sources before.1 (own c.args.top k) (own c.args.top k) refl) in
    subst (λ l. IsTable n (instances_of edges c.args.top l) c.in_ok-table-2.table.items) next grown
