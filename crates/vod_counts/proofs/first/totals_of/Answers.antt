use Rattle.std.proofs.Common.{◌<◌, ◌∙◌, List, All, sym, subst, ap}
use Rattle.vod_fanout.specs.declared.Feed.{Feed}
use Rattle.vod_counts.specs.Counts.{instances_of, IsTable}
use Rattle.vod_counts.specs.Edges.{instance_edges}
use Rattle.vod_counts.specs.Limits.{one_count, signal_count, token_count, count_at}
use Rattle.vod_counts.proofs.Inside.{sources_inside, readers_inside, sums_of, ones_count, signals_count, tokens_count}
use Rattle.vod_counts.proofs.first.totals_of.Goals as goal

pub counts_of-requires-clause-sources : goal.counts_of-requires-clause-sources
counts_of-requires-clause-sources c =
    subst (λ (es : List Feed). All (λ (e : Feed). e.source < c.args.count) es) (sym (c.as_slice.ensures.value ∙ c.in_ok-edges.ensures)) (sources_inside c.args.count c.args.parts.now)

pub counts_of-requires-clause-readers : goal.counts_of-requires-clause-readers
counts_of-requires-clause-readers c =
    subst (λ (es : List Feed). All (λ (e : Feed). e.reader < c.args.count) es) (sym (c.as_slice.ensures.value ∙ c.in_ok-edges.ensures)) (readers_inside c.args.count c.args.parts.now)

pub returns : goal.returns
returns c =
    let parts = c.args.parts.now in
    let n = c.args.count in
    let table : IsTable n (instances_of (instance_edges n parts) c.args.top n) c.in_ok-table.table.items =
    subst (λ (es : List Feed). IsTable n (instances_of es c.args.top n) c.in_ok-table.table.items) (c.as_slice.ensures.value ∙ c.in_ok-edges.ensures) c.in_ok-table.ensures in
    record {
      instances = sums_of parts n c.args.top c.in_ok-table.table.items c.as_slice-2.result.now c.as_slice-3.result.now one_count c.total.result c.requires.count ones_count table c.as_slice-2.ensures.value (c.as_slice-3.ensures.value ∙ c.in_ok-ones.ensures) c.total.ensures;
      signals = sums_of parts n c.args.top c.in_ok-table.table.items c.as_slice-4.result.now c.as_slice-5.result.now signal_count c.total-2.result c.requires.count signals_count table c.as_slice-4.ensures.value (c.as_slice-5.ensures.value ∙ c.in_ok-signals.ensures) c.total-2.ensures;
      inputs = c.count_at.ensures ∙ ap (λ w. count_at w c.args.top) (c.as_slice-6.ensures.value ∙ c.in_ok-inputs.ensures);
      tokens = sums_of parts n c.args.top c.in_ok-table.table.items c.as_slice-7.result.now c.as_slice-8.result.now token_count c.total-3.result c.requires.count tokens_count table c.as_slice-7.ensures.value (c.as_slice-8.ensures.value ∙ c.in_ok-tokens.ensures) c.total-3.ensures;
    }
