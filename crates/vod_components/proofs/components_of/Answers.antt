use Rattle.std.proofs.Common.{◌<◌, All, sym, subst, refl, ap, ◌∙◌}
use Rattle.vod_fanout.specs.FanOut.{fan_out}
use Rattle.vod_components.specs.Checks.{turned_edges}
use Rattle.vod_components.proofs.Edges.{turned_source, turned_reader, table_inside, all_reverse}
use Rattle.vod_components.proofs.Numbered.{numbered}
use Rattle.vod_components.proofs.components_of.Goals as goal

pub new-requires-2-clause-inside : goal.new-requires-2-clause-inside
new-requires-2-clause-inside c = subst (λ fs. All (λ f. f.source < c.args.count) fs) (sym (c.as_slice.ensures.value ∙ c.in_ok-turned.ensures)) (turned_source c.args.edges.now c.args.count c.requires.readers)

pub search_all-requires-clause-inside : goal.search_all-requires-clause-inside
search_all-requires-clause-inside c =
    table_inside (turned_edges c.args.edges.now) c.args.count c.args.count c.in_ok-back.back (c.in_ok-back.ensures.made ∙ ap (fan_out c.args.count) (c.as_slice.ensures.value ∙ c.in_ok-turned.ensures)) refl (turned_reader c.args.edges.now c.args.count c.requires.sources)

pub search_all-requires-2-clause-inside : goal.search_all-requires-2-clause-inside
search_all-requires-2-clause-inside c = table_inside c.args.edges.now c.args.count c.args.count c.in_ok-forth.forth c.in_ok-forth.ensures.made refl c.requires.readers

pub search_all-requires-2-clause-starts : goal.search_all-requires-2-clause-starts
search_all-requires-2-clause-starts c =
    subst (λ ps. All (λ p. p < c.args.count) ps) (sym (c.as_slice-4.ensures.value ∙ c.in_ok-starts-2.ensures))
    (all_reverse c.args.count c.as_slice-3.result.now (subst (λ ps. All (λ p. p < c.args.count) ps) (sym c.as_slice-3.ensures.value) c.in_ok-first.ensures.left))

pub passes-requires-clause-inside_forth : goal.passes-requires-clause-inside_forth
passes-requires-clause-inside_forth c = table_inside c.args.edges.now c.args.count _ c.in_ok-forth.forth c.in_ok-forth.ensures.made c.in_ok-forth.ensures.size c.requires.readers

pub passes-requires-clause-inside_back : goal.passes-requires-clause-inside_back
passes-requires-clause-inside_back c =
    table_inside (turned_edges c.args.edges.now) c.args.count _ c.in_ok-back.back (c.in_ok-back.ensures.made ∙ ap (fan_out c.args.count) (c.as_slice.ensures.value ∙ c.in_ok-turned.ensures)) c.in_ok-back.ensures.size (turned_reader c.args.edges.now c.args.count c.requires.sources)

pub returns : goal.returns
returns c =
    numbered c.args.edges.now c.args.count c.in_ok-forth.forth c.in_ok-back.back c.in_ok-first.first c.in_ok-second.second c.in_ok-forth.ensures.made
    (c.in_ok-back.ensures.made ∙ ap (fan_out c.args.count) (c.as_slice.ensures.value ∙ c.in_ok-turned.ensures)) c.requires.sources c.requires.readers c.in_ok-second.ensures.trees (c.if-not-passes.ensures refl)
