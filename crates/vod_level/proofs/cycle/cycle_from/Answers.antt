use Rattle.std.proofs.Common.{◌≡◌, ◌∙◌, List, ◌<◌, length, get_or, All, ap, sym, subst, arith}
use Rattle.vod_fanout.specs.declared.Feed.{Feed}
use Rattle.vod_level.specs.Steps.{IsSteps}
use Rattle.vod_level.proofs.Walking.{turned_source, turned_reader, turned_size}
use Rattle.vod_level.proofs.Circling.{no_chain}
use Rattle.vod_level.proofs.cycle.cycle_from.Goals as goal

pub steps_to-requires-clause-sources : goal.steps_to-requires-clause-sources
steps_to-requires-clause-sources c = let P : List Feed → Type 0 = All (λ f. f.source < c.args.count) in subst P (sym c.requires.turned) (turned_source c.args.feeds.now c.args.count c.requires.readers)

pub steps_to-requires-clause-readers : goal.steps_to-requires-clause-readers
steps_to-requires-clause-readers c = let P : List Feed → Type 0 = All (λ f. f.reader < c.args.count) in subst P (sym c.requires.turned) (turned_reader c.args.feeds.now c.args.count c.requires.sources)

pub steps_to-requires-clause-short : goal.steps_to-requires-clause-short
steps_to-requires-clause-short c = let e = ap length c.requires.turned ∙ turned_size c.args.feeds.now in omega (arith, c.requires.short)

pub returns-then-as_slice-driver-eq0 : goal.returns-then-as_slice-driver-eq0
returns-then-as_slice-driver-eq0 c =
    let s = c.in_ok-steps.ensures in
    let P : List Feed → Type 0 = λ l. IsSteps l c.args.count c.args.driver c.in_ok-steps.steps.items in
    let none : get_or c.in_ok-steps.steps.items c.args.driver 0 ≡ 0 = ap (λ l. get_or l c.args.driver 0) (sym c.as_slice.ensures.value) ∙ c.if-as_slice-driver-eq0.true in
    no_chain c.args.feeds.now c.args.count c.args.driver c.in_ok-steps.steps.items (subst P c.requires.turned s) none
