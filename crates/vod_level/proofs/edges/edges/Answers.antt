use Rattle.std.proofs.Common.{◌∙◌, ℕ, ◌*◌, ◌<◌, List, All, ap, sym, subst}
use Rattle.vod_bits.specs.declared.TheConstants.{WIDTH}
use Rattle.vod_fanout.specs.declared.Feed.{Feed}
use Rattle.vod_fanout.specs.FanOut.{fan_out}
use Rattle.vod_level.specs.declared.TheConstants.{SIGNALS}
use Rattle.vod_level.specs.Bits.{written_from}
use Rattle.vod_level.proofs.Feeding.{written_inside, feeds_are}
use Rattle.vod_level.proofs.edges.edges.Goals as goal

pub new-requires-clause-inside : goal.new-requires-clause-inside
new-requires-clause-inside c =
    let P : List Feed → Type 0 = All (λ f. f.source < SIGNALS * c.from.result) in
    let Q : ℕ → Type 0 = λ w. All (λ f. f.source < SIGNALS * w) (written_from 0 c.args.drivers.now) in
    subst P (sym (c.as_slice.ensures.value ∙ c.in_ok-written.ensures.written)) (subst Q (sym c.from.ensures) (written_inside 0 c.args.drivers.now c.requires.inside))

pub returns-clause-feeds : goal.returns-clause-feeds
returns-clause-feeds c = λ p q.
    let made = c.in_ok-writers.ensures.made ∙ ap (λ w. fan_out (SIGNALS * w) c.as_slice.result.now) c.from.ensures ∙ ap (fan_out (SIGNALS * WIDTH)) (c.as_slice.ensures.value ∙ c.in_ok-written.ensures.written) in
    feeds_are c.args.drivers.now c.in_ok-writers.writers c.in_ok-list.list.items p q c.requires.inside made (c.in_ok-list.ensures p q)
