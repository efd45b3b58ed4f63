use Rattle.std.proofs.Common.{sym, ◌∙◌}
use Rattle.vod_width.specs.Sizes.{look}
use Rattle.vod_constants.specs.Constants.{memory_faults}
use Rattle.vod_constants.proofs.Facts.{refused, memory_first}
use Rattle.vod_constants.proofs.bounds.memory_words.Goals as goal

pub returns-in-Some : goal.returns-in-Some
returns-in-Some c =
    let d = c.args.decls.now in
    let r = c.args.range.now in
    refused c.in-Some.fault (memory_faults d r) c.refusal.result c.refusal.ensures (memory_first c.in_ok-a.a c.in_ok-b.b (look d r.first) (look d r.second) c.in_ok-a.ensures c.in_ok-b.ensures ∙ sym c.join.ensures ∙ c.in-Some.is)
