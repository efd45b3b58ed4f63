use Rattle.std.proofs.Common.{◌≡◌, ◌<◌, ◌++◌, ap, sym, ◌∙◌, ⊎_elim, length}
use Rattle.std.proofs.lemmas.Result.{on_ok_weaker}
use Rattle.vod_thin_design.specs.declared.thin.Bit.TheVariants.{X}
use Rattle.vod_thin_design.specs.Expr.{reads}
use Rattle.vod_thin_queue.proofs.Index.{added_one, added_both}
use Rattle.vod_thin_queue.proofs.fanout.+add_reads.Goals as goal

pub returns-in-Signal-clause-added : goal.returns-in-Signal-clause-added
returns-in-Signal-clause-added t c =
    on_ok_weaker c.push.result
    (added_one (reads c.args.value.now) c.in-Signal.signal c.args.place c.args.fanout.now c.push.new.self (ap reads c.in-Signal.is ∙ (c.expr_by_operands.ensures.signal (λ n. X) c.in-Signal.signal).1))
    c.push.ensures.pushed

pub returns-in-Not-clause-added : goal.returns-in-Not-clause-added
returns-in-Not-clause-added t c =
    rw (ap reads c.in-Not.is ∙ (c.expr_by_operands.ensures.inverted (λ n. X) c.in-Not.a).1 ∙ ap reads (sym c.get.ensures)) c.add_reads.ensures.added

pub returns-in_ok-add_reads-in-And-clause-added : goal.returns-in_ok-add_reads-in-And-clause-added
returns-in_ok-add_reads-in-And-clause-added t c =
    on_ok_weaker c.add_reads-in-And-2.result
    (added_both (reads c.args.value.now) (reads c.get-in-And.result.now) (reads c.get-in-And-2.result.now) c.args.place c.args.fanout.now c.add_reads-in-And.new.fanout c.add_reads-in-And-2.new.fanout
    (rw (c.get-in-And.ensures, c.get-in-And-2.ensures)
    (⊎_elim (λ is. ap reads is ∙ (c.expr_by_operands.ensures.and (λ n. X) c.in-And.a c.in-And.b).1)
    (λ rest. ⊎_elim (λ is. ap reads is ∙ (c.expr_by_operands.ensures.xor (λ n. X) c.in-And.a c.in-And.b).1) (λ is. ap reads is ∙ (c.expr_by_operands.ensures.or (λ n. X) c.in-And.a c.in-And.b).1) rest)
    c.in-And.is))
    c.in_ok-add_reads-in-And.ensures.same c.in_ok-add_reads-in-And.ensures.added)
    c.add_reads-in-And-2.ensures.added
