use Rattle.vod_thin_window.proofs.StepsLaws.{completes_from, awaits_first}
use Rattle.vod_thin_window.proofs.run.started.Goals as goal

pub returns-clause-awaits : goal.returns-clause-awaits
returns-clause-awaits c =
    let core = c.in_ok-queue.ensures.core in
    let first = completes_from c.args.design.now _ _ c.settle.new.queue.state core.0 core.1 c.settle.ensures.completes in
    let accepted = c.in_ok-queue.ensures.accepted in
    let end = c.orders_agree.ensures.first_settled c.args.design.now c.settle.new.queue.state accepted first in
    λ vectors lawful. awaits_first c.args.design.now c.settle.new.queue.state vectors (record { accepted = accepted; shaped = end.0; settled = end.1; rests = first.ends })
    (c.inputs_take_moves.ensures.first c.args.design.now c.settle.new.queue.state) lawful

pub returns-clause-only : goal.returns-clause-only
returns-clause-only c =
    let core = c.in_ok-queue.ensures.core in
    let first = completes_from c.args.design.now _ _ c.settle.new.queue.state core.0 core.1 c.settle.ensures.completes in
    λ t h. c.orders_agree.ensures.first_end c.args.design.now t c.settle.new.queue.state c.in_ok-queue.ensures.accepted h first
