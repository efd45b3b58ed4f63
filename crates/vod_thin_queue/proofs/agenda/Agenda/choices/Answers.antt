use Rattle.std.proofs.Common.{◌+◌}
use Rattle.vod_thin_queue.proofs.Choices.{counts_choices, active_is, total_is}
use Rattle.vod_thin_queue.specs.contracts.agenda.Agenda.{the_view}
use Rattle.vod_thin_queue.proofs.agenda.Agenda.choices.Goals as goal

pub returns-clause-count : goal.returns-clause-count
returns-clause-count c =
    (counts_choices c.args.self.now _ c.self.view_is _ _ c.count-7.result
    (active_is (the_view c.self.inside) _ _ _ _ _ _ c.count.ensures.count c.count-2.ensures.count c.count-3.ensures.count c.count-4.ensures.count c.count-5.ensures.count c.count-6.ensures.count)
    c.count-7.ensures.count (total_is _ _ _ c.activations.ensures)).0

pub returns-clause-none : goal.returns-clause-none
returns-clause-none c =
    (counts_choices c.args.self.now _ c.self.view_is _ _ c.count-7.result
    (active_is (the_view c.self.inside) _ _ _ _ _ _ c.count.ensures.count c.count-2.ensures.count c.count-3.ensures.count c.count-4.ensures.count c.count-5.ensures.count c.count-6.ensures.count)
    c.count-7.ensures.count (total_is _ _ _ c.activations.ensures)).1
