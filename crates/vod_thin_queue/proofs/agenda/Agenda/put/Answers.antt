use Rattle.vod_thin_queue.specs.Step.{reads_signal, waits_for}
use Rattle.std.proofs.Common.{length, ap, ◌∙◌}
use Rattle.vod_thin_queue.proofs.Puts.{listed_in, put-done}
use Rattle.vod_thin_queue.proofs.agenda.Agenda.put.Goals as goal

pub set_where-requires : goal.set_where-requires
set_where-requires c =
    listed_in reads_signal c.args.design.now.drivers (length c.args.design.now.signals) c.args.listeners.now.readers c.args.signal c.get.result.now c.self.inside.wake c.requires.listed.readers c.requires.within c.get.ensures
    (ap (λ s. length s.wake) c.self.view_is ∙ c.requires.shaped.wake)

pub set_where-requires-2 : goal.set_where-requires-2
set_where-requires-2 c =
    listed_in waits_for c.args.design.now.blocks (length c.args.design.now.signals) c.args.listeners.now.waiters c.args.signal c.get-2.result.now c.self.inside.todo c.requires.listed.waiters c.requires.within c.get-2.ensures
    (ap (λ s. length s.todo) c.self.view_is ∙ c.requires.shaped.todo)

pub returns : goal.returns
returns c =
    put-done c.args.design.now c.args.signal c.args.bit c.index-old.result.now c.args.self.now _ c.args.listeners.now c.get.result.now c.get-2.result.now c.set_where.new.flags c.set_where-2.new.flags c.changed.result c.rises.result
    c.self.view_is c.requires.shaped c.requires.listed c.requires.within c.index-old.ensures c.changed.ensures c.rises.ensures c.get.ensures c.get-2.ensures c.set_where.ensures.set c.set_where-2.ensures.set
