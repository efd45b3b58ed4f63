use Rattle.std.proofs.Common.{[]}
use Rattle.std.proofs.lemmas.List.Elements.{All-head}
use Rattle.vod_thin_design.specs.Vectors.{IsVector}
use Rattle.vod_thin_window.proofs.StepsLaws.{Goes, slot_from, unmixed_first, goes_on}
use Rattle.vod_thin_window.proofs.run.run_slot.Goals as goal

pub open_slot-requires-clause-rests : goal.open_slot-requires-clause-rests
open_slot-requires-clause-rests c = c.requires.ready.rests

pub open_slot-requires-clause-once : goal.open_slot-requires-clause-once
open_slot-requires-clause-once c = rw c.as_slice.ensures (All-head (IsVector c.args.queue.now.design) c.args.vector.now [] c.requires.forms).once

pub open_slot-requires-clause-within : goal.open_slot-requires-clause-within
open_slot-requires-clause-within c = rw c.as_slice.ensures (All-head (IsVector c.args.queue.now.design) c.args.vector.now [] c.requires.forms).inputs

pub returns-clause-awaits : goal.returns-clause-awaits
returns-clause-awaits c =
    let ready = c.requires.ready in
    let goes : Goes = record { settled = c.orders_agree.ensures.settled; next = c.inputs_take_moves.ensures.next; unmixed = c.inputs_take_moves.ensures.unmixed } in
    let slot = slot_from c.args.queue.now.design _ c.args.queue.now.state _ c.settle.new.queue.state c.args.vector.now.moves _ c.open_slot.ensures.design c.as_slice.ensures c.open_slot.ensures.state ready.rests c.settle.ensures.completes in
    λ rest awaits. goes_on goes c.args.queue.now.design c.args.queue.now.state c.settle.new.queue.state c.args.vector.now rest awaits slot

pub returns-clause-only : goal.returns-clause-only
returns-clause-only c =
    let ready = c.requires.ready in
    let goes : Goes = record { settled = c.orders_agree.ensures.settled; next = c.inputs_take_moves.ensures.next; unmixed = c.inputs_take_moves.ensures.unmixed } in
    let slot = slot_from c.args.queue.now.design _ c.args.queue.now.state _ c.settle.new.queue.state c.args.vector.now.moves _ c.open_slot.ensures.design c.as_slice.ensures c.open_slot.ensures.state ready.rests c.settle.ensures.completes in
    let unmixed = unmixed_first goes c.args.queue.now.design c.args.queue.now.state c.args.vector.now [] c.requires in
    λ t h. c.orders_agree.ensures.one_end c.args.queue.now.design c.args.queue.now.state t c.settle.new.queue.state c.args.vector.now.moves ready.accepted ready.shaped ready.settled unmixed h slot
