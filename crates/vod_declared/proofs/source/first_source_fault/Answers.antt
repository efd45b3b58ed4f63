use Rattle.std.proofs.Common.{◌∙◌, ◌+◌, ap, drop, flat_map, arith}
use Rattle.vod_places.specs.Places.{sooner, least}
use Rattle.vod_declared.specs.Faults.{source_faults}
use Rattle.vod_declared.proofs.Least.{each_step}
use Rattle.vod_declared.proofs.source.first_source_fault.Goals as goal

pub loop-item-preserved : goal.loop-item-preserved
loop-item-preserved c =
    let items = c.args.items.now in
    let i = c.loop-item.item-index in
    ap (λ o. sooner o (least (flat_map source_faults (drop (i + 1) items)))) c.sooner_of-first.ensures
    ∙ each_step source_faults items i c.item-item.result c.loop-item.first c.in_ok-source_fault.field-0 (least (flat_map source_faults items)) (omega arith) c.item-item.is c.in_ok-source_fault.ensures c.loop-item.invariant
