use Rattle.std.proofs.Common.{refl}
use Rattle.vod_cells.proofs.Bringing.{old_held, goes_on, differs, all_same}
use Rattle.vod_cells.proofs.brought.has_value.Goals as goal

pub returns-then-differ : goal.returns-then-differ
returns-then-differ c =
    differs c.args.signals.now c.args.places.now c.args.value c.loop-i.i _ _ c.bit_in-old.result c.bit_or_zero-new.result c.differ.result _ c.loop-i-test.true refl
    (old_held c.args.signals.now c.args.places.now c.loop-i.i _ _ c.index-signals-place.result c.bit_in-old.result c.from.result c.requires c.loop-i-test.true refl c.index-signals-place.is c.from.ensures c.bit_in-old.ensures)
    c.bit_or_zero-new.ensures c.differ.ensures c.if-differ.true c.loop-i.invariant

pub loop-i-preserved : goal.loop-i-preserved
loop-i-preserved c =
    goes_on c.args.signals.now c.args.places.now c.args.value c.loop-i.i _ _ c.bit_in-old.result c.bit_or_zero-new.result c.differ.result _ c.loop-i-test.true refl
    (old_held c.args.signals.now c.args.places.now c.loop-i.i _ _ c.index-signals-place.result c.bit_in-old.result c.from.result c.requires c.loop-i-test.true refl c.index-signals-place.is c.from.ensures c.bit_in-old.ensures)
    c.bit_or_zero-new.ensures c.differ.ensures c.if-differ.false c.loop-i.invariant

pub returns : goal.returns
returns c = all_same c.args.signals.now c.args.places.now c.args.value c.loop-i.i _ c.loop-i-test.false c.loop-i.invariant
