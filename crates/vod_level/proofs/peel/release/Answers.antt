use Rattle.std.proofs.Common.{◌≡◌, ◌+◌, ◌-◌, ◌<◌, ◌≤◌, length, take, get_or, ap, ◌∙◌, arith}
use Rattle.vod_level.proofs.Steps.{is_left, left_step, ready_step, added_front, ready_same}
use Rattle.vod_level.proofs.peel.release.Goals as goal

pub overflow_sub-fewer : goal.overflow_sub-fewer
overflow_sub-fewer c = is_left c.args.readers.now c.args.left.now c.loop-reader.left c.loop-reader.reader-index 0 c.loop-reader-test.true c.requires.fed c.loop-reader.invariant.moved

pub loop-reader-preserved : goal.loop-reader-preserved
loop-reader-preserved c =
    let readers = c.args.readers.now in
    let i = c.loop-reader.reader-index in
    let left = c.loop-reader.left in
    let x = get_or readers i 0 in
    let v = get_or left x 0 - 1 in
    let some : 1 ≤ get_or left x 0 = is_left readers c.args.left.now left i 0 c.loop-reader-test.true c.requires.fed c.loop-reader.invariant.moved in
    let is : get_or left x 0 - 1 + 1 ≡ get_or left x 0 = omega arith in
    let size : length left ≡ length c.args.left.now = c.loop-reader.auto.left in
    let within : x < length c.args.left.now = c.requires.inside i 0 c.loop-reader-test.true in
    let inside : x < length left = omega arith in record {
      moved = left_step readers c.args.left.now left i 0 v c.loop-reader-test.true inside is c.loop-reader.invariant.moved;
      is_ready = ready_same _ _ _ c.in_ok-add_if_none.ensures (ready_step left c.loop-reader.ready.items x v inside is c.loop-reader.invariant.is_ready);
      front = ap (λ r. take (length c.args.ready.now.items) r) c.in_ok-add_if_none.ensures ∙ added_front x v c.loop-reader.ready.items c.args.ready.now.items c.loop-reader.invariant.front;
    }
