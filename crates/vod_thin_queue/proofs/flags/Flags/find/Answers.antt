use Rattle.std.proofs.Common.{◌*◌, ◌+◌, arith, rules, refl}
use Rattle.std.proofs.lemmas.List.{get_or_read}
use Rattle.vod_thin_queue.proofs.Tree.{power_more, down_start, down_left, down_right, down_found, down_within}
use Rattle.vod_thin_queue.proofs.flags.Flags.find.Goals as goal
use Rattle.vod_thin_queue.proofs.flags.Flags.find.Goals.{then-left-first, else-left-first}

pub loop-init : goal.loop-init
loop-init c = record { level = refl; down = down_start c.self.inside.flags.items _ c.self.inside.leaves c.self.inside.height c.args.nth c.self.invariant (rw c.self.view_is c.requires) }

pub overflow_mul-level : goal.overflow_mul-level
overflow_mul-level c =
    let w = (down_within _ _ _ _ c.loop.level c.loop.counter c.loop.place c.loop.left c.args.nth c.self.invariant c.loop.invariant.level c.loop-test.true c.loop.invariant.down).1 in omega arith

pub overflow_add-level : goal.overflow_add-level
overflow_add-level c =
    let w = (down_within _ _ _ _ c.loop.level c.loop.counter c.loop.place c.loop.left c.args.nth c.self.invariant c.loop.invariant.level c.loop-test.true c.loop.invariant.down).1 in omega arith

pub index-first-requires : goal.index-first-requires
index-first-requires c =
    let w = (down_within _ _ _ _ c.loop.level c.loop.counter c.loop.place c.loop.left c.args.nth c.self.invariant c.loop.invariant.level c.loop-test.true c.loop.invariant.down).0 in search (rules, w)

pub loop-preserved : goal.loop-preserved
loop-preserved c =
    let within = (down_within _ _ _ _ c.loop.level c.loop.counter c.loop.place c.loop.left c.args.nth c.self.invariant c.loop.invariant.level c.loop-test.true c.loop.invariant.down).0 in
    let read = get_or_read _ (c.loop.level * 2 + c.loop.place * 2) c.index-first.result.now within c.index-first.ensures 0 in
    elim c.if-left-first.branch [
      | then-left-first w ↦ record {
        level = power_more c.loop.level c.loop.counter c.loop.invariant.level;
        down = rw (w.place-is, w.left-is, read)
            (down_right _ _ _ _ c.loop.level c.loop.counter c.loop.place c.loop.left c.args.nth c.self.invariant c.loop.invariant.level c.loop-test.true c.loop.invariant.down (rw (← read) w.if-left-first.true));
      }
      | else-left-first w ↦ record {
        level = power_more c.loop.level c.loop.counter c.loop.invariant.level;
        down = rw (w.place-is, w.left-is)
            (down_left _ _ _ _ c.loop.level c.loop.counter c.loop.place c.loop.left c.args.nth c.self.invariant c.loop.invariant.level c.loop-test.true c.loop.invariant.down (rw (← read) w.if-left-first.false));
      }
    ]

pub returns-clause-within : goal.returns-clause-within
returns-clause-within c =
    (down_found _ c.args.self.now _ _ _ c.loop.level c.loop.counter c.loop.place c.loop.left c.args.nth c.self.view_is c.self.invariant c.loop.invariant.level c.loop-test.false c.loop.auto.counter-end c.loop.invariant.down).2

pub returns-clause-nth : goal.returns-clause-nth
returns-clause-nth c =
    (down_found _ c.args.self.now _ _ _ c.loop.level c.loop.counter c.loop.place c.loop.left c.args.nth c.self.view_is c.self.invariant c.loop.invariant.level c.loop-test.false c.loop.auto.counter-end c.loop.invariant.down).1
