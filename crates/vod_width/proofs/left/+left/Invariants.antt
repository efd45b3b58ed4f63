use Rattle.std.proofs.Common.{map, take}
use Rattle.vod_width.specs.Lefts.{look_left}
use Rattle.vod_width.specs.SeesLeft.{SeesLefts}
use Rattle.vod_width.proofs.left.+left.Given as goal

abbrev pub invariant-look_lefts-loop-left : goal.invariant-look_lefts-loop-left
invariant-look_lefts-loop-left l = SeesLefts l.all (map (look_left l.decls) (take l.left-index l.lefts))
