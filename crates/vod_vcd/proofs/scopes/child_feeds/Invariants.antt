-- The feeds so far, continued by those of the instances that are left, are the whole.
use Rattle.std.proofs.Common.{◌≡◌, ◌++◌, drop}
use Rattle.std.specs.List.{enumerate_from}
use Rattle.vod_vcd.specs.Scopes.{child_feeds}
use Rattle.vod_vcd.proofs.scopes.child_feeds.Given as goal

abbrev pub invariant-loop-number : goal.invariant-loop-number
invariant-loop-number l =
    l.feeds.items ++ child_feeds (enumerate_from l.number (drop l.number l.scopes)) ≡ child_feeds (enumerate_from 0 l.scopes)
