-- Each parent is an instance that there is.
use Rattle.std.proofs.Common.{arith}
use Rattle.vod_vcd.proofs.Instances.{child_feeds-inside, child_feeds-length}
use Rattle.vod_vcd.proofs.scopes.children_by_scope.Goals as goal

pub new-requires-clause-inside : goal.new-requires-clause-inside
new-requires-clause-inside c =
    rw (c.as_slice.ensures.value, c.in_ok-feeds.ensures, c.scopes.ensures, c.scopes-2.ensures) (child_feeds-inside c.args.design.now.netlist c.requires)

pub new-requires-clause-few : goal.new-requires-clause-few
new-requires-clause-few c =
    rw (c.as_slice.ensures.value, c.in_ok-feeds.ensures, c.scopes.ensures) (omega (arith, child_feeds-length 0 c.args.design.now.netlist.scopes, c.requires.few_scopes))
