use Rattle.std.proofs.Common.{◌<◌, length, ℕ, List, ap, sym, subst, arith}
use Rattle.vod_design.specs.Netlist.{EachOnce}
use Rattle.vod_design.proofs.design.Design.ranks.Goals as goal

pub places_of-requires-clause-each : goal.places_of-requires-clause-each
places_of-requires-clause-each c =
    let order = c.self.invariant.order in
    let ranked = c.self.inside.ranked in
    let each : EachOnce (λ n. n < length ranked) ranked = subst (λ m. EachOnce (λ n. n < m) ranked) (sym order.size) order.each in
    subst (λ (ns : List ℕ). EachOnce (λ n. n < length ns) ns) (sym c.as_slice.ensures) each

pub places_of-requires-clause-few : goal.places_of-requires-clause-few
places_of-requires-clause-few c =
    let order = c.self.invariant.order in
    let same = ap length c.as_slice.ensures in
    let few = c.self.invariant.flat.few_drivers in
    let size = order.size in
    omega (arith, same, few, size)
