use Rattle.std.proofs.Common.{◌≡◌, ◌&&◌, nat_le, drop}
use Rattle.vod_design.specs.Image.{are_edges}
use Rattle.std.specs.List.{list_all}
use Rattle.vod_design.proofs.image.edges_fit.Given as goal

abbrev pub invariant-loop-edge : goal.invariant-loop-edge
invariant-loop-edge l = (l.fit && list_all (λ e. nat_le e 2) (drop l.edge-index l.edges)) ≡ are_edges l.fn.edges l.fn.count
