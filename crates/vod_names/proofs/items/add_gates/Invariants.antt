use Rattle.std.proofs.Common.{◌≡◌, ◌++◌, drop, flat_map}
use Rattle.vod_names.specs.Lists.{gate_declarations}
use Rattle.vod_names.proofs.items.add_gates.Given as goal

abbrev pub invariant-loop-gate : goal.invariant-loop-gate
invariant-loop-gate l = l.names ++ flat_map gate_declarations (drop l.gate-index l.gates) ≡ l.fn.names ++ flat_map gate_declarations l.gates
