use Rattle.std.proofs.Common.{◌≡◌, map, drop}
use Rattle.vod_thin_syntax.specs.Limit.{sooner}
use Rattle.vod_thin_syntax.specs.View.{port_of}
use Rattle.vod_thin.specs.Rules.{least}
use Rattle.vod_thin.specs.Tables.{tables_of, with_ports, all_port_places}
use Rattle.vod_thin.proofs.judge.Judge.judge_ports.Given as goal

-- what was found, and what the ports that are left add
abbrev pub invariant-loop-port : goal.invariant-loop-port
invariant-loop-port l =
    (sooner l.first (least (all_port_places (tables_of l.self) (map (port_of l.text.source.now) (drop l.port-index l.ports)))) ≡ least (all_port_places (tables_of l.fn.self) (map (port_of l.text.source.now) l.ports)))
    × (with_ports (tables_of l.self) (map (port_of l.text.source.now) (drop l.port-index l.ports)) ≡ with_ports (tables_of l.fn.self) (map (port_of l.text.source.now) l.ports))
