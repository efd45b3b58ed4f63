use Rattle.std.proofs.Common.{◌≡◌, map, length}
use Rattle.std.specs.Prelude.{All}
use Rattle.vod_thin_syntax.specs.Lies.{PortLies}
use Rattle.vod_thin_syntax.specs.Reader.{more_ports}
use Rattle.vod_thin_syntax.specs.State.{left}
use Rattle.vod_thin_syntax.specs.View.{port_of}
use Rattle.vod_thin_syntax.proofs.parts.more_ports.Given as goal

-- the ports so far and those of the tokens left are those that are read
abbrev pub invariant-loop-reader : goal.invariant-loop-reader
invariant-loop-reader l = record {
  reads : more_ports (map (port_of l.reader.source.now) l.ports.items) (left l.reader l.at) ≡ more_ports (map (port_of l.reader.source.now) l.fn.ports.items) (left l.reader l.fn.at);
  lie : All (PortLies l.reader.source.now) l.ports.items;
}

abbrev pub decreases-loop-reader : goal.decreases-loop-reader
decreases-loop-reader l = length (left l.reader l.at)
