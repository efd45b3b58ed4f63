use Rattle.std.proofs.Common.{◌≡◌, take, map}
use Rattle.vod_connections.specs.Interfaces.{all_modules, interface_of, module_name}
use Rattle.vod_connections.proofs.interface.interfaces_of.Given as goal

abbrev pub invariant-loop-part : goal.invariant-loop-part
invariant-loop-part l = (l.interfaces.names ≡ map module_name (all_modules (take l.part-index l.parts))) × (l.interfaces.list.items ≡ map interface_of (all_modules (take l.part-index l.parts)))
