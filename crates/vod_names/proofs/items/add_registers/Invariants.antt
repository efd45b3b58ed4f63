use Rattle.std.proofs.Common.{◌≡◌, ◌++◌, drop, map}
use Rattle.vod_names.specs.Lists.{register_declaration}
use Rattle.vod_names.proofs.items.add_registers.Given as goal

abbrev pub invariant-loop-register : goal.invariant-loop-register
invariant-loop-register l = l.names ++ map (register_declaration l.it.signed l.it.range) (drop l.register-index l.registers) ≡ l.fn.names ++ map (register_declaration l.it.signed l.it.range) l.registers
