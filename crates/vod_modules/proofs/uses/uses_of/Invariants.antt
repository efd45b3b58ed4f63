use Rattle.std.proofs.Common.{◌≡◌, flat_map, take}
use Rattle.vod_modules.specs.Names.{number_in, module_in}
use Rattle.vod_modules.specs.Uses.{module_uses}
use Rattle.vod_modules.proofs.uses.uses_of.Given as goal

abbrev pub invariant-loop-part : goal.invariant-loop-part
invariant-loop-part l = l.uses.items ≡ flat_map (λ x. module_uses (number_in l.fn.names.numbers.entries) (module_in x)) (take l.part-index l.parts)
