use Rattle.std.proofs.Common.{◌≡◌, flat_map, take}
use Rattle.vod_modules.specs.Names.{number_in, head_in, module_in}
use Rattle.vod_modules.proofs.names.heads_of.Given as goal

abbrev pub invariant-loop-part : goal.invariant-loop-part
invariant-loop-part l = l.heads.items ≡ flat_map (λ x. head_in (number_in l.fn.names.numbers.entries) (module_in x)) (take l.part-index l.parts)
