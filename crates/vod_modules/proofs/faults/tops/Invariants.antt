use Rattle.std.proofs.Common.{◌≡◌, take, flat_map, if◌then◌else◌, [], ◌∷◌}
use Rattle.vod_modules.specs.Faults.{is_marked}
use Rattle.vod_modules.proofs.faults.tops.Given as goal

abbrev pub invariant-loop-head : goal.invariant-loop-head
invariant-loop-head l = l.tops.items ≡ flat_map (λ h. if is_marked l.used.items h.number then [] else h ∷ []) (take l.head-index l.heads)
