-- The table has the names of the inputs so far.
use Rattle.std.proofs.Common.{◌≡◌, List, ℕ, map, take}
use Rattle.std.specs.Borrow.{Bor}
use Rattle.vod_thin_design.specs.Names.{input_names}
use Rattle.vod_thin_script.proofs.inputs.Inputs.of.Given as goal

abbrev pub invariant-loop-input : goal.invariant-loop-input
invariant-loop-input l = map (λ (name : Bor (List ℕ)). name.now) l.names.keys ≡ take l.input-index (input_names l.design)
