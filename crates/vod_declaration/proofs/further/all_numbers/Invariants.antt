use Rattle.std.proofs.Common.{◌≡◌, ◌++◌, drop}
use Rattle.vod_declaration.specs.Further.{numbers_from, numbers_of}
use Rattle.vod_declaration.proofs.further.all_numbers.Given as goal

-- the numbers so far, and those of the parts that are left, are those of all parts
abbrev pub invariant-loop-here : goal.invariant-loop-here
invariant-loop-here g l =
    l.numbers.items ++ numbers_from g.P.Part.own l.here l.before (drop l.here l.parts) ≡ numbers_of g.P.Part.own l.parts
