use Rattle.std.proofs.Common.{◌≡◌, ℕ, List, ◌≤◌, length, take}
use Rattle.vod_modules.specs.Names.{number_in, number_of, names_in}
use Rattle.vod_modules.proofs.names.Names.new.Given as goal

abbrev pub invariant-loop-part : goal.invariant-loop-part
invariant-loop-part l = (l.count ≤ l.part-index) × (l.count ≡ length (names_in (take l.part-index l.parts))) × ((x : List ℕ) → number_in l.names.numbers.entries x ≡ number_of (take l.part-index l.parts) x)
