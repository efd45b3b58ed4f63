use Rattle.std.proofs.Common.{◌≡◌, length}
use Rattle.vod_components.specs.Search.{IsSearch}
use Rattle.vod_components.proofs.search.Search.grow.Given as goal

abbrev pub invariant-loop : goal.invariant-loop
invariant-loop l = (length l.self.found.items ≡ length l.fn.self.found.items) × IsSearch (length l.self.found.items) l.self
