use Rattle.vod_components.specs.Search.{IsSearch}
use Rattle.vod_components.proofs.search.search_all.Given as goal

abbrev pub invariant-loop-start : goal.invariant-loop-start
invariant-loop-start l = IsSearch l.count l.search
