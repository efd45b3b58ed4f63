use Rattle.std.proofs.Common.{◌≡◌, ◌+◌, drop}
use Rattle.std.specs.Option.{option_map}
use Rattle.vod_token.specs.Scan.{close_end}
use Rattle.vod_token.proofs.layout.close_end.Given as goal

-- what is found from here on is what is found from the start
abbrev pub invariant-loop-i : goal.invariant-loop-i
invariant-loop-i l = close_end l.body ≡ option_map (λ n. l.i + n) (close_end (drop l.i l.body))
