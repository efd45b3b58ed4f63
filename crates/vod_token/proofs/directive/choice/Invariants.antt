use Rattle.std.proofs.Common.{◌≡◌, drop}
use Rattle.std.specs.Prelude.{map}
use Rattle.vod_token.specs.Scan.{choice}
use Rattle.vod_token.proofs.directive.choice.Given as goal

-- what the entries that are left give is what the table gives
abbrev pub invariant-loop-word : goal.invariant-loop-word
invariant-loop-word l = choice (map (λ entry. (entry.0.now, entry.1)) (drop l.word-index l.table)) l.bytes ≡ choice (map (λ entry. (entry.0.now, entry.1)) l.table) l.bytes
