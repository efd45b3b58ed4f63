use Rattle.std.proofs.Common.{◌≡◌, drop}
use Rattle.std.specs.List.{slice_get}
use Rattle.vod_thin_syntax.specs.Limit.{behind, crowded}
use Rattle.vod_thin_syntax.proofs.limit.crowded.Given as goal

-- so many more of the names behind the word come before the one that is sought
abbrev pub invariant-loop-token : goal.invariant-loop-token
invariant-loop-token l = slice_get (behind l.behind l.source l.word (drop l.token-index l.tokens)) l.more ≡ crowded l.source l.word l.tokens
