use Rattle.std.proofs.Common.{◌≡◌, drop}
use Rattle.vod_thin_syntax.specs.Limit.{sooner}
use Rattle.vod_thin_syntax.specs.View.{marks_of}
use Rattle.vod_thin.specs.Rules.{least}
use Rattle.vod_thin.specs.Tables.{tables_of, read_places}
use Rattle.vod_thin.proofs.judge.Judge.read_fault.Given as goal

-- what was found, and what the tokens that are left add
abbrev pub invariant-loop-token : goal.invariant-loop-token
invariant-loop-token l = sooner l.first (least (read_places (tables_of l.self) (marks_of l.text.source.now (drop l.token-index l.tokens)))) ≡ least (read_places (tables_of l.self) (marks_of l.text.source.now l.tokens))
