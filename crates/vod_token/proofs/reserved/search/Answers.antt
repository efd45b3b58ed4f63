use Rattle.std.proofs.Common.{rules, Bor, List, ℕ}
use Rattle.std.proofs.lemmas.Fn.{always_returns_same}
use Rattle.std.specs.Ordering.{nat_cmp}
use Rattle.std.specs.Cmp.Lexicographic.{slice_cmp}
use Rattle.vod_token.proofs.reserved.search.Goals as goal

pub returns-clause-answer : goal.returns-clause-answer
returns-clause-answer c = c.binary_search_by.ensures.position (λ (w : Bor (List ℕ)). slice_cmp nat_cmp w.now c.args.word.now) (always_returns_same _ _ _ (λ a r f' k. search rules))
