use Rattle.std.proofs.Common.{◌∙◌}
use Rattle.vod_token.proofs.ReservedWords.{found}
use Rattle.vod_token.proofs.reserved.is_listed.Goals as goal

pub returns : goal.returns
returns c = c.is_ok.ensures.value ∙ found c.args.word.now c.args.table.now c.search.result c.requires c.search.ensures.range c.search.ensures.answer
