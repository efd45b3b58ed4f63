use Rattle.vod_token.proofs.Literals.{token_right, token_stands, limited}
use Rattle.vod_token.proofs.value.literal_of.Goals as goal

pub literal_in-requires : goal.literal_in-requires
literal_in-requires c = token_right c.args.text.now c.requires

pub returns-clause-stands : goal.returns-clause-stands
returns-clause-stands c = token_stands c.args.text.now c.literal_in.result c.requires c.literal_in.ensures

pub returns-clause-sized : goal.returns-clause-sized
returns-clause-sized c = let l = limited c.args.text.now c.literal_in.result c.requires c.literal_in.ensures in (l.some, l.most)

pub returns-clause-within : goal.returns-clause-within
returns-clause-within c = (limited c.args.text.now c.literal_in.result c.requires c.literal_in.ensures).within
