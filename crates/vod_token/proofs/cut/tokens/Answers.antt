use Rattle.std.proofs.Common.{Vec, Global}
use Rattle.vod_token.proofs.Readings.{spans_of, each_of, accepts_of, refuses_of, nested_of}
use Rattle.vod_token.specs.declared.Token.{Token}
use Rattle.vod_token.proofs.cut.tokens.Goals as goal

pub returns-clause-spans : goal.returns-clause-spans
returns-clause-spans c = spans_of (λ (v : Vec Token Global). v.items) c.args.source.now c.read_tokens.result c.read_tokens.ensures.ok

pub returns-clause-each : goal.returns-clause-each
returns-clause-each c = each_of (λ (v : Vec Token Global). v.items) c.args.source.now c.read_tokens.result c.read_tokens.ensures.ok

pub returns-clause-accepts : goal.returns-clause-accepts
returns-clause-accepts c = accepts_of (λ (v : Vec Token Global). v.items) c.args.source.now c.read_tokens.result c.read_tokens.ensures.ok c.read_tokens.ensures.err

pub returns-clause-refuses : goal.returns-clause-refuses
returns-clause-refuses c = refuses_of (λ (v : Vec Token Global). v.items) c.args.source.now c.read_tokens.result c.read_tokens.ensures.ok c.read_tokens.ensures.err

pub returns-clause-nested : goal.returns-clause-nested
returns-clause-nested c = nested_of (λ (v : Vec Token Global). v.items) c.args.source.now c.read_tokens.result c.read_tokens.ensures.ok c.read_tokens.ensures.err
