use Rattle.vod_four.proofs.Known.{both-known, sum-known, difference-known, product-known, less-known, less_signed-known, equal-self, equal-other}
use Rattle.vod_four.proofs.law.agree_on_pairs.Goals as goal

pub returns-clause-sum : goal.returns-clause-sum
returns-clause-sum c = sum-known c.args.a c.args.b (both-known c.args.a c.args.b c.of-a.ensures.known c.of-b.ensures.known)

pub returns-clause-difference : goal.returns-clause-difference
returns-clause-difference c = difference-known c.args.a c.args.b (both-known c.args.a c.args.b c.of-a.ensures.known c.of-b.ensures.known)

pub returns-clause-product : goal.returns-clause-product
returns-clause-product c = product-known c.args.a c.args.b (both-known c.args.a c.args.b c.of-a.ensures.known c.of-b.ensures.known)

pub returns-clause-less : goal.returns-clause-less
returns-clause-less c = less-known c.args.a c.args.b (both-known c.args.a c.args.b c.of-a.ensures.known c.of-b.ensures.known)

pub returns-clause-less_signed : goal.returns-clause-less_signed
returns-clause-less_signed c = less_signed-known c.args.a c.args.b (both-known c.args.a c.args.b c.of-a.ensures.known c.of-b.ensures.known)

pub returns-clause-equal : goal.returns-clause-equal
returns-clause-equal c = λ e. rw (← e) (equal-self c.args.a c.of-a.ensures.known)

pub returns-clause-different : goal.returns-clause-different
returns-clause-different c = λ n. equal-other c.args.a c.args.b c.of-a.ensures.known c.of-b.ensures.known c.requires n
