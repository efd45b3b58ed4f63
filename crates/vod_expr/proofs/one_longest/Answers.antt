use Rattle.std.proofs.Common.{arith}
use Rattle.vod_expr.proofs.one_longest.Goals as goal

pub returns : goal.returns
returns c = λ ts n m a b.
    let low = a.longest m b.within b.begins in
    let high = b.longest n a.within a.begins in
    omega arith
