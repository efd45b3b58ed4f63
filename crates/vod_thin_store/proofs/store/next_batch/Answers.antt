use Rattle.std.proofs.Common.{◌≡◌, ◌∙◌, ap, arith, take, drop, length}
use Rattle.std.specs.Prelude.{min}
use Rattle.std.proofs.lemmas.List.{take_min}
use Rattle.vod_thin_store.proofs.store.next_batch.Goals as goal

pub returns : goal.returns
returns c =
    let rest = drop c.args.held c.args.vectors.now in
    let same : min (length rest) 64 ≡ min 64 (length rest) = omega arith in
    rw (c.split_at-2.ensures.front, c.min.ensures, c.split_at.ensures.back) (ap (λ n. take n rest) same ∙ take_min 64 rest)
