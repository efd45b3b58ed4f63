use Rattle.std.proofs.Common.{◌++◌, ap, ◌∙◌}
use Rattle.vod_thin_code.specs.Bytes.{vector_bytes}
use Rattle.vod_thin_code.proofs.Batches.{batch_more}
use Rattle.vod_thin_code.proofs.frame.push_vectors.Goals as goal

pub loop-vector-preserved : goal.loop-vector-preserved
loop-vector-preserved c =
    c.in_ok-push_vector.ensures ∙ ap (λ xs. xs ++ vector_bytes c.vector-item.result) c.loop-vector.invariant
    ∙ batch_more c.args.bytes.now.items c.args.vectors.now c.loop-vector.vector-index c.vector-item.result c.loop-vector-test.true c.vector-item.is
