use Rattle.std.proofs.Common.{arith}
use Rattle.vod_design.proofs.Images.{word_step, word_total}
use Rattle.vod_design.proofs.image.word_count.Goals as goal

pub overflow_add-count : goal.overflow_add-count
overflow_add-count c =
    let i = c.loop-memory.memory-index in
    let ms = c.args.memories.now in
    let m = c.memory-item.result in
    let step = word_step ms i m c.memory-item.is (omega arith) in
    omega (arith, step, c.loop-memory.invariant, word_total ms, c.requires)
