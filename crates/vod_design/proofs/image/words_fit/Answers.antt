use Rattle.std.proofs.Common.{◌+◌, ◌&&◌, List, drop, sym, ◌∙◌, ap, arith}
use Rattle.vod_design.specs.Image.{word_widths, are_below}
use Rattle.vod_design.proofs.Images.{drop_item, words_more}
use Rattle.vod_design.specs.declared.parts.Ram.{Ram}
use Rattle.vod_design.proofs.image.words_fit.Goals as goal

pub loop-memory-preserved : goal.loop-memory-preserved
loop-memory-preserved c =
    let i = c.loop-memory.memory-index in
    let ms = c.args.memories.now in
    let m = c.memory-item.result in
    words_more c.loop-memory.rest.fit c.loop-memory.rest.numbers.now m (drop (i + 1) ms) c.past_all-rest.result.fit c.past_all-rest.result.numbers.now c.past_all-rest.ensures.fit c.past_all-rest.ensures.rest
    ∙ sym (ap (λ (more : List Ram). c.loop-memory.rest.fit && are_below c.loop-memory.rest.numbers.now (word_widths more)) (drop_item ms i m c.memory-item.is (omega arith)))
    ∙ c.loop-memory.invariant
