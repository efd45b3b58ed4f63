use Rattle.std.proofs.Common.{◌<◌, ◌≤◌, ◌^◌, length, take, arith, sym, ◌∙◌, subst, length-take}
use Rattle.vod_thin_code.specs.Held.{Acknowledges, said}
use Rattle.vod_thin_store.proofs.Lines.{AreLines, all-lines}
use Rattle.vod_thin_store.proofs.Acknowledged.{acknowledged}
use Rattle.vod_thin_store.proofs.law.said_is_held.Goals as goal

pub returns : goal.returns
returns c = λ d source vs e o k holds nothing n acks.
    let all : AreLines (length (take k vs)) (said (take k vs)) = all-lines (take k vs) in
    let small : length (take k vs) < 2 ^ 64 = omega (arith, holds.sound.no_image) in
    let most : n ≤ length (take k vs) = acknowledged all.counts (length (take k vs)) small all.at_most e.said holds.front holds.begins.0 (sym all.is ∙ holds.begins.1) nothing n (subst (λ xs. Acknowledges xs n) holds.text acks) in
    omega (arith, most, length-take k vs)
