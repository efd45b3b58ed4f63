use Rattle.std.proofs.Common.{◌≡◌, ◌&&◌, drop}
use Rattle.vod_design.specs.Image.{start_below}
use Rattle.vod_design.proofs.image.Rest.past_all.Given as goal

abbrev pub invariant-loop : goal.invariant-loop
invariant-loop l = (l.rest.fit ≡ (l.fn.self.fit && start_below l.fn.self.numbers.now l.counter l.width)) × (l.rest.numbers.now ≡ drop l.counter l.fn.self.numbers.now)
