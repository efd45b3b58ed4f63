use Rattle.vod_design.proofs.Images.{drop_more, below_more}
use Rattle.vod_design.proofs.image.Rest.past_all.Goals as goal

pub loop-preserved : goal.loop-preserved
loop-preserved c =
    let ns = c.args.self.numbers.now in
    let k = c.loop.counter in
    let w = c.args.width in (
      below_more c.args.self.fit ns k w c.loop.rest.fit c.loop.rest.numbers.now c.past-rest.result.fit c.loop.invariant.0 c.loop.invariant.1 c.past-rest.ensures.fit,
      drop_more k ns c.loop.rest.numbers.now c.past-rest.result.numbers.now c.loop.invariant.1 c.past-rest.ensures.rest,
    )
