use Rattle.std.proofs.Common.{length}
use Rattle.vod_thin_design.specs.declared.thin.Driver.{Driver}
use Rattle.vod_thin_queue.proofs.Accepted.{within_read, target_within}
use Rattle.vod_thin_queue.proofs.agenda.driver_at.Goals as goal

pub returns-clause-within : goal.returns-clause-within
returns-clause-within c =
    within_read (λ (driver : Driver). driver.target) (length c.args.design.now.signals) c.args.design.now.drivers _ c.args.place _ c.drivers.ensures.items c.requires c.index-drivers-place.is (target_within c.args.design.now c.drivers.ensures.accepted c.args.place c.requires)
