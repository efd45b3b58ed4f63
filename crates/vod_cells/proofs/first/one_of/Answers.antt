use Rattle.vod_cells.proofs.Opening.{one_z}
use Rattle.vod_cells.proofs.first.one_of.Goals as goal

pub returns-then-impedance : goal.returns-then-impedance
returns-then-impedance c = one_z c.args.impedance c.if-impedance.true
