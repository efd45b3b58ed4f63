use Rattle.std.proofs.Common.{◌∙◌, ap, sym}
use Rattle.vod_modules.specs.Names.{number_in}
use Rattle.vod_modules.proofs.Tables.{number_inserted}
use Rattle.vod_modules.proofs.names.Names.add.Goals as goal

pub returns-in_ok-insert-in-None : goal.returns-in_ok-insert-in-None
returns-in_ok-insert-in-None c x = ap (λ es. number_in es x) c.in_ok-insert-in-None.ensures.entries ∙ number_inserted c.args.self.now.numbers.entries c.args.name c.args.number x (sym c.in-None.ensures)
