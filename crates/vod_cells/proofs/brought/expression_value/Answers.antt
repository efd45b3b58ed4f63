use Rattle.std.proofs.Common.{[], ap, ◌∙◌}
use Rattle.vod_bits.specs.Bit.{BX}
use Rattle.vod_design.specs.Run.{eval}
use Rattle.vod_cells.proofs.Bringing.{same_values}
use Rattle.vod_cells.proofs.brought.expression_value.Goals as goal

pub returns : goal.returns
returns c = c.value_of.ensures ∙ ap (λ values. eval BX c.args.functions.now values [] c.args.e.now) (same_values c.args.signals.now c.args.memories.now)
