use Rattle.std.proofs.Common.{◌≡◌, sym, subst}
use Rattle.vod_design.specs.Draft.{parts}
use Rattle.vod_design.specs.Flat.{IsFlat}
use Rattle.rows_cells.specs.Small.{small, precision}
use Rattle.rows_cells.proofs.Accepted.{flat}
use Rattle.rows_cells.proofs.small.draft.Goals as goal

pub invariant_of-result : goal.invariant_of-result
invariant_of-result c =
    let signals = c.in_ok-signals.ensures in
    let inputs = c.in_ok-inputs.ensures in
    let drivers = c.in_ok-drivers.ensures in
    let blocks = c.in_ok-blocks.ensures in
    let memories = c.in_ok-memories.ensures in
    let initials = c.in_ok-initials.ensures in
    let scopes = c.in_ok-scopes.ensures in
    let functions = c.in_ok-functions.ensures in
    let same : parts c.in_ok-signals.signals.items c.in_ok-inputs.inputs.items c.in_ok-drivers.drivers.items c.in_ok-blocks.blocks.items
    c.in_ok-memories.memories.items c.in_ok-initials.initials.items c.in_ok-scopes.scopes.items c.in_ok-functions.functions.items precision ≡ small = cc in
    subst IsFlat (sym same) flat
