use Rattle.std.proofs.Common.{◌∙◌, flat_map, ap}
use Rattle.vod_places.specs.Places.{least}
use Rattle.vod_connections.specs.Interfaces.{all_modules, interface_named}
use Rattle.vod_connections.specs.Connections.{part_faults}
use Rattle.vod_connections.proofs.Found.{found_is}
use Rattle.vod_connections.proofs.source.first_connection_fault.Goals as goal

pub returns : goal.returns
returns c =
    let parts = c.as_slice-parts.result.now in
    let t = c.in_ok-interfaces.interfaces in
    c.in_ok-first.ensures
    ∙ ap (λ shows. least (flat_map (part_faults shows) parts)) (found_is t.names t.list.items (all_modules parts) c.in_ok-interfaces.ensures.0 c.in_ok-interfaces.ensures.1)
    ∙ ap (λ ps. least (flat_map (part_faults (interface_named (all_modules ps))) ps)) c.as_slice-parts.ensures
