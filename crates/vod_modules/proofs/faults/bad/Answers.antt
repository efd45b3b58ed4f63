use Rattle.std.proofs.Common.{◌∙◌, ◌+◌, ap, if◌then◌else◌, Some, None, take, get_or}
use Rattle.vod_places.specs.Places.{place_if}
use Rattle.vod_modules.specs.declared.uses.Use.{Use}
use Rattle.vod_modules.specs.Faults.{bad_uses, is_bad}
use Rattle.vod_modules.proofs.Growing.{least_more, flat_more}
use Rattle.vod_modules.proofs.faults.bad.Goals as goal

pub loop-found-preserved : goal.loop-found-preserved
loop-found-preserved c =
    let i = c.loop-found.found-index in
    let us = c.args.uses.now in
    let cs = c.args.components.now in
    let d : Use = record { place = 0; user = None; used = None } in
    c.sooner_of-least.ensures
    ∙ least_more (bad_uses cs (take i us)) (bad_uses cs (take (i + 1) us)) (is_bad cs (get_or us i d).user (get_or us i d).used) (get_or us i d).place c.loop-found.least c.place_where.result (flat_more (λ u. place_if (is_bad cs u.user u.used) u.place) us i d c.loop-found-test.true) c.loop-found.invariant (c.place_where.ensures ∙ ap (λ b. if b then Some (get_or us i d).place else None) c.is_bad.ensures)
