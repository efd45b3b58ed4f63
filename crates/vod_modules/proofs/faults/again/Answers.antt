use Rattle.std.proofs.Common.{◌∙◌, ◌+◌, ap, not, if◌then◌else◌, Some, None, take, get_or, zero-add, sym}
use Rattle.vod_modules.specs.declared.names.Head.{Head}
use Rattle.vod_modules.specs.Faults.{again_from, is_number}
use Rattle.vod_modules.proofs.Growing.{least_more, again_more}
use Rattle.vod_modules.proofs.faults.again.Goals as goal

pub loop-number-preserved : goal.loop-number-preserved
loop-number-preserved c =
    let i = c.loop-number.number in
    let hs = c.args.heads.now in
    let d : Head = record { place = 0; number = None } in
    c.sooner_of-least.ensures
    ∙ least_more (again_from 0 (take i hs)) (again_from 0 (take (i + 1) hs)) (not (is_number (get_or hs i d).number (0 + i))) (get_or hs i d).place c.loop-number.least c.place_where.result (again_more 0 hs i d c.loop-number-test.true) c.loop-number.invariant
    (c.place_where.ensures ∙ ap (λ b. if not b then Some (get_or hs i d).place else None) (c.is_number.ensures ∙ ap (λ k. is_number (get_or hs i d).number k) (sym (zero-add i))))
