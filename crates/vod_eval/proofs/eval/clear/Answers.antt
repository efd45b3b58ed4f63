use Rattle.std.proofs.Common.{◌<◌, ◌+◌, ◌++◌, ◌∷◌, [], ◌∙◌, sym, ap, map, take, drop, length, get_or, arith}
use Rattle.std.proofs.Math.ListN.{set}
use Rattle.std.proofs.lemmas.List.{map-set, length-map}
use Rattle.vod_eval.specs.Scenes.{unknown_of}
use Rattle.vod_eval.proofs.Enter.{no_size}
use Rattle.vod_eval.proofs.Kept.{get_same, map_take_length, map_take_more, set_next}
use Rattle.vod_eval.proofs.eval.clear.Goals as goal

pub loop-i-preserved : goal.loop-i-preserved
loop-i-preserved g c =
    let b = g.V.Value.bits in
    let cleared = unknown_of g.V.Value.fill in
    let i = c.loop-i.i in
    let locals = c.args.locals.now in
    let room = map b c.args.variables.now in
    let local = get_or locals i no_size in
    let done = map cleared (take i locals) in
    let long : i < length room = omega (arith, length-map c.args.variables.now b) in
    map-set b c.loop-i.variables i c.unknown.result ∙ ap (λ vs. set vs i (b c.unknown.result)) c.loop-i.invariant
    ∙ set_next done room i (b c.unknown.result) (map_take_length cleared locals i (omega arith)) long
    ∙ ap (λ v. (done ++ v ∷ []) ++ drop (i + 1) room) c.unknown.ensures
    ∙ sym (ap (λ vs. vs ++ drop (i + 1) room) (map_take_more cleared locals i local (get_same locals i no_size local (omega arith)) (omega arith)))
