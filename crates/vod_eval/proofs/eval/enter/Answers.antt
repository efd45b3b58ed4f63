use Rattle.std.proofs.Common.{◌≡◌, ◌+◌, ◌-◌, ◌<◌, ◌++◌, ◌∷◌, [], ◌∙◌, ap, arith, map, take, drop, length, length-take, length-drop}
use Rattle.std.proofs.lemmas.List.{take_at, length-map}
use Rattle.vod_design.specs.Run.{entered}
use Rattle.vod_eval.specs.Scenes.{with_signs, unknown_of}
use Rattle.vod_eval.proofs.Enter.{entered_length}
use Rattle.vod_eval.proofs.Kept.{front_of}
use Rattle.vod_eval.proofs.eval.enter.Goals as goal

pub returns : goal.returns
returns g c =
    let b = g.V.Value.bits in
    let fill = g.V.Value.fill in
    let inputs = c.as_slice-inputs.result.now in
    let locals = c.as_slice-locals.result.now in
    let room = c.take_arguments.new.room in
    let operands = with_signs (take (length c.args.arguments.now) (map b c.args.room.now)) c.args.arguments.now in
    let count = entered_length fill inputs operands in
    let front = ap (take (length inputs)) c.take_arguments.ensures ∙ take_at (entered fill inputs operands) (drop (length inputs) (map b c.args.room.now)) (length inputs) count in
    let is : length inputs ≡ length c.args.function.now.inputs = ap length c.as_slice-inputs.ensures in
    let ls : length locals ≡ length c.args.function.now.locals = ap length c.as_slice-locals.ensures in
    let enough : length inputs + length locals < length (take (length inputs) room) + length c.clear.new.variables =
    omega (arith, length-take (length inputs) room, length-drop (length inputs) room, length-take (length room - length inputs) (drop (length inputs) room)) in
    let whole = front_of b (entered fill inputs operands) (map (unknown_of fill) locals) _ room c.clear.new.variables _ (length inputs) (length locals) c.unknown.result front count c.clear.ensures (length-map locals (unknown_of fill)) enough in
    rw (← c.as_slice-inputs.ensures, ← c.as_slice-locals.ensures) (whole ∙ ap (λ v. entered fill inputs operands ++ map (unknown_of fill) locals ++ v ∷ []) c.unknown.ensures)
