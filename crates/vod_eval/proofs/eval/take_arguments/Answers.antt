use Rattle.std.proofs.Common.{◌≡◌, ◌<◌, ◌≤◌, ◌+◌, ◌++◌, ◌∙◌, sym, ap, map, take, drop, length, length-take, get_or, slice_get, option_map, arith}
use Rattle.std.proofs.Math.ListN.{set, get_or-map}
use Rattle.std.proofs.lemmas.List.{map-set, length-map}
use Rattle.vod_design.specs.Run.{entered}
use Rattle.vod_eval.specs.Scenes.{operand, with_signs, input_bits}
use Rattle.vod_eval.proofs.Enter.{no_size, entered_length, entered_more, with_signs_get, copied_map}
use Rattle.vod_eval.proofs.Kept.{get_same, get_behind, set_next}
use Rattle.vod_eval.proofs.eval.take_arguments.Goals as goal

pub loop-i-preserved : goal.loop-i-preserved
loop-i-preserved g c =
    let b = g.V.Value.bits in
    let fill = g.V.Value.fill in
    let i = c.loop-i.i in
    let inputs = c.args.inputs.now in
    let arguments = c.args.arguments.now in
    let room = map b c.args.room.now in
    let long : i < length room = omega (arith, length-map c.args.room.now b) in
    let enough : length arguments ≤ length room = omega (arith, length-map c.args.room.now b) in
    let input = get_or inputs i no_size in
    let operands = with_signs (take (length arguments) room) arguments in
    let done = entered fill (take i inputs) operands in
    let old = b c.index-room-i.result in
    let count : length done ≡ i = entered_length fill (take i inputs) operands ∙ omega (arith, length-take i inputs) in
    let held : old ≡ get_or room i old =
    ap b c.index-room-i.is ∙ sym (get_or-map b c.loop-i.room i c.index-room-i.result) ∙ ap (λ vs. get_or vs i old) c.loop-i.invariant ∙ get_behind done room i old count long in
    let value : b c.input_value.result ≡ input_bits fill input (slice_get operands i) =
    c.input_value.ensures ∙ ap (input_bits fill input) (copied_map (λ e. operand old e.signed) c.at.result ∙ ap (option_map (λ e. operand old e.signed)) c.at.ensures
    ∙ ap (λ v. option_map (λ e. operand v e.signed) (slice_get arguments i)) held ∙ sym (with_signs_get room arguments i old enough)) in
    map-set b c.loop-i.room i c.input_value.result ∙ ap (λ vs. set vs i (b c.input_value.result)) c.loop-i.invariant ∙ set_next done room i (b c.input_value.result) count long
    ∙ sym (ap (λ vs. vs ++ drop (i + 1) room) (entered_more fill inputs operands i input (b c.input_value.result) (get_same inputs i no_size input (omega arith)) (omega arith) value))
