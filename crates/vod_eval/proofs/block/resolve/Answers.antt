use Rattle.std.proofs.Common.{◌+◌, ◌++◌, ◌∷◌, [], ◌∙◌, sym, ap, map, take, drop, length, slice_set, arith}
use Rattle.vod_design.specs.declared.statement.Part.{Part}
use Rattle.vod_design.specs.Run.{operand_outside, part_target}
use Rattle.vod_eval.specs.Room.{index_room, call_room, parts_room}
use Rattle.vod_eval.proofs.Kept.{most_item, map_take_length, map_take_more, set_next}
use Rattle.vod_eval.proofs.block.resolve.Goals as goal

pub target_in-requires : goal.target_in-requires
unfolding parts_room
target_in-requires g c =
    let functions = c.args.functions.now in
    let r = most_item (λ (p : Part). index_room (call_room functions (length functions)) p.target) c.args.parts.now c.loop-i.i c.index-parts-i.result c.index-parts-i.is (omega arith) in
    omega (arith, r, c.requires.room)

pub loop-i-preserved : goal.loop-i-preserved
loop-i-preserved g c =
    let target = part_target g.V.Value.fill (operand_outside g.V.Value.fill c.args.functions.now (g.T.Tables.values c.args.tables.now)) in
    let i = c.loop-i.i in
    let parts = c.args.parts.now in
    let part = c.index-parts-i.result in
    let old = c.args.targets.now in
    let done = map target (take i parts) in
    ap (λ ts. slice_set ts i c.target_in.result) c.loop-i.invariant ∙ set_next done old i c.target_in.result (map_take_length target parts i (omega arith)) (omega arith)
    ∙ ap (λ t. (done ++ t ∷ []) ++ drop (i + 1) old) c.target_in.ensures
    ∙ sym (ap (λ ts. ts ++ drop (i + 1) old) (map_take_more target parts i part c.index-parts-i.is (omega arith)))
