use Rattle.std.proofs.Common.{◌≡◌, ◌+◌, ◌-◌, ◌*◌, drop, sym, ap, ◌∙◌}
use Rattle.std.specs.Prelude.{Some, None}
use Rattle.std.proofs.lemmas.List.{take_rest}
use Rattle.vod_thin_code.specs.Moves.{move_at, moves_at}
use Rattle.vod_thin_code.proofs.Assignments.{behind, reading_more, reading_stops}
use Rattle.vod_thin_code.proofs.read.read_moves.Goals as goal

pub returns-in_default : goal.returns-in_default
returns-in_default c =
    let bytes = c.args.bytes.now in
    let none : None ≡ move_at c.loop-i.least c.args.inputs (drop (12 * c.loop-i.i) bytes) =
    sym c.in_default.is ∙ c.read_move.ensures ∙ ap (λ xs. move_at c.loop-i.least c.args.inputs xs) (take_rest bytes (12 * c.loop-i.i)) in
    sym (c.loop-i.invariant ∙ reading_stops c.args.count c.loop-i.i c.loop-i.least c.args.inputs bytes c.loop-i.moves.items c.loop-i-test.true none)

pub loop-i-preserved : goal.loop-i-preserved
loop-i-preserved c =
    let bytes = c.args.bytes.now in
    let move = c.in-Some.assigned in
    let some : Some move ≡ move_at c.loop-i.least c.args.inputs (drop (12 * c.loop-i.i) bytes) =
    sym c.in-Some.is ∙ c.read_move.ensures ∙ ap (λ xs. move_at c.loop-i.least c.args.inputs xs) (take_rest bytes (12 * c.loop-i.i)) in
    let more = moves_at (c.args.count - (c.loop-i.i + 1)) (move.input + 1) c.args.inputs (drop (12 * (c.loop-i.i + 1)) bytes) in
    c.loop-i.invariant ∙ reading_more c.args.count c.loop-i.i c.loop-i.least c.args.inputs bytes c.loop-i.moves.items move c.loop-i-test.true some
    ∙ ap (λ xs. behind xs more) (sym c.in_ok-push.ensures.items)
