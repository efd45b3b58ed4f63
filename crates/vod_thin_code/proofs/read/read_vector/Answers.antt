use Rattle.std.proofs.Common.{◌≡◌, ◌*◌, ◌/◌, ◌<◌, ◌≤◌, ◌++◌, List, length, take, drop, sym, ap, ◌∙◌, arith}
use Rattle.std.specs.Prelude.{Some, None}
use Rattle.std.specs.Int.{w32, from_le_bytes}
use Rattle.std.specs.Option.{option_map}
use Rattle.std.proofs.lemmas.List.{take_rest}
use Rattle.vod_thin_design.specs.declared.thin.Input.{Input}
use Rattle.vod_thin_code.specs.Bytes.{vector_bytes}
use Rattle.vod_thin_code.specs.Moves.{moves_at}
use Rattle.vod_thin_code.proofs.Vectors.{few_inputs, no_count, no_room, no_moves, found}
use Rattle.vod_thin_code.proofs.read.read_vector.Goals as goal
use Rattle.vod_thin_code.proofs.read.read_vector.Goals.{then-count-eq0-via-then-count-eq0, then-count-eq0-via-else-count-eq0+then-rest-count}

pub returns-then-count-eq0 : goal.returns-then-count-eq0
returns-then-count-eq0 c =
    let d = c.args.design.now in
    let bytes = c.args.bytes.now in
    let count = c.four-count.result in
    let few = few_inputs d c.inputs-inputs.ensures.accepted in
    let count_is : count ≡ from_le_bytes w32 (take 4 (drop 8 bytes)) = c.four-count.ensures ∙ ap (λ xs. from_le_bytes w32 (take 4 xs)) (take_rest bytes 8) in
    elim c.then-count-eq0.branch [
      | then-count-eq0-via-then-count-eq0 w ↦ no_count d few bytes count count_is w.if-count-eq0.true
      | then-count-eq0-via-else-count-eq0+then-rest-count w ↦
          let small : length (drop 12 bytes) / 12 < count = omega (arith, w.if-rest-count.true, ap (λ xs. length xs / 12) (take_rest bytes 12)) in
          no_room d few bytes count count_is small
    ]

pub returns-in-Some : goal.returns-in-Some
returns-in-Some c =
    let d = c.args.design.now in
    let bytes = c.args.bytes.now in
    let count = c.four-count.result in
    let behind = take_rest bytes 12 in
    let count_is : count ≡ from_le_bytes w32 (take 4 (drop 8 bytes)) = c.four-count.ensures ∙ ap (λ xs. from_le_bytes w32 (take 4 xs)) (take_rest bytes 8) in
    let moves_are : moves_at count 0 (length d.inputs) (drop 12 bytes) ≡ Some c.new.result =
    sym (ap (λ (is : List Input). moves_at count 0 (length is) (drop 12 bytes)) c.inputs-inputs.ensures.items)
    ∙ sym (ap (λ xs. moves_at count 0 (length c.inputs-inputs.result.now) xs) behind)
    ∙ sym c.in_ok-moves.ensures ∙ ap (option_map (λ v. v.items)) c.in-Some.is ∙ ap (λ ms. Some ms) (sym c.new.ensures) in
    let room : 12 * count ≤ length (drop 12 bytes) = omega (arith, c.if-rest-count.false, ap (λ xs. length xs / 12) behind) in
    let read = found d bytes c.eight.result count c.new.result (λ i. omega (arith, c.type_inv.bytes i)) c.if-bytes-lt12.false c.eight.type_inv (omega (arith, c.if-count-eq0.false)) room c.eight.ensures count_is moves_are in
    let rest = take_rest _ (12 * count) ∙ ap (λ xs. drop (12 * count) xs) behind in
    (read.form, read.is ∙ ap (λ xs. vector_bytes (record { time = c.eight.result; moves = c.new.result }) ++ xs) (sym rest))

pub returns-in-None : goal.returns-in-None
returns-in-None c =
    let d = c.args.design.now in
    let bytes = c.args.bytes.now in
    let count = c.four-count.result in
    let few = few_inputs d c.inputs-inputs.ensures.accepted in
    let count_is : count ≡ from_le_bytes w32 (take 4 (drop 8 bytes)) = c.four-count.ensures ∙ ap (λ xs. from_le_bytes w32 (take 4 xs)) (take_rest bytes 8) in
    let none : None ≡ moves_at count 0 (length d.inputs) (drop 12 bytes) =
    sym (ap (option_map (λ v. v.items)) c.in-None.is) ∙ c.in_ok-moves.ensures
    ∙ ap (λ xs. moves_at count 0 (length c.inputs-inputs.result.now) xs) (take_rest bytes 12)
    ∙ ap (λ (is : List Input). moves_at count 0 (length is) (drop 12 bytes)) c.inputs-inputs.ensures.items in
    no_moves d few bytes count count_is none
