use Rattle.std.proofs.Common.{◌≡◌, ℕ, List, ◌++◌, length, take, ap, ◌∙◌, append_assoc}
use Rattle.std.specs.Int.{w32, w64, to_le_bytes}
use Rattle.std.specs.List.{flat_map}
use Rattle.vod_thin_design.specs.declared.thin.Move.{Move}
use Rattle.vod_thin_code.specs.Bytes.{move_bytes}
use Rattle.vod_thin_code.proofs.frame.push_vector.Goals as goal

regrouped : (a b c d : List ℕ) → ((a ++ b) ++ c) ++ d ≡ a ++ (b ++ (c ++ d))
regrouped a b c d = simp append_assoc

pub returns : goal.returns
returns c =
    let old = c.args.bytes.now.items in
    let moves = c.args.vector.now.moves in
    let time = to_le_bytes w64 c.args.vector.now.time in
    let count = to_le_bytes w32 (length moves) in
    let timed = c.extend_from_slice.new.self.items in
    let first : timed ≡ old ++ time = c.in_ok-extend_from_slice.ensures.items ∙ ap (λ xs. old ++ xs) c.to_le_bytes.ensures in
    let second : c.extend_from_slice-2.new.self.items ≡ (old ++ time) ++ count =
    c.in_ok-extend_from_slice-2.ensures.items ∙ ap (λ xs. timed ++ take 4 xs) c.to_le_bytes-2.ensures
    ∙ ap (λ (ms : List Move). timed ++ to_le_bytes w32 (length ms)) c.as_slice-moves.ensures ∙ ap (λ xs. xs ++ count) first in
    c.in_ok-push_moves.ensures ∙ ap (λ xs. xs ++ flat_map move_bytes c.as_slice-moves.result.now) second
    ∙ ap (λ (ms : List Move). ((old ++ time) ++ count) ++ flat_map move_bytes ms) c.as_slice-moves.ensures ∙ regrouped old time count (flat_map move_bytes moves)
