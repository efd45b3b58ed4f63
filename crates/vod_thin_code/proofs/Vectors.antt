-- A vector, read from bytes, is the one that they spell.
use Rattle.std.proofs.Common.{◌≡◌, ℕ, ◌+◌, ◌*◌, ◌/◌, ◌<◌, ◌≤◌, ◌^◌, List, ◌++◌, length, take, drop, sym, ap, ◌∙◌, arith, length-append, length-drop}
use Rattle.std.specs.Prelude.{None, Some}
use Rattle.std.specs.Int.{w32, w64, to_le_bytes, from_le_bytes}
use Rattle.std.specs.List.{flat_map}
use Rattle.std.proofs.lemmas.List.{drop-drop, length-map}
use Rattle.std.proofs.lemmas.Nat.{from_le_bytes-to_le_bytes_4}
use Rattle.vod_thin_design.specs.declared.thin.Input.{Input}
use Rattle.vod_thin_design.specs.declared.thin.Move.{Move}
use Rattle.vod_thin_design.specs.declared.thin.Vector.{Vector}
use Rattle.vod_thin_design.specs.Netlist.{Netlist, IsAccepted, input_signals}
use Rattle.vod_thin_code.specs.Bytes.{move_bytes, vector_bytes, IsInForm}
use Rattle.vod_thin_code.specs.Moves.{moves_at}
use Rattle.vod_thin_code.proofs.Assignments.{InOrder, AreMovesAt, moves_sound, moves_complete, rises, once, within, known, in_order}
use Rattle.vod_thin_code.proofs.Batches.{at_most, moves_at_most, length-moves}
use Rattle.vod_thin_code.proofs.Payloads.{AreBytes, drop-bytes, four_and_rest, eight_and_rest}

-- an accepted design has few inputs
pub few_inputs : (d : Netlist) → IsAccepted d → length d.inputs < 2 ^ 32
few_inputs d is =
    let size : length (input_signals d) ≡ length d.inputs = length-map d.inputs (λ (input : Input). input.signal) in
    let few : length (input_signals d) ≤ length d.signals = at_most (input_signals d) (length d.signals) is.inputs_rise is.inputs_within in
    omega (arith, is.few_signals)

-- what begins with a vector in form has the count of its assignments, and then these
record Begins (v : Vector) (bytes rest : List ℕ) : Type 0 where
  some : 1 ≤ length v.moves
  count : from_le_bytes w32 (take 4 (drop 8 bytes)) ≡ length v.moves
  moves : drop 12 bytes ≡ flat_map move_bytes v.moves ++ rest

begins : (d : Netlist) → length d.inputs < 2 ^ 32 → (v : Vector) (bytes rest : List ℕ) → IsInForm d v → bytes ≡ vector_bytes v ++ rest → Begins v bytes rest
begins d few v bytes rest form e =
    let many : length v.moves ≤ length d.inputs = moves_at_most d v form in
    record {
      some = form.vector.assigns;
      count = ap (λ bs. from_le_bytes w32 (take 4 (drop 8 bs))) e ∙ from_le_bytes-to_le_bytes_4 (length v.moves) (omega arith);
      moves = ap (λ bs. drop 12 bs) e;
    }

pub no_count : (d : Netlist) → length d.inputs < 2 ^ 32 → (bytes : List ℕ) (count : ℕ) → count ≡ from_le_bytes w32 (take 4 (drop 8 bytes)) → count ≡ 0 →
    (v : Vector) (rest : List ℕ) → IsInForm d v → bytes ≡ vector_bytes v ++ rest → ⊥
no_count d few bytes count is none v rest form e =
    let b = begins d few v bytes rest form e in
    absurd (omega (arith, is ∙ b.count, b.some))

pub no_room : (d : Netlist) → length d.inputs < 2 ^ 32 → (bytes : List ℕ) (count : ℕ) → count ≡ from_le_bytes w32 (take 4 (drop 8 bytes)) → length (drop 12 bytes) / 12 < count →
    (v : Vector) (rest : List ℕ) → IsInForm d v → bytes ≡ vector_bytes v ++ rest → ⊥
no_room d few bytes count is small v rest form e =
    let b = begins d few v bytes rest form e in
    let long : length (drop 12 bytes) ≡ 12 * length v.moves + length rest = ap length b.moves ∙ length-append (flat_map move_bytes v.moves) rest ∙ ap (λ n. n + length rest) (length-moves v.moves) in
    let same : count ≡ length v.moves = is ∙ b.count in
    absurd (omega arith)

pub no_moves : (d : Netlist) → length d.inputs < 2 ^ 32 → (bytes : List ℕ) (count : ℕ) → count ≡ from_le_bytes w32 (take 4 (drop 8 bytes)) → None ≡ moves_at count 0 (length d.inputs) (drop 12 bytes) →
    (v : Vector) (rest : List ℕ) → IsInForm d v → bytes ≡ vector_bytes v ++ rest → ⊥
no_moves d few bytes count is none v rest form e =
    let b = begins d few v bytes rest form e in
    let order : InOrder 0 (length d.inputs) v.moves = in_order 0 (length d.inputs) v.moves (omega arith) form.rises form.vector.inputs form.vector.known in
    let there : moves_at count 0 (length d.inputs) (drop 12 bytes) ≡ Some v.moves =
    ap (λ k. moves_at k 0 (length d.inputs) (drop 12 bytes)) (is ∙ b.count) ∙ ap (λ bs. moves_at (length v.moves) 0 (length d.inputs) bs) b.moves
    ∙ moves_complete 0 (length d.inputs) v.moves rest few order in
    let not : None ≡ Some v.moves = none ∙ there in
    absurd (cc)

-- what is read is in form, and the bytes begin with it
pub record IsRead (d : Netlist) (v : Vector) (bytes rest : List ℕ) : Type 0 where
  pub form : IsInForm d v
  pub is : bytes ≡ vector_bytes v ++ rest

pub found : (d : Netlist) (bytes : List ℕ) (time count : ℕ) (ms : List Move) → AreBytes bytes → 12 ≤ length bytes → time < 2 ^ 64 → 1 ≤ count → 12 * count ≤ length (drop 12 bytes) →
    time ≡ from_le_bytes w64 (take 8 bytes) → count ≡ from_le_bytes w32 (take 4 (drop 8 bytes)) → moves_at count 0 (length d.inputs) (drop 12 bytes) ≡ Some ms →
    IsRead d (record { time = time; moves = ms }) bytes (drop (12 * count) (drop 12 bytes))
found d bytes time count ms are long low some room time_is count_is moves_are =
    let n : ℕ = length d.inputs in
    let read : AreMovesAt count 0 n (drop 12 bytes) ms = moves_sound count 0 n (drop 12 bytes) ms (drop-bytes 12 bytes are) room moves_are in
    let up = rises 0 n ms read.order in
    let second : drop 8 bytes ≡ to_le_bytes w32 count ++ drop 4 (drop 8 bytes) = four_and_rest (drop 8 bytes) count (drop-bytes 8 bytes are) (omega (arith, length-drop 8 bytes)) count_is in
    let third : drop 4 (drop 8 bytes) ≡ flat_map move_bytes ms ++ drop (12 * count) (drop 12 bytes) = drop-drop 4 8 bytes ∙ read.bytes_are in
    record {
      form = record {
        vector = record { assigns = omega (arith, read.many); once = once _ up; inputs = within 0 n ms read.order; known = known 0 n ms read.order };
        time = low;
        rises = up;
      };
      is = eight_and_rest bytes time are (omega arith) time_is ∙ ap (λ xs. to_le_bytes w64 time ++ xs) second
          ∙ ap (λ k. to_le_bytes w64 time ++ (to_le_bytes w32 k ++ drop 4 (drop 8 bytes))) (sym read.many)
          ∙ ap (λ xs. to_le_bytes w64 time ++ (to_le_bytes w32 (length ms) ++ xs)) third;
    }
