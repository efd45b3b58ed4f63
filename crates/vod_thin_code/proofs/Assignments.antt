-- Assignments, read from bytes, are those that the bytes spell.
use Rattle.std.proofs.Common.{◌≡◌, ◌≢◌, ℕ, zero, suc, ◌+◌, ◌-◌, ◌*◌, ◌<◌, ◌≤◌, ◌^◌, Bool, true, false, ◌&&◌, nat_le, nat_lt, IsTrue, List, [], ◌∷◌, ◌++◌, length, take, drop, get_or, refl, sym, ap, ◌∙◌, subst, arith, All, AllPairs, append_assoc, length-drop}
use Rattle.std.specs.Prelude.{Option, None, Some, if◌then◌else◌}
use Rattle.std.specs.Int.{w32, w64, to_le_bytes, from_le_bytes}
use Rattle.std.specs.List.{flat_map}
use Rattle.std.specs.List.Sorted.{IsStrictlyIncreasing}
use Rattle.std.proofs.lemmas.Bool.Decides.{nat_tests}
use Rattle.std.proofs.lemmas.List.{drop-drop, append-nil}
use Rattle.std.proofs.lemmas.List.Elements.{All-head, All-tail, All-cons, All-nil}
use Rattle.std.proofs.lemmas.List.Kept.{AllPairs-from_increasing}
use Rattle.std.proofs.lemmas.Nat.{from_le_bytes-to_le_bytes_4, from_le_bytes-to_le_bytes_8}
use Rattle.vod_thin_design.specs.declared.thin.Bit.{Bit}
use Rattle.vod_thin_design.specs.declared.thin.Bit.TheVariants.{Zero, One, X, Z}
use Rattle.vod_thin_design.specs.declared.thin.Move.{Move}
use Rattle.vod_thin_design.specs.Bits.{is_known}
use Rattle.vod_thin_design.specs.Vectors.{assigned}
use Rattle.vod_thin_code.specs.Bytes.{number_of, move_bytes}
use Rattle.vod_thin_code.specs.Moves.{bit_of, move_of, move_at, in_front, followed, moves_at}
use Rattle.vod_thin_code.proofs.Batches.{small_value}
use Rattle.vod_thin_code.proofs.Payloads.{AreBytes, drop-bytes, four_and_rest, eight_and_rest}

-- assignments of known values, of inputs from `least` on, below n, that rise
abbrev pub InOrder : ℕ → ℕ → List Move → Type 0
InOrder least n [] = Unit {0}
InOrder least n (m ∷ ms) = (least ≤ m.input) × (m.input < n) × IsTrue (is_known m.value) × InOrder (m.input + 1) n ms

-- one assignment

record IsMove (least n input value : ℕ) (m : Move) : Type 0 where
  input_is : input ≡ m.input
  value_is : value ≡ number_of m.value
  low : least ≤ m.input
  high : m.input < n
  known : IsTrue (is_known m.value)

bit_number : (w : ℕ) → w ≤ 1 → (w ≡ number_of (bit_of w)) × IsTrue (is_known (bit_of w))
bit_number zero le = (refl, refl)
bit_number (suc zero) le = (refl, refl)
bit_number (suc (suc w)) le = absurd (omega arith)

move_sound : (least n input value : ℕ) (m : Move) → move_of least n input value ≡ Some m → IsMove least n input value m
move_sound least n input value m = by_test (nat_le least input && nat_lt input n && nat_le value 1) refl
  where
    by_test : (t : Bool) → (nat_le least input && nat_lt input n && nat_le value 1) ≡ t → (if t then Some (record { input = input; value = bit_of value }) else None) ≡ Some m → IsMove least n input value m
    by_test true is e =
        let low : least ≤ input = grind (arith, nat_tests) in
        let high : input < n = grind (arith, nat_tests) in
        let small : value ≤ 1 = grind (arith, nat_tests) in
        let bit = bit_number value small in
        let found : IsMove least n input value (record { input = input; value = bit_of value }) = record { input_is = refl; value_is = bit.0; low = low; high = high; known = bit.1 } in
        let same : record { input = input; value = bit_of value } ≡ m = cc in
        subst (IsMove least n input value) same found
    by_test false is e = absurd (cc)

move_complete : (least n input : ℕ) (value : Bit) → least ≤ input → input < n → IsTrue (is_known value) → move_of least n input (number_of value) ≡ Some (record { input = input; value = value })
move_complete least n input Zero low high known =
    let test : (nat_le least input && nat_lt input n && true) ≡ true = grind (arith, nat_tests) in
    ap (λ t. if t then Some (record { input = input; value = Zero }) else None) test
move_complete least n input One low high known =
    let test : (nat_le least input && nat_lt input n && true) ≡ true = grind (arith, nat_tests) in
    ap (λ t. if t then Some (record { input = input; value = One }) else None) test
move_complete least n input X low high known = absurd (cc)
move_complete least n input Z low high known = absurd (cc)

-- several

record IsFollowed (first : Option Move) (more : Move → Option (List Move)) (ms : List Move) : Type 0 where
  move : Move
  rest : List Move
  first_is : first ≡ Some move
  rest_is : more move ≡ Some rest
  all : ms ≡ move ∷ rest

followed_some : (first : Option Move) (more : Move → Option (List Move)) (ms : List Move) → followed first more ≡ Some ms → IsFollowed first more ms
followed_some None more ms e = absurd (cc)
followed_some (Some move) more ms e = by_rest (more move) refl e
  where
    by_rest : (r : Option (List Move)) → more move ≡ r → in_front move r ≡ Some ms → IsFollowed (Some move) more ms
    by_rest None is e = absurd (cc)
    by_rest (Some rest) is e = record { move = move; rest = rest; first_is = refl; rest_is = is; all = cc }

pub record AreMovesAt (count least n : ℕ) (bytes : List ℕ) (ms : List Move) : Type 0 where
  pub many : length ms ≡ count
  pub order : InOrder least n ms
  pub bytes_are : bytes ≡ flat_map move_bytes ms ++ drop (12 * count) bytes

pub moves_sound : (count least n : ℕ) (bytes : List ℕ) (ms : List Move) → AreBytes bytes → 12 * count ≤ length bytes → moves_at count least n bytes ≡ Some ms → AreMovesAt count least n bytes ms
moves_sound zero least n bytes ms are long e =
    let none : [] ≡ ms = cc in
    subst (AreMovesAt zero least n bytes) none (record { many = refl; order = tt; bytes_are = refl })
moves_sound (suc count) least n bytes ms are long e =
    let split = followed_some (move_at least n bytes) (λ move. moves_at count (move.input + 1) n (drop 12 bytes)) ms e in
    let one = move_sound least n (from_le_bytes w32 (take 4 bytes)) (from_le_bytes w64 (take 8 (drop 4 bytes))) split.move split.first_is in
    let room : 12 * count ≤ length (drop 12 bytes) = omega (arith, length-drop 12 bytes) in
    let rest = moves_sound count (split.move.input + 1) n (drop 12 bytes) split.rest (drop-bytes 12 bytes are) room split.rest_is in
    let onward : 12 + 12 * count ≡ 12 * suc count = omega arith in
    let back : drop (12 * count) (drop 12 bytes) ≡ drop (12 * suc count) bytes = drop-drop (12 * count) 12 bytes ∙ ap (λ k. drop k bytes) onward in
    let input : bytes ≡ to_le_bytes w32 split.move.input ++ drop 4 bytes = four_and_rest bytes split.move.input are (omega arith) (sym one.input_is) in
    let value : drop 4 bytes ≡ to_le_bytes w64 (number_of split.move.value) ++ drop 12 bytes =
    eight_and_rest (drop 4 bytes) (number_of split.move.value) (drop-bytes 4 bytes are) (omega (arith, length-drop 4 bytes)) (sym one.value_is)
    ∙ ap (λ xs. to_le_bytes w64 (number_of split.move.value) ++ xs) (drop-drop 8 4 bytes) in
    let whole : bytes ≡ flat_map move_bytes (split.move ∷ split.rest) ++ drop (12 * suc count) bytes =
    input ∙ ap (λ xs. to_le_bytes w32 split.move.input ++ xs) value
    ∙ ap (λ xs. to_le_bytes w32 split.move.input ++ (to_le_bytes w64 (number_of split.move.value) ++ xs)) (rest.bytes_are ∙ ap (λ xs. flat_map move_bytes split.rest ++ xs) back) in
    let found : AreMovesAt (suc count) least n bytes (split.move ∷ split.rest) = record { many = ap suc rest.many; order = (one.low, one.high, one.known, rest.order); bytes_are = whole } in
    subst (AreMovesAt (suc count) least n bytes) (sym split.all) found

pub moves_complete : (least n : ℕ) (ms : List Move) (rest : List ℕ) → n < 2 ^ 32 → InOrder least n ms → moves_at (length ms) least n (flat_map move_bytes ms ++ rest) ≡ Some ms
moves_complete least n [] rest few order = refl
moves_complete least n (m ∷ ms) rest few order =
    let input : from_le_bytes w32 (to_le_bytes w32 m.input) ≡ m.input = from_le_bytes-to_le_bytes_4 m.input (omega (arith, order.1)) in
    let value : from_le_bytes w64 (to_le_bytes w64 (number_of m.value)) ≡ number_of m.value = from_le_bytes-to_le_bytes_8 (number_of m.value) (small_value m.value) in
    let more = λ (x : Move). moves_at (length ms) (x.input + 1) n (flat_map move_bytes ms ++ rest) in
    ap (λ i. followed (move_of least n i (from_le_bytes w64 (to_le_bytes w64 (number_of m.value)))) more) input
    ∙ ap (λ w. followed (move_of least n m.input w) more) value
    ∙ ap (λ o. followed o more) (move_complete least n m.input m.value order.0 order.1 order.2)
    ∙ ap (λ o. in_front m o) (moves_complete (m.input + 1) n ms rest few order.3)

-- in order, and in form

shifted : (k : ℕ) → suc k + 1 ≡ suc (k + 1)
shifted k = omega arith

pub rises : (least n : ℕ) (ms : List Move) → InOrder least n ms → IsStrictlyIncreasing (assigned ms)
rises least n [] order k lt = absurd (omega arith)
rises least n (m ∷ []) order k lt = absurd (omega arith)
rises least n (m ∷ p ∷ ms) order zero lt = let next = order.3.0 in omega arith
rises least n (m ∷ p ∷ ms) order (suc k) lt =
    let inner : get_or (assigned (p ∷ ms)) k 0 < get_or (assigned (p ∷ ms)) (k + 1) 0 = rises (m.input + 1) n (p ∷ ms) order.3 k (omega arith) in
    omega (arith, ap (λ j. get_or (assigned (m ∷ p ∷ ms)) j 0) (shifted k))

pub once : (xs : List ℕ) → IsStrictlyIncreasing xs → AllPairs (λ i k. i ≢ k) xs
once xs up i j d before within = (λ e. let less = AllPairs-from_increasing xs up i j d before within in absurd (omega arith))

pub within : (least n : ℕ) (ms : List Move) → InOrder least n ms → All (λ i. i < n) (assigned ms)
within least n [] order = All-nil (λ i. i < n)
within least n (m ∷ ms) order = All-cons (λ i. i < n) m.input (assigned ms) order.1 (within (m.input + 1) n ms order.3)

pub known : (least n : ℕ) (ms : List Move) → InOrder least n ms → All (λ (move : Move). IsTrue (is_known move.value)) ms
known least n [] order = All-nil (λ (move : Move). IsTrue (is_known move.value))
known least n (m ∷ ms) order = All-cons (λ (move : Move). IsTrue (is_known move.value)) m ms order.2 (known (m.input + 1) n ms order.3)

pub in_order : (least n : ℕ) (ms : List Move) → least ≤ get_or (assigned ms) 0 least → IsStrictlyIncreasing (assigned ms) → All (λ i. i < n) (assigned ms) → All (λ (move : Move). IsTrue (is_known move.value)) ms → InOrder least n ms
in_order least n [] low up inputs values = tt
in_order least n (m ∷ ms) low up inputs values = (
  low,
  All-head (λ i. i < n) m.input (assigned ms) inputs,
  All-head (λ (move : Move). IsTrue (is_known move.value)) m ms values,
  in_order (m.input + 1) n ms (next ms up) (λ k lt. after ms up k lt) (All-tail (λ i. i < n) m.input (assigned ms) inputs) (All-tail (λ (move : Move). IsTrue (is_known move.value)) m ms values),
)
  where
    next : (ms : List Move) → IsStrictlyIncreasing (assigned (m ∷ ms)) → m.input + 1 ≤ get_or (assigned ms) 0 (m.input + 1)
    next [] up = omega arith
    next (p ∷ ms) up = let less = up 0 (omega arith) in omega arith

    after : (ms : List Move) → IsStrictlyIncreasing (assigned (m ∷ ms)) → IsStrictlyIncreasing (assigned ms)
    after ms up k lt = let less = up (suc k) (omega arith) in omega (arith, ap (λ j. get_or (assigned (m ∷ ms)) j 0) (shifted k))

-- the loop that reads them: those so far, and those that are left
abbrev pub behind : List Move → Option (List Move) → Option (List Move)
behind front None = None
behind front (Some ms) = Some (front ++ ms)

behind-nothing : (o : Option (List Move)) → o ≡ behind [] o
behind-nothing None = refl
behind-nothing (Some ms) = refl

behind-in_front : (front : List Move) (m : Move) (o : Option (List Move)) → behind front (in_front m o) ≡ behind (front ++ m ∷ []) o
behind-in_front front m None = refl
behind-in_front front m (Some ms) = ap (λ xs. Some xs) (sym (append_assoc front (m ∷ []) ms))

pub reading_begins : (count n : ℕ) (bytes : List ℕ) → moves_at count 0 n bytes ≡ behind [] (moves_at (count - 0) 0 n (drop (12 * 0) bytes))
reading_begins count n bytes =
    let same : count ≡ count - 0 = omega arith in
    behind-nothing (moves_at count 0 n bytes) ∙ ap (λ k. behind [] (moves_at k 0 n bytes)) same

-- at a place where some are left
reading_at : (count i least n : ℕ) (bytes : List ℕ) (o : Option Move) → i < count → move_at least n (drop (12 * i) bytes) ≡ o →
    moves_at (count - i) least n (drop (12 * i) bytes) ≡ followed o (λ move. moves_at (count - (i + 1)) (move.input + 1) n (drop (12 * (i + 1)) bytes))
reading_at count i least n bytes o lt is =
    let left : count - i ≡ suc (count - (i + 1)) = omega arith in
    let place : 12 * i + 12 ≡ 12 * (i + 1) = omega arith in
    ap (λ k. moves_at k least n (drop (12 * i) bytes)) left
    ∙ ap (λ x. followed x (λ move. moves_at (count - (i + 1)) (move.input + 1) n (drop 12 (drop (12 * i) bytes)))) is
    ∙ ap (λ xs. followed o (λ move. moves_at (count - (i + 1)) (move.input + 1) n xs)) (drop-drop 12 (12 * i) bytes ∙ ap (λ k. drop k bytes) place)

pub reading_more : (count i least n : ℕ) (bytes : List ℕ) (front : List Move) (m : Move) → i < count → Some m ≡ move_at least n (drop (12 * i) bytes) →
    behind front (moves_at (count - i) least n (drop (12 * i) bytes)) ≡ behind (front ++ m ∷ []) (moves_at (count - (i + 1)) (m.input + 1) n (drop (12 * (i + 1)) bytes))
reading_more count i least n bytes front m lt is =
    ap (λ o. behind front o) (reading_at count i least n bytes (Some m) lt (sym is)) ∙ behind-in_front front m (moves_at (count - (i + 1)) (m.input + 1) n (drop (12 * (i + 1)) bytes))

pub reading_stops : (count i least n : ℕ) (bytes : List ℕ) (front : List Move) → i < count → None ≡ move_at least n (drop (12 * i) bytes) →
    behind front (moves_at (count - i) least n (drop (12 * i) bytes)) ≡ None
reading_stops count i least n bytes front lt is = ap (λ o. behind front o) (reading_at count i least n bytes None lt (sym is))

pub reading_ends : (count least n : ℕ) (bytes : List ℕ) (front : List Move) → behind front (moves_at (count - count) least n (drop (12 * count) bytes)) ≡ Some front
reading_ends count least n bytes front =
    let done : count - count ≡ zero = omega arith in
    ap (λ k. behind front (moves_at k least n (drop (12 * count) bytes))) done ∙ ap (λ xs. Some xs) (append-nil front)
