-- The payload of a batch: how long it is, and that it is of one list of vectors.
use Rattle.std.proofs.Common.{◌≡◌, ℕ, zero, suc, ◌+◌, ◌*◌, ◌<◌, ◌≤◌, ◌^◌, List, [], ◌∷◌, ◌++◌, length, take, get_or, refl, sym, ap, ◌∙◌, arith, All, length-append}
use Rattle.std.specs.Int.{w32, w64, to_le_bytes}
use Rattle.std.specs.List.{flat_map}
use Rattle.std.specs.List.Sorted.{IsStrictlyIncreasing}
use Rattle.std.proofs.Math.Nat.{mul-le-mul_right}
use Rattle.std.proofs.lemmas.List.{length-map, flat_map_more, take_more}
use Rattle.std.proofs.lemmas.List.Folds.{length-flat_map-take}
use Rattle.std.proofs.lemmas.List.Elements.{All-head, All-tail}
use Rattle.vod_thin_design.specs.declared.thin.Bit.{Bit}
use Rattle.vod_thin_design.specs.declared.thin.Bit.TheVariants.{Zero, One, X, Z}
use Rattle.vod_thin_design.specs.declared.thin.Move.{Move}
use Rattle.vod_thin_design.specs.declared.thin.Vector.{Vector}
use Rattle.vod_thin_design.specs.Netlist.{Netlist}
use Rattle.vod_thin_design.specs.Vectors.{assigned}
use Rattle.vod_thin_code.specs.Bytes.{number_of, move_bytes, vector_bytes, batch_bytes, IsInForm}
use Rattle.vod_thin_code.proofs.Numbers.{four_are_one, eight_are_one}

-- a number that stands at a place of a list that rises is no less than the place
no_less : (xs : List ℕ) → IsStrictlyIncreasing xs → (k : ℕ) → k < length xs → k ≤ get_or xs k 0
no_less xs rises zero lt = omega arith
no_less xs rises (suc k) lt =
    let next : k + 1 ≡ suc k = omega arith in
    let before : k ≤ get_or xs k 0 = no_less xs rises k (omega arith) in
    let more : get_or xs k 0 < get_or xs (k + 1) 0 = rises k (omega arith) in
    omega (arith, ap (λ j. get_or xs j 0) next)

-- numbers below n that rise are at most n
pub at_most : (xs : List ℕ) (n : ℕ) → IsStrictlyIncreasing xs → All (λ x. x < n) xs → length xs ≤ n
at_most [] n rises within = omega arith
at_most (x ∷ xs) n rises within =
    let last : length xs ≤ get_or (x ∷ xs) (length xs) 0 = no_less (x ∷ xs) rises (length xs) (omega arith) in
    let under : get_or (x ∷ xs) (length xs) 0 < n = within (length xs) 0 (omega arith) in
    omega arith

-- a vector in form assigns no more inputs than there are
pub moves_at_most : (d : Netlist) (v : Vector) → IsInForm d v → length v.moves ≤ length d.inputs
moves_at_most d v form =
    let size : length (assigned v.moves) ≡ length v.moves = length-map v.moves (λ m. m.input) in
    let few : length (assigned v.moves) ≤ length d.inputs = at_most (assigned v.moves) (length d.inputs) form.rises form.vector.inputs in
    omega arith

pub length-moves : (ms : List Move) → length (flat_map move_bytes ms) ≡ 12 * length ms
length-moves [] = refl
length-moves (m ∷ ms) = omega (arith, length-moves ms)

pub length-vector : (v : Vector) → length (vector_bytes v) ≡ 12 + 12 * length v.moves
length-vector v = omega (arith, length-moves v.moves)

-- so many vectors in form are no longer than if each assigned all inputs
length-batch : (d : Netlist) (vs : List Vector) → All (IsInForm d) vs → length (batch_bytes vs) ≤ length vs * (12 + 12 * length d.inputs)
length-batch d [] forms = omega arith
length-batch d (v ∷ vs) forms =
    let first : length v.moves ≤ length d.inputs = moves_at_most d v (All-head (IsInForm d) v vs forms) in
    let rest : length (batch_bytes vs) ≤ length vs * (12 + 12 * length d.inputs) = length-batch d vs (All-tail (IsInForm d) v vs forms) in
    let both : length (batch_bytes (v ∷ vs)) ≡ length (vector_bytes v) + length (batch_bytes vs) = length-append (vector_bytes v) (batch_bytes vs) in
    omega (arith, length-vector v)

pub short : (d : Netlist) (vs : List Vector) → All (IsInForm d) vs → length vs ≤ 64 → length (batch_bytes vs) ≤ 64 * (12 + 12 * length d.inputs)
short d vs forms few =
    omega (arith, length-batch d vs forms, mul-le-mul_right (12 + 12 * length d.inputs) few)

-- one vector more
pub batch_more : (front : List ℕ) (vs : List Vector) (i : ℕ) (v : Vector) → i < length vs → v ≡ get_or vs i v → (front ++ batch_bytes (take i vs)) ++ vector_bytes v ≡ front ++ batch_bytes (take (i + 1) vs)
batch_more front vs i v lt is =
    flat_map_more vector_bytes front (take i vs) v
    ∙ ap (λ ws. front ++ batch_bytes ws) (ap (λ w. take i vs ++ w ∷ []) is ∙ sym (take_more vs i v lt))

pub length_more : (vs : List Vector) (i : ℕ) (v : Vector) → i < length vs → v ≡ get_or vs i v → length (batch_bytes (take (i + 1) vs)) ≡ length (batch_bytes (take i vs)) + (12 + 12 * length v.moves)
length_more vs i v lt is =
    ap length (sym (batch_more [] vs i v lt is)) ∙ length-append (batch_bytes (take i vs)) (vector_bytes v) ∙ ap (λ n. length (batch_bytes (take i vs)) + n) (length-vector v)

pub length_within : (vs : List Vector) (i : ℕ) (v : Vector) → i < length vs → v ≡ get_or vs i v → length (batch_bytes (take i vs)) + (12 + 12 * length v.moves) ≤ length (batch_bytes vs)
length_within vs i v lt is =
    let within : length (batch_bytes (take i vs)) + length (vector_bytes (get_or vs i v)) ≤ length (batch_bytes vs) = length-flat_map-take vector_bytes vs i v lt in
    omega (arith, length-vector v, ap (λ w. length (vector_bytes w)) is)

same_bit : (a b : Bit) → number_of a ≡ number_of b → a ≡ b
same_bit Zero Zero e = refl
same_bit Zero One e = absurd (omega arith)
same_bit Zero X e = absurd (omega arith)
same_bit Zero Z e = absurd (omega arith)
same_bit One Zero e = absurd (omega arith)
same_bit One One e = refl
same_bit One X e = absurd (omega arith)
same_bit One Z e = absurd (omega arith)
same_bit X Zero e = absurd (omega arith)
same_bit X One e = absurd (omega arith)
same_bit X X e = refl
same_bit X Z e = absurd (omega arith)
same_bit Z Zero e = absurd (omega arith)
same_bit Z One e = absurd (omega arith)
same_bit Z X e = absurd (omega arith)
same_bit Z Z e = refl

pub small_value : (a : Bit) → number_of a < 2 ^ 64
small_value Zero = omega arith
small_value One = omega arith
small_value X = omega arith
small_value Z = omega arith

-- moves of inputs below n are read one by one
same_moves : (n : ℕ) → n < 2 ^ 32 → (ms ns : List Move) (xs ys : List ℕ) → All (λ i. i < n) (assigned ms) → All (λ i. i < n) (assigned ns) → length ms ≡ length ns →
    flat_map move_bytes ms ++ xs ≡ flat_map move_bytes ns ++ ys → (ms ≡ ns) × (xs ≡ ys)
same_moves n few [] [] xs ys within within' long e = (refl, e)
same_moves n few [] (m ∷ ns) xs ys within within' long e = absurd (omega arith)
same_moves n few (m ∷ ms) [] xs ys within within' long e = absurd (omega arith)
same_moves n few (m ∷ ms) (p ∷ ns) xs ys within within' long e =
    let low : m.input < n = within 0 0 (omega arith) in
    let low' : p.input < n = within' 0 0 (omega arith) in
    let input = four_are_one m.input p.input (to_le_bytes w64 (number_of m.value) ++ (flat_map move_bytes ms ++ xs)) (to_le_bytes w64 (number_of p.value) ++ (flat_map move_bytes ns ++ ys)) (omega arith) (omega arith) e in
    let value = eight_are_one (number_of m.value) (number_of p.value) (flat_map move_bytes ms ++ xs) (flat_map move_bytes ns ++ ys) (small_value m.value) (small_value p.value) input.1 in
    let rest = same_moves n few ms ns xs ys (All-tail (λ i. i < n) m.input (assigned ms) within) (All-tail (λ i. i < n) p.input (assigned ns) within') (omega arith) value.1 in
    let move : m ≡ p = ap (λ i. record { input = i; value = m.value }) input.0 ∙ ap (λ b. record { input = p.input; value = b }) (same_bit m.value p.value value.0) in
    (ap (λ x. x ∷ ms) move ∙ ap (λ zs. p ∷ zs) rest.0, rest.1)

-- bytes begin with one vector in form at most
pub same_vector : (d : Netlist) → length d.inputs < 2 ^ 32 → (v w : Vector) (xs ys : List ℕ) → IsInForm d v → IsInForm d w → vector_bytes v ++ xs ≡ vector_bytes w ++ ys → (v ≡ w) × (xs ≡ ys)
same_vector d few v w xs ys form form' e =
    let many : length v.moves ≤ length d.inputs = moves_at_most d v form in
    let many' : length w.moves ≤ length d.inputs = moves_at_most d w form' in
    let time = eight_are_one v.time w.time (to_le_bytes w32 (length v.moves) ++ (flat_map move_bytes v.moves ++ xs)) (to_le_bytes w32 (length w.moves) ++ (flat_map move_bytes w.moves ++ ys)) form.time form'.time e in
    let count = four_are_one (length v.moves) (length w.moves) (flat_map move_bytes v.moves ++ xs) (flat_map move_bytes w.moves ++ ys) (omega arith) (omega arith) time.1 in
    let moves = same_moves (length d.inputs) few v.moves w.moves xs ys form.vector.inputs form'.vector.inputs count.0 count.1 in
    (ap (λ t. record { time = t; moves = v.moves }) time.0 ∙ ap (λ ms. record { time = w.time; moves = ms }) moves.0, moves.1)

pub same_batch : (d : Netlist) → length d.inputs < 2 ^ 32 → (vs ws : List Vector) → All (IsInForm d) vs → All (IsInForm d) ws → batch_bytes vs ≡ batch_bytes ws → vs ≡ ws
same_batch d few [] [] forms forms' e = refl
same_batch d few [] (w ∷ ws) forms forms' e = absurd (omega (arith, ap length e))
same_batch d few (v ∷ vs) [] forms forms' e = absurd (omega (arith, ap length e))
same_batch d few (v ∷ vs) (w ∷ ws) forms forms' e =
    let one = same_vector d few v w (batch_bytes vs) (batch_bytes ws) (All-head (IsInForm d) v vs forms) (All-head (IsInForm d) w ws forms') e in
    ap (λ x. x ∷ vs) one.0 ∙ ap (λ xs. w ∷ xs) (same_batch d few vs ws (All-tail (IsInForm d) v vs forms) (All-tail (IsInForm d) w ws forms') one.1)
