-- Operators on values of four states by those on their planes.
use Rattle.std.proofs.Common.{◌≡◌, ℕ, zero, suc, Bool, true, false, not, ◌&&◌, ◌||◌, cond, List, [], ◌∷◌, length, map, replicate, refl, sym, ◌∙◌, ap, arith}
use Rattle.std.specs.Int.{bit_at}
use Rattle.std.specs.List.{list_any, list_all}
use Rattle.std.proofs.Math.Bool.{and-false}
use Rattle.std.proofs.lemmas.Nat.Bits.{bit_at-lt, bit_at-zero}
use Rattle.vod_bits.specs.Bit.{Bit, B0, B1, BX, BZ, is_0, is_1, is_known, bit_if, not_bit, and_bit, or_bit, xor_bit}
use Rattle.vod_bits.specs.Value.{bits_from, bits_of, digit_bit, all_known, zip_with, fold_bits}
use Rattle.vod_bits.specs.Fields.{digit_cases}
use Rattle.vod_bits.proofs.Places.{bits_from-same, replicate-bits_from}
use Rattle.vod_bits.specs.Lengths.{zip_length, map_length}
use Rattle.vod_four.specs.Four.{four_bit, four_of, operand_bit, merge_bit, any_differ, equal_bit, truth_bit, choose_bits}
use Rattle.vod_four.specs.Fields.{one_bit, unk_bit, sure_bit, possible_bit, bounded_bit, four-places}

-- what holds of each bit, and of each pair of bits
pub bit_cases : (P : Bit → Type 0) → P B0 → P B1 → P BX → P BZ → (b : Bit) → P b
bit_cases P p q r s B0 = p
bit_cases P p q r s B1 = q
bit_cases P p q r s BX = r
bit_cases P p q r s BZ = s

pub bit_pairs : (P : Bit → Bit → Type 0) → P B0 B0 → P B0 B1 → P B0 BX → P B0 BZ → P B1 B0 → P B1 B1 → P B1 BX → P B1 BZ
    → P BX B0 → P BX B1 → P BX BX → P BX BZ → P BZ B0 → P BZ B1 → P BZ BX → P BZ BZ → (a b : Bit) → P a b
bit_pairs P a b c d e f g h i j k l m n o p x y =
    bit_cases (λ x. P x y) (bit_cases (P B0) a b c d y) (bit_cases (P B1) e f g h y) (bit_cases (P BX) i j k l y) (bit_cases (P BZ) m n o p y) x

-- a value is made of its planes
pub rebuilt : (xs : List Bit) → zip_with four_bit (map one_bit xs) (map unk_bit xs) ≡ xs
unfolding zip_with
rebuilt [] = refl
rebuilt (x ∷ xs) =
    let here : four_bit (one_bit x) (unk_bit x) ≡ x = bit_cases (λ x. four_bit (one_bit x) (unk_bit x) ≡ x) refl refl refl refl x in
    let more : zip_with four_bit (map one_bit xs) (map unk_bit xs) ≡ xs = rebuilt xs in cc

-- an operator on bits that two others on planes give, with the lists in one form
pub zip-map : (h : Bit → Bit → Bit) (f p q : Bit → Bit) → ((x : Bit) → h (p x) (q x) ≡ f x) → (xs : List Bit) → zip_with h (map p xs) (map q xs) ≡ map f xs
unfolding zip_with
zip-map h f p q table [] = refl
zip-map h f p q table (x ∷ xs) =
    let here : h (p x) (q x) ≡ f x = table x in
    let more : zip_with h (map p xs) (map q xs) ≡ map f xs = zip-map h f p q table xs in cc

pub map-map : (f g h : Bit → Bit) → ((x : Bit) → f (g x) ≡ h x) → (xs : List Bit) → map f (map g xs) ≡ map h xs
map-map f g h table [] = refl
map-map f g h table (x ∷ xs) =
    let here : f (g x) ≡ h x = table x in
    let more : map f (map g xs) ≡ map h xs = map-map f g h table xs in cc

pub sure-planes : (xs : List Bit) → zip_with and_bit (map one_bit xs) (map not_bit (map unk_bit xs)) ≡ map sure_bit xs
sure-planes xs =
    ap (zip_with and_bit (map one_bit xs)) (map-map not_bit unk_bit (λ x. not_bit (unk_bit x)) (λ x. refl) xs)
    ∙ zip-map and_bit sure_bit one_bit (λ x. not_bit (unk_bit x)) (bit_cases (λ x. and_bit (one_bit x) (not_bit (unk_bit x)) ≡ sure_bit x) refl refl refl refl) xs

pub possible-planes : (xs : List Bit) → zip_with or_bit (map one_bit xs) (map unk_bit xs) ≡ map possible_bit xs
possible-planes xs = zip-map or_bit possible_bit one_bit unk_bit (bit_cases (λ x. or_bit (one_bit x) (unk_bit x) ≡ possible_bit x) refl refl refl refl) xs

pub bounds-planes : (xs ys : List Bit) → zip_with four_bit xs (zip_with and_bit ys (map not_bit xs)) ≡ zip_with bounded_bit xs ys
unfolding zip_with
bounds-planes [] ys = refl
bounds-planes (x ∷ xs) [] = refl
bounds-planes (x ∷ xs) (y ∷ ys) = ap (λ bs. bounded_bit x y ∷ bs) (bounds-planes xs ys)

pub bounds-zip : (f g h : Bit → Bit → Bit) → ((a b : Bit) → bounded_bit (f (sure_bit a) (sure_bit b)) (g (possible_bit a) (possible_bit b)) ≡ h a b)
    → (xs ys : List Bit) → zip_with bounded_bit (zip_with f (map sure_bit xs) (map sure_bit ys)) (zip_with g (map possible_bit xs) (map possible_bit ys)) ≡ zip_with h xs ys
unfolding zip_with
bounds-zip f g h table [] ys = refl
bounds-zip f g h table (x ∷ xs) [] = refl
bounds-zip f g h table (x ∷ xs) (y ∷ ys) =
    let here : bounded_bit (f (sure_bit x) (sure_bit y)) (g (possible_bit x) (possible_bit y)) ≡ h x y = table x y in
    let more : zip_with bounded_bit (zip_with f (map sure_bit xs) (map sure_bit ys)) (zip_with g (map possible_bit xs) (map possible_bit ys)) ≡ zip_with h xs ys
    = bounds-zip f g h table xs ys in cc

pub and-planes : (xs ys : List Bit) → zip_with bounded_bit (zip_with and_bit (map sure_bit xs) (map sure_bit ys)) (zip_with and_bit (map possible_bit xs) (map possible_bit ys)) ≡ zip_with and_bit xs ys
and-planes xs ys = bounds-zip and_bit and_bit and_bit
    (bit_pairs (λ a b. bounded_bit (and_bit (sure_bit a) (sure_bit b)) (and_bit (possible_bit a) (possible_bit b)) ≡ and_bit a b)
    refl refl refl refl refl refl refl refl refl refl refl refl refl refl refl refl) xs ys

pub or-planes : (xs ys : List Bit) → zip_with bounded_bit (zip_with or_bit (map sure_bit xs) (map sure_bit ys)) (zip_with or_bit (map possible_bit xs) (map possible_bit ys)) ≡ zip_with or_bit xs ys
or-planes xs ys = bounds-zip or_bit or_bit or_bit
    (bit_pairs (λ a b. bounded_bit (or_bit (sure_bit a) (sure_bit b)) (or_bit (possible_bit a) (possible_bit b)) ≡ or_bit a b)
    refl refl refl refl refl refl refl refl refl refl refl refl refl refl refl refl) xs ys

pub merge-planes : (xs ys : List Bit) → zip_with bounded_bit (zip_with and_bit (map sure_bit xs) (map sure_bit ys)) (zip_with or_bit (map possible_bit xs) (map possible_bit ys)) ≡ zip_with merge_bit xs ys
merge-planes xs ys = bounds-zip and_bit or_bit merge_bit
    (bit_pairs (λ a b. bounded_bit (and_bit (sure_bit a) (sure_bit b)) (or_bit (possible_bit a) (possible_bit b)) ≡ merge_bit a b)
    refl refl refl refl refl refl refl refl refl refl refl refl refl refl refl refl) xs ys

-- `^`: the ones differ, where none is unknown
abbrev pub xor_one : Bit → Bit → Bit
xor_one a b = and_bit (xor_bit (one_bit a) (one_bit b)) (not_bit (or_bit (unk_bit a) (unk_bit b)))

xor-table : (a b : Bit) → four_bit (xor_one a b) (or_bit (unk_bit a) (unk_bit b)) ≡ xor_bit a b
xor-table = bit_pairs (λ a b. four_bit (xor_one a b) (or_bit (unk_bit a) (unk_bit b)) ≡ xor_bit a b)
    refl refl refl refl refl refl refl refl refl refl refl refl refl refl refl refl

pub xor-planes : (xs ys : List Bit) → zip_with four_bit
    (zip_with and_bit (zip_with xor_bit (map one_bit xs) (map one_bit ys)) (map not_bit (zip_with or_bit (map unk_bit xs) (map unk_bit ys))))
    (zip_with or_bit (map unk_bit xs) (map unk_bit ys)) ≡ zip_with xor_bit xs ys
unfolding zip_with
xor-planes [] ys = refl
xor-planes (x ∷ xs) [] = refl
xor-planes (x ∷ xs) (y ∷ ys) =
    let more : zip_with four_bit
    (zip_with and_bit (zip_with xor_bit (map one_bit xs) (map one_bit ys)) (map not_bit (zip_with or_bit (map unk_bit xs) (map unk_bit ys))))
    (zip_with or_bit (map unk_bit xs) (map unk_bit ys)) ≡ zip_with xor_bit xs ys = xor-planes xs ys in
    rw (xor-table x y, more) refl

pub not-planes : (xs : List Bit) → zip_with bounded_bit (map not_bit (map possible_bit xs)) (map not_bit (map sure_bit xs)) ≡ map not_bit xs
unfolding zip_with
not-planes [] = refl
not-planes (x ∷ xs) =
    let here : bounded_bit (not_bit (possible_bit x)) (not_bit (sure_bit x)) ≡ not_bit x
    = bit_cases (λ x. bounded_bit (not_bit (possible_bit x)) (not_bit (sure_bit x)) ≡ not_bit x) refl refl refl refl x in
    let more : zip_with bounded_bit (map not_bit (map possible_bit xs)) (map not_bit (map sure_bit xs)) ≡ map not_bit xs = not-planes xs in
    rw (here, more) refl

-- ---- known values

pub same_test : (a b : Bool) → bit_if a ≡ bit_if b → a ≡ b
same_test true true e = refl
same_test true false e = cc
same_test false true e = cc
same_test false false e = refl

unks-step : (k : Bool) (x : Bit) → or_bit (unk_bit x) (bit_if (not k)) ≡ bit_if (not (is_known x && k))
unks-step true = bit_cases (λ x. or_bit (unk_bit x) (bit_if (not true)) ≡ bit_if (not (is_known x && true))) refl refl refl refl
unks-step false = bit_cases (λ x. or_bit (unk_bit x) (bit_if (not false)) ≡ bit_if (not (is_known x && false))) refl refl refl refl

pub unks-any : (xs : List Bit) → fold_bits or_bit B0 (map unk_bit xs) ≡ bit_if (not (all_known xs))
unfolding fold_bits
unks-any [] = refl
unks-any (x ∷ xs) = rw (unks-any xs) (unks-step (all_known xs) x)

pub ones-known : (xs : List Bit) → all_known xs ≡ true → map one_bit xs ≡ xs
ones-known [] k = refl
ones-known (B0 ∷ xs) k = ap (λ bs. B0 ∷ bs) (ones-known xs k)
ones-known (B1 ∷ xs) k = ap (λ bs. B1 ∷ bs) (ones-known xs k)
ones-known (BX ∷ xs) k = cc
ones-known (BZ ∷ xs) k = cc

pub of-bits : (w n : ℕ) → four_of w n 0 ≡ bits_of w n
of-bits w n = four-places w n 0 ∙ bits_from-same _ _ w (λ i _.
    rw (bit_at-zero i) (digit_cases (λ d. four_bit (digit_bit d) B0 ≡ digit_bit d) refl refl (bit_at n i) (bit_at-lt n i)))

pub bits-known : (w n : ℕ) → all_known (bits_of w n) ≡ true
unfolding bits_from
bits-known zero n = refl
bits-known (suc w) n =
    let here : is_known (digit_bit (bit_at n w)) ≡ true = digit_cases (λ d. is_known (digit_bit d) ≡ true) refl refl (bit_at n w) (bit_at-lt n w) in
    rw here (bits-known w n)

pub zero-bits : (w : ℕ) → bits_of w 0 ≡ replicate w B0
zero-bits w = bits_from-same _ _ w (λ i _. rw (bit_at-zero i) refl) ∙ sym (replicate-bits_from B0 w)

pub unknown-bits : (w : ℕ) → zip_with four_bit (replicate w B0) (map not_bit (replicate w B0)) ≡ replicate w BX
unfolding zip_with
unknown-bits zero = refl
unknown-bits (suc w) = ap (λ bs. BX ∷ bs) (unknown-bits w)

-- ---- folds

fold-map : (f : Bit → Bit → Bit) (p : Bit → Bit) → ((a b : Bit) → f (p a) (p b) ≡ p (f a b)) → (start : Bit) → p start ≡ start → (xs : List Bit) → fold_bits f start (map p xs) ≡ p (fold_bits f start xs)
unfolding fold_bits
fold-map f p table start e [] = sym e
fold-map f p table start e (x ∷ xs) = ap (f (p x)) (fold-map f p table start e xs) ∙ table x (fold_bits f start xs)

operand-fold : (f : Bit → Bit → Bit) → ((a b : Bit) → operand_bit (f a b) ≡ f a b) → (start : Bit) → operand_bit start ≡ start → (xs : List Bit) → operand_bit (fold_bits f start xs) ≡ fold_bits f start xs
unfolding fold_bits
operand-fold f table start e [] = e
operand-fold f table start e (x ∷ xs) = table x (fold_bits f start xs)

bounded-is : (b : Bit) → bounded_bit (sure_bit b) (possible_bit b) ≡ operand_bit b
bounded-is = bit_cases (λ b. bounded_bit (sure_bit b) (possible_bit b) ≡ operand_bit b) refl refl refl refl

pub all-planes : (xs : List Bit) → bounded_bit (fold_bits and_bit B1 (map sure_bit xs)) (fold_bits and_bit B1 (map possible_bit xs)) ≡ fold_bits and_bit B1 xs
all-planes xs =
    rw (
      fold-map and_bit sure_bit (bit_pairs (λ a b. and_bit (sure_bit a) (sure_bit b) ≡ sure_bit (and_bit a b)) refl refl refl refl refl refl refl refl refl refl refl refl refl refl refl refl) B1 refl xs,
      fold-map and_bit possible_bit (bit_pairs (λ a b. and_bit (possible_bit a) (possible_bit b) ≡ possible_bit (and_bit a b)) refl refl refl refl refl refl refl refl refl refl refl refl refl refl refl refl) B1 refl xs,
    )
    (bounded-is (fold_bits and_bit B1 xs) ∙ operand-fold and_bit (bit_pairs (λ a b. operand_bit (and_bit a b) ≡ and_bit a b) refl refl refl refl refl refl refl refl refl refl refl refl refl refl refl refl) B1 refl xs)

pub any-planes : (xs : List Bit) → bounded_bit (fold_bits or_bit B0 (map sure_bit xs)) (fold_bits or_bit B0 (map possible_bit xs)) ≡ fold_bits or_bit B0 xs
any-planes xs =
    rw (
      fold-map or_bit sure_bit (bit_pairs (λ a b. or_bit (sure_bit a) (sure_bit b) ≡ sure_bit (or_bit a b)) refl refl refl refl refl refl refl refl refl refl refl refl refl refl refl refl) B0 refl xs,
      fold-map or_bit possible_bit (bit_pairs (λ a b. or_bit (possible_bit a) (possible_bit b) ≡ possible_bit (or_bit a b)) refl refl refl refl refl refl refl refl refl refl refl refl refl refl refl refl) B0 refl xs,
    )
    (bounded-is (fold_bits or_bit B0 xs) ∙ operand-fold or_bit (bit_pairs (λ a b. operand_bit (or_bit a b) ≡ or_bit a b) refl refl refl refl refl refl refl refl refl refl refl refl refl refl refl refl) B0 refl xs)

-- a parity with an unknown bit isn't known
pub parity-unknown : (xs : List Bit) → all_known xs ≡ false → fold_bits xor_bit B0 xs ≡ BX
unfolding fold_bits
parity-unknown [] k = cc
parity-unknown (B0 ∷ xs) k = rw (parity-unknown xs k) refl
parity-unknown (B1 ∷ xs) k = rw (parity-unknown xs k) refl
parity-unknown (BX ∷ xs) k = refl
parity-unknown (BZ ∷ xs) k = refl

truth-step : (x : Bit) (e a : Bool) → cond (is_1 x || e) B1 (cond (is_0 x && a) B0 BX) ≡ or_bit x (cond e B1 (cond a B0 BX))
truth-step B0 true a = refl
truth-step B0 false true = refl
truth-step B0 false false = refl
truth-step B1 e a = refl
truth-step BX true a = refl
truth-step BX false true = refl
truth-step BX false false = refl
truth-step BZ true a = refl
truth-step BZ false true = refl
truth-step BZ false false = refl

-- the truth of a value is `|` of its bits
pub truth-any : (xs : List Bit) → truth_bit xs ≡ fold_bits or_bit B0 xs
unfolding truth_bit fold_bits
truth-any [] = refl
truth-any (x ∷ xs) = truth-step x (list_any is_1 xs) (list_all is_0 xs) ∙ ap (or_bit x) (truth-any xs)

-- 0 where some known bits differ, else 1 or x
abbrev equal_of : Bool → Bool → Bit
equal_of e k = cond e B0 (cond k B1 BX)

one-step : (e k : Bool) → equal_of e k ≡ and_bit B1 (equal_of e k)
one-step true k = refl
one-step false true = refl
one-step false false = refl

x-step : (e k : Bool) → equal_of e false ≡ and_bit BX (equal_of e k)
x-step true k = refl
x-step false true = refl
x-step false false = refl

equal-step : (x y : Bit) (e k l : Bool) → equal_of (((is_0 x && is_1 y) || (is_1 x && is_0 y)) || e) ((is_known x && k) && (is_known y && l)) ≡ and_bit (not_bit (xor_bit x y)) (equal_of e (k && l))
equal-step B0 B0 e k l = one-step e (k && l)
equal-step B0 B1 e k l = refl
equal-step B0 BX e k l = rw (and-false k) (x-step e (k && l))
equal-step B0 BZ e k l = rw (and-false k) (x-step e (k && l))
equal-step B1 B0 e k l = refl
equal-step B1 B1 e k l = one-step e (k && l)
equal-step B1 BX e k l = rw (and-false k) (x-step e (k && l))
equal-step B1 BZ e k l = rw (and-false k) (x-step e (k && l))
equal-step BX y e k l = bit_cases (λ y. equal_of (((is_0 BX && is_1 y) || (is_1 BX && is_0 y)) || e) ((is_known BX && k) && (is_known y && l)) ≡ and_bit (not_bit (xor_bit BX y)) (equal_of e (k && l)))
    (x-step e (k && l)) (x-step e (k && l)) (x-step e (k && l)) (x-step e (k && l)) y
equal-step BZ y e k l = bit_cases (λ y. equal_of (((is_0 BZ && is_1 y) || (is_1 BZ && is_0 y)) || e) ((is_known BZ && k) && (is_known y && l)) ≡ and_bit (not_bit (xor_bit BZ y)) (equal_of e (k && l)))
    (x-step e (k && l)) (x-step e (k && l)) (x-step e (k && l)) (x-step e (k && l)) y

-- `==` is `&` of the bits of `~^`
pub equal-fold : (xs ys : List Bit) → length xs ≡ length ys → equal_bit xs ys ≡ fold_bits and_bit B1 (map not_bit (zip_with xor_bit xs ys))
unfolding equal_bit any_differ fold_bits zip_with
equal-fold [] [] e = refl
equal-fold [] (y ∷ ys) e = absurd (omega arith)
equal-fold (x ∷ xs) [] e = absurd (omega arith)
equal-fold (x ∷ xs) (y ∷ ys) e =
    let same : length xs ≡ length ys = omega arith in
    equal-step x y (any_differ xs ys) (all_known xs) (all_known ys) ∙ ap (and_bit (not_bit (xor_bit x y))) (equal-fold xs ys same)

-- ---- known operands and others

no_from_not : (k : Bool) → true ≡ not k → k ≡ false
no_from_not true e = cc
no_from_not false e = refl

yes_from_not : (k : Bool) → false ≡ not k → k ≡ true
yes_from_not true e = refl
yes_from_not false e = cc

pub unknown-any : (xs : List Bit) → B1 ≡ fold_bits or_bit B0 (map unk_bit xs) → all_known xs ≡ false
unknown-any xs h = no_from_not (all_known xs) (same_test true (not (all_known xs)) (h ∙ unks-any xs))

pub known-any : (xs : List Bit) → B0 ≡ fold_bits or_bit B0 (map unk_bit xs) → all_known xs ≡ true
known-any xs h = yes_from_not (all_known xs) (same_test false (not (all_known xs)) (h ∙ unks-any xs))

pub choose-known : (t : Bit) (xs ys : List Bit) → all_known (t ∷ []) ≡ true → cond (is_1 (fold_bits or_bit B0 (t ∷ []))) xs ys ≡ choose_bits t xs ys
unfolding fold_bits
choose-known B0 xs ys k = refl
choose-known B1 xs ys k = refl
choose-known BX xs ys k = cc
choose-known BZ xs ys k = cc

pub choose-unknown : (t : Bit) (xs ys : List Bit) → all_known (t ∷ []) ≡ false → zip_with merge_bit xs ys ≡ choose_bits t xs ys
choose-unknown B0 xs ys k = cc
choose-unknown B1 xs ys k = cc
choose-unknown BX xs ys k = refl
choose-unknown BZ xs ys k = refl

pub same-planes : (xs ys : List Bit) → map one_bit xs ≡ map one_bit ys → map unk_bit xs ≡ map unk_bit ys → xs ≡ ys
same-planes xs ys e d = sym (rebuilt xs) ∙ ap (λ os. zip_with four_bit os (map unk_bit xs)) e ∙ ap (zip_with four_bit (map one_bit ys)) d ∙ rebuilt ys

pub pair_length : (f g : Bit → Bit → Bit) (p q : Bit → Bit) (xs ys : List Bit) → length xs ≡ length ys → length (zip_with f (map p xs) (map p ys)) ≡ length (zip_with g (map q xs) (map q ys))
pair_length f g p q xs ys e =
    let a : length (map p xs) ≡ length xs = map_length p xs in
    let b : length (map p ys) ≡ length ys = map_length p ys in
    let c : length (map q xs) ≡ length xs = map_length q xs in
    let d : length (map q ys) ≡ length ys = map_length q ys in
    let m : length (map p xs) ≡ length (map p ys) = omega arith in
    let n : length (map q xs) ≡ length (map q ys) = omega arith in
    zip_length f (map p xs) (map p ys) m ∙ a ∙ sym c ∙ sym (zip_length g (map q xs) (map q ys) n)

pub bounds_length : (xs ys : List Bit) → length xs ≡ length ys → length xs ≡ length (zip_with and_bit ys (map not_bit xs))
bounds_length xs ys e =
    let a : length (map not_bit xs) ≡ length xs = map_length not_bit xs in
    let m : length ys ≡ length (map not_bit xs) = omega arith in
    e ∙ sym (zip_length and_bit ys (map not_bit xs) m)
