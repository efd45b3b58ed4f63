-- Known operands give known results, operator by operator.
use Rattle.std.proofs.Common.{arith, ◌≡◌, ◌≤◌, ℕ, zero, suc, ◌+◌, ◌-◌, ◌*◌, ◌^◌, ◌&&◌, nat_lt, int_lt, Bool, true, false, if◌then◌else◌, List, [], ◌∷◌, ◌++◌, length, map, take, drop, replicate, refl}
use Rattle.std.specs.List.{list_any, list_all}
use Rattle.std.specs.Int.{bit_at}
use Rattle.std.proofs.lemmas.Bool.{and_parts}
use Rattle.vod_bits.specs.Bit.{Bit, B0, B1, BX, BZ, is_0, is_1, is_known, bit_if, not_bit, and_bit, or_bit, xor_bit}
use Rattle.vod_bits.specs.Value.{bits_from, digit_bit, bits_of, number_of, signed_of, upper_bit, all_known, zip_with, fold_bits, shift_left, shift_right, resize_bits}
use Rattle.vod_four.specs.Four.{operand_bit, number_or_x, sum_bits, difference_bits, product_bits, negative_bits, less_bit, less_signed_bit, any_differ, equal_bit, truth_bit, shift_left_by, shift_right_by, shift_signed_by, choose_bits}
use Rattle.vod_design.specs.declared.sized.UnaryOp.{UnaryOp}
use Rattle.vod_design.specs.declared.sized.UnaryOp.TheVariants as unary
use Rattle.vod_design.specs.declared.sized.BinaryOp.{BinaryOp}
use Rattle.vod_design.specs.declared.sized.BinaryOp.TheVariants as binary
use Rattle.vod_design.specs.declared.sized.ComparisonOp.{ComparisonOp}
use Rattle.vod_design.specs.declared.sized.ComparisonOp.TheVariants as comparison
use Rattle.vod_design.specs.declared.sized.LogicalOp.{LogicalOp}
use Rattle.vod_design.specs.declared.sized.LogicalOp.TheVariants as logical
use Rattle.vod_design.specs.declared.sized.ReductionOp.{ReductionOp}
use Rattle.vod_design.specs.declared.sized.ReductionOp.TheVariants as reduction
use Rattle.vod_design.specs.declared.sized.ShiftOp.{ShiftOp}
use Rattle.vod_design.specs.declared.sized.ShiftOp.TheVariants as shift
use Rattle.vod_design.specs.declared.sized.GateOp.{GateOp}
use Rattle.vod_design.specs.declared.sized.GateOp.TheVariants as gate
use Rattle.vod_design.specs.Eval.{unary_bits, binary_bits, less, identical_bit, comparison_bit, compared, logical_bit, reduction_bit, shift_bits, buf_bit, fold_inputs, latest, gate_bit, repeated}
use Rattle.vod_design.specs.Values.{Operand, bounded, at_size, select_bits}
use Rattle.vod_slot.proofs.Replaced.{selected_inside}
use Rattle.vod_slot.specs.Known.{IsKnown}

abbrev pub AreKnown : List Bit → Type 0
AreKnown bs = all_known bs ≡ true

-- bits

pub not_known : (a : Bit) → IsKnown a → IsKnown (not_bit a)
not_known B0 h = refl
not_known B1 h = refl
not_known BX h = absurd (cc)
not_known BZ h = absurd (cc)

pub operand_known : (a : Bit) → IsKnown a → IsKnown (operand_bit a)
operand_known B0 h = refl
operand_known B1 h = refl
operand_known BX h = absurd (cc)
operand_known BZ h = absurd (cc)

pub buf_known : (a : Bit) → IsKnown a → IsKnown (buf_bit a)
buf_known B0 h = refl
buf_known B1 h = refl
buf_known BX h = absurd (cc)
buf_known BZ h = absurd (cc)

pub and_known : (a b : Bit) → IsKnown a → IsKnown b → IsKnown (and_bit a b)
and_known B0 B0 h k = refl
and_known B0 B1 h k = refl
and_known B0 BX h k = absurd (cc)
and_known B0 BZ h k = absurd (cc)
and_known B1 B0 h k = refl
and_known B1 B1 h k = refl
and_known B1 BX h k = absurd (cc)
and_known B1 BZ h k = absurd (cc)
and_known BX b h k = absurd (cc)
and_known BZ b h k = absurd (cc)

pub or_known : (a b : Bit) → IsKnown a → IsKnown b → IsKnown (or_bit a b)
or_known B0 B0 h k = refl
or_known B0 B1 h k = refl
or_known B0 BX h k = absurd (cc)
or_known B0 BZ h k = absurd (cc)
or_known B1 B0 h k = refl
or_known B1 B1 h k = refl
or_known B1 BX h k = absurd (cc)
or_known B1 BZ h k = absurd (cc)
or_known BX b h k = absurd (cc)
or_known BZ b h k = absurd (cc)

pub xor_known : (a b : Bit) → IsKnown a → IsKnown b → IsKnown (xor_bit a b)
xor_known B0 B0 h k = refl
xor_known B0 B1 h k = refl
xor_known B0 BX h k = absurd (cc)
xor_known B0 BZ h k = absurd (cc)
xor_known B1 B0 h k = refl
xor_known B1 B1 h k = refl
xor_known B1 BX h k = absurd (cc)
xor_known B1 BZ h k = absurd (cc)
xor_known BX b h k = absurd (cc)
xor_known BZ b h k = absurd (cc)

latest_known : (a b : Bit) → IsKnown a → IsKnown b → IsKnown (latest a b)
latest_known a b h k = k

pub if_known : (b : Bool) → IsKnown (bit_if b)
if_known true = refl
if_known false = refl

digit_known : (n : ℕ) → IsKnown (digit_bit n)
digit_known zero = refl
digit_known (suc n) = refl

-- lists of them

pub known_cons : (b : Bit) (bs : List Bit) → IsKnown b → AreKnown bs → AreKnown (b ∷ bs)
known_cons b bs h k = rw h k

pub known_head : (b : Bit) (bs : List Bit) → AreKnown (b ∷ bs) → IsKnown b
known_head b bs h = (and_parts (is_known b) (all_known bs) h).0

pub known_tail : (b : Bit) (bs : List Bit) → AreKnown (b ∷ bs) → AreKnown bs
known_tail b bs h = (and_parts (is_known b) (all_known bs) h).1

pub known_one : (b : Bit) → IsKnown b → AreKnown (b ∷ [])
known_one b h = known_cons b [] h refl

pub known_append : (xs ys : List Bit) → AreKnown xs → AreKnown ys → AreKnown (xs ++ ys)
known_append [] ys h k = k
known_append (x ∷ xs) ys h k = known_cons x (xs ++ ys) (known_head x xs h) (known_append xs ys (known_tail x xs h) k)

pub known_take : (n : ℕ) (xs : List Bit) → AreKnown xs → AreKnown (take n xs)
known_take zero xs h = refl
known_take (suc n) [] h = refl
known_take (suc n) (x ∷ xs) h = known_cons x (take n xs) (known_head x xs h) (known_take n xs (known_tail x xs h))

pub known_drop : (n : ℕ) (xs : List Bit) → AreKnown xs → AreKnown (drop n xs)
known_drop zero xs h = h
known_drop (suc n) [] h = refl
known_drop (suc n) (x ∷ xs) h = known_drop n xs (known_tail x xs h)

pub known_copies : (n : ℕ) (b : Bit) → IsKnown b → AreKnown (replicate n b)
known_copies zero b h = refl
known_copies (suc n) b h = known_cons b (replicate n b) h (known_copies n b h)

known_map : (f : Bit → Bit) → ((b : Bit) → IsKnown b → IsKnown (f b)) → (xs : List Bit) → AreKnown xs → AreKnown (map f xs)
known_map f each [] h = refl
known_map f each (x ∷ xs) h = known_cons (f x) (map f xs) (each x (known_head x xs h)) (known_map f each xs (known_tail x xs h))

known_zip : (f : Bit → Bit → Bit) → ((a b : Bit) → IsKnown a → IsKnown b → IsKnown (f a b)) → (xs ys : List Bit) → AreKnown xs → AreKnown ys → AreKnown (zip_with f xs ys)
unfolding zip_with
known_zip f each [] ys h k = refl
known_zip f each (x ∷ xs) [] h k = refl
known_zip f each (x ∷ xs) (y ∷ ys) h k = known_cons (f x y) (zip_with f xs ys) (each x y (known_head x xs h) (known_head y ys k)) (known_zip f each xs ys (known_tail x xs h) (known_tail y ys k))

known_fold : (f : Bit → Bit → Bit) → ((a b : Bit) → IsKnown a → IsKnown b → IsKnown (f a b)) → (start : Bit) (xs : List Bit) → IsKnown start → AreKnown xs → IsKnown (fold_bits f start xs)
unfolding fold_bits
known_fold f each start [] h k = h
known_fold f each start (x ∷ xs) h k = each x (fold_bits f start xs) (known_head x xs k) (known_fold f each start xs h (known_tail x xs k))

known_inputs : (f : Bit → Bit → Bit) → ((a b : Bit) → IsKnown a → IsKnown b → IsKnown (f a b)) → (start : Bit) (xs : List Bit) → IsKnown start → AreKnown xs → IsKnown (fold_inputs f start xs)
unfolding fold_inputs
known_inputs f each start [] h k = h
known_inputs f each start (x ∷ xs) h k = known_inputs f each (f start x) xs (each start x h (known_head x xs k)) (known_tail x xs k)

-- of no matter what there was first
last_known : (start : Bit) (xs : List Bit) → 1 ≤ length xs → AreKnown xs → IsKnown (fold_inputs latest start xs)
unfolding fold_inputs
last_known start [] h k = absurd (omega arith)
last_known start (x ∷ xs) h k = known_inputs latest latest_known x xs (known_head x xs k) (known_tail x xs k)

known_from : (at : ℕ → ℕ) (n : ℕ) → AreKnown (bits_from (λ i. digit_bit (at i)) n)
unfolding bits_from
known_from at zero = refl
known_from at (suc n) = known_cons (digit_bit (at n)) (bits_from (λ i. digit_bit (at i)) n) (digit_known (at n)) (known_from at n)

pub known_number : (w n : ℕ) → AreKnown (bits_of w n)
known_number w n = known_from (λ i. bit_at n i) w

pub upper_known : (xs : List Bit) → AreKnown xs → IsKnown (upper_bit xs)
upper_known [] h = refl
upper_known (x ∷ xs) h = known_head x xs h

extension_known : (signed : Bool) (xs : List Bit) → AreKnown xs → IsKnown (if signed then upper_bit xs else B0)
extension_known true xs h = upper_known xs h
extension_known false xs h = refl

pub resize_known : (width : ℕ) (signed : Bool) (xs : List Bit) → AreKnown xs → AreKnown (resize_bits width signed xs)
unfolding resize_bits
resize_known width signed xs h =
    known_append (replicate (width - length xs) (if signed then upper_bit xs else B0)) (drop (length xs - width) xs)
    (known_copies (width - length xs) (if signed then upper_bit xs else B0) (extension_known signed xs h)) (known_drop (length xs - width) xs h)

pub size_known : (width : ℕ) (signed : Bool) (xs : List Bit) → AreKnown xs → AreKnown (at_size width signed xs)
unfolding at_size
size_known width signed xs h = resize_known (bounded width) signed xs h

pub select_known : (low width : ℕ) (xs : List Bit) → low + width ≤ length xs → AreKnown xs → AreKnown (select_bits BX low width xs)
select_known low width xs inside h = rw (selected_inside low width xs inside) (known_take width (drop (length xs - (low + width)) xs) (known_drop (length xs - (low + width)) xs h))

-- operators

both_known : (xs ys : List Bit) → AreKnown xs → AreKnown ys → (all_known xs && all_known ys) ≡ true
both_known xs ys h k = rw (h, k) refl

number_known : (known : Bool) (w n : ℕ) → known ≡ true → AreKnown (number_or_x known w n)
number_known true w n h = known_number w n
number_known false w n h = absurd (cc)

pub unary_known : (op : UnaryOp) (xs : List Bit) → AreKnown xs → AreKnown (unary_bits op xs)
unfolding negative_bits
unary_known unary.Minus xs h = number_known (all_known xs) (length xs) (2 ^ length xs - number_of xs) h
unary_known unary.Not xs h = known_map not_bit not_known xs h

pub binary_known : (op : BinaryOp) (xs ys : List Bit) → AreKnown xs → AreKnown ys → AreKnown (binary_bits op xs ys)
unfolding sum_bits difference_bits product_bits
binary_known binary.Add xs ys h k = number_known (all_known xs && all_known ys) (length xs) (number_of xs + number_of ys) (both_known xs ys h k)
binary_known binary.Sub xs ys h k = number_known (all_known xs && all_known ys) (length xs) (number_of xs + (2 ^ length xs - number_of ys)) (both_known xs ys h k)
binary_known binary.Mul xs ys h k = number_known (all_known xs && all_known ys) (length xs) (number_of xs * number_of ys) (both_known xs ys h k)
binary_known binary.And xs ys h k = known_zip and_bit and_known xs ys h k
binary_known binary.Or xs ys h k = known_zip or_bit or_known xs ys h k
binary_known binary.Xor xs ys h k = known_zip xor_bit xor_known xs ys h k
binary_known binary.Xnor xs ys h k = known_map not_bit not_known (zip_with xor_bit xs ys) (known_zip xor_bit xor_known xs ys h k)

test_known : (known test : Bool) → known ≡ true → IsKnown (if known then bit_if test else BX)
test_known true test h = if_known test
test_known false test h = absurd (cc)

less_known : (signed : Bool) (xs ys : List Bit) → AreKnown xs → AreKnown ys → IsKnown (less signed xs ys)
unfolding less_bit less_signed_bit
less_known true xs ys h k = test_known (all_known xs && all_known ys) (int_lt (signed_of xs) (signed_of ys)) (both_known xs ys h k)
less_known false xs ys h k = test_known (all_known xs && all_known ys) (nat_lt (number_of xs) (number_of ys)) (both_known xs ys h k)

equal_test : (differ known : Bool) → known ≡ true → IsKnown (if differ then B0 else if known then B1 else BX)
equal_test true known h = refl
equal_test false true h = refl
equal_test false false h = absurd (cc)

equal_known : (xs ys : List Bit) → AreKnown xs → AreKnown ys → IsKnown (equal_bit xs ys)
unfolding equal_bit
equal_known xs ys h k = equal_test (any_differ xs ys) (all_known xs && all_known ys) (both_known xs ys h k)

identical_known : (xs ys : List Bit) → IsKnown (identical_bit xs ys)
unfolding identical_bit
identical_known xs ys = if_known _

comparison_known : (op : ComparisonOp) (signed : Bool) (xs ys : List Bit) → AreKnown xs → AreKnown ys → IsKnown (comparison_bit op signed xs ys)
comparison_known comparison.Less signed xs ys h k = less_known signed xs ys h k
comparison_known comparison.LessEqual signed xs ys h k = not_known (less signed ys xs) (less_known signed ys xs k h)
comparison_known comparison.Greater signed xs ys h k = less_known signed ys xs k h
comparison_known comparison.GreaterEqual signed xs ys h k = not_known (less signed xs ys) (less_known signed xs ys h k)
comparison_known comparison.Equal signed xs ys h k = equal_known xs ys h k
comparison_known comparison.NotEqual signed xs ys h k = not_known (equal_bit xs ys) (equal_known xs ys h k)
comparison_known comparison.CaseEqual signed xs ys h k = identical_known xs ys
comparison_known comparison.CaseNotEqual signed xs ys h k = not_known (identical_bit xs ys) (identical_known xs ys)

pub compared_known : (op : ComparisonOp) (a b : Operand) → AreKnown a.bits → AreKnown b.bits → IsKnown (compared op a b)
unfolding compared
compared_known op a b h k = comparison_known op _ _ _ (size_known _ _ a.bits h) (size_known _ _ b.bits k)

truth_test : (xs : List Bit) (any : Bool) → list_any is_1 xs ≡ any → AreKnown xs → IsKnown (if any then B1 else if list_all is_0 xs then B0 else BX)
truth_test xs true is h = refl
truth_test xs false is h = rw (zeros xs is h) refl
  where
    zeros : (ys : List Bit) → list_any is_1 ys ≡ false → AreKnown ys → list_all is_0 ys ≡ true
    zeros [] none h = refl
    zeros (B0 ∷ ys) none h = zeros ys none h
    zeros (B1 ∷ ys) none h = absurd (cc)
    zeros (BX ∷ ys) none h = absurd (cc)
    zeros (BZ ∷ ys) none h = absurd (cc)

pub truth_known : (xs : List Bit) → AreKnown xs → IsKnown (truth_bit xs)
unfolding truth_bit
truth_known xs h = truth_test xs (list_any is_1 xs) refl h

pub logical_known : (op : LogicalOp) (a b : Bit) → IsKnown a → IsKnown b → IsKnown (logical_bit op a b)
logical_known logical.And a b h k = and_known a b h k
logical_known logical.Or a b h k = or_known a b h k

pub reduction_known : (op : ReductionOp) (xs : List Bit) → AreKnown xs → IsKnown (reduction_bit op xs)
reduction_known reduction.And xs h = known_fold and_bit and_known B1 xs refl h
reduction_known reduction.Nand xs h = not_known (fold_bits and_bit B1 xs) (known_fold and_bit and_known B1 xs refl h)
reduction_known reduction.Or xs h = known_fold or_bit or_known B0 xs refl h
reduction_known reduction.Nor xs h = not_known (fold_bits or_bit B0 xs) (known_fold or_bit or_known B0 xs refl h)
reduction_known reduction.Xor xs h = known_fold xor_bit xor_known B0 xs refl h
reduction_known reduction.Xnor xs h = not_known (fold_bits xor_bit B0 xs) (known_fold xor_bit xor_known B0 xs refl h)

shifted_known : (known : Bool) (xs ys : List Bit) → known ≡ true → AreKnown xs → AreKnown (if known then xs else ys)
shifted_known true xs ys is h = h
shifted_known false xs ys is h = absurd (cc)

right_known : (fill : Bit) (n : ℕ) (xs : List Bit) → IsKnown fill → AreKnown xs → AreKnown (shift_right fill n xs)
unfolding shift_right
right_known fill n xs h k = known_take (length xs) (replicate n fill ++ xs) (known_append (replicate n fill) xs (known_copies n fill h) k)

left_known : (n : ℕ) (xs : List Bit) → AreKnown xs → AreKnown (shift_left n xs)
unfolding shift_left
left_known n xs h = known_drop n (xs ++ replicate n B0) (known_append xs (replicate n B0) h (known_copies n B0 refl))

right_by_known : (amount xs : List Bit) → AreKnown amount → AreKnown xs → AreKnown (shift_right_by amount xs)
unfolding shift_right_by
right_by_known amount xs h k = shifted_known (all_known amount) (shift_right B0 (number_of amount) (map operand_bit xs)) (replicate (length xs) BX) h (right_known B0 (number_of amount) (map operand_bit xs) refl (known_map operand_bit operand_known xs k))

left_by_known : (amount xs : List Bit) → AreKnown amount → AreKnown xs → AreKnown (shift_left_by amount xs)
unfolding shift_left_by
left_by_known amount xs h k = shifted_known (all_known amount) (shift_left (number_of amount) (map operand_bit xs)) (replicate (length xs) BX) h (left_known (number_of amount) (map operand_bit xs) (known_map operand_bit operand_known xs k))

signed_by_known : (amount xs : List Bit) → AreKnown amount → AreKnown xs → AreKnown (shift_signed_by amount xs)
unfolding shift_signed_by
signed_by_known amount xs h k =
    let bits = map operand_bit xs in
    let known = known_map operand_bit operand_known xs k in
    shifted_known (all_known amount) (shift_right (upper_bit bits) (number_of amount) bits) (replicate (length xs) BX) h (right_known (upper_bit bits) (number_of amount) bits (upper_known bits known) known)

pub shift_known : (op : ShiftOp) (signed : Bool) (amount xs : List Bit) → AreKnown amount → AreKnown xs → AreKnown (shift_bits op signed amount xs)
shift_known shift.Left signed amount xs h k = left_by_known amount xs h k
shift_known shift.Right signed amount xs h k = right_by_known amount xs h k
shift_known shift.ArithmeticRight true amount xs h k = signed_by_known amount xs h k
shift_known shift.ArithmeticRight false amount xs h k = right_by_known amount xs h k

pub choose_known : (test : Bit) (xs ys : List Bit) → IsKnown test → AreKnown xs → AreKnown ys → AreKnown (choose_bits test xs ys)
choose_known B0 xs ys t h k = k
choose_known B1 xs ys t h k = h
choose_known BX xs ys t h k = absurd (cc)
choose_known BZ xs ys t h k = absurd (cc)

pub repeated_known : (n : ℕ) (xs : List Bit) → AreKnown xs → AreKnown (repeated n xs)
unfolding repeated
repeated_known zero xs h = refl
repeated_known (suc n) xs h = known_append (repeated n xs) xs (repeated_known n xs h) h

pub gate_known : (op : GateOp) (xs : List Bit) → 1 ≤ length xs → AreKnown xs → IsKnown (gate_bit BX op xs)
gate_known gate.And xs some h = known_inputs and_bit and_known B1 xs refl h
gate_known gate.Nand xs some h = not_known (fold_inputs and_bit B1 xs) (known_inputs and_bit and_known B1 xs refl h)
gate_known gate.Or xs some h = known_inputs or_bit or_known B0 xs refl h
gate_known gate.Nor xs some h = not_known (fold_inputs or_bit B0 xs) (known_inputs or_bit or_known B0 xs refl h)
gate_known gate.Xor xs some h = known_inputs xor_bit xor_known B0 xs refl h
gate_known gate.Xnor xs some h = not_known (fold_inputs xor_bit B0 xs) (known_inputs xor_bit xor_known B0 xs refl h)
gate_known gate.Buf xs some h = buf_known (fold_inputs latest BX xs) (last_known BX xs some h)
gate_known gate.Not xs some h = not_known (fold_inputs latest BX xs) (last_known BX xs some h)
