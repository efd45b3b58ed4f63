-- The weight falls with each allowed event.
use Rattle.std.proofs.Common.{◌≡◌, ℕ, ◌+◌, ◌*◌, ◌^◌, ◌<◌, ◌≤◌, ◌||◌, ◌++◌, not, zero, suc, Bool, true, false, cond, List, [], ◌∷◌, length, length-set, get_or, set, map, drop, arith, refl, ap, sym, ◌∙◌, Option, Some, None, is_some, count_by, IsTrue, unwrap_or, slice_index, slice_index_or}
use Rattle.std.specs.List.{slice_get, sum_by, list_any}
use Rattle.std.proofs.Math.Nat.{pow-suc, one-le-pow, mul-le-mul_left}
use Rattle.std.proofs.lemmas.Bool.{and_parts}
use Rattle.std.proofs.lemmas.List.{length_push}
use Rattle.std.proofs.lemmas.List.Sums.{sum_by-set, sum_by-cons, count_by-le-length}
use Rattle.vod_thin_design.specs.declared.thin.Bit.{Bit}
use Rattle.vod_thin_design.specs.declared.thin.Bit.TheVariants.{X}
use Rattle.vod_thin_design.specs.declared.thin.Driver.{Driver}
use Rattle.vod_thin_design.specs.declared.thin.Block.{Block}
use Rattle.vod_thin_design.specs.Bits.{value_at, same_bit}
use Rattle.vod_thin_design.specs.Expr.{value_of}
use Rattle.vod_thin_design.specs.Netlist.{Netlist, IsAccepted, targets, input_signals, assigned_registers, initial_registers}
use Rattle.vod_thin_queue.specs.declared.event.Event.TheVariants.{TakeMove, Evaluate, Update, Run, Initialize, Activate, Perform}
use Rattle.vod_thin_queue.specs.State.{State, option_at, flag_at, list_at, IsShaped}
use Rattle.vod_thin_queue.specs.Step.{Event, is_allowed, is_filled, is_rising, has_active, after, put, raised, raised_if, pending, evaluated, ran, initial_values, reads_signal, waits_for}
use Rattle.vod_thin_queue.specs.Weight.{driver_weight, drivers_weight, blocks_weight, changes_weight, weight_of}
use Rattle.vod_thin_queue.specs.Index.{passes_at}
use Rattle.vod_thin_queue.proofs.Accepted.{target_no_input, register_no_input, assigned_is_register, initial_is_register}
use Rattle.vod_thin_queue.proofs.Orderly.{some_within, filled_within, todo_kept}
use Rattle.vod_thin_queue.proofs.Ranked.{reads_no_later_target}
use Rattle.vod_thin_queue.proofs.Raised.{length-raised, length-raised_if, flag_within}

power : (n : ℕ) → 1 ≤ 3 ^ n
power n = one-le-pow n 3 (omega arith)

-- sums in base 3, over plain numbers
rises_by_two : (a b p w v q : ℕ) → a ≤ b + 2 → w < v + p → q ≡ p * 3 → a * p + w < b * p + v + q
rises_by_two a b p w v q le lt e = omega (arith, mul-le-mul_left p le)

falls_by_one : (a b p w v : ℕ) → a + 1 ≡ b → w < v + p → a * p + w < b * p + v
falls_by_one a b p w v e lt = rw (← e) (omega arith)

falls_more : (a b p w v : ℕ) → a < b → w < v + p → a * p + w < b * p + v
falls_more a b p w v lt below = let le : a + 1 ≤ b = omega arith in omega (arith, mul-le-mul_left p le)

falls_somewhat : (a b p w : ℕ) → a < b → 1 ≤ p → a * p + w < b * p + w
falls_somewhat a b p w lt one = falls_more a b p w w lt (omega arith)

digit_rises : (flag test : Bool) (value : Option Bit) → driver_weight (flag || test) value ≤ driver_weight flag value + 2
digit_rises true test value = omega arith
digit_rises false true value = omega arith
digit_rises false false value = omega arith

digit_performed : (flag test : Bool) (value : Option Bit) → is_some value ≡ true → test ≡ false → driver_weight (flag || test) None + 1 ≡ driver_weight flag value
digit_performed flag true value some free = absurd (cc)
digit_performed flag false None some free = absurd (cc)
digit_performed true false (Some b) some free = refl
digit_performed false false (Some b) some free = refl

digit_taken : (flag : Bool) (value : Option Bit) → is_some value ≡ true → driver_weight flag None + 1 ≡ driver_weight flag value
digit_taken flag None some = absurd (cc)
digit_taken true (Some b) some = refl
digit_taken false (Some b) some = refl

digit_kept : (flag test : Bool) (value : Option Bit) → test ≡ false → driver_weight (flag || test) value ≡ driver_weight flag value
digit_kept flag true value free = absurd (cc)
digit_kept true false value free = refl
digit_kept false false value free = refl

digit_evaluated : (flag : Bool) (value new : Option Bit) → flag ≡ true → driver_weight false new < driver_weight flag value
digit_evaluated false value new is = absurd (cc)
digit_evaluated true None None is = omega arith
digit_evaluated true None (Some b) is = omega arith
digit_evaluated true (Some b) None is = omega arith
digit_evaluated true (Some b) (Some c) is = omega arith

-- to wake readers adds less than a power of 3
woken_rises : {A : Type 0} (test : A → Bool) (drivers : List A) (flags : List Bool) (values : List (Option Bit)) → drivers_weight (raised test drivers flags) values < drivers_weight flags values + 3 ^ length flags
woken_rises test [] flags values = let p = power (length flags) in omega arith
woken_rises test (driver ∷ drivers) [] values = omega arith
woken_rises test (driver ∷ drivers) (flag ∷ flags) [] = let p = power (suc (length flags)) in omega arith
woken_rises test (driver ∷ drivers) (flag ∷ flags) (value ∷ values) =
    rw (length-raised test drivers flags)
    (rises_by_two (driver_weight (flag || test driver) value) (driver_weight flag value) (3 ^ length flags) (drivers_weight (raised test drivers flags) values) (drivers_weight flags values) (3 ^ suc (length flags))
    (digit_rises flag (test driver) value) (woken_rises test drivers flags values) (pow-suc 3 (length flags)))

-- an update that wakes nothing weighs something
set_falls : (flags : List Bool) (values : List (Option Bit)) (j : ℕ) → j < length flags → is_some (option_at values j) ≡ true → drivers_weight flags (set values j None) < drivers_weight flags values
set_falls [] values j h some = absurd (omega arith)
set_falls (flag ∷ flags) [] j h some = absurd (cc)
set_falls (flag ∷ flags) (value ∷ values) zero h some =
    falls_by_one (driver_weight flag None) (driver_weight flag value) (3 ^ length flags) (drivers_weight flags values) (drivers_weight flags values) (digit_taken flag value some) (let p = power (length flags) in omega arith)
set_falls (flag ∷ flags) (value ∷ values) (suc j) h some = let i = set_falls flags values j (omega arith) some in omega arith

-- an update weighs more than all drivers that it can wake
update_falls : {A : Type 0} (test : A → Bool) (drivers : List A) (flags : List Bool) (values : List (Option Bit)) (j : ℕ) → j < length flags → is_some (option_at values j) ≡ true → ((k : ℕ) → k ≤ j → passes_at test drivers k ≡ false) →
    drivers_weight (raised test drivers flags) (set values j None) < drivers_weight flags values
update_falls test [] flags values j h some free = set_falls flags values j h some
update_falls test (driver ∷ drivers) [] values j h some free = absurd (omega arith)
update_falls test (driver ∷ drivers) (flag ∷ flags) [] j h some free = absurd (cc)
update_falls test (driver ∷ drivers) (flag ∷ flags) (value ∷ values) zero h some free =
    rw (length-raised test drivers flags)
    (falls_by_one (driver_weight (flag || test driver) None) (driver_weight flag value) (3 ^ length flags) (drivers_weight (raised test drivers flags) values) (drivers_weight flags values)
    (digit_performed flag (test driver) value some (free 0 (omega arith))) (woken_rises test drivers flags values))
update_falls test (driver ∷ drivers) (flag ∷ flags) (value ∷ values) (suc j) h some free =
    let i = update_falls test drivers flags values j (omega arith) some (λ k l. free (suc k) (omega arith)) in
    rw (length-raised test drivers flags, digit_kept flag (test driver) value (free 0 (omega arith))) (omega arith)

evaluate_falls : (flags : List Bool) (values : List (Option Bit)) (j : ℕ) (new : Option Bit) → j < length values → flag_at flags j ≡ true → drivers_weight (set flags j false) (set values j new) < drivers_weight flags values
evaluate_falls [] values j new h flagged = absurd (cc)
evaluate_falls (flag ∷ flags) [] j new h flagged = absurd (omega arith)
evaluate_falls (flag ∷ flags) (value ∷ values) zero new h flagged =
    falls_somewhat (driver_weight false new) (driver_weight flag value) (3 ^ length flags) (drivers_weight flags values) (digit_evaluated flag value new flagged) (power (length flags))
evaluate_falls (flag ∷ flags) (value ∷ values) (suc j) new h flagged = let i = evaluate_falls flags values j new (omega arith) flagged in rw (length-set flags j false) (omega arith)

put_rises : {A : Type 0} (happened : Bool) (test : A → Bool) (drivers : List A) (flags : List Bool) (values : List (Option Bit)) → drivers_weight (raised_if happened test drivers flags) values < drivers_weight flags values + 3 ^ length flags
put_rises true test drivers flags values = woken_rises test drivers flags values
put_rises false test drivers flags values = let p = power (length flags) in omega arith

put_falls : {A : Type 0} (happened : Bool) (test : A → Bool) (drivers : List A) (flags : List Bool) (values : List (Option Bit)) (j : ℕ) → j < length flags → is_some (option_at values j) ≡ true → ((k : ℕ) → k ≤ j → passes_at test drivers k ≡ false) →
    drivers_weight (raised_if happened test drivers flags) (set values j None) < drivers_weight flags values
put_falls true test drivers flags values j h some free = update_falls test drivers flags values j h some free
put_falls false test drivers flags values j h some free = set_falls flags values j h some

count_falls : {A : Type 0} (xs : List (Option A)) (i : ℕ) → is_some (get_or xs i None) ≡ true → count_by is_some (set xs i None) + 1 ≡ count_by is_some xs
count_falls xs i some =
    let e : count_by is_some (set xs i None) + cond {A = ℕ} (is_some (get_or xs i None)) 1 0 ≡ count_by is_some xs + 0 = sum_by-set (λ x. cond {A = ℕ} (is_some x) 1 0) xs i None None (some_within xs i some) in
    let one : cond {A = ℕ} (is_some (get_or xs i None)) 1 0 ≡ 1 = ap (λ (b : Bool). cond {A = ℕ} b 1 0) some in
    omega arith

flags_fall : (flags : List Bool) (i : ℕ) → flag_at flags i ≡ true → count_by (λ flag. flag) (set flags i false) + 1 ≡ count_by (λ flag. flag) flags
flags_fall flags i flagged =
    let e : count_by (λ flag. flag) (set flags i false) + cond {A = ℕ} (flag_at flags i) 1 0 ≡ count_by (λ flag. flag) flags + 0 = sum_by-set (λ flag. cond {A = ℕ} flag 1 0) flags i false false (flag_within flags i flagged) in
    let one : cond {A = ℕ} (flag_at flags i) 1 0 ≡ 1 = ap (λ (b : Bool). cond {A = ℕ} b 1 0) flagged in
    omega arith

one_less : (xs : List Bit) → is_filled xs ≡ true → length (drop 1 xs) + 1 ≡ length xs
one_less [] h = absurd (cc)
one_less (x ∷ xs) h = omega arith

-- an update that is performed, and one that is added
updates_fall : (lists : List (List Bit)) (k : ℕ) → is_filled (list_at lists k) ≡ true → sum_by length (set lists k (drop 1 (list_at lists k))) + 1 ≡ sum_by length lists
updates_fall lists k filled =
    let e : sum_by length (set lists k (drop 1 (list_at lists k))) + length (list_at lists k) ≡ sum_by length lists + length (drop 1 (list_at lists k)) = sum_by-set length lists k (drop 1 (list_at lists k)) [] (filled_within lists k filled) in
    let one = one_less (list_at lists k) filled in
    omega arith

updates_rise : (lists : List (List Bit)) (k : ℕ) (bit : Bit) → k < length lists → sum_by length (set lists k (list_at lists k ++ bit ∷ [])) ≡ sum_by length lists + 1
updates_rise lists k bit h =
    let e : sum_by length (set lists k (list_at lists k ++ bit ∷ [])) + length (list_at lists k) ≡ sum_by length lists + length (list_at lists k ++ bit ∷ []) = sum_by-set length lists k (list_at lists k ++ bit ∷ []) [] h in
    let one = length_push (list_at lists k) bit in
    omega arith

no_updates : (lists : List (List Bit)) → sum_by length (map {A = List Bit} {B = List Bit} (λ list. []) lists) ≡ 0
no_updates [] = refl
no_updates (list ∷ lists) =
    let none : List Bit = [] in
    let e = sum_by-cons (length {A = Bit}) none (map {A = List Bit} {B = List Bit} (λ x. []) lists) in
    let rest = no_updates lists in
    omega arith

some_by : (b : Bool) (list : List Bit) (n : ℕ) → is_filled list ≡ b → (b ≡ false → 1 ≤ n) → 1 ≤ length list + n
some_by true [] n is rest = absurd (cc)
some_by true (x ∷ list) n is rest = omega arith
some_by false list n is rest = let r = rest refl in omega arith

some_update : (lists : List (List Bit)) → list_any is_filled lists ≡ true → 1 ≤ sum_by length lists
some_update [] h = absurd (cc)
some_update (list ∷ lists) h =
    let e = sum_by-cons length list lists in
    let some = some_by (is_filled list) list (sum_by length lists) refl (λ none. some_update lists (rw none at h)) in
    omega arith

slice_get-within : {A : Type 0} (xs : List A) (i : ℕ) → i < length xs → None ≡ slice_get xs i → ⊥
slice_get-within [] i h e = absurd (omega arith)
slice_get-within (x ∷ xs) zero h e = cc
slice_get-within (x ∷ xs) (suc i) h e = slice_get-within xs i (omega arith) e

evaluated_falls : (d : Netlist) (s : State) (j : ℕ) (driver : Option Driver) → driver ≡ slice_get d.drivers j → IsShaped d s → flag_at s.wake j ≡ true → weight_of (evaluated j driver s) < weight_of s
evaluated_falls d s j None is shaped flagged =
    let l = flag_within s.wake j flagged in
    let w = shaped.wake in
    absurd (slice_get-within d.drivers j (omega arith) is)
evaluated_falls d s j (Some driver) is shaped flagged =
    let l = flag_within s.wake j flagged in
    let w = shaped.wake in let p = shaped.pend in
    let f = evaluate_falls s.wake s.pend j (pending (value_of driver.value (value_at s.val)) (value_at s.val driver.target)) (omega arith) flagged in
    rw (length-set s.wake j false) (omega arith)

changes_more : (len m m' i b b' : ℕ) → m' + 1 ≡ m → b' ≤ b + 3 * len → (3 * len + 1) * m' + i + b' < (3 * len + 1) * m + i + b
changes_more len m m' i b b' e le = rw (← e) (omega arith)

ran_falls : (d : Netlist) (s : State) (k : ℕ) (block : Option Block) → block ≡ slice_get d.blocks k → IsShaped d s → flag_at s.todo k ≡ true → weight_of (ran k block s) < weight_of s
ran_falls d s k None is shaped flagged =
    let l = flag_within s.todo k flagged in
    let w = shaped.todo in
    absurd (slice_get-within d.blocks k (omega arith) is)
ran_falls d s k (Some block) is shaped flagged =
    let l = flag_within s.todo k flagged in
    let t = shaped.todo in let u = shaped.later in
    let f = flags_fall s.todo k flagged in
    let r = updates_rise s.later k (value_of block.value (value_at s.val)) (omega arith) in
    rw (length-set s.todo k false)
    (falls_somewhat
    ((3 * length s.todo + 1) * count_by is_some s.moves + count_by (λ flag. flag) s.init + (3 * count_by (λ flag. flag) (set s.todo k false) + 2 * sum_by length (set s.later k (list_at s.later k ++ value_of block.value (value_at s.val) ∷ [])) + sum_by length s.now))
    (changes_weight s) (3 ^ length s.wake) (drivers_weight s.wake s.pend) (omega arith) (power (length s.wake)))

pub weight_of-after : (d : Netlist) (s : State) (event : Event) → IsAccepted d → IsShaped d s → IsTrue (is_allowed s event) → weight_of (after d s event) < weight_of s
weight_of-after d s (TakeMove i) a shaped allowed =
    let signal = slice_index (input_signals d) i in
    let bit = unwrap_or (option_at s.moves i) X in
    let wake = raised_if (not (same_bit (value_at s.val signal) bit)) (reads_signal signal) d.drivers s.wake in
    let todo = raised_if (is_rising (value_at s.val signal) bit) (waits_for signal) d.blocks s.todo in
    let len : length todo ≡ length s.todo = length-raised_if (is_rising (value_at s.val signal) bit) (waits_for signal) d.blocks s.todo in
    let few = count_by-le-length (λ flag. flag) todo in
    rw (len, length-raised_if (not (same_bit (value_at s.val signal) bit)) (reads_signal signal) d.drivers s.wake)
    (falls_more
    ((3 * length s.todo + 1) * count_by is_some (set s.moves i None) + count_by (λ flag. flag) s.init + (3 * count_by (λ flag. flag) todo + 2 * sum_by length s.later + sum_by length s.now))
    (changes_weight s) (3 ^ length s.wake) (drivers_weight wake s.pend) (drivers_weight s.wake s.pend)
    (changes_more (length s.todo) (count_by is_some s.moves) (count_by is_some (set s.moves i None)) (count_by (λ flag. flag) s.init) (blocks_weight s) (3 * count_by (λ flag. flag) todo + 2 * sum_by length s.later + sum_by length s.now)
    (count_falls s.moves i allowed) (omega arith))
    (put_rises (not (same_bit (value_at s.val signal) bit)) (reads_signal signal) d.drivers s.wake s.pend))
weight_of-after d s (Evaluate j) a shaped allowed = evaluated_falls d s j (slice_get d.drivers j) refl shaped allowed
weight_of-after d s (Update j) a shaped allowed =
    let l = some_within s.pend j allowed in
    let w = shaped.wake in let p = shaped.pend in
    let signal = slice_index (targets d.drivers) j in
    let bit = unwrap_or (option_at s.pend j) X in
    let f = put_falls (not (same_bit (value_at s.val signal) bit)) (reads_signal signal) d.drivers s.wake s.pend j (omega arith) allowed (λ k le. reads_no_later_target d a j k (omega arith) le) in
    rw (todo_kept d a signal bit s (target_no_input d a j (omega arith)), length-raised_if (not (same_bit (value_at s.val signal) bit)) (reads_signal signal) d.drivers s.wake) (omega arith)
weight_of-after d s (Run k) a shaped allowed = ran_falls d s k (slice_get d.blocks k) refl shaped allowed
weight_of-after d s (Initialize m) a shaped allowed =
    let l = flag_within s.init m allowed in
    let n = shaped.init in
    let signal = slice_index (initial_registers d.initials) m in
    let bit = slice_index_or (initial_values d.initials) m X in
    let f = flags_fall s.init m allowed in
    rw (todo_kept d a signal bit s (register_no_input d a signal (initial_is_register d a m (omega arith))), length-raised_if (not (same_bit (value_at s.val signal) bit)) (reads_signal signal) d.drivers s.wake)
    (falls_more
    ((3 * length s.todo + 1) * count_by is_some s.moves + count_by (λ flag. flag) (set s.init m false) + blocks_weight s)
    (changes_weight s) (3 ^ length s.wake) (drivers_weight (raised_if (not (same_bit (value_at s.val signal) bit)) (reads_signal signal) d.drivers s.wake) s.pend) (drivers_weight s.wake s.pend) (omega arith)
    (put_rises (not (same_bit (value_at s.val signal) bit)) (reads_signal signal) d.drivers s.wake s.pend))
weight_of-after d s Activate a shaped allowed =
    let none = no_updates s.later in
    let some = some_update s.later (and_parts (not (has_active s)) (list_any is_filled s.later) allowed).1 in
    falls_somewhat
    ((3 * length s.todo + 1) * count_by is_some s.moves + count_by (λ flag. flag) s.init + (3 * count_by (λ flag. flag) s.todo + 2 * sum_by length (map {A = List Bit} {B = List Bit} (λ updates. []) s.later) + sum_by length s.later))
    (changes_weight s) (3 ^ length s.wake) (drivers_weight s.wake s.pend) (omega arith) (power (length s.wake))
weight_of-after d s (Perform k) a shaped allowed =
    let l = filled_within s.now k allowed in
    let n = shaped.now in
    let signal = slice_index (assigned_registers d.blocks) k in
    let bit = slice_index_or (list_at s.now k) 0 X in
    let f = updates_fall s.now k allowed in
    rw (todo_kept d a signal bit s (register_no_input d a signal (assigned_is_register d a k (omega arith))), length-raised_if (not (same_bit (value_at s.val signal) bit)) (reads_signal signal) d.drivers s.wake)
    (falls_more
    ((3 * length s.todo + 1) * count_by is_some s.moves + count_by (λ flag. flag) s.init + (3 * count_by (λ flag. flag) s.todo + 2 * sum_by length s.later + sum_by length (set s.now k (drop 1 (list_at s.now k)))))
    (changes_weight s) (3 ^ length s.wake) (drivers_weight (raised_if (not (same_bit (value_at s.val signal) bit)) (reads_signal signal) d.drivers s.wake) s.pend) (drivers_weight s.wake s.pend) (omega arith)
    (put_rises (not (same_bit (value_at s.val signal) bit)) (reads_signal signal) d.drivers s.wake s.pend))
