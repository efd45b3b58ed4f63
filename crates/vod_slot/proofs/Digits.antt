-- What is left of drivers, as numbers in base 3.
use Rattle.std.proofs.Common.{◌≡◌, ◌≢◌, ◌⊎◌, inl, inr, ℕ, ◌+◌, ◌*◌, ◌^◌, ◌<◌, ◌≤◌, zero, suc, Bool, true, false, List, [], ◌∷◌, length, set, arith, refl, ap, sym, ◌∙◌, subst, ⊎_elim, All, AllPairs, Option, Some, None, is_some, get_or-set_same, get_or-set_other}
use Rattle.std.specs.List.{Contains}
use Rattle.std.proofs.Math.Nat.{pow-suc, one-le-pow, mul-le-mul_left}
use Rattle.std.proofs.lemmas.Bool.{cases_eq, cases_lt}
use Rattle.std.proofs.lemmas.List.{get_or_past}
use Rattle.std.proofs.lemmas.List.{length-set}
use Rattle.std.proofs.lemmas.List.Elements.{All-head, All-tail, All-contains, All-weaker}
use Rattle.std.proofs.lemmas.Map.Made.{Contains-tail}
use Rattle.vod_bits.specs.Bit.{Bit}
use Rattle.vod_slot.specs.State.{flag_at, option_at}
use Rattle.vod_slot.specs.Weight.{digit, drivers_weight}
use Rattle.vod_slot.proofs.Lists.{all_none, pairs_head, pairs_tail}

pub power : (n : ℕ) → 1 ≤ 3 ^ n
power n = one-le-pow n 3 (omega arith)

rises_by_two : (a b p w v q : ℕ) → a ≤ b + 2 → w < v + p → q ≡ p * 3 → a * p + w < b * p + v + q
rises_by_two a b p w v q le lt e = omega (arith, mul-le-mul_left p le)

pub falls_more : (a b p w v : ℕ) → a < b → w < v + p → a * p + w < b * p + v
falls_more a b p w v lt below = let le : a + 1 ≤ b = omega arith in omega (arith, mul-le-mul_left p le)

digit_rises : (keep flag again : Bool) (value left : Option (List Bit)) → (left ≡ None) ⊎ (left ≡ value) → digit keep again left ≤ digit keep flag value + 2
digit_rises false flag again value left h = omega arith
digit_rises true true true value None h = omega arith
digit_rises true false true value None h = omega arith
digit_rises true true false value None h = omega arith
digit_rises true false false value None h = omega arith
digit_rises true flag again None (Some b) h = absurd (⊎_elim (λ e. clash b e) (λ e. clash b e) h)
  where
    clash : (b : List Bit) → Some b ≡ None → ⊥
    clash b e = let c : true ≡ false = ap is_some e in cc
digit_rises true true true (Some c) (Some b) h = omega arith
digit_rises true false true (Some c) (Some b) h = omega arith
digit_rises true true false (Some c) (Some b) h = omega arith
digit_rises true false false (Some c) (Some b) h = omega arith

digit_performed : (flag : Bool) (value : Option (List Bit)) → is_some value ≡ true → digit true flag None < digit true flag value
digit_performed flag None some = absurd (cc)
digit_performed true (Some b) some = omega arith
digit_performed false (Some b) some = omega arith

digit_evaluated : (flag : Bool) (value new : Option (List Bit)) → flag ≡ true → digit true false new < digit true flag value
digit_evaluated false value new is = absurd (cc)
digit_evaluated true None None is = omega arith
digit_evaluated true None (Some b) is = omega arith
digit_evaluated true (Some b) None is = omega arith
digit_evaluated true (Some b) (Some c) is = omega arith

pub some_within : {A : Type 0} (xs : List (Option A)) (i : ℕ) → is_some (option_at xs i) ≡ true → i < length xs
some_within [] i h = absurd (cc)
some_within (x ∷ xs) zero h = omega arith
some_within (x ∷ xs) (suc i) h = let l = some_within xs i h in omega arith

none_at : (pend : List (Option (List Bit))) (j : ℕ) → option_at (set pend j None) j ≡ None
none_at pend j = ⊎_elim (λ lt. get_or-set_same pend j None None lt) (λ ge. get_or_past (set pend j None) j None (rw length-set ge)) (cases_lt j (length pend))

left_or_none : (pend : List (Option (List Bit))) (j q : ℕ) → (option_at (set pend j None) q ≡ None) ⊎ (option_at (set pend j None) q ≡ option_at pend q)
left_or_none pend j q = ⊎_elim (λ same. inl (subst (λ n. option_at (set pend j None) n ≡ None) (sym same) (none_at pend j))) (λ apart. inr (get_or-set_other pend j q None None apart)) (cases_eq q j)

-- whatever is woken adds less than a power of 3
drivers_rise : (keep : ℕ → Bool) (js : List ℕ) (wake again : List Bool) (pend left : List (Option (List Bit))) → ((q : ℕ) → (option_at left q ≡ None) ⊎ (option_at left q ≡ option_at pend q)) →
    drivers_weight keep js again left < drivers_weight keep js wake pend + 3 ^ length js
drivers_rise keep [] wake again pend left h = omega arith
drivers_rise keep (j ∷ js) wake again pend left h =
    rises_by_two (digit (keep j) (flag_at again j) (option_at left j)) (digit (keep j) (flag_at wake j) (option_at pend j)) (3 ^ length js) (drivers_weight keep js again left) (drivers_weight keep js wake pend) (3 ^ suc (length js))
    (digit_rises (keep j) (flag_at wake j) (flag_at again j) (option_at pend j) (option_at left j) (h j)) (drivers_rise keep js wake again pend left h) (pow-suc 3 (length js))

pub woken_rise : (keep : ℕ → Bool) (js : List ℕ) (wake again : List Bool) (pend : List (Option (List Bit))) → drivers_weight keep js again pend < drivers_weight keep js wake pend + 3 ^ length js
woken_rise keep js wake again pend = drivers_rise keep js wake again pend pend (λ q. inr refl)

pub updated_rise : (keep : ℕ → Bool) (js : List ℕ) (wake again : List Bool) (pend : List (Option (List Bit))) (j : ℕ) → drivers_weight keep js again (set pend j None) < drivers_weight keep js wake pend + 3 ^ length js
updated_rise keep js wake again pend j = drivers_rise keep js wake again pend (set pend j None) (left_or_none pend j)

-- drivers that are as they were
abbrev pub AreSame : (ℕ → Bool) → List Bool → List Bool → List (Option (List Bit)) → List (Option (List Bit)) → ℕ → Type 0
AreSame keep wake again pend left q = keep q ≡ true → (flag_at again q ≡ flag_at wake q) × (option_at left q ≡ option_at pend q)

digit_same : (keep : Bool) (flag again : Bool) (value left : Option (List Bit)) → (keep ≡ true → (again ≡ flag) × (left ≡ value)) → digit keep again left ≡ digit keep flag value
digit_same false flag again value left h = refl
digit_same true flag again value left h = let p = h refl in let f = p.0 in let v = p.1 in cc

pub drivers_same : (keep : ℕ → Bool) (js : List ℕ) (wake again : List Bool) (pend left : List (Option (List Bit))) → All (AreSame keep wake again pend left) js → drivers_weight keep js again left ≡ drivers_weight keep js wake pend
drivers_same keep [] wake again pend left h = refl
drivers_same keep (j ∷ js) wake again pend left h =
    let here : digit (keep j) (flag_at again j) (option_at left j) ≡ digit (keep j) (flag_at wake j) (option_at pend j) = digit_same (keep j) (flag_at wake j) (flag_at again j) (option_at pend j) (option_at left j) (All-head (AreSame keep wake again pend left) j js h) in
    let more : drivers_weight keep js again left ≡ drivers_weight keep js wake pend = drivers_same keep js wake again pend left (All-tail (AreSame keep wake again pend left) j js h) in
    cc

pub no_member : {A : Type 0} (x : A) → Contains [] x → ⊥
no_member {A} x h = let none : List A = [] in All-contains (λ y. ⊥) none x (all_none (λ y. ⊥)) h

-- an update weighs more than all drivers behind it
pub update_falls : (keep : ℕ → Bool) (feeds : ℕ → ℕ → Bool) (js : List ℕ) (wake again : List Bool) (pend : List (Option (List Bit))) (j : ℕ) → keep j ≡ true → is_some (option_at pend j) ≡ true → Contains js j → AllPairs (λ q k. feeds k q ≡ false) js → feeds j j ≡ false →
    ((q : ℕ) → feeds j q ≡ false → flag_at again q ≡ flag_at wake q) → drivers_weight keep js again (set pend j None) < drivers_weight keep js wake pend
update_falls keep feeds [] wake again pend j kept some stands order self h = absurd (no_member j stands)
update_falls keep feeds (r ∷ js) wake again pend j kept some stands order self h =
    ⊎_elim
    (λ same.
    let flag : flag_at again r ≡ flag_at wake r = h r (subst (λ n. feeds j n ≡ false) (sym same) self) in
    let left : option_at (set pend j None) r ≡ None = subst (λ n. option_at (set pend j None) n ≡ None) (sym same) (none_at pend j) in
    let is : keep r ≡ true = subst (λ n. keep n ≡ true) (sym same) kept in
    let pends : is_some (option_at pend r) ≡ true = subst (λ n. is_some (option_at pend n) ≡ true) (sym same) some in
    let now : digit (keep r) (flag_at again r) (option_at (set pend j None) r) ≡ digit true (flag_at wake r) None = cc in
    let then_ : digit (keep r) (flag_at wake r) (option_at pend r) ≡ digit true (flag_at wake r) (option_at pend r) = cc in
    rw (now, then_) (falls_more (digit true (flag_at wake r) None) (digit true (flag_at wake r) (option_at pend r)) (3 ^ length js) (drivers_weight keep js again (set pend j None)) (drivers_weight keep js wake pend) (digit_performed (flag_at wake r) (option_at pend r) pends) (updated_rise keep js wake again pend j)))
    (λ apart.
    let behind = Contains-tail r js j apart stands in
    let flag = h r (All-contains (λ k. feeds k r ≡ false) js j (pairs_head (λ q k. feeds k q ≡ false) r js order) behind) in
    let here : digit (keep r) (flag_at again r) (option_at (set pend j None) r) ≡ digit (keep r) (flag_at wake r) (option_at pend r)
    = digit_same (keep r) (flag_at wake r) (flag_at again r) (option_at pend r) (option_at (set pend j None) r) (λ e. (flag, get_or-set_other pend j r None None apart)) in
    let more = update_falls keep feeds js wake again pend j kept some behind (pairs_tail (λ q k. feeds k q ≡ false) r js order) self h in
    rw here (omega arith))
    (cases_eq r j)

-- to be evaluated weighs more than what it leaves
pub evaluate_falls : (keep : ℕ → Bool) (js : List ℕ) (wake : List Bool) (pend : List (Option (List Bit))) (j : ℕ) (new : Option (List Bit)) → keep j ≡ true → flag_at wake j ≡ true → j < length wake → j < length pend → Contains js j → AllPairs (λ q k. q ≢ k) js →
    drivers_weight keep js (set wake j false) (set pend j new) < drivers_weight keep js wake pend
evaluate_falls keep [] wake pend j new kept awake lw lp stands once = absurd (no_member j stands)
evaluate_falls keep (r ∷ js) wake pend j new kept awake lw lp stands once =
    ⊎_elim
    (λ same.
    let flag : flag_at (set wake j false) r ≡ false = subst (λ n. flag_at (set wake j false) n ≡ false) (sym same) (get_or-set_same wake j false false lw) in
    let left : option_at (set pend j new) r ≡ new = subst (λ n. option_at (set pend j new) n ≡ new) (sym same) (get_or-set_same pend j new None lp) in
    let is : keep r ≡ true = subst (λ n. keep n ≡ true) (sym same) kept in
    let was : flag_at wake r ≡ true = subst (λ n. flag_at wake n ≡ true) (sym same) awake in
    let now : digit (keep r) (flag_at (set wake j false) r) (option_at (set pend j new) r) ≡ digit true false new = cc in
    let then_ : digit (keep r) (flag_at wake r) (option_at pend r) ≡ digit true (flag_at wake r) (option_at pend r) = cc in
    let rest = drivers_same keep js wake (set wake j false) pend (set pend j new)
    (All-weaker (λ k. r ≢ k) (AreSame keep wake (set wake j false) pend (set pend j new))
    (λ k apart e. (get_or-set_other wake j k false false (λ f. apart (same ∙ sym f)), get_or-set_other pend j k new None (λ f. apart (same ∙ sym f)))) js (pairs_head (λ q k. q ≢ k) r js once)) in
    let p = power (length js) in
    rw (now, then_, rest) (falls_more (digit true false new) (digit true (flag_at wake r) (option_at pend r)) (3 ^ length js) (drivers_weight keep js wake pend) (drivers_weight keep js wake pend) (digit_evaluated (flag_at wake r) (option_at pend r) new was) (omega arith)))
    (λ apart.
    let here : digit (keep r) (flag_at (set wake j false) r) (option_at (set pend j new) r) ≡ digit (keep r) (flag_at wake r) (option_at pend r)
    = digit_same (keep r) (flag_at wake r) (flag_at (set wake j false) r) (option_at pend r) (option_at (set pend j new) r) (λ e. (get_or-set_other wake j r false false apart, get_or-set_other pend j r new None apart)) in
    let more = evaluate_falls keep js wake pend j new kept awake lw lp (Contains-tail r js j apart stands) (pairs_tail (λ q k. q ≢ k) r js once) in
    rw here (omega arith))
    (cases_eq r j)
