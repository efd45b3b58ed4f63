-- The numbers of the registers, and of the nets, of some signals.
use Rattle.std.proofs.Common.{◌≡◌, ◌≢◌, ℕ, zero, suc, ◌+◌, ◌<◌, ◌≤◌, Bool, true, false, List, [], ◌∷◌, ◌++◌, length, take, get_or, map, slice_get, Option, Some, option_map, refl, sym, subst, ◌∙◌, ap, arith, All, AllPairs, zero-add, append_assoc, append-nil}
use Rattle.std.proofs.lemmas.List.{length-take-le, take_more}
use Rattle.std.proofs.lemmas.List.Elements.{All-nil, All-cons}
use Rattle.std.proofs.lemmas.List.Kept.{AllPairs-cons}
use Rattle.std.specs.List.{Contains}
use Rattle.vod_design.specs.declared.parts.Scope.{Scope}
use Rattle.vod_design.specs.declared.parts.Signal.{Signal}
use Rattle.vod_design.specs.Flat.{ParentFits}
use Rattle.rows_idle.specs.Idle.{alike, if_it, numbers, ParentsFit}

pub numbers-append : (r : Bool) (n : ℕ) (xs : List Signal) (x : Signal) → numbers r n (xs ++ x ∷ []) ≡ numbers r n xs ++ if_it (alike r x.register) (n + length xs)
numbers-append r n [] x = let here : n ≡ n + 0 = omega arith in ap (λ k. if_it (alike r x.register) k ++ []) here ∙ append-nil (if_it (alike r x.register) (n + 0))
numbers-append r n (s ∷ ss) x =
    let next : suc n + length ss ≡ n + suc (length ss) = omega arith in
    ap (λ l. if_it (alike r s.register) n ++ l) (numbers-append r (suc n) ss x)
    ∙ sym (append_assoc (if_it (alike r s.register) n) (numbers r (suc n) ss) (if_it (alike r x.register) (suc n + length ss)))
    ∙ ap (λ k. (if_it (alike r s.register) n ++ numbers r (suc n) ss) ++ if_it (alike r x.register) k) next

-- one more signal
pub numbers_step : (r : Bool) (ss : List Signal) (i : ℕ) (d : Signal) (old new : List ℕ) → i < length ss → old ≡ numbers r 0 (take i ss) → new ≡ old ++ if_it (alike r (get_or ss i d).register) i → new ≡ numbers r 0 (take (i + 1) ss)
numbers_step r ss i d old new lt held added =
    let size : 0 + length (take i ss) ≡ i = zero-add (length (take i ss)) ∙ length-take-le i ss (omega arith) in
    added ∙ ap (λ l. l ++ if_it (alike r (get_or ss i d).register) i) held
    ∙ ap (λ k. numbers r 0 (take i ss) ++ if_it (alike r (get_or ss i d).register) k) (sym size)
    ∙ sym (numbers-append r 0 (take i ss) (get_or ss i d))
    ∙ ap (numbers r 0) (sym (take_more ss i d lt))

parents-append : (n : ℕ) (xs : List Scope) (x : Scope) → ParentsFit n xs → ParentFits (n + length xs) x.parent → ParentsFit n (xs ++ x ∷ [])
parents-append n [] x before here = (subst (λ k. ParentFits k x.parent) (let e : n + 0 ≡ n = omega arith in e) here, tt)
parents-append n (s ∷ ss) x before here = (before.0, parents-append (suc n) ss x before.1 (subst (λ k. ParentFits k x.parent) (let e : n + suc (length ss) ≡ suc n + length ss = omega arith in e) here))

-- one more instance
pub parents_step : (ss : List Scope) (i : ℕ) (d : Scope) → i < length ss → ParentsFit 0 (take i ss) → ParentFits i (get_or ss i d).parent → ParentsFit 0 (take (i + 1) ss)
parents_step ss i d lt before here =
    let size : 0 + length (take i ss) ≡ i = zero-add (length (take i ss)) ∙ length-take-le i ss (omega arith) in
    subst (ParentsFit 0) (sym (take_more ss i d lt)) (parents-append 0 (take i ss) (get_or ss i d) before (subst (λ k. ParentFits k (get_or ss i d).parent) (sym size) here))

-- the parent of each instance
pub parents_at : (k : ℕ) (ss : List Scope) (n : ℕ) (parent : Option ℕ) → ParentsFit k ss → slice_get (map (λ s. s.parent) ss) n ≡ Some parent → ParentFits (k + n) parent
parents_at k [] n parent fit e = absurd (cc)
parents_at k (s ∷ ss) zero parent fit e =
    let same : s.parent ≡ parent = cc in
    let here : k ≡ k + 0 = omega arith in
    subst (λ j. ParentFits j parent) here (subst (ParentFits k) same fit.0)
parents_at k (s ∷ ss) (suc n) parent fit e =
    let next : suc k + n ≡ k + suc n = omega arith in
    subst (λ j. ParentFits j parent) next (parents_at (suc k) ss n parent fit.1 e)

-- that the n-th signal is a register, or that it is none
abbrev pub IsOne : Bool → List Signal → ℕ → Type 0
IsOne r ss n = option_map (λ (s : Signal). s.register) (slice_get ss n) ≡ Some r

-- a number from k on of such a signal
pub record Is (r : Bool) (k : ℕ) (ss : List Signal) (m : ℕ) : Type 0 where
  pub n : ℕ
  pub is : m ≡ k + n
  pub one : IsOne r ss n

alike-true : (r b : Bool) → alike r b ≡ true → b ≡ r
alike-true true b e = e
alike-true false true e = absurd (cc)
alike-true false false e = refl

alike-same : (r : Bool) → alike r r ≡ true
alike-same true = refl
alike-same false = refl

later : (r : Bool) (k : ℕ) (s : Signal) (ss : List Signal) (m : ℕ) → Is r (suc k) ss m → Is r k (s ∷ ss) m
later r k s ss m i = record { n = suc i.n; is = omega (arith, i.is); one = i.one }

add_front : (P : ℕ → Type 0) (t : Bool) (k : ℕ) (rest : List ℕ) → (t ≡ true → P k) → All P rest → All P (if_it t k ++ rest)
add_front P true k rest here there = All-cons P k rest (here refl) there
add_front P false k rest here there = there

-- each of them is such a number
pub numbers_are : (r : Bool) (k : ℕ) (ss : List Signal) → All (Is r k ss) (numbers r k ss)
numbers_are r k [] = All-nil (Is r k [])
numbers_are r k (s ∷ ss) =
    let rest : All (Is r k (s ∷ ss)) (numbers r (suc k) ss) = λ i d lt. later r k s ss _ (numbers_are r (suc k) ss i d lt) in
    add_front (Is r k (s ∷ ss)) (alike r s.register) k (numbers r (suc k) ss)
    (λ e. record { n = 0; is = omega arith; one = ap (λ b. Some b) (alike-true r s.register e) }) rest

front : (t : Bool) (k : ℕ) (rest : List ℕ) → t ≡ true → Contains (if_it t k ++ rest) k
front true k rest e = (0, omega arith, refl)
front false k rest e = absurd (cc)

behind : (t : Bool) (k x : ℕ) (rest : List ℕ) → Contains rest x → Contains (if_it t k ++ rest) x
behind true k x rest c = (suc c.0, omega (arith, c.1), c.2)
behind false k x rest c = c

-- and each such number is one of them
pub numbers_have : (r : Bool) (k : ℕ) (ss : List Signal) (n : ℕ) → IsOne r ss n → Contains (numbers r k ss) (k + n)
numbers_have r k [] n is = absurd (cc)
numbers_have r k (s ∷ ss) zero is =
    let same : s.register ≡ r = cc in
    let here : k ≡ k + 0 = omega arith in
    subst (Contains (numbers r k (s ∷ ss))) here (front (alike r s.register) k (numbers r (suc k) ss) (ap (alike r) same ∙ alike-same r))
numbers_have r k (s ∷ ss) (suc n) is =
    let next : suc k + n ≡ k + suc n = omega arith in
    subst (Contains (numbers r k (s ∷ ss))) next (behind (alike r s.register) k (suc k + n) (numbers r (suc k) ss) (numbers_have r (suc k) ss n is))

add_first : (t : Bool) (k : ℕ) (rest : List ℕ) → All (λ m. k ≢ m) rest → AllPairs (λ a b. a ≢ b) rest → AllPairs (λ a b. a ≢ b) (if_it t k ++ rest)
add_first true k rest differ pairs = AllPairs-cons (λ a b. a ≢ b) k rest differ pairs
add_first false k rest differ pairs = pairs

-- each once
pub numbers_once : (r : Bool) (k : ℕ) (ss : List Signal) → AllPairs (λ a b. a ≢ b) (numbers r k ss)
numbers_once r k [] = λ i j e lt within. absurd (omega arith)
numbers_once r k (s ∷ ss) =
    let differ : All (λ m. k ≢ m) (numbers r (suc k) ss) = λ i d lt e. let is = numbers_are r (suc k) ss i d lt in absurd (omega (arith, is.is, e)) in
    add_first (alike r s.register) k (numbers r (suc k) ss) differ (numbers_once r (suc k) ss)

-- no more than there are signals
if_it-size : (t : Bool) (k : ℕ) (rest : List ℕ) → length (if_it t k ++ rest) ≤ suc (length rest)
if_it-size true k rest = omega arith
if_it-size false k rest = omega arith

pub numbers_few : (r : Bool) (k : ℕ) (ss : List Signal) → length (numbers r k ss) ≤ length ss
numbers_few r k [] = omega arith
numbers_few r k (s ∷ ss) = let one = if_it-size (alike r s.register) k (numbers r (suc k) ss) in let rest = numbers_few r (suc k) ss in omega (arith, one, rest)
