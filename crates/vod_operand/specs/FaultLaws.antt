-- The first of several faults.
use Rattle.std.proofs.Common.{◌≡◌, ℕ, Bool, true, false, cond, List, [], ◌∷◌, ◌++◌, Option, None, Some, refl, ◌∙◌, ap, arith}
use Rattle.std.proofs.lemmas.Bool.Decides.{nat_tests}
use Rattle.vod_operand.specs.declared.fault.Fault.{Fault}
use Rattle.vod_operand.specs.Operands.{place_of, stands_before, sooner, join, first, are_none}

before_trans : (a b c : Option ℕ) → true ≡ stands_before a b → true ≡ stands_before b c → stands_before a c ≡ true
before_trans None b c p q = absurd (cc)
before_trans (Some a) None c p q = absurd (cc)
before_trans (Some a) (Some b) None p q = refl
before_trans (Some a) (Some b) (Some c) p q = grind (arith, nat_tests)

pub not_before : (a b c : Option ℕ) → false ≡ stands_before a b → false ≡ stands_before b c → stands_before a c ≡ false
not_before None b c p q = refl
not_before (Some a) None c p q = absurd (cc)
not_before (Some a) (Some b) None p q = absurd (cc)
not_before (Some a) (Some b) (Some c) p q = grind (arith, nat_tests)

tested : (p q r : Bool) (x f g : Fault) → p ≡ stands_before (place_of g) (place_of f) → q ≡ stands_before (place_of f) (place_of x) → r ≡ stands_before (place_of g) (place_of x)
    → sooner x (cond p g f) ≡ sooner (cond q f x) g
tested true true true x f g a b c = rw (← a, ← c) refl
tested true true false x f g a b c = let h = before_trans (place_of g) (place_of f) (place_of x) a b in absurd (cc)
tested true false r x f g a b c = refl
tested false true r x f g a b c = rw (← a, ← b) refl
tested false false true x f g a b c = let h = not_before (place_of g) (place_of f) (place_of x) a b in absurd (cc)
tested false false false x f g a b c = rw (← b, ← c) refl

join_assoc : (a b c : Option Fault) → join a (join b c) ≡ join (join a b) c
join_assoc None b c = refl
join_assoc (Some x) None c = refl
join_assoc (Some x) (Some f) None = refl
join_assoc (Some x) (Some f) (Some g) = ap Some (tested _ _ _ x f g refl refl refl)

pub first_append : (xs ys : List Fault) → first (xs ++ ys) ≡ join (first xs) (first ys)
first_append [] ys = refl
first_append (x ∷ xs) ys = ap (join (Some x)) (first_append xs ys) ∙ join_assoc (Some x) (first xs) (first ys)

pub join_none : (f g : Option Fault) → join f g ≡ None → (f ≡ None) × (g ≡ None)
join_none None g h = (refl, h)
join_none (Some f) None h = absurd (cc)
join_none (Some f) (Some g) h = absurd (cc)

some_of : (f : Fault) (o : Option Fault) → join (Some f) o ≡ None → ⊥
some_of f None h = absurd (cc)
some_of f (Some g) h = absurd (cc)

pub sound_none : (fs : List Fault) → first fs ≡ None → fs ≡ []
sound_none [] h = refl
sound_none (f ∷ fs) h = absurd (some_of f (first fs) h)

pub unsound : (fs : List Fault) (f : Fault) → first fs ≡ Some f → are_none fs ≡ false
unsound [] f h = absurd (cc)
unsound (g ∷ fs) f h = refl

pub first_nothing : (fs : List Fault) → first (fs ++ []) ≡ first fs
first_nothing [] = refl
first_nothing (f ∷ fs) = ap (join (Some f)) (first_nothing fs)
