-- What `size` and `constant` answer.
use Rattle.std.proofs.Common.{◌≡◌, ℕ, min, max, Bool, true, false, ◌&&◌, cond, List, [], ◌∷◌, ◌++◌, Option, None, Some, Result, Ok, Err, IfSome, refl, sym, ◌∙◌, ap, subst, arith}
use Rattle.std.specs.Prelude.{MatchResult}
use Rattle.std.specs.List.{All, Contains}
use Rattle.std.proofs.lemmas.Bool.Decides.{nat_tests}
use Rattle.std.proofs.lemmas.List.Elements.{All-nil, All-cons, Contains-append_right}
use Rattle.vod_bits.specs.Bit.{Bit, BX}
use Rattle.vod_bits.specs.Value.{all_known}
use Rattle.vod_design.specs.declared.sized.SizedExpr.{SizedExpr}
use Rattle.vod_design.specs.Run.{eval, nothing}
use Rattle.vod_operand.specs.declared.fault.Fault.{Fault}
use Rattle.vod_operand.specs.declared.fault.Fault.TheVariants.{Rule, Width, Open}
use Rattle.vod_operand.specs.Operands.{Looked, own, place_of, stands_before, first, are_none, is_sound, value, join}
use Rattle.vod_operand.specs.Found.{TreeIs, Sees, SeesAs, IsNarrow, fault_of, fault_beside}
use Rattle.vod_operand.specs.FaultLaws.{not_before, sound_none, unsound}
use Rattle.vod_operand.specs.FoundLaws.{here, gone, beside_first}
use Rattle.vod_operand.specs.declared.tree.Looked as code
use Rattle.vod_width.specs.declared.types.Constant.{Constant}
use Rattle.vod_width.specs.declared.types.WidthFault.{WidthFault}
use Rattle.vod_width.specs.Sizes.{in_context, constant_faults}
use Rattle.vod_width.specs.Refusals.{Refused, HasNoValue, refusal_of}
use Rattle.vod_width.specs.declared.types.WidthFault.TheVariants as refusals

pub sized_here : (c : code.Looked) (x : Looked) (e : SizedExpr) (context w own_width : ℕ) (s : Bool) → Ok e ≡ c.tree → SeesAs c x (x.sized w s) → IsNarrow x → w ≡ max context own_width → own_width ≡ min x.width 65 → s ≡ x.signed
    → (x.faults ≡ []) × (e ≡ in_context context x)
sized_here c x e context w own_width s t h n p q r =
    let found = here c x e (x.sized w s) t h in
    let narrow = n (ap first found.0) in
    let exact : w ≡ max context x.width = omega (arith, p, q, narrow) in
    (found.0, found.1 ∙ ap (λ k. x.sized k s) exact ∙ ap (x.sized (max context x.width)) r)

-- where there is a tree there is no fault
no_fault_of : (t : Result SizedExpr Fault) (f : Option Fault) (u : SizedExpr) → None ≡ fault_of t → TreeIs t f u → f ≡ None
no_fault_of (Ok t) f u n h = h.0
no_fault_of (Err e) f u n h = absurd (cc)

the_fault_of : (t : Result SizedExpr Fault) (f : Option Fault) (g : Fault) (u : SizedExpr) → Some g ≡ fault_of t → TreeIs t f u → f ≡ Some g
the_fault_of (Ok t) f g u n h = absurd (cc)
the_fault_of (Err e) f g u n h = h ∙ sym n

pub own_here : (c : code.Looked) (x : Looked) → None ≡ fault_of c.tree → Sees c x → IsNarrow x → (x.faults ≡ []) × (c.width ≡ x.width) × (c.signed ≡ x.signed) × (c.constant ≡ x.constant)
own_here c x t s narrow =
    let none = no_fault_of c.tree (first x.faults) (x.sized 0 false) t s.tree in
    let small = narrow none in
    (sound_none x.faults none, omega (arith, s.width, small), s.signed, s.constant)

pub own_gone : (c : code.Looked) (x : Looked) (f : Fault) → Some f ≡ fault_of c.tree → Sees c x → first x.faults ≡ Some f
own_gone c x f t s = the_fault_of c.tree (first x.faults) f (x.sized 0 false) t s.tree

pub refused : (f : Fault) (fs : List Fault) → first fs ≡ Some f → Refused (refusal_of f) fs
refused (Rule place) fs h = h
refused (Width place) fs h = h
refused Open fs h = h

pub constant_gone : (c : code.Looked) (y : Looked) (f : Fault) → Err f ≡ c.tree → SeesAs c y (own y) → Refused (refusal_of (fault_beside f c.constant c.place)) (constant_faults y)
constant_gone c y f t h =
    let inner = gone c y f (own y) t h in
    let whole : first (constant_faults y) ≡ Some (fault_beside f y.constant y.place) = beside_first y.constant (is_sound y) (all_known (value y)) y.place y.faults f (unsound y.faults f inner) inner in
    refused (fault_beside f c.constant c.place) (constant_faults y) (whole ∙ ap (λ k. Some (fault_beside f k y.place)) (sym h.constant) ∙ ap (λ p. Some (fault_beside f c.constant p)) (sym h.place))

-- one without a fault inside
no_fault : (fs : List Fault) (k b a : Bool) (place : ℕ) → fs ≡ [] → k ≡ true → a ≡ true → fs ++ cond (k && cond b a true) [] (Rule place ∷ []) ≡ []
no_fault fs true true true place h k a = ap (λ z. z ++ []) h
no_fault fs true false true place h k a = ap (λ z. z ++ []) h
no_fault fs true b false place h k a = absurd (cc)
no_fault fs false b a place h k e = absurd (cc)

one_fault : (fs : List Fault) (k b a : Bool) (place p : ℕ) → fs ≡ [] → b ≡ true → (k && a) ≡ false → p ≡ place → first (fs ++ cond (k && cond b a true) [] (Rule place ∷ [])) ≡ Some (Rule p)
one_fault fs k false a place p h b n e = absurd (cc)
one_fault fs true true true place p h b n e = absurd (cc)
one_fault fs true true false place p h b n e = ap (λ z. first (z ++ Rule place ∷ [])) h ∙ ap (λ q. Some (Rule q)) (sym e)
one_fault fs false true a place p h b n e = ap (λ z. first (z ++ Rule place ∷ [])) h ∙ ap (λ q. Some (Rule q)) (sym e)

-- what `known` ensures of a tree
abbrev pub IsKnown : Result Constant WidthFault → List Bit → Bool → Bool → ℕ → Type 0
IsKnown r v k s place = MatchResult r (λ c. (k ≡ true) × (all_known v ≡ true) × (c.value ≡ v) × (c.signed ≡ s)) (λ f. HasNoValue f (k && all_known v) place)

abbrev pub IsConstant : Result Constant WidthFault → Looked → Type 0
IsConstant r y = MatchResult r (λ c. (constant_faults y ≡ []) × (c.value ≡ value y) × (c.signed ≡ y.signed)) (λ f. Refused f (constant_faults y))

known_is : (r : Result Constant WidthFault) (y : Looked) → y.faults ≡ [] → IsKnown r (value y) y.constant y.signed y.place → IsConstant r y
known_is (Ok c) y e h = (no_fault y.faults y.constant (is_sound y) (all_known (value y)) y.place e h.0 h.1, h.2, h.3)
known_is (Err (refusals.Rule p)) y e h = one_fault y.faults y.constant (is_sound y) (all_known (value y)) y.place p e (ap are_none e) h.0 h.1
known_is (Err (refusals.Width p)) y e h = absurd h
known_is (Err refusals.Open) y e h = absurd h
known_is (Err refusals.Memory) y e h = tt

pub constant_here : (r : Result Constant WidthFault) (c : code.Looked) (y : Looked) (e : SizedExpr) → Ok e ≡ c.tree → SeesAs c y (own y) → IsKnown r (eval BX [] (nothing BX) [] e) c.constant c.signed c.place → IsConstant r y
constant_here r c y e t h known =
    let found = here c y e (own y) t h in
    let A : SizedExpr → Type 0 = λ u. IsKnown r (eval BX [] (nothing BX) [] u) c.constant c.signed c.place in
    let B : Bool → Type 0 = λ k. IsKnown r (value y) k c.signed c.place in
    let C : Bool → Type 0 = λ s. IsKnown r (value y) y.constant s c.place in
    let D : ℕ → Type 0 = λ p. IsKnown r (value y) y.constant y.signed p in
    known_is r y found.0 (subst D h.place (subst C h.signed (subst B h.constant (subst A found.1 known))))

-- the first fault is the least: none stands before it
before_by : (a b c : Option ℕ) → true ≡ stands_before a b → stands_before a c ≡ false → stands_before b c ≡ false
before_by None b c p h = absurd (cc)
before_by (Some a) None c p h = refl
before_by (Some a) (Some b) None p h = absurd (cc)
before_by (Some a) (Some b) (Some c) p h = grind (arith, nat_tests)

abbrev NotBefore : Option ℕ → Fault → Type 0
NotBefore n g = stands_before (place_of g) n ≡ false

least_if : (t : Bool) (x g : Fault) (n : Option ℕ) → t ≡ stands_before (place_of g) (place_of x) → NotBefore n (cond t g x) → NotBefore n x × NotBefore n g
least_if true x g n e h = (before_by (place_of g) (place_of x) n e h, h)
least_if false x g n e h = (h, not_before (place_of g) (place_of x) n e (sym h))

least_step : (x : Fault) (fs : List Fault) (n : Option ℕ) (o : Option Fault) → (IfSome o (NotBefore n) → All (NotBefore n) fs) → IfSome (join (Some x) o) (NotBefore n) → All (NotBefore n) (x ∷ fs)
least_step x fs n None ih h = All-cons (NotBefore n) x fs h (ih tt)
least_step x fs n (Some g) ih h = let both = least_if (stands_before (place_of g) (place_of x)) x g n refl h in All-cons (NotBefore n) x fs both.0 (ih both.1)

at_least : (fs : List Fault) (n : Option ℕ) → IfSome (first fs) (NotBefore n) → All (NotBefore n) fs
at_least [] n h = All-nil (NotBefore n)
at_least (x ∷ fs) n h = least_step x fs n (first fs) (at_least fs n) h

not_itself : (n : Option ℕ) → stands_before n n ≡ false
not_itself None = refl
not_itself (Some n) = grind (arith, nat_tests)

head_in : (x f : Fault) (fs : List Fault) → x ≡ f → Contains (x ∷ fs) f
head_in x f fs e = (0, omega arith, e)

in_if : (t : Bool) (x g f : Fault) (fs : List Fault) → Contains fs g → Some (cond t g x) ≡ Some f → Contains (x ∷ fs) f
in_if true x g f fs h e = let same : g ≡ f = cc in let P : Fault → Type 0 = λ z. Contains (x ∷ fs) z in subst P same (Contains-append_right (x ∷ []) fs g h)
in_if false x g f fs h e = let same : x ≡ f = cc in head_in x f fs same

in_step : (x f : Fault) (fs : List Fault) (o : Option Fault) → ((g : Fault) → o ≡ Some g → Contains fs g) → join (Some x) o ≡ Some f → Contains (x ∷ fs) f
in_step x f fs None ih e = let same : x ≡ f = cc in head_in x f fs same
in_step x f fs (Some g) ih e = in_if (stands_before (place_of g) (place_of x)) x g f fs (ih g refl) e

pub first_in : (fs : List Fault) (f : Fault) → first fs ≡ Some f → Contains fs f
first_in [] f h = absurd (cc)
first_in (x ∷ fs) f h = in_step x f fs (first fs) (first_in fs) h

pub first_least : (fs : List Fault) (f : Fault) → first fs ≡ Some f → Contains fs f × All (λ g. stands_before (place_of g) (place_of f) ≡ false) fs
first_least fs f h =
    let P : Option Fault → Type 0 = λ o. IfSome o (NotBefore (place_of f)) in
    (first_in fs f h, at_least fs (place_of f) (subst P (sym h) (not_itself (place_of f))))
