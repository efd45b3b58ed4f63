-- What is known of an expression by what the code finds of it.
use Rattle.std.proofs.Common.{◌≡◌, Option, None, Result, Ok, Err, IfOk, sym, ◌∙◌, ℕ, min, Bool, false, subst, true, not, ◌&&◌, cond, List, [], ◌∷◌, ◌++◌, Some, refl, ap}
use Rattle.vod_design.specs.declared.sized.SizedExpr.{SizedExpr}
use Rattle.vod_design.specs.declared.sized.SizedKind.{SizedKind}
use Rattle.vod_operand.specs.declared.fault.Fault.{Fault}
use Rattle.vod_operand.specs.Found.{TreeIs, Sees, looked_of, SeesAs, fault_beside, part_fault_of, tree_unless}
use Rattle.vod_operand.specs.Operands.{Looked, first, join, node, are_none, is_sound, value, natural, known_natural, meets, may_be, unless}
use Rattle.vod_bits.specs.Bit.{is_1}
use Rattle.vod_bits.specs.Value.{number_of, upper_bit, all_known}
use Rattle.vod_operand.specs.declared.fault.Fault.TheVariants.{Rule}
use Rattle.vod_operand.specs.FaultLaws.{first_append, join_none, sound_none, unsound, first_nothing}
use Rattle.vod_operand.specs.declared.tree.Looked as code

pub ifok : {A E : Type 0} {P Q : A → Type 0} (r : Result A E) → IfOk r P → ((v : A) → P v → Q v) → IfOk r Q
ifok (Ok v) h f = f v h
ifok (Err e) h f = tt

-- a tree with its fault and its value rewritten
pub tree_moved : (t : Result SizedExpr Fault) (f g : Option Fault) (u v : SizedExpr) → f ≡ g → (f ≡ None → u ≡ v) → TreeIs t f u → TreeIs t g v
tree_moved (Ok t) f g u v p q h = (sym p ∙ h.0, h.1 ∙ q h.0)
tree_moved (Err e) f g u v p q h = sym p ∙ h

pub sees_of : (c : code.Looked) (x : Looked) (w : ℕ) (s k : Bool) (t : Result SizedExpr Fault) → c ≡ looked_of 0 w s k t → 0 ≡ x.place → w ≡ min x.width 65 → s ≡ x.signed → k ≡ x.constant
    → TreeIs t (first x.faults) (x.sized 0 false) → Sees c x
sees_of c x w s k t e place width signed constant tree =
    let P : code.Looked → Type 0 = λ d. Sees d x in
    subst P (sym e) (record { place = place; width = width; signed = signed; constant = constant; tree = tree })

-- what a part's tree says of its faults
pub here : (c : code.Looked) (y : Looked) (t u : SizedExpr) → Ok t ≡ c.tree → SeesAs c y u → (y.faults ≡ []) × (t ≡ u)
here c y t u e s =
    let P : Result SizedExpr Fault → Type 0 = λ z. TreeIs z (first y.faults) u in
    let h = subst P (sym e) s.tree in
    (sound_none y.faults h.0, h.1)

pub gone : (c : code.Looked) (y : Looked) (f : Fault) (u : SizedExpr) → Err f ≡ c.tree → SeesAs c y u → first y.faults ≡ Some f
gone c y f u e s =
    let P : Result SizedExpr Fault → Type 0 = λ z. TreeIs z (first y.faults) u in
    subst P (sym e) s.tree

-- an expression with a fault inside that has to be constant
pub beside_first : (k b m : Bool) (place : ℕ) (fs : List Fault) (f : Fault) → b ≡ false → first fs ≡ Some f → first (fs ++ cond (k && cond b m true) [] (Rule place ∷ [])) ≡ Some (fault_beside f k place)
beside_first k true m place fs f p q = absurd (cc)
beside_first true false m place fs f p q = first_nothing fs ∙ q
beside_first false false m place fs f p q = first_append fs (Rule place ∷ []) ∙ ap (λ z. join z (Some (Rule place))) q

fault_ok : (b k m : Bool) (place : ℕ) (fs : List Fault) (n : Option ℕ) (test : ℕ → Bool) → b ≡ true → fs ≡ [] → m ≡ meets test n → (k ≡ false → n ≡ None)
    → cond (not (meets test (cond b n None))) (Some (Rule place)) None ≡ first (fs ++ cond (k && cond b m true) [] (Rule place ∷ []))
fault_ok false k m place fs n test p q h none = absurd (cc)
fault_ok true true true place fs n test p q h none = rw (q, ← h) refl
fault_ok true true false place fs n test p q h none = rw (q, ← h) refl
fault_ok true false m place fs n test p q h none = rw (q, none refl) refl

no_number : (y : Looked) → y.constant ≡ false → natural y ≡ None
no_number y h = ap (λ k. cond (k && (all_known (value y) && not (y.signed && is_1 (upper_bit (value y))))) (Some (number_of (value y))) None) h

fault_cases : (t : Result SizedExpr Fault) (test : ℕ → Bool) (y : Looked) (u : SizedExpr) → TreeIs t (first y.faults) u
    → part_fault_of y.constant (meets test (known_natural y)) y.place t ≡ first (y.faults ++ unless test y)
fault_cases (Ok t) test y u h =
    fault_ok (is_sound y) y.constant (meets test (natural y)) y.place y.faults (natural y) test (ap are_none (sound_none y.faults h.0)) (sound_none y.faults h.0) refl (no_number y)
fault_cases (Err f) test y u h = sym (beside_first y.constant (is_sound y) (meets test (natural y)) y.place y.faults f (unsound y.faults f h) h)

-- the first fault of a part that has to be a number for which a test holds
pub part_fault_is : (test : ℕ → Bool) (c : code.Looked) (y : Looked) (u : SizedExpr) → SeesAs c y u
    → part_fault_of c.constant (meets test (known_natural y)) c.place c.tree ≡ first (y.faults ++ unless test y)
part_fault_is test c y u s =
    ap (λ k. part_fault_of k (meets test (known_natural y)) c.place c.tree) s.constant ∙ ap (λ p. part_fault_of y.constant (meets test (known_natural y)) p c.tree) s.place ∙ fault_cases c.tree test y u s.tree

-- a part without faults is a number for which the test holds
pub record Passed (test : ℕ → Bool) (y : Looked) : Type 0 where
  pub number : ℕ
  pub is : natural y ≡ Some number
  pub known : known_natural y ≡ Some number
  pub holds : test number ≡ true

held : (b : Bool) (place : ℕ) → first (cond b [] (Rule place ∷ [])) ≡ None → b ≡ true
held true place h = refl
held false place h = absurd (cc)

passed_by : (test : ℕ → Bool) (y : Looked) (b : Bool) (n : Option ℕ) → natural y ≡ n → b ≡ is_sound y → y.faults ≡ [] → (y.constant && cond b (meets test n) true) ≡ true → Passed test y
passed_by test y false n p q h e = absurd (cc)
passed_by test y true None p q h e = absurd (not_both y.constant e) where
  not_both : (k : Bool) → (k && false) ≡ true → ⊥
  not_both true e = absurd (cc)
  not_both false e = absurd (cc)
passed_by test y true (Some n) p q h e = record { number = n; is = p; known = ap (λ b. cond b (natural y) None) (sym q) ∙ p; holds = second y.constant (test n) e } where
  second : (k b : Bool) → (k && b) ≡ true → b ≡ true
  second true b e = e
  second false b e = absurd (cc)

pub passed : (test : ℕ → Bool) (y : Looked) → first (y.faults ++ unless test y) ≡ None → Passed test y
passed test y h =
    let parts = join_none (first y.faults) (first (unless test y)) (sym (first_append y.faults (unless test y)) ∙ h) in
    passed_by test y (is_sound y) (natural y) refl refl (sound_none y.faults parts.0) (held (may_be test y) y.place parts.1)

-- a tree of a kind where there are no faults
pub unless_is : (f g : Option Fault) (k l : SizedKind) → f ≡ g → (g ≡ None → k ≡ l) → TreeIs (tree_unless f k) g (node 0 false l)
unless_is None g k l e h = (sym e, ap (node 0 false) (h (sym e)))
unless_is (Some f) g k l e h = sym e
