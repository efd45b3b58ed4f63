-- What the inputs hold, against what earlier vectors assigned.
use Rattle.std.proofs.Common.{◌≡◌, ℕ, zero, suc, ◌+◌, ◌<◌, arith, List, [], ◌∷◌, ◌++◌, length, get_or, set, slice_get, refl, sym, ap, ◌∙◌, subst, true, false, not, ◌==◌, ◌&&◌, ◌||◌, Bool, IsTrue, inl, inr, All, append_assoc, append-nil, length-set, get_or-set_same, get_or-set_other, cond, if◌then◌else◌}
use Rattle.std.proofs.lemmas.Bool.{cases_eq, ne_eqb}
use Rattle.std.proofs.lemmas.Bool.Decides.{Decides-eqb}
use Rattle.std.proofs.lemmas.List.Elements.{All-head, All-tail}
use Rattle.std.specs.List.{list_all, enumerate_from}
use Rattle.vod_thin_design.specs.declared.thin.Bit.{Bit}
use Rattle.vod_thin_design.specs.declared.thin.Bit.TheVariants as bit
use Rattle.vod_thin_design.specs.declared.thin.Class.{Class}
use Rattle.vod_thin_design.specs.declared.thin.Input.{Input}
use Rattle.vod_thin_design.specs.declared.thin.Move.{Move}
use Rattle.vod_thin_design.specs.Bits.{same_bit, is_known}
use Rattle.vod_thin_design.specs.Netlist.{Netlist}
use Rattle.vod_thin_design.specs.Vectors.{holds, changes, has_class}
use Rattle.vod_thin_script.specs.Held.{value_from, AreValues, written, leaves, same_class, is_of, change_only}
use Rattle.vod_thin_script.specs.Reading.{IsMove}

-- what an assignment leaves as it is, by the value that earlier ones left
holds-is : (moves : List Move) (otherwise : Bool) (b : Bit) (m : Move) → otherwise ≡ same_bit b m.value → holds otherwise moves m ≡ same_bit (value_from b moves m.input) m.value
holds-is [] otherwise b m e = e
holds-is (g ∷ moves) otherwise b m e = holds-is moves (if g.input == m.input then same_bit g.value m.value else otherwise) (if g.input == m.input then g.value else b) m (by_test (g.input == m.input))
  where
    by_test : (t : Bool) → (if t then same_bit g.value m.value else otherwise) ≡ same_bit (if t then g.value else b) m.value
    by_test true = refl
    by_test false = e

unknown : (b : Bit) → IsTrue (is_known b) → false ≡ same_bit bit.Z b
unknown bit.Zero h = refl
unknown bit.One h = refl
unknown bit.X h = refl
unknown bit.Z h = cc

held-is : (before : List Move) (values : List Bit) (m : Move) → AreValues before values → m.input < length values → IsTrue (is_known m.value) → holds false before m ≡ leaves values m
held-is before values m v lt known =
    holds-is before false bit.Z m (unknown m.value known) ∙ ap (λ b. same_bit b m.value) (sym (v.left m.input lt))

-- the class of an input, by its number
class_past : (class : Class) (inputs : List Input) (n i : ℕ) → i < n → list_all (λ e. not (e.0 == i) || same_class class e.1.class) (enumerate_from n inputs) ≡ true
class_past class [] n i lt = refl
class_past class (x ∷ inputs) n i lt =
    ap (λ t. (not t || same_class class x.class) && list_all (λ e. not (e.0 == i) || same_class class e.1.class) (enumerate_from (n + 1) inputs)) (ne_eqb n i (λ e. omega arith))
    ∙ class_past class inputs (n + 1) i (omega arith)

and-true : (b : Bool) → (b && true) ≡ b
and-true true = refl
and-true false = refl

class_at : (class : Class) (inputs : List Input) (n i k : ℕ) → i ≡ n + k → list_all (λ e. not (e.0 == i) || same_class class e.1.class) (enumerate_from n inputs) ≡ is_of class (slice_get inputs k)
class_at class [] n i k e = refl
class_at class (x ∷ inputs) n i zero e =
    let test : (n == i) ≡ true = (Decides-eqb n i).1 (omega arith) in
    ap (λ t. (not t || same_class class x.class) && list_all (λ e. not (e.0 == i) || same_class class e.1.class) (enumerate_from (n + 1) inputs)) test
    ∙ ap (λ r. same_class class x.class && r) (class_past class inputs (n + 1) i (omega arith)) ∙ and-true (same_class class x.class)
class_at class (x ∷ inputs) n i (suc k) e =
    let test : (n == i) ≡ false = ne_eqb n i (λ s. omega arith) in
    ap (λ t. (not t || same_class class x.class) && list_all (λ e. not (e.0 == i) || same_class class e.1.class) (enumerate_from (n + 1) inputs)) test
    ∙ class_at class inputs (n + 1) i k (omega arith)

-- what some assignments change is all of one class
pub one_class : (d : Netlist) (class : Class) (before : List Move) (values : List Bit) (moves : List Move) → AreValues before values → length values ≡ length d.inputs → All (IsMove d) moves
    → change_only d.inputs values class moves ≡ list_all (has_class (same_class class) d) (changes before moves)
one_class d class before values [] v size are = refl
one_class d class before values (m ∷ moves) v size are =
    let here = All-head (IsMove d) m moves are in
    let inside = here.input in
    let rest = one_class d class before values moves v size (All-tail (IsMove d) m moves are) in
    let held : leaves values m ≡ holds false before m = sym (held-is before values m v (omega arith) here.known) in
    let of : is_of class (slice_get d.inputs m.input) ≡ has_class (same_class class) d m = sym (class_at class d.inputs 0 m.input m.input (omega arith)) in
    by_test (leaves values m) (holds false before m) (is_of class (slice_get d.inputs m.input)) (change_only d.inputs values class moves) held of rest
  where
    by_test : (l h o r : Bool) → l ≡ h → o ≡ has_class (same_class class) d m → r ≡ list_all (has_class (same_class class) d) (changes before moves)
        → ((l || o) && r) ≡ list_all (has_class (same_class class) d) (cond (not h) (m ∷ changes before moves) (changes before moves))
    by_test true true o r e f g = g
    by_test false false o r e f g = (ap (λ b. b && r) f ∙ ap (λ b. has_class (same_class class) d m && b) g)
    by_test true false o r e f g = cc
    by_test false true o r e f g = cc

-- one more assignment
value_from-push : (moves : List Move) (b : Bit) (m : Move) (i : ℕ) → value_from b (moves ++ m ∷ []) i ≡ (if m.input == i then m.value else value_from b moves i)
value_from-push [] b m i = refl
value_from-push (g ∷ moves) b m i = value_from-push moves (if g.input == i then g.value else b) m i

values_push : (before : List Move) (values : List Bit) (m : Move) → AreValues before values → AreValues (before ++ m ∷ []) (set values m.input m.value)
values_push before values m v = record {
  left = λ i lt. (let size = length-set values m.input m.value in elim (cases_eq i m.input) [
    | inl same ↦ (
        let test : (m.input == i) ≡ true = (Decides-eqb m.input i).1 (sym same) in
        let within : m.input < length values = omega arith in
        ap (λ n. get_or (set values m.input m.value) n bit.X) same ∙ get_or-set_same values m.input m.value bit.X within ∙ sym (ap (λ t. if t then m.value else value_from bit.Z before i) test) ∙ sym (value_from-push before bit.Z m i))
    | inr other ↦ (
        let test : (m.input == i) ≡ false = ne_eqb m.input i (λ e. other (sym e)) in
        get_or-set_other values m.input i m.value bit.X other ∙ v.left i (omega arith) ∙ sym (ap (λ t. if t then m.value else value_from bit.Z before i) test) ∙ sym (value_from-push before bit.Z m i))
  ]);
}

-- what is written is what the assignments leave
pub values_written : (before moves : List Move) (values : List Bit) → AreValues before values → AreValues (before ++ moves) (written values moves)
values_written before [] values v = subst (λ ms. AreValues ms values) (sym (append-nil before)) v
values_written before (m ∷ moves) values v =
    subst (λ ms. AreValues ms (written (set values m.input m.value) moves)) (append_assoc before (m ∷ []) moves) (values_written (before ++ m ∷ []) moves (set values m.input m.value) (values_push before values m v))
