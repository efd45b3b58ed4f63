-- Part selects, and names that are used as what they aren't.
use Rattle.std.proofs.Common.{◌≡◌, ℕ, ◌+◌, ◌-◌, ◌≤◌, min, nat_lt, nat_le, Bool, true, false, ◌&&◌, cond, List, [], ◌∷◌, ◌++◌, Option, None, Some, Result, Ok, Err, refl, sym, ◌∙◌, ap, subst, append_assoc, arith}
use Rattle.std.proofs.lemmas.Bool.Decides.{nat_tests}
use Rattle.vod_design.specs.declared.sized.SizedExpr.{SizedExpr}
use Rattle.vod_design.specs.declared.sized.SizedKind.TheVariants as kind
use Rattle.vod_operand.specs.declared.fault.Fault.{Fault}
use Rattle.vod_operand.specs.declared.fault.Fault.TheVariants.{Rule, Open}
use Rattle.vod_operand.specs.Operands.{Looked, own, first, known_natural, number_where, unless, join}
use Rattle.vod_operand.specs.Found.{TreeIs, Sees, SeesAs, looked_of, fault_of, fault_if, tree_unless}
use Rattle.vod_operand.specs.FaultLaws.{first_append, first_nothing, join_none}
use Rattle.vod_operand.specs.FoundLaws.{passed, unless_is, sees_of}
use Rattle.vod_operand.specs.declared.tree.Looked as code
use Rattle.vod_width.specs.declared.decls.Vector.{Vector}
use Rattle.vod_width.specs.Sizes.{misused, left_open, or_zero, in_vector, selected, in_wrong_order, index_faults, look_range}
use Rattle.vod_width.specs.View.{misused_tree, open_tree}
use Rattle.vod_width.proofs.Selects.{passed_where, low_in_vector}
use Rattle.vod_width.specs.declared.decls.Declared.TheVariants as stands

pub fault_is : (t : Result SizedExpr Fault) (f : Option Fault) (u : SizedExpr) → TreeIs t f u → fault_of t ≡ f
fault_is (Ok t) f u h = sym h.0
fault_is (Err e) f u h = sym h

misused_by : (place : ℕ) (beside : Option Fault) (fs : List Fault) → beside ≡ first fs → TreeIs (misused_tree place beside) (first (Rule place ∷ fs)) ((misused place fs).sized 0 false)
misused_by place None fs b = ap (join (Some (Rule place))) (sym b)
misused_by place (Some g) fs b = ap (join (Some (Rule place))) (sym b)

pub misused_sees : (c : code.Looked) (place : ℕ) (beside : Option Fault) (fs : List Fault) → c ≡ looked_of 0 0 false false (misused_tree place beside) → beside ≡ first fs → Sees c (misused place fs)
misused_sees c place beside fs e b = sees_of c (misused place fs) 0 false false (misused_tree place beside) e refl refl refl refl (misused_by place beside fs b)

open_by : (beside : Option Fault) (fs : List Fault) → beside ≡ first fs → TreeIs (open_tree beside) (first (fs ++ Open ∷ [])) ((left_open 0 false fs).sized 0 false)
open_by None fs b = first_append fs (Open ∷ []) ∙ ap (λ z. join z (Some Open)) (sym b)
open_by (Some g) fs b = first_append fs (Open ∷ []) ∙ ap (λ z. join z (Some Open)) (sym b)

-- what hangs on an open name
pub open_sees : (c : code.Looked) (w : ℕ) (k m : Bool) (beside : Option Fault) (fs : List Fault) → c ≡ looked_of 0 w false k (open_tree beside) → w ≤ 65 → k ≡ m → beside ≡ first fs → Sees c (left_open w m fs)
open_sees c w k m beside fs e small p b = sees_of c (left_open w m fs) w false k (open_tree beside) e refl (omega arith) refl p (open_by beside fs b)

-- two bounds behind a name that stands for no vector
pub bounds_misused : (c a b : code.Looked) (x y : Looked) (place : ℕ) (f g h : Option Fault) → c ≡ looked_of 0 0 false false (misused_tree place h) → h ≡ join f g → f ≡ fault_of a.tree → g ≡ fault_of b.tree → SeesAs a x (own x) → SeesAs b y (own y)
    → Sees c (misused place (x.faults ++ y.faults))
bounds_misused c a b x y place f g h e k p q s t =
    misused_sees c place h (x.faults ++ y.faults) e
    (k ∙ ap (λ z. join z g) (p ∙ fault_is a.tree (first x.faults) (own x) s.tree) ∙ ap (join (first x.faults)) (q ∙ fault_is b.tree (first y.faults) (own y) t.tree) ∙ sym (first_append x.faults y.faults))

-- the first fault of an index
pub index_when : (test : ℕ → Bool) (y : Looked) (f : Option Fault) → y.constant ≡ true → f ≡ first (y.faults ++ unless test y) → f ≡ first (index_faults test y)
index_when test y f k e = e ∙ ap (λ b. first (y.faults ++ cond b (unless test y) [])) (sym k)

pub index_else : (test : ℕ → Bool) (y : Looked) (t : Result SizedExpr Fault) → y.constant ≡ false → TreeIs t (first y.faults) (own y) → fault_of t ≡ first (index_faults test y)
index_else test y t k h = fault_is t (first y.faults) (own y) h ∙ sym (first_nothing y.faults) ∙ ap (λ b. first (y.faults ++ cond b (unless test y) [])) (sym k)

pub order_is : (t : Bool) (p : ℕ) → fault_if t p ≡ first (cond t (Rule p ∷ []) [])
order_is true p = refl
order_is false p = refl

pub faults_joined : (A B C D O : List Fault) (f g o : Option Fault) → f ≡ first (A ++ B) → g ≡ first (C ++ D) → o ≡ first O → join (join f g) o ≡ first (A ++ B ++ C ++ D ++ O)
faults_joined A B C D O f g o p q r =
    ap (λ z. join (join z g) o) p ∙ ap (λ z. join (join (first (A ++ B)) z) o) q ∙ ap (join (join (first (A ++ B)) (first (C ++ D)))) r
    ∙ ap (λ z. join z (first O)) (sym (first_append (A ++ B) (C ++ D))) ∙ ap (λ z. join (first z) (first O)) (sym (append_assoc (A ++ B) C D)) ∙ sym (first_append (A ++ B ++ C ++ D) O)

pub range_none : (A B C D O : List Fault) → first (A ++ B ++ C ++ D ++ O) ≡ None → (first (A ++ B) ≡ None) × (first (C ++ D) ≡ None)
range_none A B C D O h =
    let whole = join_none (join (first (A ++ B)) (first (C ++ D))) (first O) (faults_joined A B C D O (first (A ++ B)) (first (C ++ D)) (first O) refl refl refl ∙ h) in
    join_none (first (A ++ B)) (first (C ++ D)) whole.0

parts_hold : (r a b : Bool) → (r && (a && b)) ≡ true → (a ≡ true) × (b ≡ true)
parts_hold true true b h = (refl, h)
parts_hold true false b h = absurd (cc)
parts_hold false a b h = absurd (cc)

selected_by : (t : Bool) (m l least width : ℕ) → nat_lt (m - least) width ≡ true → nat_le least l ≡ true → cond t (m - l + 1) 0 ≤ width
selected_by true m l least width p q = grind (arith, nat_tests)
selected_by false m l least width p q = omega arith

selected_small : (v : Vector) (m l : ℕ) → in_vector v m ≡ true → in_vector v l ≡ true → selected (Some m) (Some l) ≤ v.width
selected_small v m l p q =
    let a = parts_hold v.ranged (nat_le v.lsb m) (nat_lt (m - v.lsb) v.width) p in
    let b = parts_hold v.ranged (nat_le v.lsb l) (nat_lt (l - v.lsb) v.width) q in
    selected_by (nat_le l m) m l v.lsb v.width a.1 b.0

pub range_width : (capped count : ℕ) (msb lsb X Y : Option ℕ) → capped ≡ min count 65 → count ≡ min (selected msb lsb) 255 → msb ≡ X → lsb ≡ Y → capped ≡ min (selected X Y) 65
range_width capped count msb lsb X Y c n p q =
    let cut : capped ≡ min (selected msb lsb) 65 = omega (arith, c, n) in
    cut ∙ ap (λ o. min (selected o lsb) 65) p ∙ ap (λ o. min (selected X o) 65) q

pub range_tree : (v : Vector) (x y : Looked) (msb lsb : Option ℕ) (count low : ℕ) (fault : Option Fault) (t : Result SizedExpr Fault) → msb ≡ number_where (in_vector v) x → lsb ≡ number_where (in_vector v) y
    → fault ≡ first (look_range 0 (Some (stands.Vector v)) x y).faults → count ≡ min (selected msb lsb) 255 → low ≡ min (or_zero lsb - v.lsb) 255 → v.width ≤ 255 → t ≡ tree_unless fault (kind.Select v.name low count)
    → TreeIs t (first (look_range 0 (Some (stands.Vector v)) x y).faults) ((look_range 0 (Some (stands.Vector v)) x y).sized 0 false)
range_tree v x y msb lsb count low fault t mm ll f n l small e =
    let P : Result SizedExpr Fault → Type 0 = λ z. TreeIs z (first (look_range 0 (Some (stands.Vector v)) x y).faults) ((look_range 0 (Some (stands.Vector v)) x y).sized 0 false) in
    let X = number_where (in_vector v) x in
    let Y = number_where (in_vector v) y in
    subst P (sym e) (unless_is fault (first (look_range 0 (Some (stands.Vector v)) x y).faults) (kind.Select v.name low count) (kind.Select v.name (or_zero Y - v.lsb) (selected X Y)) f
    (λ h. let none = range_none x.faults (unless (in_vector v) x) y.faults (unless (in_vector v) y) (cond (in_wrong_order (known_natural x) (known_natural y)) (Rule x.place ∷ []) []) h in
    let p = passed (in_vector v) x none.0 in
    let q = passed (in_vector v) y none.1 in
    let upper : X ≡ Some p.number = passed_where (in_vector v) x p in
    let lower : Y ≡ Some q.number = passed_where (in_vector v) y q in
    let inside = low_in_vector v q.number q.holds in
    let few = selected_small v p.number q.number p.holds q.holds in
    let cut : min (selected (Some p.number) (Some q.number)) 255 ≡ selected (Some p.number) (Some q.number) = omega (arith, few, small) in
    let same_low : low ≡ or_zero Y - v.lsb = l ∙ ap (λ o. min (or_zero o - v.lsb) 255) (ll ∙ lower) ∙ omega (arith, inside, small) ∙ ap (λ o. or_zero o - v.lsb) (sym lower) in
    let same_count : count ≡ selected X Y
    = n ∙ ap (λ o. min (selected o lsb) 255) (mm ∙ upper) ∙ ap (λ o. min (selected (Some p.number) o) 255) (ll ∙ lower) ∙ cut ∙ ap (λ o. selected o (Some q.number)) (sym upper) ∙ ap (selected X) (sym lower) in
    ap (λ k. kind.Select v.name k count) same_low ∙ ap (kind.Select v.name (or_zero Y - v.lsb)) same_count))
