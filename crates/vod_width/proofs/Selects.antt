-- Selects at constant indices, and at values.
use Rattle.std.proofs.Common.{◌≡◌, ℕ, Bool, true, false, ◌&&◌, cond, Option, None, refl, ◌-◌, ◌≤◌, ◌<◌, min, nat_lt, nat_le, [], ◌++◌, Some, Result, Ok, Err, sym, ◌∙◌, ap, subst, arith}
use Rattle.std.proofs.lemmas.Bool.Decides.{nat_tests}
use Rattle.vod_design.specs.declared.sized.SizedExpr.{SizedExpr}
use Rattle.vod_design.specs.declared.sized.SizedKind.TheVariants as kind
use Rattle.vod_operand.specs.Operands.{Looked, is_sound, natural, known_natural, meets, number_where, node, own, first, unless}
use Rattle.vod_operand.specs.Found.{TreeIs, SeesAs, part_fault_of, tree_unless}
use Rattle.vod_operand.specs.declared.fault.Fault.{Fault}
use Rattle.vod_operand.specs.FoundLaws.{part_fault_is, Passed, passed, unless_is}
use Rattle.vod_operand.specs.FaultLaws.{first_nothing}
use Rattle.vod_operand.specs.declared.tree.Looked as code
use Rattle.vod_width.specs.View.{kept, is_found, bit_index_tree, word_index_tree}
use Rattle.vod_width.specs.declared.decls.Vector.{Vector}
use Rattle.vod_width.specs.declared.decls.WordArray.{WordArray}
use Rattle.vod_width.specs.Sizes.{or_zero, memory, in_vector, in_ram, look_index}
use Rattle.vod_width.specs.declared.decls.Declared.TheVariants as stands

kept_if : (test : ℕ → Bool) (n : Option ℕ) (b : Bool) → kept test (cond b n None) ≡ cond (b && meets test n) n None
kept_if test n true = refl
kept_if test n false = refl

pub kept_is : (test : ℕ → Bool) (y : Looked) → kept test (known_natural y) ≡ number_where test y
kept_is test y = kept_if test (natural y) (is_sound y)

found_if : (b : Bool) (n : ℕ) → is_found (cond b (Some n) None) ≡ b
found_if true n = refl
found_if false n = refl

found_kept : (test : ℕ → Bool) (n : Option ℕ) → is_found (kept test n) ≡ meets test n
found_kept test None = refl
found_kept test (Some n) = found_if (test n) n

pub number_step : (test : ℕ → Bool) (c : code.Looked) (y : Looked) (n m : Option ℕ) (found : Bool) (fault : Option Fault) → n ≡ known_natural y → m ≡ kept test n → found ≡ is_found m
    → fault ≡ part_fault_of c.constant found c.place c.tree → SeesAs c y (own y) → fault ≡ first (y.faults ++ unless test y)
number_step test c y n m found fault nn mm f e s =
    e ∙ ap (λ b. part_fault_of c.constant b c.place c.tree) (f ∙ ap is_found mm ∙ found_kept test n ∙ ap (meets test) nn) ∙ part_fault_is test c y (own y) s

pub number_is : (test : ℕ → Bool) (y : Looked) (n m : Option ℕ) → n ≡ known_natural y → m ≡ kept test n → m ≡ number_where test y
number_is test y n m nn mm = mm ∙ ap (kept test) nn ∙ kept_is test y

pub passed_where : (test : ℕ → Bool) (y : Looked) (p : Passed test y) → number_where test y ≡ Some p.number
passed_where test y p = sym (kept_is test y) ∙ ap (kept test) p.known ∙ ap (λ b. cond b (Some p.number) None) p.holds

within_vector : (r a b : Bool) → (r && (a && b)) ≡ true → b ≡ true
within_vector true true b h = h
within_vector true false b h = absurd (cc)
within_vector false a b h = absurd (cc)

pub low_in_vector : (v : Vector) (n : ℕ) → in_vector v n ≡ true → n - v.lsb < v.width
low_in_vector v n h = let t = within_vector v.ranged (nat_le v.lsb n) (nat_lt (n - v.lsb) v.width) h in grind (arith, nat_tests)

within_ram : (a b : Bool) → (a && b) ≡ true → b ≡ true
within_ram true b h = h
within_ram false b h = absurd (cc)

place_in_ram : (m : WordArray) (n : ℕ) → in_ram m n ≡ true → n ≤ m.high
place_in_ram m n h = let t = within_ram (nat_le m.low n) (nat_le n m.high) h in grind (arith, nat_tests)

pub bit_tree : (v : Vector) (y : Looked) (m : Option ℕ) (low : ℕ) (fault : Option Fault) (t : Result SizedExpr Fault) → m ≡ number_where (in_vector v) y → fault ≡ first (y.faults ++ unless (in_vector v) y)
    → low ≡ min (or_zero m - v.lsb) 255 → v.width ≤ 255 → t ≡ tree_unless fault (kind.Select v.name low 1) → y.constant ≡ true
    → TreeIs t (first (look_index 0 (Some (stands.Vector v)) y).faults) ((look_index 0 (Some (stands.Vector v)) y).sized 0 false)
bit_tree v y m low fault t mm f l small e constant =
    let P : Result SizedExpr Fault → Type 0 = λ z. TreeIs z (first (look_index 0 (Some (stands.Vector v)) y).faults) ((look_index 0 (Some (stands.Vector v)) y).sized 0 false) in
    subst P (sym e) (unless_is fault (first (look_index 0 (Some (stands.Vector v)) y).faults) (kind.Select v.name low 1) _
    (f ∙ ap (λ b. first (y.faults ++ cond b (unless (in_vector v) y) [])) (sym constant))
    (λ h. let p = passed (in_vector v) y (ap (λ b. first (y.faults ++ cond b (unless (in_vector v) y) [])) (sym constant) ∙ h) in
    let is : m ≡ Some p.number = mm ∙ passed_where (in_vector v) y p in
    let inside = low_in_vector v p.number p.holds in
    let same : low ≡ p.number - v.lsb = l ∙ ap (λ o. min (or_zero o - v.lsb) 255) is ∙ omega (arith, inside, small) in
    ap (λ k. kind.Select v.name k 1) (same ∙ ap (λ o. or_zero o - v.lsb) (sym p.is)) ∙ ap (λ b. cond b (kind.Select v.name (or_zero (natural y) - v.lsb) 1) (kind.Index v.name v.lsb (own y))) (sym constant)))

pub word_tree : (w : WordArray) (y : Looked) (m : Option ℕ) (place : ℕ) (fault : Option Fault) (t : Result SizedExpr Fault) → m ≡ number_where (in_ram w) y → fault ≡ first (y.faults ++ unless (in_ram w) y)
    → place ≡ min (or_zero m - w.low) 65535 → w.high ≤ 65535 → t ≡ tree_unless fault (kind.Word (memory w) place) → y.constant ≡ true
    → TreeIs t (first (look_index 0 (Some (stands.Ram w)) y).faults) ((look_index 0 (Some (stands.Ram w)) y).sized 0 false)
word_tree w y m place fault t mm f l small e constant =
    let P : Result SizedExpr Fault → Type 0 = λ z. TreeIs z (first (look_index 0 (Some (stands.Ram w)) y).faults) ((look_index 0 (Some (stands.Ram w)) y).sized 0 false) in
    subst P (sym e) (unless_is fault (first (look_index 0 (Some (stands.Ram w)) y).faults) (kind.Word (memory w) place) _
    (f ∙ ap (λ b. first (y.faults ++ cond b (unless (in_ram w) y) [])) (sym constant))
    (λ h. let p = passed (in_ram w) y (ap (λ b. first (y.faults ++ cond b (unless (in_ram w) y) [])) (sym constant) ∙ h) in
    let is : m ≡ Some p.number = mm ∙ passed_where (in_ram w) y p in
    let inside = place_in_ram w p.number p.holds in
    let same : place ≡ p.number - w.low = l ∙ ap (λ o. min (or_zero o - w.low) 65535) is ∙ omega (arith, inside, small) in
    ap (λ k. kind.Word (memory w) k) (same ∙ ap (λ o. or_zero o - w.low) (sym p.is)) ∙ ap (λ b. cond b (kind.Word (memory w) (or_zero (natural y) - w.low)) (kind.WordIndex (memory w) w.low (own y))) (sym constant)))

-- an index that is a value
bit_index_is : (v : Vector) (t : Result SizedExpr Fault) (f : Option Fault) (u : SizedExpr) → TreeIs t f u → TreeIs (bit_index_tree v t) f (node 0 false (kind.Index v.name v.lsb u))
bit_index_is v (Ok t) f u h = (h.0, ap (λ z. node 0 false (kind.Index v.name v.lsb z)) h.1)
bit_index_is v (Err g) f u h = h

word_index_is : (m : WordArray) (t : Result SizedExpr Fault) (f : Option Fault) (u : SizedExpr) → TreeIs t f u → TreeIs (word_index_tree m t) f (node 0 false (kind.WordIndex (memory m) m.low u))
word_index_is m (Ok t) f u h = (h.0, ap (λ z. node 0 false (kind.WordIndex (memory m) m.low z)) h.1)
word_index_is m (Err g) f u h = h

pub bit_value : (v : Vector) (y : Looked) (r t : Result SizedExpr Fault) → t ≡ bit_index_tree v r → TreeIs r (first y.faults) (own y) → y.constant ≡ false
    → TreeIs t (first (look_index 0 (Some (stands.Vector v)) y).faults) ((look_index 0 (Some (stands.Vector v)) y).sized 0 false)
bit_value v y r t e h constant =
    let P : Result SizedExpr Fault → Type 0 = λ z. TreeIs z (first (look_index 0 (Some (stands.Vector v)) y).faults) ((look_index 0 (Some (stands.Vector v)) y).sized 0 false) in
    let Q : Bool → Type 0 = λ b. TreeIs (bit_index_tree v r) (first (y.faults ++ cond b (unless (in_vector v) y) [])) (node 0 false (cond b (kind.Select v.name (or_zero (natural y) - v.lsb) 1) (kind.Index v.name v.lsb (own y)))) in
    let F : Option Fault → Type 0 = λ f. TreeIs (bit_index_tree v r) f (node 0 false (kind.Index v.name v.lsb (own y))) in
    subst P (sym e) (subst Q (sym constant) (subst F (sym (first_nothing y.faults)) (bit_index_is v r (first y.faults) (own y) h)))

pub word_value : (m : WordArray) (y : Looked) (r t : Result SizedExpr Fault) → t ≡ word_index_tree m r → TreeIs r (first y.faults) (own y) → y.constant ≡ false
    → TreeIs t (first (look_index 0 (Some (stands.Ram m)) y).faults) ((look_index 0 (Some (stands.Ram m)) y).sized 0 false)
word_value m y r t e h constant =
    let P : Result SizedExpr Fault → Type 0 = λ z. TreeIs z (first (look_index 0 (Some (stands.Ram m)) y).faults) ((look_index 0 (Some (stands.Ram m)) y).sized 0 false) in
    let Q : Bool → Type 0 = λ b. TreeIs (word_index_tree m r) (first (y.faults ++ cond b (unless (in_ram m) y) [])) (node 0 false (cond b (kind.Word (memory m) (or_zero (natural y) - m.low)) (kind.WordIndex (memory m) m.low (own y)))) in
    let F : Option Fault → Type 0 = λ f. TreeIs (word_index_tree m r) f (node 0 false (kind.WordIndex (memory m) m.low (own y))) in
    subst P (sym e) (subst Q (sym constant) (subst F (sym (first_nothing y.faults)) (word_index_is m r (first y.faults) (own y) h)))
