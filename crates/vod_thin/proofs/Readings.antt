-- What is grouped as operators bind is read as its expression.
use Rattle.std.proofs.Common.{◌≡◌, ℕ, ◌<◌, ◌≤◌, nat_le, nat_lt, Bool, true, false, ◌&&◌, if◌then◌else◌, List, [], ◌∷◌, ◌++◌, refl, sym, ap, ◌∙◌, arith}
use Rattle.std.proofs.lemmas.Bool.Decides.{nat_tests}
use Rattle.vod_thin_design.specs.declared.thin.Expr.{Expr}
use Rattle.vod_thin_design.specs.declared.thin.Expr.TheVariants as expr
use Rattle.vod_thin_syntax.specs.declared.words.Word.TheVariants as word
use Rattle.vod_thin_syntax.specs.Syntax as tree
use Rattle.vod_thin_syntax.specs.Syntax.{Name, Mark, Named, Fixed, Value, Plain, Group, Joined, operator_word, tilde, value_marks, strength, level, is_grouped}
use Rattle.vod_thin.specs.declared.names.Kind.{Kind}
use Rattle.vod_thin.specs.declared.machine.Operator.{Operator}
use Rattle.vod_thin.specs.declared.machine.Operator.TheVariants.{And, Xor, Or}
use Rattle.vod_thin.specs.declared.machine.Frame.{Frame}
use Rattle.vod_thin.specs.declared.machine.Frame.TheVariants.{Inverted, Opened, Left}
use Rattle.vod_thin.specs.Machine.{Machine, machine, tight, combined, reduce, settled, on_close, on_operator, on_word, step, run, start, last_of, read_expr}
use Rattle.vod_thin.specs.Netlists.{number_of, inverted_if, joined, expr_of}

-- the operator of the code
abbrev operator_in : tree.Operator → Operator
operator_in tree.And = And
operator_in tree.Xor = Xor
operator_in tree.Or = Or

run_append : (es : List (List ℕ × Kind)) (m : Machine) (xs ys : List Mark) → run es m (xs ++ ys) ≡ run es (run es m xs) ys
run_append es m [] ys = refl
run_append es m (x ∷ xs) ys = run_append es (step es m x) xs ys

-- frames that leave an operand of a level whole
abbrev Leaves : ℕ → List Frame → Type 0
Leaves k [] = Unit {0}
Leaves k (Inverted ∷ frames) = ⊥
Leaves k (Opened ∷ frames) = Unit {0}
Leaves k (Left op a ∷ frames) = tight op < k

leaves_more : (j k : ℕ) (frames : List Frame) → j ≤ k → Leaves j frames → Leaves k frames
leaves_more j k [] le h = h
leaves_more j k (Inverted ∷ frames) le h = h
leaves_more j k (Opened ∷ frames) le h = h
leaves_more j k (Left op a ∷ frames) le h = omega arith

settled_left : (k : ℕ) (frames : List Frame) (e : Expr) → Leaves k frames → settled frames e ≡ machine frames e
settled_left k [] e h = refl
settled_left k (Inverted ∷ frames) e h = absurd h
settled_left k (Opened ∷ frames) e h = refl
settled_left k (Left op a ∷ frames) e h = refl

reduce_left : (k : ℕ) (frames : List Frame) (e : Expr) → Leaves k frames → reduce k frames e ≡ machine frames e
reduce_left k [] e h = refl
reduce_left k (Inverted ∷ frames) e h = refl
reduce_left k (Opened ∷ frames) e h = refl
reduce_left k (Left op a ∷ frames) e h =
    let past : nat_le k (tight op) ≡ false = grind (arith, nat_tests) in
    ap (λ b. if b then reduce k frames (combined op a e) else machine (Left op a ∷ frames) e) past

reduce_taken : (k : ℕ) (op : Operator) (a : Expr) (frames : List Frame) (e : Expr) → k ≤ tight op → reduce k (Left op a ∷ frames) e ≡ reduce k frames (combined op a e)
reduce_taken k op a frames e h =
    let within : nat_le k (tight op) ≡ true = grind (arith, nat_tests) in
    ap (λ b. if b then reduce k frames (combined op a e) else machine (Left op a ∷ frames) e) within

operator_step : (es : List (List ℕ × Kind)) (op : tree.Operator) (m : Machine) → step es m (Fixed (operator_word op)) ≡ on_operator (operator_in op) (reduce (strength op) m.frames m.last)
unfolding on_word
operator_step es tree.And m = refl
operator_step es tree.Xor m = refl
operator_step es tree.Or m = refl

combined_is : (op : tree.Operator) (a b : Expr) → combined (operator_in op) a b ≡ joined op a b
combined_is tree.And a b = refl
combined_is tree.Xor a b = refl
combined_is tree.Or a b = refl

tight_is : (op : tree.Operator) → tight (operator_in op) ≡ strength op
tight_is tree.And = refl
tight_is tree.Xor = refl
tight_is tree.Or = refl

not_step : (es : List (List ℕ × Kind)) (m : Machine) → step es m (Fixed word.Not) ≡ machine (Inverted ∷ m.frames) m.last
unfolding on_word
not_step es m = refl

open_step : (es : List (List ℕ × Kind)) (m : Machine) → step es m (Fixed word.Open) ≡ machine (Opened ∷ m.frames) m.last
unfolding on_word
open_step es m = refl

close_step : (es : List (List ℕ × Kind)) (m : Machine) → step es m (Fixed word.Close) ≡ on_close (reduce 0 m.frames m.last)
unfolding on_word
close_step es m = refl

-- the machine, reduced
abbrev reduced : ℕ → Machine → Machine
reduced k m = reduce k m.frames m.last

and_left : (a b : Bool) → (a && b) ≡ true → a ≡ true
and_left true b e = refl
and_left false b e = cc

and_right : (a b : Bool) → (a && b) ≡ true → b ≡ true
and_right true b e = e
and_right false b e = cc

-- behind the tokens of a value the machine is, reduced, as with the value's expression
abbrev Reads : List (List ℕ × Kind) → Value → Type 0
Reads es v = (frames : List Frame) (last : Expr) (k : ℕ) → Leaves (level v) frames → k ≤ level v → reduced k (run es (machine frames last) (value_marks v)) ≡ reduce k frames (expr_of es v)

plain_read : (es : List (List ℕ × Kind)) (inverted : Bool) (name : Name) → Reads es (Plain inverted name)
plain_read es true name frames last k h le =
    ap (λ (m : Machine). reduced k (step es m (Named name))) (not_step es (machine frames last))
plain_read es false name frames last k h le = ap (reduced k) (settled_left 3 frames (expr.Signal (number_of es name.bytes)) h)

-- `(`, a value and `)`
closed_read : (es : List (List ℕ × Kind)) (v : Value) → Reads es v → (frames : List Frame) (last : Expr)
    → run es (machine frames last) (Fixed word.Open ∷ (value_marks v ++ Fixed word.Close ∷ [])) ≡ settled frames (expr_of es v)
closed_read es v reads frames last =
    let inner : Machine = run es (machine (Opened ∷ frames) last) (value_marks v) in
    ap (λ (m : Machine). run es m (value_marks v ++ Fixed word.Close ∷ [])) (open_step es (machine frames last))
    ∙ run_append es (machine (Opened ∷ frames) last) (value_marks v) (Fixed word.Close ∷ [])
    ∙ close_step es inner
    ∙ ap on_close (reads (Opened ∷ frames) last 0 tt (omega arith))

group_read : (es : List (List ℕ × Kind)) (inverted : Bool) (v : Value) → Reads es v → Reads es (Group inverted v)
group_read es true v reads frames last k h le =
    ap (λ (m : Machine). reduced k (run es m (Fixed word.Open ∷ (value_marks v ++ Fixed word.Close ∷ [])))) (not_step es (machine frames last))
    ∙ ap (reduced k) (closed_read es v reads (Inverted ∷ frames) last)
group_read es false v reads frames last k h le =
    ap (reduced k) (closed_read es v reads frames last ∙ settled_left 3 frames (expr_of es v) h)

joined_read : (es : List (List ℕ × Kind)) (op : tree.Operator) (left right : Value) → strength op ≤ level left → strength op < level right
    → Reads es left → Reads es right → Reads es (Joined op left right)
joined_read es op left right low high first second frames last k h le =
    let before : Machine = run es (machine frames last) (value_marks left) in
    let a : Expr = expr_of es left in
    let b : Expr = expr_of es right in
    let whole : reduced (strength op) before ≡ machine frames a =
    first frames last (strength op) (leaves_more (strength op) (level left) frames low h) low ∙ reduce_left (strength op) frames a h in
    let taken : step es before (Fixed (operator_word op)) ≡ machine (Left (operator_in op) a ∷ frames) (expr.Signal 0) =
    operator_step es op before ∙ ap (on_operator (operator_in op)) whole in
    let tightness : tight (operator_in op) ≡ strength op = tight_is op in
    ap (reduced k) (run_append es (machine frames last) (value_marks left) (Fixed (operator_word op) ∷ value_marks right)
    ∙ ap (λ (m : Machine). run es m (value_marks right)) taken)
    ∙ second (Left (operator_in op) a ∷ frames) (expr.Signal 0) k (omega arith) (omega arith)
    ∙ reduce_taken k (operator_in op) a frames b (omega arith)
    ∙ ap (reduce k frames) (combined_is op a b)

value_read : (es : List (List ℕ × Kind)) (v : Value) → is_grouped v ≡ true → Reads es v
value_read es (Plain inverted name) g = plain_read es inverted name
value_read es (Group inverted v) g = group_read es inverted v (value_read es v g)
value_read es (Joined op left right) g =
    let a = nat_le (strength op) (level left) in
    let b = nat_lt (strength op) (level right) in
    let front : ((a && b) && is_grouped left) ≡ true = and_left ((a && b) && is_grouped left) (is_grouped right) g in
    let tests : (a && b) ≡ true = and_left (a && b) (is_grouped left) front in
    let low : a ≡ true = and_left a b tests in
    let high : b ≡ true = and_right a b tests in
    joined_read es op left right (at_most (strength op) (level left) low) (below (strength op) (level right) high)
    (value_read es left (and_right (a && b) (is_grouped left) front)) (value_read es right (and_right ((a && b) && is_grouped left) (is_grouped right) g))
  where
    at_most : (m n : ℕ) → nat_le m n ≡ true → m ≤ n
    at_most m n e = grind (arith, nat_tests)

    below : (m n : ℕ) → nat_lt m n ≡ true → m < n
    below m n e = grind (arith, nat_tests)

-- the tokens of a value are read as its expression
pub expr_read : (es : List (List ℕ × Kind)) (v : Value) → is_grouped v ≡ true → read_expr es (value_marks v) ≡ expr_of es v
expr_read es v g = ap last_of (value_read es v g [] (expr.Signal 0) 0 tt (omega arith))
