-- What an expression is, by what its parts are.
use Rattle.std.proofs.Common.{◌≡◌, ℕ, ◌+◌, ◌≤◌, ◌<◌, min, nat_lt, Bool, true, false, cond, List, [], ◌∷◌, ◌++◌, Option, None, Some, Result, Ok, Err, refl, sym, ◌∙◌, ap, subst, arith, map, take, length, get_or, IfOk, length-take-le}
use Rattle.std.proofs.lemmas.List.{take_more, map-append, length-map}
use Rattle.std.proofs.lemmas.Bool.Decides.{nat_tests}
use Rattle.vod_bits.specs.declared.TheConstants.{WIDTH}
use Rattle.vod_bits.specs.Value.{bits_of}
use Rattle.vod_tree.specs.declared.expr.Expr.{Expr}
use Rattle.vod_tree.specs.declared.expr.ExprKind.{ExprKind}
use Rattle.vod_tree.specs.declared.expr.ExprKind.TheFolds.{map-ExprKind}
use Rattle.vod_tree.specs.declared.expr.ExprKind.TheViews.{roll-ExprKind}
use Rattle.vod_tree.specs.declared.ident.Number.{Number}
use Rattle.vod_design.specs.declared.sized.SizedExpr.{SizedExpr}
use Rattle.vod_design.specs.Values.{bounded, at_size}
use Rattle.vod_design.specs.declared.sized.SizedKind.TheVariants as kind
use Rattle.vod_operand.specs.declared.fault.Fault.{Fault}
use Rattle.vod_operand.specs.declared.fault.Fault.TheVariants.{Width}
use Rattle.vod_operand.specs.Operands.{Looked, node, standing, first, at_place, look_number, join}
use Rattle.vod_operand.specs.Found.{TreeIs, Sees, Saw, looked_of, beside_of, standing_tree, at_place_of}
use Rattle.vod_operand.specs.FaultLaws.{first_append, first_nothing}
use Rattle.vod_operand.specs.FoundLaws.{sees_of}
use Rattle.vod_operand.specs.declared.tree.Looked as code
use Rattle.vod_width.specs.declared.decls.Declared.{Declared}
use Rattle.vod_width.specs.Names.{Declaration}
use Rattle.vod_width.specs.Sizes.{is_constant, misused, left_open, look_name, look_kind, look, inside}
use Rattle.vod_width.specs.View.{SeesParts, TreeNear, SeesKind, named_of}
use Rattle.vod_width.proofs.Layers.{Layer, kind_look, look_at, inside_at}
use Rattle.vod_width.proofs.Whole.{refits, narrow}
use Rattle.vod_width.proofs.Ranges.{misused_sees, open_sees}
use Rattle.vod_width.specs.declared.decls.Declared.TheVariants as stands
use Rattle.vod_width.specs.declared.decls.Sort.TheVariants as sorts
use Rattle.vod_width.specs.declared.parts.Parts as parts

pub saw : (decls : List Declaration) (c : code.Looked) (e : Expr) → Sees c (look decls e) → Saw c (look decls e)
saw decls c e h = record { sees = h; refits = refits decls e; narrow = narrow decls e }

-- the same of a part that a reference shows
pub saw_part : (decls : List Declaration) (c : code.Looked) (e a : Expr) → e ≡ a → Sees c (look decls e) → Saw c (look decls a)
saw_part decls c e a is h = let P : Expr → Type 0 = λ z. Sees c (look decls z) in saw decls c a (subst P is h)

near_of : (t : Result SizedExpr Fault) (x : Looked) → TreeIs t (first x.faults) (x.sized 0 false) → TreeNear t x
near_of (Ok t) x h = (h.0, λ _. h.1)
near_of (Err e) x h = h

pub kind_sees : (c : code.Looked) (x : Looked) → Sees c x → SeesKind c x
kind_sees c x h = record { width = h.width; signed = h.signed; constant = h.constant; tree = near_of c.tree x h.tree }

pub arm : (decls : List Declaration) (e : Expr) (x : Layer) (c : code.Looked) → e.kind ≡ roll-ExprKind x
    → SeesKind c (look_kind decls (map-ExprKind ExprKind Expr (ℕ → Looked) Looked (kind_look decls) (look decls) x) e.place) → SeesKind c (inside decls e)
arm decls e x c is h = let P : Looked → Type 0 = λ z. SeesKind c z in subst P (sym (inside_at decls e x is)) h

-- an expression at its place
beside_is : (t u : Bool) (place w : ℕ) (tree : Result SizedExpr Fault) (x : Looked) → t ≡ nat_lt WIDTH w → u ≡ nat_lt WIDTH x.width → w ≡ min x.width 65 → TreeNear tree x
    → TreeIs (beside_of (standing_tree place tree) (cond t (Err (Width place)) (Ok tt))) (first (x.faults ++ cond u (Width place ∷ []) [])) (standing place (x.sized 0 false))
beside_is true true place w (Ok t) x p q e h = first_append x.faults (Width place ∷ []) ∙ ap (λ z. join z (Some (Width place))) h.0
beside_is true true place w (Err f) x p q e h = first_append x.faults (Width place ∷ []) ∙ ap (λ z. join z (Some (Width place))) h
beside_is false false place w (Ok t) x p q e h = let small : x.width ≤ WIDTH = grind (arith, nat_tests) in (first_nothing x.faults ∙ h.0, ap (standing place) (h.1 small))
beside_is false false place w (Err f) x p q e h = first_nothing x.faults ∙ h
beside_is true false place w tree x p q e h = absurd (grind (arith, nat_tests))
beside_is false true place w tree x p q e h = absurd (grind (arith, nat_tests))

pub placed : (place : ℕ) (c d : code.Looked) (x : Looked) → d ≡ at_place_of place c → SeesKind c x → Sees d (at_place place x)
placed place c d x e h =
    let P : code.Looked → Type 0 = λ z. Sees z (at_place place x) in
    subst P (sym e) (record {
      place = refl;
      width = h.width;
      signed = h.signed;
      constant = h.constant;
      tree = beside_is (nat_lt WIDTH c.width) (nat_lt WIDTH x.width) place c.width c.tree x refl refl h.width h.tree;
    })

pub look_sees : (decls : List Declaration) (e : Expr) (c d : code.Looked) → d ≡ at_place_of e.place c → SeesKind c (inside decls e) → Sees d (look decls e)
look_sees decls e c d p h = let P : Looked → Type 0 = λ z. Sees d z in subst P (sym (look_at decls e)) (placed e.place c d (inside decls e) p h)

pub literal_sees : (c : code.Looked) (n : Number) → c ≡ looked_of 0 (bounded n.size) n.signed true (Ok (node 0 false (kind.Number (at_size n.size false (bits_of WIDTH n.value))))) → SeesKind c (look_number n)
literal_sees c n e = kind_sees c (look_number n) (sees_of c (look_number n) (bounded n.size) n.signed true (Ok (node 0 false (kind.Number (at_size n.size false (bits_of WIDTH n.value))))) e refl (omega arith) refl refl (refl, refl))

pub named_sees : (c : code.Looked) (place : ℕ) (d : Option Declared) → c ≡ named_of place d → SeesKind c (look_name place d)
named_sees c place (Some (stands.Vector v)) e =
    kind_sees c (look_name place (Some (stands.Vector v))) (sees_of c (look_name place (Some (stands.Vector v))) (min v.width 65) v.signed (is_constant v.name) (Ok (node 0 false (kind.Name v.name))) e refl refl refl refl (refl, refl))
named_sees c place (Some (stands.Ram m)) e = kind_sees c (look_name place (Some (stands.Ram m))) (misused_sees c place None [] e refl)
named_sees c place (Some (stands.Function f)) e = kind_sees c (look_name place (Some (stands.Function f))) (misused_sees c place None [] e refl)
named_sees c place (Some (stands.Open sorts.Net)) e = kind_sees c (left_open 0 false []) (open_sees c 0 false false None [] e (omega arith) refl refl)
named_sees c place (Some (stands.Open sorts.Constant)) e = kind_sees c (left_open 0 true []) (open_sees c 0 true true None [] e (omega arith) refl refl)
named_sees c place (Some (stands.Open sorts.Ram)) e = kind_sees c (misused place []) (misused_sees c place None [] e refl)
named_sees c place (Some (stands.Open sorts.Function)) e = kind_sees c (misused place []) (misused_sees c place None [] e refl)
named_sees c place None e = kind_sees c (look_name place None) (misused_sees c place None [] e refl)

-- what was found of parts that references show
pub seen : {E : Type 0} (decls : List Declaration) (r : Result code.Looked E) (c : code.Looked) (e a : Expr) → IfOk r (λ z. Sees z (look decls e)) → r ≡ Ok c → e ≡ a → Saw c (look decls a)
seen {E} decls r c e a h p is = let P : Result code.Looked E → Type 0 = λ z. IfOk z (λ y. Sees y (look decls e)) in saw_part decls c e a is (subst P p h)

pub seen_parts : {E : Type 0} (decls : List Declaration) (r : Result parts.Parts E) (p : parts.Parts) (es xs : List Expr) → IfOk r (λ z. SeesParts z (map (look decls) es)) → r ≡ Ok p → es ≡ xs → SeesParts p (map (look decls) xs)
seen_parts {E} decls r p es xs h q is =
    let P : Result parts.Parts E → Type 0 = λ z. IfOk z (λ y. SeesParts y (map (look decls) es)) in
    let Q : List Expr → Type 0 = λ zs. SeesParts p (map (look decls) zs) in
    subst Q is (subst P q h)

-- the two values inside a pair of values
pub both_inner : {E A B : Type 0} (a : Result A E) (b : Result B E) (r : Result (A × B) E) (x : A) (y : B) → IfOk r (λ p. (a ≡ Ok p.0) × (b ≡ Ok p.1)) → r ≡ Ok (x, y) → (a ≡ Ok x) × (b ≡ Ok y)
both_inner {E} {A} {B} a b r x y h e = let P : Result (A × B) E → Type 0 = λ z. IfOk z (λ p. (a ≡ Ok p.0) × (b ≡ Ok p.1)) in subst P e h

-- one more of a list of expressions
pub looks_more : (decls : List Declaration) (es : List Expr) (i : ℕ) (e : Expr) → e ≡ get_or es i e → i < length es → map (look decls) (take i es) ++ look decls e ∷ [] ≡ map (look decls) (take (i + 1) es)
looks_more decls es i e is h =
    ap (λ z. map (look decls) (take i es) ++ look decls z ∷ []) is ∙ sym (map-append (look decls) (take i es) (get_or es i e ∷ [])) ∙ sym (ap (map (look decls)) (take_more es i e h))

pub looks_count : (decls : List Declaration) (es : List Expr) (i : ℕ) → i < length es → length (map (look decls) (take i es)) ≡ i
looks_count decls es i h = length-map (take i es) (look decls) ∙ length-take-le i es (omega arith)
