-- Parts of concatenations, and arguments of calls.
use Rattle.std.proofs.Common.{◌≡◌, ℕ, zero, suc, ◌+◌, ◌*◌, ◌≤◌, ◌<◌, min, max, nat_lt, nat_le, Bool, true, false, ◌&&◌, cond, List, [], ◌∷◌, ◌++◌, map, sum, drop, length, slice_get, Option, None, Some, Result, Ok, Err, refl, sym, ◌∙◌, ap, subst, arith}
use Rattle.std.specs.List.{list_all}
use Rattle.std.proofs.Math.Nat.{suc-mul}
use Rattle.std.proofs.lemmas.Bool.Decides.{nat_tests}
use Rattle.std.proofs.lemmas.List.{map-append, append-nil}
use Rattle.std.proofs.lemmas.List.Folds.{list_all-append}
use Rattle.std.proofs.lemmas.List.Sums.{sum_by-append}
use Rattle.std.proofs.lemmas.Grind.{flat_map-append}
use Rattle.vod_bits.specs.declared.TheConstants.{WIDTH}
use Rattle.vod_design.specs.declared.sized.SizedExpr.{SizedExpr}
use Rattle.vod_design.specs.declared.statement.Size.{Size}
use Rattle.vod_design.specs.declared.sized.SizedKind.TheVariants as kind
use Rattle.vod_operand.specs.declared.fault.Fault.{Fault}
use Rattle.vod_operand.specs.Operands.{Looked, node, standing, own, first, number_where, unless, join}
use Rattle.vod_operand.specs.Found.{TreeIs, SeesAs, Sees, Saw, looked_of}
use Rattle.vod_operand.specs.FaultLaws.{first_append}
use Rattle.vod_operand.specs.FoundLaws.{tree_moved, passed, sees_of}
use Rattle.vod_operand.specs.declared.tree.Looked as code
use Rattle.vod_width.specs.declared.decls.Declared.{Declared}
use Rattle.vod_width.specs.Sizes.{or_zero, have_sizes, total, input_width, sized_arguments, look_concat, look_replicate, look_call}
use Rattle.vod_width.specs.View.{IsNumbered, TreeNear, SeesKind, SeesParts, TreesAre, faults_of, with_tree_of, concat_tree_of, replicate_tree_of, inputs_of, call_tree_of, fault_of_trees}
use Rattle.vod_width.specs.Calls.{called_of, width_of}
use Rattle.vod_width.proofs.Selects.{passed_where}
use Rattle.vod_width.proofs.Ranges.{misused_sees, open_sees}
use Rattle.vod_width.specs.declared.decls.Declared.TheVariants as stands
use Rattle.vod_width.specs.declared.decls.Sort.TheVariants as sorts
use Rattle.vod_width.specs.declared.limit.Numbered as limit
use Rattle.vod_width.specs.declared.parts.Parts as parts

concat_tree_is : (ts : Result (List SizedExpr) Fault) (f : Option Fault) (us : List SizedExpr) → TreesAre ts f us → TreeIs (concat_tree_of ts) f (node 0 false (kind.Concat us))
concat_tree_is (Ok ts) f us h = (h.0, ap (λ z. node 0 false (kind.Concat z)) h.1)
concat_tree_is (Err e) f us h = h

total_by : (b c : Bool) (w s : ℕ) → b ≡ c → w ≡ min s 65 → cond b w 0 ≡ min (cond c s 0) 65
total_by true true w s p q = q
total_by true false w s p q = absurd (cc)
total_by false true w s p q = absurd (cc)
total_by false false w s p q = refl

pub total_is : (p : parts.Parts) (xs : List Looked) → SeesParts p xs → cond p.sized p.width 0 ≡ min (total xs) 65
total_is p xs s = total_by p.sized (have_sizes xs) p.width (sum (map (λ (x : Looked). x.width) xs)) s.sized s.width

pub concat_sees : (c : code.Looked) (p : parts.Parts) (xs : List Looked) (w : ℕ) (t : Result SizedExpr Fault) → c ≡ looked_of 0 w false p.constant t → w ≡ cond p.sized p.width 0 → t ≡ concat_tree_of p.trees → SeesParts p xs → Sees c (look_concat xs)
concat_sees c p xs w t e v q s =
    let P : Result SizedExpr Fault → Type 0 = λ z. TreeIs z (first (faults_of xs)) (node 0 false (kind.Concat (map own xs))) in
    sees_of c (look_concat xs) w false p.constant t e refl (v ∙ total_is p xs s) refl s.constant (subst P (sym q) (concat_tree_is p.trees (first (faults_of xs)) (map own xs) s.trees))

-- a part more
sum_last : (xs : List Looked) (y : Looked) → sum (map (λ (x : Looked). x.width) (xs ++ y ∷ [])) ≡ sum (map (λ (x : Looked). x.width) xs) + y.width
sum_last xs y =
    let widths = map (λ (x : Looked). x.width) xs in
    let one : sum (y.width ∷ []) ≡ y.width = omega arith in
    ap sum (map-append (λ (x : Looked). x.width) xs (y ∷ [])) ∙ sum_by-append (λ n. n) widths (y.width ∷ []) ∙ ap (λ k. sum widths + k) one

all_last : (f : Looked → Bool) (xs : List Looked) (y : Looked) (b c : Bool) → b ≡ list_all f xs → c ≡ f y → (b && c) ≡ list_all f (xs ++ y ∷ [])
all_last f xs y b c p q = ap (λ z. z && c) p ∙ ap (λ z. list_all f xs && z) (q ∙ one f y (f y) refl) ∙ sym (list_all-append f xs (y ∷ [])) where
  one : (f : Looked → Bool) (y : Looked) (b : Bool) → f y ≡ b → f y ≡ list_all f (y ∷ [])
  one f y true h = h ∙ sym (ap (λ z. z && true) h)
  one f y false h = h ∙ sym (ap (λ z. z && true) h)

some_width : (w v : ℕ) (t u : Bool) → w ≡ min v 65 → t ≡ nat_lt 0 w → u ≡ nat_lt 0 v → t ≡ u
some_width w v true true e p q = refl
some_width w v false false e p q = refl
some_width w v true false e p q = absurd (grind (arith, nat_tests))
some_width w v false true e p q = absurd (grind (arith, nat_tests))

trees_more : (ts : Result (List SizedExpr) Fault) (t : Result SizedExpr Fault) (f g : Option Fault) (us : List SizedExpr) (u : SizedExpr) → TreesAre ts f us → TreeIs t g u → TreesAre (with_tree_of ts t) (join f g) (us ++ u ∷ [])
trees_more (Ok ts) (Ok t) f g us u p q = (ap (λ x. join x g) p.0 ∙ q.0, ap (λ xs. xs ++ t ∷ []) p.1 ∙ ap (λ x. us ++ x ∷ []) q.1)
trees_more (Ok ts) (Err e) f g us u p q = ap (λ x. join x g) p.0 ∙ q
trees_more (Err e) (Ok t) f g us u p q = ap (λ x. join x g) p ∙ ap (join (Some e)) q.0
trees_more (Err e) (Err d) f g us u p q = ap (λ x. join x g) p ∙ ap (join (Some e)) q

faults_last : (xs : List Looked) (y : Looked) → join (first (faults_of xs)) (first y.faults) ≡ first (faults_of (xs ++ y ∷ []))
faults_last xs y =
    sym (first_append (faults_of xs) y.faults) ∙ ap (λ fs. first (faults_of xs ++ fs)) (sym (append-nil y.faults)) ∙ ap first (sym (flat_map-append (λ (x : Looked). x.faults) xs (y ∷ [])))

pub trees_last : (ts : Result (List SizedExpr) Fault) (t : Result SizedExpr Fault) (xs : List Looked) (y : Looked) (us vs : List SizedExpr) (u : SizedExpr)
    → TreesAre ts (first (faults_of xs)) us → TreeIs t (first y.faults) u → us ++ u ∷ [] ≡ vs → TreesAre (with_tree_of ts t) (first (faults_of (xs ++ y ∷ []))) vs
trees_last ts t xs y us vs u p q e =
    let P : Option Fault → Type 0 = λ f. TreesAre (with_tree_of ts t) f vs in
    let Q : List SizedExpr → Type 0 = λ ws. TreesAre (with_tree_of ts t) (join (first (faults_of xs)) (first y.faults)) ws in
    subst P (faults_last xs y) (subst Q e (trees_more ts t (first (faults_of xs)) (first y.faults) us u p q))

pub parts_more : (p q : parts.Parts) (c : code.Looked) (xs : List Looked) (y : Looked) → SeesParts p xs → SeesAs c y (own y) → q.width ≡ min (p.width + c.width) 65 → q.sized ≡ (p.sized && nat_lt 0 c.width)
    → q.constant ≡ (p.constant && c.constant) → q.trees ≡ with_tree_of p.trees c.tree → SeesParts q (xs ++ y ∷ [])
parts_more p q c xs y s h w z k t = record {
  width = let more = sum_last xs y in omega (arith, w, s.width, h.width, more);
  sized = z ∙ all_last (λ x. nat_lt 0 x.width) xs y p.sized (nat_lt 0 c.width) s.sized (some_width c.width y.width (nat_lt 0 c.width) (nat_lt 0 y.width) h.width refl refl);
  constant = k ∙ all_last (λ x. x.constant) xs y p.constant c.constant s.constant h.constant;
  trees =
      let P : Result (List SizedExpr) Fault → Type 0 = λ ts. TreesAre ts (first (faults_of (xs ++ y ∷ []))) (map own (xs ++ y ∷ [])) in
      subst P (sym t) (trees_last p.trees c.tree xs y (map own xs) (map own (xs ++ y ∷ [])) (own y) s.trees h.tree (sym (map-append own xs (y ∷ []))));
}

-- replications
fewer : (t : Bool) (n m : ℕ) → t ≡ nat_le m 65 → min (n * min m 65) 65 ≡ min (n * m) 65
fewer true n m e = let same : min m 65 ≡ m = grind (arith, nat_tests) in ap (λ k. min (n * k) 65) same
fewer false zero m e = omega arith
fewer false (suc n) m e =
    let large : 65 < m = grind (arith, nat_tests) in
    let cut : min m 65 ≡ 65 = omega (arith, large) in
    ap (λ k. min (suc n * k) 65) cut ∙ omega (arith, large, suc-mul n m)

pub times_total : (n m : ℕ) → min (n * min m 65) 65 ≡ min (n * m) 65
times_total n m = fewer (nat_le m 65) n m refl

part_of : (n t : ℕ) → nat_lt 0 n ≡ true → n * t ≤ 64 → t ≤ 64
part_of zero t p h = absurd (cc)
part_of (suc n) t p h = omega (arith, h, suc-mul n t)

replicate_near : (place : ℕ) (fault : Option Fault) (ts : Result (List SizedExpr) Fault) (x : Looked) (ys : List Looked) (count width : ℕ) → fault ≡ first (x.faults ++ unless (nat_lt 0) x) → TreesAre ts (first (faults_of ys)) (map own ys)
    → count ≡ min (or_zero (number_where (nat_lt 0) x)) WIDTH → width ≡ min (total ys) 65 → TreeNear (replicate_tree_of fault count place width (concat_tree_of ts)) (look_replicate place x ys)
replicate_near place None (Ok ts) x ys count width f h n w =
    let own_faults = x.faults ++ unless (nat_lt 0) x in
    let N = number_where (nat_lt 0) x in
    let p = passed (nat_lt 0) x (sym f) in
    let found = passed_where (nat_lt 0) x p in (
      first_append own_faults (faults_of ys) ∙ ap (λ z. join z (first (faults_of ys))) (sym f) ∙ h.0,
      λ narrow.
          let held : or_zero N ≡ p.number = ap or_zero found in
          let few : p.number * total ys ≤ 64 = let P : ℕ → Type 0 = λ z. z * total ys ≤ 64 in subst P held narrow in
          let small : total ys ≤ 64 = part_of p.number (total ys) p.holds few in
          let exact : width ≡ total ys = omega (arith, w, small) in
          ap (λ k. node 0 false (kind.Replicate k (standing place (node width false (kind.Concat ts))))) n ∙ ap (λ k. node 0 false (kind.Replicate (min (or_zero N) WIDTH) (standing place (node k false (kind.Concat ts))))) exact
          ∙ ap (λ us. node 0 false (kind.Replicate (min (or_zero N) WIDTH) (standing place (node (total ys) false (kind.Concat us))))) h.1,
    )
replicate_near place None (Err g) x ys count width f h n w = first_append (x.faults ++ unless (nat_lt 0) x) (faults_of ys) ∙ ap (λ z. join z (first (faults_of ys))) (sym f) ∙ h
replicate_near place (Some e) (Ok ts) x ys count width f h n w = first_append (x.faults ++ unless (nat_lt 0) x) (faults_of ys) ∙ ap (λ z. join z (first (faults_of ys))) (sym f) ∙ ap (join (Some e)) h.0
replicate_near place (Some e) (Err g) x ys count width f h n w = first_append (x.faults ++ unless (nat_lt 0) x) (faults_of ys) ∙ ap (λ z. join z (first (faults_of ys))) (sym f) ∙ ap (join (Some e)) h

pub replicate_sees : (c : code.Looked) (place : ℕ) (p : parts.Parts) (x : Looked) (ys : List Looked) (counted : limit.Numbered) (n count width w : ℕ) (k : Bool) (concat t : Result SizedExpr Fault)
    → SeesParts p ys → IsNumbered (nat_lt 0) counted x → n ≡ or_zero counted.number → width ≡ cond p.sized p.width 0 → k ≡ (counted.constant && p.constant) → concat ≡ concat_tree_of p.trees
    → count ≡ min n 64 → t ≡ replicate_tree_of counted.fault count place width concat → w ≡ min (n * width) 65 → c ≡ looked_of 0 w false k t → SeesKind c (look_replicate place x ys)
replicate_sees c place p x ys counted n count width w k concat t s m z v b q l r j e =
    let N : n ≡ or_zero (number_where (nat_lt 0) x) = z ∙ ap or_zero m.number in
    let W : width ≡ min (total ys) 65 = v ∙ total_is p ys s in
    let P : code.Looked → Type 0 = λ d. SeesKind d (look_replicate place x ys) in
    let Q : Result SizedExpr Fault → Type 0 = λ u. TreeNear u (look_replicate place x ys) in
    subst P (sym e) (record {
      width = j ∙ ap (λ i. min (n * i) 65) W ∙ times_total n (total ys) ∙ ap (λ i. min (i * total ys) 65) N;
      signed = refl;
      constant = b ∙ ap (λ i. i && p.constant) m.constant ∙ ap (λ i. x.constant && i) s.constant;
      tree = subst Q (sym (r ∙ ap (replicate_tree_of counted.fault count place width) q)) (replicate_near place counted.fault p.trees x ys count width m.fault s.trees (l ∙ ap (λ i. min i 64) N) W);
    })

-- calls
call_tree_is : (n : ℕ) (ts : Result (List SizedExpr) Fault) (f : Option Fault) (us : List SizedExpr) → TreesAre ts f us → TreeIs (call_tree_of n ts) f (node 0 false (kind.Call n us))
call_tree_is n (Ok ts) f us h = (h.0, ap (λ z. node 0 false (kind.Call n z)) h.1)
call_tree_is n (Err e) f us h = h

trees_fault : (ts : Result (List SizedExpr) Fault) (f : Option Fault) (us : List SizedExpr) → TreesAre ts f us → fault_of_trees ts ≡ f
trees_fault (Ok ts) f us h = sym h.0
trees_fault (Err e) f us h = sym h

pub call_sees : (c : code.Looked) (place : ℕ) (d : Option Declared) (ts : Result (List SizedExpr) Fault) (ys : List Looked) → c ≡ called_of place d ts → TreesAre ts (first (faults_of ys)) (sized_arguments (inputs_of d) ys)
    → Sees c (look_call place d ys)
call_sees c place (Some (stands.Function f)) ts ys e h =
    sees_of c (look_call place (Some (stands.Function f)) ys) (min f.width 65) f.signed false (call_tree_of f.number ts) e refl refl refl refl (call_tree_is f.number ts (first (faults_of ys)) (sized_arguments f.inputs ys) h)
call_sees c place (Some (stands.Vector v)) ts ys e h = misused_sees c place (fault_of_trees ts) (faults_of ys) e (trees_fault ts (first (faults_of ys)) (sized_arguments [] ys) h)
call_sees c place (Some (stands.Ram m)) ts ys e h = misused_sees c place (fault_of_trees ts) (faults_of ys) e (trees_fault ts (first (faults_of ys)) (sized_arguments [] ys) h)
call_sees c place (Some (stands.Open sorts.Net)) ts ys e h = misused_sees c place (fault_of_trees ts) (faults_of ys) e (trees_fault ts (first (faults_of ys)) (sized_arguments [] ys) h)
call_sees c place (Some (stands.Open sorts.Constant)) ts ys e h = misused_sees c place (fault_of_trees ts) (faults_of ys) e (trees_fault ts (first (faults_of ys)) (sized_arguments [] ys) h)
call_sees c place (Some (stands.Open sorts.Ram)) ts ys e h = misused_sees c place (fault_of_trees ts) (faults_of ys) e (trees_fault ts (first (faults_of ys)) (sized_arguments [] ys) h)
call_sees c place (Some (stands.Open sorts.Function)) ts ys e h =
    open_sees c 0 false false (fault_of_trees ts) (faults_of ys) e (omega arith) refl (trees_fault ts (first (faults_of ys)) (sized_arguments [] ys) h)
call_sees c place None ts ys e h = misused_sees c place (fault_of_trees ts) (faults_of ys) e (trees_fault ts (first (faults_of ys)) (sized_arguments [] ys) h)

pub argument_sees : (c x : code.Looked) (y : Looked) (least w : ℕ) (s : Bool) → SeesAs c y (y.sized w s) → Saw x y → w ≡ max least x.width → s ≡ x.signed → SeesAs c y (y.sized (max least y.width) y.signed)
argument_sees c x y least w s h saw e p = record {
  place = h.place;
  width = h.width;
  signed = h.signed;
  constant = h.constant;
  tree = tree_moved c.tree (first y.faults) (first y.faults) (y.sized w s) (y.sized (max least y.width) y.signed) refl
      (λ none.
      let exact : w ≡ max least y.width = omega (arith, e, saw.sees.width, saw.narrow none) in
      ap (λ v. y.sized v s) exact ∙ ap (y.sized (max least y.width)) (p ∙ saw.sees.signed)) h.tree;
}

-- an input by its number
input_at : (inputs : List Size) (at : ℕ) → width_of (slice_get inputs at) ≡ input_width (drop at inputs)
input_at [] zero = refl
input_at [] (suc at) = refl
input_at (x ∷ xs) zero = refl
input_at (x ∷ xs) (suc at) = input_at xs at

drop_more : (n : ℕ) (inputs : List Size) → drop n (drop 1 inputs) ≡ drop (suc n) inputs
drop_more zero [] = refl
drop_more (suc n) [] = refl
drop_more n (x ∷ xs) = refl

sized_last : (inputs : List Size) (xs : List Looked) (y : Looked) → sized_arguments inputs xs ++ y.sized (max (input_width (drop (length xs) inputs)) y.width) y.signed ∷ [] ≡ sized_arguments inputs (xs ++ y ∷ [])
sized_last inputs [] y = refl
sized_last inputs (x ∷ xs) y =
    let a = x.sized (max (input_width inputs) x.width) x.signed in
    ap (λ is. a ∷ (sized_arguments (drop 1 inputs) xs ++ y.sized (max (input_width is) y.width) y.signed ∷ [])) (sym (drop_more (length xs) inputs)) ∙ ap (λ rest. a ∷ rest) (sized_last (drop 1 inputs) xs y)

pub sized_more : (inputs : List Size) (xs : List Looked) (y : Looked) (at : ℕ) → length xs ≡ at
    → sized_arguments inputs xs ++ y.sized (max (width_of (slice_get inputs at)) y.width) y.signed ∷ [] ≡ sized_arguments inputs (xs ++ y ∷ [])
sized_more inputs xs y at e =
    ap (λ w. sized_arguments inputs xs ++ y.sized (max w y.width) y.signed ∷ []) (input_at inputs at ∙ ap (λ i. input_width (drop i inputs)) (sym e)) ∙ sized_last inputs xs y
