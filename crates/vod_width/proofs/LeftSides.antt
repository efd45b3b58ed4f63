-- Left sides, by what their parts are.
use Rattle.std.proofs.Common.{◌≡◌, ℕ, ◌+◌, ◌≤◌, ◌<◌, min, nat_lt, Bool, true, false, not, ◌&&◌, cond, List, [], ◌∷◌, ◌++◌, Option, None, Some, Result, Ok, Err, refl, sym, ◌∙◌, ap, subst, arith, map, flat_map, sum, take, length, get_or, append_assoc}
use Rattle.std.specs.List.{list_all}
use Rattle.std.proofs.lemmas.List.{take_more, map-append, append-nil}
use Rattle.std.proofs.lemmas.List.Folds.{list_all-append}
use Rattle.std.proofs.lemmas.List.Sums.{sum_by-append}
use Rattle.std.proofs.lemmas.Grind.{flat_map-append}
use Rattle.std.proofs.lemmas.Bool.Decides.{nat_tests}
use Rattle.vod_bits.specs.declared.TheConstants.{WIDTH}
use Rattle.vod_tree.specs.declared.statement.Lval.{Lval}
use Rattle.vod_tree.specs.declared.statement.LvalKind.{LvalKind}
use Rattle.vod_tree.specs.declared.statement.LvalKind.TheOpen.{LvalKind-F}
use Rattle.vod_tree.specs.declared.statement.LvalKind.TheFolds.{fold-LvalKind, map-LvalKind, fold-roll-LvalKind, fold_out-Lval}
use Rattle.vod_tree.specs.declared.statement.LvalKind.TheViews.{roll-LvalKind}
use Rattle.vod_design.specs.declared.sized.NamedMemory.{NamedMemory}
use Rattle.vod_design.specs.declared.sized.Named.{Named}
use Rattle.vod_design.specs.declared.sized.SizedExpr.{SizedExpr}
use Rattle.vod_design.specs.declared.sized.SizedKind.{SizedKind}
use Rattle.vod_design.specs.declared.sized.SizedKind.TheOpen.{SizedKind-F}
use Rattle.vod_design.specs.declared.sized.SizedKind.TheVariants.{rolls-Name, rolls-Select, rolls-Index, rolls-Word, rolls-WordIndex}
use Rattle.vod_design.specs.declared.sized.SizedKind.TheViews.{out-SizedKind, roll-SizedKind, out-roll-SizedKind, roll-out-SizedKind}
use Rattle.vod_design.specs.declared.statement.Part.{Part}
use Rattle.vod_design.specs.declared.sized.SizedKind.TheVariants as kind
use Rattle.vod_operand.specs.declared.fault.Fault.{Fault}
use Rattle.vod_operand.specs.declared.fault.Fault.TheVariants.{Rule, Width}
use Rattle.vod_operand.specs.Operands.{Looked, first, join}
use Rattle.vod_operand.specs.Found.{fault_if}
use Rattle.vod_operand.specs.FaultLaws.{first_append, first_nothing, sound_none}
use Rattle.vod_operand.specs.declared.tree.Looked as looked
use Rattle.vod_width.specs.declared.decls.Declared.{Declared}
use Rattle.vod_width.specs.Names.{Declaration}
use Rattle.vod_width.specs.View.{TreeNear, SeesKind}
use Rattle.vod_width.specs.Lefts.{LookedLeft, target_of, parts_of, is_written, left_of, lefts_have_sizes, left_concat, look_left_kind, left_at, look_left_whole, look_left, inside_left, laid}
use Rattle.vod_width.specs.SeesLeft.{LeftParts, PartsAre, PartsNear, SeesLeft, NearLeft, SeesLefts, parts_tree_of, unless_fault, joined_parts}
use Rattle.vod_width.specs.declared.left.Left as code
use Rattle.vod_width.specs.declared.left.Lefts as several

abbrev Layer : Type 0
Layer = SizedKind-F SizedKind SizedExpr

-- what is written, by its kind
pub target_at : (k : SizedKind) (x : Layer) → k ≡ roll-SizedKind x → target_of (out-SizedKind k) ≡ target_of x
target_at k x e = ap target_of (ap out-SizedKind e ∙ out-roll-SizedKind x)

none_of : (k : SizedKind) (x : Layer) → k ≡ roll-SizedKind x → ((n : Named) → k ≡ kind.Name n → ⊥) → ((n : Named) (l c : ℕ) → k ≡ kind.Select n l c → ⊥) → ((n : Named) (l : ℕ) (e : SizedExpr) → k ≡ kind.Index n l e → ⊥)
    → ((m : NamedMemory) (p : ℕ) → k ≡ kind.Word m p → ⊥) → ((m : NamedMemory) (l : ℕ) (e : SizedExpr) → k ≡ kind.WordIndex m l e → ⊥) → target_of x ≡ None
none_of k (SizedKind-F.Name n) e a b c d f = absurd (a n (e ∙ rolls-Name n))
none_of k (SizedKind-F.Select n l w) e a b c d f = absurd (b n l w (e ∙ rolls-Select n l w))
none_of k (SizedKind-F.Index n l i) e a b c d f = absurd (c n l i (e ∙ rolls-Index n l i))
none_of k (SizedKind-F.Word m p) e a b c d f = absurd (d m p (e ∙ rolls-Word m p))
none_of k (SizedKind-F.WordIndex m l i) e a b c d f = absurd (f m l i (e ∙ rolls-WordIndex m l i))
none_of k _ e a b c d f = refl

pub no_target : (k : SizedKind) → ((n : Named) → k ≡ kind.Name n → ⊥) → ((n : Named) (l c : ℕ) → k ≡ kind.Select n l c → ⊥) → ((n : Named) (l : ℕ) (e : SizedExpr) → k ≡ kind.Index n l e → ⊥)
    → ((m : NamedMemory) (p : ℕ) → k ≡ kind.Word m p → ⊥) → ((m : NamedMemory) (l : ℕ) (e : SizedExpr) → k ≡ kind.WordIndex m l e → ⊥) → None ≡ target_of (out-SizedKind k)
no_target k a b c d f = sym (none_of k (out-SizedKind k) (sym (roll-out-SizedKind k)) a b c d f)

-- parts with a fault beside them
near_beside : (ps : LeftParts) (x : LookedLeft) (b : Bool) (g : Fault) → PartsNear ps x
    → PartsNear (unless_fault ps (cond (not b) (Some g) None)) (record { width = x.width; faults = x.faults ++ cond b [] (g ∷ []); parts = x.parts })
near_beside (Ok ps) x true g h = (first_nothing x.faults ∙ h.0, h.1)
near_beside (Err e) x true g h = first_nothing x.faults ∙ h
near_beside (Ok ps) x false g h = first_append x.faults (g ∷ []) ∙ ap (λ z. join z (Some g)) h.0
near_beside (Err e) x false g h = first_append x.faults (g ∷ []) ∙ ap (λ z. join z (Some g)) h

tree_near : (place w : ℕ) (t : Result SizedExpr Fault) (y : Looked) → w ≡ min y.width 65 → TreeNear t y
    → PartsNear (parts_tree_of place w t) (record { width = y.width; faults = y.faults; parts = parts_of place y.width (target_of (out-SizedKind (y.sized 0 false).kind)) })
tree_near place w (Err e) y p h = h
tree_near place w (Ok t) y p h = (
  h.0,
  λ narrow.
      let exact : w ≡ y.width = omega (arith, p, narrow) in
      ap (λ k. parts_of place k (target_of (out-SizedKind t.kind))) exact ∙ ap (λ (u : SizedExpr). parts_of place y.width (target_of (out-SizedKind u.kind))) (h.1 narrow),
)

pub leaf_near : (c : code.Left) (place : ℕ) (d : Option Declared) (x : looked.Looked) (y : Looked) (b : Bool) (fault : Option Fault) (tree : LeftParts) → SeesKind x y → c.width ≡ x.width → b ≡ is_written d
    → fault ≡ fault_if (not b) place → tree ≡ parts_tree_of place x.width x.tree → c.parts ≡ unless_fault tree fault → NearLeft c (left_of place d y)
leaf_near c place d x y b fault tree s w k f t p = record {
  width = w ∙ s.width;
  parts =
      let P : LeftParts → Type 0 = λ z. PartsNear z (left_of place d y) in
      let same : c.parts ≡ unless_fault (parts_tree_of place x.width x.tree) (fault_if (not (is_written d)) place)
      = p ∙ ap (λ z. unless_fault z fault) t ∙ ap (unless_fault (parts_tree_of place x.width x.tree)) (f ∙ ap (λ z. fault_if (not z) place) k) in
      subst P (sym same)
      (near_beside (parts_tree_of place x.width x.tree) (record { width = y.width; faults = y.faults; parts = parts_of place y.width (target_of (out-SizedKind (y.sized 0 false).kind)) }) (is_written d) (Rule place)
      (tree_near place x.width x.tree y s.width s.tree));
}

-- a left side at its place
wide_is : (t u : Bool) (place w : ℕ) (ps : LeftParts) (x : LookedLeft) → t ≡ nat_lt WIDTH w → u ≡ nat_lt WIDTH x.width → w ≡ min x.width 65 → PartsNear ps x
    → PartsAre (unless_fault ps (cond t (Some (Width place)) None)) (first (x.faults ++ cond u (Width place ∷ []) [])) x.parts
wide_is true true place w (Ok ps) x p q e h = first_append x.faults (Width place ∷ []) ∙ ap (λ z. join z (Some (Width place))) h.0
wide_is true true place w (Err f) x p q e h = first_append x.faults (Width place ∷ []) ∙ ap (λ z. join z (Some (Width place))) h
wide_is false false place w (Ok ps) x p q e h = let small : x.width ≤ WIDTH = grind (arith, nat_tests) in (first_nothing x.faults ∙ h.0, h.1 small)
wide_is false false place w (Err f) x p q e h = first_nothing x.faults ∙ h
wide_is true false place w ps x p q e h = absurd (grind (arith, nat_tests))
wide_is false true place w ps x p q e h = absurd (grind (arith, nat_tests))

pub at_left : (c x : code.Left) (place : ℕ) (y : LookedLeft) (wide : Option Fault) → NearLeft x y → wide ≡ cond (nat_lt WIDTH x.width) (Some (Width place)) None → c.width ≡ x.width → c.parts ≡ unless_fault x.parts wide
    → SeesLeft c (left_at place y)
at_left c x place y wide h e w p = record {
  width = w ∙ h.width;
  parts =
      let P : LeftParts → Type 0 = λ z. PartsAre z (first (left_at place y).faults) y.parts in
      subst P (sym (p ∙ ap (unless_fault x.parts) e)) (wide_is (nat_lt WIDTH x.width) (nat_lt WIDTH y.width) place x.width x.parts y refl refl h.width h.parts);
}

-- one layer of a left side
pub left_is : (decls : List Declaration) (l : Lval) → look_left decls l ≡ left_at l.place (inside_left decls l)
unfolding look_left inside_left
left_is decls l = fold_out-Lval (ℕ → LookedLeft) LookedLeft (look_left_kind decls) look_left_whole l

abbrev pub kind_left : List Declaration → LvalKind → ℕ → LookedLeft
kind_left decls k = fold-LvalKind (ℕ → LookedLeft) LookedLeft (look_left_kind decls) look_left_whole k

pub inside_is : (decls : List Declaration) (l : Lval) (x : LvalKind-F LvalKind Lval) → l.kind ≡ roll-LvalKind x
    → inside_left decls l ≡ look_left_kind decls (map-LvalKind LvalKind Lval (ℕ → LookedLeft) LookedLeft (kind_left decls) (look_left decls) x) l.place
unfolding look_left inside_left
inside_is decls l x is = ap (λ k. kind_left decls k l.place) is ∙ ap (λ (f : ℕ → LookedLeft). f l.place) (fold-roll-LvalKind (ℕ → LookedLeft) LookedLeft (look_left_kind decls) look_left_whole x)

pub left_arm : (decls : List Declaration) (l : Lval) (x : LvalKind-F LvalKind Lval) (c : code.Left) → l.kind ≡ roll-LvalKind x
    → NearLeft c (look_left_kind decls (map-LvalKind LvalKind Lval (ℕ → LookedLeft) LookedLeft (kind_left decls) (look_left decls) x) l.place) → NearLeft c (inside_left decls l)
left_arm decls l x c is h = let P : LookedLeft → Type 0 = λ z. NearLeft c z in subst P (sym (inside_is decls l x is)) h

pub left_sees : (decls : List Declaration) (l : Lval) (c x : code.Left) → NearLeft x (inside_left decls l) → ((y : LookedLeft) → NearLeft x y → SeesLeft c (left_at l.place y)) → SeesLeft c (look_left decls l)
left_sees decls l c x h f = let P : LookedLeft → Type 0 = λ z. SeesLeft c z in subst P (sym (left_is decls l)) (f (inside_left decls l) h)

-- a left side more
sum_last : (xs : List LookedLeft) (y : LookedLeft) → sum (map (λ (x : LookedLeft). x.width) (xs ++ y ∷ [])) ≡ sum (map (λ (x : LookedLeft). x.width) xs) + y.width
sum_last xs y =
    let widths = map (λ (x : LookedLeft). x.width) xs in
    let one : sum (y.width ∷ []) ≡ y.width = omega arith in
    ap sum (map-append (λ (x : LookedLeft). x.width) xs (y ∷ [])) ∙ sum_by-append (λ n. n) widths (y.width ∷ []) ∙ ap (λ k. sum widths + k) one

all_last : (f : LookedLeft → Bool) (xs : List LookedLeft) (y : LookedLeft) (b c : Bool) → b ≡ list_all f xs → c ≡ f y → (b && c) ≡ list_all f (xs ++ y ∷ [])
all_last f xs y b c p q = ap (λ z. z && c) p ∙ ap (λ z. list_all f xs && z) (q ∙ one f y (f y) refl) ∙ sym (list_all-append f xs (y ∷ [])) where
  one : (f : LookedLeft → Bool) (y : LookedLeft) (b : Bool) → f y ≡ b → f y ≡ list_all f (y ∷ [])
  one f y true h = h ∙ sym (ap (λ z. z && true) h)
  one f y false h = h ∙ sym (ap (λ z. z && true) h)

some_width : (w v : ℕ) (t u : Bool) → w ≡ min v 65 → t ≡ nat_lt 0 w → u ≡ nat_lt 0 v → t ≡ u
some_width w v true true e p q = refl
some_width w v false false e p q = refl
some_width w v true false e p q = absurd (grind (arith, nat_tests))
some_width w v false true e p q = absurd (grind (arith, nat_tests))

parts_more : (ps qs : LeftParts) (f g : Option Fault) (us vs : List Part) → PartsAre ps f us → PartsAre qs g vs → PartsAre (joined_parts ps qs) (join f g) (us ++ vs)
parts_more (Ok ps) (Ok qs) f g us vs p q = (ap (λ x. join x g) p.0 ∙ q.0, ap (λ xs. xs ++ qs) p.1 ∙ ap (λ xs. us ++ xs) q.1)
parts_more (Ok ps) (Err e) f g us vs p q = ap (λ x. join x g) p.0 ∙ q
parts_more (Err e) (Ok qs) f g us vs p q = ap (λ x. join x g) p ∙ ap (join (Some e)) q.0
parts_more (Err e) (Err d) f g us vs p q = ap (λ x. join x g) p ∙ ap (join (Some e)) q

flat_last : {B : Type 0} (f : LookedLeft → List B) (xs : List LookedLeft) (y : LookedLeft) → flat_map f xs ++ f y ≡ flat_map f (xs ++ y ∷ [])
flat_last {B} f xs y = ap (λ z. flat_map f xs ++ z) (sym (append-nil (f y))) ∙ sym (flat_map-append f xs (y ∷ []))

pub lefts_more : (p q : several.Lefts) (c : code.Left) (xs : List LookedLeft) (y : LookedLeft) → SeesLefts p xs → SeesLeft c y → q.width ≡ min (p.width + c.width) 65 → q.sized ≡ (p.sized && nat_lt 0 c.width)
    → q.parts ≡ joined_parts p.parts c.parts → SeesLefts q (xs ++ y ∷ [])
lefts_more p q c xs y s h w z t = record {
  width = let more = sum_last xs y in omega (arith, w, s.width, h.width, more);
  sized = z ∙ all_last (λ x. nat_lt 0 x.width) xs y p.sized (nat_lt 0 c.width) s.sized (some_width c.width y.width (nat_lt 0 c.width) (nat_lt 0 y.width) h.width refl refl);
  parts =
      let F = flat_map (λ (x : LookedLeft). x.faults) xs in
      let U = flat_map (λ (x : LookedLeft). x.parts) xs in
      let P : LeftParts → Type 0 = λ ps. PartsAre ps (first (flat_map (λ (x : LookedLeft). x.faults) (xs ++ y ∷ []))) (flat_map (λ (x : LookedLeft). x.parts) (xs ++ y ∷ [])) in
      let Q : Option Fault → Type 0 = λ f. PartsAre (joined_parts p.parts c.parts) f (flat_map (λ (x : LookedLeft). x.parts) (xs ++ y ∷ [])) in
      let R : List Part → Type 0 = λ us. PartsAre (joined_parts p.parts c.parts) (join (first F) (first y.faults)) us in
      subst P (sym t)
      (subst Q (sym (first_append F y.faults) ∙ ap first (flat_last (λ (x : LookedLeft). x.faults) xs y))
      (subst R (flat_last (λ (x : LookedLeft). x.parts) xs y) (parts_more p.parts c.parts (first F) (first y.faults) U y.parts s.parts h.parts)));
}

total_by : (b c : Bool) (w s : ℕ) → b ≡ c → w ≡ min s 65 → cond b w 0 ≡ min (cond c s 0) 65
total_by true true w s p q = q
total_by true false w s p q = absurd (cc)
total_by false true w s p q = absurd (cc)
total_by false false w s p q = refl

near_of : (ps : LeftParts) (f : Option Fault) (us : List Part) (x : LookedLeft) → f ≡ first x.faults → us ≡ x.parts → PartsAre ps f us → PartsNear ps x
near_of (Ok ps) f us x p q h = (sym p ∙ h.0, λ _. h.1 ∙ q)
near_of (Err e) f us x p q h = sym p ∙ h

pub concat_near : (c : code.Left) (p : several.Lefts) (xs : List LookedLeft) → SeesLefts p xs → c.width ≡ cond p.sized p.width 0 → c.parts ≡ p.parts → NearLeft c (left_concat xs)
concat_near c p xs s w t = record {
  width = w ∙ total_by p.sized (lefts_have_sizes xs) p.width (sum (map (λ (x : LookedLeft). x.width) xs)) s.sized s.width;
  parts =
      let P : LeftParts → Type 0 = λ z. PartsNear z (left_concat xs) in
      subst P (sym t) (near_of p.parts (first (flat_map (λ (x : LookedLeft). x.faults) xs)) (flat_map (λ (x : LookedLeft). x.parts) xs) (left_concat xs) refl refl s.parts);
}

-- one more of a list of left sides
pub lefts_next : (decls : List Declaration) (ls : List Lval) (i : ℕ) (l : Lval) → l ≡ get_or ls i l → i < length ls → map (look_left decls) (take i ls) ++ look_left decls l ∷ [] ≡ map (look_left decls) (take (i + 1) ls)
lefts_next decls ls i l is h =
    ap (λ z. map (look_left decls) (take i ls) ++ look_left decls z ∷ []) is ∙ sym (map-append (look_left decls) (take i ls) (get_or ls i l ∷ [])) ∙ sym (ap (map (look_left decls)) (take_more ls i l h))

-- what a left side's parts say of its faults
pub parts_here : (c : code.Left) (x : LookedLeft) (ps : List Part) → Ok ps ≡ c.parts → SeesLeft c x → (x.faults ≡ []) × (ps ≡ x.parts)
parts_here c x ps e s =
    let P : LeftParts → Type 0 = λ z. PartsAre z (first x.faults) x.parts in
    let h = subst P (sym e) s.parts in
    (sound_none x.faults h.0, h.1)

pub parts_gone : (c : code.Left) (x : LookedLeft) (f : Fault) → Err f ≡ c.parts → SeesLeft c x → first x.faults ≡ Some f
parts_gone c x f e s = let P : LeftParts → Type 0 = λ z. PartsAre z (first x.faults) x.parts in subst P (sym e) s.parts

-- parts that are laid out from the last one on
pub record LaidSoFar (all parts done : List Part) (low : ℕ) : Type 0 where
  pub rest : List Part
  pub whole : all ≡ parts ++ rest
  pub laid_out : done ≡ laid rest
  pub above : low ≡ min (sum (map (λ (q : Part). q.width) rest)) 255

pub laid_none : (all : List Part) → LaidSoFar all all [] 0
laid_none all = record { rest = []; whole = sym (append-nil all); laid_out = refl; above = refl }

pub laid_more : (all parts front done : List Part) (p : Part) (low next : ℕ) → LaidSoFar all parts done low → parts ≡ front ++ p ∷ [] → next ≡ min (low + p.width) 255
    → LaidSoFar all front (record p { low = low } ∷ done) next
laid_more all parts front done p low next s e n = record {
  rest = p ∷ s.rest;
  whole = s.whole ∙ ap (λ xs. xs ++ s.rest) e ∙ append_assoc front (p ∷ []) s.rest;
  laid_out = ap (λ k. record p { low = k } ∷ done) s.above ∙ ap (λ ds. record p { low = min (sum (map (λ (q : Part). q.width) s.rest)) 255 } ∷ ds) s.laid_out;
  above =
      let a = s.above in
      let widths = map (λ (q : Part). q.width) s.rest in
      let one : sum (p.width ∷ []) ≡ p.width = omega arith in
      let w : sum (map (λ (q : Part). q.width) (p ∷ s.rest)) ≡ p.width + sum widths = sum_by-append (λ n. n) (p.width ∷ []) widths ∙ ap (λ k. k + sum widths) one in
      omega (arith, n, a, w);
}

pub laid_all : (all parts done : List Part) (low : ℕ) → LaidSoFar all parts done low → parts ≡ [] → done ≡ laid all
laid_all all parts done low s e = s.laid_out ∙ ap laid (sym (s.whole ∙ ap (λ xs. xs ++ s.rest) e))
