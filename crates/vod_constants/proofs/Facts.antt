-- Bounds, and the faults of what can't be one.
use Rattle.std.proofs.Common.{◌≡◌, ℕ, ◌≤◌, min, nat_lt, Bool, true, false, cond, ◌&&◌, not, List, [], ◌∷◌, ◌++◌, Option, None, Some, refl, sym, ◌∙◌, ap, subst, arith, append_assoc}
use Rattle.std.proofs.lemmas.Bool.Decides.{nat_tests}
use Rattle.vod_bits.specs.Bit.{Bit, is_1}
use Rattle.vod_bits.specs.Value.{number_of, upper_bit, all_known}
use Rattle.vod_bits.specs.declared.TheConstants.{WIDTH}
use Rattle.vod_tree.specs.declared.expr.Expr.{Expr}
use Rattle.vod_operand.specs.declared.fault.Fault.{Fault}
use Rattle.vod_operand.specs.declared.fault.Fault.TheVariants.{Rule, Width, Open}
use Rattle.vod_operand.specs.Operands.{Looked, are_none, meets, first, join, natural, known_natural, number_where, unless, value}
use Rattle.vod_operand.specs.Found.{fault_if}
use Rattle.vod_operand.specs.FaultLaws.{first_append}
use Rattle.vod_width.specs.Names.{Declaration}
use Rattle.vod_width.specs.Sizes.{look, selected, or_zero, in_wrong_order, range_faults, constant_faults}
use Rattle.vod_width.specs.Refusals.{Refused, refusal_of}
use Rattle.vod_width.specs.View.{kept}
use Rattle.vod_width.specs.declared.types.WidthFault.{WidthFault}
use Rattle.vod_width.proofs.Layers.{look_at}
use Rattle.vod_constants.specs.Constants.{is_bound, bound_of, bound_faults, missing, IsBound, span_of, span_faults}
use Rattle.vod_constants.specs.declared.number.Bound.{Bound}

-- an expression stands at the place of its first token
pub look_place : (decls : List Declaration) (e : Expr) → (look decls e).place ≡ e.place
look_place decls e = ap (λ (x : Looked). x.place) (look_at decls e)

pub nothing : {A : Type 0} (xs ys : List A) → xs ++ ys ≡ [] → (xs ≡ []) × (ys ≡ [])
nothing [] ys h = (refl, h)
nothing (x ∷ xs) ys h = absurd (cc)

-- a refusal names the first fault
pub named_first : (f : Fault) (fs : List Fault) → Refused (refusal_of f) fs → first fs ≡ Some f
named_first (Rule p) fs h = h
named_first (Width p) fs h = h
named_first Open fs h = h

pub refused_first : (f : Fault) (fs : List Fault) → first fs ≡ Some f → Refused (refusal_of f) fs
refused_first (Rule p) fs h = h
refused_first (Width p) fs h = h
refused_first Open fs h = h

-- a constant with a value is sound, and known
formed_by : (fs : List Fault) (c k : Bool) (p : ℕ) → fs ++ cond (c && cond (are_none fs) k true) [] (Rule p ∷ []) ≡ [] → (fs ≡ []) × ((c ≡ true) × (k ≡ true))
formed_by [] true true p h = (refl, (refl, refl))
formed_by [] true false p h = absurd (cc)
formed_by [] false k p h = absurd (cc)
formed_by (f ∷ fs) c k p h = absurd (cc)

pub formed : (x : Looked) → constant_faults x ≡ [] → (x.faults ≡ []) × ((x.constant ≡ true) × (all_known (value x) ≡ true))
formed x h = formed_by x.faults x.constant (all_known (value x)) x.place h

-- what has no value isn't a number, and its first fault is that of a bound
unformed_by : (test : ℕ → Bool) (fs : List Fault) (c k s : Bool) (n p : ℕ) (f : Fault) → first (fs ++ cond (c && cond (are_none fs) k true) [] (Rule p ∷ [])) ≡ Some f
    → (cond (are_none fs) (cond (c && (k && s)) (Some n) None) None ≡ None)
    × (first (fs ++ cond (c && cond (are_none fs) (meets test (cond (c && (k && s)) (Some n) None)) true) [] (Rule p ∷ [])) ≡ Some f)
unformed_by test [] true true s n p f h = absurd (cc)
unformed_by test [] true false s n p f h = (refl, h)
unformed_by test [] false k s n p f h = (refl, h)
unformed_by test (g ∷ gs) c k s n p f h = (refl, h)

pub unformed : (x : Looked) (f : Fault) → first (constant_faults x) ≡ Some f → (known_natural x ≡ None) × (first (bound_faults x) ≡ Some f)
unformed x f h = unformed_by is_bound x.faults x.constant (all_known (value x)) (not (x.signed && is_1 (upper_bit (value x)))) (number_of (value x)) x.place f h

-- a number that may be a bound is that of the expression
kept_by : (test : ℕ → Bool) (b : Bool) (n : Option ℕ) → kept test (cond b n None) ≡ cond (b && meets test n) n None
kept_by test true n = refl
kept_by test false n = refl

pub kept_where : (test : ℕ → Bool) (x : Looked) → kept test (known_natural x) ≡ number_where test x
kept_where test x = kept_by test (are_none x.faults) (natural x)

-- a bound that is sound has a number
found_at : (t : Bool) (m p : ℕ) → cond t [] (Rule p ∷ []) ≡ [] → cond t (Some m) None ≡ Some m
found_at true m p h = refl
found_at false m p h = absurd (cc)

found_by : (test : ℕ → Bool) (fs : List Fault) (c : Bool) (n : Option ℕ) (p : ℕ) → fs ++ cond (c && cond (are_none fs) (meets test n) true) [] (Rule p ∷ []) ≡ []
    → (m : ℕ) × ((cond (are_none fs && meets test n) n None ≡ Some m) × (cond (are_none fs) n None ≡ Some m))
found_by test [] true (Some m) p h = (m, (found_at (test m) m p h, refl))
found_by test [] true None p h = absurd (cc)
found_by test [] false n p h = absurd (cc)
found_by test (f ∷ fs) c n p h = absurd (cc)

pub found : (x : Looked) → bound_faults x ≡ [] → (m : ℕ) × ((bound_of x ≡ Some m) × (known_natural x ≡ Some m))
found x h = found_by is_bound x.faults x.constant (natural x) x.place h

sized_at : (n m p q : ℕ) → cond (nat_lt n m) (Rule p ∷ []) [] ≡ [] → cond (nat_lt WIDTH (selected (Some n) (Some m))) (Width q ∷ []) [] ≡ []
    → (1 ≤ selected (Some n) (Some m)) × (selected (Some n) (Some m) ≤ WIDTH)
sized_at n m p q h k = grind (arith, nat_tests)

-- what two bounds are that are a range: they have numbers, and so many bits
record IsRange (a b : Looked) : Type 0 where
  msb : bound_faults a ≡ []
  lsb : bound_faults b ≡ []
  order : cond (in_wrong_order (known_natural a) (known_natural b)) (Rule a.place ∷ []) [] ≡ []
  wide : cond (nat_lt WIDTH (selected (bound_of a) (bound_of b))) (Width a.place ∷ []) [] ≡ []

both_none : {A : Type 0} (xs ys : List A) → xs ≡ [] → ys ≡ [] → xs ++ ys ≡ []
both_none xs ys h k = rw (h, k) refl

is_range : (a b : Looked) → span_faults a b ≡ [] → IsRange a b
is_range a b h =
    let order : List Fault = cond (in_wrong_order (known_natural a) (known_natural b)) (Rule a.place ∷ []) [] in
    let whole = nothing (range_faults is_bound a b) _ h in
    let four = nothing (a.faults ++ unless is_bound a ++ b.faults ++ unless is_bound b) order whole.0 in
    let three = nothing (a.faults ++ unless is_bound a ++ b.faults) (unless is_bound b) four.0 in
    let two = nothing (a.faults ++ unless is_bound a) b.faults three.0 in
    record { msb = two.0; lsb = both_none b.faults (unless is_bound b) two.1 three.1; order = four.1; wide = whole.1 }

sized_by : (oa ob ka kb : Option ℕ) (n m p : ℕ) → oa ≡ Some n → ka ≡ Some n → ob ≡ Some m → kb ≡ Some m → cond (in_wrong_order ka kb) (Rule p ∷ []) [] ≡ []
    → cond (nat_lt WIDTH (selected oa ob)) (Width p ∷ []) [] ≡ [] → (1 ≤ selected oa ob) × (selected oa ob ≤ WIDTH)
sized_by oa ob ka kb n m p ha hka hb hkb order wide =
    let in_order = subst (λ k. cond (in_wrong_order k (Some m)) (Rule p ∷ []) [] ≡ []) hka (subst (λ k. cond (in_wrong_order ka k) (Rule p ∷ []) [] ≡ []) hkb order) in
    let narrow = subst (λ o. cond (nat_lt WIDTH (selected o (Some m))) (Width p ∷ []) [] ≡ []) ha (subst (λ o. cond (nat_lt WIDTH (selected oa o)) (Width p ∷ []) [] ≡ []) hb wide) in
    rw (ha, hb) (sized_at n m p p in_order narrow)

pub sized : (a b : Looked) → span_faults a b ≡ [] → (1 ≤ (span_of a b).width) × ((span_of a b).width ≤ WIDTH)
sized a b h =
    let r = is_range a b h in
    let x = found a r.msb in
    let y = found b r.lsb in
    sized_by (bound_of a) (bound_of b) (known_natural a) (known_natural b) x.0 y.0 a.place x.1.0 x.1.1 y.1.0 y.1.1 r.order r.wide

-- the first fault of a range
first_rule : (t : Bool) (p : ℕ) → first (cond t (Rule p ∷ []) []) ≡ fault_if t p
first_rule true p = refl
first_rule false p = refl

joined_first : (xs us bs vs o w : List Fault) → join (join (join (first (xs ++ us)) (first (bs ++ vs))) (first o)) (first w) ≡ first ((xs ++ us ++ bs ++ vs ++ o) ++ w)
joined_first xs us bs vs o w =
    let whole : (xs ++ us ++ bs ++ vs ++ o) ++ w ≡ (((xs ++ us) ++ (bs ++ vs)) ++ o) ++ w = simp append_assoc in
    sym (ap first whole ∙ first_append (((xs ++ us) ++ (bs ++ vs)) ++ o) w
    ∙ ap (λ f. join f (first w)) (first_append ((xs ++ us) ++ (bs ++ vs)) o ∙ ap (λ f. join f (first o)) (first_append (xs ++ us) (bs ++ vs))))

pub span_first : (a b : Looked) → join (join (join (first (bound_faults a)) (first (bound_faults b))) (fault_if (in_wrong_order (known_natural a) (known_natural b)) a.place))
    (first (cond (nat_lt WIDTH (selected (bound_of a) (bound_of b))) (Width a.place ∷ []) [])) ≡ first (span_faults a b)
span_first a b =
    let t = in_wrong_order (known_natural a) (known_natural b) in
    let wide = cond (nat_lt WIDTH (selected (bound_of a) (bound_of b))) (Width a.place ∷ []) [] in
    ap (λ o. join (join (join (first (bound_faults a)) (first (bound_faults b))) o) (first wide)) (sym (first_rule t a.place))
    ∙ joined_first a.faults (unless is_bound a) b.faults (unless is_bound b) (cond t (Rule a.place ∷ []) []) wide

-- a constant as a bound
known_by : (fs : List Fault) (c k s : Bool) (n : Option ℕ) → fs ≡ [] → c ≡ true → k ≡ true → cond (are_none fs) (cond (c && (k && s)) n None) None ≡ cond s n None
known_by fs c k s n h i j = rw (h, i, j) refl

missing_at : (t : Bool) (m p : ℕ) → first (cond t [] (Rule p ∷ [])) ≡ missing (cond t (Some m) None) p
missing_at true m p = refl
missing_at false m p = refl

missing_by : (test : ℕ → Bool) (s : Bool) (m p : ℕ) → first (cond (meets test (cond s (Some m) None)) [] (Rule p ∷ [])) ≡ missing (kept test (cond s (Some m) None)) p
missing_by test true m p = missing_at (test m) m p
missing_by test false m p = refl

fault_by : (test : ℕ → Bool) (fs : List Fault) (c k s : Bool) (m p : ℕ) → fs ≡ [] → c ≡ true → k ≡ true
    → first (fs ++ cond (c && cond (are_none fs) (meets test (cond (c && (k && s)) (Some m) None)) true) [] (Rule p ∷ [])) ≡ missing (kept test (cond s (Some m) None)) p
fault_by test fs c k s m p h i j = rw (h, i, j) (missing_by test s m p)

pub bound_formed : (x : Looked) (v : List Bit) (s : Bool) (n i : Option ℕ) (f : Option Fault) (place : ℕ) → constant_faults x ≡ [] → v ≡ value x → s ≡ x.signed → x.place ≡ place
    → n ≡ cond (not (s && is_1 (upper_bit v))) (Some (number_of v)) None → i ≡ kept is_bound n → f ≡ missing i place → IsBound (record { natural = n; index = i; fault = f }) x
bound_formed x v s n i f place h hv hs hp hn hi hf =
    let whole = formed x h in
    let negative = not (x.signed && is_1 (upper_bit (value x))) in
    let known : known_natural x ≡ cond negative (Some (number_of (value x))) None
    = known_by x.faults x.constant (all_known (value x)) negative (Some (number_of (value x))) whole.0 whole.1.0 whole.1.1 in
    let is : n ≡ cond negative (Some (number_of (value x))) None
    = hn ∙ ap (λ w. cond (not (w && is_1 (upper_bit v))) (Some (number_of v)) None) hs ∙ ap (λ w. cond (not (x.signed && is_1 (upper_bit w))) (Some (number_of w)) None) hv in
    record {
      natural = is ∙ sym known;
      index = hi ∙ ap (kept is_bound) (is ∙ sym known) ∙ kept_where is_bound x;
      fault = hf ∙ ap (λ w. missing i w) (sym hp) ∙ ap (λ w. missing w x.place) (hi ∙ ap (kept is_bound) is)
          ∙ sym (fault_by is_bound x.faults x.constant (all_known (value x)) negative (number_of (value x)) x.place whole.0 whole.1.0 whole.1.1);
    }

pub bound_unformed : (x : Looked) (f : Fault) (r : WidthFault) → r ≡ refusal_of f → Refused r (constant_faults x) → IsBound (record { natural = None; index = None; fault = Some f }) x
bound_unformed x f r h k =
    let is = unformed x f (named_first f (constant_faults x) (subst (λ w. Refused w (constant_faults x)) h k)) in
    record { natural = sym is.0; index = ap (kept is_bound) (sym is.0) ∙ kept_where is_bound x; fault = sym is.1 }

-- refusals by the first fault
pub refused : (f : Fault) (fs : List Fault) (r : WidthFault) → r ≡ refusal_of f → first fs ≡ Some f → Refused r fs
refused f fs r h k = subst (λ w. Refused w fs) (sym h) (refused_first f fs k)

pub memory_first : (a b : Bound) (x y : Looked) → IsBound a x → IsBound b y → first (bound_faults x ++ bound_faults y) ≡ join a.fault b.fault
memory_first a b x y p q = first_append (bound_faults x) (bound_faults y) ∙ ap (λ f. join f (first (bound_faults y))) (sym p.fault) ∙ ap (join a.fault) (sym q.fault)

-- what is formed of two sound bounds
pub span_found : (a b : Bound) (x y : Looked) (w l : ℕ) → IsBound a x → IsBound b y → span_faults x y ≡ [] → w ≡ min (selected a.index b.index) 255 → l ≡ or_zero b.index
    → (w ≡ (span_of x y).width) × (l ≡ (span_of x y).lsb)
span_found a b x y w l p q h hw hl =
    let size = sized x y h in
    let count : selected a.index b.index ≡ (span_of x y).width = ap (λ i. selected i b.index) p.index ∙ ap (selected (bound_of x)) q.index in
    (omega (arith, hw, count, size.1), hl ∙ ap or_zero q.index)

pub memory_sound : (x y : Looked) → bound_faults x ++ bound_faults y ≡ [] → (bound_faults x ≡ []) × (bound_faults y ≡ [])
memory_sound x y h = nothing (bound_faults x) (bound_faults y) h
