-- One item more of a list.
use Rattle.std.proofs.Common.{◌≡◌, ℕ, zero, suc, ◌+◌, ◌<◌, List, [], ◌∷◌, ◌++◌, length, All, nat_lt, ◌&&◌, take, Bool, true, false, not, if◌then◌else◌, Option, None, Some, get_or, flat_map, refl, sym, ap, ◌∙◌, arith, add-one, take-suc}
use Rattle.vod_places.specs.Places.{sooner, least, place_if}
use Rattle.vod_modules.specs.declared.names.Head.{Head}
use Rattle.std.proofs.lemmas.List.Elements.{All-nil, All-cons, All-append}
use Rattle.std.proofs.lemmas.Bool.{and_parts, ltb-true}
use Rattle.vod_fanout.specs.declared.Feed.{Feed}
use Rattle.vod_modules.specs.declared.uses.Use.{Use}
use Rattle.vod_modules.specs.Uses.{edge_of, edges_of}
use Rattle.vod_modules.specs.Faults.{again_from, is_number}
use Rattle.std.proofs.lemmas.List.{append-nil, append_assoc}
use Rattle.std.proofs.lemmas.Grind.{flat_map-append}

pub flat_more : {X A : Type 0} (f : X → List A) (xs : List X) (i : ℕ) (d : X) → i < length xs → flat_map f (take (i + 1) xs) ≡ flat_map f (take i xs) ++ f (get_or xs i d)
flat_more f xs i d lt =
    ap (λ k. flat_map f (take k xs)) (add-one i) ∙ ap (flat_map f) (take-suc xs i d lt) ∙ flat_map-append f (take i xs) (get_or xs i d ∷ []) ∙ ap (λ ys. flat_map f (take i xs) ++ ys) (append-nil (f (get_or xs i d)))

sooner_none : (a : Option ℕ) → sooner a None ≡ a
sooner_none None = refl
sooner_none (Some p) = refl

sooner_assoc : (a b c : Option ℕ) → sooner a (sooner b c) ≡ sooner (sooner a b) c
sooner_assoc None b c = refl
sooner_assoc (Some p) None c = refl
sooner_assoc (Some p) (Some q) None = refl
sooner_assoc (Some p) (Some q) (Some r) = ap Some (omega arith)

-- the least of two lists
pub least_append : (xs ys : List ℕ) → least (xs ++ ys) ≡ sooner (least xs) (least ys)
least_append [] ys = refl
least_append (x ∷ xs) ys = ap (sooner (Some x)) (least_append xs ys) ∙ sooner_assoc (Some x) (least xs) (least ys)

pub least_if : (test : Bool) (p : ℕ) → (if test then Some p else None) ≡ least (place_if test p)
least_if true p = refl
least_if false p = refl

-- one more place behind a list
pub least_more : (before after : List ℕ) (test : Bool) (p : ℕ) (a b : Option ℕ) → after ≡ before ++ place_if test p → a ≡ least before → b ≡ (if test then Some p else None) → sooner a b ≡ least after
least_more before after test p a b more is here =
    ap (λ o. sooner o b) is ∙ ap (sooner (least before)) (here ∙ least_if test p) ∙ sym (least_append before (place_if test p)) ∙ ap least (sym more)

again_next : (k : ℕ) (hs : List Head) (i : ℕ) (d : Head) → i < length hs → again_from k (take (suc i) hs) ≡ again_from k (take i hs) ++ place_if (not (is_number (get_or hs i d).number (k + i))) (get_or hs i d).place
again_next k [] i d lt = absurd (omega arith)
again_next k (h ∷ hs) zero d lt =
    append-nil (place_if (not (is_number h.number k)) h.place) ∙ ap (λ j. place_if (not (is_number h.number j)) h.place) (omega arith)
again_next k (h ∷ hs) (suc i) d lt =
    let rest = again_next (suc k) hs i d (omega arith) in
    let at : suc k + i ≡ k + suc i = omega arith in
    ap (λ ps. place_if (not (is_number h.number k)) h.place ++ ps) (rest ∙ ap (λ j. again_from (suc k) (take i hs) ++ place_if (not (is_number (get_or hs i d).number j)) (get_or hs i d).place) at)
    ∙ sym (append_assoc (place_if (not (is_number h.number k)) h.place) (again_from (suc k) (take i hs)) (place_if (not (is_number (get_or hs i d).number (k + suc i))) (get_or hs i d).place))

pub again_more : (k : ℕ) (hs : List Head) (i : ℕ) (d : Head) → i < length hs → again_from k (take (i + 1) hs) ≡ again_from k (take i hs) ++ place_if (not (is_number (get_or hs i d).number (k + i))) (get_or hs i d).place
again_more k hs i d lt = ap (λ j. again_from k (take j hs)) (add-one i) ∙ again_next k hs i d lt

edge_kept : (P : Feed → Type 0) (test : Bool) (e : Feed) → (test ≡ true → P e) → All {X = Feed} P (if test then e ∷ [] else [])
edge_kept P true e h = All-cons P e [] (h refl) (All-nil P)
edge_kept P false e h = All-nil P

abbrev Inside : ℕ → Feed → Type 0
Inside n e = (e.source < n) × (e.reader < n)

edge_inside : (n : ℕ) (user used : Option ℕ) → All (Inside n) (edge_of n user used)
edge_inside n None used = All-nil (Inside n)
edge_inside n (Some p) None = All-nil (Inside n)
edge_inside n (Some p) (Some q) =
    let e : Feed = record { source = p; reader = q } in
    edge_kept (Inside n) (nat_lt p n && nat_lt q n) e (λ h. let both = and_parts (nat_lt p n) (nat_lt q n) h in (ltb-true p n both.0, ltb-true q n both.1))

pub edges_inside : (n : ℕ) (uses : List Use) → All (Inside n) (edges_of n uses)
edges_inside n [] = All-nil (Inside n)
edges_inside n (u ∷ us) = All-append (Inside n) (edge_of n u.user u.used) (edges_of n us) (edge_inside n u.user u.used) (edges_inside n us)

pub edge_sources : (n : ℕ) (uses : List Use) → All {X = Feed} (λ e. e.source < n) (edges_of n uses)
edge_sources n uses k d lt = (edges_inside n uses k d lt).0

pub edge_readers : (n : ℕ) (uses : List Use) → All {X = Feed} (λ e. e.reader < n) (edges_of n uses)
edge_readers n uses k d lt = (edges_inside n uses k d lt).1
