-- Edges, those from a node, and their turn.
use Rattle.std.proofs.Common.{◌≡◌, ℕ, ◌-◌, ◌<◌, ◌==◌, Bool, true, false, ◌&&◌, ◌||◌, if◌then◌else◌, List, [], ◌∷◌, length, reverse, get_or, All, refl, subst, ap, ◌∙◌, arith, inl, inr, zero-add}
use Rattle.std.proofs.lemmas.List.{get_or-reverse, length-reverse}
use Rattle.std.proofs.lemmas.List.Elements.{All-nil, All-cons, All-head, All-tail}
use Rattle.std.proofs.lemmas.Bool.{or_cases, and_parts, eqb-true}
use Rattle.vod_fanout.specs.declared.Feed.{Feed}
use Rattle.vod_fanout.specs.FanOut.{readers_of, fan_out}
use Rattle.vod_fanout.proofs.Lists.{each_at, each_length}
use Rattle.vod_components.specs.Components.{has_edge}
use Rattle.vod_components.specs.Checks.{has, turned, turned_edges}

pub has_reader : (fs : List Feed) (p q : ℕ) → has (readers_of fs p) q ≡ has_edge fs p q
has_reader [] p q = refl
has_reader (f ∷ fs) p q =
    elim (f.source == p) as (λ b. has (if b then f.reader ∷ readers_of fs p else readers_of fs p) q ≡ ((b && (f.reader == q)) || has_edge fs p q)) [
      | true ↦ ap (λ t. (f.reader == q) || t) (has_reader fs p q)
      | false ↦ has_reader fs p q
    ]

-- what holds of each edge holds of one that there is
pub edge_has : (P : ℕ → ℕ → Type 0) (fs : List Feed) (p q : ℕ) → All (λ f. P f.source f.reader) fs → has_edge fs p q ≡ true → P p q
edge_has P [] p q all h = absurd (let e : false ≡ true = h in cc)
edge_has P (f ∷ fs) p q all h =
    elim (or_cases ((f.source == p) && (f.reader == q)) (has_edge fs p q) h) [
      | inl here ↦ (
          let head = All-head (λ f. P f.source f.reader) f fs all in
          let both = and_parts (f.source == p) (f.reader == q) here in
          let s = eqb-true f.source p both.0 in
          let r = eqb-true f.reader q both.1 in
          let first : P p f.reader = subst (λ x. P x f.reader) s head in
          subst (λ x. P p x) r first)
      | inr later ↦ edge_has P fs p q (All-tail (λ f. P f.source f.reader) f fs all) later
    ]

readers_if : (b : Bool) (n r : ℕ) (rs : List ℕ) → r < n → All (λ q. q < n) rs → All (λ q. q < n) (if b then r ∷ rs else rs)
readers_if true n r rs h all = All-cons (λ q. q < n) r rs h all
readers_if false n r rs h all = all

pub readers_inside : (fs : List Feed) (n p : ℕ) → All (λ f. f.reader < n) fs → All (λ q. q < n) (readers_of fs p)
readers_inside [] n p all = All-nil (λ q. q < n)
readers_inside (f ∷ fs) n p all = readers_if (f.source == p) n f.reader (readers_of fs p) (All-head (λ f. f.reader < n) f fs all) (readers_inside fs n p (All-tail (λ f. f.reader < n) f fs all))

-- the table's nodes
pub row : (fs : List Feed) (n p : ℕ) (table : List (List ℕ)) (d : List ℕ) → table ≡ fan_out n fs → p < n → get_or table p d ≡ readers_of fs p
row fs n p table d made inside = ap (λ t. get_or t p d) made ∙ each_at (readers_of fs) 0 n p d inside ∙ ap (readers_of fs) (zero-add p)

pub size : (fs : List Feed) (n : ℕ) (table : List (List ℕ)) → table ≡ fan_out n fs → length table ≡ n
size fs n table made = ap length made ∙ each_length (readers_of fs) 0 n

pub table_inside : (fs : List Feed) (n m : ℕ) (table : List (List ℕ)) → table ≡ fan_out n fs → m ≡ n → All (λ f. f.reader < n) fs → All (λ ps. All (λ p. p < m) ps) table
table_inside fs n m table made same all k d lt =
    let in_all : k < n = omega (arith, size fs n table made) in
    let e = row fs n k table d made in_all in
    rw (e, same) (readers_inside fs n k all)

and_turned : (a b : Bool) → (a && b) ≡ (b && a)
and_turned true true = refl
and_turned true false = refl
and_turned false true = refl
and_turned false false = refl

pub has_turned : (fs : List Feed) (p q : ℕ) → has_edge (turned_edges fs) q p ≡ has_edge fs p q
has_turned [] p q = refl
has_turned (f ∷ fs) p q = ap (λ b. b || has_edge (turned_edges fs) q p) (and_turned (f.reader == q) (f.source == p)) ∙ ap (λ b. ((f.source == p) && (f.reader == q)) || b) (has_turned fs p q)

pub turned_source : (fs : List Feed) (n : ℕ) → All (λ f. f.reader < n) fs → All (λ f. f.source < n) (turned_edges fs)
turned_source [] n all = All-nil (λ f. f.source < n)
turned_source (f ∷ fs) n all = All-cons (λ f. f.source < n) (turned f) (turned_edges fs) (All-head (λ f. f.reader < n) f fs all) (turned_source fs n (All-tail (λ f. f.reader < n) f fs all))

pub turned_reader : (fs : List Feed) (n : ℕ) → All (λ f. f.source < n) fs → All (λ f. f.reader < n) (turned_edges fs)
turned_reader [] n all = All-nil (λ f. f.reader < n)
turned_reader (f ∷ fs) n all = All-cons (λ f. f.reader < n) (turned f) (turned_edges fs) (All-head (λ f. f.source < n) f fs all) (turned_reader fs n (All-tail (λ f. f.source < n) f fs all))

pub all_reverse : (n : ℕ) (ps : List ℕ) → All (λ p. p < n) ps → All (λ p. p < n) (reverse ps)
all_reverse n ps all k d lt =
    let size = length-reverse ps in
    let within : k < length ps = omega arith in
    let at = get_or-reverse ps k d within in
    let holds = all (length ps - 1 - k) d (omega arith) in
    rw at holds
