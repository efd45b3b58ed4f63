-- Paths, one behind the other and backwards.
use Rattle.std.proofs.Common.{◌≡◌, ℕ, ◌≤◌, true, List, [], ◌∷◌, get_or, refl, sym, subst, ap, ◌∙◌, arith}
use Rattle.vod_fanout.specs.declared.Feed.{Feed}
use Rattle.vod_components.specs.Components.{has_edge, IsPath, LeadsTo}
use Rattle.vod_components.specs.Checks.{turned_edges, Falls}
use Rattle.vod_components.proofs.Edges.{edge_has, has_turned}

path_on : (fs : List Feed) (p q r : ℕ) (ds es : List ℕ) → IsPath fs p ds q → IsPath fs q es r → (cs : List ℕ) × IsPath fs p cs r
path_on fs p q r [] es a b = (es, subst (λ x. IsPath fs x es r) (sym a) b)
path_on fs p q r (d ∷ ds) es a b = let more = path_on fs d q r ds es a.1 b in (d ∷ more.0, (a.0, more.1))

pub lead_on : (fs : List Feed) (p q r : ℕ) → LeadsTo fs p q → LeadsTo fs q r → LeadsTo fs p r
lead_on fs p q r a b = path_on fs p q r a.0 b.0 a.1 b.1

pub lead_edge : (fs : List Feed) (p q : ℕ) → has_edge fs p q ≡ true → LeadsTo fs p q
lead_edge fs p q h = (q ∷ [], (h, refl))

pub lead_none : (fs : List Feed) (p q : ℕ) → p ≡ q → LeadsTo fs p q
lead_none fs p q h = ([], h)

path_back : (fs : List Feed) (p q : ℕ) (ds : List ℕ) → IsPath (turned_edges fs) p ds q → LeadsTo fs q p
path_back fs p q [] a = lead_none fs q p (sym a)
path_back fs p q (d ∷ ds) a = lead_on fs q d p (path_back fs d q ds a.1) (lead_edge fs d p (sym (has_turned fs d p) ∙ a.0))

pub lead_back : (fs : List Feed) (p q : ℕ) → LeadsTo (turned_edges fs) p q → LeadsTo fs q p
lead_back fs p q a = path_back fs p q a.0 a.1

pub path_falls : (fs : List Feed) (numbers : List ℕ) (p q : ℕ) (ds : List ℕ) → Falls numbers fs → IsPath fs p ds q → get_or numbers q 0 ≤ get_or numbers p 0
path_falls fs numbers p q [] falls a = let e = ap (λ x. get_or numbers x 0) a in omega arith
path_falls fs numbers p q (d ∷ ds) falls a =
    let one : get_or numbers d 0 ≤ get_or numbers p 0 = edge_has (λ s r. get_or numbers r 0 ≤ get_or numbers s 0) fs p d falls a.0 in
    let more = path_falls fs numbers d q ds falls a.1 in
    omega arith
