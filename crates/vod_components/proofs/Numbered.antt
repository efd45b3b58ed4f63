-- What passes the checks is a numbering of components.
use Rattle.std.proofs.Common.{◌≡◌, ℕ, zero, suc, ◌≤◌, ◌<◌, true, List, [], length, get_or, All, sym, subst, ap, ◌∙◌, arith, inl, inr}
use Rattle.vod_fanout.specs.declared.Feed.{Feed}
use Rattle.vod_fanout.specs.FanOut.{fan_out}
use Rattle.vod_components.specs.declared.search.Search.{Search}
use Rattle.vod_components.specs.Components.{has_edge, LeadsTo, IsComponents}
use Rattle.vod_components.specs.Checks.{has, turned_edges, AreLed, IsChecked}
use Rattle.vod_components.proofs.Edges.{edge_has, has_reader, row, size, turned_reader}
use Rattle.vod_components.proofs.Paths.{lead_on, lead_edge, lead_none, lead_back, path_falls}

-- a node leads to its component's
abbrev IsLedTo : List Feed → List ℕ → List ℕ → ℕ → Type 0
IsLedTo fs numbers nodes p = (get_or numbers p 0 < length nodes) × LeadsTo fs p (get_or nodes (get_or numbers p 0) 0)

led_in : (fuel : ℕ) (fs : List Feed) (n : ℕ) (table : List (List ℕ)) (numbers found nodes : List ℕ) → table ≡ fan_out n fs → All (λ f. f.reader < n) fs → AreLed table numbers found nodes
    → (p : ℕ) → p < n → get_or found p 0 < fuel → IsLedTo fs numbers nodes p
led_in zero fs n table numbers found nodes made readers led p lt below = absurd (omega arith)
led_in (suc fuel) fs n table numbers found nodes made readers led p lt below =
    elim (led p (omega (arith, size fs n table made))) [
      | inl first ↦ (first.0, lead_none fs p (get_or nodes (get_or numbers p 0) 0) (sym first.1))
      | inr more ↦ (
          let q = more.0 in
          let edge : has_edge fs p q ≡ true = sym (has_reader fs p q) ∙ ap (λ r. has r q) (sym (row fs n p table [] made lt)) ∙ more.1 in
          let inside : q < n = edge_has (λ s r. r < n) fs p q readers edge in
          let rest = led_in fuel fs n table numbers found nodes made readers led q inside (omega (arith, more.3, below)) in
          let same : get_or numbers q 0 ≡ get_or numbers p 0 = more.2 in
          (omega (arith, rest.0, same), lead_on fs p q (get_or nodes (get_or numbers p 0) 0) (lead_edge fs p q edge) (subst (λ k. LeadsTo fs q (get_or nodes k 0)) same rest.1)))
    ]

pub numbered : (fs : List Feed) (n : ℕ) (forth back : List (List ℕ)) (first second : Search) → forth ≡ fan_out n fs → back ≡ fan_out n (turned_edges fs)
    → All (λ f. f.source < n) fs → All (λ f. f.reader < n) fs → length second.trees.items ≡ n → IsChecked fs forth back first second
    → IsComponents fs n second.trees.items second.firsts.items
numbered fs n forth back first second forth_is back_is sources readers long checked =
    let numbers = second.trees.items in
    let nodes = second.firsts.items in
    let to : (p : ℕ) → p < n → IsLedTo fs numbers nodes p = λ p lt. led_in (suc (get_or first.found.items p 0)) fs n forth numbers first.found.items nodes forth_is readers checked.led p lt (omega arith) in
    let from : (p : ℕ) → p < n → IsLedTo (turned_edges fs) numbers nodes p = λ p lt. led_in (suc (get_or second.found.items p 0)) (turned_edges fs) n back numbers second.found.items nodes back_is (turned_reader fs n sources) checked.followed p lt (omega arith) in
    let over : (p q : ℕ) → p < n → q < n → get_or numbers p 0 ≡ get_or numbers q 0 → LeadsTo fs p q = λ p q a b e.
    lead_on fs p (get_or nodes (get_or numbers p 0) 0) q (to p a).1 (subst (λ k. LeadsTo fs (get_or nodes k 0) q) (sym e) (lead_back fs q (get_or nodes (get_or numbers q 0) 0) (from q b).1)) in
    let falls : (p q : ℕ) → LeadsTo fs p q → get_or numbers q 0 ≤ get_or numbers p 0 = λ p q l. path_falls fs numbers p q l.0 checked.falls l.1 in
    record {
      size = long;
      same = λ p q a b. (λ e. (over p q a b e, over q p b a (sym e)), λ l. let x = falls p q l.0 in let y = falls q p l.1 in omega arith);
      behind = λ p q a l. falls p q l;
      within = λ p a. (to p a).0;
      node = λ k lt. let own = checked.firsts k lt in (omega (arith, own.0, long), own.1);
    }
