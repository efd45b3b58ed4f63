-- In a table that rises, a search by halves finds a word exactly where it is there.
use Rattle.std.proofs.Common.{◌≡◌, ℕ, zero, suc, ◌<◌, List, [], ◌∷◌, arith, length, get_or, refl, sym, ◌∙◌, ap, true, false, ◌||◌, Bool, Result, Ok, Err, is_ok, Bor, add-one, Less, Equal, Greater, Ordering, inl, inr}
use Rattle.std.proofs.lemmas.Bool.Decides.{nat_tests}
use Rattle.std.proofs.lemmas.Cmp.{nat_list_cmp_total}
use Rattle.std.proofs.lemmas.Bool.{cases_lt}
use Rattle.std.proofs.lemmas.List.Folds.{list_any_none, list_any_at}
use Rattle.std.proofs.lemmas.List.Sorted.{searchable_from_sorted}
use Rattle.std.proofs.lemmas.Map.Text.{is_eq-slice_cmp}
use Rattle.std.specs.Cmp.Lexicographic.{slice_cmp, pointwise}
use Rattle.std.specs.List.{list_any}
use Rattle.std.specs.List.Sorted.{IsBinarySearchResult, IsSortedBy, IsNonDecreasingBy, IsSearchInRange}
use Rattle.std.specs.Ordering.{nat_cmp, is_lt, ordering_index, is_eq}
use Rattle.std.specs.Prelude.{nat_eq, map}
use Rattle.vod_token.specs.Word.{is_among, rises, rises_from}

abbrev pub texts : List (Bor (List ℕ)) → List (List ℕ)
texts ws = map (λ (w : Bor (List ℕ)). w.now) ws

-- one word is below another
abbrev below : Bor (List ℕ) → Bor (List ℕ) → Bool
below v w = is_lt (slice_cmp nat_cmp v.now w.now)

rises_is : (w : Bor (List ℕ)) (ws : List (Bor (List ℕ))) → rises_from w.now (texts ws) ≡ true → (k : ℕ) (d : Bor (List ℕ)) → k < length ws
    → below (get_or ws k d) (get_or (w ∷ ws) k d) ≡ false
rises_is w [] e k d lt = absurd (omega arith)
rises_is w (v ∷ vs) e zero d lt = grind (arith, nat_tests)
rises_is w (v ∷ vs) e (suc k) d lt = rises_is v vs (grind (arith, nat_tests)) k d (omega arith)

sorted : (ws : List (Bor (List ℕ))) → rises (texts ws) ≡ true → IsSortedBy below ws
sorted [] e k d low lt = absurd (omega arith)
sorted (w ∷ ws) e k d low lt = rw add-one (rises_is w ws e k d (omega arith))

searchable : (word : List ℕ) (ws : List (Bor (List ℕ))) → rises (texts ws) ≡ true
    → IsNonDecreasingBy (λ (w : Bor (List ℕ)). ordering_index (slice_cmp nat_cmp w.now word)) ws
searchable word ws e = searchable_from_sorted nat_list_cmp_total (λ (w : Bor (List ℕ)). w.now) ws word (sorted ws e)

-- Of the texts of the table, one passes a test where one of the words does.
pub any_text : (p : List ℕ → Bool) (ws : List (Bor (List ℕ))) → list_any p (texts ws) ≡ list_any (λ (w : Bor (List ℕ)). p w.now) ws
any_text p [] = refl
any_text p (w ∷ ws) = ap (λ b. p w.now || b) (any_text p ws)

any_here : (p : Bor (List ℕ) → Bool) (ws : List (Bor (List ℕ))) (i : ℕ) → i < length ws → ((d : Bor (List ℕ)) → p (get_or ws i d) ≡ true) → list_any p ws ≡ true
any_here p [] i lt h = absurd (omega arith)
any_here p (w ∷ ws) i lt h = list_any_at p (w ∷ ws) i w lt (h w)

-- Two texts are one where their comparison is equal.
tells : (xs ys : List ℕ) (o : Ordering) → slice_cmp nat_cmp xs ys ≡ o → pointwise nat_eq xs ys ≡ is_eq o
tells xs ys o e = sym (is_eq-slice_cmp xs ys) ∙ ap is_eq e

-- What the search answers tells whether the word is there.
pub found : (word : List ℕ) (ws : List (Bor (List ℕ))) (r : Result ℕ ℕ) → rises (texts ws) ≡ true → IsSearchInRange r (length ws)
    → IsBinarySearchResult (λ (w : Bor (List ℕ)). slice_cmp nat_cmp w.now word) ws r → is_ok r ≡ is_among (texts ws) word
found word ws (Ok i) e range h =
    let here : (d : Bor (List ℕ)) → pointwise nat_eq (get_or ws i d).now word ≡ true = λ d. tells (get_or ws i d).now word Equal (h d) in
    sym (any_text (λ t. pointwise nat_eq t word) ws ∙ any_here (λ (w : Bor (List ℕ)). pointwise nat_eq w.now word) ws i range here)
found word ws (Err i) e range h =
    let p = h (searchable word ws e) in
    sym (any_text (λ t. pointwise nat_eq t word) ws ∙ list_any_none (λ (w : Bor (List ℕ)). pointwise nat_eq w.now word) ws
    (λ k d lt. elim (cases_lt k i) [
      | inl low ↦ tells (get_or ws k d).now word Less (p.0 k d (omega arith) low)
      | inr high ↦ tells (get_or ws k d).now word Greater (p.1 k d high lt)
    ]))
