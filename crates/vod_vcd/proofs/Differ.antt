-- The signals whose values differ, one after another.
use Rattle.std.proofs.Common.{◌++◌, length-append, ◌≡◌, ℕ, ◌+◌, List, [], ◌∷◌, filter, map, zip, not, true, false, refl, ap, sym, ◌∙◌, length, inl, inr, arith}
use Rattle.std.proofs.lemmas.Bool.{cases_Bool}
use Rattle.std.specs.List.{enumerate_from}
use Rattle.vod_bits.specs.Bit.{Bit}
use Rattle.vod_vcd.specs.Text.{code, value_text, value_line, value_lines}
use Rattle.vod_vcd.specs.Dump.{same_value, differing}
use Rattle.vod_vcd.specs.Stream.{printed_of, printed_after}
use Rattle.vod_vcd.specs.Page.{Page}
use Rattle.vod_vcd.proofs.Same.{equal-same_value}

-- the signals from a number on that differ
abbrev pub differing_from : ℕ → List (List Bit) → List (List Bit) → List (ℕ × List Bit)
differing_from n before now = map (λ e. (e.0, e.1.1)) (filter (λ e. not (same_value e.1.0 e.1.1)) (enumerate_from n (zip before now)))

pub differing_from-same : (n : ℕ) (a b : List Bit) (before now : List (List Bit)) → same_value a b ≡ true →
    differing_from n (a ∷ before) (b ∷ now) ≡ differing_from (n + 1) before now
differing_from-same n a b before now same = rw same refl

pub differing_from-changed : (n : ℕ) (a b : List Bit) (before now : List (List Bit)) → same_value a b ≡ false →
    differing_from n (a ∷ before) (b ∷ now) ≡ (n, b) ∷ differing_from (n + 1) before now
differing_from-changed n a b before now changed = rw changed refl

-- values that nowhere differ are the same
pub equal-differing_from : (n : ℕ) (before now : List (List Bit)) → length before ≡ length now → differing_from n before now ≡ [] → before ≡ now
equal-differing_from n [] [] long none = refl
equal-differing_from n [] (b ∷ now) long none = absurd (omega arith)
equal-differing_from n (a ∷ before) [] long none = absurd (omega arith)
equal-differing_from n (a ∷ before) (b ∷ now) long none = elim (cases_Bool (same_value a b)) [
  | inl same ↦
      let first = equal-same_value a b same in
      let shorter : length before ≡ length now = omega arith in
      let rest = equal-differing_from (n + 1) before now shorter (sym (differing_from-same n a b before now same) ∙ none) in
      cc
  | inr changed ↦ let some : (n, b) ∷ differing_from (n + 1) before now ≡ [] = sym (differing_from-changed n a b before now changed) ∙ none in cc
]

-- values without a line are none
pub none-value_lines : (pairs : List (ℕ × List Bit)) → length (value_lines pairs) ≡ 0 → pairs ≡ []
none-value_lines [] short = refl
none-value_lines (pair ∷ pairs) short =
    absurd (omega (arith, short, length-append (value_line pair.0 pair.1) (value_lines pairs), length-append (value_text pair.1 ++ code pair.0) (10 ∷ [])))

-- a slot without a change leaves what is shown
pub unchanged-page : (page : Page) (time : ℕ) (values : List (List Bit)) → length page.shown ≡ length values → differing page.shown values ≡ [] →
    page ≡ record page { shown = values; printed = printed_after page.shown page.printed time values }
unchanged-page page time values long none =
    let shown : page.shown ≡ values = equal-differing_from 0 page.shown values long none in
    let printed : printed_after page.shown page.printed time values ≡ page.printed = ap (λ v. printed_of page.printed time v) none in
    rw (printed, ← shown) refl
