-- Words that are put at places, where there are such or none.
use Rattle.std.proofs.Common.{◌≡◌, ℕ, ◌<◌, ◌≤◌, not, Bool, true, List, [], ◌∷◌, length, get_or, arith, refl, ap, ◌∙◌, sym}
use Rattle.std.proofs.lemmas.List.{get_or_read, get_or_past}
use Rattle.vod_bits.specs.Bit.{Bit}
use Rattle.vod_slot.specs.Store.{list_at, same_bits}

pub inside : (words : List (List Bit)) (p : ℕ) (old word : List Bit) (t : Bool) → p < length words → old ≡ get_or words p old → t ≡ not (same_bits old word) → t ≡ not (same_bits (list_at words p) word)
inside words p old word t h at is = is ∙ ap (λ o. not (same_bits o word)) (get_or_read words p old h at [])

some_bits : (word : List Bit) → 1 ≤ length word → true ≡ not (same_bits [] word)
some_bits [] h = absurd (omega arith)
some_bits (b ∷ word) h = refl

pub outside : (words : List (List Bit)) (p : ℕ) (word : List Bit) → length words ≤ p → 1 ≤ length word → true ≡ not (same_bits (list_at words p) word)
outside words p word h some = some_bits word some ∙ sym (ap (λ o. not (same_bits o word)) (get_or_past words p [] h))
