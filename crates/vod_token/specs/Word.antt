-- Tables of words, and the reserved words.
use Rattle.std.specs.Prelude.{ℕ, Bool, true, not, ◌&&◌, List, [], ◌∷◌, map, nat_eq}
use Rattle.std.specs.List.{list_any}
use Rattle.std.specs.Cmp.Lexicographic.{pointwise, slice_cmp}
use Rattle.std.specs.Ordering.{nat_cmp, is_lt}
use Rattle.vod_token.specs.declared.reserved.TheConstants.{RESERVED}

-- the text is among the texts of a table
abbrev pub is_among : List (List ℕ) → List ℕ → Bool
is_among texts text = list_any (λ t. pointwise nat_eq t text) texts

-- no text of the table comes before the one in front of it
abbrev pub rises_from : List ℕ → List (List ℕ) → Bool
rises_from text [] = true
rises_from text (next ∷ texts) = not (is_lt (slice_cmp nat_cmp next text)) && rises_from next texts

abbrev pub rises : List (List ℕ) → Bool
rises [] = true
rises (text ∷ texts) = rises_from text texts

-- the bytes of the reserved words (IEEE 1364-2005, Annex B)
unfoldable pub reserved_words : List (List ℕ)
reserved_words = map (λ w. w.now) RESERVED

-- a word is among them
abbrev pub is_reserved : List ℕ → Bool
is_reserved word = is_among reserved_words word
