-- A window as it is written, slot by slot, with no whole dump: what the four calls of the writer write in turn.
use Rattle.std.specs.Prelude.{ℕ, List, [], ◌∷◌, ◌++◌, nat_le, if◌then◌else◌}
use Rattle.vod_bits.specs.Bit.{Bit}
use Rattle.vod_vcd.specs.Text.{opening_text, change_text}
use Rattle.vod_vcd.specs.Dump.{Moment, differing, closing_text}

-- the text of a slot against the values last shown: nothing where none differs
abbrev pub slot_text_of : ℕ → List (ℕ × List Bit) → List ℕ
slot_text_of time [] = []
slot_text_of time (pair ∷ pairs) = change_text time (pair ∷ pairs)

abbrev pub slot_text : List (List Bit) → ℕ → List (List Bit) → List ℕ
slot_text shown time values = slot_text_of time (differing shown values)

-- the time printed last after a slot
abbrev pub printed_of : ℕ → ℕ → List (ℕ × List Bit) → ℕ
printed_of printed time [] = printed
printed_of printed time (pair ∷ pairs) = time

abbrev pub printed_after : List (List Bit) → ℕ → ℕ → List (List Bit) → ℕ
printed_after shown printed time values = printed_of printed time (differing shown values)

-- the slots not past b, and the close
abbrev pub rest_text : List (List Bit) → ℕ → List Moment → ℕ → List ℕ
rest_text shown printed [] b = closing_text printed b
rest_text shown printed (moment ∷ moments) b =
    if nat_le moment.time b
    then slot_text shown moment.time moment.values ++ rest_text moment.values (printed_after shown printed moment.time moment.values) moments b
    else closing_text printed b

-- the opening at a, and the rest: `values` are those of the slots not past a so far
abbrev pub window_text : List (List Bit) → List Moment → ℕ → ℕ → List ℕ
window_text values [] a b = opening_text a values ++ rest_text values a [] b
window_text values (moment ∷ moments) a b =
    if nat_le moment.time a
    then window_text moment.values moments a b
    else opening_text a values ++ rest_text values a (moment ∷ moments) b
