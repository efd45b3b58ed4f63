-- The lines of a value change dump (IEEE 1364-2005, 18.2).
use Rattle.std.specs.Prelude.{ℕ, zero, suc, ◌+◌, ◌/◌, ◌%◌, ◌==◌, List, [], ◌∷◌, ◌++◌, length, nat_lt, codes, if◌then◌else◌}
use Rattle.std.specs.Fmt.{decimal}
use Rattle.std.specs.List.{enumerate_from, flat_map}
use Rattle.vod_bits.specs.Bit.{Bit}
use Rattle.vod_vcd.specs.Values.{digits}

-- a line, with its LF
abbrev pub line : List ℕ → List ℕ
line text = text ++ 10 ∷ []

-- a number in base 94, least digit first, the digit d being the character 33 + d; of at most `more` digits past the first
unfoldable pub code_of : ℕ → ℕ → List ℕ
code_of zero n = (33 + n % 94) ∷ []
code_of (suc more) n = if nat_lt n 94 then (33 + n) ∷ [] else (33 + n % 94) ∷ code_of more (n / 94)

-- the code of a signal, by its number
abbrev pub code : ℕ → List ℕ
code n = code_of n n

-- the digits of a value before the code: the digit alone of one bit, `b`, digits and a space of more (18.2.1)
abbrev pub value_text : List Bit → List ℕ
value_text value = if length value == 1 then digits value else codes "b" ++ digits value ++ codes " "

-- the line of a signal's value
abbrev pub value_line : ℕ → List Bit → List ℕ
value_line n value = line (value_text value ++ code n)

-- `#TIME`
abbrev pub time_line : ℕ → List ℕ
time_line time = line (35 ∷ decimal time)

-- the lines of some signals' values
abbrev pub value_lines : List (ℕ × List Bit) → List ℕ
value_lines pairs = flat_map (λ pair. value_line pair.0 pair.1) pairs

-- a time, and the value of each signal, between `$dumpvars` and `$end`
abbrev pub opening_text : ℕ → List (List Bit) → List ℕ
opening_text time values =
    time_line time ++ line (codes "$dumpvars") ++ value_lines (enumerate_from 0 values) ++ line (codes "$end")

-- a time, and the values of the signals that changed
abbrev pub change_text : ℕ → List (ℕ × List Bit) → List ℕ
change_text time pairs = time_line time ++ value_lines pairs
