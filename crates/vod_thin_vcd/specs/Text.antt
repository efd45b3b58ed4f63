-- The lines of a value change dump (IEEE 1364-2005, 18.2).
use Rattle.std.specs.Prelude.{ℕ, zero, suc, ◌+◌, ◌/◌, ◌%◌, Bool, List, [], ◌∷◌, ◌++◌, nat_lt, codes, if◌then◌else◌}
use Rattle.std.specs.List.{enumerate_from, flat_map}
use Rattle.std.specs.Fmt.{decimal}
use Rattle.sha2.specs.Sha256.{sha256}
use Rattle.hex.specs.Hex.{encode_lower}
use Rattle.vod_thin_design.specs.declared.thin.Bit.{Bit}
use Rattle.vod_thin_design.specs.declared.thin.Bit.TheVariants.{Zero, One, X, Z}
use Rattle.vod_thin_design.specs.declared.thin.Signal.{Signal}
use Rattle.vod_thin_design.specs.Netlist.{Netlist}

-- a line, with its LF
abbrev pub line : List ℕ → List ℕ
line text = text ++ 10 ∷ []

-- a number in base 94, least digit first, the digit d being the character 33 + d; of at most `more` digits past the first
unfoldable pub code_of : ℕ → ℕ → List ℕ
code_of zero n = (33 + n % 94) ∷ []
code_of (suc more) n = if nat_lt n 94 then (33 + n) ∷ [] else (33 + n % 94) ∷ code_of more (n / 94)

-- the code of a signal, by its number
abbrev pub code : ℕ → List ℕ
code n = code_of n n

-- the digit of a bit: 0, 1, x or z
abbrev pub digit : Bit → ℕ
digit Zero = 48
digit One = 49
digit X = 120
digit Z = 122

-- `$comment source sha256 H $end`, with the digest H of the source in lower-case hexadecimal digits
abbrev pub digest_line : List ℕ → List ℕ
digest_line source = line (codes "$comment source sha256 " ++ encode_lower (sha256 source) ++ codes " $end")

-- `$scope module NAME $end`
abbrev pub scope_line : List ℕ → List ℕ
scope_line name = line (codes "$scope module " ++ name ++ codes " $end")

-- the type of a variable: that of a register, or of a net
abbrev pub variable_type : Bool → List ℕ
variable_type register = if register then codes "reg" else codes "wire"

-- `$var reg 1 CODE NAME $end` of a register, `$var wire 1 CODE NAME $end` of a net
abbrev pub var_line : ℕ → Signal → List ℕ
var_line n signal = line (codes "$var " ++ variable_type signal.register ++ codes " 1 " ++ code n ++ codes " " ++ signal.name ++ codes " $end")

-- the lines before the first time: version, the digest of the source, the time unit, the scope with its variables
abbrev pub header_text : List ℕ → Netlist → List ℕ
header_text source d =
    line (codes "$version vod 1 $end")
    ++ digest_line source
    ++ line (codes "$timescale 1 ns $end")
    ++ scope_line d.name
    ++ flat_map (λ e. var_line e.0 e.1) (enumerate_from 0 d.signals)
    ++ line (codes "$upscope $end")
    ++ line (codes "$enddefinitions $end")

-- `#TIME`
abbrev pub time_line : ℕ → List ℕ
time_line time = line (35 ∷ decimal time)

-- the digit of a value and the code of its signal
abbrev pub value_line : ℕ → Bit → List ℕ
value_line n value = line (digit value ∷ code n)

-- the lines of some signals' values
abbrev pub value_lines : List (ℕ × Bit) → List ℕ
value_lines pairs = flat_map (λ pair. value_line pair.0 pair.1) pairs

-- a time, and the value of each signal, between `$dumpvars` and `$end`
abbrev pub opening_text : ℕ → List Bit → List ℕ
opening_text time values =
    time_line time ++ line (codes "$dumpvars") ++ value_lines (enumerate_from 0 values) ++ line (codes "$end")

-- a time, and the values of the signals that changed
abbrev pub change_text : ℕ → List (ℕ × Bit) → List ℕ
change_text time pairs = time_line time ++ value_lines pairs
