-- The lines before the first time: version, digest of the source, unit of times, scopes and variables (IEEE 1364-2005, 18.2.3).
use Rattle.std.specs.Prelude.{ℕ, zero, suc, ◌+◌, ◌-◌, ◌==◌, Bool, false, List, [], ◌++◌, length, map, filter, Option, None, Some, slice_index_or, codes, if◌then◌else◌}
use Rattle.std.specs.Fmt.{decimal}
use Rattle.std.specs.List.{enumerate_from, flat_map}
use Rattle.sha2.specs.Sha256.{sha256}
use Rattle.hex.specs.Hex.{encode_lower}
use Rattle.vod_design.specs.declared.parts.Precision.{Precision}
use Rattle.vod_design.specs.declared.parts.Signal.{Signal}
use Rattle.vod_design.specs.declared.parts.Unit.{Unit}
use Rattle.vod_design.specs.declared.parts.Unit.TheVariants.{S, Ms, Us, Ns, Ps, Fs}
use Rattle.vod_design.specs.Netlist.{Netlist}
use Rattle.vod_vcd.specs.Text.{line, code}

-- `$comment source sha256 H $end`, with the digest H of the source in lower-case hexadecimal digits
abbrev pub digest_line : List ℕ → List ℕ
digest_line source = line (codes "$comment source sha256 " ++ encode_lower (sha256 source) ++ codes " $end")

-- the name of a unit (19.8)
abbrev pub unit_name : Unit → List ℕ
unit_name S = codes "s"
unit_name Ms = codes "ms"
unit_name Us = codes "us"
unit_name Ns = codes "ns"
unit_name Ps = codes "ps"
unit_name Fs = codes "fs"

-- `$timescale N U $end`
abbrev pub timescale_line : Precision → List ℕ
timescale_line precision = line (codes "$timescale " ++ decimal precision.count ++ codes " " ++ unit_name precision.unit ++ codes " $end")

-- `$scope module NAME $end`
abbrev pub scope_line : List ℕ → List ℕ
scope_line name = line (codes "$scope module " ++ name ++ codes " $end")

-- `$upscope $end`
abbrev pub upscope_line : List ℕ
upscope_line = line (codes "$upscope $end")

-- the type of a variable: that of a register, or of a net
abbrev pub variable_type : Bool → List ℕ
variable_type register = if register then codes "reg" else codes "wire"

-- ` [MSB:LSB]` of a signal that was declared with a range
unfoldable pub range_text : Signal → List ℕ
range_text signal =
    if signal.ranged then codes " [" ++ decimal (signal.lsb + (signal.width - 1)) ++ codes ":" ++ decimal signal.lsb ++ codes "]" else []

-- `$var TYPE WIDTH CODE NAME $end`, with the range behind the name
abbrev pub var_line : ℕ → Signal → List ℕ
var_line n signal =
    line (codes "$var " ++ variable_type signal.register ++ codes " " ++ decimal signal.width ++ codes " " ++ code n ++ codes " " ++ signal.name ++ range_text signal ++ codes " $end")

-- the name of an instance
abbrev pub name_of : Netlist → ℕ → List ℕ
name_of d n = slice_index_or (map (λ scope. scope.name) d.scopes) n []

-- the signals of an instance with their numbers
abbrev pub signals_of : Netlist → ℕ → List (ℕ × Signal)
signals_of d n = filter (λ e. e.1.scope == n) (enumerate_from 0 d.signals)

-- whether an instance is the parent
abbrev pub is_parent : ℕ → Option ℕ → Bool
is_parent n None = false
is_parent n (Some parent) = parent == n

-- the numbers of an instance's children
abbrev pub children_of : Netlist → ℕ → List ℕ
children_of d n = map (λ e. e.0) (filter (λ e. is_parent n e.1.parent) (enumerate_from 0 d.scopes))

-- the lines of an instance, of so many instances within each other: its variables in order, then its children in order
unfoldable pub scope_text : Netlist → ℕ → ℕ → List ℕ
scope_text d zero n = []
scope_text d (suc depth) n =
    scope_line (name_of d n)
    ++ flat_map (λ e. var_line e.0 e.1) (signals_of d n)
    ++ flat_map (scope_text d depth) (children_of d n)
    ++ upscope_line

-- the header: the instances are those of the top, which is the first, and no more are within each other than there are
abbrev pub header_text : List ℕ → Netlist → List ℕ
header_text source d =
    line (codes "$version vod 1 $end")
    ++ digest_line source
    ++ timescale_line d.precision
    ++ scope_text d (length d.scopes) 0
    ++ line (codes "$enddefinitions $end")
