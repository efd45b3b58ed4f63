-- The registers of a module (IEEE 1364-2005, 4.2.2 and 12.3.3).
use Rattle.std.specs.Prelude.{Bool, true, false, not, ◌&&◌, List, [], ◌∷◌, ◌++◌, if◌then◌else◌}
use Rattle.vod_names.specs.declared.entry.Kind.{Kind}
use Rattle.vod_names.specs.declared.entry.Kind.TheVariants as kind
use Rattle.vod_names.specs.Entries.{Named, last_of}
use Rattle.vod_declared.specs.Faults.{is_repeated}

abbrev pub is_reg : Kind → Bool
is_reg kind.OutputReg = true
is_reg kind.Reg = true
is_reg k = false

-- a `reg` is a register, unless it is one declaration too many: it is the first of its name, or completes an output
abbrev pub register_after : List Named → Named → List Named
register_after earlier d = if is_reg d.1.kind && not (is_repeated (last_of d.0 earlier) d.1) then d ∷ [] else []

abbrev pub registers_after : List Named → List Named → List Named
registers_after earlier [] = []
registers_after earlier (d ∷ ds) = register_after earlier d ++ registers_after (earlier ++ d ∷ []) ds
