-- The parts of a small design.
use Rattle.std.specs.Prelude.{ℕ, Bool, true, false, List, [], ◌∷◌, None}
use Rattle.vod_bits.specs.Bit.{Bit, B0, B1}
use Rattle.vod_design.specs.declared.parts.Block.{Block}
use Rattle.vod_design.specs.declared.parts.Driver.{Driver}
use Rattle.vod_design.specs.declared.parts.Initial.{Initial}
use Rattle.vod_design.specs.declared.parts.InitialTarget.{InitialTarget}
use Rattle.vod_design.specs.declared.parts.InitialTarget.TheVariants as initial
use Rattle.vod_design.specs.declared.parts.Input.{Input}
use Rattle.vod_design.specs.declared.parts.Precision.{Precision}
use Rattle.vod_design.specs.declared.parts.Ram.{Ram}
use Rattle.vod_design.specs.declared.parts.Scope.{Scope}
use Rattle.vod_design.specs.declared.parts.Signal.{Signal}
use Rattle.vod_design.specs.declared.parts.Unit.TheVariants as unit
use Rattle.vod_design.specs.declared.sized.Named.TheVariants as named
use Rattle.vod_design.specs.declared.sized.SizedExpr.{SizedExpr}
use Rattle.vod_design.specs.declared.sized.SizedKind.TheOpen.{SizedKind-F}
use Rattle.vod_design.specs.declared.sized.SizedKind.TheViews.{roll-SizedKind, roll-SizedExpr}
use Rattle.vod_design.specs.declared.sized.Variable.{Variable}
use Rattle.vod_design.specs.declared.sized.Variable.TheVariants as variable
use Rattle.vod_design.specs.declared.statement.Function.{Function}
use Rattle.vod_design.specs.declared.statement.Part.{Part}
use Rattle.vod_design.specs.declared.statement.PartTarget.TheVariants as part
use Rattle.vod_design.specs.declared.statement.Place.{Place}
use Rattle.vod_design.specs.declared.statement.Size.{Size}
use Rattle.vod_design.specs.declared.statement.Statement.{Statement}
use Rattle.vod_design.specs.declared.statement.Statement.TheOpen.{Statement-F}
use Rattle.vod_design.specs.declared.statement.Statement.TheViews.{roll-Statement}
use Rattle.vod_design.specs.declared.vector.Class.TheVariants as class
use Rattle.vod_design.specs.Draft.{parts}
use Rattle.vod_design.specs.Netlist.{Netlist}

-- a signal of one bit of the top
abbrev pub signal : List ℕ → Bool → Signal
signal name register = record { name = name; scope = 0; width = 1; lsb = 0; ranged = false; register = register }

abbrev pub clk : Signal
clk = signal (99 ∷ 108 ∷ 107 ∷ []) false

abbrev pub q : Signal
q = signal (113 ∷ []) false

abbrev pub r : Signal
r = signal (114 ∷ []) true

abbrev pub signals : List Signal
signals = clk ∷ q ∷ r ∷ []

abbrev pub clock : Input
clock = record { signal = 0; class = class.Clock }

abbrev pub inputs : List Input
inputs = clock ∷ []

-- the whole of a variable of one bit
abbrev pub whole : Variable → SizedExpr
whole x = roll-SizedExpr (record { place = 0; width = 1; signed = false; kind = roll-SizedKind (SizedKind-F.Name (named.Variable x)) })

abbrev pub bit : ℕ → Place
bit n = record { signal = n; bit = 0 }

abbrev pub shown : Driver
shown = record { target = bit 1 ∷ []; value = whole (variable.Signal 2); place = 0 }

abbrev pub drivers : List Driver
drivers = shown ∷ []

-- one variable of one bit takes the value of another
abbrev pub part_of : Variable → Part
part_of to = record { place = 0; low = 0; width = 1; target = part.Bits to 0 }

abbrev pub copy : Variable → Variable → Statement
copy from to = roll-Statement (Statement-F.Assign (part_of to ∷ []) (whole from))

abbrev pub kept : Block
kept = record { clock = record { signal = 0; rising = true }; reset = None; body = copy (variable.Signal 2) (variable.Signal 2) }

abbrev pub blocks : List Block
blocks = kept ∷ []

abbrev pub m : Ram
m = record { name = 109 ∷ []; scope = 0; width = 1; low = 0; words = 1 }

abbrev pub memories : List Ram
memories = m ∷ []

abbrev pub initial_of : InitialTarget → Bit → Initial
initial_of target bit = record { assigns = record { target = target; value = bit ∷ [] } ∷ [] }

abbrev pub initials : List Initial
initials = initial_of (initial.Register 2) B0 ∷ initial_of (initial.Word 0 0) B1 ∷ []

abbrev pub scopes : List Scope
scopes = record { name = 116 ∷ []; parent = None } ∷ []

abbrev pub bit_size : Size
bit_size = record { width = 1; signed = false }

abbrev pub same : Function
same = record { scope = 0; width = 1; signed = false; inputs = bit_size ∷ []; locals = []; body = copy (variable.Local 0) (variable.Local 1) }

abbrev pub functions : List Function
functions = same ∷ []

abbrev pub precision : Precision
precision = record { count = 1; unit = unit.Ns }

abbrev pub small : Netlist
small = parts signals inputs drivers blocks memories initials scopes functions precision
