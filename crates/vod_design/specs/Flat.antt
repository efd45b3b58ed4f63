-- What each flat design keeps, by the rules on declarations: numbers stand for parts that there are, and sizes are within limits.
use Rattle.std.specs.Prelude.{◌≡◌, ℕ, ◌+◌, ◌<◌, ◌≤◌, ◌^◌, List, [], length, map, All, AllPairs, ◌≢◌, Option, None, Some, slice_get}
use Rattle.vod_bits.specs.declared.TheConstants.{WIDTH}
use Rattle.vod_design.specs.declared.parts.Block.{Block}
use Rattle.vod_design.specs.declared.parts.Driver.{Driver}
use Rattle.vod_design.specs.declared.parts.Edge.{Edge}
use Rattle.vod_design.specs.declared.parts.InitialAssign.{InitialAssign}
use Rattle.vod_design.specs.declared.parts.InitialTarget.{InitialTarget}
use Rattle.vod_design.specs.declared.parts.InitialTarget.TheVariants as initial
use Rattle.vod_design.specs.declared.parts.Ram.{Ram}
use Rattle.vod_design.specs.declared.parts.Signal.{Signal}
use Rattle.vod_design.specs.declared.refusal.Which.TheVariants as which
use Rattle.vod_design.specs.declared.sized.SizedExpr.{SizedExpr}
use Rattle.vod_design.specs.declared.statement.Function.{Function}
use Rattle.vod_design.specs.declared.statement.Part.{Part}
use Rattle.vod_design.specs.declared.statement.PartTarget.{PartTarget}
use Rattle.vod_design.specs.declared.statement.PartTarget.TheVariants as part
use Rattle.vod_design.specs.declared.statement.Place.{Place}
use Rattle.vod_design.specs.declared.statement.Size.{Size}
use Rattle.vod_design.specs.declared.statement.Statement.{Statement}
use Rattle.vod_design.specs.Limits.{most}
use Rattle.vod_design.specs.Netlist.{Netlist, signal_width, word_count, word_width, words_in, variable_widths, variable_width, named_width, IsNet, IsRegister}
use Rattle.vod_design.specs.Uses.{Use, Whole, Bits, BitAt, Word, WordAt, Called, Inputs, uses, exprs, assignments}

-- a size that a value may have
abbrev pub IsSize : ℕ → Type 0
IsSize width = (1 ≤ width) × (width ≤ WIDTH)

-- a signal of an instance, and a memory: within the limits of ranges (4.3, 4.9)
pub record SignalFits (d : Netlist) (s : Signal) : Type 0 where
  pub instance : s.scope < length d.scopes
  pub size : IsSize s.width
  pub range : s.lsb + s.width ≤ 65536

pub record MemoryFits (d : Netlist) (m : Ram) : Type 0 where
  pub instance : m.scope < length d.scopes
  pub size : IsSize m.width
  pub some : 1 ≤ m.words
  pub range : m.low + m.words ≤ 65536

-- the first instance is the top; each other one has a parent before it (12.1)
abbrev pub ParentFits : ℕ → Option ℕ → Type 0
ParentFits n None = n ≡ 0
ParentFits n (Some parent) = parent < n

-- a node of an expression takes what there is, and constant selects are inside (4.2, 5.2, 10.4.3)
abbrev pub UseFits : Netlist → List ℕ → Use → Type 0
UseFits d locals (Whole name) = 1 ≤ named_width d locals name
UseFits d locals (Bits name low width) = (1 ≤ width) × (low + width ≤ named_width d locals name)
UseFits d locals (BitAt name least index) = 1 ≤ named_width d locals name
UseFits d locals (Word memory place) = (memory.width ≡ word_width d memory.number) × (place < word_count d memory.number)
UseFits d locals (WordAt memory least index) = (memory.width ≡ word_width d memory.number) × (1 ≤ word_count d memory.number)
UseFits d locals (Called n count) = (f : Function) × (slice_get d.functions n ≡ Some f) × (count ≡ length f.inputs)
UseFits d locals (Inputs op count) = 1 ≤ count

-- an expression where these variables may be read
pub record ExprFits (d : Netlist) (locals : List ℕ) (e : SizedExpr) : Type 0 where
  pub size : IsSize e.width
  pub fits : All (UseFits d locals) (uses e)

-- a part of a left side writes what there is, as many bits as it takes (9.2)
abbrev pub TargetFits : Netlist → List ℕ → ℕ → PartTarget → Type 0
TargetFits d locals width (part.Bits x low) = low + width ≤ variable_width d locals x
TargetFits d locals width (part.Index x least index) = (width ≡ 1) × (1 ≤ variable_width d locals x)
TargetFits d locals width (part.Word memory least index) = (width ≡ word_width d memory) × (1 ≤ word_count d memory)

pub record PartFits (d : Netlist) (locals : List ℕ) (right : SizedExpr) (p : Part) : Type 0 where
  pub size : IsSize p.width
  pub inside : p.low + p.width ≤ right.width
  pub target : TargetFits d locals p.width p.target

-- a statement
pub record StatementFits (d : Netlist) (locals : List ℕ) (s : Statement) : Type 0 where
  pub exprs : All (ExprFits d locals) (exprs s)
  pub parts : All (λ a. All (PartFits d locals a.right) a.parts) (assignments s)

-- a driver of bits that there are
abbrev pub BitFits : Netlist → Place → Type 0
BitFits d b = b.bit < signal_width d b.signal

pub record DriverFits (d : Netlist) (a : Driver) : Type 0 where
  pub some : 1 ≤ length a.target
  pub target : All (BitFits d) a.target
  pub value : ExprFits d [] a.value

-- a block that waits for edges of signals that there are
abbrev pub EdgeFits : Netlist → Edge → Type 0
EdgeFits d e = 1 ≤ signal_width d e.signal

abbrev pub ResetFits : Netlist → Option Edge → Type 0
ResetFits d None = Unit
ResetFits d (Some e) = EdgeFits d e

pub record BlockFits (d : Netlist) (b : Block) : Type 0 where
  pub clock : EdgeFits d b.clock
  pub reset : ResetFits d b.reset
  pub body : StatementFits d [] b.body

-- a function of an instance (10.4.1)
abbrev pub SizeFits : Size → Type 0
SizeFits s = IsSize s.width

pub record FunctionFits (d : Netlist) (f : Function) : Type 0 where
  pub instance : f.scope < length d.scopes
  pub some : 1 ≤ length f.inputs
  pub inputs : All SizeFits f.inputs
  pub locals : All SizeFits f.locals
  pub size : IsSize f.width
  pub body : StatementFits d (variable_widths f) f.body

-- an initial assignment of a value as wide as the register or word (6.2.1, 9.9.1)
abbrev pub InitialFits : Netlist → ℕ → InitialTarget → Type 0
InitialFits d width (initial.Register n) = IsRegister d n × (width ≡ signal_width d n)
InitialFits d width (initial.Word memory place) = (place < word_count d memory) × (width ≡ word_width d memory)

-- A flat design: what its tree's declarations say of its parts, and its limits
pub record IsFlat (d : Netlist) : Type 0 where
  pub top : 1 ≤ length d.scopes
  pub few_scopes : length d.scopes ≤ most which.Instances
  pub few_signals : length d.signals ≤ most which.Signals
  pub few_inputs : length d.inputs ≤ most which.Inputs
  pub few_words : words_in d.memories ≤ most which.Words
  pub few_drivers : length d.drivers < 2 ^ 25
  pub few_blocks : length d.blocks < 2 ^ 25
  pub few_initials : length d.initials < 2 ^ 25
  pub few_functions : length d.functions < 2 ^ 25
  pub scopes : (n : ℕ) (parent : Option ℕ) → slice_get (map (λ s. s.parent) d.scopes) n ≡ Some parent → ParentFits n parent
  pub signals : All (SignalFits d) d.signals
  pub inputs : All (λ i. IsNet d i.signal) d.inputs
  pub inputs_differ : AllPairs (λ i j. i.signal ≢ j.signal) d.inputs
  pub memories : All (MemoryFits d) d.memories
  pub drivers : All (DriverFits d) d.drivers
  pub blocks : All (BlockFits d) d.blocks
  pub initials : All (λ i. All (λ (a : InitialAssign). InitialFits d (length a.value) a.target) i.assigns) d.initials
  pub functions : All (FunctionFits d) d.functions
