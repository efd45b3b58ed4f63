-- What each accepted design keeps.
use Rattle.std.specs.Prelude.{◌≡◌, ℕ, ◌+◌, ◌<◌, ◌≤◌, ◌^◌, true, false, List, [], ◌∷◌, ◌++◌, length, All, AllPairs, Option, None, Some, slice_get, slice_index_or}
use Rattle.std.specs.List.{Contains, Any}
use Rattle.vod_design.specs.declared.parts.Block.{Block}
use Rattle.vod_design.specs.declared.parts.Driver.{Driver}
use Rattle.vod_design.specs.declared.parts.Edge.{Edge}
use Rattle.vod_design.specs.declared.parts.InitialTarget.{InitialTarget}
use Rattle.vod_design.specs.declared.parts.InitialTarget.TheVariants as initial
use Rattle.vod_design.specs.declared.refusal.Which.TheVariants as which
use Rattle.vod_design.specs.declared.sized.Named.{Named}
use Rattle.vod_design.specs.declared.sized.Named.TheVariants as named
use Rattle.vod_design.specs.declared.sized.SizedExpr.{SizedExpr}
use Rattle.vod_design.specs.declared.sized.Variable.{Variable}
use Rattle.vod_design.specs.declared.sized.Variable.TheVariants as variable
use Rattle.vod_design.specs.declared.statement.Function.{Function}
use Rattle.vod_design.specs.declared.statement.Part.{Part}
use Rattle.vod_design.specs.declared.statement.PartTarget.{PartTarget}
use Rattle.vod_design.specs.declared.statement.PartTarget.TheVariants as part
use Rattle.vod_design.specs.declared.statement.Place.{Place}
use Rattle.vod_design.specs.declared.statement.Statement.{Statement}
use Rattle.vod_design.specs.declared.vector.Class.{Class}
use Rattle.vod_design.specs.declared.vector.Class.TheVariants.{Clock, Reset, Data}
use Rattle.vod_design.specs.Feeds.{feeds}
use Rattle.vod_design.specs.Flat.{IsFlat}
use Rattle.vod_design.specs.Functions.{function_checked, called_by, depth_of}
use Rattle.vod_design.specs.Limits.{most}
use Rattle.vod_design.specs.Netlist.{Netlist, EachOnce, signal_width, word_count, variable_widths, variable_width, named_width, IsNet, IsRegister, IsInput, initial_targets, driven_bits}
use Rattle.vod_design.specs.Nets.{ReadsNet, Copies, Follows, FollowsClass, IsEdgeNet, Resets}
use Rattle.vod_design.specs.Uses.{Use, Whole, Bits, BitAt, Word, WordAt, Called, Inputs, IndexSize, Written, uses, exprs, assignments, is_plain, written_by}

-- each value that an index may have is inside: it is unsigned, and there are as many bits or words as it has values (A5)
pub record IsInside (count least : ℕ) (index : IndexSize) : Type 0 where
  pub unsigned : index.signed ≡ false
  pub least_is : least ≡ 0
  pub greatest : 2 ^ index.width ≤ count

abbrev pub IndexInside : Netlist → List ℕ → Use → Type 0
IndexInside d locals (Whole name) = Unit
IndexInside d locals (Bits name low width) = Unit
IndexInside d locals (BitAt name least index) = IsInside (named_width d locals name) least index
IndexInside d locals (Word memory place) = Unit
IndexInside d locals (WordAt memory least index) = IsInside (word_count d memory.number) least index
IndexInside d locals (Called n count) = Unit
IndexInside d locals (Inputs op count) = Unit

abbrev pub size_of : SizedExpr → IndexSize
size_of e = record { width = e.width; signed = e.signed }

abbrev pub PartInside : Netlist → List ℕ → PartTarget → Type 0
PartInside d locals (part.Bits x low) = Unit
PartInside d locals (part.Index x least index) = IsInside (variable_width d locals x) least (size_of index)
PartInside d locals (part.Word memory least index) = IsInside (word_count d memory) least (size_of index)

pub record IndicesInside (d : Netlist) (locals : List ℕ) (s : Statement) : Type 0 where
  pub exprs : All (λ e. All (IndexInside d locals) (uses e)) (exprs s)
  pub parts : All (λ a. All (λ p. PartInside d locals p.target) a.parts) (assignments s)

-- a block writes registers and memory words (A6)
abbrev pub WritesRegister : Netlist → Variable → Type 0
WritesRegister d (variable.Signal n) = IsRegister d n
WritesRegister d (variable.Local n) = ⊥

abbrev pub WritesState : Netlist → PartTarget → Type 0
WritesState d (part.Bits x low) = WritesRegister d x
WritesState d (part.Index x least index) = WritesRegister d x
WritesState d (part.Word memory least index) = Unit

-- a bit that is to be driven: of a net that is no input (A7)
pub record IsToDrive (d : Netlist) (b : Place) : Type 0 where
  pub net : IsNet d b.signal
  pub free : IsInput d b.signal → ⊥
  pub inside : b.bit < signal_width d b.signal

-- a register or a word, which is to have an initial value (A9)
abbrev pub IsToBegin : Netlist → InitialTarget → Type 0
IsToBegin d (initial.Register n) = IsRegister d n
IsToBegin d (initial.Word memory place) = place < word_count d memory

-- an expression reads no edge net (A10)
abbrev pub IsQuiet : Netlist → SizedExpr → Type 0
IsQuiet d e = (n : ℕ) → IsEdgeNet d n → ReadsNet n e → ⊥

-- a constant expression (5.1), and a part with a constant select
abbrev pub IsConstantName : Named → Type 0
IsConstantName (named.Variable x) = ⊥
IsConstantName (named.Constant bits) = Unit

abbrev pub IsConstantUse : Use → Type 0
IsConstantUse (Whole name) = IsConstantName name
IsConstantUse (Bits name low width) = IsConstantName name
IsConstantUse (BitAt name least index) = IsConstantName name
IsConstantUse (Word memory place) = ⊥
IsConstantUse (WordAt memory least index) = ⊥
IsConstantUse (Called n count) = ⊥
IsConstantUse (Inputs op count) = Unit

abbrev pub IsSelected : PartTarget → Type 0
IsSelected (part.Bits x low) = Unit
IsSelected (part.Index x least index) = ⊥
IsSelected (part.Word memory least index) = ⊥

-- what is done in reset: constants are assigned (A12)
pub record IsReset (s : Statement) : Type 0 where
  pub plain : is_plain s ≡ true
  pub constants : All (λ a. All IsConstantUse (uses a.right)) (assignments s)
  pub selects : All (λ a. All (λ (p : Part). IsSelected p.target) a.parts) (assignments s)

-- a block with one event reads no edge net; one with two tests its reset and else reads none (A10 to A12)
pub record ResetsFirst (d : Netlist) (b : Block) (reset : Edge) : Type 0 where
  pub taken : Statement
  pub other : Statement
  pub body : Resets reset taken other b.body
  pub reset_is : FollowsClass d Reset reset.signal
  pub in_reset : IsReset taken
  pub quiet : All (IsQuiet d) (exprs other)

abbrev pub BlockRuns : Netlist → Block → Option Edge → Type 0
BlockRuns d b None = All (IsQuiet d) (exprs b.body)
BlockRuns d b (Some reset) = ResetsFirst d b reset

-- a function calls earlier ones alone, is not too deep, and assigns what it reads before, its result on each path (A14)
pub record IsCallable (functions : List Function) (n : ℕ) (f : Function) : Type 0 where
  pub earlier : All (λ m. m < n) (called_by f.body)
  pub shallow : depth_of functions n ≤ most which.Calls
  pub fine : (function_checked f).fine ≡ true
  pub result : slice_index_or (function_checked f).after (length f.inputs + length f.locals) false ≡ true

-- the numbers of all drivers, each once, behind all that feed it (A15)
pub record IsRanked (drivers : List Driver) (ranked : List ℕ) : Type 0 where
  pub each : EachOnce (λ n. n < length drivers) ranked
  pub size : length ranked ≡ length drivers
  pub behind : (before later : List ℕ) (p q : ℕ) → ranked ≡ before ++ q ∷ later → feeds drivers p q ≡ true → Contains before p

-- the place of each driver in that order, by the driver's number
pub record AreRanks (ranked ranks : List ℕ) : Type 0 where
  pub size : length ranks ≡ length ranked
  pub place : (k : ℕ) → k < length ranked → slice_index_or ranks (slice_index_or ranked k 0) 0 ≡ k

-- the class of an input is what blocks wait for (A13)
abbrev pub IsWaitedFor : Netlist → Class → ℕ → Type 0
IsWaitedFor d Clock n = Any (λ b. Follows d n b.clock.signal) d.blocks
IsWaitedFor d Reset n = Any (λ b. (e : Edge) × (b.reset ≡ Some e) × Follows d n e.signal) d.blocks
IsWaitedFor d Data n = Unit

-- An accepted design: flat, with what the rules on its parts give
pub record IsAccepted (d : Netlist) (ranked : List ℕ) : Type 0 where
  pub flat : IsFlat d
  pub driver_indices : All (λ a. All (IndexInside d []) (uses a.value)) d.drivers
  pub block_indices : All (λ b. IndicesInside d [] b.body) d.blocks
  pub function_indices : All (λ f. IndicesInside d (variable_widths f) f.body) d.functions
  pub writes : All (λ b. All (λ a. All (λ (p : Part). WritesState d p.target) a.parts) (assignments b.body)) d.blocks
  pub driven : EachOnce (IsToDrive d) (driven_bits d)
  pub owned : AllPairs (λ a b. (x : Written) → Contains (written_by a.body) x → Contains (written_by b.body) x → ⊥) d.blocks
  pub begun : EachOnce (IsToBegin d) (initial_targets d)
  pub edge_bits : (n : ℕ) → IsEdgeNet d n → signal_width d n ≡ 1
  pub edge_readers : All (λ a. (n : ℕ) → IsEdgeNet d n → ReadsNet n a.value → (m : ℕ) × Copies n m a) d.drivers
  pub clocks : All (λ b. FollowsClass d Clock b.clock.signal) d.blocks
  pub resets : All (λ b. BlockRuns d b b.reset) d.blocks
  pub classes : All (λ i. IsWaitedFor d i.class i.signal) d.inputs
  pub functions : (n : ℕ) (f : Function) → slice_get d.functions n ≡ Some f → IsCallable d.functions n f
  pub order : IsRanked d.drivers ranked
