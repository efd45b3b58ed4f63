-- The nets that clocks and resets run through.
use Rattle.std.specs.Prelude.{◌≡◌, ◌≢◌, ℕ, ◌+◌, ◌<◌, ◌≤◌, true, false, [], ◌∷◌}
use Rattle.std.specs.List.{Contains, Any}
use Rattle.vod_design.specs.declared.parts.Driver.{Driver}
use Rattle.vod_design.specs.declared.parts.Edge.{Edge}
use Rattle.vod_design.specs.declared.parts.Input.{Input}
use Rattle.vod_design.specs.declared.read.Read.{Read}
use Rattle.vod_design.specs.declared.read.Read.TheVariants.{Whole, Bits, Word, Ram}
use Rattle.vod_design.specs.declared.sized.Named.TheVariants as named
use Rattle.vod_design.specs.declared.sized.SizedExpr.{SizedExpr}
use Rattle.vod_design.specs.declared.sized.SizedKind.{SizedKind}
use Rattle.vod_design.specs.declared.sized.SizedKind.TheOpen.{SizedKind-F}
use Rattle.vod_design.specs.declared.sized.SizedKind.TheViews.{roll-SizedKind}
use Rattle.vod_design.specs.declared.sized.UnaryOp.TheVariants as unary
use Rattle.vod_design.specs.declared.sized.Variable.TheVariants as variable
use Rattle.vod_design.specs.declared.statement.Place.{Place}
use Rattle.vod_design.specs.declared.statement.Statement.{Statement}
use Rattle.vod_design.specs.declared.statement.Statement.TheOpen.{Statement-F}
use Rattle.vod_design.specs.declared.statement.Statement.TheViews.{roll-Statement}
use Rattle.vod_design.specs.declared.vector.Class.{Class}
use Rattle.vod_design.specs.declared.vector.Class.TheVariants.{Data}
use Rattle.vod_design.specs.Netlist.{Netlist}
use Rattle.vod_design.specs.Reads.{reads}
use Rattle.vod_design.specs.Values.{bounded}

-- that an expression reads some of a signal
abbrev pub Touches : ℕ → Read → Type 0
Touches n (Whole m) = m ≡ n
Touches n (Bits m low width) = m ≡ n
Touches n (Word memory place) = ⊥
Touches n (Ram memory) = ⊥

abbrev pub ReadsNet : ℕ → SizedExpr → Type 0
ReadsNet n e = Any (Touches n) (reads e)

-- an expression that is the whole of a signal of one bit
abbrev pub name_of : ℕ → SizedKind
name_of n = roll-SizedKind (SizedKind-F.Name (named.Variable (variable.Signal n)))

pub record IsBit (n : ℕ) (e : SizedExpr) : Type 0 where
  pub kind : e.kind ≡ name_of n
  pub width : e.width ≡ 1

-- a driver that makes one net of one bit follow another, as a port's plain connection does (12.3.9)
pub record Copies (from to : ℕ) (a : Driver) : Type 0 where
  pub target : (b : Place) → Contains a.target b → b.signal ≡ to
  pub value : IsBit from a.value

-- a net follows another: it is that net, or a driver copies to it one that follows
pub data Follows (d : Netlist) (root : ℕ) : ℕ → Type 0 where
  itself : Follows d root root
  copied : {from to : ℕ} {a : Driver} → Contains d.drivers a → Copies from to a → Follows d root from → Follows d root to

-- a net follows an input of a class
pub record FollowsClass (d : Netlist) (class : Class) (n : ℕ) : Type 0 where
  pub input : Input
  pub stands : Contains d.inputs input
  pub class_is : input.class ≡ class
  pub follows : Follows d input.signal n

-- an edge net: one that follows a clock or a reset
pub record IsEdgeNet (d : Netlist) (n : ℕ) : Type 0 where
  pub input : Input
  pub stands : Contains d.inputs input
  pub edge : input.class ≢ Data
  pub follows : Follows d input.signal n

-- the test for a reset's edge: the net where it rises, `!` or `~` of it where it falls
pub data Tests : Edge → SizedExpr → Type 0 where
  rises : {n : ℕ} {e : SizedExpr} → IsBit n e → Tests (record { signal = n; rising = true }) e
  lacks : {n : ℕ} {e net : SizedExpr} → e.kind ≡ roll-SizedKind (SizedKind-F.LogicalNot net) → IsBit n net → Tests (record { signal = n; rising = false }) e
  inverts : {n : ℕ} {e net : SizedExpr} → e.width ≡ 1 → e.kind ≡ roll-SizedKind (SizedKind-F.Unary unary.Not net) → IsBit n net → Tests (record { signal = n; rising = false }) e

-- a body that tests a reset first, with what it does then and else, under any `begin` of one statement
pub data Resets (reset : Edge) (taken other : Statement) : Statement → Type 0 where
  tests : {test : SizedExpr} → Tests reset test → Resets reset taken other (roll-Statement (Statement-F.If test taken other))
  begins : {s : Statement} → Resets reset taken other s → Resets reset taken other (roll-Statement (Statement-F.Begin (s ∷ [])))
