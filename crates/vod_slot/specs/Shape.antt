-- What each state of a design keeps: a place for each of its parts, and what is left to do in blocks writes registers and words alone.
use Rattle.std.specs.Prelude.{◌≡◌, ℕ, List, length, map, All, Option, None, Some}
use Rattle.vod_design.specs.declared.parts.InitialAssign.{InitialAssign}
use Rattle.vod_design.specs.declared.parts.InitialTarget.{InitialTarget}
use Rattle.vod_design.specs.declared.parts.InitialTarget.TheVariants as initial
use Rattle.vod_design.specs.declared.sized.Variable.TheVariants.{Signal, Local}
use Rattle.vod_design.specs.declared.statement.Part.{Part}
use Rattle.vod_design.specs.declared.statement.Statement.{Statement}
use Rattle.vod_design.specs.declared.statement.Target.{Target}
use Rattle.vod_design.specs.declared.statement.Target.TheVariants.{Bits, Word}
use Rattle.vod_design.specs.Accepted.{WritesState}
use Rattle.vod_design.specs.Netlist.{Netlist, IsRegister}
use Rattle.vod_design.specs.Uses.{Assignment, assignments}
use Rattle.vod_slot.specs.Store.{Store}
use Rattle.vod_slot.specs.State.{Piece, Update, State}

-- how many bits each signal has
abbrev pub sizes : Store → List ℕ
sizes store = map length store.signals

abbrev pub widths : Netlist → List ℕ
widths d = map (λ s. s.width) d.signals

-- an assignment, a statement, a piece of an update and an initial assignment that write registers and words alone
abbrev pub AssignsState : Netlist → Assignment → Type 0
AssignsState d a = All (λ (p : Part). WritesState d p.target) a.parts

abbrev pub StatementWrites : Netlist → Statement → Type 0
StatementWrites d s = All (AssignsState d) (assignments s)

abbrev pub TargetWrites : Netlist → Option Target → Type 0
TargetWrites d None = Unit
TargetWrites d (Some (Bits (Signal n) low)) = IsRegister d n
TargetWrites d (Some (Bits (Local n) low)) = Unit
TargetWrites d (Some (Word memory place)) = Unit

abbrev pub UpdateWrites : Netlist → Update → Type 0
UpdateWrites d u = All (λ (p : Piece). TargetWrites d p.target) u

abbrev pub InitialWrites : Netlist → InitialTarget → Type 0
InitialWrites d (initial.Register n) = IsRegister d n
InitialWrites d (initial.Word memory place) = Unit

abbrev pub AssignsWrite : Netlist → List InitialAssign → Type 0
AssignsWrite d assigns = All (λ (a : InitialAssign). InitialWrites d a.target) assigns

-- what is left of initial items and of blocks
pub record WritesRegisters (d : Netlist) (st : State) : Type 0 where
  pub init : All (AssignsWrite d) st.init
  pub todo : All (All (StatementWrites d)) st.todo
  pub later : All (All (UpdateWrites d)) st.later
  pub now : All (All (UpdateWrites d)) st.now

-- a place for each signal with its bits, and for each memory, input, initial item, driver and block
pub record IsShaped (d : Netlist) (st : State) : Type 0 where
  pub sizes : sizes st.store ≡ widths d
  pub memories : map length st.store.memories ≡ map (λ m. m.words) d.memories
  pub moves : length st.moves ≡ length d.inputs
  pub init : length st.init ≡ length d.initials
  pub wake : length st.wake ≡ length d.drivers
  pub pend : length st.pend ≡ length d.drivers
  pub todo : length st.todo ≡ length d.blocks
  pub later : length st.later ≡ length d.blocks
  pub now : length st.now ≡ length d.blocks
