-- What is stored, with the drivers that await evaluation and the blocks that an edge started; and the writes that change it.
use Rattle.std.specs.Prelude.{◌≡◌, ℕ, Bool, List, [], ◌∷◌, length, map, replicate, true, false, ◌+◌, ◌<◌, ◌≤◌, ◌^◌, Option, None, Some}
use Rattle.vod_design.specs.declared.parts.Block.{Block}
use Rattle.vod_design.specs.declared.sized.Variable.TheVariants.{Signal, Local}
use Rattle.vod_design.specs.declared.statement.Statement.{Statement}
use Rattle.vod_design.specs.declared.statement.Target.{Target}
use Rattle.vod_design.specs.declared.statement.Target.TheVariants.{Bits, Word}
use Rattle.vod_design.specs.Netlist.{Netlist}
use Rattle.vod_slot.specs.Store.{Store, Write, written, changes, feeds_driver}
use Rattle.vod_slot.specs.State.{State, start_of}
use Rattle.vod_slot.specs.Step.{raised, raised_if, starts, begun}
use Rattle.vod_slot.specs.Shape.{sizes, widths}

-- the values; per driver whether it awaits evaluation; per block whether an edge came for it since it last waited (9.7.2)
pub record Stored : Type 0 where
  pub store : Store
  pub wake : List Bool
  pub started : List Bool

-- a design, and what is stored of it
pub record Cells : Type 0 where
  pub design : Netlist
  pub stored : Stored

-- before any step: inputs are z and all else is x, every driver awaits evaluation, and no edge came
abbrev pub stored_first : Netlist → Stored
stored_first d = record { store = (start_of d).store; wake = replicate (length d.drivers) true; started = replicate (length d.blocks) false }

-- a value for each signal and memory word, and a flag for each driver and block
pub record IsStoredOf (d : Netlist) (s : Stored) : Type 0 where
  pub sizes : sizes s.store ≡ widths d
  pub memories : map length s.store.memories ≡ map (λ m. m.words) d.memories
  pub wake : length s.wake ≡ length d.drivers
  pub started : length s.started ≡ length d.blocks

-- a resolved part of so many bits writes what there is: its bits have places, though maybe none in the signal or the memory
abbrev pub TargetIsThere : Netlist → Option Target → ℕ → Type 0
TargetIsThere d None width = Unit
TargetIsThere d (Some (Bits (Signal n) low)) width = (n < length d.signals) × (low + width ≤ 2 ^ 64)
TargetIsThere d (Some (Bits (Local n) low)) width = Unit
TargetIsThere d (Some (Word memory place)) width = memory < length d.memories

-- One write is made. Where it changes something, the drivers that can read it await evaluation; where it is an edge, it has come for
-- each block that names it.
abbrev pub put_in : Netlist → Write → Stored → Stored
put_in d w s = record {
  store = written s.store w;
  wake = raised_if (changes s.store w) (feeds_driver w) d.drivers s.wake;
  started = raised (starts s.store w) d.blocks s.started;
}

-- several are made one after the other, each compared with what stood just before
abbrev pub put_all_in : Netlist → List Write → Stored → Stored
put_all_in d [] s = s
put_all_in d (w ∷ writes) s = put_all_in d writes (put_in d w s)

-- The statements left of each block, where an edge has come for some and these are left of the bodies that were begun: a block of
-- whose body nothing is left has all of it to run where an edge came, and else waits.
abbrev pub todo_of : List Bool → List Block → List (List Statement) → List (List Statement)
todo_of [] blocks bodies = []
todo_of (flag ∷ flags) [] bodies = []
todo_of (flag ∷ flags) (b ∷ blocks) [] = []
todo_of (flag ∷ flags) (b ∷ blocks) (statements ∷ bodies) = begun flag b statements ∷ todo_of flags blocks bodies

-- the state of the event queue with this stored, where these statements are left of the bodies that were begun
abbrev pub state_with : Netlist → Stored → List (List Statement) → State → State
state_with d s bodies st = record st { store = s.store; wake = s.wake; todo = todo_of s.started d.blocks bodies }
