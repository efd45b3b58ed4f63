-- A design in which nothing is driven and nothing waits: each net is an input, and each register begins with 0.
use Rattle.std.specs.Prelude.{ℕ, ◌+◌, ◌≤◌, ◌<◌, suc, min, max, Bool, true, false, List, [], ◌∷◌, ◌++◌, length, map, All}
use Rattle.vod_bits.specs.Value.{bits_of}
use Rattle.vod_bits.specs.declared.TheConstants.{WIDTH}
use Rattle.vod_design.specs.declared.parts.Initial.{Initial}
use Rattle.vod_design.specs.declared.parts.InitialTarget.TheVariants as target
use Rattle.vod_design.specs.declared.parts.Input.{Input}
use Rattle.vod_design.specs.declared.parts.Precision.{Precision}
use Rattle.vod_design.specs.declared.parts.Scope.{Scope}
use Rattle.vod_design.specs.declared.parts.Signal.{Signal}
use Rattle.vod_design.specs.declared.vector.Class.TheVariants as class
use Rattle.vod_design.specs.Draft.{parts}
use Rattle.vod_design.specs.Flat.{ParentFits}
use Rattle.vod_design.specs.Netlist.{Netlist, width_in}

-- whether two are both true or both false
abbrev pub alike : Bool → Bool → Bool
alike true b = b
alike false true = false
alike false false = true

-- a number where a test holds
abbrev pub if_it : Bool → ℕ → List ℕ
if_it true n = n ∷ []
if_it false n = []

-- the numbers, from n on, of those of these signals that are registers, or that aren't
abbrev pub numbers : Bool → ℕ → List Signal → List ℕ
numbers registers n [] = []
numbers registers n (s ∷ ss) = if_it (alike registers s.register) n ++ numbers registers (suc n) ss

abbrev pub input_of : ℕ → Input
input_of n = record { signal = n; class = class.Data }

-- a width that is at least 1 and at most WIDTH
abbrev pub clamped : ℕ → ℕ
clamped width = min WIDTH (max 1 width)

abbrev pub initial_of : List Signal → ℕ → Initial
initial_of ss n = record { assigns = record { target = target.Register n; value = bits_of (clamped (width_in ss n)) 0 } ∷ [] }

-- the design of these signals and instances
abbrev pub idle : List Signal → List Scope → Precision → Netlist
idle signals scopes precision = parts signals (map input_of (numbers false 0 signals)) [] [] [] (map (initial_of signals) (numbers true 0 signals)) scopes [] precision

-- a signal of one of so many instances
pub record SignalIsFine (scopes : ℕ) (s : Signal) : Type 0 where
  pub instance : s.scope < scopes
  pub some : 1 ≤ s.width
  pub few : s.width ≤ WIDTH
  pub range : s.lsb + s.width ≤ 65536

-- the parents of instances, from the n-th on
abbrev pub ParentsFit : ℕ → List Scope → Type 0
ParentsFit n [] = Unit
ParentsFit n (s ∷ ss) = ParentFits n s.parent × ParentsFit (suc n) ss

-- parts of which a design can be made
pub record IsFine (ss : List Signal) (instances : List Scope) : Type 0 where
  pub top : 1 ≤ length instances
  pub few_scopes : length instances ≤ 4096
  pub few_signals : length ss ≤ 16384
  pub signals : All (SignalIsFine (length instances)) ss
  pub parents : ParentsFit 0 instances
