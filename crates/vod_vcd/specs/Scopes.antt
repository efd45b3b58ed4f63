-- How the scopes of a header are written one after another, and what is still to be written.
use Rattle.std.specs.Prelude.{◌≡◌, ℕ, ◌<◌, List, [], ◌∷◌, ◌++◌, length, Option, None, Some, slice_get}
use Rattle.std.specs.List.{enumerate_from, flat_map}
use Rattle.vod_design.specs.declared.parts.Scope.{Scope}
use Rattle.vod_design.specs.declared.parts.Signal.{Signal}
use Rattle.vod_design.specs.Netlist.{Netlist}
use Rattle.vod_fanout.specs.declared.Feed.{Feed}
use Rattle.vod_fanout.specs.FanOut.{fan_out}
use Rattle.vod_vcd.specs.declared.scopes.Members.{Members}
use Rattle.vod_vcd.specs.declared.scopes.Step.{Step}
use Rattle.vod_vcd.specs.declared.scopes.Step.TheVariants.{Enter, Leave}
use Rattle.vod_vcd.specs.Header.{scope_text, upscope_line, var_line}

-- a feed
abbrev pub feed : ℕ → ℕ → Feed
feed source reader = record { source = source; reader = reader }

-- each signal as a reader of its instance, and each instance as one of its parent
abbrev pub signal_feeds : List (ℕ × Signal) → List Feed
signal_feeds es = flat_map (λ e. feed e.1.scope e.0 ∷ []) es

abbrev pub child_feed : ℕ → Option ℕ → List Feed
child_feed n None = []
child_feed n (Some parent) = feed parent n ∷ []

abbrev pub child_feeds : List (ℕ × Scope) → List Feed
child_feeds es = flat_map (λ e. child_feed e.0 e.1.parent) es

-- the line of the signal of a number
abbrev pub var_line_of : ℕ → Option Signal → List ℕ
var_line_of n None = []
var_line_of n (Some signal) = var_line n signal

abbrev pub var_line_at : List Signal → ℕ → List ℕ
var_line_at signals n = var_line_of n (slice_get signals n)

-- the table of all instances' signals and children
pub record AreMembers (d : Netlist) (m : Members) : Type 0 where
  pub signals : m.signals ≡ fan_out (length d.scopes) (signal_feeds (enumerate_from 0 d.signals))
  pub children : m.children ≡ fan_out (length d.scopes) (child_feeds (enumerate_from 0 d.scopes))

-- what a step writes: an instance with all within it, or the end of one
abbrev pub step_text : Netlist → Step → List ℕ
step_text d (Enter n) = scope_text d (length d.scopes) n
step_text d Leave = upscope_line

-- what some steps write, the last of them first
abbrev pub steps_text : Netlist → List Step → List ℕ
steps_text d [] = []
steps_text d (step ∷ steps) = steps_text d steps ++ step_text d step

-- a step of an instance that there is
abbrev pub StepFits : Netlist → Step → Type 0
StepFits d (Enter n) = n < length d.scopes
StepFits d Leave = Unit
