-- The names by which a script gives inputs their values.
use Rattle.std.specs.Prelude.{◌≢◌, ℕ, ◌==◌, ◌||◌, Bool, not, List, [], map, All, AllPairs, IsTrue, slice_index_or}
use Rattle.std.specs.List.{list_all}
use Rattle.vod_thin_design.specs.Netlist.{Netlist, input_signals}

-- the names of the inputs, by input number
abbrev pub input_names : Netlist → List (List ℕ)
input_names d = map (λ s. slice_index_or (map (λ signal. signal.name) d.signals) s []) (input_signals d)

-- a name without `=`, space and LF
abbrev pub is_plain : List ℕ → Bool
is_plain name = list_all (λ b. not (b == 61 || b == 32 || b == 10)) name

-- the names of the inputs are plain, and differ
pub record HasPlainNames (d : Netlist) : Type 0 where
  pub plain : All (λ name. IsTrue (is_plain name)) (input_names d)
  pub differ : AllPairs (λ a b. a ≢ b) (input_names d)
