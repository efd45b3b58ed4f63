-- Of which part of a list a part has the kind, sign and range (IEEE 1364-2005, 10.4.1, 12.2, 12.3.4).
use Rattle.std.specs.Prelude.{ℕ, suc, Bool, true, false, if◌then◌else◌, List, [], ◌∷◌}
use Rattle.vod_tree.specs.declared.declaration.DeclaredPort.{DeclaredPort}
use Rattle.vod_tree.specs.declared.declaration.DeclaredPort.TheVariants as port
use Rattle.vod_tree.specs.declared.declaration.ParameterPort.{ParameterPort}
use Rattle.vod_tree.specs.declared.declaration.ParameterPort.TheVariants as parameter
use Rattle.vod_tree.specs.declared.«module».FunctionInput.{FunctionInput}
use Rattle.vod_tree.specs.declared.«module».FunctionInput.TheVariants as input

-- a port with its direction has its own; a further name, with a value or without one, has that of the port before it
abbrev pub port_has_own : DeclaredPort → Bool
port_has_own (port.Input p) = true
port_has_own (port.Output p) = true
port_has_own (port.OutputReg p) = true
port_has_own (port.Further n) = false
port_has_own (port.FurtherValue s) = false

-- a parameter with its word has its own, if it is that it has no type; one without has that of the parameter before it
abbrev pub parameter_has_own : ParameterPort → Bool
parameter_has_own (parameter.Parameter p) = true
parameter_has_own (parameter.Further s) = false

-- an input with its word has its own; a further name has that of the input before it
abbrev pub input_has_own : FunctionInput → Bool
input_has_own (input.Port p) = true
input_has_own (input.Further n) = false

-- the number of the part whose kind a part has: its own number, or that of the part before it
abbrev pub number_of : Bool → ℕ → ℕ → ℕ
number_of own here before = if own then here else before

-- the same of each part, from the number of the first and that of the part before it on
abbrev pub numbers_from : {A : Type 0} → (A → Bool) → ℕ → ℕ → List A → List ℕ
numbers_from own here before [] = []
numbers_from own here before (x ∷ xs) = number_of (own x) here before ∷ numbers_from own (suc here) (number_of (own x) here before) xs

-- the same of each part of a list, whose first part has its own
abbrev pub numbers_of : {A : Type 0} → (A → Bool) → List A → List ℕ
numbers_of own xs = numbers_from own 0 0 xs
