-- The inputs of a design are the ports of its module that are inputs.
use Rattle.std.proofs.Common.{◌≡◌, ℕ, suc, ◌+◌, ◌≤◌, List, [], ◌∷◌, ◌++◌, Option, None, Some, length, map, refl, ◌∙◌, ap, arith}
use Rattle.std.specs.List.{flat_map}
use Rattle.vod_thin_design.specs.Netlist.{Netlist}
use Rattle.vod_thin_syntax.specs.Limit.{sooner, limit_of}
use Rattle.vod_thin_syntax.specs.Names.{input_ports}
use Rattle.vod_thin_syntax.specs.Syntax.{Name, Item, Wire, Register, Assign, Always, Port, printed}
use Rattle.vod_thin_syntax.specs.declared.syntax.Direction as d
use Rattle.vod_thin_syntax.specs.declared.syntax.Direction.TheVariants as direction
use Rattle.vod_thin.specs.Rules.{least, faults}
use Rattle.vod_thin.specs.Signals.{Declared, declared_port, declared_by, entries, texts, clocks}
use Rattle.vod_thin.proofs.Brought.{inputs_from}
use Rattle.vod_thin.proofs.read.few_inputs.Goals as goal

-- items declare no input
none_of_items : {V : Type 0} (waited : List (List ℕ)) (k : ℕ) (items : List (Item V)) → inputs_from waited k (entries (flat_map declared_by items)) ≡ []
none_of_items waited k [] = refl
none_of_items waited k (Wire name ∷ items) = none_of_items waited (k + 1) items
none_of_items waited k (Register name initial ∷ items) = none_of_items waited (k + 1) items
none_of_items waited k (Assign target value ∷ items) = none_of_items waited k items
none_of_items waited k (Always clock register value ∷ items) = none_of_items waited k items

one_port : (waited : List (List ℕ)) (k : ℕ) (way : d.Direction) (name : Name) (ports : List Port) (more : List Declared) → length (inputs_from waited (k + 1) (entries (map declared_port ports ++ more))) ≡ length (input_ports ports) →
    length (inputs_from waited k (entries (map declared_port (record { direction = way; name = name } ∷ ports) ++ more))) ≡ length (input_ports (record { direction = way; name = name } ∷ ports))
one_port waited k direction.Input name ports more h = ap suc h
one_port waited k direction.Output name ports more h = h

of_ports : (waited : List (List ℕ)) (k : ℕ) (ports : List Port) (more : List Declared) → ((j : ℕ) → inputs_from waited j (entries more) ≡ []) → length (inputs_from waited k (entries (map declared_port ports ++ more))) ≡ length (input_ports ports)
of_ports waited k [] more none = ap length (none k)
of_ports waited k (port ∷ ports) more none = one_port waited k port.direction port.name ports more (of_ports waited (k + 1) ports more none)

no_limit : (a b : Option ℕ) → sooner a b ≡ None → a ≡ None
no_limit None b e = refl
no_limit (Some p) None e = cc
no_limit (Some p) (Some q) e = cc

pub returns : goal.returns
returns c = λ source d thin.
    let m = thin.tree in
    let none : limit_of source thin.tokens ≡ None = no_limit (limit_of source thin.tokens) (least (faults (printed m))) thin.faultless in
    let few : length (input_ports m.ports) ≤ 256 = c.inputs_are_few.ensures source thin.tokens m thin.reads none in
    let waited = texts (clocks m.items) in
    let many : length d.inputs ≡ length (input_ports m.ports) =
    ap (λ (n : Netlist). length n.inputs) thin.design ∙ of_ports waited 0 m.ports (flat_map declared_by m.items) (λ j. none_of_items waited j m.items) in
    omega arith
