-- How items of modules are read.
use Rattle.std.specs.Prelude.{ℕ, List, []}
use Rattle.vod_tree.specs.declared.«module».Item.{Item}
use Rattle.vod_tree.specs.declared.«module».ItemKind.{ItemKind}
use Rattle.vod_tree.specs.declared.«module».ItemKind.TheVariants as kind
use Rattle.vod_grammar.specs.Form.{Form, mapped, placed, either, choose, repeated}
use Rattle.vod_grammar.specs.Words.{is_other}
use Rattle.vod_grammar.specs.declared.word.Word.TheVariants as word
use Rattle.vod_declaration.specs.ItemsForm.{declaration_form, starts_declaration}
use Rattle.vod_initial.specs.InitialForm.{initial_form}
use Rattle.vod_instance.specs.GatesForm.{gate_form, starts_gate}
use Rattle.vod_instance.specs.InstancesForm.{instances_form}
use Rattle.vod_parse.specs.FunctionsForm.{function_form}
use Rattle.vod_parse.specs.Items.{item}
use Rattle.vod_parse.specs.ProcessesForm.{always_form, assign_form}

-- `initial` or `always`, or else instances
abbrev pub process_form : ℕ → Form ItemKind
process_form size =
    either word.Initial (λ _. mapped (λ x. kind.Initial x) (initial_form 64)) (either word.Always (λ at. mapped (λ x. kind.Always x) (always_form size at))
    (mapped (λ x. kind.Instances x) instances_form))

-- continuous assignments or a function, or else those
abbrev pub behavior_form : ℕ → Form ItemKind
behavior_form size =
    either word.Assign (λ _. mapped (λ xs. kind.Assign xs) (assign_form size)) (either word.Function (λ at. mapped (λ x. kind.Function x) (function_form size at))
    (process_form size))

-- gates, or what isn't
abbrev pub gate_or : Form ItemKind → Form ItemKind
gate_or other = choose starts_gate (mapped (λ x. kind.Gate x) gate_form) other

abbrev pub kind_form : ℕ → Form ItemKind
kind_form size = choose starts_declaration declaration_form (gate_or (behavior_form size))

unfoldable pub item_form : ℕ → Form Item
item_form size = placed item (kind_form size)

-- items up to `endmodule`
abbrev pub items_form : ℕ → Form (List Item)
items_form size = repeated (is_other word.Endmodule) (item_form size) []
