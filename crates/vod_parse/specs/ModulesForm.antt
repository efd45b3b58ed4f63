-- How modules and sources are read.
use Rattle.std.specs.Prelude.{ℕ, Bool, true, List, [], Option, None, Some}
use Rattle.vod_tree.specs.declared.declaration.ParameterPort.{ParameterPort}
use Rattle.vod_tree.specs.declared.«module».Item.{Item}
use Rattle.vod_tree.specs.declared.«module».Module.{Module}
use Rattle.vod_tree.specs.declared.«module».SourceItem.{SourceItem}
use Rattle.vod_tree.specs.declared.«module».SourceItem.TheVariants as part
use Rattle.vod_tree.specs.declared.«module».Tree.{Tree}
use Rattle.vod_expr.specs.Grammar.{Lexeme}
use Rattle.vod_grammar.specs.Form.{Form, word_form, name_form, give, then, mapped, either, choose, counted, repeated}
use Rattle.vod_grammar.specs.Words.{is_word}
use Rattle.vod_grammar.specs.declared.word.Word.TheVariants as word
use Rattle.vod_declaration.specs.ParametersForm.{parameter_ports}
use Rattle.vod_declaration.specs.PortsForm.{port_list}
use Rattle.vod_directive.specs.DirectiveForm.{directive_form}
use Rattle.vod_parse.specs.ItemsForm.{items_form}
use Rattle.vod_parse.specs.Modules.{module_tree}

-- `#` and parameters, or nothing
abbrev pub header_form : Form (Option (List ParameterPort))
header_form = either word.Hash (λ _. mapped (λ ps. Some ps) parameter_ports) (give None)

-- behind the ports: `;`, items and `endmodule`, as the code reads them
abbrev pub enclosed_items : ℕ → Form (List Item)
enclosed_items size = then (word_form word.Semicolon) (λ _. then (items_form size) (λ xs. mapped (λ _. xs) (word_form word.Endmodule)))

-- behind the ports: `;`, items and `endmodule`; a module by the number of its tokens
abbrev pub body_form : ℕ → (List Item → ℕ → Module) → Form (ℕ → Module)
body_form size build = then (word_form word.Semicolon) (λ _. then (items_form size) (λ xs. mapped (λ _. build xs) (word_form word.Endmodule)))

abbrev pub parts_form : ℕ → Form (ℕ → Module)
parts_form size =
    then (word_form word.Module) (λ at. then name_form (λ n. then header_form (λ ps. then port_list (λ l. body_form size (λ xs count. module_tree at n ps l xs count)))))

abbrev pub module_form : ℕ → Form Module
module_form size = counted (λ count build. build count) (parts_form size)

-- a module where its word comes next, or else a directive
unfoldable pub part_form : ℕ → Form SourceItem
part_form size = choose (is_word word.Module) (mapped (λ x. part.Module x) (module_form size)) (mapped (λ x. part.Directive x) directive_form)

-- each token begins a directive or a module, or nothing does
abbrev pub any : Lexeme → Bool
any t = true

-- up to the end
abbrev pub source_form : ℕ → Form Tree
source_form size = mapped (λ xs. record { items = xs }) (repeated any (part_form size) [])
