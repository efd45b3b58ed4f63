-- The tokens and the module of the code, as those of a sentence.
use Rattle.std.specs.Prelude.{ℕ, List, map, Option, None, Some, slice_range}
use Rattle.vod_token.specs.Nesting.{slice_of}
use Rattle.vod_token.specs.declared.Token.{Token}
use Rattle.vod_thin_syntax.specs.declared.words.Word.{Word}
use Rattle.vod_thin_syntax.specs.declared.syntax.Span as code_span
use Rattle.vod_thin_syntax.specs.declared.syntax.Port as code_port
use Rattle.vod_thin_syntax.specs.declared.syntax.Item as code_item
use Rattle.vod_thin_syntax.specs.declared.syntax.Item.TheVariants as item
use Rattle.vod_thin_syntax.specs.declared.syntax.Module as code_module
use Rattle.vod_thin_syntax.specs.Words.{word_of}
use Rattle.vod_thin_syntax.specs.Syntax.{Name, Mark, Named, Fixed, Item, Wire, Register, Assign, Always, Port, Module}

-- a token that is a name
abbrev pub name_of : List ℕ → Token → Name
name_of source t = record { place = t.start; bytes = slice_of source t }

abbrev pub mark_by : Name → Option Word → Mark
mark_by name None = Named name
mark_by name (Some word) = Fixed word

-- a token, by its bytes in the source
abbrev pub mark_of : List ℕ → Token → Mark
mark_of source t = mark_by (name_of source t) (word_of (slice_of source t))

abbrev pub marks_of : List ℕ → List Token → List Mark
marks_of source ts = map (mark_of source) ts

-- the tokens of a range
abbrev pub marks_in : List ℕ → List Token → code_span.Span → List Mark
marks_in source ts span = marks_of source (slice_range ts span.from span.to)

abbrev pub port_of : List ℕ → code_port.Port → Port
port_of source port = record { direction = port.direction; name = name_of source port.name }

abbrev pub item_of : List ℕ → List Token → code_item.Item → Item (List Mark)
item_of source ts (item.Wire name) = Wire (name_of source name)
item_of source ts (item.Register name initial) = Register (name_of source name) initial
item_of source ts (item.Assign target value) = Assign (name_of source target) (marks_in source ts value)
item_of source ts (item.Always clock register value) = Always (name_of source clock) (name_of source register) (marks_in source ts value)

-- a module of the code, with the tokens of its right sides
abbrev pub module_of : List ℕ → List Token → code_module.Module → Module (List Mark)
module_of source ts m = record { name = name_of source m.name; ports = map (port_of source) m.ports.items; items = map (item_of source ts) m.items.items }
