-- How gates are read.
use Rattle.std.specs.Prelude.{ℕ, Bool, List, [], ◌∷◌, Option, None, Some}
use Rattle.vod_tree.specs.declared.ident.Ident.{Ident}
use Rattle.vod_tree.specs.declared.instance.Gate.{Gate}
use Rattle.vod_tree.specs.declared.instance.GateKind.{GateKind}
use Rattle.vod_tree.specs.declared.instance.GateKind.TheVariants as kind
use Rattle.vod_tree.specs.declared.instance.GateTerminals.{GateTerminals}
use Rattle.vod_expr.specs.Grammar.{Lexeme}
use Rattle.vod_grammar.specs.Form.{Form, word_form, name_form, expression_form, then, mapped, either, separated}
use Rattle.vod_grammar.specs.declared.word.Word.{Word}
use Rattle.vod_grammar.specs.declared.word.Word.TheVariants as word
use Rattle.vod_instance.specs.Gates.{gate_word, terminals, gates}
use Rattle.vod_instance.specs.WordChoice.{one_of, is_one_of, is_spelled_as}

-- the kinds of gates behind `and`
abbrev pub further_kinds : List GateKind
further_kinds = kind.Nand ∷ kind.Or ∷ kind.Nor ∷ kind.Xor ∷ kind.Xnor ∷ kind.Buf ∷ kind.Not ∷ []

abbrev pub kind_form : Form GateKind
kind_form = one_of gate_word kind.And further_kinds

-- behind `(`: terminals and `)`
abbrev pub terminals_behind : ℕ → Option Ident → Form GateTerminals
terminals_behind place name = then (separated expression_form) (λ xs. mapped (λ _. terminals place name xs) (word_form word.CloseParen))

-- behind a name
abbrev pub named_behind : Ident → Form GateTerminals
named_behind name = then (word_form word.OpenParen) (λ _. terminals_behind name.place (Some name))

abbrev pub named_terminals : Form GateTerminals
named_terminals = then name_form named_behind

-- a name or none, and terminals in parentheses
abbrev pub terminals_form : Form GateTerminals
terminals_form = either word.OpenParen (λ place. terminals_behind place None) named_terminals

-- behind the word of a kind: gates of that kind, and `;`
abbrev pub gates_behind : GateKind → Form Gate
gates_behind k = then (separated terminals_form) (λ xs. mapped (λ _. gates k xs) (word_form word.Semicolon))

abbrev pub gate_form : Form Gate
gate_form = then kind_form gates_behind

-- whether a word is that of a kind
abbrev pub is_gate_word : Word → Bool
is_gate_word w = is_spelled_as gate_word (kind.And ∷ further_kinds) w

-- the first token of gates
abbrev pub starts_gate : Lexeme → Bool
starts_gate t = is_one_of gate_word (kind.And ∷ further_kinds) t
