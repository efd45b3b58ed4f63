-- How instances of modules are read.
use Rattle.std.specs.Prelude.{ℕ, List, [], ◌∷◌, Option, None, Some}
use Rattle.vod_tree.specs.declared.expr.Expr.{Expr}
use Rattle.vod_tree.specs.declared.ident.Ident.{Ident}
use Rattle.vod_tree.specs.declared.instance.Arguments.{Arguments}
use Rattle.vod_tree.specs.declared.instance.Arguments.TheVariants as arguments
use Rattle.vod_tree.specs.declared.instance.Connections.{Connections}
use Rattle.vod_tree.specs.declared.instance.Connections.TheVariants as connections
use Rattle.vod_tree.specs.declared.instance.Instance.{Instance}
use Rattle.vod_tree.specs.declared.instance.Instances.{Instances}
use Rattle.vod_tree.specs.declared.instance.NamedArgument.{NamedArgument}
use Rattle.vod_tree.specs.declared.instance.NamedConnection.{NamedConnection}
use Rattle.vod_grammar.specs.Form.{Form, word_form, name_form, expression_form, give, then, mapped, either, behind, repeated, separated}
use Rattle.vod_grammar.specs.Words.{is_word}
use Rattle.vod_grammar.specs.declared.word.Word.TheVariants as word
use Rattle.vod_instance.specs.Instances.{argument, connection, one_instance, all_instances}

-- a part that `.` begins
abbrev pub dotted : {A : Type 0} → (ℕ → Form A) → Form A
dotted part = then (word_form word.Period) part

-- behind the first `.`: such parts, with `,` between
abbrev pub dotted_behind : {A : Type 0} → (ℕ → Form A) → ℕ → Form (List A)
dotted_behind part place = then (part place) (λ x. repeated (is_word word.Comma) (behind word.Comma (dotted part)) (x ∷ []))

-- such parts, or expressions
abbrev pub by_name_or_order : {A B : Type 0} → (List A → B) → (List Expr → B) → (ℕ → Form A) → Form B
by_name_or_order named ordered part = either word.Period (λ place. mapped named (dotted_behind part place)) (mapped ordered (separated expression_form))

-- behind the `.` of a parameter
abbrev pub argument_behind : ℕ → Form NamedArgument
argument_behind place =
    then name_form (λ name. then (word_form word.OpenParen) (λ _. then expression_form (λ a.
    mapped (λ _. argument place name a) (word_form word.CloseParen))))

abbrev pub argument_form : Form NamedArgument
argument_form = dotted argument_behind

abbrev pub arguments_form : Form Arguments
arguments_form = by_name_or_order arguments.Named arguments.Ordered argument_behind

-- behind `#`
abbrev pub override_behind : Form (Option Arguments)
override_behind = then (word_form word.OpenParen) (λ _. then arguments_form (λ x. mapped (λ _. Some x) (word_form word.CloseParen)))

abbrev pub override_form : Form (Option Arguments)
override_form = either word.Hash (λ _. override_behind) (give None)

-- behind the `.`, the name and the `(` of a connection
abbrev pub connected_to : ℕ → Ident → Form NamedConnection
connected_to place name =
    either word.CloseParen (λ _. give (connection place name None))
    (then expression_form (λ a. mapped (λ _. connection place name (Some a)) (word_form word.CloseParen)))

-- behind the `.` of a connection
abbrev pub connection_behind : ℕ → Form NamedConnection
connection_behind place = then name_form (λ name. then (word_form word.OpenParen) (λ _. connected_to place name))

abbrev pub connection_form : Form NamedConnection
connection_form = dotted connection_behind

-- connections, at least one
abbrev pub some_connections : Form Connections
some_connections = by_name_or_order connections.Named connections.Ordered connection_behind

-- behind `(`: connections or none, and `)`
abbrev pub connections_behind : Form Connections
connections_behind = either word.CloseParen (λ _. give connections.Empty) (then some_connections (λ x. mapped (λ _. x) (word_form word.CloseParen)))

-- behind the name of an instance
abbrev pub instance_behind : Ident → Form Instance
instance_behind name = then (word_form word.OpenParen) (λ _. mapped (λ x. one_instance name x) connections_behind)

abbrev pub instance_form : Form Instance
instance_form = then name_form instance_behind

-- behind the name of the module
abbrev pub instances_behind : Ident → Form Instances
instances_behind name = then override_form (λ x. then (separated instance_form) (λ xs. mapped (λ _. all_instances name x xs) (word_form word.Semicolon)))

abbrev pub instances_form : Form Instances
instances_form = then name_form instances_behind
