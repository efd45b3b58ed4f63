-- How event controls, `always` and continuous assignments are read.
use Rattle.std.specs.Prelude.{ℕ, List, Option, None, Some}
use Rattle.vod_tree.specs.declared.statement.Always.{Always}
use Rattle.vod_tree.specs.declared.statement.Assignment.{Assignment}
use Rattle.vod_tree.specs.declared.statement.Edge.{Edge}
use Rattle.vod_tree.specs.declared.statement.Edge.TheVariants as edge
use Rattle.vod_tree.specs.declared.statement.Event.{Event}
use Rattle.vod_tree.specs.declared.statement.Lval.{Lval}
use Rattle.vod_tree.specs.declared.statement.SecondEvent.{SecondEvent}
use Rattle.vod_tree.specs.declared.statement.Separator.{Separator}
use Rattle.vod_tree.specs.declared.statement.Separator.TheVariants as separator
use Rattle.vod_grammar.specs.Form.{Form, word_form, name_form, expression_form, give, then, mapped, either}
use Rattle.vod_grammar.specs.declared.word.Word.TheVariants as word
use Rattle.vod_statement.specs.LeftSideForm.{lval_form}
use Rattle.vod_statement.specs.StatementForm.{statement_form}
use Rattle.vod_statement.specs.declared.context.Context.TheVariants as context
use Rattle.vod_declaration.specs.PartsForm.{listed}
use Rattle.vod_parse.specs.Processes.{event, second_event, always, assignment}

-- behind an edge: a name
abbrev pub event_behind : ℕ → Edge → Form Event
event_behind at e = mapped (λ n. event at e n) name_form

abbrev pub event_form : Form Event
event_form = either word.Posedge (λ at. event_behind at edge.Posedge) (then (word_form word.Negedge) (λ at. event_behind at edge.Negedge))

-- behind `or` or `,`: an event
abbrev pub second_behind : Separator → Form (Option SecondEvent)
second_behind s = mapped (λ e. Some (second_event s e)) event_form

-- a second event or nothing
abbrev pub second_form : Form (Option SecondEvent)
second_form = either word.Or (λ _. second_behind separator.Or) (either word.Comma (λ _. second_behind separator.Comma) (give None))

-- behind the events: `)` and the statement
abbrev pub always_body : ℕ → ℕ → Event → Option SecondEvent → Form Always
always_body size at e s = then (word_form word.CloseParen) (λ _. mapped (λ body. always at e s body) (statement_form context.Always size 64))

-- behind `always` at this place
abbrev pub always_form : ℕ → ℕ → Form Always
always_form size at =
    then (word_form word.EventControl) (λ _. then (word_form word.OpenParen) (λ _. then event_form (λ e. then second_form (λ s. always_body size at e s))))

-- behind a left side: `=` and a value
abbrev pub value_form : Lval → Form Assignment
value_form target = then (word_form word.Equals) (λ _. mapped (λ value. assignment target value) expression_form)

abbrev pub assignment_form : ℕ → Form Assignment
assignment_form size = then (lval_form size) value_form

-- behind `assign`
abbrev pub assign_form : ℕ → Form (List Assignment)
assign_form size = listed (λ xs. xs) (assignment_form size)
