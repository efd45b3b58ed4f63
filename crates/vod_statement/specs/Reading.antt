-- The forms of the left sides and statements of a source: no more `{` are nested than it has tokens.
use Rattle.std.specs.Prelude.{ℕ, length}
use Rattle.vod_tree.specs.declared.statement.Lval.{Lval}
use Rattle.vod_tree.specs.declared.statement.Statement.{Statement}
use Rattle.vod_grammar.specs.Form.{Form}
use Rattle.vod_grammar.specs.declared.reader.Reader as code_reader
use Rattle.vod_statement.specs.LeftSideForm.{lval_form}
use Rattle.vod_statement.specs.StatementForm.{statement_form}
use Rattle.vod_statement.specs.declared.context.Context.{Context}

abbrev pub lval_in : code_reader.Reader → Form Lval
lval_in r = lval_form (length r.tokens.now)

-- in which no more than so many levels of statements stand
abbrev pub statement_in : code_reader.Reader → Context → ℕ → Form Statement
statement_in r c n = statement_form c (length r.tokens.now) n
