-- Event controls, `always` and continuous assignments: which tokens are which tree (IEEE 1364-2005, A.6.1, A.6.2, A.6.5).
use Rattle.std.specs.Prelude.{ℕ, Bool, List, [], ◌∷◌, ◌++◌, Option}
use Rattle.vod_tree.specs.declared.expr.Expr.{Expr}
use Rattle.vod_tree.specs.declared.ident.Ident.{Ident}
use Rattle.vod_tree.specs.declared.statement.Always.{Always}
use Rattle.vod_tree.specs.declared.statement.Assignment.{Assignment}
use Rattle.vod_tree.specs.declared.statement.Edge.{Edge}
use Rattle.vod_tree.specs.declared.statement.Edge.TheVariants as edge
use Rattle.vod_tree.specs.declared.statement.Event.{Event}
use Rattle.vod_tree.specs.declared.statement.Lval.{Lval}
use Rattle.vod_tree.specs.declared.statement.SecondEvent.{SecondEvent}
use Rattle.vod_tree.specs.declared.statement.Separator.{Separator}
use Rattle.vod_tree.specs.declared.statement.Separator.TheVariants as separator
use Rattle.vod_tree.specs.declared.statement.Statement.{Statement}
use Rattle.vod_expr.specs.Grammar.{Lexeme, IsExpr, IsName, ident_of}
use Rattle.vod_grammar.specs.Words.{Is}
use Rattle.vod_grammar.specs.declared.word.Word.{Word}
use Rattle.vod_grammar.specs.declared.word.Word.TheVariants as word
use Rattle.vod_statement.specs.LeftSide.{IsLval}
use Rattle.vod_statement.specs.Statements.{IsStatement}
use Rattle.vod_statement.specs.declared.context.Context.TheVariants as context
use Rattle.vod_declaration.specs.Parts.{IsOptional, AreListed}

-- the trees of parts
abbrev pub event : ℕ → Edge → Ident → Event
event at e n = record { place = at; edge = e; name = n }

abbrev pub second_event : Separator → Event → SecondEvent
second_event s e = record { separator = s; event = e }

abbrev pub always : ℕ → Event → Option SecondEvent → Statement → Always
always at e s body = record { place = at; event = e; second = s; body = body }

abbrev pub assignment : Lval → Expr → Assignment
assignment target value = record { target = target; value = value }

-- the word of an edge
abbrev pub edge_word : Edge → Word
edge_word edge.Posedge = word.Posedge
edge_word edge.Negedge = word.Negedge

-- the word of a separator
abbrev pub separator_word : Separator → Word
separator_word separator.Or = word.Or
separator_word separator.Comma = word.Comma

-- ( "posedge" | "negedge" ) NAME
pub data IsEvent : List Lexeme → Event → Type 0 where
  on_edge : {t u : Lexeme} {e : Edge} → Is (edge_word e) t → IsName u → IsEvent (t ∷ u ∷ []) (event t.place e (ident_of u))

-- ( "or" | "," ) event
pub data IsSecond : List Lexeme → SecondEvent → Type 0 where
  second : {t : Lexeme} {ts : List Lexeme} {s : Separator} {e : Event} → Is (separator_word s) t → IsEvent ts e → IsSecond (t ∷ ts) (second_event s e)

-- Behind "always", which stands at this place: "@" "(" event [ ( "or" | "," ) event ] ")" and a clocked statement.
pub data IsAlways (at : ℕ) : List Lexeme → Always → Type 0 where
  controlled : {sign opener closer : Lexeme} {ts us vs : List Lexeme} {e : Event} {s : Option SecondEvent} {body : Statement} {open_ended : Bool}
      → Is word.EventControl sign → Is word.OpenParen opener → IsEvent ts e → IsOptional IsSecond us s → Is word.CloseParen closer
      → IsStatement context.Always open_ended vs body
      → IsAlways at (sign ∷ opener ∷ (ts ++ (us ++ closer ∷ vs))) (always at e s body)

-- lval "=" expr
pub data IsAssignment : List Lexeme → Assignment → Type 0 where
  driven : {equals : Lexeme} {ts us : List Lexeme} {target : Lval} {value : Expr}
      → IsLval ts target → Is word.Equals equals → IsExpr 0 us value → IsAssignment (ts ++ equals ∷ us) (assignment target value)

-- Behind "assign": lval "=" expr { "," lval "=" expr } ";"
pub data AreAssignments : List Lexeme → List Assignment → Type 0 where
  assignments : {semicolon : Lexeme} {ts : List Lexeme} {xs : List Assignment}
      → AreListed IsAssignment ts xs → Is word.Semicolon semicolon → AreAssignments (ts ++ semicolon ∷ []) xs
