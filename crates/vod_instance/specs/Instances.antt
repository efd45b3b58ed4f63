-- Instances of modules (IEEE 1364-2005, A.4.1): which tokens are which tree.
use Rattle.std.specs.Prelude.{ℕ, List, [], ◌∷◌, ◌++◌, Option, None, Some}
use Rattle.vod_tree.specs.declared.expr.Expr.{Expr}
use Rattle.vod_tree.specs.declared.ident.Ident.{Ident}
use Rattle.vod_tree.specs.declared.instance.Arguments.{Arguments}
use Rattle.vod_tree.specs.declared.instance.Arguments.TheVariants as arguments
use Rattle.vod_tree.specs.declared.instance.Connections.{Connections}
use Rattle.vod_tree.specs.declared.instance.Connections.TheVariants as connections
use Rattle.vod_tree.specs.declared.instance.Instance.{Instance}
use Rattle.vod_tree.specs.declared.instance.Instances.{Instances}
use Rattle.vod_tree.specs.declared.instance.NamedArgument.{NamedArgument}
use Rattle.vod_tree.specs.declared.instance.NamedConnection.{NamedConnection}
use Rattle.vod_expr.specs.Grammar.{Lexeme, IsName, IsExpr, AreExprs, ident_of}
use Rattle.vod_grammar.specs.Words.{Is}
use Rattle.vod_grammar.specs.declared.word.Word.TheVariants as word
use Rattle.vod_instance.specs.Listed.{AreListed}

-- the trees of parts
abbrev pub argument : ℕ → Ident → Expr → NamedArgument
argument place name value = record { place = place; name = name; value = value }

abbrev pub connection : ℕ → Ident → Option Expr → NamedConnection
connection place name value = record { place = place; name = name; value = value }

abbrev pub one_instance : Ident → Connections → Instance
one_instance name x = record { name = name; connections = x }

-- at the place of the module's name, which is the first token
abbrev pub all_instances : Ident → Option Arguments → List Instance → Instances
all_instances name x xs = record { place = name.place; «module» = name; arguments = x; instances = xs }

-- `. NAME ( expr )`
pub data IsArgument : List Lexeme → NamedArgument → Type 0 where
  assigned : {period t opener closer : Lexeme} {ts : List Lexeme} {a : Expr}
      → Is word.Period period → IsName t → Is word.OpenParen opener → IsExpr 0 ts a → Is word.CloseParen closer
      → IsArgument (period ∷ t ∷ opener ∷ (ts ++ closer ∷ [])) (argument period.place (ident_of t) a)

-- parameters by order, or by name
pub data AreArguments : List Lexeme → Arguments → Type 0 where
  by_order : {ts : List Lexeme} {xs : List Expr} → AreExprs ts xs → AreArguments ts (arguments.Ordered xs)
  by_name : {ts : List Lexeme} {xs : List NamedArgument} → AreListed IsArgument ts xs → AreArguments ts (arguments.Named xs)

-- `# ( .. )` with parameters, or nothing
pub data IsOverride : List Lexeme → Option Arguments → Type 0 where
  without : IsOverride [] None
  given : {hash opener closer : Lexeme} {ts : List Lexeme} {x : Arguments}
      → Is word.Hash hash → Is word.OpenParen opener → AreArguments ts x → Is word.CloseParen closer
      → IsOverride (hash ∷ opener ∷ (ts ++ closer ∷ [])) (Some x)

-- `. NAME ( expr )` or `. NAME ( )`
pub data IsConnection : List Lexeme → NamedConnection → Type 0 where
  connected : {period t opener closer : Lexeme} {ts : List Lexeme} {a : Expr}
      → Is word.Period period → IsName t → Is word.OpenParen opener → IsExpr 0 ts a → Is word.CloseParen closer
      → IsConnection (period ∷ t ∷ opener ∷ (ts ++ closer ∷ [])) (connection period.place (ident_of t) (Some a))
  unconnected : {period t opener closer : Lexeme}
      → Is word.Period period → IsName t → Is word.OpenParen opener → Is word.CloseParen closer
      → IsConnection (period ∷ t ∷ opener ∷ closer ∷ []) (connection period.place (ident_of t) None)

-- no connection, or connections by order, or by name
pub data AreConnections : List Lexeme → Connections → Type 0 where
  no_connection : AreConnections [] connections.Empty
  ports_by_order : {ts : List Lexeme} {xs : List Expr} → AreExprs ts xs → AreConnections ts (connections.Ordered xs)
  ports_by_name : {ts : List Lexeme} {xs : List NamedConnection} → AreListed IsConnection ts xs → AreConnections ts (connections.Named xs)

-- `NAME ( .. )` with connections
pub data IsInstance : List Lexeme → Instance → Type 0 where
  of_name : {t opener closer : Lexeme} {ts : List Lexeme} {x : Connections}
      → IsName t → Is word.OpenParen opener → AreConnections ts x → Is word.CloseParen closer
      → IsInstance (t ∷ opener ∷ (ts ++ closer ∷ [])) (one_instance (ident_of t) x)

-- a module's name, parameters or none, instances with `,` between, and `;`
pub data AreInstances : List Lexeme → Instances → Type 0 where
  of_module : {t semicolon : Lexeme} {ts us : List Lexeme} {x : Option Arguments} {xs : List Instance}
      → IsName t → IsOverride ts x → AreListed IsInstance us xs → Is word.Semicolon semicolon
      → AreInstances (t ∷ (ts ++ (us ++ semicolon ∷ []))) (all_instances (ident_of t) x xs)
