-- Where a statement of depth 65 begins: 64 levels below that of an `always`, of a function or of an `initial`.
use Rattle.std.specs.Prelude.{◌≡◌, Bool, true, List, ◌∷◌, ◌++◌, Option}
use Rattle.vod_tree.specs.declared.declaration.ParameterPort.{ParameterPort}
use Rattle.vod_tree.specs.declared.declaration.Ports.{Ports}
use Rattle.vod_tree.specs.declared.declaration.Range.{Range}
use Rattle.vod_tree.specs.declared.«module».FunctionDeclaration.{FunctionDeclaration}
use Rattle.vod_tree.specs.declared.«module».FunctionInput.{FunctionInput}
use Rattle.vod_tree.specs.declared.«module».Item.{Item}
use Rattle.vod_tree.specs.declared.«module».SourceItem.{SourceItem}
use Rattle.vod_tree.specs.declared.statement.Event.{Event}
use Rattle.vod_tree.specs.declared.statement.SecondEvent.{SecondEvent}
use Rattle.vod_expr.specs.Grammar.{Lexeme, IsName}
use Rattle.vod_grammar.specs.Words.{Is}
use Rattle.vod_grammar.specs.declared.word.Word.TheVariants as word
use Rattle.vod_statement.specs.Depth as statements
use Rattle.vod_statement.specs.StatementForm.{starts_statement}
use Rattle.vod_statement.specs.declared.context.Context.TheVariants as context
use Rattle.vod_initial.specs.Depth as initials
use Rattle.vod_initial.specs.InitialForm.{starts_initial}
use Rattle.vod_declaration.specs.Functions.{AreInputs, AreFunctionDeclarations}
use Rattle.vod_declaration.specs.Parts.{IsFlag, IsOptional}
use Rattle.vod_declaration.specs.Ports.{IsPortList}
use Rattle.vod_declaration.specs.Ranges.{IsRange}
use Rattle.vod_parse.specs.Items.{AreItems}
use Rattle.vod_parse.specs.Modules.{AreOverridable, AreParts}
use Rattle.vod_parse.specs.Processes.{IsEvent, IsSecond}

-- behind these tokens of an item
pub data InItem : List Lexeme → Lexeme → Type 0 where
  in_always : {first sign opener closer t : Lexeme} {ts us front : List Lexeme} {e : Event} {s : Option SecondEvent}
      → Is word.Always first → Is word.EventControl sign → Is word.OpenParen opener → IsEvent ts e → IsOptional IsSecond us s → Is word.CloseParen closer
      → statements.Below context.Always 64 front → starts_statement t ≡ true
      → InItem (first ∷ sign ∷ opener ∷ (ts ++ (us ++ closer ∷ front))) t
  in_function : {first semicolon t : Lexeme} (name : Lexeme) {qs ss rs is ds front : List Lexeme} {a s : Bool} {r : Option Range} {i : Option (List FunctionInput)} {d : List FunctionDeclaration}
      → Is word.Function first → IsFlag word.Automatic qs a → IsFlag word.Signed ss s → IsOptional IsRange rs r → IsName name → IsOptional AreInputs is i
      → Is word.Semicolon semicolon → AreFunctionDeclarations ds d
      → statements.Below context.Function 64 front → starts_statement t ≡ true
      → InItem (first ∷ (qs ++ (ss ++ (rs ++ name ∷ (is ++ semicolon ∷ (ds ++ front)))))) t
  in_initial : {first t : Lexeme} {front : List Lexeme} → Is word.Initial first → initials.Below 64 front → starts_initial t ≡ true → InItem (first ∷ front) t

-- behind these tokens of a module
pub data InModule : List Lexeme → Lexeme → Type 0 where
  in_item : {first name semicolon t : Lexeme} {ts us vs front : List Lexeme} {o : Option (List ParameterPort)} {l : Ports} {before : List Item}
      → Is word.Module first → IsName name → IsOptional AreOverridable ts o → IsPortList us l → Is word.Semicolon semicolon → AreItems vs before → InItem front t
      → InModule (first ∷ name ∷ (ts ++ (us ++ semicolon ∷ (vs ++ front)))) t

-- behind these tokens of a source
pub data IsTooDeep : List Lexeme → Lexeme → Type 0 where
  in_module : {ts front : List Lexeme} {t : Lexeme} {before : List SourceItem} → AreParts ts before → InModule front t → IsTooDeep (ts ++ front) t
