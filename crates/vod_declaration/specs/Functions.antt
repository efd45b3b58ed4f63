-- The header and the declarations of a function: which tokens are which tree (IEEE 1364-2005, A.2.6, A.2.7).
use Rattle.std.specs.Prelude.{ℕ, Bool, List, [], ◌∷◌, ◌++◌, Option}
use Rattle.vod_tree.specs.declared.declaration.Range.{Range}
use Rattle.vod_tree.specs.declared.ident.Ident.{Ident}
use Rattle.vod_tree.specs.declared.«module».FunctionDeclaration.{FunctionDeclaration}
use Rattle.vod_tree.specs.declared.«module».FunctionDeclaration.TheVariants as declaration
use Rattle.vod_tree.specs.declared.«module».FunctionInput.{FunctionInput}
use Rattle.vod_tree.specs.declared.«module».FunctionInput.TheVariants as input
use Rattle.vod_tree.specs.declared.«module».FunctionPort.{FunctionPort}
use Rattle.vod_tree.specs.declared.«module».FunctionVariables.{FunctionVariables}
use Rattle.vod_expr.specs.Grammar.{Lexeme}
use Rattle.vod_grammar.specs.Words.{Is}
use Rattle.vod_grammar.specs.declared.word.Word.TheVariants as word
use Rattle.vod_declaration.specs.Parts.{IsIdent, IsFlag, IsOptional, AreFurther, AreListed}
use Rattle.vod_declaration.specs.Ranges.{IsRange}

abbrev pub function_port_of : ℕ → Bool → Option Range → Ident → FunctionPort
function_port_of at s r n = record { place = at; signed = s; range = r; name = n }

abbrev pub function_variables_of : ℕ → Bool → Option Range → List Ident → FunctionVariables
function_variables_of at s r ns = record { place = at; signed = s; range = r; names = ns }

-- "input" [ "signed" ] [ range ] NAME
pub data IsFunctionPort : List Lexeme → FunctionPort → Type 0 where
  port : {t : Lexeme} {ts us vs : List Lexeme} {s : Bool} {r : Option Range} {n : Ident}
      → Is word.Input t → IsFlag word.Signed ts s → IsOptional IsRange us r → IsIdent vs n
      → IsFunctionPort (t ∷ (ts ++ (us ++ vs))) (function_port_of t.place s r n)

-- an input behind others: with its word, or a name
pub data IsInput : List Lexeme → FunctionInput → Type 0 where
  declared : {ts : List Lexeme} {p : FunctionPort} → IsFunctionPort ts p → IsInput ts (input.Port p)
  further : {ts : List Lexeme} {n : Ident} → IsIdent ts n → IsInput ts (input.Further n)

-- "(" input { "," input } ")", where the first has its word
pub data AreInputs : List Lexeme → List FunctionInput → Type 0 where
  header : {opener closer : Lexeme} {ts us : List Lexeme} {p : FunctionPort} {xs : List FunctionInput}
      → Is word.OpenParen opener → IsFunctionPort ts p → AreFurther IsInput us xs → Is word.CloseParen closer
      → AreInputs (opener ∷ (ts ++ (us ++ closer ∷ []))) (input.Port p ∷ xs)

-- Behind "input" or "reg", at the word's place: [ "signed" ] [ range ] NAME { "," NAME } ";"
pub data AreFunctionVariables : List Lexeme → FunctionVariables → Type 0 where
  variables : {t semicolon : Lexeme} {ts us vs : List Lexeme} {s : Bool} {r : Option Range} {ns : List Ident}
      → IsFlag word.Signed ts s → IsOptional IsRange us r → AreListed IsIdent vs ns → Is word.Semicolon semicolon
      → AreFunctionVariables (t ∷ (ts ++ (us ++ (vs ++ semicolon ∷ [])))) (function_variables_of t.place s r ns)

-- inputs or locals
pub data IsFunctionDeclaration : List Lexeme → FunctionDeclaration → Type 0 where
  inputs : {t : Lexeme} {ts : List Lexeme} {d : FunctionVariables} → Is word.Input t → AreFunctionVariables (t ∷ ts) d → IsFunctionDeclaration (t ∷ ts) (declaration.Input d)
  locals : {t : Lexeme} {ts : List Lexeme} {d : FunctionVariables} → Is word.Reg t → AreFunctionVariables (t ∷ ts) d → IsFunctionDeclaration (t ∷ ts) (declaration.Reg d)

-- { declaration }
pub data AreFunctionDeclarations : List Lexeme → List FunctionDeclaration → Type 0 where
  no_more : AreFunctionDeclarations [] []
  one_more : {ts us : List Lexeme} {d : FunctionDeclaration} {ds : List FunctionDeclaration}
      → IsFunctionDeclaration ts d → AreFunctionDeclarations us ds → AreFunctionDeclarations (ts ++ us) (d ∷ ds)
