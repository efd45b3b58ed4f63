-- Parameters: which tokens are which tree (IEEE 1364-2005, A.1.3, A.2.1.1, A.2.4).
use Rattle.std.specs.Prelude.{ℕ, Bool, true, false, List, [], ◌∷◌, ◌++◌, Option}
use Rattle.vod_tree.specs.declared.declaration.ParameterDeclaration.{ParameterDeclaration}
use Rattle.vod_tree.specs.declared.declaration.ParameterPort.{ParameterPort}
use Rattle.vod_tree.specs.declared.declaration.ParameterPort.TheVariants as port
use Rattle.vod_tree.specs.declared.declaration.ParameterType.{ParameterType}
use Rattle.vod_tree.specs.declared.declaration.Range.{Range}
use Rattle.vod_tree.specs.declared.declaration.Setting.{Setting}
use Rattle.vod_tree.specs.declared.declaration.TypedParameter.{TypedParameter}
use Rattle.vod_tree.specs.declared.expr.Expr.{Expr}
use Rattle.vod_tree.specs.declared.ident.Ident.{Ident}
use Rattle.vod_expr.specs.Grammar.{Lexeme, IsExpr, IsName, ident_of}
use Rattle.vod_grammar.specs.Words.{Is}
use Rattle.vod_grammar.specs.declared.word.Word.TheVariants as word
use Rattle.vod_declaration.specs.Parts.{IsOptional, AreFurther, AreListed}
use Rattle.vod_declaration.specs.Ranges.{IsRange}

abbrev pub setting : Ident → Expr → Setting
setting n a = record { name = n; value = a }

-- a type at a place, whether it is signed, and its range
abbrev pub parameter_type : ℕ → Bool → Range → ParameterType
parameter_type at s r = record { place = at; signed = s; range = r }

abbrev pub typed_parameter_of : ℕ → Option ParameterType → Setting → TypedParameter
typed_parameter_of at k s = record { place = at; kind = k; setting = s }

abbrev pub parameters_of : Option ParameterType → List Setting → ParameterDeclaration
parameters_of k ss = record { kind = k; settings = ss }

-- NAME "=" expr
pub data IsSetting : List Lexeme → Setting → Type 0 where
  named : {t equals : Lexeme} {ts : List Lexeme} {a : Expr} → IsName t → Is word.Equals equals → IsExpr 0 ts a → IsSetting (t ∷ equals ∷ ts) (setting (ident_of t) a)

-- [ "signed" ] range, at the place of its first token
pub data IsParameterType : List Lexeme → ParameterType → Type 0 where
  signed_range : {t : Lexeme} {ts : List Lexeme} {r : Range} → Is word.Signed t → IsRange ts r → IsParameterType (t ∷ ts) (parameter_type t.place true r)
  plain_range : {t : Lexeme} {ts : List Lexeme} {r : Range} → IsRange (t ∷ ts) r → IsParameterType (t ∷ ts) (parameter_type t.place false r)

-- "parameter" [ type ] NAME "=" expr
pub data IsTypedParameter : List Lexeme → TypedParameter → Type 0 where
  typed : {t : Lexeme} {ts us : List Lexeme} {k : Option ParameterType} {s : Setting}
      → Is word.Parameter t → IsOptional IsParameterType ts k → IsSetting us s
      → IsTypedParameter (t ∷ (ts ++ us)) (typed_parameter_of t.place k s)

-- a parameter of a module's header behind others: with its word, or NAME "=" expr (12.2)
pub data IsParameterPort : List Lexeme → ParameterPort → Type 0 where
  parameter : {ts : List Lexeme} {p : TypedParameter} → IsTypedParameter ts p → IsParameterPort ts (port.Parameter p)
  further : {ts : List Lexeme} {s : Setting} → IsSetting ts s → IsParameterPort ts (port.Further s)

-- Behind "#": "(" parameter { "," parameter } ")", where the first has its word.
pub data AreParameterPorts : List Lexeme → List ParameterPort → Type 0 where
  header : {opener closer : Lexeme} {ts us : List Lexeme} {p : TypedParameter} {ps : List ParameterPort}
      → Is word.OpenParen opener → IsTypedParameter ts p → AreFurther IsParameterPort us ps → Is word.CloseParen closer
      → AreParameterPorts (opener ∷ (ts ++ (us ++ closer ∷ []))) (port.Parameter p ∷ ps)

-- Behind "parameter" or "localparam" of an item: [ type ] NAME "=" expr { "," NAME "=" expr } ";"
pub data AreParameters : List Lexeme → ParameterDeclaration → Type 0 where
  settings : {semicolon : Lexeme} {ts us : List Lexeme} {k : Option ParameterType} {ss : List Setting}
      → IsOptional IsParameterType ts k → AreListed IsSetting us ss → Is word.Semicolon semicolon
      → AreParameters (ts ++ (us ++ semicolon ∷ [])) (parameters_of k ss)
