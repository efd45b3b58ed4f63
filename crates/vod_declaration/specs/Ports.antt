-- Ports: which tokens are which tree (IEEE 1364-2005, A.1.3, A.2.1.2).
use Rattle.std.specs.Prelude.{ℕ, Bool, true, false, List, [], ◌∷◌, ◌++◌, Option, None, Some}
use Rattle.vod_tree.specs.declared.declaration.DeclaredPort.{DeclaredPort}
use Rattle.vod_tree.specs.declared.declaration.DeclaredPort.TheVariants as port
use Rattle.vod_tree.specs.declared.declaration.NetPort.{NetPort}
use Rattle.vod_tree.specs.declared.declaration.Ports.{Ports}
use Rattle.vod_tree.specs.declared.declaration.Ports.TheVariants as list
use Rattle.vod_tree.specs.declared.declaration.Range.{Range}
use Rattle.vod_tree.specs.declared.declaration.RegPort.{RegPort}
use Rattle.vod_tree.specs.declared.declaration.Setting.{Setting}
use Rattle.vod_tree.specs.declared.declaration.Value.{Value}
use Rattle.vod_tree.specs.declared.expr.Expr.{Expr}
use Rattle.vod_tree.specs.declared.ident.Ident.{Ident}
use Rattle.vod_expr.specs.Grammar.{Lexeme, IsExpr, IsName, ident_of}
use Rattle.vod_grammar.specs.Words.{Is}
use Rattle.vod_grammar.specs.declared.word.Word.TheVariants as word
use Rattle.vod_declaration.specs.Parameters.{IsSetting}
use Rattle.vod_declaration.specs.Parts.{IsIdent, IsFlag, IsOptional, AreListed}
use Rattle.vod_declaration.specs.Ranges.{IsRange}

abbrev pub value : Ident → Option Expr → Value
value n a = record { name = n; value = a }

abbrev pub net_port_of : ℕ → Bool → Bool → Option Range → Ident → NetPort
net_port_of at w s r n = record { place = at; wire = w; signed = s; range = r; name = n }

abbrev pub reg_port_of : ℕ → Bool → Option Range → Value → RegPort
reg_port_of at s r v = record { place = at; signed = s; range = r; value = v }

-- NAME [ "=" expr ]
pub data IsValue : List Lexeme → Value → Type 0 where
  plain : {t : Lexeme} → IsName t → IsValue (t ∷ []) (value (ident_of t) None)
  initial : {t equals : Lexeme} {ts : List Lexeme} {a : Expr} → IsName t → Is word.Equals equals → IsExpr 0 ts a → IsValue (t ∷ equals ∷ ts) (value (ident_of t) (Some a))

-- "input" or "output", a net: [ "wire" ] [ "signed" ] [ range ] NAME
pub data IsNetPort : List Lexeme → NetPort → Type 0 where
  net : {t : Lexeme} {ts us vs ws : List Lexeme} {w s : Bool} {r : Option Range} {n : Ident}
      → IsFlag word.Wire ts w → IsFlag word.Signed us s → IsOptional IsRange vs r → IsIdent ws n
      → IsNetPort (t ∷ (ts ++ (us ++ (vs ++ ws)))) (net_port_of t.place w s r n)

-- A port with its direction (A.2.1.2). The flag says whether it is "output" "reg".
pub data IsPort : Bool → List Lexeme → DeclaredPort → Type 0 where
  input : {t : Lexeme} {ts : List Lexeme} {p : NetPort} → Is word.Input t → IsNetPort (t ∷ ts) p → IsPort false (t ∷ ts) (port.Input p)
  output : {t : Lexeme} {ts : List Lexeme} {p : NetPort} → Is word.Output t → IsNetPort (t ∷ ts) p → IsPort false (t ∷ ts) (port.Output p)
  output_reg : {t reg : Lexeme} {ts us vs : List Lexeme} {s : Bool} {r : Option Range} {v : Value}
      → Is word.Output t → Is word.Reg reg → IsFlag word.Signed ts s → IsOptional IsRange us r → IsValue vs v
      → IsPort true (t ∷ reg ∷ (ts ++ (us ++ vs))) (port.OutputReg (reg_port_of t.place s r v))

-- Ports behind others, each behind its ",". The flag says whether the nearest port before them with a direction is "output"
-- "reg": only then a name may have a value (12.3.4).
pub data ArePorts : Bool → List Lexeme → List DeclaredPort → Type 0 where
  no_port : {reg : Bool} → ArePorts reg [] []
  declared : {before reg : Bool} {comma : Lexeme} {ts us : List Lexeme} {p : DeclaredPort} {ps : List DeclaredPort}
      → Is word.Comma comma → IsPort reg ts p → ArePorts reg us ps → ArePorts before (comma ∷ (ts ++ us)) (p ∷ ps)
  further : {reg : Bool} {comma : Lexeme} {ts us : List Lexeme} {n : Ident} {ps : List DeclaredPort}
      → Is word.Comma comma → IsIdent ts n → ArePorts reg us ps → ArePorts reg (comma ∷ (ts ++ us)) (port.Further n ∷ ps)
  further_value : {comma : Lexeme} {ts us : List Lexeme} {s : Setting} {ps : List DeclaredPort}
      → Is word.Comma comma → IsSetting ts s → ArePorts true us ps → ArePorts true (comma ∷ (ts ++ us)) (port.FurtherValue s ∷ ps)

-- What stands behind a module's name and parameters: nothing, "(" ")", names, or ports of which the first has its direction.
pub data IsPortList : List Lexeme → Ports → Type 0 where
  absent : IsPortList [] list.Absent
  empty : {opener closer : Lexeme} → Is word.OpenParen opener → Is word.CloseParen closer → IsPortList (opener ∷ closer ∷ []) list.Empty
  names : {opener closer : Lexeme} {ts : List Lexeme} {ns : List Ident}
      → Is word.OpenParen opener → AreListed IsIdent ts ns → Is word.CloseParen closer → IsPortList (opener ∷ (ts ++ closer ∷ [])) (list.Names ns)
  ports : {opener closer : Lexeme} {ts us : List Lexeme} {reg : Bool} {p : DeclaredPort} {ps : List DeclaredPort}
      → Is word.OpenParen opener → IsPort reg ts p → ArePorts reg us ps → Is word.CloseParen closer
      → IsPortList (opener ∷ ((ts ++ us) ++ closer ∷ [])) (list.Declared (p ∷ ps))
