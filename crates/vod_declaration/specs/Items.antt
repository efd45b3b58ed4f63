-- Declarations as items of a module: which tokens are which tree (IEEE 1364-2005, A.2.1).
use Rattle.std.specs.Prelude.{Bool, List, [], ◌∷◌, ◌++◌, Option}
use Rattle.vod_tree.specs.declared.declaration.NetDeclaration.{NetDeclaration}
use Rattle.vod_tree.specs.declared.declaration.ParameterDeclaration.{ParameterDeclaration}
use Rattle.vod_tree.specs.declared.declaration.Range.{Range}
use Rattle.vod_tree.specs.declared.declaration.RegDeclaration.{RegDeclaration}
use Rattle.vod_tree.specs.declared.declaration.Register.{Register}
use Rattle.vod_tree.specs.declared.declaration.Register.TheVariants as register
use Rattle.vod_tree.specs.declared.declaration.Value.{Value}
use Rattle.vod_tree.specs.declared.declaration.VariableDeclaration.{VariableDeclaration}
use Rattle.vod_tree.specs.declared.ident.Ident.{Ident}
use Rattle.vod_tree.specs.declared.«module».ItemKind.{ItemKind}
use Rattle.vod_tree.specs.declared.«module».ItemKind.TheVariants as kind
use Rattle.vod_expr.specs.Grammar.{Lexeme, IsName, ident_of}
use Rattle.vod_grammar.specs.Words.{Is}
use Rattle.vod_grammar.specs.declared.word.Word.TheVariants as word
use Rattle.vod_declaration.specs.Parameters.{AreParameters}
use Rattle.vod_declaration.specs.Parts.{IsIdent, IsFlag, IsOptional, AreListed}
use Rattle.vod_declaration.specs.Ports.{IsValue}
use Rattle.vod_declaration.specs.Ranges.{IsRange}

abbrev pub nets_of : Bool → Bool → Option Range → List Ident → NetDeclaration
nets_of w s r ns = record { wire = w; signed = s; range = r; names = ns }

abbrev pub variables_of : Bool → Option Range → List Value → VariableDeclaration
variables_of s r xs = record { signed = s; range = r; values = xs }

abbrev pub registers_of : Bool → Option Range → List Register → RegDeclaration
registers_of s r xs = record { signed = s; range = r; registers = xs }

-- [ "wire" ] [ "signed" ] [ range ] NAME { "," NAME } ";"
pub data AreNets : List Lexeme → NetDeclaration → Type 0 where
  nets : {semicolon : Lexeme} {ts us vs ws : List Lexeme} {w s : Bool} {r : Option Range} {ns : List Ident}
      → IsFlag word.Wire ts w → IsFlag word.Signed us s → IsOptional IsRange vs r → AreListed IsIdent ws ns → Is word.Semicolon semicolon
      → AreNets (ts ++ (us ++ (vs ++ (ws ++ semicolon ∷ [])))) (nets_of w s r ns)

-- [ "signed" ] [ range ] value { "," value } ";"
pub data AreVariables : List Lexeme → VariableDeclaration → Type 0 where
  variables : {semicolon : Lexeme} {ts us vs : List Lexeme} {s : Bool} {r : Option Range} {xs : List Value}
      → IsFlag word.Signed ts s → IsOptional IsRange us r → AreListed IsValue vs xs → Is word.Semicolon semicolon
      → AreVariables (ts ++ (us ++ (vs ++ semicolon ∷ []))) (variables_of s r xs)

-- value, or a memory: NAME range (4.9)
pub data IsRegister : List Lexeme → Register → Type 0 where
  value : {ts : List Lexeme} {x : Value} → IsValue ts x → IsRegister ts (register.Value x)
  ram : {t : Lexeme} {ts : List Lexeme} {r : Range} → IsName t → IsRange ts r → IsRegister (t ∷ ts) (register.Ram (ident_of t) r)

-- [ "signed" ] [ range ] register { "," register } ";"
pub data AreRegisters : List Lexeme → RegDeclaration → Type 0 where
  registers : {semicolon : Lexeme} {ts us vs : List Lexeme} {s : Bool} {r : Option Range} {xs : List Register}
      → IsFlag word.Signed ts s → IsOptional IsRange us r → AreListed IsRegister vs xs → Is word.Semicolon semicolon
      → AreRegisters (ts ++ (us ++ (vs ++ semicolon ∷ []))) (registers_of s r xs)

-- an item that declares ports, nets, registers or parameters
pub data IsDeclaration : List Lexeme → ItemKind → Type 0 where
  input : {t : Lexeme} {ts : List Lexeme} {d : NetDeclaration} → Is word.Input t → AreNets ts d → IsDeclaration (t ∷ ts) (kind.Input d)
  output : {t : Lexeme} {ts : List Lexeme} {d : NetDeclaration} → Is word.Output t → AreNets ts d → IsDeclaration (t ∷ ts) (kind.Output d)
  output_reg : {t reg : Lexeme} {ts : List Lexeme} {d : VariableDeclaration} → Is word.Output t → Is word.Reg reg → AreVariables ts d → IsDeclaration (t ∷ reg ∷ ts) (kind.OutputReg d)
  wire : {t : Lexeme} {ts : List Lexeme} {d : VariableDeclaration} → Is word.Wire t → AreVariables ts d → IsDeclaration (t ∷ ts) (kind.Wire d)
  reg : {t : Lexeme} {ts : List Lexeme} {d : RegDeclaration} → Is word.Reg t → AreRegisters ts d → IsDeclaration (t ∷ ts) (kind.Reg d)
  integer : {t semicolon : Lexeme} {ts : List Lexeme} {ns : List Ident} → Is word.Integer t → AreListed IsIdent ts ns → Is word.Semicolon semicolon → IsDeclaration (t ∷ (ts ++ semicolon ∷ [])) (kind.Integer ns)
  parameter : {t : Lexeme} {ts : List Lexeme} {d : ParameterDeclaration} → Is word.Parameter t → AreParameters ts d → IsDeclaration (t ∷ ts) (kind.Parameter d)
  localparam : {t : Lexeme} {ts : List Lexeme} {d : ParameterDeclaration} → Is word.Localparam t → AreParameters ts d → IsDeclaration (t ∷ ts) (kind.Localparam d)
