-- How words and symbols are spelled.
use Rattle.std.specs.Prelude.{◌≡◌, ℕ, ◌==◌, Bool, true, false, ◌&&◌, not, List, codes}
use Rattle.std.specs.Str.{bytes_eq}
use Rattle.vod_token.specs.declared.TokenKind.{TokenKind}
use Rattle.vod_token.specs.declared.TokenKind.TheVariants as kinds
use Rattle.vod_expr.specs.Grammar.{Lexeme}
use Rattle.vod_grammar.specs.declared.word.Word.{Word}
use Rattle.vod_grammar.specs.declared.word.Word.TheVariants as word

-- the bytes of a word or symbol
abbrev pub spelling : Word → List ℕ
spelling word.Always = codes "always"
spelling word.And = codes "and"
spelling word.Assign = codes "assign"
spelling word.Automatic = codes "automatic"
spelling word.Begin = codes "begin"
spelling word.Buf = codes "buf"
spelling word.Case = codes "case"
spelling word.Default = codes "default"
spelling word.Else = codes "else"
spelling word.End = codes "end"
spelling word.Endcase = codes "endcase"
spelling word.Endfunction = codes "endfunction"
spelling word.Endmodule = codes "endmodule"
spelling word.For = codes "for"
spelling word.Function = codes "function"
spelling word.If = codes "if"
spelling word.Initial = codes "initial"
spelling word.Input = codes "input"
spelling word.Integer = codes "integer"
spelling word.Localparam = codes "localparam"
spelling word.Module = codes "module"
spelling word.Nand = codes "nand"
spelling word.Negedge = codes "negedge"
spelling word.Nor = codes "nor"
spelling word.Not = codes "not"
spelling word.Or = codes "or"
spelling word.Output = codes "output"
spelling word.Parameter = codes "parameter"
spelling word.Posedge = codes "posedge"
spelling word.Reg = codes "reg"
spelling word.Signed = codes "signed"
spelling word.Wire = codes "wire"
spelling word.Xnor = codes "xnor"
spelling word.Xor = codes "xor"
spelling word.Hash = codes "#"
spelling word.EventControl = codes "@"
spelling word.OpenParen = codes "("
spelling word.CloseParen = codes ")"
spelling word.OpenBracket = codes "["
spelling word.CloseBracket = codes "]"
spelling word.OpenBrace = codes "{"
spelling word.CloseBrace = codes "}"
spelling word.Comma = codes ","
spelling word.Semicolon = codes ";"
spelling word.Period = codes "."
spelling word.Colon = codes ":"
spelling word.Equals = codes "="
spelling word.Less = codes "<"
spelling word.LessEqual = codes "<="
spelling word.Plus = codes "+"

-- it is a symbol, or else a reserved word
abbrev pub is_symbol : Word → Bool
is_symbol word.Hash = true
is_symbol word.EventControl = true
is_symbol word.OpenParen = true
is_symbol word.CloseParen = true
is_symbol word.OpenBracket = true
is_symbol word.CloseBracket = true
is_symbol word.OpenBrace = true
is_symbol word.CloseBrace = true
is_symbol word.Comma = true
is_symbol word.Semicolon = true
is_symbol word.Period = true
is_symbol word.Colon = true
is_symbol word.Equals = true
is_symbol word.Less = true
is_symbol word.LessEqual = true
is_symbol word.Plus = true
is_symbol _ = false

abbrev pub kind_by : Bool → TokenKind
kind_by true = kinds.Symbol
kind_by false = kinds.Reserved

abbrev pub kind_of : Word → TokenKind
kind_of w = kind_by (is_symbol w)

-- the token is this word
pub record Is (w : Word) (t : Lexeme) : Type 0 where
  pub kind : t.kind ≡ kind_of w
  pub text : t.text ≡ spelling w

-- The same as a test. The number of a kind, by which kinds are told apart.
abbrev pub number_of : TokenKind → ℕ
number_of kinds.Name = 0
number_of kinds.Reserved = 1
number_of kinds.Number = 2
number_of kinds.Directive = 3
number_of kinds.Symbol = 4

abbrev pub same_kind : TokenKind → TokenKind → Bool
same_kind a b = number_of a == number_of b

unfoldable pub is_text_of : Word → TokenKind → List ℕ → Bool
is_text_of w kind text = same_kind kind (kind_of w) && bytes_eq text (spelling w)

abbrev pub is_word : Word → Lexeme → Bool
is_word w t = is_text_of w t.kind t.text

abbrev pub is_other : Word → Lexeme → Bool
is_other w t = not (is_word w t)

-- two words, by how they are spelled
abbrev pub are_same : Word → Word → Bool
are_same v w = same_kind (kind_of w) (kind_of v) && bytes_eq (spelling w) (spelling v)
