-- How words, numbers and symbols are spelled.
use Rattle.std.specs.Prelude.{ℕ, List, Option, None, Some, codes, if◌then◌else◌}
use Rattle.std.specs.Str.{bytes_eq}
use Rattle.vod_thin_syntax.specs.declared.words.Word.{Word}
use Rattle.vod_thin_syntax.specs.declared.words.Word.TheVariants.{Module, Input, Output, Wire, Reg, Assign, Always, Posedge, Endmodule, Zero, One, Open, Close, Comma, Semicolon, Equals, And, Xor, Or, Not, Event, Nonblocking}

-- the bytes of a word, number or symbol
abbrev pub spelling : Word → List ℕ
spelling Module = codes "module"
spelling Input = codes "input"
spelling Output = codes "output"
spelling Wire = codes "wire"
spelling Reg = codes "reg"
spelling Assign = codes "assign"
spelling Always = codes "always"
spelling Posedge = codes "posedge"
spelling Endmodule = codes "endmodule"
spelling Zero = codes "0"
spelling One = codes "1"
spelling Open = codes "("
spelling Close = codes ")"
spelling Comma = codes ","
spelling Semicolon = codes ";"
spelling Equals = codes "="
spelling And = codes "&"
spelling Xor = codes "^"
spelling Or = codes "|"
spelling Not = codes "~"
spelling Event = codes "@"
spelling Nonblocking = codes "<="

-- a word with these bytes, or else what comes of the others
abbrev pub if_spelled : List ℕ → Word → Option Word → Option Word
if_spelled text word others = if bytes_eq text (spelling word) then Some word else others

-- the keyword or number with these bytes
unfoldable pub keyword_of : List ℕ → Option Word
keyword_of text =
    if_spelled text Module (if_spelled text Input (if_spelled text Output (if_spelled text Wire (if_spelled text Reg (
    if_spelled text Assign (if_spelled text Always (if_spelled text Posedge (if_spelled text Endmodule (
    if_spelled text Zero (if_spelled text One None))))))))))

-- the symbol with these bytes
unfoldable pub symbol_of : List ℕ → Option Word
symbol_of text =
    if_spelled text Open (if_spelled text Close (if_spelled text Comma (if_spelled text Semicolon (if_spelled text Equals (
    if_spelled text And (if_spelled text Xor (if_spelled text Or (if_spelled text Not (
    if_spelled text Event (if_spelled text Nonblocking None))))))))))

-- the first of two
abbrev pub or_else : Option Word → Option Word → Option Word
or_else (Some word) other = Some word
or_else None other = other

-- the word, number or symbol with these bytes; none is a name
abbrev pub word_of : List ℕ → Option Word
word_of text = or_else (keyword_of text) (symbol_of text)
