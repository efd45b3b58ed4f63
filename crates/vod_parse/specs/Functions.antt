-- Functions: which tokens are which tree (IEEE 1364-2005, A.2.6).
use Rattle.std.specs.Prelude.{ℕ, Bool, List, [], ◌∷◌, ◌++◌, Option}
use Rattle.vod_tree.specs.declared.declaration.Range.{Range}
use Rattle.vod_tree.specs.declared.ident.Ident.{Ident}
use Rattle.vod_tree.specs.declared.«module».Function.{Function}
use Rattle.vod_tree.specs.declared.«module».FunctionDeclaration.{FunctionDeclaration}
use Rattle.vod_tree.specs.declared.«module».FunctionInput.{FunctionInput}
use Rattle.vod_tree.specs.declared.statement.Statement.{Statement}
use Rattle.vod_expr.specs.Grammar.{Lexeme, IsName, ident_of}
use Rattle.vod_grammar.specs.Words.{Is}
use Rattle.vod_grammar.specs.declared.word.Word.TheVariants as word
use Rattle.vod_statement.specs.Statements.{IsStatement}
use Rattle.vod_statement.specs.declared.context.Context.TheVariants as context
use Rattle.vod_declaration.specs.Functions.{AreInputs, AreFunctionDeclarations}
use Rattle.vod_declaration.specs.Parts.{IsFlag, IsOptional}
use Rattle.vod_declaration.specs.Ranges.{IsRange}

abbrev pub function : ℕ → Bool → Bool → Option Range → Ident → Option (List FunctionInput) → List FunctionDeclaration → Statement → Function
function at a s r n is ds body = record { place = at; automatic = a; signed = s; range = r; name = n; inputs = is; declarations = ds; body = body }

-- Behind "function", which stands at this place: [ "automatic" ] [ "signed" ] [ range ] NAME [ inputs ] ";" { declaration }, a blocking statement and
-- "endfunction".
pub data IsFunction (at : ℕ) : List Lexeme → Function → Type 0 where
  computed : {t semicolon last : Lexeme} {qs ss rs is ds bs : List Lexeme} {a s : Bool} {r : Option Range} {i : Option (List FunctionInput)}
      {d : List FunctionDeclaration} {body : Statement} {open_ended : Bool}
      → IsFlag word.Automatic qs a → IsFlag word.Signed ss s → IsOptional IsRange rs r → IsName t → IsOptional AreInputs is i
      → Is word.Semicolon semicolon → AreFunctionDeclarations ds d → IsStatement context.Function open_ended bs body → Is word.Endfunction last
      → IsFunction at (qs ++ (ss ++ (rs ++ t ∷ (is ++ semicolon ∷ (ds ++ (bs ++ last ∷ [])))))) (function at a s r (ident_of t) i d body)
