-- The reader of the code: the tokens that are left from the next one on, and what a call answers.
use Rattle.std.specs.Prelude.{◌≡◌, ℕ, List, drop, All, None, Result, Ok, Err}
use Rattle.vod_token.specs.Nesting.{deep_at}
use Rattle.vod_token.specs.Span.{IsTokenOf}
use Rattle.vod_expr.specs.Grammar.{Lexeme, lexemes}
use Rattle.vod_expr.specs.declared.ParseFault.{ParseFault}
use Rattle.vod_expr.specs.declared.ParseFault.TheVariants.{At, End, Statement, Memory}
use Rattle.vod_grammar.specs.Read.{Read, Got, Failed}
use Rattle.vod_grammar.specs.declared.reader.Reader as code_reader

-- its tokens are tokens of its source, and their nesting stays within the limit
abbrev pub IsOfSource : code_reader.Reader → Type 0
IsOfSource r = All (IsTokenOf r.source.now) r.tokens.now × (deep_at r.source.now r.tokens.now ≡ None)

abbrev pub left : code_reader.Reader → ℕ → List Lexeme
left r at = lexemes r.source.now (drop at r.tokens.now)

-- A call read what was to be read, of which this is the value, or failed where that fails; for want of memory nothing is said.
abbrev pub GivesAs : {T A : Type 0} → (T → A) → Result T ParseFault → List Lexeme → Read A → Type 0
GivesAs value (Ok x) rest expected = expected ≡ Got (value x) rest
GivesAs value (Err (At place)) rest expected = expected ≡ Failed (At place)
GivesAs value (Err End) rest expected = expected ≡ Failed End
GivesAs value (Err (Statement place)) rest expected = expected ≡ Failed (Statement place)
GivesAs value (Err Memory) rest expected = Unit {0}

-- the same of what the call returns
abbrev pub Gives : {A : Type 0} → Result A ParseFault → List Lexeme → Read A → Type 0
Gives result rest expected = GivesAs (λ x. x) result rest expected
