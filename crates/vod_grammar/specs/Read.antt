-- Phrases read from the front of some tokens.
use Rattle.std.specs.Prelude.{ℕ, zero, suc, ◌-◌, Bool, true, false, List, [], ◌∷◌, ◌++◌, length, drop, Option, None, Some, Result, Ok, Err, if◌then◌else◌}
use Rattle.vod_token.specs.declared.TokenKind.TheVariants as kinds
use Rattle.vod_tree.specs.declared.expr.Expr.{Expr}
use Rattle.vod_tree.specs.declared.ident.Ident.{Ident}
use Rattle.vod_tree.specs.declared.ident.Number.{Number}
use Rattle.vod_expr.specs.Answer.{fault_at, expr_read}
use Rattle.vod_expr.specs.Grammar.{Lexeme, ident_of}
use Rattle.vod_expr_machine.specs.Numerals.{number_of}
use Rattle.vod_expr.specs.declared.ParseFault.{ParseFault}
use Rattle.vod_grammar.specs.Words.{same_kind, is_word}
use Rattle.vod_grammar.specs.declared.word.Word.{Word}
use Rattle.vod_grammar.specs.declared.word.Word.TheVariants as word

-- what was read and the tokens behind it, or why nothing was
pub data Read (A : Type 0) : Type 0 where
  Got : A → List Lexeme → Read A
  Failed : ParseFault → Read A

abbrev pub Reading : Type 0 → Type 0
Reading A = List Lexeme → Read A

abbrev pub followed : {A B : Type 0} → Read A → (A → Reading B) → Read B
followed (Got x rest) next = next x rest
followed (Failed fault) next = Failed fault

-- one phrase, and behind it another
abbrev pub bind : {A B : Type 0} → Reading A → (A → Reading B) → Reading B
bind read next ts = followed (read ts) next

-- no token is read
abbrev pub give : {A : Type 0} → A → Reading A
give x ts = Got x ts

-- the fault at the first token, or at the end
abbrev pub refuse : {A : Type 0} → Reading A
refuse ts = Failed (fault_at ts)

-- the first of some tokens, or else what stands behind them
abbrev pub first : List Lexeme → Option Lexeme → Option Lexeme
first [] behind = behind
first (t ∷ ts) behind = Some t

-- a test of the token that comes next; none passes at the end
abbrev pub passes : (Lexeme → Bool) → Option Lexeme → Bool
passes test None = false
passes test (Some t) = test t

abbrev pub is_next : Word → List Lexeme → Bool
is_next w ts = passes (is_word w) (first ts None)

abbrev pub rest_of : List Lexeme → List Lexeme
rest_of [] = []
rest_of (t ∷ ts) = ts

-- the place of the first token
abbrev pub place_of : List Lexeme → ℕ
place_of [] = 0
place_of (t ∷ ts) = t.place

-- a value that hangs on the place of the first token too
abbrev pub placed : {A B : Type 0} → (ℕ → A → B) → Reading A → Reading B
placed change read ts = followed (read ts) (λ x. give (change (place_of ts) x))

-- a value that hangs on how many tokens are read too
abbrev pub counted : {A B : Type 0} → (ℕ → A → B) → Reading A → Reading B
counted change read ts = followed (read ts) (λ x rest. Got (change (length ts - length rest) x) rest)

-- what a word begins, which gets its place, or else another phrase
abbrev pub either : {A : Type 0} → Word → (ℕ → Reading A) → Reading A → Reading A
either w read other ts = if is_next w ts then read (place_of ts) (rest_of ts) else other ts

-- the one phrase where the next token passes a test, which stays, or else the other
abbrev pub choose : {A : Type 0} → (Lexeme → Bool) → Reading A → Reading A → Reading A
choose test read other ts = if passes test (first ts None) then read ts else other ts

-- a word, as its place
abbrev pub word_read : Word → Reading ℕ
word_read w = either w give refuse

abbrev pub name_read : Reading Ident
name_read [] = refuse []
name_read (t ∷ ts) = if same_kind t.kind kinds.Name then Got (ident_of t) ts else refuse (t ∷ ts)

abbrev pub number_read : Reading Number
number_read [] = refuse []
number_read (t ∷ ts) = if same_kind t.kind kinds.Number then Got (number_of t) ts else refuse (t ∷ ts)

-- the tree of an expression and the tokens behind as many as it has
abbrev pub tree_read : Result (Expr × ℕ) ParseFault → Reading Expr
tree_read (Ok read) ts = Got read.0 (drop read.1 ts)
tree_read (Err fault) ts = Failed fault

-- the expression that the longest front is with which some expression begins
abbrev pub expression_read : Reading Expr
expression_read ts = tree_read (expr_read ts) ts

-- phrases behind those that were read, while the next token passes a test
abbrev pub repeat_within : {A : Type 0} → ℕ → (Lexeme → Bool) → Reading A → List A → Reading (List A)
repeat_within zero test read sofar ts = Got sofar ts
repeat_within (suc rounds) test read sofar ts =
    if passes test (first ts None) then followed (read ts) (λ x rest. repeat_within rounds test read (sofar ++ x ∷ []) rest)
    else Got sofar ts

-- the same, where each hangs on those before it
abbrev pub repeat_by_within : {A : Type 0} → ℕ → (Lexeme → Bool) → (List A → Reading A) → List A → Reading (List A)
repeat_by_within zero test read sofar ts = Got sofar ts
repeat_by_within (suc rounds) test read sofar ts =
    if passes test (first ts None) then followed (read sofar ts) (λ x rest. repeat_by_within rounds test read (sofar ++ x ∷ []) rest)
    else Got sofar ts

-- each has a token at least, so as many rounds as there are tokens are enough
unfoldable pub repeat_by : {A : Type 0} → (Lexeme → Bool) → (List A → Reading A) → List A → Reading (List A)
repeat_by test read sofar ts = repeat_by_within (length ts) test read sofar ts

unfoldable pub repeat : {A : Type 0} → (Lexeme → Bool) → Reading A → List A → Reading (List A)
repeat test read sofar ts = repeat_within (length ts) test read sofar ts

-- a phrase behind a word
abbrev pub behind : {A : Type 0} → Word → Reading A → Reading A
behind w read = bind (word_read w) (λ _. read)

-- one phrase or more, with `,` between
abbrev pub separated : {A : Type 0} → Reading A → Reading (List A)
separated read = bind read (λ x. repeat (is_word word.Comma) (behind word.Comma read) (x ∷ []))

-- a flag: whether a word stands there
abbrev pub flag_read : Word → Reading Bool
flag_read w = either w (λ _. give true) (give false)
