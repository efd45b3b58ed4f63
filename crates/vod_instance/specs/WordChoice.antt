-- One of some words.
use Rattle.std.specs.Prelude.{◌≡◌, ◌⊎◌, Bool, false, ◌||◌, List, [], ◌∷◌}
use Rattle.vod_expr.specs.Grammar.{Lexeme}
use Rattle.vod_grammar.specs.Form.{Form, word_form, give, mapped, either}
use Rattle.vod_grammar.specs.Read as reads
use Rattle.vod_grammar.specs.Read.{Reading, refuse}
use Rattle.vod_grammar.specs.Words.{Is, is_word, are_same}
use Rattle.vod_grammar.specs.declared.word.Word.{Word}

-- a token that is the word of a value
pub data IsWordOf {A : Type 0} (word_of : A → Word) : List Lexeme → A → Type 0 where
  its_word : {t : Lexeme} {x : A} → Is (word_of x) t → IsWordOf word_of (t ∷ []) x

-- the word of one of these values, as that value
abbrev pub one_of : {A : Type 0} → (A → Word) → A → List A → Form A
one_of word_of x [] = mapped (λ _. x) (word_form (word_of x))
one_of word_of x (y ∷ ys) = either (word_of x) (λ _. give x) (one_of word_of y ys)

-- how it is read: the values in turn
abbrev pub word_read : {A : Type 0} → (A → Word) → List A → Reading A
word_read word_of [] = refuse
word_read word_of (x ∷ xs) = reads.either (word_of x) (λ _. reads.give x) (word_read word_of xs)

-- whether a token is such a word
abbrev pub is_one_of : {A : Type 0} → (A → Word) → List A → Lexeme → Bool
is_one_of word_of [] t = false
is_one_of word_of (x ∷ xs) t = is_word (word_of x) t || is_one_of word_of xs t

-- whether a word is spelled like that of one of them
abbrev pub is_spelled_as : {A : Type 0} → (A → Word) → List A → Word → Bool
is_spelled_as word_of [] w = false
is_spelled_as word_of (x ∷ xs) w = are_same (word_of x) w || is_spelled_as word_of xs w

-- the value is among these, and no word of one before it is spelled like its own
abbrev pub IsFirst : {A : Type 0} → (A → Word) → List A → A → Type 0
IsFirst word_of [] k = ⊥
IsFirst word_of (x ∷ xs) k = (x ≡ k) ⊎ ((are_same (word_of x) (word_of k) ≡ false) × IsFirst word_of xs k)
