-- The reader that looks ahead, on lists of bytes: what the functions of this crate compute.
use Rattle.std.specs.Prelude.{ℕ, ◌+◌, ◌*◌, ◌-◌, Bool, not, ◌&&◌, ◌||◌, if◌then◌else◌, ◌==◌, nat_le, nat_eq, List, [], ◌∷◌, ◌++◌, length, take, drop, Option, None, Some, slice_index, codes, Result, Ok, Err}
use Rattle.std.specs.List.{prefix_len}
use Rattle.std.specs.Cmp.Lexicographic.{pointwise}
use Rattle.std.specs.Char.{is_ascii_digit}
use Rattle.std.specs.Option.{option_and_then, option_map, option_or}
use Rattle.vod_text.specs.Numeral.{based_len, based_value}
use Rattle.vod_token.specs.Form.{is_white, is_blank, is_letter, is_word_byte, base_of, size_of, has_sign, time_counts, time_units, operators, marks, Form, kind_of}
use Rattle.vod_token.specs.Form.Form.{Word, Plain, Based, Directive, Symbol}
use Rattle.vod_token.specs.Cut.{wrong_with}
use Rattle.vod_token.specs.Word.{is_among}
use Rattle.vod_token.specs.declared.bytes.Class.{Class}
use Rattle.vod_token.specs.declared.bytes.Class.TheVariants as classes
use Rattle.vod_token.specs.declared.TokenKind.{TokenKind}
use Rattle.vod_token.specs.declared.TokenKind.TheVariants.{Number}
use Rattle.vod_token.specs.declared.LexFault.{LexFault}
use Rattle.vod_token.specs.declared.LexFault.TheVariants as faults

-- a class of bytes; `Line` is any byte but a line feed
abbrev pub is_in : Class → ℕ → Bool
is_in classes.White b = is_white b
is_in classes.Blank b = is_blank b
is_in classes.Word b = is_word_byte b
is_in classes.Line b = not (b == 10)

-- where the first `*/` ends
abbrev pub close_end : List ℕ → Option ℕ
close_end [] = None
close_end (b ∷ bs) = if b == 42 && slice_index bs 0 == 47 then Some 2 else option_map (λ n. 1 + n) (close_end bs)

-- how long the white space or comment at the front is
unfoldable pub comment_len : List ℕ → Option ℕ
comment_len [] = None
comment_len (b ∷ bs) =
    if b == 47 then Some (2 + prefix_len (λ c. not (c == 10)) bs)
    else (if b == 42 then option_map (λ n. 2 + n) (close_end bs) else None)

unfoldable pub layout_len : List ℕ → Option ℕ
layout_len [] = None
layout_len (b ∷ bs) = if is_white b then Some 1 else (if b == 47 then comment_len bs else None)

-- the sign behind `'`, the base, where the digits begin, and how many bytes they have
abbrev pub sign_len : List ℕ → ℕ
sign_len tail = if slice_index tail 0 == 115 || slice_index tail 0 == 83 then 1 else 0

abbrev pub tail_base : List ℕ → ℕ
tail_base tail = base_of (slice_index tail (sign_len tail))

abbrev pub tail_start : List ℕ → ℕ
tail_start tail = sign_len tail + 1 + prefix_len is_white (drop (sign_len tail + 1) tail)

abbrev pub tail_len : List ℕ → ℕ
tail_len tail = based_len (tail_base tail) (drop (tail_start tail) tail)

-- a based number of this size, from behind its `'` on, with `len` bytes up to there
unfoldable pub based_at : List ℕ → ℕ → List ℕ → Option (Form × ℕ)
based_at size len tail =
    if tail_len tail == 0 then None
    else Some (
      Based (size_of size) (has_sign (take (sign_len tail) tail)) (based_value (tail_base tail) (take (tail_len tail) (drop (tail_start tail) tail))),
      len + tail_start tail + tail_len tail,
    )

-- what is answered of a token, where nothing is wrong with it
abbrev pub checked : {A : Type 0} → A → Option LexFault → Result A LexFault
checked token None = Ok token
checked token (Some fault) = Err fault

-- a plain number that is the whole text
abbrev pub plain_at : List ℕ → Option (Form × ℕ)
plain_at text = if length text == 0 then None else Some (Plain (based_value 10 text), length text)

-- a number at the front
abbrev pub size_len : List ℕ → ℕ
size_len bytes = based_len 10 bytes

abbrev pub quote_at : List ℕ → ℕ
quote_at bytes = size_len bytes + prefix_len is_white (drop (size_len bytes) bytes)

unfoldable pub number_at : List ℕ → Option (Form × ℕ)
number_at bytes =
    if slice_index bytes (quote_at bytes) == 39 then based_at (take (size_len bytes) bytes) (quote_at bytes + 1) (drop (quote_at bytes + 1) bytes)
    else plain_at (take (size_len bytes) bytes)

-- the bytes begin with a word
abbrev pub begins : List ℕ → List ℕ → Bool
begins word bytes = pointwise nat_eq (take (length word) bytes) word

-- what stands behind blanks, and behind a word
abbrev pub after_blanks : List ℕ → List ℕ
after_blanks bytes = drop (prefix_len is_blank bytes) bytes

abbrev pub behind : List ℕ → List ℕ → Option (List ℕ)
behind word bytes = if begins word bytes then Some (drop (length word) bytes) else None

-- the number of the first word of a table that stands at the front, and what stands behind it
abbrev pub choice : List (List ℕ × ℕ) → List ℕ → Option (ℕ × List ℕ)
choice [] bytes = None
choice (entry ∷ entries) bytes = if begins entry.0 bytes then Some (entry.1, drop (length entry.0) bytes) else choice entries bytes

-- a time, its length and what stands behind it
unfoldable pub time_at : List ℕ → Option (ℕ × List ℕ)
time_at bytes =
    option_and_then (λ count. option_and_then (λ unit. Some (count.0 * unit.0, unit.1)) (choice time_units (after_blanks count.1))) (choice time_counts bytes)

-- what stands behind the two times, and behind the net type
unfoldable pub times_at : List ℕ → Option (List ℕ)
times_at bytes =
    option_and_then (λ unit. option_and_then (λ rest. option_and_then (λ precision.
    if nat_le precision.0 unit.0 then Some precision.1 else None) (time_at (after_blanks rest))) (behind (codes "/") (after_blanks unit.1))) (time_at bytes)

unfoldable pub net_at : List ℕ → Option (List ℕ)
net_at bytes = option_map (λ x. x.1) (choice ((codes "none", 0) ∷ (codes "wire", 0) ∷ []) bytes)

-- what stands behind required blanks
abbrev pub behind_blanks : List ℕ → Option (List ℕ)
behind_blanks bytes = if prefix_len is_blank bytes == 0 then None else Some (after_blanks bytes)

-- what stands behind a directive
unfoldable pub timescale_at : List ℕ → Option (List ℕ)
timescale_at bytes = option_and_then (λ rest. option_and_then times_at (behind_blanks rest)) (behind (codes "`timescale") bytes)

unfoldable pub nettype_at : List ℕ → Option (List ℕ)
nettype_at bytes = option_and_then (λ rest. option_and_then net_at (behind_blanks rest)) (behind (codes "`default_nettype") bytes)

unfoldable pub directive_at : List ℕ → Option (List ℕ)
directive_at bytes = option_or (timescale_at bytes) (nettype_at bytes)

-- the longest symbol at the front, 0 where there is none
abbrev pub is_symbol : List ℕ → Bool
is_symbol text = is_among (operators ++ marks) text

abbrev pub symbol_len : List ℕ → ℕ
symbol_len bytes =
    if is_symbol (take 3 bytes) then length (take 3 bytes)
    else (if is_symbol (take 2 bytes) then length (take 2 bytes)
    else (if is_symbol (take 1 bytes) then length (take 1 bytes)
    else 0))

-- the word, the directive and the symbol at the front, each with its length
abbrev pub word_lexeme : List ℕ → Option (Form × ℕ)
word_lexeme bytes = Some (Word, prefix_len is_word_byte bytes)

abbrev pub directive_lexeme : List ℕ → Option (Form × ℕ)
directive_lexeme bytes = option_map (λ rest. (Directive, length bytes - length rest)) (directive_at bytes)

abbrev pub symbol_lexeme : List ℕ → Option (Form × ℕ)
symbol_lexeme bytes = if symbol_len bytes == 0 then None else Some (Symbol, symbol_len bytes)

-- the token at the front and its length
unfoldable pub lexeme : List ℕ → Option (Form × ℕ)
lexeme [] = None
lexeme (b ∷ bs) =
    if is_letter b then word_lexeme (b ∷ bs)
    else (if is_ascii_digit b || b == 39 then number_at (b ∷ bs)
    else (if b == 96 then directive_lexeme (b ∷ bs)
    else symbol_lexeme (b ∷ bs)))

abbrev pub judged : ℕ → List ℕ → Option (Form × ℕ) → Result (TokenKind × ℕ) LexFault
judged at bytes None = Err (faults.At at)
judged at bytes (Some token) = checked (kind_of (take token.1 bytes) token.0, token.1) (wrong_with at token.1 token.0)

-- the kind of the token at the front and its length, or what is wrong there
unfoldable pub token_at : ℕ → List ℕ → Result (TokenKind × ℕ) LexFault
token_at at bytes = judged at bytes (lexeme bytes)

-- the same of a number
abbrev pub number_judged : ℕ → Option (Form × ℕ) → Result (TokenKind × ℕ) LexFault
number_judged at None = Err (faults.At at)
number_judged at (Some token) = checked (Number, token.1) (wrong_with at token.1 token.0)

abbrev pub plain_judged : ℕ → List ℕ → Result (TokenKind × ℕ) LexFault
plain_judged at text = number_judged at (plain_at text)

-- the same of a word, a directive and a symbol
abbrev pub word_judged : ℕ → List ℕ → Result (TokenKind × ℕ) LexFault
word_judged at bytes = judged at bytes (word_lexeme bytes)

abbrev pub directive_judged : ℕ → List ℕ → Result (TokenKind × ℕ) LexFault
directive_judged at bytes = judged at bytes (directive_lexeme bytes)

abbrev pub symbol_judged : ℕ → List ℕ → Result (TokenKind × ℕ) LexFault
symbol_judged at bytes = judged at bytes (symbol_lexeme bytes)
