-- The number that a text stands for is the one that is read.
use Rattle.std.proofs.Common.{◌≡◌, ℕ, ◌+◌, ◌^◌, ◌<◌, ◌≤◌, nat_le, nat_lt, ◌==◌, ◌&&◌, Bool, true, false, cond, List, [], ◌∷◌, ◌++◌, length, take, drop, get_or, None, Some, refl, ap, sym, subst, ◌∙◌, append-nil, codes, arith, lit<, lit≤}
use Rattle.std.proofs.lemmas.Bool.Decides.{nat_tests}
use Rattle.std.proofs.lemmas.Nat.{mod_below, pow_pos}
use Rattle.std.specs.List.{prefix_len}
use Rattle.vod_text.specs.Numeral.{IsBased, based_value}
use Rattle.vod_token.proofs.Based.{based_exact, plain_complete, plain_size}
use Rattle.vod_token.proofs.Numbers.{based_len-le, number_by}
use Rattle.vod_token.specs.Cut.{BeginsBase, wrong_with, literal_fault}
use Rattle.vod_token.specs.Form.{is_white, Form, text_of, has_sign, base_of, IsSpelled, kind_of}
use Rattle.vod_token.specs.Form.Form.{Word, Plain, Based, Directive, Symbol}
use Rattle.vod_token.specs.Literal.{IsLiteral, StandsFor, literal_of_form, found_literal, IsRight, literal_of}
use Rattle.vod_token.specs.Scan.{number_at, size_len, based_at, plain_at, tail_len}
use Rattle.vod_token.specs.Span.{IsTokenText}
use Rattle.vod_token.specs.Word.{is_reserved}
use Rattle.vod_token.specs.declared.TokenKind.TheVariants as kinds
use Rattle.vod_token.specs.declared.LexFault.{LexFault}
use Rattle.vod_token.specs.declared.value.Literal.{Literal}

nothing_begins : BeginsBase [] → ⊥
nothing_begins b = go b.0 b.1 b.3
  where
    go : (gap after : List ℕ) → [] ≡ gap ++ (codes "'" ++ after) → ⊥
    go [] after h = cc
    go (g ∷ gap) after h = cc

plain_read : (text : List ℕ) → IsBased 10 text → number_at text ≡ Some (Plain (based_value 10 text), length text)
plain_read text h =
    let low = plain_size text [] h in
    let high = based_len-le 10 (text ++ []) in
    let same : length (text ++ []) ≡ length text = ap length (append-nil text) in
    let size : size_len (text ++ []) ≡ length text = omega arith in
    ap number_at (sym (append-nil text)) ∙ plain_complete text [] h size nothing_begins

-- a text that is spelled as a number is read as it
based_read : (text : List ℕ) (size : ℕ) (signed : Bool) (value : ℕ) → IsSpelled text (Based size signed value) → number_at text ≡ Some (Based size signed value, length text)
based_read text size signed value spelled =
    let p = spelled.0 in
    ap number_at spelled.2 ∙ based_exact p spelled.1
    ∙ ap (λ s. Some (Based s (has_sign p.sign) (based_value (base_of p.letter) p.digits), length (text_of p))) (sym spelled.3)
    ∙ ap (λ s. Some (Based size s (based_value (base_of p.letter) p.digits), length (text_of p))) (sym spelled.4)
    ∙ ap (λ v. Some (Based size signed v, length (text_of p))) (sym spelled.5)
    ∙ ap (λ xs. Some (Based size signed value, length xs)) (sym spelled.2)

-- a number that a text is
pub record NumberRead (text : List ℕ) (form : Form) : Type 0 where
  pub read : number_at text ≡ Some (form, length text)
  pub is : IsLiteral form (literal_of_form form)

plain_number : (text : List ℕ) (value : ℕ) → IsSpelled text (Plain value) → NumberRead text (Plain value)
plain_number text value spelled =
    record { read = plain_read text spelled.0 ∙ ap (λ v. Some (Plain v, length text)) (sym spelled.1); is = refl }

based_number : (text : List ℕ) (size : ℕ) (signed : Bool) (value : ℕ) → IsSpelled text (Based size signed value) → NumberRead text (Based size signed value)
based_number text size signed value spelled = record { read = based_read text size signed value spelled; is = refl }

word_is_none : (b : Bool) → kinds.Number ≡ cond b kinds.Reserved kinds.Name → ⊥
word_is_none true h = cc
word_is_none false h = cc

pub token_read : (text : List ℕ) (form : Form) → IsSpelled text form → kinds.Number ≡ kind_of text form → NumberRead text form
token_read text Word spelled is = absurd (word_is_none (is_reserved text) is)
token_read text (Plain value) spelled is = plain_number text value spelled
token_read text (Based size signed value) spelled is = based_number text size signed value spelled
token_read text Directive spelled is = cc
token_read text Symbol spelled is = cc

pub token_right : (text : List ℕ) (t : IsTokenText text kinds.Number) → IsRight (number_at text)
token_right text t = subst IsRight (sym (token_read text t.form t.spelled t.is).read) t.right

pub token_stands : (text : List ℕ) (n : Literal) → IsTokenText text kinds.Number → n ≡ found_literal (number_at text) → StandsFor text n
token_stands text n t e =
    let r = token_read text t.form t.spelled t.is in
    (t.form, t.spelled, subst (IsLiteral t.form) (sym (e ∙ ap found_literal r.read)) r.is)

-- what a text stands for is what is read
stands_by : (text : List ℕ) (form : Form) (n : Literal) → IsSpelled text form → IsLiteral form n → found_literal (number_at text) ≡ n
stands_by text Word n spelled is = absurd is
stands_by text (Plain value) n spelled is = ap found_literal (plain_number text value spelled).read ∙ sym is
stands_by text (Based size signed value) n spelled is = ap found_literal (based_number text size signed value spelled).read ∙ sym is
stands_by text Directive n spelled is = absurd is
stands_by text Symbol n spelled is = absurd is

pub one_literal : (text : List ℕ) (n : Literal) → StandsFor text n → literal_of text ≡ n
unfolding literal_of
one_literal text n stands = stands_by text stands.0 n stands.1 stands.2

-- the limits of a number with which nothing is wrong
pub record IsLimited (n : Literal) : Type 0 where
  pub some : 0 < n.size
  pub most : n.size ≤ 64
  pub within : n.value < 2 ^ n.size

fault_by : (a b c : Bool) (f g : LexFault) → cond a (Some f) (cond (b && c) None (Some g)) ≡ None → (a ≡ false) × (b ≡ true) × (c ≡ true)
fault_by true b c f g h = cc
fault_by false true true f g h = (refl, refl, refl)
fault_by false true false f g h = cc
fault_by false false c f g h = cc

pub literal_some : (size value : ℕ) → literal_fault 0 size value ≡ None → 0 < size
literal_some size value h =
    let test = (fault_by (size == 0) (nat_le size 64) (nat_lt value (2 ^ 64)) _ _ h).0 in grind (arith, nat_tests, test)

pub literal_most : (size value : ℕ) → literal_fault 0 size value ≡ None → size ≤ 64
literal_most size value h =
    let test = (fault_by (size == 0) (nat_le size 64) (nat_lt value (2 ^ 64)) _ _ h).1 in grind (arith, nat_tests, test)

pub literal_small : (size value : ℕ) → literal_fault 0 size value ≡ None → value < 2 ^ 64
literal_small size value h =
    let test = (fault_by (size == 0) (nat_le size 64) (nat_lt value (2 ^ 64)) _ _ h).2 in grind (arith, nat_tests, test)

plain_by : (a : Bool) (f : LexFault) → cond a None (Some f) ≡ None → a ≡ true
plain_by true f h = refl
plain_by false f h = cc

pub plain_small : (len value : ℕ) → wrong_with 0 len (Plain value) ≡ None → value < 2 ^ 31
plain_small len value h = let test = plain_by (nat_lt value (2 ^ 31)) _ h in grind (arith, nat_tests, test)

limited_by : (form : Form) (len : ℕ) → wrong_with 0 len form ≡ None → IsLiteral form (literal_of_form form) → IsLimited (literal_of_form form)
limited_by Word len right is = absurd is
limited_by (Plain value) len right is =
    let small = plain_small len value right in record { some = lit< tt; most = lit≤ tt; within = omega (arith, small) }
limited_by (Based size signed value) len right is =
    record { some = literal_some size value right; most = literal_most size value right; within = mod_below value (2 ^ size) (pow_pos size) }
limited_by Directive len right is = absurd is
limited_by Symbol len right is = absurd is

pub limited : (text : List ℕ) (n : Literal) → IsTokenText text kinds.Number → n ≡ found_literal (number_at text) → IsLimited n
limited text n t e =
    let r = token_read text t.form t.spelled t.is in
    subst IsLimited (sym (e ∙ ap found_literal r.read)) (limited_by t.form (length text) t.right r.is)

-- where a number begins in what the code holds does not matter
right_test : (b : Bool) (form : Form) (m n : ℕ) → wrong_with 0 m form ≡ wrong_with 0 n form → IsRight (cond b None (Some (form, m))) → IsRight (cond b None (Some (form, n)))
right_test true form m n e h = h
right_test false form m n e h = sym e ∙ h

pub right_anywhere : (size : List ℕ) (len : ℕ) (tail : List ℕ) → IsRight (based_at size len tail) → IsRight (based_at size 0 tail)
unfolding based_at
right_anywhere size len tail h = right_test (tail_len tail == 0) _ _ _ refl h

found_test : (b : Bool) (form : Form) (m n : ℕ) → found_literal (cond b None (Some (form, m))) ≡ found_literal (cond b None (Some (form, n)))
found_test true form m n = refl
found_test false form m n = refl

pub found_anywhere : (size : List ℕ) (len : ℕ) (tail : List ℕ) → found_literal (based_at size 0 tail) ≡ found_literal (based_at size len tail)
unfolding based_at
found_anywhere size len tail = found_test (tail_len tail == 0) _ _ _

-- the number that the code finds at a front
pub quoted_number : (bytes : List ℕ) (size gap : ℕ) → size ≡ size_len bytes → gap ≡ prefix_len is_white (drop size bytes) → get_or bytes (size + gap) 0 ≡ 39
    → number_at bytes ≡ based_at (take size bytes) (size + gap + 1) (drop (size + gap + 1) bytes)
quoted_number bytes size gap e f quote =
    let test : get_or bytes (size + gap) 0 == 39 ≡ true = grind (arith, nat_tests) in
    number_by bytes 0 size gap true (based_at (take size bytes) (size + gap + 1) (drop (size + gap + 1) bytes)) e f test refl

pub unquoted_number : (bytes : List ℕ) (size gap : ℕ) → size ≡ size_len bytes → gap ≡ prefix_len is_white (drop size bytes) → (get_or bytes (size + gap) 0 ≡ 39 → ⊥)
    → number_at bytes ≡ plain_at (take size bytes)
unquoted_number bytes size gap e f quote =
    let test : get_or bytes (size + gap) 0 == 39 ≡ false = grind (arith, nat_tests) in
    number_by bytes 0 size gap false (plain_at (take size bytes)) e f test refl
