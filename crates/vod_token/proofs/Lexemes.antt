-- The token at the front: what is read is held there, and what is held there is read.
use Rattle.std.proofs.Common.{◌≡◌, ℕ, zero, suc, ◌+◌, ◌-◌, ◌<◌, ◌≤◌, List, [], ◌∷◌, ◌++◌, arith, length, take, drop, get_or, refl, sym, ◌∙◌, ap, true, false, ◌==◌, Bool, None, subst, append_assoc, length-append, one-add}
use Rattle.std.proofs.Math.Seq.{take-append_seam, take-append-add}
use Rattle.std.proofs.lemmas.Bool.Decides.{nat_tests}
use Rattle.std.proofs.lemmas.Grind.{common_steps}
use Rattle.std.proofs.lemmas.List.{take-append-drop}
use Rattle.std.proofs.lemmas.List.Sums.{prefix_len-le-length}
use Rattle.std.specs.Char.{is_digit}
use Rattle.std.specs.List.{prefix_len}
use Rattle.std.specs.Option.{option_map}
use Rattle.std.specs.Prelude.{Contains}
use Rattle.vod_text.proofs.Forms.{front_front, front_more}
use Rattle.vod_text.specs.Numeral.{IsBased, based_value}
use Rattle.vod_token.proofs.Based.{LexemeRead, starts_number, held, held_form, held_len, number_sound, based_complete, based_exact, based_first, plain_reach, plain_complete, plain_first, plain_apart, plain_size, size_plain}
use Rattle.vod_token.proofs.Directives.{directive_sound, directive_complete, directive_head}
use Rattle.vod_token.proofs.Lists.{mapped, kept}
use Rattle.vod_token.proofs.Numbers.{based_len-le}
use Rattle.vod_token.proofs.Symbols.{symbol_sound, symbol_reach, symbol_head}
use Rattle.vod_token.specs.Cut.{Holds}
use Rattle.vod_token.specs.Form.{is_white, is_letter, is_word_byte, IsWord, Form, IsSpelled, Parts, AreParts, text_of, size_of, has_sign, base_of, operators, marks}
use Rattle.vod_token.specs.Form.Form.{Word, Plain, Based, Directive, Symbol}
use Rattle.vod_token.specs.Scan.{layout_len, lexeme, number_at, word_lexeme, directive_lexeme, symbol_lexeme, directive_at, symbol_len, size_len}

-- Which kind of token a first byte begins.
pub lexeme_word : (b : ℕ) (bs : List ℕ) → is_letter b ≡ true → lexeme (b ∷ bs) ≡ word_lexeme (b ∷ bs)
unfolding lexeme
lexeme_word b bs w = rw w refl

lexeme_number : (b : ℕ) (bs : List ℕ) → is_letter b ≡ false → starts_number b ≡ true → lexeme (b ∷ bs) ≡ number_at (b ∷ bs)
unfolding lexeme
lexeme_number b bs w n = rw (w, n) refl

lexeme_directive : (b : ℕ) (bs : List ℕ) → is_letter b ≡ false → starts_number b ≡ false → (b == 96) ≡ true → lexeme (b ∷ bs) ≡ directive_lexeme (b ∷ bs)
unfolding lexeme
lexeme_directive b bs w n d = rw (w, n, d) refl

lexeme_symbol : (b : ℕ) (bs : List ℕ) → is_letter b ≡ false → starts_number b ≡ false → (b == 96) ≡ false → lexeme (b ∷ bs) ≡ symbol_lexeme (b ∷ bs)
unfolding lexeme
lexeme_symbol b bs w n d = rw (w, n, d) refl

number_unlettered : (b : ℕ) → starts_number b ≡ true → is_letter b ≡ false
number_unlettered b h = grind (arith, nat_tests)

digit_starts : (b : ℕ) → is_digit b 10 ≡ true → starts_number b ≡ true
digit_starts b h = grind (arith, nat_tests)

-- A word that is found.
letter_in_word : (b : ℕ) → is_letter b ≡ true → is_word_byte b ≡ true
letter_in_word b h = rw h refl

word_read : (b : ℕ) (bs : List ℕ) → is_letter b ≡ true → LexemeRead (b ∷ bs) Word (prefix_len is_word_byte (b ∷ bs))
word_read b bs h =
    let le = prefix_len-le-length is_word_byte bs in
    rw (letter_in_word b h, one-add) (record {
      some = omega arith;
      within = omega arith;
      spelled = (h, front_front is_word_byte bs (prefix_len is_word_byte bs) (omega arith));
      whole = tt;
    })

directive_read : (bytes : List ℕ) (form : Form) (n : ℕ) → directive_lexeme bytes ≡ held form n → LexemeRead bytes form n
directive_read bytes form n h =
    let m = mapped (λ rest. (Directive, length bytes - length rest)) (directive_at bytes) (form, n) h in
    let read = directive_sound bytes m.0 m.1 in
    let head = directive_head read.text read.directive in
    let sum : length bytes ≡ length read.text + length m.0 = ap length read.parts ∙ length-append read.text m.0 in
    let long : length read.text ≡ suc (length head.0) = ap length head.1 in
    let same : n ≡ length read.text = (let e : length bytes - length m.0 ≡ n = ap (λ x. x.1) m.2 in omega arith) in
    let taken : take n bytes ≡ read.text = ap (λ k. take k bytes) same ∙ ap (take (length read.text)) read.parts ∙ take-append_seam read.text m.0 in
    let form_is : Directive ≡ form = ap (λ x. x.0) m.2 in
    let read_is : LexemeRead bytes Directive n = record {
      some = omega arith;
      within = omega arith;
      spelled = rw taken read.directive;
      whole = tt;
    } in
    subst (λ f. LexemeRead bytes f n) form_is read_is

symbol_read : (bytes : List ℕ) (form : Form) (n : ℕ) → symbol_lexeme bytes ≡ held form n → LexemeRead bytes form n
symbol_read bytes form n h =
    let k = kept (symbol_len bytes == 0) (held Symbol (symbol_len bytes)) (form, n) h in
    let test : (symbol_len bytes == 0) ≡ false = k.0 in
    let some : 0 < symbol_len bytes = grind (arith, nat_tests) in
    let read = symbol_sound bytes some in
    let found : LexemeRead bytes Symbol (symbol_len bytes) = record { some = some; within = read.within; spelled = read.symbol; whole = tt } in
    subst (λ f. LexemeRead bytes f n) (sym (held_form Symbol form (symbol_len bytes) n k.1)) (subst (LexemeRead bytes Symbol) (sym (held_len Symbol form (symbol_len bytes) n k.1)) found)

-- What is read is spelled so, and what follows allows it.
lexeme_by : (b : ℕ) (bs : List ℕ) (form : Form) (n : ℕ) (w m d : Bool) → is_letter b ≡ w → starts_number b ≡ m → (b == 96) ≡ d → lexeme (b ∷ bs) ≡ held form n → LexemeRead (b ∷ bs) form n
lexeme_by b bs form n true m d e f g h =
    let same : held Word (prefix_len is_word_byte (b ∷ bs)) ≡ held form n = sym (lexeme_word b bs e) ∙ h in
    subst (λ x. LexemeRead (b ∷ bs) x n) (sym (held_form Word form (prefix_len is_word_byte (b ∷ bs)) n same))
    (subst (LexemeRead (b ∷ bs) Word) (sym (held_len Word form (prefix_len is_word_byte (b ∷ bs)) n same)) (word_read b bs e))
lexeme_by b bs form n false true d e f g h = number_sound b bs form n f (sym (lexeme_number b bs e f) ∙ h)
lexeme_by b bs form n false false true e f g h = directive_read (b ∷ bs) form n (sym (lexeme_directive b bs e f g) ∙ h)
lexeme_by b bs form n false false false e f g h = symbol_read (b ∷ bs) form n (sym (lexeme_symbol b bs e f g) ∙ h)

lexeme_none : lexeme [] ≡ None
unfolding lexeme
lexeme_none = refl

pub lexeme_sound : (bytes : List ℕ) (form : Form) (n : ℕ) → lexeme bytes ≡ held form n → LexemeRead bytes form n
lexeme_sound [] form n h = let none = lexeme_none in cc
lexeme_sound (b ∷ bs) form n h = lexeme_by b bs form n (is_letter b) (starts_number b) (b == 96) refl refl refl h

-- Where a token is spelled at the front, what is read is at least as long.
record Reaches (text rest : List ℕ) : Type 0 where
  reach : (form : Form) (n : ℕ) → lexeme (text ++ rest) ≡ held form n → length text ≤ n

reach_word : (text rest : List ℕ) → IsWord text → Reaches text rest
reach_word [] rest h = absurd h
reach_word (b ∷ bs) rest h = record {
  reach = λ form n e.
      let same : held Word (prefix_len is_word_byte (b ∷ (bs ++ rest))) ≡ held form n = sym (lexeme_word b (bs ++ rest) h.0) ∙ e in
      let len = held_len Word form (prefix_len is_word_byte (b ∷ (bs ++ rest))) n same in
      let more = front_more is_word_byte bs rest h.1 in
      let whole : prefix_len is_word_byte (b ∷ (bs ++ rest)) ≡ 1 + prefix_len is_word_byte (bs ++ rest) = rw (letter_in_word b h.0) refl in
      omega arith;
}

reach_plain : (text rest : List ℕ) → IsBased 10 text → Reaches text rest
reach_plain [] rest h = absurd h
reach_plain (b ∷ bs) rest h = record {
  reach = λ form n e. plain_reach (b ∷ bs) rest form n h (sym (lexeme_number b (bs ++ rest) (number_unlettered b (digit_starts b h.0)) (digit_starts b h.0)) ∙ e);
}

-- A based number is read there.
record ReadsBased (text rest : List ℕ) (p : Parts) : Type 0 where
  len : ℕ
  value : ℕ
  long : length text ≤ len
  read : lexeme (text ++ rest) ≡ held (Based (size_of p.size) (has_sign p.sign) value) len

reads_based : (text rest : List ℕ) (p : Parts) → AreParts p → text ≡ text_of p → ReadsBased text rest p
reads_based text rest p h e =
    let first = based_first p h in
    let all = based_complete p rest h in
    let begun : text_of p ++ rest ≡ first.0 ∷ (first.1 ++ rest) = ap (λ xs. xs ++ rest) first.2 in
    let number : lexeme (text_of p ++ rest) ≡ number_at (text_of p ++ rest) =
    ap lexeme begun ∙ lexeme_number first.0 (first.1 ++ rest) (number_unlettered first.0 first.3) first.3 ∙ ap number_at (sym begun) in
    rw e (record { len = all.0; value = all.1; long = all.2; read = number ∙ all.3 })

reach_based : (text rest : List ℕ) (p : Parts) → AreParts p → text ≡ text_of p → Reaches text rest
reach_based text rest p h e =
    let r = reads_based text rest p h e in
    let long = r.long in
    record {
      reach = λ form n f. let len = held_len (Based (size_of p.size) (has_sign p.sign) r.value) form r.len n (sym r.read ∙ f) in omega arith;
    }

-- A directive is read there.
reads_directive : (text rest : List ℕ) → IsSpelled text Directive → lexeme (text ++ rest) ≡ held Directive (length text)
reads_directive text rest h =
    let head = directive_head text h in
    let begun : text ++ rest ≡ 96 ∷ (head.0 ++ rest) = ap (λ xs. xs ++ rest) head.1 in
    let sum : length (text ++ rest) ≡ length text + length rest = length-append text rest in
    let read : directive_lexeme (text ++ rest) ≡ held Directive (length text) =
    ap (option_map (λ r. (Directive, length (text ++ rest) - length r))) (directive_complete text rest h) ∙ ap (held Directive) (let e : length (text ++ rest) - length rest ≡ length text = omega arith in e) in
    ap lexeme begun ∙ lexeme_directive 96 (head.0 ++ rest) refl refl refl ∙ ap directive_lexeme (sym begun) ∙ read

-- A symbol is read there, or a longer one.
reads_symbol : (text rest : List ℕ) → Contains (operators ++ marks) text → lexeme (text ++ rest) ≡ held Symbol (symbol_len (text ++ rest))
reads_symbol [] rest c = let some = (symbol_head [] c).some in absurd (omega arith)
reads_symbol (b ∷ bs) rest c =
    let head = symbol_head (b ∷ bs) c in
    let reach = symbol_reach (b ∷ bs) rest c in
    let test : (symbol_len (b ∷ (bs ++ rest)) == 0) ≡ false = grind (arith, nat_tests) in
    lexeme_symbol b (bs ++ rest) head.unlettered head.unnumbered head.unticked ∙ rw test refl

reach_of : (text rest : List ℕ) (form : Form) → IsSpelled text form → Reaches text rest
reach_of text rest Word h = reach_word text rest h
reach_of text rest (Plain value) h = reach_plain text rest h.0
reach_of text rest (Based size signed value) h = reach_based text rest h.0 h.1 h.2
reach_of text rest Directive h = record { reach = λ form n e. let len = held_len Directive form (length text) n (sym (reads_directive text rest h) ∙ e) in omega arith }
reach_of text rest Symbol h = record {
  reach = λ form n e.
      let len = held_len Symbol form (symbol_len (text ++ rest)) n (sym (reads_symbol text rest h) ∙ e) in
      let reach = symbol_reach text rest h in omega arith;
}

-- One text is spelled as one form.
record Classed (text : List ℕ) (letter number tick : Bool) : Type 0 where
  letter_is : is_letter (get_or text 0 0) ≡ letter
  number_is : starts_number (get_or text 0 0) ≡ number
  tick_is : (get_or text 0 0 == 96) ≡ tick

letter_class : (b : ℕ) → is_letter b ≡ true → (starts_number b ≡ false) × ((b == 96) ≡ false)
letter_class b h = (grind (arith, nat_tests), grind (arith, nat_tests))

number_class : (b : ℕ) → starts_number b ≡ true → (is_letter b ≡ false) × ((b == 96) ≡ false)
number_class b h = (grind (arith, nat_tests), grind (arith, nat_tests))

class_word : (text : List ℕ) → IsWord text → Classed text true false false
class_word [] h = absurd h
class_word (b ∷ bs) h = let c = letter_class b h.0 in record { letter_is = h.0; number_is = c.0; tick_is = c.1 }

class_number : (text : List ℕ) (b : ℕ) (bs : List ℕ) → text ≡ b ∷ bs → starts_number b ≡ true → Classed text false true false
class_number text b bs e h = let c = number_class b h in rw e (record { letter_is = c.0; number_is = h; tick_is = c.1 })

class_plain : (text : List ℕ) → IsBased 10 text → Classed text false true false
class_plain text h = let f = plain_first text h in class_number text f.0 f.1 f.2 (digit_starts f.0 f.3)

class_based : (text : List ℕ) (p : Parts) → AreParts p → text ≡ text_of p → Classed text false true false
class_based text p h e = let f = based_first p h in class_number text f.0 f.1 (e ∙ f.2) f.3

class_directive : (text : List ℕ) → IsSpelled text Directive → Classed text false false true
class_directive text h = let f = directive_head text h in rw f.1 (record { letter_is = refl; number_is = refl; tick_is = refl })

class_symbol : (text : List ℕ) → Contains (operators ++ marks) text → Classed text false false false
class_symbol text h = let f = symbol_head text h in record { letter_is = f.unlettered; number_is = f.unnumbered; tick_is = f.unticked }

based_form : (text : List ℕ) (p q : Parts) → AreParts p → AreParts q → text ≡ text_of p → text ≡ text_of q
    → Based (size_of p.size) (has_sign p.sign) (based_value (base_of p.letter) p.digits) ≡ Based (size_of q.size) (has_sign q.sign) (based_value (base_of q.letter) q.digits)
based_form text p q g h e f =
    let a = based_exact p g in
    let b = based_exact q h in
    let same : number_at (text_of p) ≡ number_at (text_of q) = ap number_at (sym e ∙ f) in
    sym (held_form (Based (size_of p.size) (has_sign p.sign) (based_value (base_of p.letter) p.digits)) (Based (size_of q.size) (has_sign q.sign) (based_value (base_of q.letter) q.digits))
    (length (text_of p)) (length (text_of q)) (sym a ∙ same ∙ b))

pub one_form : (text : List ℕ) (f g : Form) → IsSpelled text f → IsSpelled text g → f ≡ g
one_form text Word Word h k = refl
one_form text Word (Plain v) h k = let a = (class_word text h).letter_is in let b = (class_plain text k.0).letter_is in cc
one_form text Word (Based s m v) h k = let a = (class_word text h).letter_is in let b = (class_based text k.0 k.1 k.2).letter_is in cc
one_form text Word Directive h k = let a = (class_word text h).letter_is in let b = (class_directive text k).letter_is in cc
one_form text Word Symbol h k = let a = (class_word text h).letter_is in let b = (class_symbol text k).letter_is in cc
one_form text (Plain v) Word h k = let a = (class_plain text h.0).letter_is in let b = (class_word text k).letter_is in cc
one_form text (Plain v) (Plain w) h k = let a : v ≡ based_value 10 text = h.1 in let b : w ≡ based_value 10 text = k.1 in cc
one_form text (Plain v) (Based s m w) h k = absurd (plain_apart text k.0 h.0 k.2)
one_form text (Plain v) Directive h k = let a = (class_plain text h.0).number_is in let b = (class_directive text k).number_is in cc
one_form text (Plain v) Symbol h k = let a = (class_plain text h.0).number_is in let b = (class_symbol text k).number_is in cc
one_form text (Based s m v) Word h k = let a = (class_based text h.0 h.1 h.2).letter_is in let b = (class_word text k).letter_is in cc
one_form text (Based s m v) (Plain w) h k = absurd (plain_apart text h.0 k.0 h.2)
one_form text (Based s m v) (Based t n w) h k =
    let size = h.3 in let sign = h.4 in let value = h.5 in let size' = k.3 in let sign' = k.4 in let value' = k.5 in
    let same = based_form text h.0 k.0 h.1 k.1 h.2 k.2 in cc
one_form text (Based s m v) Directive h k = let a = (class_based text h.0 h.1 h.2).number_is in let b = (class_directive text k).number_is in cc
one_form text (Based s m v) Symbol h k = let a = (class_based text h.0 h.1 h.2).number_is in let b = (class_symbol text k).number_is in cc
one_form text Directive Word h k = let a = (class_directive text h).letter_is in let b = (class_word text k).letter_is in cc
one_form text Directive (Plain v) h k = let a = (class_directive text h).number_is in let b = (class_plain text k.0).number_is in cc
one_form text Directive (Based s m v) h k = let a = (class_directive text h).number_is in let b = (class_based text k.0 k.1 k.2).number_is in cc
one_form text Directive Directive h k = refl
one_form text Directive Symbol h k = let a = (class_directive text h).tick_is in let b = (class_symbol text k).tick_is in cc
one_form text Symbol Word h k = let a = (class_symbol text h).letter_is in let b = (class_word text k).letter_is in cc
one_form text Symbol (Plain v) h k = let a = (class_symbol text h).number_is in let b = (class_plain text k.0).number_is in cc
one_form text Symbol (Based s m v) h k = let a = (class_symbol text h).number_is in let b = (class_based text k.0 k.1 k.2).number_is in cc
one_form text Symbol Directive h k = let a = (class_symbol text h).tick_is in let b = (class_directive text k).tick_is in cc
one_form text Symbol Symbol h k = refl

-- What is read is held there.
pub holds_sound : (bytes : List ℕ) (form : Form) (n : ℕ) → lexeme bytes ≡ held form n → Holds (take n bytes) (drop n bytes) form
holds_sound bytes form n h =
    let read = lexeme_sound bytes form n h in
    let within = read.within in
    let long : length (take n bytes) ≡ n = grind (arith, common_steps) in
    record {
      spelled = read.spelled;
      longest = λ more after other e s.
          let whole : (take n bytes ++ more) ++ after ≡ bytes = append_assoc (take n bytes) more after ∙ ap (λ xs. take n bytes ++ xs) (sym e) ∙ take-append-drop n bytes in
          let reach = (reach_of (take n bytes ++ more) after other s).reach form n (ap lexeme whole ∙ h) in
          let sum : length (take n bytes ++ more) ≡ length (take n bytes) + length more = length-append (take n bytes) more in
          empty more (omega arith);
      whole = read.whole;
    }
  where
    empty : (xs : List ℕ) → length xs ≡ 0 → xs ≡ []
    empty [] e = refl
    empty (x ∷ xs) e = absurd (omega arith)

-- No longer front is spelled as a token.
longest_at : (text rest : List ℕ) (form : Form) → Holds text rest form → (n : ℕ) → length text ≤ n → n ≤ length (text ++ rest) → (other : Form)
    → IsSpelled (take n (text ++ rest)) other → n ≡ length text
longest_at text rest form h n low high other s =
    let d : ℕ = n - length text in
    let sum : length (text ++ rest) ≡ length text + length rest = length-append text rest in
    let back : n ≡ length text + d = omega arith in
    let front : take n (text ++ rest) ≡ text ++ take d rest = ap (λ k. take k (text ++ rest)) back ∙ take-append-add text rest d in
    let none : take d rest ≡ [] = h.longest (take d rest) (drop d rest) other (sym (take-append-drop d rest)) (subst (λ t. IsSpelled t other) front s) in
    let room : d ≤ length rest = omega arith in
    let long : length (take d rest) ≡ d = grind (arith, common_steps) in
    let zero_long : length (take d rest) ≡ 0 = ap length none in
    omega arith

-- Something is read where a token is held.
record Reads (text rest : List ℕ) : Type 0 where
  form : Form
  len : ℕ
  read : lexeme (text ++ rest) ≡ held form len

reads_word : (text rest : List ℕ) → IsWord text → Reads text rest
reads_word [] rest h = absurd h
reads_word (b ∷ bs) rest h = record { form = Word; len = prefix_len is_word_byte (b ∷ (bs ++ rest)); read = lexeme_word b (bs ++ rest) h.0 }

reads_plain : (text rest : List ℕ) (value : ℕ) → Holds text rest (Plain value) → Reads text rest
reads_plain text rest value h =
    let first = plain_first text h.spelled.0 in
    let begun : text ++ rest ≡ first.0 ∷ (first.1 ++ rest) = ap (λ xs. xs ++ rest) first.2 in
    let starts = digit_starts first.0 first.3 in
    let low = plain_size text rest h.spelled.0 in
    let some : 0 < size_len (text ++ rest) = (let l : length text ≡ suc (length first.1) = ap length first.2 in omega arith) in
    let same : size_len (text ++ rest) ≡ length text = longest_at text rest (Plain value) h (size_len (text ++ rest)) low (based_len-le 10 (text ++ rest)) (Plain (based_value 10 (take (size_len (text ++ rest)) (text ++ rest)))) (size_plain (text ++ rest) some) in
    let number = plain_complete text rest h.spelled.0 same h.whole in
    record {
      form = Plain (based_value 10 text);
      len = length text;
      read = ap lexeme begun ∙ lexeme_number first.0 (first.1 ++ rest) (number_unlettered first.0 starts) starts ∙ ap number_at (sym begun) ∙ number;
    }

reads_any : (text rest : List ℕ) (form : Form) → Holds text rest form → Reads text rest
reads_any text rest Word h = reads_word text rest h.spelled
reads_any text rest (Plain value) h = reads_plain text rest value h
reads_any text rest (Based size signed value) h =
    let r = reads_based text rest h.spelled.0 h.spelled.1 h.spelled.2 in
    record { form = Based (size_of h.spelled.0.size) (has_sign h.spelled.0.sign) r.value; len = r.len; read = r.read }
reads_any text rest Directive h = record { form = Directive; len = length text; read = reads_directive text rest h.spelled }
reads_any text rest Symbol h = record { form = Symbol; len = symbol_len (text ++ rest); read = reads_symbol text rest h.spelled }

-- What is held there is read.
pub holds_complete : (text rest : List ℕ) (form : Form) → Holds text rest form → lexeme (text ++ rest) ≡ held form (length text)
holds_complete text rest form h =
    let r = reads_any text rest form h in
    let read = lexeme_sound (text ++ rest) r.form r.len r.read in
    let low = (reach_of text rest form h.spelled).reach r.form r.len r.read in
    let len : r.len ≡ length text = longest_at text rest form h r.len low read.within r.form read.spelled in
    let taken : take r.len (text ++ rest) ≡ text = ap (λ n. take n (text ++ rest)) len ∙ take-append_seam text rest in
    let same : r.form ≡ form = one_form text r.form form (subst (λ t. IsSpelled t r.form) taken read.spelled) h.spelled in
    r.read ∙ ap (λ f. held f r.len) same ∙ ap (held form) len

-- Where a token is read, neither white space nor a comment begins.
dark_by : (b : ℕ) (bs : List ℕ) → is_white b ≡ false → (b == 47) ≡ false → layout_len (b ∷ bs) ≡ None
unfolding layout_len
dark_by b bs w s = rw (w, s) refl

letter_dark : (b : ℕ) → is_letter b ≡ true → (is_white b ≡ false) × ((b == 47) ≡ false)
letter_dark b h = (grind (arith, nat_tests), grind (arith, nat_tests))

number_dark : (b : ℕ) → starts_number b ≡ true → (is_white b ≡ false) × ((b == 47) ≡ false)
number_dark b h = (grind (arith, nat_tests), grind (arith, nat_tests))

pub dark_head : (text : List ℕ) (form : Form) → IsSpelled text form → (is_white (get_or text 0 0) ≡ false) × ((get_or text 0 0 == 47) ≡ false)
dark_head text Word h = letter_dark (get_or text 0 0) (class_word text h).letter_is
dark_head text (Plain v) h = number_dark (get_or text 0 0) (class_plain text h.0).number_is
dark_head text (Based s m v) h = number_dark (get_or text 0 0) (class_based text h.0 h.1 h.2).number_is
dark_head text Directive h = let f = directive_head text h in rw f.1 (refl, refl)
dark_head text Symbol h = let f = symbol_head text h in (f.dark, f.unslashed)

pub no_layout_held : (bytes : List ℕ) (form : Form) (n : ℕ) → lexeme bytes ≡ held form n → layout_len bytes ≡ None
no_layout_held [] form n h = let none = lexeme_none in cc
no_layout_held (b ∷ bs) form n h =
    let read = lexeme_sound (b ∷ bs) form n h in
    let dark = dark_head (take n (b ∷ bs)) form read.spelled in
    let head : get_or (take n (b ∷ bs)) 0 0 ≡ b = taken_head n read.some in
    dark_by b bs (subst (λ c. is_white c ≡ false) head dark.0) (subst (λ c. (c == 47) ≡ false) head dark.1)
  where
    taken_head : (n : ℕ) → 0 < n → get_or (take n (b ∷ bs)) 0 0 ≡ b
    taken_head zero some = absurd (omega arith)
    taken_head (suc n) some = refl

-- A token has a byte.
pub spelled_some : (text : List ℕ) (form : Form) → IsSpelled text form → 0 < length text
spelled_some [] Word h = absurd h
spelled_some [] (Plain v) h = absurd h.0
spelled_some [] (Based s m v) h = let f = based_first h.0 h.1 in let e : [] ≡ f.0 ∷ f.1 = h.2 ∙ f.2 in cc
spelled_some [] Directive h = let f = directive_head [] h in let e : [] ≡ 96 ∷ f.0 = f.1 in cc
spelled_some [] Symbol h = (symbol_head [] h).some
spelled_some (b ∷ bs) form h = omega arith
