-- The longest token at the front of the bytes: what is answered of it, and that it is one.
use Rattle.std.proofs.Common.{◌≡◌, ℕ, List, [], ◌∷◌, ◌++◌, arith, length, take, drop, refl, sym, ◌∙◌, ap, true, false, Option, Some, None, Result, Ok, Err, subst}
use Rattle.std.proofs.Math.Seq.{take-append_seam, drop-append_seam}
use Rattle.std.specs.List.{prefix_len}
use Rattle.vod_token.proofs.Based.{held, held_form, held_len}
use Rattle.vod_token.proofs.Lexemes.{lexeme_word, lexeme_sound, holds_sound, holds_complete, dark_head, spelled_some}
use Rattle.vod_token.specs.Cut.{Holds, wrong_with}
use Rattle.vod_token.specs.Form.{Form, kind_of, is_white, is_word_byte}
use Rattle.vod_token.specs.Form.Form.{Word, Plain, Based, Directive, Symbol}
use Rattle.vod_token.specs.Front.{IsFront, begins_word}
use Rattle.vod_token.specs.Scan.{lexeme, token_at, judged, checked}
use Rattle.vod_token.specs.declared.LexFault.{LexFault}
use Rattle.vod_token.specs.declared.TokenKind.{TokenKind}

front_of : (bytes : List ℕ) (form : Form) (n : ℕ) → lexeme bytes ≡ held form n → IsFront bytes (kind_of (take n bytes) form) n
front_of bytes form n e =
    let read = lexeme_sound bytes form n e in
    record { form = form; some = read.some; within = read.within; holds = holds_sound bytes form n e; is = refl }

pub word_front : (bytes : List ℕ) → begins_word bytes ≡ true → IsFront bytes (kind_of (take (prefix_len is_word_byte bytes) bytes) Word) (prefix_len is_word_byte bytes)
word_front [] h = cc
word_front (b ∷ bs) h = front_of (b ∷ bs) Word (prefix_len is_word_byte (b ∷ bs)) (lexeme_word b bs h)

front_judged : (bytes : List ℕ) (o : Option (Form × ℕ)) (kind : TokenKind) (n : ℕ) → judged 0 bytes o ≡ Ok (kind, n) → lexeme bytes ≡ o → IsFront bytes kind n
front_judged bytes None kind n h e = cc
front_judged bytes (Some t) kind n h e = by_check (wrong_with 0 t.1 t.0) h
  where
    by_check : (o : Option LexFault) → checked {A = TokenKind × ℕ} (kind_of (take t.1 bytes) t.0, t.1) o ≡ Ok (kind, n) → IsFront bytes kind n
    by_check None g =
        let pair : ◌≡◌ {A = TokenKind × ℕ} (kind_of (take t.1 bytes) t.0, t.1) (kind, n) = cc in
        subst (λ k. IsFront bytes k n) (ap (λ x. x.0) pair) (subst (IsFront bytes (kind_of (take t.1 bytes) t.0)) (ap (λ x. x.1) pair) (front_of bytes t.0 t.1 e))
    by_check (Some fault) g = cc

pub token_front : (bytes : List ℕ) (kind : TokenKind) (n : ℕ) → token_at 0 bytes ≡ Ok (kind, n) → IsFront bytes kind n
unfolding token_at
token_front bytes kind n h = front_judged bytes (lexeme bytes) kind n h refl

-- What is wrong with a token that is no word doesn't hang on its length.
right_length : (n : ℕ) (form : Form) → (form ≡ Word → ⊥) → wrong_with 0 0 form ≡ None → wrong_with 0 n form ≡ None
right_length n Word apart h = absurd (apart refl)
right_length n (Plain value) apart h = h
right_length n (Based size signed value) apart h = h
right_length n Directive apart h = h
right_length n Symbol apart h = h

word_begins : (text rest : List ℕ) → Holds text rest Word → begins_word (text ++ rest) ≡ true
word_begins [] rest h = absurd h.spelled
word_begins (b ∷ bs) rest h = h.spelled.0

pub refused_front : (bytes : List ℕ) (fault : LexFault) → token_at 0 bytes ≡ Err fault → begins_word bytes ≡ false
    → (text rest : List ℕ) (form : Form) → bytes ≡ text ++ rest → Holds text rest form → wrong_with 0 0 form ≡ None → ⊥
unfolding token_at
refused_front bytes fault h none text rest form e holds right =
    let read : lexeme bytes ≡ held form (length text) = ap lexeme e ∙ holds_complete text rest form holds in
    let apart : form ≡ Word → ⊥ = λ f.
    (let begun : begins_word (text ++ rest) ≡ true = word_begins text rest (subst (Holds text rest) f holds) in
    let same : false ≡ true = sym none ∙ ap begins_word e ∙ begun in cc) in
    let fine : wrong_with 0 (length text) form ≡ None = right_length (length text) form apart right in
    let answer : token_at 0 bytes ≡ checked {A = TokenKind × ℕ} (kind_of (take (length text) bytes) form, length text) None =
    ap (judged 0 bytes) read ∙ ap (checked {A = TokenKind × ℕ} (kind_of (take (length text) bytes) form, length text)) fine in
    let clash : ◌≡◌ {A = Result (TokenKind × ℕ) LexFault} (Err fault) (Ok (kind_of (take (length text) bytes) form, length text)) = sym h ∙ answer in
    cc

pub one_front : (text rest more after : List ℕ) (form other : Form) → text ++ rest ≡ more ++ after → Holds text rest form → Holds more after other → (text ≡ more) × (rest ≡ after) × (form ≡ other)
one_front text rest more after form other e h g =
    let a = holds_complete text rest form h in
    let b = holds_complete more after other g in
    let same : held form (length text) ≡ held other (length more) = sym a ∙ ap lexeme e ∙ b in
    let len = held_len form other (length text) (length more) same in (
      sym (take-append_seam text rest) ∙ ap (take (length text)) e ∙ ap (λ n. take n (more ++ after)) (sym len) ∙ take-append_seam more after,
      sym (drop-append_seam text rest) ∙ ap (drop (length text)) e ∙ ap (λ n. drop n (more ++ after)) (sym len) ∙ drop-append_seam more after,
      sym (held_form form other (length text) (length more) same),
    )

pub no_token_empty : (rest : List ℕ) (form : Form) → Holds [] rest form → ⊥
no_token_empty rest form h = let some = spelled_some [] form h.spelled in absurd (omega arith)

pub token_dark : (b : ℕ) (text rest : List ℕ) (form : Form) → Holds (b ∷ text) rest form → is_white b ≡ false
token_dark b text rest form h = (dark_head (b ∷ text) form h.spelled).0
