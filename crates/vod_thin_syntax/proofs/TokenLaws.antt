-- The bytes of a source fall into tokens of the thin form in one way.
use Rattle.std.proofs.Common.{◌≡◌, get_or, drop-cons, add-one, ℕ, ◌+◌, ◌-◌, ◌<◌, ◌≤◌, inl, inr, List, [], ◌∷◌, ◌++◌, arith, length, take, drop, refl, sym, ◌∙◌, ap, true, false, Option, Some, None, subst, append-nil, length-append}
use Rattle.std.proofs.lemmas.Grind.{common_steps}
use Rattle.std.proofs.lemmas.List.{take-append-drop, drop-drop}
use Rattle.std.proofs.lemmas.List.Elements.{All-nil, All-cons}
use Rattle.std.proofs.Math.Seq.{drop-append_seam}
use Rattle.std.specs.Prelude.{All}
use Rattle.vod_token.specs.Span.{LiesIn}
use Rattle.std.specs.Option.{is_some}
use Rattle.vod_token.specs.Cut.{Holds, wrong_with, token}
use Rattle.vod_token.specs.Form.{is_white, Form, IsSpelled, kind_of}
use Rattle.vod_token.specs.Form.Form.{Word, Plain, Based, Directive, Symbol}
use Rattle.vod_token.specs.Front.{IsFront}
use Rattle.vod_token.specs.declared.Token.{Token}
use Rattle.vod_token.specs.declared.TokenKind.{TokenKind}
use Rattle.vod_token.specs.declared.TokenKind.TheVariants as kinds
use Rattle.vod_thin_syntax.proofs.WordLaws.{OneForm, word_spelled, spelled_word, word_right}
use Rattle.vod_thin_syntax.specs.Words.{spelling, word_of}
use Rattle.vod_thin_syntax.specs.Scan.{is_of_form, Continues}
use Rattle.vod_thin_syntax.specs.Tokens.{IsOfForm, HoldsNone, Falls}
use Rattle.vod_thin_syntax.specs.Tokens.Falls.{ends, skips, takes, stops}
use Rattle.vod_thin_syntax.specs.declared.words.Word as w

-- whether the thin form has a token, as the code tests it
found_word : (text : List ℕ) (found : Option w.Word) → word_of text ≡ found → is_some found ≡ true → (word : w.Word) × (text ≡ spelling word)
found_word text (Some word) e h = (word, word_spelled text word e)
found_word text None e h = cc

pub of_form : (kind : TokenKind) (text : List ℕ) → is_of_form kind text ≡ true → IsOfForm text kind
of_form kinds.Name text h = inl refl
of_form kinds.Reserved text h = inr (found_word text (word_of text) refl h)
of_form kinds.Number text h = inr (found_word text (word_of text) refl h)
of_form kinds.Directive text h = inr (found_word text (word_of text) refl h)
of_form kinds.Symbol text h = inr (found_word text (word_of text) refl h)

spelled_found : (text : List ℕ) (word : w.Word) → text ≡ spelling word → is_some (word_of text) ≡ true
spelled_found text word e = ap (λ t. is_some (word_of t)) e ∙ ap is_some (spelled_word word)

word_passes : (kind : TokenKind) (text : List ℕ) → is_some (word_of text) ≡ true → is_of_form kind text ≡ true
word_passes kinds.Name text h = refl
word_passes kinds.Reserved text h = h
word_passes kinds.Number text h = h
word_passes kinds.Directive text h = h
word_passes kinds.Symbol text h = h

pub form_of : (kind : TokenKind) (text : List ℕ) → IsOfForm text kind → is_of_form kind text ≡ true
form_of kind text (inl e) = ap (λ k. is_of_form k text) e
form_of kind text (inr (word, e)) = word_passes kind text (spelled_found text word e)

-- a token of the form isn't past a limit but the one on names
name_right : (text : List ℕ) (form : Form) → kind_of text form ≡ kinds.Name → wrong_with 0 0 form ≡ None
name_right text Word e = refl
name_right text (Plain value) e = cc
name_right text (Based size signed value) e = cc
name_right text Directive e = refl
name_right text Symbol e = refl

pub form_right : OneForm → (text : List ℕ) (form : Form) → IsSpelled text form → IsOfForm text (kind_of text form) → wrong_with 0 0 form ≡ None
form_right one text form h (inl e) = name_right text form e
form_right one text form h (inr (word, e)) = word_right one word form (subst (λ t. IsSpelled t form) e h)

-- one longest token at the front of the bytes
abbrev pub OneToken : Type 0
OneToken = (text rest more after : List ℕ) (form other : Form) → text ++ rest ≡ more ++ after → Holds text rest form → Holds more after other → (text ≡ more) × (rest ≡ after) × (form ≡ other)

-- the longest token isn't of the form
pub other_token : OneToken → (bytes : List ℕ) (kind : TokenKind) (n : ℕ) → IsFront bytes kind n → is_of_form kind (take n bytes) ≡ false → HoldsNone bytes
other_token one bytes kind n front test text rest form e holds of =
    let same = one text rest (take n bytes) (drop n bytes) form front.form (sym e ∙ sym (take-append-drop n bytes)) holds front.holds in
    let kind_is : kind_of text form ≡ kind = ap (λ t. kind_of t form) same.0 ∙ ap (kind_of (take n bytes)) same.2 ∙ sym front.is in
    let passes : is_of_form kind (take n bytes) ≡ true = form_of kind (take n bytes) (subst (λ k. IsOfForm (take n bytes) k) kind_is (subst (λ t. IsOfForm t (kind_of text form)) same.0 of)) in
    cc

-- the longest token is taken
pub continues : (at : ℕ) (bytes : List ℕ) (kind : TokenKind) (n : ℕ) → IsFront bytes kind n → is_of_form kind (take n bytes) ≡ true
    → Continues at bytes (record { kind = kind; start = at; end = at + n })
continues at bytes kind n front test =
    let some = front.some in
    let within = front.within in
    let long : length (take n bytes) ≡ n = grind (arith, common_steps) in
    let back : at + n - at ≡ n = omega arith in
    let of : IsOfForm (take n bytes) (kind_of (take n bytes) front.form) = subst (IsOfForm (take n bytes)) front.is (of_form kind (take n bytes) test) in
    record {
      some = omega arith;
      within = omega arith;
      step = λ ts stop more.
          let behind : Falls (at + length (take n bytes)) (drop n bytes) ts stop = subst (λ k. Falls (at + k) (drop n bytes) ts stop) (sym long) (subst (λ k. Falls (at + n) (drop k bytes) ts stop) back more) in
          let whole : Falls at (take n bytes ++ drop n bytes) (token at (take n bytes) front.form ∷ ts) stop = takes at (take n bytes) (drop n bytes) front.form ts stop front.holds of behind in
          let made : ℕ → TokenKind → Token = λ k kind. record { kind = kind; start = at; end = at + k } in
          subst (λ k. Falls at bytes (made n k ∷ ts) stop) (sym front.is)
          (subst (λ k. Falls at bytes (made k (kind_of (take n bytes) front.form) ∷ ts) stop) long (subst (λ xs. Falls at xs (token at (take n bytes) front.form ∷ ts) stop) (take-append-drop n bytes) whole));
    }

-- what is known of tokens
pub record TokenLaws : Type 0 where
  pub one : OneToken
  pub some : (rest : List ℕ) (form : Form) → Holds [] rest form → ⊥
  pub dark : (b : ℕ) (text rest : List ℕ) (form : Form) → Holds (b ∷ text) rest form → is_white b ≡ false

no_bytes : TokenLaws → (text rest : List ℕ) (form : Form) → Holds text rest form → [] ≡ text ++ rest → ⊥
no_bytes laws [] rest form h e = laws.some rest form h
no_bytes laws (b ∷ bs) rest form h e = cc

dark_front : TokenLaws → (text rest : List ℕ) (form : Form) (b : ℕ) (bs : List ℕ) → Holds text rest form → b ∷ bs ≡ text ++ rest → is_white b ≡ false
dark_front laws [] rest form b bs h e = absurd (laws.some rest form h)
dark_front laws (c ∷ cs) rest form b bs h e = let same : b ≡ c = cc in ap is_white same ∙ laws.dark c cs rest form h

pub one_fall : TokenLaws → {at : ℕ} {bytes : List ℕ} {ts : List Token} {stop : Option ℕ} → Falls at bytes ts stop
    → (others : List ℕ) (us : List Token) (other : Option ℕ) → bytes ≡ others → Falls at others us other → (ts ≡ us) × (stop ≡ other)
one_fall laws (ends at) others us other e (ends at') = (refl, refl)
one_fall laws (ends at) others us other e (skips at' b bs us' other' white more) = cc
one_fall laws (ends at) others us other e (takes at' text rest form us' other' holds of more) = absurd (no_bytes laws text rest form holds e)
one_fall laws (ends at) others us other e (stops at' b bs dark none) = cc
one_fall laws (skips at b bs ts stop white more) others us other e (ends at') = cc
one_fall laws (skips at b bs ts stop white more) others us other e (skips at' c cs us' other' white' more') =
    let same : bs ≡ cs = cc in one_fall laws more cs us' other' same more'
one_fall laws (skips at b bs ts stop white more) others us other e (takes at' text rest form us' other' holds of more') =
    let dark : is_white b ≡ false = dark_front laws text rest form b bs holds e in cc
one_fall laws (skips at b bs ts stop white more) others us other e (stops at' c cs dark none) = let same : b ≡ c = cc in let t : is_white b ≡ is_white c = ap is_white same in cc
one_fall laws (takes at text rest form ts stop holds of more) others us other e (ends at') = absurd (no_bytes laws text rest form holds (sym e))
one_fall laws (takes at text rest form ts stop holds of more) others us other e (skips at' c cs us' other' white more') =
    let dark : is_white c ≡ false = dark_front laws text rest form c cs holds (sym e) in cc
one_fall laws (takes at text rest form ts stop holds of more) others us other e (takes at' more_text after form' us' other' holds' of' more') =
    let same = laws.one text rest more_text after form form' e holds holds' in
    let next = one_fall laws more after us' other' same.1 (subst (λ t. Falls (at + length t) after us' other') (sym same.0) more') in
    (ap (λ vs. token at text form ∷ vs) next.0 ∙ ap (λ t. token at t form ∷ us') same.0 ∙ ap (λ f. token at more_text f ∷ us') same.2, next.1)
one_fall laws (takes at text rest form ts stop holds of more) others us other e (stops at' c cs dark none) = absurd (none text rest form (sym e) holds of)
one_fall laws (stops at b bs dark none) others us other e (ends at') = cc
one_fall laws (stops at b bs dark none) others us other e (skips at' c cs us' other' white more') = let same : b ≡ c = cc in let t : is_white b ≡ is_white c = ap is_white same in cc
one_fall laws (stops at b bs dark none) others us other e (takes at' text rest form us' other' holds of more') = absurd (none text rest form e holds of)
one_fall laws (stops at b bs dark none) others us other e (stops at' c cs dark' none') = (refl, refl)

-- at the end of the source the tokens so far are all
pub read_all : (source : List ℕ) (at : ℕ) (sofar : List Token) → length source ≤ at
    → ((ts : List Token) (stop : Option ℕ) → Falls at (drop at source) ts stop → Falls 0 source (sofar ++ ts) stop) → Falls 0 source sofar None
read_all source at sofar le reads =
    let none : drop at source ≡ [] = grind (arith, common_steps) in
    subst (λ ts. Falls 0 source ts None) (append-nil sofar) (reads [] None (subst (λ xs. Falls at xs [] None) (sym none) (ends at)))

at_byte : (source : List ℕ) (at : ℕ) → at < length source → drop at source ≡ get_or source at 0 ∷ drop (at + 1) source
at_byte source at lt = drop-cons source at 0 lt ∙ ap (λ k. get_or source at 0 ∷ drop k source) (sym (add-one at))

-- white space is passed over
pub skip_step : (source : List ℕ) (at : ℕ) (ts : List Token) (stop : Option ℕ) → at < length source → is_white (get_or source at 0) ≡ true
    → Falls (at + 1) (drop (at + 1) source) ts stop → Falls at (drop at source) ts stop
skip_step source at ts stop lt white more = subst (λ xs. Falls at xs ts stop) (sym (at_byte source at lt)) (skips at (get_or source at 0) (drop (at + 1) source) ts stop white more)

-- no token of the form begins
pub stop_step : (source : List ℕ) (at : ℕ) → at < length source → is_white (get_or source at 0) ≡ false → HoldsNone (drop at source) → Falls at (drop at source) [] (Some at)
stop_step source at lt dark none =
    let bytes = at_byte source at lt in
    subst (λ xs. Falls at xs [] (Some at)) (sym bytes) (stops at (get_or source at 0) (drop (at + 1) source) dark (subst HoldsNone bytes none))

pub behind_token : (source : List ℕ) (at : ℕ) (t : Token) → at < t.end → drop (t.end - at) (drop at source) ≡ drop t.end source
behind_token source at t lt = drop-drop (t.end - at) at source ∙ ap (λ k. drop k source) (let s : at + (t.end - at) ≡ t.end = omega arith in s)

some_bytes : TokenLaws → (text rest : List ℕ) (form : Form) → Holds text rest form → 0 < length text
some_bytes laws [] rest form h = absurd (laws.some rest form h)
some_bytes laws (b ∷ bs) rest form h = omega arith

-- the tokens lie in the source, and there are no more of them than bytes
pub record Lies (source : List ℕ) (bytes : List ℕ) (ts : List Token) : Type 0 where
  pub lie : All (LiesIn source) ts
  pub few : length ts ≤ length bytes

behind_text : (source : List ℕ) (at : ℕ) (text rest : List ℕ) → drop at source ≡ text ++ rest → drop (at + length text) source ≡ rest
behind_text source at text rest e = sym (drop-drop (length text) at source) ∙ ap (drop (length text)) e ∙ drop-append_seam text rest

pub falls_lie : TokenLaws → {at : ℕ} {bytes : List ℕ} {ts : List Token} {stop : Option ℕ} → Falls at bytes ts stop → (source : List ℕ) → drop at source ≡ bytes → at + length bytes ≡ length source → Lies source bytes ts
falls_lie laws (ends at) source e long = record { lie = All-nil (LiesIn source); few = omega arith }
falls_lie laws (skips at b bs ts stop white more) source e long =
    let later = falls_lie laws more source (behind_text source at (b ∷ []) bs e) (omega arith) in
    let few = later.few in
    record { lie = later.lie; few = omega arith }
falls_lie laws (takes at text rest form ts stop holds of more) source e long =
    let sum : length (text ++ rest) ≡ length text + length rest = length-append text rest in
    let later = falls_lie laws more source (behind_text source at text rest e) (omega arith) in
    let few = later.few in
    let some = some_bytes laws text rest form holds in
    record { lie = All-cons (LiesIn source) (token at text form) ts (record { some = omega arith; within = omega arith }) later.lie; few = omega arith }
falls_lie laws (stops at b bs dark none) source e long = record { lie = All-nil (LiesIn source); few = omega arith }

-- where they stop is in the source, and no token begins behind it
pub record Before (bytes : List ℕ) (at : ℕ) (ts : List Token) (stop : Option ℕ) : Type 0 where
  pub inside : (place : ℕ) → stop ≡ Some place → place ≤ at + length bytes
  pub first : (before : List Token) (t : Token) (behind : List Token) → ts ≡ before ++ t ∷ behind → t.start ≤ at + length bytes
  pub earlier : (place : ℕ) → stop ≡ Some place → (before : List Token) (t : Token) (behind : List Token) → ts ≡ before ++ t ∷ behind → t.start ≤ place
  pub from : (place : ℕ) → stop ≡ Some place → at ≤ place

no_tokens : (before : List Token) (t : Token) (behind : List Token) → [] ≡ before ++ t ∷ behind → ⊥
no_tokens [] t behind e = cc
no_tokens (u ∷ before) t behind e = cc

some_place : {a b : ℕ} → Some a ≡ Some b → a ≡ b
some_place h = cc

pub falls_before : {at : ℕ} {bytes : List ℕ} {ts : List Token} {stop : Option ℕ} → Falls at bytes ts stop → Before bytes at ts stop
falls_before (ends at) = record {
  inside = λ place e. cc;
  first = λ before t behind e. absurd (no_tokens before t behind e);
  earlier = λ place e before t behind f. cc;
  from = λ place e. cc;
}
falls_before (skips at b bs ts stop white more) =
    let later = falls_before more in
    record {
      inside = λ place e. (let le = later.inside place e in omega arith);
      first = λ before t behind e. (let le = later.first before t behind e in omega arith);
      earlier = later.earlier;
      from = λ place e. (let le = later.from place e in omega arith);
    }
falls_before (takes at text rest form ts stop holds of more) =
    let later = falls_before more in
    let sum : length (text ++ rest) ≡ length text + length rest = length-append text rest in
    record {
      inside = λ place e. (let le = later.inside place e in omega arith);
      first = λ before t behind e. by_first at text rest form ts before t behind later.first (omega arith) sum e;
      earlier = λ place e before t behind f. (let le = later.from place e in by_earlier at text form ts place before t behind (later.earlier place e) (omega arith) f);
      from = λ place e. (let le = later.from place e in omega arith);
    }
  where
    by_first : (at : ℕ) (text rest : List ℕ) (form : Form) (ts before : List Token) (t : Token) (behind : List Token)
        → ((before : List Token) (t : Token) (behind : List Token) → ts ≡ before ++ t ∷ behind → t.start ≤ at + length text + length rest)
        → at ≤ at + length (text ++ rest) → length (text ++ rest) ≡ length text + length rest → token at text form ∷ ts ≡ before ++ t ∷ behind → t.start ≤ at + length (text ++ rest)
    by_first at text rest form ts [] t behind later low sum e = let same : token at text form ≡ t = cc in let start : at ≡ t.start = ap (λ u. u.start) same in omega arith
    by_first at text rest form ts (u ∷ before) t behind later low sum e = let same : ts ≡ before ++ t ∷ behind = cc in let le = later before t behind same in omega arith

    by_earlier : (at : ℕ) (text : List ℕ) (form : Form) (ts : List Token) (place : ℕ) (before : List Token) (t : Token) (behind : List Token)
        → ((before : List Token) (t : Token) (behind : List Token) → ts ≡ before ++ t ∷ behind → t.start ≤ place)
        → at ≤ place → token at text form ∷ ts ≡ before ++ t ∷ behind → t.start ≤ place
    by_earlier at text form ts place [] t behind later low e = let same : token at text form ≡ t = cc in let start : at ≡ t.start = ap (λ u. u.start) same in omega arith
    by_earlier at text form ts place (u ∷ before) t behind later low e = let same : ts ≡ before ++ t ∷ behind = cc in later before t behind same
falls_before (stops at b bs dark none) = record {
  inside = λ place e. (let same = some_place e in omega arith);
  first = λ before t behind e. absurd (no_tokens before t behind e);
  earlier = λ place e before t behind f. absurd (no_tokens before t behind f);
  from = λ place e. (let same = some_place e in omega arith);
}
