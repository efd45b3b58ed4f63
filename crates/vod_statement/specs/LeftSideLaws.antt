-- The form of left sides is exact: its phrases are the left sides.
use Rattle.std.proofs.Common.{◌≡◌, ◌≤◌, ℕ, zero, suc, Bool, true, false, ◌||◌, List, [], ◌∷◌, ◌++◌, length, Option, Some, refl, sym, ◌∙◌, ap, arith}
use Rattle.std.proofs.lemmas.List.{length-append}
use Rattle.vod_token.specs.declared.TokenKind.TheVariants as kinds
use Rattle.vod_tree.specs.declared.expr.Expr.{Expr}
use Rattle.vod_tree.specs.declared.ident.Ident.{Ident}
use Rattle.vod_tree.specs.declared.statement.Lval.{Lval}
use Rattle.vod_tree.specs.declared.statement.LvalKind.TheVariants as kind
use Rattle.vod_expr.specs.Grammar.{Lexeme, IsExpr, IsName, ident_of}
use Rattle.vod_grammar.specs.EitherLaws.{either_laws}
use Rattle.vod_grammar.specs.Form.{Form, Sight, an_expression, a_word, a_name, nothing, in_turn, in_first, in_second, in_next, in_later, in_led, in_other, changed, led, unled, RepeatedDeep, behind, separated, word_form, name_form, expression_form, mapped, then}
use Rattle.vod_grammar.specs.Laws.{Laws, Begun}
use Rattle.vod_grammar.specs.ListLaws.{ReadBefore, Commas, last, next, commas_of, of_commas}
use Rattle.vod_grammar.specs.PartLaws.{mapped_laws, separated_laws, limit_laws, Limited}
use Rattle.vod_grammar.specs.Read.{first, passes}
use Rattle.vod_grammar.specs.ThenLaws.{then_laws}
use Rattle.vod_grammar.specs.TokenLaws.{word_laws, name_laws, give_laws, some_name, some_name-is}
use Rattle.vod_grammar.specs.WordLaws.{is_word-is, is_word-other, is_word-name, kind_same, word_is, word_token, word_token-is}
use Rattle.vod_grammar.specs.Words.{Is, is_word, same_kind}
use Rattle.vod_grammar.specs.declared.word.Word.TheVariants as word
use Rattle.vod_statement.specs.LeftSide.{IsLval, AreLvals, lval, name, index, range, concat, one, more}
use Rattle.vod_statement.specs.LeftSideForm.{lval_form, around, joined, selected, ranged, starts_lval}

-- phrases of the form are left sides
abbrev pub Are : Form Lval → Type 0
Are f = (m : Sight) (ts : List Lexeme) (x : Lval) (b : Option Lexeme) → f.phrase m ts x b → IsLval ts x

lvals_are : (f : Form Lval) → Are f → (m : Sight) (ts : List Lexeme) (xs : List Lval) (b : Option Lexeme) → Commas f.phrase m ts xs b → AreLvals ts xs
lvals_are f is m ts _ b (last {x = x} stop p) = one (is m ts x b p)
lvals_are f is m _ _ b (next {us = us} {vs = vs} {t = t} {x = x} {xs = xs} h p c) = more h (is m us x (Some t) p) (lvals_are f is m vs xs b c)

range_is : (t opener colon : Lexeme) (ts us : List Lexeme) (a d : Expr) → IsName t → Is word.OpenBracket opener → IsExpr 0 ts a → Is word.Colon colon → IsExpr 0 us d → (m : Sight) (vs : List Lexeme) (x : Lval) (b : Option Lexeme)
    → (mapped (λ _. lval t.place (kind.Range (ident_of t) a d)) (word_form word.CloseBracket)).phrase m vs x b → IsLval (t ∷ opener ∷ (ts ++ colon ∷ (us ++ vs))) x
range_is t opener colon ts us a d h o e k g m _ _ b (changed (a_word c)) = range h o e k g c

ranged_is : (t opener : Lexeme) (ts : List Lexeme) (a : Expr) → IsName t → Is word.OpenBracket opener → IsExpr 0 ts a → (m : Sight) (us : List Lexeme) (x : Lval) (b : Option Lexeme)
    → (ranged (ident_of t) a).phrase m us x b → IsLval (t ∷ opener ∷ (ts ++ us)) x
ranged_is t opener ts a h o e m _ x b (led {t = colon} k (in_turn {us = us} {vs = vs} {x = d} (an_expression g s) q)) = range_is t opener colon ts us a d h o e k g m vs x b q
ranged_is t opener ts a h o e m _ _ b (unled n (changed (a_word c))) = index h o e c

named_is : (t : Lexeme) → IsName t → (m : Sight) (us : List Lexeme) (x : Lval) (b : Option Lexeme) → (selected (ident_of t)).phrase m us x b → IsLval (t ∷ us) x
named_is t h m _ x b (led {t = opener} o (in_turn {us = ts} {vs = us} {x = a} (an_expression e r) q)) = ranged_is t opener ts a h o e m us x b q
named_is t h m _ _ b (unled n nothing) = name h

concat_is : (t : Lexeme) (us : List Lexeme) (xs : List Lval) → Is word.OpenBrace t → AreLvals us xs → (m : Sight) (vs : List Lexeme) (x : Lval) (b : Option Lexeme)
    → (mapped (λ _. lval t.place (kind.Concat xs)) (word_form word.CloseBrace)).phrase m vs x b → IsLval (t ∷ (us ++ vs)) x
concat_is t us xs o ds m _ _ b (changed (a_word c)) = concat o ds c

around_is : (f : Form Lval) → Are f → (m : Sight) (ts : List Lexeme) (x : Lval) (b : Option Lexeme) → (around f).phrase m ts x b → IsLval ts x
around_is f is m _ x b (led {t = t} o (in_turn {us = us} {vs = vs} {x = xs} p q)) = concat_is t us xs o (lvals_are f is m us xs (first vs b) (commas_of f m us xs (first vs b) p)) m vs x b q
around_is f is m _ x b (unled n (in_turn {vs = us} (a_name {t = t} h) q)) = named_is t h m us x b q

pub lval_is : (n : ℕ) (m : Sight) (ts : List Lexeme) (x : Lval) (b : Option Lexeme) → (lval_form n).phrase m ts x b → IsLval ts x
unfolding lval_form
lval_is zero m ts x b p = p
lval_is (suc n) m ts x b p = around_is (lval_form n) (lval_is n) m ts x b p

-- left sides are phrases of the form, before a token that doesn't begin a select
abbrev pub NoSelect : Option Lexeme → Type 0
NoSelect b = passes (is_word word.OpenBracket) b ≡ false

abbrev pub Lvals : Form Lval → Type 0
Lvals f = (m : Sight) (ts : List Lexeme) (x : Lval) (b : Option Lexeme) → NoSelect b → IsLval ts x → f.phrase m ts x b

are_lvals : (f : Form Lval) → Lvals f → (m : Sight) (ts : List Lexeme) (xs : List Lval) (t : Lexeme) → Is word.CloseBrace t → AreLvals ts xs → Commas f.phrase m ts xs (Some t)
are_lvals f into m ts _ t h (one {a = a} d) = last (λ e. is_word-other word.Comma word.CloseBrace t h) (into m ts a (Some t) (is_word-other word.OpenBracket word.CloseBrace t h) d)
are_lvals f into m _ _ t h (more {comma = comma} {ts = ts} {us = us} {a = a} {xs = xs} k d ds) =
    next k (into m ts a (Some comma) (is_word-other word.OpenBracket word.Comma comma k) d) (are_lvals f into m us xs t h ds)

is_around : ReadBefore → (f : Form Lval) → Lvals f → (m : Sight) (ts : List Lexeme) (x : Lval) (b : Option Lexeme) → NoSelect b → IsLval ts x → (around f).phrase m ts x b
is_around read f into m _ _ b nb (name {t = t} h) = unled (λ e. is_word-name word.OpenBrace t h) (in_turn (a_name h) (unled (λ e. nb) nothing))
is_around read f into m _ _ b nb (index {t = t} {closer = closer} {ts = ts} {a = a} h o e c) =
    unled (λ k. is_word-name word.OpenBrace t h)
    (in_turn (a_name h) (led o (in_turn (read m ts a word.CloseBracket closer e c refl) (unled (λ k. is_word-other word.Colon word.CloseBracket closer c) (changed (a_word c))))))
is_around read f into m _ _ b nb (range {t = t} {colon = colon} {closer = closer} {ts = ts} {us = us} {a = a} {b = d} h o e k g c) =
    unled (λ z. is_word-name word.OpenBrace t h)
    (in_turn (a_name h) (led o (in_turn (read m ts a word.Colon colon e k refl) (led k (in_turn (read m us d word.CloseBracket closer g c refl) (changed (a_word c)))))))
is_around read f into m _ _ b nb (concat {closer = closer} {ts = ts} {xs = xs} o ds c) =
    led o (in_turn (of_commas f m ts xs (Some closer) (are_lvals f into m ts xs closer c ds)) (changed (a_word c)))

pub is_lval : ReadBefore → (n : ℕ) (m : Sight) (ts : List Lexeme) (x : Lval) (b : Option Lexeme) → NoSelect b → IsLval ts x → (lval_form n).phrase m ts x b
unfolding lval_form
is_lval read zero m ts x b nb d = d
is_lval read (suc n) m ts x b nb d = is_around read (lval_form n) (is_lval read n) m ts x b nb d

-- the laws of the form
ranged_laws : Laws expression_form → (n : Ident) (a : Expr) → Laws (ranged n a)
ranged_laws le n a =
    either_laws word.Colon _ _
    (λ _. then_laws expression_form _ le (λ b. mapped_laws _ (word_form word.CloseBracket) (word_laws word.CloseBracket)))
    (mapped_laws _ (word_form word.CloseBracket) (word_laws word.CloseBracket))

selected_laws : Laws expression_form → (n : Ident) → Laws (selected n)
selected_laws le n = either_laws word.OpenBracket _ _ (λ _. then_laws expression_form (ranged n) le (ranged_laws le n)) (give_laws _)

around_laws : Laws expression_form → (f : Form Lval) → Laws f → Laws (around f)
around_laws le f lf =
    either_laws word.OpenBrace (joined f) (then name_form selected)
    (λ place. then_laws (separated f) _ (separated_laws f lf) (λ xs. mapped_laws _ (word_form word.CloseBrace) (word_laws word.CloseBrace)))
    (then_laws name_form selected name_laws (selected_laws le))

-- the first token
pub or_left : (a b : Bool) → a ≡ true → (a || b) ≡ true
or_left a b e = ap (λ v. v || b) e

pub or_right : (a b : Bool) → b ≡ true → (a || b) ≡ true
or_right true b e = refl
or_right false b e = e

starts_name : (t : Lexeme) → IsName t → starts_lval t ≡ true
starts_name t h = or_right (is_word word.OpenBrace t) (same_kind t.kind kinds.Name) (ap (λ k. same_kind k kinds.Name) h)

pub lval_starts : (ts : List Lexeme) (x : Lval) → IsLval ts x → (t : Lexeme) × (us : List Lexeme) × (ts ≡ t ∷ us) × (starts_lval t ≡ true)
lval_starts _ _ (name {t = t} h) = (t, [], refl, starts_name t h)
lval_starts _ _ (index {t = t} h o e c) = (t, _, refl, starts_name t h)
lval_starts _ _ (range {t = t} h o e k g c) = (t, _, refl, starts_name t h)
lval_starts _ _ (concat {opener = t} o ds c) = (t, _, refl, or_left (is_word word.OpenBrace t) (same_kind t.kind kinds.Name) (is_word-is word.OpenBrace t o))

pub lval_begins : (t : Lexeme) → starts_lval t ≡ true → Begun (λ m ts x b. IsLval ts x) (t ∷ [])
lval_begins t e = by (is_word word.OpenBrace t) refl
  where
    by : (b : Bool) → is_word word.OpenBrace t ≡ b → Begun (λ m ts x b. IsLval ts x) (t ∷ [])
    by true h = record { more = some_name ∷ word_token word.CloseBrace ∷ []; value = _; is = concat (word_is word.OpenBrace t h) (one (name some_name-is)) (word_token-is word.CloseBrace) }
    by false h = record { more = []; value = _; is = name (kind_same t.kind kinds.Name (sym (ap (λ b. b || same_kind t.kind kinds.Name) h) ∙ e)) }

lval_limited : Limited starts_lval (λ m ts x b. IsLval ts x)
lval_limited = record {
  example = record { tokens = some_name ∷ []; value = _; is = name some_name-is };
  free = λ ts x b c p. p;
  wider = λ ts x b p. p;
  ends = λ ts x b p. p;
  starts = λ ts x b p. lval_starts ts x p;
  begins = lval_begins;
}

pub lval_laws : Laws expression_form → (n : ℕ) → Laws (lval_form n)
unfolding lval_form
lval_laws le zero = limit_laws starts_lval (λ m ts x b. IsLval ts x) lval_limited
lval_laws le (suc n) = around_laws le (lval_form n) (lval_laws le n)

-- where a part is nested too deep, as many tokens stand before it as there are levels
abbrev pub IsFar : Form Lval → ℕ → Type 0
IsFar f n = (front : List Lexeme) (t : Lexeme) → f.deep front t → n ≤ length front

longer : (us front : List Lexeme) (n : ℕ) → n ≤ length front → n ≤ length (us ++ front)
longer us front n h = let e = length-append us front in omega (arith, h, e)

behind_far : (f : Form Lval) (n : ℕ) → IsFar f n → (front : List Lexeme) (t : Lexeme) → (behind word.Comma f).deep front t → n ≤ length front
behind_far f n far front t (in_first d) = absurd d
behind_far f n far _ t (in_second {us = us} {front = front} p d) = longer us front n (far front t d)

more_far : (f : Form Lval) (n : ℕ) → IsFar f n → (front : List Lexeme) (t : Lexeme)
    → RepeatedDeep (is_word word.Comma) (behind word.Comma f).phrase (behind word.Comma f).deep front t → n ≤ length front
more_far f n far front t (in_next e d) = behind_far f n far front t d
more_far f n far _ t (in_later {us = us} {front = front} e p d) = longer us front n (more_far f n far front t d)

parts_far : (f : Form Lval) (n : ℕ) → IsFar f n → (front : List Lexeme) (t : Lexeme) → (separated f).deep front t → n ≤ length front
parts_far f n far front t (in_first d) = far front t d
parts_far f n far _ t (in_second {us = us} {front = front} p d) = longer us front n (more_far f n far front t d)

around_far : (f : Form Lval) (n : ℕ) → IsFar f n → (front : List Lexeme) (t : Lexeme) → (around f).deep front t → suc n ≤ length front
around_far f n far _ t (in_led {front = front} h (in_first d)) = let k = parts_far f n far front t d in omega (arith, k)
around_far f n far _ t (in_led h (in_second p d)) = absurd d
around_far f n far _ t (in_other e (in_first d)) = absurd d
around_far f n far _ t (in_other e (in_second p (in_led h (in_first d)))) = absurd d
around_far f n far _ t (in_other e (in_second p (in_led h (in_second q (in_led k (in_first d)))))) = absurd d
around_far f n far _ t (in_other e (in_second p (in_led h (in_second q (in_led k (in_second r d)))))) = absurd d
around_far f n far _ t (in_other e (in_second p (in_led h (in_second q (in_other k d))))) = absurd d
around_far f n far _ t (in_other e (in_second p (in_other k d))) = absurd d

pub lval_deep : (n : ℕ) (front : List Lexeme) (t : Lexeme) → (lval_form n).deep front t → n ≤ length front
unfolding lval_form
lval_deep zero front t d = omega arith
lval_deep (suc n) front t d = around_far (lval_form n) n (lval_deep n) front t d
