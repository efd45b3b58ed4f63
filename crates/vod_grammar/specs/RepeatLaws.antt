-- Phrases while the next token passes a test, all of one form: as where the form of each hangs on those before it.
use Rattle.std.proofs.Common.{◌≡◌, ℕ, zero, suc, List, [], ◌∷◌, ◌++◌, length, Option, None, Bool, if◌then◌else◌, refl, ap}
use Rattle.vod_expr.specs.Grammar.{Lexeme}
use Rattle.vod_grammar.specs.Form.{Form, Phrase, Depth, Sight, RepeatedPhrase, no_more, one_more, RepeatedDeep, in_next, in_later, RepeatedByPhrase, at_last, one_on, RepeatedByDeep, in_nearest, in_further, repeated, repeated_by}
use Rattle.vod_grammar.specs.Laws.{Laws}
use Rattle.vod_grammar.specs.Read.{Read, Reading, Got, Failed, first, passes, followed, repeat, repeat_within, repeat_by, repeat_by_within}
use Rattle.vod_grammar.specs.RepeatByLaws as by
use Rattle.vod_grammar.specs.SameLaws.{Same, same_laws}

-- a part has a token
abbrev pub HasToken : {A : Type 0} → Form A → Type 0
HasToken f = by.HasToken f

read_alike : {A B : Type 0} (r : Read A) (g h : A → Reading B) → ((x : A) (rest : List Lexeme) → g x rest ≡ h x rest) → followed r g ≡ followed r h
read_alike (Got x rest) g h same = same x rest
read_alike (Failed fault) g h same = refl

within_same : {A : Type 0} (n : ℕ) (test : Lexeme → Bool) (read : Reading A) (sofar : List A) (ts : List Lexeme) → repeat_within n test read sofar ts ≡ repeat_by_within n test (λ _. read) sofar ts
within_same zero test read sofar ts = refl
within_same (suc n) test read sofar ts =
    ap (λ r. if passes test (first ts None) then r else Got sofar ts)
    (read_alike (read ts) (λ x rest. repeat_within n test read (sofar ++ x ∷ []) rest) (λ x rest. repeat_by_within n test (λ _. read) (sofar ++ x ∷ []) rest)
    (λ x rest. within_same n test read (sofar ++ x ∷ []) rest))

into : {A : Type 0} (test : Lexeme → Bool) (P : Phrase A) (m : Sight) (sofar : List A) (ts : List Lexeme) (xs : List A) (b : Option Lexeme) → RepeatedPhrase test P m sofar ts xs b → RepeatedByPhrase test (λ _. P) m sofar ts xs b
into test P m sofar _ _ b (no_more stop) = at_last stop
into test P m sofar _ xs b (one_more {us = us} {vs = vs} {x = x} go p q) = one_on go p (into test P m (sofar ++ x ∷ []) vs xs b q)

out : {A : Type 0} (test : Lexeme → Bool) (P : Phrase A) (m : Sight) (sofar : List A) (ts : List Lexeme) (xs : List A) (b : Option Lexeme) → RepeatedByPhrase test (λ _. P) m sofar ts xs b → RepeatedPhrase test P m sofar ts xs b
out test P m sofar _ _ b (at_last stop) = no_more stop
out test P m sofar _ xs b (one_on {us = us} {vs = vs} {x = x} go p q) = one_more go p (out test P m (sofar ++ x ∷ []) vs xs b q)

into_deep : {A : Type 0} (test : Lexeme → Bool) (P : Phrase A) (D : Depth) (sofar : List A) (front : List Lexeme) (t : Lexeme) → RepeatedDeep test P D front t → RepeatedByDeep test (λ _. P) (λ _. D) sofar front t
into_deep test P D sofar front t (in_next e d) = in_nearest e d
into_deep test P D sofar _ t (in_later {us = us} {front = front} {x = x} e p d) = in_further e p (into_deep test P D (sofar ++ x ∷ []) front t d)

out_deep : {A : Type 0} (test : Lexeme → Bool) (P : Phrase A) (D : Depth) (sofar : List A) (front : List Lexeme) (t : Lexeme) → RepeatedByDeep test (λ _. P) (λ _. D) sofar front t → RepeatedDeep test P D front t
out_deep test P D sofar front t (in_nearest e d) = in_next e d
out_deep test P D sofar _ t (in_further {us = us} {front = front} {x = x} e p d) = in_later e p (out_deep test P D (sofar ++ x ∷ []) front t d)

module _ {A : Type 0} (test : Lexeme → Bool) (f : Form A) where
  one_form : (sofar : List A) → Same (repeated_by test (λ _. f) sofar) (repeated test f sofar)
  unfolding repeat repeat_by
  one_form sofar = record {
    read = λ ts. within_same (length ts) test f.read sofar ts;
    into = λ m ts xs b p. into test f.phrase m sofar ts xs b p;
    out = λ m ts xs b p. out test f.phrase m sofar ts xs b p;
    into_deep = λ front t d. into_deep test f.phrase f.deep sofar front t d;
    out_deep = λ front t d. out_deep test f.phrase f.deep sofar front t d;
  }

  pub repeated_laws : Laws f → HasToken f → (sofar : List A) → Laws (repeated test f sofar)
  repeated_laws lf some sofar = same_laws (repeated_by test (λ _. f) sofar) (repeated test f sofar) (one_form sofar) (by.repeated_by_laws test (λ _. f) (λ _. lf) (λ _. some) sofar)
