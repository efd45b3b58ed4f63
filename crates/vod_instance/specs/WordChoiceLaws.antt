-- The laws of a choice of words.
use Rattle.std.proofs.Common.{◌≡◌, inl, inr, Bool, true, false, ◌||◌, cond, List, [], ◌∷◌, Option, refl, sym, ◌∙◌, ap, subst}
use Rattle.vod_expr.specs.Grammar.{Lexeme, IsName}
use Rattle.vod_grammar.specs.EitherLaws.{either_laws}
use Rattle.vod_grammar.specs.Form.{Sight, WordPhrase, a_word, nothing, MappedPhrase, changed, led, unled, word_form, give}
use Rattle.vod_grammar.specs.Laws.{Laws}
use Rattle.vod_grammar.specs.PartLaws.{mapped_laws}
use Rattle.vod_grammar.specs.Read as reads
use Rattle.vod_grammar.specs.Read.{Got, followed, is_next, place_of, rest_of, refuse}
use Rattle.vod_grammar.specs.TokenLaws.{word_laws, give_laws}
use Rattle.vod_grammar.specs.WordLaws.{word_is, is_word-is, is_word-other, is_word-name}
use Rattle.vod_grammar.specs.Words.{Is, is_word, are_same}
use Rattle.vod_grammar.specs.declared.word.Word.{Word}
use Rattle.vod_instance.specs.ShallowLaws.{Shallow, word_shallow, give_shallow, mapped_shallow, either_shallow}
use Rattle.vod_instance.specs.WordChoice.{IsWordOf, its_word, one_of, word_read, is_one_of, IsFirst, is_spelled_as}

module _ {A : Type 0} (word_of : A → Word) where
  -- the code reads the same
  alone_read : (b : Bool) (x : A) (ts : List Lexeme) → followed (cond b (Got (place_of ts) (rest_of ts)) (refuse ts)) (λ _. reads.give x) ≡ cond b (Got x (rest_of ts)) (refuse ts)
  alone_read true x ts = refl
  alone_read false x ts = refl

  pub one_of_read : (x : A) (ys : List A) (ts : List Lexeme) → (one_of word_of x ys).read ts ≡ word_read word_of (x ∷ ys) ts
  one_of_read x [] ts = alone_read (is_next (word_of x) ts) x ts
  one_of_read x (y ∷ ys) ts = ap (λ r. cond (is_next (word_of x) ts) (Got x (rest_of ts)) r) (one_of_read y ys ts)

  -- its phrases are the words
  pub one_of_is : (x : A) (ys : List A) (m : Sight) (ts : List Lexeme) (k : A) (b : Option Lexeme) → (one_of word_of x ys).phrase m ts k b → IsWordOf word_of ts k
  one_of_is x [] m _ _ b (changed (a_word h)) = its_word h
  one_of_is x (y ∷ ys) m _ _ b (led h nothing) = its_word h
  one_of_is x (y ∷ ys) m ts k b (unled n p) = one_of_is y ys m ts k b p

  same_word : (x k : A) (t : Lexeme) → x ≡ k → Is (word_of k) t → Is (word_of x) t
  same_word x k t e h = subst (λ v. Is (word_of v) t) (sym e) h

  pub one_of_into : (x : A) (ys : List A) (m : Sight) (t : Lexeme) (k : A) (b : Option Lexeme) → IsFirst word_of (x ∷ ys) k → Is (word_of k) t → (one_of word_of x ys).phrase m (t ∷ []) k b
  one_of_into x [] m t k b (inl e) h =
      let p : MappedPhrase (λ _. x) (WordPhrase (word_of x)) m (t ∷ []) x b = changed (a_word (same_word x k t e h)) in
      subst (λ v. MappedPhrase (λ _. x) (WordPhrase (word_of x)) m (t ∷ []) v b) e p
  one_of_into x [] m t k b (inr n) h = absurd n.1
  one_of_into x (y ∷ ys) m t k b (inl e) h =
      let p : (one_of word_of x (y ∷ ys)).phrase m (t ∷ []) x b = led (same_word x k t e h) nothing in
      subst (λ v. (one_of word_of x (y ∷ ys)).phrase m (t ∷ []) v b) e p
  one_of_into x (y ∷ ys) m t k b (inr n) h = unled (λ z. is_word-other (word_of x) (word_of k) t h ∙ n.0) (one_of_into y ys m t k b n.1 h)

  pub one_of_laws : (x : A) (ys : List A) → Laws (one_of word_of x ys)
  one_of_laws x [] = mapped_laws (λ _. x) (word_form (word_of x)) (word_laws (word_of x))
  one_of_laws x (y ∷ ys) = either_laws (word_of x) (λ _. give x) (one_of word_of y ys) (λ _. give_laws x) (one_of_laws y ys)

  pub one_of_shallow : (x : A) (ys : List A) → Shallow (one_of word_of x ys)
  one_of_shallow x [] = mapped_shallow (λ _. x) (word_form (word_of x)) (word_shallow (word_of x))
  one_of_shallow x (y ∷ ys) = either_shallow (word_of x) (λ _. give x) (one_of word_of y ys) (λ _. give_shallow x) (one_of_shallow y ys)

  -- the test tells such words
  or_left : (a b : Bool) → a ≡ true → (a || b) ≡ true
  or_left a b e = ap (λ v. v || b) e

  or_right : (a b : Bool) → b ≡ true → (a || b) ≡ true
  or_right true b e = refl
  or_right false b e = e

  pub is_one_of-is : (xs : List A) (k : A) (t : Lexeme) → IsFirst word_of xs k → Is (word_of k) t → is_one_of word_of xs t ≡ true
  is_one_of-is [] k t n h = absurd n
  is_one_of-is (x ∷ xs) k t (inl e) h = or_left (is_word (word_of x) t) (is_one_of word_of xs t) (is_word-is (word_of x) t (same_word x k t e h))
  is_one_of-is (x ∷ xs) k t (inr n) h = or_right (is_word (word_of x) t) (is_one_of word_of xs t) (is_one_of-is xs k t n.1 h)

  pub one_of-is : (xs : List A) (t : Lexeme) → is_one_of word_of xs t ≡ true → (k : A) × Is (word_of k) t
  one_of-is [] t e = cc
  one_of-is (x ∷ xs) t e = by (is_word (word_of x) t) refl (one_of-is xs t)
    where
      by : (b : Bool) → is_word (word_of x) t ≡ b → (is_one_of word_of xs t ≡ true → (k : A) × Is (word_of k) t) → (k : A) × Is (word_of k) t
      by true h later = (x, word_is (word_of x) t h)
      by false h later = later (ap (λ v. v || is_one_of word_of xs t) (sym h) ∙ e)

  -- a word is one of them where it is spelled so, and no name is
  pub is_one_of-word : (xs : List A) (w : Word) (t : Lexeme) → Is w t → is_one_of word_of xs t ≡ is_spelled_as word_of xs w
  is_one_of-word [] w t h = refl
  is_one_of-word (x ∷ xs) w t h =
      ap (λ v. v || is_one_of word_of xs t) (is_word-other (word_of x) w t h) ∙ ap (λ v. are_same (word_of x) w || v) (is_one_of-word xs w t h)

  pub is_one_of-name : (xs : List A) (t : Lexeme) → IsName t → is_one_of word_of xs t ≡ false
  is_one_of-name [] t h = refl
  is_one_of-name (x ∷ xs) t h = ap (λ v. v || is_one_of word_of xs t) (is_word-name (word_of x) t h) ∙ is_one_of-name xs t h
