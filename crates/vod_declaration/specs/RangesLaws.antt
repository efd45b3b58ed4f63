-- The form of ranges is exact, and what begins with a sign and a range.
use Rattle.std.proofs.Common.{◌≡◌, ℕ, Bool, false, List, [], ◌∷◌, ◌++◌, Option, None, Some, refl, ◌∙◌}
use Rattle.vod_tree.specs.declared.declaration.Range.{Range}
use Rattle.vod_expr.specs.Grammar.{Lexeme}
use Rattle.vod_grammar.specs.Form.{Form, Sight, a_word, an_expression, nothing as no_token, in_turn, changed, led, unled, word_form, expression_form, then, flag}
use Rattle.vod_grammar.specs.ListLaws.{ReadBefore}
use Rattle.vod_grammar.specs.Read.{first, passes}
use Rattle.vod_grammar.specs.WordLaws.{is_word-other}
use Rattle.vod_grammar.specs.Words.{Is, is_word, are_same}
use Rattle.vod_grammar.specs.declared.word.Word.{Word}
use Rattle.vod_grammar.specs.declared.word.Word.TheVariants as word
use Rattle.vod_declaration.specs.FlatLaws.{Flat, word_flat, give_flat, mapped_flat, then_flat, either_flat, flag_flat, listed_flat}
use Rattle.vod_declaration.specs.Parts.{IsFlag, IsOptional, AreListed, nothing, something}
use Rattle.vod_declaration.specs.PartsForm.{listed}
use Rattle.vod_declaration.specs.PartsLaws.{Are, Of, Avoids, Unworded, avoids_more, listed_unworded, flag_is, is_flag, is_listed, listed_end, word_end}
use Rattle.vod_declaration.specs.Ranges.{IsRange, range, bounds}
use Rattle.vod_declaration.specs.RangesForm.{bounds as bounds_form, range_form, typed}

-- what stands behind `[` is a range with it
pub bounds_are : (t : Lexeme) → Is word.OpenBracket t → (m : Sight) (ts : List Lexeme) (r : Range) (b : Option Lexeme) → (bounds_form t.place).phrase m ts r b → IsRange (t ∷ ts) r
bounds_are t o m _ r b (in_turn {us = ts} {x = a} (an_expression d e) (in_turn (a_word {t = colon} k) (in_turn {us = us} {vs = vs} {x = c} (an_expression g h) q))) =
    word_end word.CloseBracket (range t.place a c) (λ v z. IsRange (t ∷ (ts ++ colon ∷ (us ++ v))) z) (λ closer s. bounds o d k g s) m vs r b q

pub range_are : Are range_form (IsOptional IsRange)
range_are m _ _ b (led {t = t} {ts = ts} o (changed {x = r} p)) = something (bounds_are t o m ts r b p)
range_are m _ _ b (unled n no_token) = nothing

-- what is so of `[` and what stands behind it is so of a range
pub range_from : ReadBefore → (R : List Lexeme → Range → Type 0)
    → ((t : Lexeme) (ts : List Lexeme) (r : Range) → Is word.OpenBracket t → ((m : Sight) (b : Option Lexeme) → (bounds_form t.place).phrase m ts r b) → R (t ∷ ts) r)
    → (ts : List Lexeme) (r : Range) → IsRange ts r → R ts r
range_from before R make _ _ (bounds {opener = opener} {colon = colon} {closer = closer} {ts = ts} {us = us} {a = a} {b = c} o d k e h) =
    make opener (ts ++ colon ∷ (us ++ closer ∷ [])) (range opener.place a c) o
    (λ m b. in_turn (before m ts a word.Colon colon d k refl) (in_turn (a_word k) (in_turn (before m us c word.CloseBracket closer e h refl) (changed (a_word h)))))

pub is_range : ReadBefore → (m : Sight) (ts : List Lexeme) (r : Option Range) (b : Option Lexeme) → passes (is_word word.OpenBracket) b ≡ false → IsOptional IsRange ts r → range_form.phrase m ts r b
is_range before m _ _ b n nothing = unled (λ e. n) no_token
is_range before m ts _ b n (something {x = r} d) = range_from before (λ us z. range_form.phrase m us (Some z) b) (λ t us z o p. led o (changed (p m b))) ts r d

pub range_begins : (w : Word) → are_same w word.OpenBracket ≡ false → (ts : List Lexeme) (r : Range) → IsRange ts r → Avoids w ts
range_begins w e _ _ (bounds {opener = opener} o d k g h) b = is_word-other w word.OpenBracket opener o ∙ e

pub range_avoids : (w : Word) → are_same w word.OpenBracket ≡ false → (ts : List Lexeme) (r : Option Range) → IsOptional IsRange ts r → (us : List Lexeme) → Avoids w us → Avoids w (ts ++ us)
range_avoids w e _ _ nothing us a = a
range_avoids w e ts _ (something {x = r} d) us a = avoids_more w ts us (range_begins w e ts r d)

-- a sign and a range, and what stands behind them
module _ {A : Type 0} (next : Bool → Option Range → Form A) where
  pub typed_end : (R : List Lexeme → A → Type 0) (m : Sight) (b : Option Lexeme)
      → ((ts us vs : List Lexeme) (s : Bool) (r : Option Range) (y : A) → IsFlag word.Signed ts s → IsOptional IsRange us r → (next s r).phrase m vs y b → R (ts ++ (us ++ vs)) y)
      → (ts : List Lexeme) (y : A) → (typed next).phrase m ts y b → R ts y
  typed_end R m b make _ y (in_turn {us = ts} {vs = ws} {x = s} p (in_turn {us = us} {vs = vs} {x = r} q l)) =
      make ts us vs s r y (flag_is word.Signed m ts s (first ws b) p) (range_are m us r (first vs b) q) l

  pub is_typed : ReadBefore → (m : Sight) (ts us vs : List Lexeme) (s : Bool) (r : Option Range) (y : A) (b : Option Lexeme) → IsFlag word.Signed ts s → IsOptional IsRange us r
      → Avoids word.Signed vs → Avoids word.OpenBracket vs → (next s r).phrase m vs y b → (typed next).phrase m (ts ++ (us ++ vs)) y b
  is_typed before m ts us vs s r y b d e n k p =
      in_turn (is_flag word.Signed m ts s (first (us ++ vs) b) (range_avoids word.Signed refl us r e vs n b) d) (in_turn (is_range before m us r (first vs b) (k b) e) p)

-- a sign, a range and a list
module _ {A B : Type 0} (make : Bool → Option Range → List A → B) (f : Form A) (P : List Lexeme → A → Type 0) where
  pub typed_list_end : Are f P → (R : List Lexeme → B → Type 0) (m : Sight) (b : Option Lexeme)
      → ((ts us vs : List Lexeme) (t : Lexeme) (s : Bool) (r : Option Range) (xs : List A) → IsFlag word.Signed ts s → IsOptional IsRange us r → AreListed P vs xs → Is word.Semicolon t
      → R (ts ++ (us ++ (vs ++ t ∷ []))) (make s r xs))
      → (ts : List Lexeme) (y : B) → (typed (λ s r. listed (make s r) f)).phrase m ts y b → R ts y
  typed_list_end is R m b join ts y p =
      typed_end (λ s r. listed (make s r) f) R m b
      (λ ts us vs s r z d e q. listed_end f P is (make s r) (λ v x. R (ts ++ (us ++ v)) x) (λ ws xs t l h. join ts us ws t s r xs d e l h) m vs z b q)
      ts y p

  pub is_typed_list : ReadBefore → (E : Option Lexeme → Type 0) → Of f P E → ((t : Lexeme) → Is word.Comma t → E (Some t)) → ((t : Lexeme) → Is word.Semicolon t → E (Some t)) → Unworded P
      → (m : Sight) (ts us vs : List Lexeme) (t : Lexeme) (s : Bool) (r : Option Range) (xs : List A) (b : Option Lexeme)
      → IsFlag word.Signed ts s → IsOptional IsRange us r → AreListed P vs xs → Is word.Semicolon t
      → (typed (λ s r. listed (make s r) f)).phrase m (ts ++ (us ++ (vs ++ t ∷ []))) (make s r xs) b
  is_typed_list before E of commas semicolons un m ts us vs t s r xs b d e l h =
      is_typed (λ s r. listed (make s r) f) before m ts us (vs ++ t ∷ []) s r (make s r xs) b d e
      (avoids_more word.Signed vs (t ∷ []) (listed_unworded P un word.Signed vs xs l))
      (avoids_more word.OpenBracket vs (t ∷ []) (listed_unworded P un word.OpenBracket vs xs l))
      (is_listed f P E of commas (make s r) m vs xs t b (semicolons t h) l h)

-- the laws of the forms
pub bounds_flat : Flat expression_form → (at : ℕ) → Flat (bounds_form at)
bounds_flat le at =
    then_flat expression_form _ le (λ a. then_flat (word_form word.Colon) _ (word_flat word.Colon) (λ _.
    then_flat expression_form _ le (λ c. mapped_flat (λ _. range at a c) (word_form word.CloseBracket) (word_flat word.CloseBracket))))

pub range_flat : Flat expression_form → Flat range_form
range_flat le = either_flat word.OpenBracket _ _ (λ at. mapped_flat _ (bounds_form at) (bounds_flat le at)) (give_flat None)

pub typed_flat : {A : Type 0} (next : Bool → Option Range → Form A) → Flat expression_form → ((s : Bool) (r : Option Range) → Flat (next s r)) → Flat (typed next)
typed_flat next le ln =
    then_flat (flag word.Signed) (λ s. then range_form (λ r. next s r)) (flag_flat word.Signed)
    (λ s. then_flat range_form (λ r. next s r) (range_flat le) (λ r. ln s r))

pub typed_list_flat : {A B : Type 0} (make : Bool → Option Range → List A → B) (f : Form A) → Flat expression_form → Flat f → Flat (typed (λ s r. listed (make s r) f))
typed_list_flat make f le lf = typed_flat (λ s r. listed (make s r) f) le (λ s r. listed_flat (make s r) f lf)
