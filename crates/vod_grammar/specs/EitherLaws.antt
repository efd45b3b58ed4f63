-- What a word begins, or else another phrase.
use Rattle.std.proofs.Common.{◌≡◌, ◌⊎◌, inl, inr, ℕ, List, [], ◌∷◌, ◌++◌, Option, None, Some, Bool, true, false, cond, refl, sym, ◌∙◌, ap, subst}
use Rattle.vod_expr.specs.Grammar.{Lexeme}
use Rattle.vod_expr.specs.declared.ParseFault.{ParseFault}
use Rattle.vod_expr.specs.declared.ParseFault.TheVariants.{Statement}
use Rattle.vod_grammar.specs.Form.{Form, Alone, Before, led, unled, in_led, in_other, either}
use Rattle.vod_grammar.specs.Laws.{Laws, Begun, Taken, Stopped, Halted, Unfinished, Passed, AreLexemes}
use Rattle.vod_grammar.specs.Read.{Got, Failed, first, passes}
use Rattle.vod_grammar.specs.Words.{Is, is_word}
use Rattle.vod_grammar.specs.declared.word.Word.{Word}
use Rattle.vod_grammar.specs.FrontLaws.{first-append, first_token}
use Rattle.vod_grammar.specs.WordLaws.{word_is, is_word-is}

module _ {A : Type 0} (w : Word) (f : ℕ → Form A) (g : Form A) (lf : (place : ℕ) → Laws (f place)) (lg : Laws g) where
  -- a token that is the word, and one that isn't; at the end there is none
  taken : (t : Lexeme) (ts : List Lexeme) → is_word w t ≡ true → (either w f g).read (t ∷ ts) ≡ (f t.place).read ts
  taken t ts e = ap (λ b. cond b ((f t.place).read ts) (g.read (t ∷ ts))) e

  passed_by : (ts : List Lexeme) → passes (is_word w) (first ts None) ≡ false → (either w f g).read ts ≡ g.read ts
  passed_by [] e = refl
  passed_by (t ∷ ts) e = ap (λ b. cond b ((f t.place).read ts) (g.read (t ∷ ts))) e

  other_sound : (ts : List Lexeme) (x : A) (rest : List Lexeme) → AreLexemes ts → passes (is_word w) (first ts None) ≡ false → (either w f g).read ts ≡ Got x rest → Taken (either w f g).phrase ts x rest
  other_sound ts x rest all e h =
      let p = lg.sound ts x rest all (sym (passed_by ts e) ∙ h) in
      record {
        front = p.front;
        split = p.split;
        is = unled (λ m. ap (passes (is_word w)) (sym (first-append p.front rest None) ∙ ap (λ v. first v None) (sym p.split)) ∙ e) p.is;
      }

  either_sound : (ts : List Lexeme) (x : A) (rest : List Lexeme) → AreLexemes ts → (either w f g).read ts ≡ Got x rest → Taken (either w f g).phrase ts x rest
  either_sound [] x rest all h = other_sound [] x rest all refl h
  either_sound (t ∷ ts) x rest all h = by (is_word w t) refl
    where
      by : (b : Bool) → is_word w t ≡ b → Taken (either w f g).phrase (t ∷ ts) x rest
      by true e =
          let p = (lf t.place).sound ts x rest all.1 (sym (taken t ts e) ∙ h) in
          record { front = t ∷ p.front; split = ap (λ v. t ∷ v) p.split; is = led (word_is w t e) p.is }
      by false e = other_sound (t ∷ ts) x rest all e h

  led_full : (t : Lexeme) (ts : List Lexeme) (x : A) (rest : List Lexeme) → Is w t → ((f t.place).read (ts ++ rest) ≡ Got x rest) ⊎ Passed (f t.place).deep ts
      → ((either w f g).read (t ∷ (ts ++ rest)) ≡ Got x rest) ⊎ Passed (either w f g).deep (t ∷ ts)
  led_full t ts x rest h (inl k) = inl (taken t (ts ++ rest) (is_word-is w t h) ∙ k)
  led_full t ts x rest h (inr d) = inr (record { front = t ∷ d.front; token = d.token; rest = d.rest; split = ap (λ v. t ∷ v) d.split; deep = in_led h d.deep })

  -- a token behind a front that doesn't begin with the word
  at_token : (front : List Lexeme) (t : Lexeme) (rest : List Lexeme) (b : Option Lexeme) → passes (is_word w) (first (front ++ t ∷ rest) b) ≡ false → passes (is_word w) (first front (Some t)) ≡ false
  at_token front t rest b e = ap (passes (is_word w)) (sym (first_token front t rest b)) ∙ e

  from_token : (front : List Lexeme) (t : Lexeme) (rest : List Lexeme) (b : Option Lexeme) → passes (is_word w) (first front (Some t)) ≡ false → passes (is_word w) (first (front ++ t ∷ rest) b) ≡ false
  from_token front t rest b e = ap (passes (is_word w)) (first_token front t rest b) ∙ e

  unled_full : (ts : List Lexeme) (x : A) (rest : List Lexeme) → passes (is_word w) (first ts (first rest None)) ≡ false → (g.read (ts ++ rest) ≡ Got x rest) ⊎ Passed g.deep ts
      → ((either w f g).read (ts ++ rest) ≡ Got x rest) ⊎ Passed (either w f g).deep ts
  unled_full ts x rest e (inl k) = inl (passed_by (ts ++ rest) (ap (passes (is_word w)) (first-append ts rest None) ∙ e) ∙ k)
  unled_full ts x rest e (inr d) = inr (record {
    front = d.front;
    token = d.token;
    rest = d.rest;
    split = d.split;
    deep = in_other (at_token d.front d.token d.rest (first rest None) (ap (λ v. passes (is_word w) (first v (first rest None))) (sym d.split) ∙ e)) d.deep;
  })

  either_full : (ts : List Lexeme) (x : A) (b : Option Lexeme) (rest : List Lexeme) → b ≡ first rest None → (either w f g).phrase Before ts x b → ((either w f g).read (ts ++ rest) ≡ Got x rest) ⊎ Passed (either w f g).deep ts
  either_full _ x b rest e (led {t = t} {ts = ts} h p) = led_full t ts x rest h ((lf t.place).full ts x rest (subst ((f t.place).phrase Before ts x) e p))
  either_full _ x b rest e (unled {ts = ts} n p) =
      unled_full ts x rest (ap (λ v. passes (is_word w) (first ts v)) (sym e) ∙ n refl) (lg.full ts x rest (subst (g.phrase Before ts x) e p))

  none_alone : (ts : List Lexeme) (b : Option Lexeme) → Alone ≡ Before → passes (is_word w) (first ts b) ≡ false
  none_alone ts b e = cc

  either_free : (ts : List Lexeme) (x : A) (b c : Option Lexeme) → (either w f g).phrase Alone ts x b → (either w f g).phrase Alone ts x c
  either_free _ x b c (led {t = t} {ts = ts} h p) = led h ((lf t.place).free ts x b c p)
  either_free _ x b c (unled {ts = ts} n p) = unled (none_alone ts c) (lg.free ts x b c p)

  either_wider : (ts : List Lexeme) (x : A) (b : Option Lexeme) → (either w f g).phrase Before ts x b → (either w f g).phrase Alone ts x b
  either_wider _ x b (led {t = t} {ts = ts} h p) = led h ((lf t.place).wider ts x b p)
  either_wider _ x b (unled {ts = ts} n p) = unled (none_alone ts b) (lg.wider ts x b p)

  at_end : (ts : List Lexeme) (b : Option Lexeme) → passes (is_word w) (first ts b) ≡ false → passes (is_word w) (first ts None) ≡ false
  at_end [] b e = refl
  at_end (t ∷ ts) b e = e

  either_ends : (ts : List Lexeme) (x : A) (b : Option Lexeme) → (either w f g).phrase Before ts x b → (either w f g).phrase Before ts x None
  either_ends _ x b (led {t = t} {ts = ts} h p) = led h ((lf t.place).ends ts x b p)
  either_ends _ x b (unled {ts = ts} n p) = unled (λ m. at_end ts b (n refl)) (lg.ends ts x b p)

  other_begun : (front : List Lexeme) → Begun g.phrase front → Begun (either w f g).phrase front
  other_begun front b = record { more = b.more; value = b.value; is = unled (none_alone (front ++ b.more) None) b.is }

  led_begun : (t : Lexeme) (front : List Lexeme) → Is w t → Begun (f t.place).phrase front → Begun (either w f g).phrase (t ∷ front)
  led_begun t front h b = record { more = b.more; value = b.value; is = led h b.is }

  led_unfinished : (t : Lexeme) (ts : List Lexeme) → is_word w t ≡ true → Unfinished (f t.place) ts → Unfinished (either w f g) (t ∷ ts)
  led_unfinished t ts e (inl h) = inl (taken t ts e ∙ h)
  led_unfinished t ts e (inr h) = inr (h.0, taken t ts e ∙ h.1)

  other_unfinished : (ts : List Lexeme) → passes (is_word w) (first ts None) ≡ false → Unfinished g ts → Unfinished (either w f g) ts
  other_unfinished ts e (inl h) = inl (passed_by ts e ∙ h)
  other_unfinished ts e (inr h) = inr (h.0, passed_by ts e ∙ h.1)

  led_stops : (t : Lexeme) (ts : List Lexeme) (fault : ParseFault) → is_word w t ≡ true → Stopped (f t.place) ts fault ⊎ Halted (f t.place) ts fault → Stopped (either w f g) (t ∷ ts) fault ⊎ Halted (either w f g) (t ∷ ts) fault
  led_stops t ts fault e (inl s) = inl (record {
    front = t ∷ s.front;
    rest = s.rest;
    split = ap (λ v. t ∷ v) s.split;
    is = s.is;
    begun = led_begun t s.front (word_is w t e) s.begun;
    same = λ u us other k. taken t (s.front ++ u ∷ other) e ∙ s.same u us other k;
  })
  led_stops t ts fault e (inr h) = inr (record {
    front = t ∷ h.front;
    token = h.token;
    rest = h.rest;
    split = ap (λ v. t ∷ v) h.split;
    is = h.is;
    deep = in_led (word_is w t e) h.deep;
    same = λ other. taken t (h.front ++ h.token ∷ other) e ∙ h.same other;
    ahead = led_unfinished t h.front e h.ahead;
  })

  other_stops : (ts : List Lexeme) (fault : ParseFault) → passes (is_word w) (first ts None) ≡ false → Stopped g ts fault ⊎ Halted g ts fault → Stopped (either w f g) ts fault ⊎ Halted (either w f g) ts fault
  other_stops ts fault e (inl s) = inl (record {
    front = s.front;
    rest = s.rest;
    split = s.split;
    is = s.is;
    begun = other_begun s.front s.begun;
    same = λ t us other k.
        passed_by (s.front ++ t ∷ other)
        (from_token s.front t other None (at_token s.front t us None (ap (λ v. passes (is_word w) (first v None)) (sym (s.split ∙ ap (λ v. s.front ++ v) k)) ∙ e)))
        ∙ s.same t us other k;
  })
  other_stops ts fault e (inr h) =
      let token : passes (is_word w) (first h.front (Some h.token)) ≡ false = at_token h.front h.token h.rest None (ap (λ v. passes (is_word w) (first v None)) (sym h.split) ∙ e) in
      inr (record {
        front = h.front;
        token = h.token;
        rest = h.rest;
        split = h.split;
        is = h.is;
        deep = in_other token h.deep;
        same = λ other. passed_by (h.front ++ h.token ∷ other) (from_token h.front h.token other None token) ∙ h.same other;
        ahead = other_unfinished h.front (at_end h.front (Some h.token) token) h.ahead;
      })

  either_stops : (ts : List Lexeme) (fault : ParseFault) → AreLexemes ts → (either w f g).read ts ≡ Failed fault → Stopped (either w f g) ts fault ⊎ Halted (either w f g) ts fault
  either_stops [] fault all h = other_stops [] fault refl (lg.stops [] fault all h)
  either_stops (t ∷ ts) fault all h = by (is_word w t) refl
    where
      by : (b : Bool) → is_word w t ≡ b → Stopped (either w f g) (t ∷ ts) fault ⊎ Halted (either w f g) (t ∷ ts) fault
      by true e = led_stops t ts fault e ((lf t.place).stops ts fault all.1 (sym (taken t ts e) ∙ h))
      by false e = other_stops (t ∷ ts) fault e (lg.stops (t ∷ ts) fault all (sym (passed_by (t ∷ ts) e) ∙ h))

  either_halts : (front : List Lexeme) (u : Lexeme) (other : List Lexeme) → (either w f g).deep front u → (place : ℕ) × ((either w f g).read (front ++ u ∷ other) ≡ Failed (Statement place))
  either_halts _ u other (in_led {t = t} {front = front} h d) = let k = (lf t.place).halts front u other d in (k.0, taken t (front ++ u ∷ other) (is_word-is w t h) ∙ k.1)
  either_halts _ u other (in_other {front = front} e d) = let k = lg.halts front u other d in (k.0, passed_by (front ++ u ∷ other) (from_token front u other None e) ∙ k.1)

  either_begins : (front : List Lexeme) (u : Lexeme) → (either w f g).deep front u → Begun (either w f g).phrase (front ++ u ∷ [])
  either_begins _ u (in_led {t = t} {front = front} h d) = led_begun t (front ++ u ∷ []) h ((lf t.place).begins front u d)
  either_begins _ u (in_other {front = front} e d) = other_begun (front ++ u ∷ []) (lg.begins front u d)

  pub either_laws : Laws (either w f g)
  either_laws = record {
    example = record { tokens = lg.example.tokens; value = lg.example.value; is = unled (none_alone lg.example.tokens None) lg.example.is };
    empty = other_unfinished [] refl lg.empty;
    free = either_free;
    wider = either_wider;
    ends = either_ends;
    sound = either_sound;
    full = λ ts x rest p. either_full ts x (first rest None) rest refl p;
    stops = either_stops;
    halts = either_halts;
    begins = either_begins;
  }
