-- Phrases while the next token passes a test, where the form of each hangs on those before it.
use Rattle.std.proofs.Common.{◌≡◌, ◌⊎◌, inl, inr, ℕ, zero, suc, ◌<◌, ◌≤◌, List, [], ◌∷◌, ◌++◌, length, length-append, arith, Option, None, Some, Bool, true, false, cond, refl, sym, ◌∙◌, ap, subst, append_assoc}
use Rattle.vod_expr.specs.Answer.{fault_at}
use Rattle.vod_expr.specs.Grammar.{Lexeme}
use Rattle.vod_expr.specs.declared.ParseFault.{ParseFault}
use Rattle.vod_expr.specs.declared.ParseFault.TheVariants.{At, End, Statement}
use Rattle.vod_grammar.specs.Form.{Form, Phrase, Depth, Alone, Before, RepeatedByPhrase, at_last, one_on, RepeatedByDeep, in_nearest, in_further, repeated_by}
use Rattle.vod_grammar.specs.Laws.{Laws, Begun, Taken, Stopped, Halted, Unfinished, Passed, AreLexemes}
use Rattle.vod_grammar.specs.Read.{Read, Reading, Got, Failed, first, passes, followed, repeat_by, repeat_by_within}
use Rattle.vod_grammar.specs.FrontLaws.{first-append, first_same, first_token, lexemes_behind, got_value, got_rest, failed_fault, got_failed, before_first, read_shallow}

-- a part has a token
abbrev pub HasToken : {A : Type 0} → Form A → Type 0
HasToken {A} f = (x : A) (b : Option Lexeme) → f.phrase Before [] x b → ⊥

-- the readings, phrases and depths of the forms
abbrev pub readings : {A : Type 0} → (List A → Form A) → List A → Reading A
readings f before = (f before).read

abbrev pub phrases : {A : Type 0} → (List A → Form A) → List A → Phrase A
phrases f before = (f before).phrase

abbrev pub deeps : {A : Type 0} → (List A → Form A) → List A → Depth
deeps f before = (f before).deep

-- such phrases behind those that were read
abbrev pub Parts : {A : Type 0} → (Lexeme → Bool) → (List A → Form A) → List A → Phrase (List A)
Parts test f sofar = λ m ts xs b. RepeatedByPhrase test (phrases f) m sofar ts xs b

-- what the rounds have read ends before the phrases do, or is they whole
abbrev pub UnfinishedIn : {A : Type 0} → ℕ → (Lexeme → Bool) → (List A → Form A) → List A → List Lexeme → Type 0
UnfinishedIn {A} n test f sofar ts = (repeat_by_within n test (readings f) sofar ts ≡ Failed End) ⊎ ((xs : List A) × (repeat_by_within n test (readings f) sofar ts ≡ Got xs []))

-- where the rounds stop, however many there may be
record StoppedIn {A : Type 0} (test : Lexeme → Bool) (f : List A → Form A) (sofar : List A) (ts : List Lexeme) (fault : ParseFault) : Type 0 where
  front : List Lexeme
  rest : List Lexeme
  split : ts ≡ front ++ rest
  is : fault ≡ fault_at rest
  begun : Begun (Parts test f sofar) front
  same : (t : Lexeme) (us other : List Lexeme) → rest ≡ t ∷ us → (n : ℕ) → length (front ++ t ∷ other) ≤ n → repeat_by_within n test (readings f) sofar (front ++ t ∷ other) ≡ Failed (At t.place)

record HaltedIn {A : Type 0} (test : Lexeme → Bool) (f : List A → Form A) (sofar : List A) (ts : List Lexeme) (fault : ParseFault) : Type 0 where
  front : List Lexeme
  token : Lexeme
  rest : List Lexeme
  split : ts ≡ front ++ token ∷ rest
  is : fault ≡ Statement token.place
  deep : RepeatedByDeep test (phrases f) (deeps f) sofar front token
  same : (other : List Lexeme) (n : ℕ) → length (front ++ token ∷ other) ≤ n → repeat_by_within n test (readings f) sofar (front ++ token ∷ other) ≡ Failed (Statement token.place)
  ahead : (n : ℕ) → length front ≤ n → UnfinishedIn n test f sofar front

module _ {A : Type 0} (test : Lexeme → Bool) (f : List A → Form A) (lf : (before : List A) → Laws (f before)) (some : (before : List A) → HasToken (f before)) where
  abbrev within : ℕ → List A → List Lexeme → Read (List A)
  within n sofar ts = repeat_by_within n test (readings f) sofar ts

  -- a round, and the end of the rounds
  goes_on : (n : ℕ) (sofar : List A) (ts mid : List Lexeme) (x : A) → passes test (first ts None) ≡ true → (f sofar).read ts ≡ Got x mid → within (suc n) sofar ts ≡ within n (sofar ++ x ∷ []) mid
  goes_on n sofar ts mid x e h =
      ap (λ b. cond b (followed ((f sofar).read ts) (λ y rest. repeat_by_within n test (readings f) (sofar ++ y ∷ []) rest)) (Got sofar ts)) e
      ∙ ap (λ r. followed r (λ y rest. repeat_by_within n test (readings f) (sofar ++ y ∷ []) rest)) h

  breaks_off : (n : ℕ) (sofar : List A) (ts : List Lexeme) (fault : ParseFault) → passes test (first ts None) ≡ true → (f sofar).read ts ≡ Failed fault → within (suc n) sofar ts ≡ Failed fault
  breaks_off n sofar ts fault e h =
      ap (λ b. cond b (followed ((f sofar).read ts) (λ y rest. repeat_by_within n test (readings f) (sofar ++ y ∷ []) rest)) (Got sofar ts)) e
      ∙ ap (λ r. followed r (λ y rest. repeat_by_within n test (readings f) (sofar ++ y ∷ []) rest)) h

  is_over : (n : ℕ) (sofar : List A) (ts : List Lexeme) → passes test (first ts None) ≡ false → within n sofar ts ≡ Got sofar ts
  is_over zero sofar ts e = refl
  is_over (suc n) sofar ts e = ap (λ b. cond b (followed ((f sofar).read ts) (λ y rest. repeat_by_within n test (readings f) (sofar ++ y ∷ []) rest)) (Got sofar ts)) e

  -- a part takes a token
  shorter : (sofar : List A) (us mid : List Lexeme) (x : A) (b : Option Lexeme) → (f sofar).phrase Before us x b → length mid < length (us ++ mid)
  shorter sofar [] mid x b p = absurd (some sofar x b p)
  shorter sofar (u ∷ us) mid x b p = omega (arith, length-append us mid)

  first_part : (sofar : List A) (us mid : List Lexeme) (x : A) (b c d : Option Lexeme) → (f sofar).phrase Before us x b → first (us ++ mid) c ≡ first us d
  first_part sofar [] mid x b c d p = absurd (some sofar x b p)
  first_part sofar (u ∷ us) mid x b c d p = refl

  -- what is read is such phrases
  over_sound : (n : ℕ) (sofar : List A) (ts : List Lexeme) (zs : List A) (rest : List Lexeme) → passes test (first ts None) ≡ false → within n sofar ts ≡ Got zs rest
      → Taken (Parts test f sofar) ts zs rest
  over_sound n sofar ts zs rest e h =
      let same : Got sofar ts ≡ Got zs rest = sym (is_over n sofar ts e) ∙ h in
      let none : RepeatedByPhrase test (phrases f) Before sofar [] sofar (first rest None) = at_last (λ m. ap (λ v. passes test (first v None)) (sym (got_rest same)) ∙ e) in
      record { front = []; split = got_rest same; is = subst (λ v. RepeatedByPhrase test (phrases f) Before sofar [] v (first rest None)) (got_value same) none }

  part_sound : (sofar : List A) (ts mid : List Lexeme) (x : A) (zs : List A) (rest : List Lexeme) → passes test (first ts None) ≡ true → Taken (f sofar).phrase ts x mid
      → Taken (Parts test f (sofar ++ x ∷ [])) mid zs rest → Taken (Parts test f sofar) ts zs rest
  part_sound sofar ts mid x zs rest e p q = record {
    front = p.front ++ q.front;
    split = p.split ∙ ap (λ v. p.front ++ v) q.split ∙ sym (append_assoc p.front q.front rest);
    is = one_on
        (λ m. ap (passes test) (sym (first_part sofar p.front mid x (first mid None) None None p.is) ∙ ap (λ v. first v None) (sym p.split)) ∙ e)
        (subst ((f sofar).phrase Before p.front x) (ap (λ v. first v None) q.split ∙ first-append q.front rest None) p.is) q.is;
  }

  parts_sound : (n : ℕ) (sofar : List A) (ts : List Lexeme) → length ts ≤ n → (zs : List A) (rest : List Lexeme) → AreLexemes ts → within n sofar ts ≡ Got zs rest
      → Taken (Parts test f sofar) ts zs rest
  parts_sound zero sofar [] few zs rest all h = over_sound zero sofar [] zs rest refl h
  parts_sound zero sofar (t ∷ ts) few zs rest all h = absurd (omega arith)
  parts_sound (suc n) sofar ts few zs rest all h = by (λ x mid less own k. parts_sound n (sofar ++ x ∷ []) mid less zs rest own k) (passes test (first ts None)) refl
    where
      by_read : ((x : A) (mid : List Lexeme) → length mid ≤ n → AreLexemes mid → repeat_by_within n test (readings f) (sofar ++ x ∷ []) mid ≡ Got zs rest → Taken (Parts test f (sofar ++ x ∷ [])) mid zs rest) → passes test (first ts None) ≡ true → (r : Read A) → (f sofar).read ts ≡ r → Taken (Parts test f sofar) ts zs rest
      by_read later e (Failed fault) k = absurd (got_failed (sym h ∙ breaks_off n sofar ts fault e k))
      by_read later e (Got x mid) k =
          let p = (lf sofar).sound ts x mid all k in
          let less = shorter sofar p.front mid x (first mid None) p.is in
          part_sound sofar ts mid x zs rest e p
          (later x mid (omega (arith, ap length p.split)) (lexemes_behind p.front mid (subst AreLexemes p.split all)) (sym (goes_on n sofar ts mid x e k) ∙ h))

      by : ((x : A) (mid : List Lexeme) → length mid ≤ n → AreLexemes mid → repeat_by_within n test (readings f) (sofar ++ x ∷ []) mid ≡ Got zs rest → Taken (Parts test f (sofar ++ x ∷ [])) mid zs rest) → (b : Bool) → passes test (first ts None) ≡ b → Taken (Parts test f sofar) ts zs rest
      by later true e = by_read later e ((f sofar).read ts) refl
      by later false e = over_sound (suc n) sofar ts zs rest e h

  -- such phrases are read
  part_full : (n : ℕ) (sofar : List A) (us vs rest : List Lexeme) (x : A) (zs : List A) (b : Option Lexeme) → passes test (first us None) ≡ true → (f sofar).phrase Before us x b
      → ((f sofar).read (us ++ (vs ++ rest)) ≡ Got x (vs ++ rest)) ⊎ Passed (f sofar).deep us
      → (f sofar).phrase Before us x (first vs (first rest None))
      → (within n (sofar ++ x ∷ []) (vs ++ rest) ≡ Got zs rest) ⊎ Passed (RepeatedByDeep test (phrases f) (deeps f) (sofar ++ x ∷ [])) vs
      → (within (suc n) sofar ((us ++ vs) ++ rest) ≡ Got zs rest) ⊎ Passed (RepeatedByDeep test (phrases f) (deeps f) sofar) (us ++ vs)
  part_full n sofar us vs rest x zs b e p (inl h) q (inl k) =
      let starts : passes test (first (us ++ (vs ++ rest)) None) ≡ true = ap (passes test) (first_part sofar us (vs ++ rest) x b None None p) ∙ e in
      inl (ap (within (suc n) sofar) (append_assoc us vs rest) ∙ goes_on n sofar (us ++ (vs ++ rest)) (vs ++ rest) x starts h ∙ k)
  part_full n sofar us vs rest x zs b e p (inl h) q (inr d) = inr (record {
    front = us ++ d.front;
    token = d.token;
    rest = d.rest;
    split = ap (λ v. us ++ v) d.split ∙ sym (append_assoc us d.front (d.token ∷ d.rest));
    deep = in_further e (subst ((f sofar).phrase Before us x) (ap (λ v. first v (first rest None)) d.split ∙ first_token d.front d.token d.rest (first rest None)) q) d.deep;
  })
  part_full n sofar us vs rest x zs b e p (inr d) q k = inr (record {
    front = d.front;
    token = d.token;
    rest = d.rest ++ vs;
    split = ap (λ v. v ++ vs) d.split ∙ append_assoc d.front (d.token ∷ d.rest) vs;
    deep = in_nearest (ap (passes test) (sym (first_token d.front d.token d.rest None) ∙ ap (λ v. first v None) (sym d.split)) ∙ e) d.deep;
  })

  parts_full : (n : ℕ) (sofar : List A) (ts : List Lexeme) (zs : List A) (b : Option Lexeme) (rest : List Lexeme) → length (ts ++ rest) ≤ n → b ≡ first rest None
      → RepeatedByPhrase test (phrases f) Before sofar ts zs b → (within n sofar (ts ++ rest) ≡ Got zs rest) ⊎ Passed (RepeatedByDeep test (phrases f) (deeps f) sofar) ts
  parts_full n sofar _ _ b rest few e (at_last stop) = inl (is_over n sofar rest (ap (passes test) (sym e) ∙ stop refl))
  parts_full zero sofar _ zs b rest few e (one_on {us = us} {vs = vs} {x = x} go p q) =
      let less = shorter sofar us vs x (first vs b) p in absurd (omega (arith, length-append (us ++ vs) rest))
  parts_full (suc n) sofar _ zs b rest few e (one_on {us = us} {vs = vs} {x = x} go p q) =
      let less = shorter sofar us (vs ++ rest) x (first vs b) p in
      let p' : (f sofar).phrase Before us x (first vs (first rest None)) = subst (λ v. (f sofar).phrase Before us x (first vs v)) e p in
      part_full n sofar us vs rest x zs (first vs b) (go refl) p ((lf sofar).full us x (vs ++ rest) (subst ((f sofar).phrase Before us x) (sym (first-append vs rest None)) p')) p'
      (parts_full n (sofar ++ x ∷ []) vs zs b rest (omega (arith, ap length (append_assoc us vs rest))) e q)

  -- alone, the token behind doesn't count
  none_alone : (b : Option Lexeme) (v : Bool) → Alone ≡ Before → passes test b ≡ v
  none_alone b v e = cc

  parts_free : (sofar : List A) (ts : List Lexeme) (zs : List A) (b c : Option Lexeme) → RepeatedByPhrase test (phrases f) Alone sofar ts zs b → RepeatedByPhrase test (phrases f) Alone sofar ts zs c
  parts_free sofar _ _ b c (at_last stop) = at_last (none_alone c false)
  parts_free sofar _ zs b c (one_on {us = us} {vs = vs} {x = x} go p q) = one_on go ((lf sofar).free us x (first vs b) (first vs c) p) (parts_free (sofar ++ x ∷ []) vs zs b c q)

  parts_wider : (sofar : List A) (ts : List Lexeme) (zs : List A) (b : Option Lexeme) → RepeatedByPhrase test (phrases f) Before sofar ts zs b → RepeatedByPhrase test (phrases f) Alone sofar ts zs b
  parts_wider sofar _ _ b (at_last stop) = at_last (none_alone b false)
  parts_wider sofar _ zs b (one_on {us = us} {vs = vs} {x = x} go p q) = one_on (none_alone (first us None) true) ((lf sofar).wider us x (first vs b) p) (parts_wider (sofar ++ x ∷ []) vs zs b q)

  parts_end : (sofar : List A) (ts : List Lexeme) (zs : List A) (b : Option Lexeme) → RepeatedByPhrase test (phrases f) Before sofar ts zs b → RepeatedByPhrase test (phrases f) Before sofar ts zs None
  parts_end sofar _ _ b (at_last stop) = at_last (λ m. refl)
  parts_end sofar _ zs b (one_on {us = us} {vs = vs} {x = x} go p q) = one_on go (before_first (f sofar) (lf sofar) us x vs b p) (parts_end (sofar ++ x ∷ []) vs zs b q)

  -- a part that was begun, behind others
  next_begun : (sofar : List A) (front : List Lexeme) → Begun (f sofar).phrase front → Begun (Parts test f sofar) front
  next_begun sofar front b = record {
    more = b.more ++ [];
    value = sofar ++ b.value ∷ [];
    is = subst (λ v. RepeatedByPhrase test (phrases f) Alone sofar v (sofar ++ b.value ∷ []) None) (append_assoc front b.more [])
        (one_on (none_alone (first (front ++ b.more) None) true) b.is (at_last (none_alone None false)));
  }

  later_begun : (sofar : List A) (us front : List Lexeme) (x : A) (b : Option Lexeme) → (f sofar).phrase Before us x b → Begun (Parts test f (sofar ++ x ∷ [])) front
      → Begun (Parts test f sofar) (us ++ front)
  later_begun sofar us front x b p begun = record {
    more = begun.more;
    value = begun.value;
    is = subst (λ v. RepeatedByPhrase test (phrases f) Alone sofar v begun.value None) (sym (append_assoc us front begun.more))
        (one_on (none_alone (first us None) true) ((lf sofar).free us x b (first (front ++ begun.more) None) ((lf sofar).wider us x b p)) begun.is);
  }

  -- a token behind a front passes where the first does
  token_passes : (front : List Lexeme) (t : Lexeme) (rest : List Lexeme) (b : Option Lexeme) → passes test (first (front ++ t ∷ rest) b) ≡ true → passes test (first front (Some t)) ≡ true
  token_passes front t rest b e = ap (passes test) (sym (first_token front t rest b)) ∙ e

  passes_token : (front : List Lexeme) (t : Lexeme) (rest : List Lexeme) (b : Option Lexeme) → passes test (first front (Some t)) ≡ true → passes test (first (front ++ t ∷ rest) b) ≡ true
  passes_token front t rest b e = ap (passes test) (first_token front t rest b) ∙ e

  -- as many rounds as there are tokens are not none
  some_round : (front : List Lexeme) (t : Lexeme) (rest : List Lexeme) (n : ℕ) → length (front ++ t ∷ rest) ≤ n → (m : ℕ) × (n ≡ suc m)
  some_round front t rest zero h = absurd (omega (arith, length-append front (t ∷ rest)))
  some_round front t rest (suc m) h = (m, refl)

  next_fails : (sofar : List A) (front : List Lexeme) (t : Lexeme) (other : List Lexeme) (fault : ParseFault) → passes test (first front (Some t)) ≡ true → (f sofar).read (front ++ t ∷ other) ≡ Failed fault
      → (n : ℕ) → length (front ++ t ∷ other) ≤ n → repeat_by_within n test (readings f) sofar (front ++ t ∷ other) ≡ Failed fault
  next_fails sofar front t other fault e h n few =
      let m = some_round front t other n few in
      ap (λ v. within v sofar (front ++ t ∷ other)) m.1 ∙ breaks_off m.0 sofar (front ++ t ∷ other) fault (passes_token front t other None e) h

  -- a round with tokens that begin alike
  round : (sofar : List A) (us mid : List Lexeme) (x : A) → (f sofar).read (us ++ mid) ≡ Got x mid → passes test (first us None) ≡ true → (vs : List Lexeme) → (f sofar).phrase Before us x (first vs None)
      → (fault : ParseFault) → ((n : ℕ) → length vs ≤ n → repeat_by_within n test (readings f) (sofar ++ x ∷ []) vs ≡ Failed fault)
      → (n : ℕ) → length (us ++ vs) ≤ n → repeat_by_within n test (readings f) sofar (us ++ vs) ≡ Failed fault
  round sofar us mid x h e vs p fault later zero few = let less = shorter sofar us vs x (first vs None) p in absurd (omega arith)
  round sofar us mid x h e vs p fault later (suc n) few = by ((lf sofar).full us x vs p)
    where
      by : ((f sofar).read (us ++ vs) ≡ Got x vs) ⊎ Passed (f sofar).deep us → repeat_by_within (suc n) test (readings f) sofar (us ++ vs) ≡ Failed fault
      by (inl k) =
          let less = shorter sofar us vs x (first vs None) p in
          goes_on n sofar (us ++ vs) vs x (ap (passes test) (first_part sofar us vs x (first vs None) None None p) ∙ e) k ∙ later n (omega arith)
      by (inr d) = absurd (read_shallow (f sofar) (lf sofar) us mid x mid h d)

  nothing_more : (n : ℕ) (sofar : List A) → repeat_by_within n test (readings f) sofar [] ≡ Got sofar []
  nothing_more zero sofar = refl
  nothing_more (suc n) sofar = refl

  next_unfinished : (sofar : List A) (front : List Lexeme) (b : Option Lexeme) → passes test (first front b) ≡ true → Unfinished (f sofar) front → (n : ℕ) → length front ≤ n → UnfinishedIn n test f sofar front
  next_unfinished sofar [] b e u n few = inr (sofar, nothing_more n sofar)
  next_unfinished sofar (t ∷ front) b e u zero few = absurd (omega arith)
  next_unfinished sofar (t ∷ front) b e (inl h) (suc n) few = inl (breaks_off n sofar (t ∷ front) End e h)
  next_unfinished sofar (t ∷ front) b e (inr h) (suc n) few = inr (sofar ++ h.0 ∷ [], goes_on n sofar (t ∷ front) [] h.0 e h.1 ∙ nothing_more n (sofar ++ h.0 ∷ []))

  next_stops : (sofar : List A) (ts : List Lexeme) (fault : ParseFault) → passes test (first ts None) ≡ true → Stopped (f sofar) ts fault ⊎ Halted (f sofar) ts fault → StoppedIn test f sofar ts fault ⊎ HaltedIn test f sofar ts fault
  next_stops sofar ts fault e (inl s) = inl (record {
    front = s.front;
    rest = s.rest;
    split = s.split;
    is = s.is;
    begun = next_begun sofar s.front s.begun;
    same = λ t us other k. next_fails sofar s.front t other (At t.place) (token_passes s.front t us None (ap (λ v. passes test (first v None)) (sym (s.split ∙ ap (λ v. s.front ++ v) k)) ∙ e)) (s.same t us other k);
  })
  next_stops sofar ts fault e (inr h) =
      let token : passes test (first h.front (Some h.token)) ≡ true = token_passes h.front h.token h.rest None (ap (λ v. passes test (first v None)) (sym h.split) ∙ e) in
      inr (record {
        front = h.front;
        token = h.token;
        rest = h.rest;
        split = h.split;
        is = h.is;
        deep = in_nearest token h.deep;
        same = λ other. next_fails sofar h.front h.token other (Statement h.token.place) token (h.same other);
        ahead = next_unfinished sofar h.front (Some h.token) token h.ahead;
      })

  later_unfinished : (sofar : List A) (us front : List Lexeme) (x : A) (mid : List Lexeme) → (f sofar).read (us ++ mid) ≡ Got x mid → passes test (first us None) ≡ true → (f sofar).phrase Before us x (first front None)
      → ((n : ℕ) → length front ≤ n → UnfinishedIn n test f (sofar ++ x ∷ []) front) → (n : ℕ) → length (us ++ front) ≤ n → UnfinishedIn n test f sofar (us ++ front)
  later_unfinished sofar us front x mid h e p later zero few = let less = shorter sofar us front x (first front None) p in absurd (omega arith)
  later_unfinished sofar us front x mid h e p later (suc n) few = by ((lf sofar).full us x front p)
    where
      onto : (f sofar).read (us ++ front) ≡ Got x front → UnfinishedIn n test f (sofar ++ x ∷ []) front → UnfinishedIn (suc n) test f sofar (us ++ front)
      onto k (inl u) = inl (goes_on n sofar (us ++ front) front x (ap (passes test) (first_part sofar us front x (first front None) None None p) ∙ e) k ∙ u)
      onto k (inr u) = inr (u.0, goes_on n sofar (us ++ front) front x (ap (passes test) (first_part sofar us front x (first front None) None None p) ∙ e) k ∙ u.1)

      by : ((f sofar).read (us ++ front) ≡ Got x front) ⊎ Passed (f sofar).deep us → UnfinishedIn (suc n) test f sofar (us ++ front)
      by (inl k) = let less = shorter sofar us front x (first front None) p in onto k (later n (omega arith))
      by (inr d) = absurd (read_shallow (f sofar) (lf sofar) us mid x mid h d)

  later_stops : (sofar : List A) (ts : List Lexeme) (fault : ParseFault) (x : A) (mid : List Lexeme) → passes test (first ts None) ≡ true → (f sofar).read ts ≡ Got x mid → Taken (f sofar).phrase ts x mid
      → StoppedIn test f (sofar ++ x ∷ []) mid fault ⊎ HaltedIn test f (sofar ++ x ∷ []) mid fault → StoppedIn test f sofar ts fault ⊎ HaltedIn test f sofar ts fault
  later_stops sofar ts fault x mid e h p (inl s) =
      let read : (f sofar).read (p.front ++ mid) ≡ Got x mid = ap (f sofar).read (sym p.split) ∙ h in
      let starts : passes test (first p.front None) ≡ true = ap (passes test) (sym (first_part sofar p.front mid x (first mid None) None None p.is) ∙ ap (λ v. first v None) (sym p.split)) ∙ e in
      inl (record {
        front = p.front ++ s.front;
        rest = s.rest;
        split = p.split ∙ ap (λ v. p.front ++ v) s.split ∙ sym (append_assoc p.front s.front s.rest);
        is = s.is;
        begun = later_begun sofar p.front s.front x (first mid None) p.is s.begun;
        same = λ t us other k n few.
            ap (repeat_by_within n test (readings f) sofar) (append_assoc p.front s.front (t ∷ other))
            ∙ round sofar p.front mid x read starts (s.front ++ t ∷ other)
            (subst ((f sofar).phrase Before p.front x) (ap (λ v. first v None) (s.split ∙ ap (λ v. s.front ++ v) k) ∙ first_same s.front t us other None) p.is)
            (At t.place) (s.same t us other k) n (omega (arith, ap length (append_assoc p.front s.front (t ∷ other))));
      })
  later_stops sofar ts fault x mid e h p (inr s) =
      let read : (f sofar).read (p.front ++ mid) ≡ Got x mid = ap (f sofar).read (sym p.split) ∙ h in
      let starts : passes test (first p.front None) ≡ true = ap (passes test) (sym (first_part sofar p.front mid x (first mid None) None None p.is) ∙ ap (λ v. first v None) (sym p.split)) ∙ e in
      let token : (f sofar).phrase Before p.front x (first s.front (Some s.token)) = subst ((f sofar).phrase Before p.front x) (ap (λ v. first v None) s.split ∙ first_token s.front s.token s.rest None) p.is in
      inr (record {
        front = p.front ++ s.front;
        token = s.token;
        rest = s.rest;
        split = p.split ∙ ap (λ v. p.front ++ v) s.split ∙ sym (append_assoc p.front s.front (s.token ∷ s.rest));
        is = s.is;
        deep = in_further starts token s.deep;
        same = λ other n few.
            ap (repeat_by_within n test (readings f) sofar) (append_assoc p.front s.front (s.token ∷ other))
            ∙ round sofar p.front mid x read starts (s.front ++ s.token ∷ other) (subst ((f sofar).phrase Before p.front x) (sym (first_token s.front s.token other None)) token)
            (Statement s.token.place) (s.same other) n (omega (arith, ap length (append_assoc p.front s.front (s.token ∷ other))));
        ahead = later_unfinished sofar p.front s.front x mid read starts (before_first (f sofar) (lf sofar) p.front x s.front (Some s.token) token) s.ahead;
      })

  parts_stops : (n : ℕ) (sofar : List A) (ts : List Lexeme) → length ts ≤ n → (fault : ParseFault) → AreLexemes ts → repeat_by_within n test (readings f) sofar ts ≡ Failed fault
      → StoppedIn test f sofar ts fault ⊎ HaltedIn test f sofar ts fault
  parts_stops zero sofar ts few fault all h = absurd (got_failed h)
  parts_stops (suc n) sofar ts few fault all h = by (λ x mid less own k. parts_stops n (sofar ++ x ∷ []) mid less fault own k) (passes test (first ts None)) refl
    where
      by_read : ((x : A) (mid : List Lexeme) → length mid ≤ n → AreLexemes mid → repeat_by_within n test (readings f) (sofar ++ x ∷ []) mid ≡ Failed fault → StoppedIn test f (sofar ++ x ∷ []) mid fault ⊎ HaltedIn test f (sofar ++ x ∷ []) mid fault)
          → passes test (first ts None) ≡ true → (r : Read A) → (f sofar).read ts ≡ r → StoppedIn test f sofar ts fault ⊎ HaltedIn test f sofar ts fault
      by_read later e (Failed inner) k =
          let same : inner ≡ fault = failed_fault (sym (breaks_off n sofar ts inner e k) ∙ h) in
          next_stops sofar ts fault e ((lf sofar).stops ts fault all (k ∙ ap Failed same))
      by_read later e (Got x mid) k =
          let p = (lf sofar).sound ts x mid all k in
          let less = shorter sofar p.front mid x (first mid None) p.is in
          later_stops sofar ts fault x mid e k p
          (later x mid (omega (arith, ap length p.split)) (lexemes_behind p.front mid (subst AreLexemes p.split all)) (sym (goes_on n sofar ts mid x e k) ∙ h))

      by : ((x : A) (mid : List Lexeme) → length mid ≤ n → AreLexemes mid → repeat_by_within n test (readings f) (sofar ++ x ∷ []) mid ≡ Failed fault → StoppedIn test f (sofar ++ x ∷ []) mid fault ⊎ HaltedIn test f (sofar ++ x ∷ []) mid fault)
          → (b : Bool) → passes test (first ts None) ≡ b → StoppedIn test f sofar ts fault ⊎ HaltedIn test f sofar ts fault
      by later true e = by_read later e ((f sofar).read ts) refl
      by later false e = absurd (got_failed (sym (is_over (suc n) sofar ts e) ∙ h))

  parts_halt : (sofar : List A) (front : List Lexeme) (t : Lexeme) (other : List Lexeme) → RepeatedByDeep test (phrases f) (deeps f) sofar front t → (n : ℕ) → length (front ++ t ∷ other) ≤ n
      → (place : ℕ) × (repeat_by_within n test (readings f) sofar (front ++ t ∷ other) ≡ Failed (Statement place))
  parts_halt sofar front t other (in_nearest e d) n few = let h = (lf sofar).halts front t other d in (h.0, next_fails sofar front t other (Statement h.0) e h.1 n few)
  parts_halt sofar _ t other (in_further {us = us} {front = front} {x = x} e p d) n few =
      by ((lf sofar).full us x (front ++ t ∷ other) (subst ((f sofar).phrase Before us x) (sym (first_token front t other None)) p)) (λ m less. parts_halt (sofar ++ x ∷ []) front t other d m less)
    where
      by : ((f sofar).read (us ++ (front ++ t ∷ other)) ≡ Got x (front ++ t ∷ other)) ⊎ Passed (f sofar).deep us
          → ((m : ℕ) → length (front ++ t ∷ other) ≤ m → (place : ℕ) × (repeat_by_within m test (readings f) (sofar ++ x ∷ []) (front ++ t ∷ other) ≡ Failed (Statement place)))
          → (place : ℕ) × (repeat_by_within n test (readings f) sofar ((us ++ front) ++ t ∷ other) ≡ Failed (Statement place))
      by (inl k) later =
          let less = shorter sofar us (front ++ t ∷ other) x (first front (Some t)) p in
          let m = some_round (us ++ front) t other n few in
          let h = later m.0 (omega (arith, m.1, ap length (append_assoc us front (t ∷ other)))) in (
            h.0,
            ap (λ v. repeat_by_within v test (readings f) sofar ((us ++ front) ++ t ∷ other)) m.1
                ∙ ap (repeat_by_within (suc m.0) test (readings f) sofar) (append_assoc us front (t ∷ other))
                ∙ goes_on m.0 sofar (us ++ (front ++ t ∷ other)) (front ++ t ∷ other) x (ap (passes test) (first_part sofar us (front ++ t ∷ other) x (first front (Some t)) None None p) ∙ e) k
                ∙ h.1,
          )
      by (inr q) later =
          let h = (lf sofar).halts q.front q.token (q.rest ++ (front ++ t ∷ other)) q.deep in
          let same : (us ++ front) ++ t ∷ other ≡ q.front ++ q.token ∷ (q.rest ++ (front ++ t ∷ other)) =
          append_assoc us front (t ∷ other) ∙ ap (λ v. v ++ (front ++ t ∷ other)) q.split ∙ append_assoc q.front (q.token ∷ q.rest) (front ++ t ∷ other) in
          let starts : passes test (first q.front (Some q.token)) ≡ true = token_passes q.front q.token q.rest None (ap (λ v. passes test (first v None)) (sym q.split) ∙ e) in (
            h.0,
            ap (repeat_by_within n test (readings f) sofar) same
                ∙ next_fails sofar q.front q.token (q.rest ++ (front ++ t ∷ other)) (Statement h.0) starts h.1 n (omega (arith, few, ap length same)),
          )

  parts_begin : (sofar : List A) (front : List Lexeme) (t : Lexeme) → RepeatedByDeep test (phrases f) (deeps f) sofar front t → Begun (Parts test f sofar) (front ++ t ∷ [])
  parts_begin sofar front t (in_nearest e d) = next_begun sofar (front ++ t ∷ []) ((lf sofar).begins front t d)
  parts_begin sofar _ t (in_further {us = us} {front = front} {x = x} e p d) =
      let b = later_begun sofar us (front ++ t ∷ []) x (first front (Some t)) p (parts_begin (sofar ++ x ∷ []) front t d) in
      record { more = b.more; value = b.value; is = subst (λ v. Parts test f sofar Alone v b.value None) (ap (λ v. v ++ b.more) (sym (append_assoc us front (t ∷ [])))) b.is }

  -- as many rounds as there are tokens
  whole_stops : (sofar : List A) (ts : List Lexeme) (fault : ParseFault) → StoppedIn test f sofar ts fault ⊎ HaltedIn test f sofar ts fault → Stopped (repeated_by test f sofar) ts fault ⊎ Halted (repeated_by test f sofar) ts fault
  unfolding repeat_by
  whole_stops sofar ts fault (inl s) = inl (record {
    front = s.front;
    rest = s.rest;
    split = s.split;
    is = s.is;
    begun = s.begun;
    same = λ t us other k. s.same t us other k (length (s.front ++ t ∷ other)) (omega arith);
  })
  whole_stops sofar ts fault (inr h) = inr (record {
    front = h.front;
    token = h.token;
    rest = h.rest;
    split = h.split;
    is = h.is;
    deep = h.deep;
    same = λ other. h.same other (length (h.front ++ h.token ∷ other)) (omega arith);
    ahead = h.ahead (length h.front) (omega arith);
  })

  pub repeated_by_laws : (sofar : List A) → Laws (repeated_by test f sofar)
  unfolding repeat_by
  repeated_by_laws sofar = record {
    example = record { tokens = []; value = sofar; is = at_last (none_alone None false) };
    empty = inr (sofar, refl);
    free = parts_free sofar;
    wider = parts_wider sofar;
    ends = parts_end sofar;
    sound = λ ts zs rest all h. parts_sound (length ts) sofar ts (omega arith) zs rest all h;
    full = λ ts zs rest p. parts_full (length (ts ++ rest)) sofar ts zs (first rest None) rest (omega arith) refl p;
    stops = λ ts fault all h. whole_stops sofar ts fault (parts_stops (length ts) sofar ts (omega arith) fault all h);
    halts = λ front t other d. parts_halt sofar front t other d (length (front ++ t ∷ other)) (omega arith);
    begins = parts_begin sofar;
  }
