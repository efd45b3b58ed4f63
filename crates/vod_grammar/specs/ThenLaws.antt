-- One phrase behind another.
use Rattle.std.proofs.Common.{◌≡◌, ◌⊎◌, inl, inr, ℕ, List, [], ◌∷◌, ◌++◌, Option, None, Some, refl, sym, ◌∙◌, ap, subst, append_assoc}
use Rattle.vod_expr.specs.Grammar.{Lexeme}
use Rattle.vod_expr.specs.declared.ParseFault.{ParseFault}
use Rattle.vod_expr.specs.declared.ParseFault.TheVariants.{Statement}
use Rattle.vod_grammar.specs.Form.{Form, Phrase, Alone, Before, in_turn, then, closed, in_first, in_second}
use Rattle.vod_grammar.specs.Laws.{Laws, Closes, Begun, Taken, Stopped, Halted, Unfinished, Passed, AreLexemes}
use Rattle.vod_grammar.specs.Read.{Read, Got, Failed, first, followed}
use Rattle.vod_grammar.specs.FrontLaws.{first-append, first_same, first_token, lexemes_behind, failed_fault, got_failed, before_first, read_shallow, begun_front}

module _ {A B : Type 0} (f : Form A) (g : A → Form B) (lf : Laws f) (lg : (x : A) → Laws (g x)) where
  onto : (us vs : List Lexeme) (x : A) → f.read (us ++ vs) ≡ Got x vs → (then f g).read (us ++ vs) ≡ (g x).read vs
  onto us vs x h = ap (λ r. followed r (λ y. (g y).read)) h

  -- the first phrase before other tokens that begin alike
  again : (us mid : List Lexeme) (x : A) → f.read (us ++ mid) ≡ Got x mid → (vs : List Lexeme) → f.phrase Before us x (first vs None) → f.read (us ++ vs) ≡ Got x vs
  again us mid x h vs p = by (lf.full us x vs p)
    where
      by : (f.read (us ++ vs) ≡ Got x vs) ⊎ Passed f.deep us → f.read (us ++ vs) ≡ Got x vs
      by (inl k) = k
      by (inr d) = absurd (read_shallow f lf us mid x mid h d)

  then_sound : (ts : List Lexeme) (y : B) (rest : List Lexeme) → AreLexemes ts → (r : Read A) → f.read ts ≡ r → followed r (λ x. (g x).read) ≡ Got y rest → Taken (then f g).phrase ts y rest
  then_sound ts y rest all (Failed fault) e k = absurd (got_failed (sym k))
  then_sound ts y rest all (Got x mid) e k =
      let p = lf.sound ts x mid all e in
      let q = (lg x).sound mid y rest (lexemes_behind p.front mid (subst AreLexemes p.split all)) k in
      record {
        front = p.front ++ q.front;
        split = p.split ∙ ap (λ v. p.front ++ v) q.split ∙ sym (append_assoc p.front q.front rest);
        is = in_turn (subst (f.phrase Before p.front x) (ap (λ v. first v None) q.split ∙ first-append q.front rest None) p.is) q.is;
      }

  both_full : (us vs rest : List Lexeme) (x : A) (y : B) → f.phrase Before us x (first vs (first rest None)) → (f.read (us ++ (vs ++ rest)) ≡ Got x (vs ++ rest)) ⊎ Passed f.deep us
      → ((g x).read (vs ++ rest) ≡ Got y rest) ⊎ Passed (g x).deep vs → ((then f g).read ((us ++ vs) ++ rest) ≡ Got y rest) ⊎ Passed (then f g).deep (us ++ vs)
  both_full us vs rest x y p (inl h) (inl k) = inl (ap (then f g).read (append_assoc us vs rest) ∙ onto us (vs ++ rest) x h ∙ k)
  both_full us vs rest x y p (inl h) (inr d) = inr (record {
    front = us ++ d.front;
    token = d.token;
    rest = d.rest;
    split = ap (λ v. us ++ v) d.split ∙ sym (append_assoc us d.front (d.token ∷ d.rest));
    deep = in_second (subst (f.phrase Before us x) (ap (λ v. first v (first rest None)) d.split ∙ first_token d.front d.token d.rest (first rest None)) p) d.deep;
  })
  both_full us vs rest x y p (inr d) k = inr (record { front = d.front; token = d.token; rest = d.rest ++ vs; split = ap (λ v. v ++ vs) d.split ∙ append_assoc d.front (d.token ∷ d.rest) vs; deep = in_first d.deep })

  then_full : (ts : List Lexeme) (y : B) (b : Option Lexeme) (rest : List Lexeme) → b ≡ first rest None → (then f g).phrase Before ts y b → ((then f g).read (ts ++ rest) ≡ Got y rest) ⊎ Passed (then f g).deep ts
  then_full ts y b rest e (in_turn {us = us} {vs = vs} {x = x} p q) =
      let p' : f.phrase Before us x (first vs (first rest None)) = subst (λ v. f.phrase Before us x (first vs v)) e p in
      let q' : (g x).phrase Before vs y (first rest None) = subst ((g x).phrase Before vs y) e q in
      both_full us vs rest x y p' (lf.full us x (vs ++ rest) (subst (f.phrase Before us x) (sym (first-append vs rest None)) p')) ((lg x).full vs y rest q')

  then_halts : (front : List Lexeme) (t : Lexeme) (other : List Lexeme) → (then f g).deep front t → (place : ℕ) × ((then f g).read (front ++ t ∷ other) ≡ Failed (Statement place))
  then_halts front t other (in_first d) = let h = lf.halts front t other d in (h.0, ap (λ r. followed r (λ x. (g x).read)) h.1)
  then_halts _ t other (in_second {us = us} {front = front} {x = x} p d) = by (lf.full us x (front ++ t ∷ other) (subst (f.phrase Before us x) (sym (first_token front t other None)) p))
    where
      by : (f.read (us ++ (front ++ t ∷ other)) ≡ Got x (front ++ t ∷ other)) ⊎ Passed f.deep us → (place : ℕ) × ((then f g).read ((us ++ front) ++ t ∷ other) ≡ Failed (Statement place))
      by (inl k) = let h = (lg x).halts front t other d in (h.0, ap (then f g).read (append_assoc us front (t ∷ other)) ∙ onto us (front ++ t ∷ other) x k ∙ h.1)
      by (inr e) =
          let h = lf.halts e.front e.token (e.rest ++ (front ++ t ∷ other)) e.deep in (
            h.0,
            ap (then f g).read (append_assoc us front (t ∷ other) ∙ ap (λ v. v ++ (front ++ t ∷ other)) e.split ∙ append_assoc e.front (e.token ∷ e.rest) (front ++ t ∷ other))
                ∙ ap (λ r. followed r (λ x. (g x).read)) h.1,
          )

  first_unfinished : (ts : List Lexeme) → Unfinished f ts → Unfinished (then f g) ts
  first_unfinished ts (inl h) = inl (ap (λ r. followed r (λ x. (g x).read)) h)
  first_unfinished ts (inr h) = by (lg h.0).empty
    where
      by : Unfinished (g h.0) [] → Unfinished (then f g) ts
      by (inl k) = inl (ap (λ r. followed r (λ x. (g x).read)) h.1 ∙ k)
      by (inr k) = inr (k.0, ap (λ r. followed r (λ x. (g x).read)) h.1 ∙ k.1)

  second_unfinished : (us vs : List Lexeme) (x : A) → (then f g).read (us ++ vs) ≡ (g x).read vs → Unfinished (g x) vs → Unfinished (then f g) (us ++ vs)
  second_unfinished us vs x e (inl h) = inl (e ∙ h)
  second_unfinished us vs x e (inr h) = inr (h.0, e ∙ h.1)

  then_ends : (ts : List Lexeme) (y : B) (b : Option Lexeme) → (then f g).phrase Before ts y b → (then f g).phrase Before ts y None
  then_ends ts y b (in_turn {us = us} {vs = vs} {x = x} p q) = in_turn (before_first f lf us x vs b p) ((lg x).ends vs y b q)

  module _ (R : Phrase B) (c : Closes f g R) where
    -- a phrase that the first part begins
    begun_first : (front : List Lexeme) → Begun f.phrase front → Begun R front
    begun_first front b = begun_front R front b.more (c.close (front ++ b.more) b.value b.is)

    begun_second : (us front : List Lexeme) (x : A) (t : Lexeme) → f.phrase Before us x (first front (Some t)) → Begun (g x).phrase (front ++ t ∷ []) → Begun R ((us ++ front) ++ t ∷ [])
    begun_second us [] x t p b = record {
      more = b.more;
      value = b.value;
      is = subst (λ v. R Alone v b.value None) (sym (append_assoc (us ++ []) (t ∷ []) b.more ∙ append_assoc us [] (t ∷ b.more))) (c.join us x t b.more b.value p b.is);
    }
    begun_second us (s ∷ front) x t p b = record {
      more = b.more;
      value = b.value;
      is = subst (λ v. R Alone v b.value None) (sym (append_assoc (us ++ s ∷ front) (t ∷ []) b.more ∙ append_assoc us (s ∷ front) (t ∷ b.more) ∙ ap (λ v. us ++ s ∷ v) (sym (append_assoc front (t ∷ []) b.more)))) (c.join us x s ((front ++ t ∷ []) ++ b.more) b.value p b.is);
    }

    begun_behind : (us mid front rest : List Lexeme) (x : A) → f.phrase Before us x (first mid None) → mid ≡ front ++ rest → Begun (g x).phrase front → Begun R (us ++ front)
    begun_behind us mid [] rest x p e b =
        let d = c.close us x (lf.wider us x None (lf.ends us x (first mid None) p)) in
        record { more = d.more; value = d.value; is = subst (λ v. R Alone v d.value None) (sym (append_assoc us [] d.more)) d.is }
    begun_behind us mid (s ∷ front) rest x p e b = record {
      more = b.more;
      value = b.value;
      is = subst (λ v. R Alone v b.value None) (sym (append_assoc us (s ∷ front) b.more)) (c.join us x s (front ++ b.more) b.value (subst (f.phrase Before us x) (ap (λ v. first v None) e) p) b.is);
    }

    first_stops : (ts : List Lexeme) (fault : ParseFault) → Stopped f ts fault ⊎ Halted f ts fault → Stopped (closed f g R) ts fault ⊎ Halted (closed f g R) ts fault
    first_stops ts fault (inl s) = inl (record {
      front = s.front;
      rest = s.rest;
      split = s.split;
      is = s.is;
      begun = begun_first s.front s.begun;
      same = λ t us other h. ap (λ r. followed r (λ x. (g x).read)) (s.same t us other h);
    })
    first_stops ts fault (inr h) = inr (record {
      front = h.front;
      token = h.token;
      rest = h.rest;
      split = h.split;
      is = h.is;
      deep = in_first h.deep;
      same = λ other. ap (λ r. followed r (λ x. (g x).read)) (h.same other);
      ahead = first_unfinished h.front h.ahead;
    })

    second_stops : (ts : List Lexeme) (fault : ParseFault) (x : A) (mid : List Lexeme) → f.read ts ≡ Got x mid → Taken f.phrase ts x mid → Stopped (g x) mid fault ⊎ Halted (g x) mid fault
        → Stopped (closed f g R) ts fault ⊎ Halted (closed f g R) ts fault
    second_stops ts fault x mid e p (inl s) =
        let read : f.read (p.front ++ mid) ≡ Got x mid = ap f.read (sym p.split) ∙ e in
        inl (record {
          front = p.front ++ s.front;
          rest = s.rest;
          split = p.split ∙ ap (λ v. p.front ++ v) s.split ∙ sym (append_assoc p.front s.front s.rest);
          is = s.is;
          begun = begun_behind p.front mid s.front s.rest x p.is s.split s.begun;
          same = λ t us other h.
              ap (then f g).read (append_assoc p.front s.front (t ∷ other))
              ∙ onto p.front (s.front ++ t ∷ other) x (again p.front mid x read (s.front ++ t ∷ other)
              (subst (f.phrase Before p.front x) (ap (λ v. first v None) (s.split ∙ ap (λ v. s.front ++ v) h) ∙ first_same s.front t us other None) p.is))
              ∙ s.same t us other h;
        })
    second_stops ts fault x mid e p (inr h) =
        let read : f.read (p.front ++ mid) ≡ Got x mid = ap f.read (sym p.split) ∙ e in
        let token : f.phrase Before p.front x (first h.front (Some h.token)) = subst (f.phrase Before p.front x) (ap (λ v. first v None) h.split ∙ first_token h.front h.token h.rest None) p.is in
        inr (record {
          front = p.front ++ h.front;
          token = h.token;
          rest = h.rest;
          split = p.split ∙ ap (λ v. p.front ++ v) h.split ∙ sym (append_assoc p.front h.front (h.token ∷ h.rest));
          is = h.is;
          deep = in_second token h.deep;
          same = λ other.
              ap (then f g).read (append_assoc p.front h.front (h.token ∷ other))
              ∙ onto p.front (h.front ++ h.token ∷ other) x (again p.front mid x read (h.front ++ h.token ∷ other) (subst (f.phrase Before p.front x) (sym (first_token h.front h.token other None)) token))
              ∙ h.same other;
          ahead = second_unfinished p.front h.front x (onto p.front h.front x (again p.front mid x read h.front (before_first f lf p.front x h.front (Some h.token) token))) h.ahead;
        })

    closed_stops : (ts : List Lexeme) (fault : ParseFault) → AreLexemes ts → (r : Read A) → f.read ts ≡ r → followed r (λ x. (g x).read) ≡ Failed fault
        → Stopped (closed f g R) ts fault ⊎ Halted (closed f g R) ts fault
    closed_stops ts fault all (Failed inner) e k = first_stops ts fault (lf.stops ts fault all (e ∙ ap Failed (failed_fault k)))
    closed_stops ts fault all (Got x mid) e k =
        let p = lf.sound ts x mid all e in
        second_stops ts fault x mid e p ((lg x).stops mid fault (lexemes_behind p.front mid (subst AreLexemes p.split all)) k)

    closed_begins : (front : List Lexeme) (t : Lexeme) → (then f g).deep front t → Begun R (front ++ t ∷ [])
    closed_begins front t (in_first d) = begun_first (front ++ t ∷ []) (lf.begins front t d)
    closed_begins _ t (in_second {us = us} {front = front} {x = x} p d) = begun_second us front x t p ((lg x).begins front t d)

    pub closed_laws : Laws (closed f g R)
    closed_laws = record {
      example = let p = begun_front R [] lf.example.tokens (c.close lf.example.tokens lf.example.value lf.example.is) in record { tokens = p.more; value = p.value; is = p.is };
      empty = first_unfinished [] lf.empty;
      free = c.free;
      wider = c.wider;
      ends = λ ts y b r. c.into ts y None (then_ends ts y b (c.parts ts y b r));
      sound = λ ts y rest all h. let p = then_sound ts y rest all (f.read ts) refl h in record { front = p.front; split = p.split; is = c.into p.front y (first rest None) p.is };
      full = λ ts y rest r. then_full ts y (first rest None) rest refl (c.parts ts y (first rest None) r);
      stops = λ ts fault all h. closed_stops ts fault all (f.read ts) refl h;
      halts = then_halts;
      begins = closed_begins;
    }

  -- with nothing more asked of the parts
  then_free : (ts : List Lexeme) (y : B) (b c : Option Lexeme) → (then f g).phrase Alone ts y b → (then f g).phrase Alone ts y c
  then_free ts y b c (in_turn {us = us} {vs = vs} {x = x} p q) = in_turn (lf.free us x (first vs b) (first vs c) p) ((lg x).free vs y b c q)

  then_wider : (ts : List Lexeme) (y : B) (b : Option Lexeme) → (then f g).phrase Before ts y b → (then f g).phrase Alone ts y b
  then_wider ts y b (in_turn {us = us} {vs = vs} {x = x} p q) = in_turn (lf.wider us x (first vs b) p) ((lg x).wider vs y b q)

  plain : Closes f g (then f g).phrase
  plain = record {
    into = λ ts y b p. p;
    parts = λ ts y b p. p;
    free = then_free;
    wider = then_wider;
    close = λ us x p. let e = (lg x).example in record { more = e.tokens; value = e.value; is = in_turn (lf.free us x None (first e.tokens None) p) e.is };
    join = λ us x t vs y p q. in_turn (lf.wider us x (Some t) p) q;
  }

  pub then_laws : Laws (then f g)
  then_laws = closed_laws (then f g).phrase plain
