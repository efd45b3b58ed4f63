-- The one phrase where the next token passes a test, or else the other.
use Rattle.std.proofs.Common.{◌≡◌, ◌⊎◌, inl, inr, ℕ, List, [], ◌∷◌, ◌++◌, Option, None, Some, Bool, true, false, cond, refl, sym, ◌∙◌, ap, subst}
use Rattle.vod_expr.specs.Grammar.{Lexeme}
use Rattle.vod_expr.specs.declared.ParseFault.{ParseFault}
use Rattle.vod_expr.specs.declared.ParseFault.TheVariants.{Statement}
use Rattle.vod_grammar.specs.Form.{Form, Alone, Before, the_one, the_other, in_the_one, in_the_other, choose}
use Rattle.vod_grammar.specs.FrontLaws.{first-append, first_token}
use Rattle.vod_grammar.specs.Laws.{Laws, Begun, Taken, Stopped, Halted, Unfinished, Passed, AreLexemes}
use Rattle.vod_grammar.specs.Read.{Got, Failed, first, passes}
use Rattle.vod_grammar.specs.RepeatByLaws.{HasToken}

module _ {A : Type 0} (test : Lexeme → Bool) (f g : Form A) (lf : Laws f) (lg : Laws g) (some : HasToken f) where
  -- the reading, by what the test says of the next token
  reads_one : (ts : List Lexeme) → passes test (first ts None) ≡ true → (choose test f g).read ts ≡ f.read ts
  reads_one ts e = ap (λ b. cond b (f.read ts) (g.read ts)) e

  reads_other : (ts : List Lexeme) → passes test (first ts None) ≡ false → (choose test f g).read ts ≡ g.read ts
  reads_other ts e = ap (λ b. cond b (f.read ts) (g.read ts)) e

  -- the same token comes next with a front alone, and with what follows
  with_rest : (front : List Lexeme) (t : Lexeme) (rest : List Lexeme) (v : Bool) → passes test (first front (Some t)) ≡ v → passes test (first (front ++ t ∷ rest) None) ≡ v
  with_rest front t rest v e = ap (passes test) (first_token front t rest None) ∙ e

  split_at : (ts front : List Lexeme) (t : Lexeme) (rest : List Lexeme) (v : Bool) → ts ≡ front ++ t ∷ rest → passes test (first ts None) ≡ v → passes test (first front (Some t)) ≡ v
  split_at ts front t rest v s e = ap (passes test) (sym (first_token front t rest None)) ∙ ap (λ w. passes test (first w None)) (sym s) ∙ e

  at_end : (ts : List Lexeme) (b : Option Lexeme) → passes test (first ts b) ≡ false → passes test (first ts None) ≡ false
  at_end [] b e = refl
  at_end (t ∷ ts) b e = e

  -- a phrase of the one form has a token
  own : (front rest : List Lexeme) (x : A) (b : Option Lexeme) → f.phrase Before front x b → first front None ≡ first (front ++ rest) None
  own [] rest x b p = absurd (some x b p)
  own (t ∷ front) rest x b p = refl

  alone : (v w : Bool) → Alone ≡ Before → v ≡ w
  alone v w e = cc

  one_sound : (ts : List Lexeme) (x : A) (rest : List Lexeme) → AreLexemes ts → passes test (first ts None) ≡ true → f.read ts ≡ Got x rest → Taken (choose test f g).phrase ts x rest
  one_sound ts x rest all e h =
      let p = lf.sound ts x rest all h in
      record {
        front = p.front;
        split = p.split;
        is = the_one (λ m. ap (passes test) (own p.front rest x (first rest None) p.is ∙ ap (λ v. first v None) (sym p.split)) ∙ e) p.is;
      }

  other_sound : (ts : List Lexeme) (x : A) (rest : List Lexeme) → AreLexemes ts → passes test (first ts None) ≡ false → g.read ts ≡ Got x rest → Taken (choose test f g).phrase ts x rest
  other_sound ts x rest all e h =
      let p = lg.sound ts x rest all h in
      record {
        front = p.front;
        split = p.split;
        is = the_other (λ m. ap (passes test) (sym (first-append p.front rest None) ∙ ap (λ v. first v None) (sym p.split)) ∙ e) p.is;
      }

  sound : (ts : List Lexeme) (x : A) (rest : List Lexeme) → AreLexemes ts → (choose test f g).read ts ≡ Got x rest → Taken (choose test f g).phrase ts x rest
  sound ts x rest all h = by (passes test (first ts None)) refl
    where
      by : (v : Bool) → passes test (first ts None) ≡ v → Taken (choose test f g).phrase ts x rest
      by true e = one_sound ts x rest all e (sym (reads_one ts e) ∙ h)
      by false e = other_sound ts x rest all e (sym (reads_other ts e) ∙ h)

  -- phrases are read, or a part of theirs is too deep
  one_full : (ts : List Lexeme) (x : A) (rest : List Lexeme) → passes test (first ts None) ≡ true → f.phrase Before ts x (first rest None) → (f.read (ts ++ rest) ≡ Got x rest) ⊎ Passed f.deep ts
      → ((choose test f g).read (ts ++ rest) ≡ Got x rest) ⊎ Passed (choose test f g).deep ts
  one_full ts x rest e p (inl k) = inl (reads_one (ts ++ rest) (ap (passes test) (sym (own ts rest x (first rest None) p)) ∙ e) ∙ k)
  one_full ts x rest e p (inr d) = inr (record { front = d.front; token = d.token; rest = d.rest; split = d.split; deep = in_the_one (split_at ts d.front d.token d.rest true d.split e) d.deep })

  other_token : (ts front : List Lexeme) (t : Lexeme) (rest : List Lexeme) (b : Option Lexeme) → ts ≡ front ++ t ∷ rest → passes test (first ts b) ≡ false → passes test (first front (Some t)) ≡ false
  other_token ts front t rest b s e = ap (passes test) (sym (first_token front t rest b)) ∙ ap (λ w. passes test (first w b)) (sym s) ∙ e

  other_full : (ts : List Lexeme) (x : A) (rest : List Lexeme) → passes test (first ts (first rest None)) ≡ false → (g.read (ts ++ rest) ≡ Got x rest) ⊎ Passed g.deep ts
      → ((choose test f g).read (ts ++ rest) ≡ Got x rest) ⊎ Passed (choose test f g).deep ts
  other_full ts x rest e (inl k) = inl (reads_other (ts ++ rest) (ap (passes test) (first-append ts rest None) ∙ e) ∙ k)
  other_full ts x rest e (inr d) = inr (record { front = d.front; token = d.token; rest = d.rest; split = d.split; deep = in_the_other (other_token ts d.front d.token d.rest (first rest None) d.split e) d.deep })

  full : (ts : List Lexeme) (x : A) (b : Option Lexeme) (rest : List Lexeme) → b ≡ first rest None → (choose test f g).phrase Before ts x b → ((choose test f g).read (ts ++ rest) ≡ Got x rest) ⊎ Passed (choose test f g).deep ts
  full ts x b rest e (the_one go p) = let q : f.phrase Before ts x (first rest None) = subst (f.phrase Before ts x) e p in one_full ts x rest (go refl) q (lf.full ts x rest q)
  full ts x b rest e (the_other n p) = other_full ts x rest (ap (λ v. passes test (first ts v)) (sym e) ∙ n refl) (lg.full ts x rest (subst (g.phrase Before ts x) e p))

  free : (ts : List Lexeme) (x : A) (b c : Option Lexeme) → (choose test f g).phrase Alone ts x b → (choose test f g).phrase Alone ts x c
  free ts x b c (the_one go p) = the_one go (lf.free ts x b c p)
  free ts x b c (the_other n p) = the_other (alone (passes test (first ts c)) false) (lg.free ts x b c p)

  wider : (ts : List Lexeme) (x : A) (b : Option Lexeme) → (choose test f g).phrase Before ts x b → (choose test f g).phrase Alone ts x b
  wider ts x b (the_one go p) = the_one (alone (passes test (first ts None)) true) (lf.wider ts x b p)
  wider ts x b (the_other n p) = the_other (alone (passes test (first ts b)) false) (lg.wider ts x b p)

  ends : (ts : List Lexeme) (x : A) (b : Option Lexeme) → (choose test f g).phrase Before ts x b → (choose test f g).phrase Before ts x None
  ends ts x b (the_one go p) = the_one go (lf.ends ts x b p)
  ends ts x b (the_other n p) = the_other (λ m. at_end ts b (n refl)) (lg.ends ts x b p)

  -- where one was begun
  one_begun : (front : List Lexeme) → Begun f.phrase front → Begun (choose test f g).phrase front
  one_begun front b = record { more = b.more; value = b.value; is = the_one (alone (passes test (first (front ++ b.more) None)) true) b.is }

  other_begun : (front : List Lexeme) → Begun g.phrase front → Begun (choose test f g).phrase front
  other_begun front b = record { more = b.more; value = b.value; is = the_other (alone (passes test (first (front ++ b.more) None)) false) b.is }

  other_unfinished : (ts : List Lexeme) → passes test (first ts None) ≡ false → Unfinished g ts → Unfinished (choose test f g) ts
  other_unfinished ts e (inl h) = inl (reads_other ts e ∙ h)
  other_unfinished ts e (inr h) = inr (h.0, reads_other ts e ∙ h.1)

  one_unfinished : (front : List Lexeme) (b : Option Lexeme) → passes test (first front b) ≡ true → Unfinished f front → Unfinished (choose test f g) front
  one_unfinished [] b e u = other_unfinished [] refl lg.empty
  one_unfinished (t ∷ front) b e (inl h) = inl (reads_one (t ∷ front) e ∙ h)
  one_unfinished (t ∷ front) b e (inr h) = inr (h.0, reads_one (t ∷ front) e ∙ h.1)

  one_stops : (ts : List Lexeme) (fault : ParseFault) → passes test (first ts None) ≡ true → Stopped f ts fault ⊎ Halted f ts fault → Stopped (choose test f g) ts fault ⊎ Halted (choose test f g) ts fault
  one_stops ts fault e (inl s) = inl (record {
    front = s.front;
    rest = s.rest;
    split = s.split;
    is = s.is;
    begun = one_begun s.front s.begun;
    same = λ t us other k.
        reads_one (s.front ++ t ∷ other) (with_rest s.front t other true (split_at ts s.front t us true (s.split ∙ ap (λ v. s.front ++ v) k) e))
        ∙ s.same t us other k;
  })
  one_stops ts fault e (inr h) =
      let token : passes test (first h.front (Some h.token)) ≡ true = split_at ts h.front h.token h.rest true h.split e in
      inr (record {
        front = h.front;
        token = h.token;
        rest = h.rest;
        split = h.split;
        is = h.is;
        deep = in_the_one token h.deep;
        same = λ other. reads_one (h.front ++ h.token ∷ other) (with_rest h.front h.token other true token) ∙ h.same other;
        ahead = one_unfinished h.front (Some h.token) token h.ahead;
      })

  other_stops : (ts : List Lexeme) (fault : ParseFault) → passes test (first ts None) ≡ false → Stopped g ts fault ⊎ Halted g ts fault → Stopped (choose test f g) ts fault ⊎ Halted (choose test f g) ts fault
  other_stops ts fault e (inl s) = inl (record {
    front = s.front;
    rest = s.rest;
    split = s.split;
    is = s.is;
    begun = other_begun s.front s.begun;
    same = λ t us other k.
        reads_other (s.front ++ t ∷ other) (with_rest s.front t other false (split_at ts s.front t us false (s.split ∙ ap (λ v. s.front ++ v) k) e))
        ∙ s.same t us other k;
  })
  other_stops ts fault e (inr h) =
      let token : passes test (first h.front (Some h.token)) ≡ false = split_at ts h.front h.token h.rest false h.split e in
      inr (record {
        front = h.front;
        token = h.token;
        rest = h.rest;
        split = h.split;
        is = h.is;
        deep = in_the_other token h.deep;
        same = λ other. reads_other (h.front ++ h.token ∷ other) (with_rest h.front h.token other false token) ∙ h.same other;
        ahead = other_unfinished h.front (at_end h.front (Some h.token) token) h.ahead;
      })

  stops : (ts : List Lexeme) (fault : ParseFault) → AreLexemes ts → (choose test f g).read ts ≡ Failed fault → Stopped (choose test f g) ts fault ⊎ Halted (choose test f g) ts fault
  stops ts fault all h = by (passes test (first ts None)) refl
    where
      by : (v : Bool) → passes test (first ts None) ≡ v → Stopped (choose test f g) ts fault ⊎ Halted (choose test f g) ts fault
      by true e = one_stops ts fault e (lf.stops ts fault all (sym (reads_one ts e) ∙ h))
      by false e = other_stops ts fault e (lg.stops ts fault all (sym (reads_other ts e) ∙ h))

  halts : (front : List Lexeme) (u : Lexeme) (other : List Lexeme) → (choose test f g).deep front u → (place : ℕ) × ((choose test f g).read (front ++ u ∷ other) ≡ Failed (Statement place))
  halts front u other (in_the_one e d) = let k = lf.halts front u other d in (k.0, reads_one (front ++ u ∷ other) (with_rest front u other true e) ∙ k.1)
  halts front u other (in_the_other e d) = let k = lg.halts front u other d in (k.0, reads_other (front ++ u ∷ other) (with_rest front u other false e) ∙ k.1)

  begins : (front : List Lexeme) (u : Lexeme) → (choose test f g).deep front u → Begun (choose test f g).phrase (front ++ u ∷ [])
  begins front u (in_the_one e d) = one_begun (front ++ u ∷ []) (lf.begins front u d)
  begins front u (in_the_other e d) = other_begun (front ++ u ∷ []) (lg.begins front u d)

  pub choose_laws : Laws (choose test f g)
  choose_laws = record {
    example = record { tokens = lg.example.tokens; value = lg.example.value; is = the_other (alone (passes test (first lg.example.tokens None)) false) lg.example.is };
    empty = other_unfinished [] refl lg.empty;
    free = free;
    wider = wider;
    ends = ends;
    sound = sound;
    full = λ ts x rest p. full ts x (first rest None) rest refl p;
    stops = stops;
    halts = halts;
    begins = begins;
  }
