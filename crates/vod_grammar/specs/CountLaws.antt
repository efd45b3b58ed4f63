-- Values with the number of tokens.
use Rattle.std.proofs.Common.{◌≡◌, ◌⊎◌, inl, inr, ℕ, ◌-◌, List, [], ◌∷◌, ◌++◌, length, length-append, arith, Option, None, refl, sym, ◌∙◌, ap, subst}
use Rattle.vod_expr.specs.Grammar.{Lexeme}
use Rattle.vod_expr.specs.declared.ParseFault.{ParseFault}
use Rattle.vod_expr.specs.declared.ParseFault.TheVariants.{At, End, Statement}
use Rattle.vod_grammar.specs.Form.{Form, Alone, Before, CountedPhrase, numbered, counted}
use Rattle.vod_grammar.specs.FrontLaws.{got_value, got_rest, failed_fault, got_failed}
use Rattle.vod_grammar.specs.Laws.{Laws, Begun, Taken, Stopped, Halted, Unfinished, Passed, AreLexemes}
use Rattle.vod_grammar.specs.Read.{Read, Got, Failed, first, followed}

module _ {A B : Type 0} (change : ℕ → A → B) (f : Form A) (lf : Laws f) where
  counted_got : (ts : List Lexeme) (x : A) (rest : List Lexeme) → f.read ts ≡ Got x rest → (counted change f).read ts ≡ Got (change (length ts - length rest) x) rest
  counted_got ts x rest h = ap (λ r. followed r (λ y more. Got (change (length ts - length more) y) more)) h

  counted_failed : (ts : List Lexeme) (fault : ParseFault) → f.read ts ≡ Failed fault → (counted change f).read ts ≡ Failed fault
  counted_failed ts fault h = ap (λ r. followed r (λ y more. Got (change (length ts - length more) y) more)) h

  count : (ts rest : List Lexeme) → length (ts ++ rest) - length rest ≡ length ts
  count ts rest = omega (arith, length-append ts rest)

  counted_sound : (ts : List Lexeme) (y : B) (rest : List Lexeme) → AreLexemes ts → (r : Read A) → f.read ts ≡ r → followed r (λ x more. Got (change (length ts - length more) x) more) ≡ Got y rest → Taken (counted change f).phrase ts y rest
  counted_sound ts y rest all (Failed fault) e k = absurd (got_failed (sym k))
  counted_sound ts y rest all (Got x mid) e k =
      let p = lf.sound ts x rest all (e ∙ ap (Got x) (got_rest k)) in
      let q : CountedPhrase change f.phrase Before p.front (change (length p.front) x) (first rest None) = numbered p.is in
      let many : length p.front ≡ length ts - length rest = sym (count p.front rest) ∙ ap (λ v. length v - length rest) (sym p.split) in
      record { front = p.front; split = p.split; is = subst (λ v. CountedPhrase change f.phrase Before p.front v (first rest None)) (ap (λ v. change v x) many ∙ ap (λ v. change (length ts - length v) x) (sym (got_rest k)) ∙ got_value k) q }

  counted_stops : (ts : List Lexeme) (fault : ParseFault) → AreLexemes ts → (r : Read A) → f.read ts ≡ r → followed r (λ x more. Got (change (length ts - length more) x) more) ≡ Failed fault → Stopped f ts fault ⊎ Halted f ts fault
  counted_stops ts fault all (Got x mid) e k = absurd (got_failed k)
  counted_stops ts fault all (Failed inner) e k = lf.stops ts fault all (e ∙ ap Failed (failed_fault k))

  counted_begun : (front : List Lexeme) → Begun f.phrase front → Begun (counted change f).phrase front
  counted_begun front b = record { more = b.more; value = change (length (front ++ b.more)) b.value; is = numbered b.is }

  counted_unfinished : (ts : List Lexeme) → Unfinished f ts → Unfinished (counted change f) ts
  counted_unfinished ts (inl h) = inl (counted_failed ts End h)
  counted_unfinished ts (inr h) = inr (change (length ts - 0) h.0, counted_got ts h.0 [] h.1)

  stops_counted : (ts : List Lexeme) (fault : ParseFault) → Stopped f ts fault ⊎ Halted f ts fault → Stopped (counted change f) ts fault ⊎ Halted (counted change f) ts fault
  stops_counted ts fault (inl s) = inl (record {
    front = s.front;
    rest = s.rest;
    split = s.split;
    is = s.is;
    begun = counted_begun s.front s.begun;
    same = λ t us other k. counted_failed (s.front ++ t ∷ other) (At t.place) (s.same t us other k);
  })
  stops_counted ts fault (inr h) = inr (record {
    front = h.front;
    token = h.token;
    rest = h.rest;
    split = h.split;
    is = h.is;
    deep = h.deep;
    same = λ other. counted_failed (h.front ++ h.token ∷ other) (Statement h.token.place) (h.same other);
    ahead = counted_unfinished h.front h.ahead;
  })

  full_counted : (ts : List Lexeme) (y : B) (b : Option Lexeme) (rest : List Lexeme) → b ≡ first rest None → (counted change f).phrase Before ts y b → ((counted change f).read (ts ++ rest) ≡ Got y rest) ⊎ Passed f.deep ts
  full_counted ts _ b rest e (numbered {x = x} p) = by (lf.full ts x rest (subst (f.phrase Before ts x) e p))
    where
      by : (f.read (ts ++ rest) ≡ Got x rest) ⊎ Passed f.deep ts → ((counted change f).read (ts ++ rest) ≡ Got (change (length ts) x) rest) ⊎ Passed f.deep ts
      by (inl k) = inl (counted_got (ts ++ rest) x rest k ∙ ap (λ v. Got (change v x) rest) (count ts rest))
      by (inr d) = inr d

  counted_free : (ts : List Lexeme) (y : B) (b c : Option Lexeme) → (counted change f).phrase Alone ts y b → (counted change f).phrase Alone ts y c
  counted_free ts _ b c (numbered {x = x} p) = numbered (lf.free ts x b c p)

  counted_wider : (ts : List Lexeme) (y : B) (b : Option Lexeme) → (counted change f).phrase Before ts y b → (counted change f).phrase Alone ts y b
  counted_wider ts _ b (numbered {x = x} p) = numbered (lf.wider ts x b p)

  counted_ends : (ts : List Lexeme) (y : B) (b : Option Lexeme) → (counted change f).phrase Before ts y b → (counted change f).phrase Before ts y None
  counted_ends ts _ b (numbered {x = x} p) = numbered (lf.ends ts x b p)

  pub counted_laws : Laws (counted change f)
  counted_laws = record {
    example = record { tokens = lf.example.tokens; value = change (length lf.example.tokens) lf.example.value; is = numbered lf.example.is };
    empty = counted_unfinished [] lf.empty;
    free = counted_free;
    wider = counted_wider;
    ends = counted_ends;
    sound = λ ts y rest all h. counted_sound ts y rest all (f.read ts) refl h;
    full = λ ts y rest p. full_counted ts y (first rest None) rest refl p;
    stops = λ ts fault all h. stops_counted ts fault (counted_stops ts fault all (f.read ts) refl h);
    halts = λ front t other d. let h = lf.halts front t other d in (h.0, counted_failed (front ++ t ∷ other) (Statement h.0) h.1);
    begins = λ front t d. counted_begun (front ++ t ∷ []) (lf.begins front t d);
  }
