-- Other values, lists with `,` between, flags and limits.
use Rattle.std.proofs.Common.{◌≡◌, ◌⊎◌, inl, inr, ℕ, List, [], ◌∷◌, ◌++◌, Option, None, Bool, true, false, refl, sym, ◌∙◌, ap, subst}
use Rattle.vod_expr.specs.Grammar.{Lexeme}
use Rattle.vod_expr.specs.declared.ParseFault.{ParseFault}
use Rattle.vod_expr.specs.declared.ParseFault.TheVariants.{At, End, Statement}
use Rattle.vod_grammar.specs.Form.{Form, Phrase, Alone, Before, a_word, in_turn, MappedPhrase, changed, mapped, PlacedPhrase, put, placed, give, repeated, behind, several, separated, flag, word_form, limit, limit_read, refuse_by, too_deep}
use Rattle.vod_grammar.specs.Laws.{Laws, Example, Begun, Taken, Stopped, Halted, Unfinished, Passed, AreLexemes}
use Rattle.vod_grammar.specs.Read as reads
use Rattle.vod_grammar.specs.Read.{Read, Got, Failed, first, followed, place_of}
use Rattle.vod_grammar.specs.Words.{is_word}
use Rattle.vod_grammar.specs.declared.word.Word.{Word}
use Rattle.vod_grammar.specs.declared.word.Word.TheVariants as words
use Rattle.vod_grammar.specs.EitherLaws.{either_laws}
use Rattle.vod_grammar.specs.FrontLaws.{got_value, got_rest, failed_fault, got_failed}
use Rattle.vod_grammar.specs.TokenLaws.{word_laws, give_laws}
use Rattle.vod_grammar.specs.RepeatLaws.{HasToken, repeated_laws}
use Rattle.vod_grammar.specs.ThenLaws.{then_laws}

module _ {A B : Type 0} (change : A → B) (f : Form A) (lf : Laws f) where
  mapped_got : (ts : List Lexeme) (x : A) (rest : List Lexeme) → f.read ts ≡ Got x rest → (mapped change f).read ts ≡ Got (change x) rest
  mapped_got ts x rest h = ap (λ r. followed r (λ y. reads.give (change y))) h

  mapped_failed : (ts : List Lexeme) (fault : ParseFault) → f.read ts ≡ Failed fault → (mapped change f).read ts ≡ Failed fault
  mapped_failed ts fault h = ap (λ r. followed r (λ y. reads.give (change y))) h

  mapped_sound : (ts : List Lexeme) (y : B) (rest : List Lexeme) → AreLexemes ts → (r : Read A) → f.read ts ≡ r → followed r (λ x. reads.give (change x)) ≡ Got y rest → Taken (mapped change f).phrase ts y rest
  mapped_sound ts y rest all (Failed fault) e k = absurd (got_failed (sym k))
  mapped_sound ts y rest all (Got x mid) e k =
      let p = lf.sound ts x rest all (e ∙ ap (Got x) (got_rest k)) in
      let q : MappedPhrase change f.phrase Before p.front (change x) (first rest None) = changed p.is in
      record { front = p.front; split = p.split; is = subst (λ v. MappedPhrase change f.phrase Before p.front v (first rest None)) (got_value k) q }

  mapped_stops : (ts : List Lexeme) (fault : ParseFault) → AreLexemes ts → (r : Read A) → f.read ts ≡ r → followed r (λ x. reads.give (change x)) ≡ Failed fault → Stopped f ts fault ⊎ Halted f ts fault
  mapped_stops ts fault all (Got x mid) e k = absurd (got_failed k)
  mapped_stops ts fault all (Failed inner) e k = lf.stops ts fault all (e ∙ ap Failed (failed_fault k))

  mapped_begun : (front : List Lexeme) → Begun f.phrase front → Begun (mapped change f).phrase front
  mapped_begun front b = record { more = b.more; value = change b.value; is = changed b.is }

  mapped_unfinished : (ts : List Lexeme) → Unfinished f ts → Unfinished (mapped change f) ts
  mapped_unfinished ts (inl h) = inl (mapped_failed ts End h)
  mapped_unfinished ts (inr h) = inr (change h.0, mapped_got ts h.0 [] h.1)

  stops_mapped : (ts : List Lexeme) (fault : ParseFault) → Stopped f ts fault ⊎ Halted f ts fault → Stopped (mapped change f) ts fault ⊎ Halted (mapped change f) ts fault
  stops_mapped ts fault (inl s) = inl (record {
    front = s.front;
    rest = s.rest;
    split = s.split;
    is = s.is;
    begun = mapped_begun s.front s.begun;
    same = λ t us other k. mapped_failed (s.front ++ t ∷ other) (At t.place) (s.same t us other k);
  })
  stops_mapped ts fault (inr h) = inr (record {
    front = h.front;
    token = h.token;
    rest = h.rest;
    split = h.split;
    is = h.is;
    deep = h.deep;
    same = λ other. mapped_failed (h.front ++ h.token ∷ other) (Statement h.token.place) (h.same other);
    ahead = mapped_unfinished h.front h.ahead;
  })

  full_mapped : (ts : List Lexeme) (y : B) (b : Option Lexeme) (rest : List Lexeme) → b ≡ first rest None → (mapped change f).phrase Before ts y b → ((mapped change f).read (ts ++ rest) ≡ Got y rest) ⊎ Passed f.deep ts
  full_mapped ts _ b rest e (changed {x = x} p) = by (lf.full ts x rest (subst (f.phrase Before ts x) e p))
    where
      by : (f.read (ts ++ rest) ≡ Got x rest) ⊎ Passed f.deep ts → ((mapped change f).read (ts ++ rest) ≡ Got (change x) rest) ⊎ Passed f.deep ts
      by (inl k) = inl (mapped_got (ts ++ rest) x rest k)
      by (inr d) = inr d

  mapped_free : (ts : List Lexeme) (y : B) (b c : Option Lexeme) → (mapped change f).phrase Alone ts y b → (mapped change f).phrase Alone ts y c
  mapped_free ts _ b c (changed {x = x} p) = changed (lf.free ts x b c p)

  mapped_wider : (ts : List Lexeme) (y : B) (b : Option Lexeme) → (mapped change f).phrase Before ts y b → (mapped change f).phrase Alone ts y b
  mapped_wider ts _ b (changed {x = x} p) = changed (lf.wider ts x b p)

  mapped_ends : (ts : List Lexeme) (y : B) (b : Option Lexeme) → (mapped change f).phrase Before ts y b → (mapped change f).phrase Before ts y None
  mapped_ends ts _ b (changed {x = x} p) = changed (lf.ends ts x b p)

  pub mapped_laws : Laws (mapped change f)
  mapped_laws = record {
    example = record { tokens = lf.example.tokens; value = change lf.example.value; is = changed lf.example.is };
    empty = mapped_unfinished [] lf.empty;
    free = mapped_free;
    wider = mapped_wider;
    ends = mapped_ends;
    sound = λ ts y rest all h. mapped_sound ts y rest all (f.read ts) refl h;
    full = λ ts y rest p. full_mapped ts y (first rest None) rest refl p;
    stops = λ ts fault all h. stops_mapped ts fault (mapped_stops ts fault all (f.read ts) refl h);
    halts = λ front t other d. let h = lf.halts front t other d in (h.0, mapped_failed (front ++ t ∷ other) (Statement h.0) h.1);
    begins = λ front t d. mapped_begun (front ++ t ∷ []) (lf.begins front t d);
  }

-- a phrase behind a word has the word's token
empty_split : {A : Type 0} (w : Word) (f : Form A) (ts : List Lexeme) (x : A) (b : Option Lexeme) → (behind w f).phrase Before ts x b → ts ≡ [] → ⊥
empty_split w f _ x b (in_turn (a_word h) q) e = cc

pub behind_laws : {A : Type 0} (w : Word) (f : Form A) → Laws f → Laws (behind w f)
behind_laws w f lf = then_laws (word_form w) (λ _. f) (word_laws w) (λ _. lf)

pub several_laws : {A : Type 0} (test : Lexeme → Bool) (f : Form A) → Laws f → HasToken f → Laws (several test f)
several_laws test f lf some = then_laws f (λ x. repeated test f (x ∷ [])) lf (λ x. repeated_laws test f lf some (x ∷ []))

pub separated_laws : {A : Type 0} (f : Form A) → Laws f → Laws (separated f)
separated_laws f lf =
    then_laws f (λ x. repeated (is_word words.Comma) (behind words.Comma f) (x ∷ [])) lf
    (λ x. repeated_laws (is_word words.Comma) (behind words.Comma f) (behind_laws words.Comma f lf) (λ y b p. empty_split words.Comma f [] y b p refl) (x ∷ []))

pub flag_laws : (w : Word) → Laws (flag w)
flag_laws w = either_laws w (λ _. give true) (give false) (λ _. give_laws true) (give_laws false)

-- a value with the place of the first token
module _ {A B : Type 0} (change : ℕ → A → B) (f : Form A) (lf : Laws f) (some : HasToken f) where
  placed_got : (ts : List Lexeme) (x : A) (rest : List Lexeme) → f.read ts ≡ Got x rest → (placed change f).read ts ≡ Got (change (place_of ts) x) rest
  placed_got ts x rest h = ap (λ r. followed r (λ y. reads.give (change (place_of ts) y))) h

  placed_failed : (ts : List Lexeme) (fault : ParseFault) → f.read ts ≡ Failed fault → (placed change f).read ts ≡ Failed fault
  placed_failed ts fault h = ap (λ r. followed r (λ y. reads.give (change (place_of ts) y))) h

  same_place : (ts rest : List Lexeme) (x : A) (b : Option Lexeme) → f.phrase Before ts x b → place_of (ts ++ rest) ≡ place_of ts
  same_place [] rest x b p = absurd (some x b p)
  same_place (t ∷ ts) rest x b p = refl

  placed_sound : (ts : List Lexeme) (y : B) (rest : List Lexeme) → AreLexemes ts → (r : Read A) → f.read ts ≡ r → followed r (λ x. reads.give (change (place_of ts) x)) ≡ Got y rest → Taken (placed change f).phrase ts y rest
  placed_sound ts y rest all (Failed fault) e k = absurd (got_failed (sym k))
  placed_sound ts y rest all (Got x mid) e k =
      let p = lf.sound ts x rest all (e ∙ ap (Got x) (got_rest k)) in
      let q : PlacedPhrase change f.phrase Before p.front (change (place_of p.front) x) (first rest None) = put p.is in
      let at : place_of p.front ≡ place_of ts = sym (same_place p.front rest x (first rest None) p.is) ∙ ap place_of (sym p.split) in
      record { front = p.front; split = p.split; is = subst (λ v. PlacedPhrase change f.phrase Before p.front v (first rest None)) (ap (λ v. change v x) at ∙ got_value k) q }

  placed_stops : (ts : List Lexeme) (fault : ParseFault) → AreLexemes ts → (r : Read A) → f.read ts ≡ r → followed r (λ x. reads.give (change (place_of ts) x)) ≡ Failed fault → Stopped f ts fault ⊎ Halted f ts fault
  placed_stops ts fault all (Got x mid) e k = absurd (got_failed k)
  placed_stops ts fault all (Failed inner) e k = lf.stops ts fault all (e ∙ ap Failed (failed_fault k))

  placed_begun : (front : List Lexeme) → Begun f.phrase front → Begun (placed change f).phrase front
  placed_begun front b = record { more = b.more; value = change (place_of (front ++ b.more)) b.value; is = put b.is }

  placed_unfinished : (ts : List Lexeme) → Unfinished f ts → Unfinished (placed change f) ts
  placed_unfinished ts (inl h) = inl (placed_failed ts End h)
  placed_unfinished ts (inr h) = inr (change (place_of ts) h.0, placed_got ts h.0 [] h.1)

  stops_placed : (ts : List Lexeme) (fault : ParseFault) → Stopped f ts fault ⊎ Halted f ts fault → Stopped (placed change f) ts fault ⊎ Halted (placed change f) ts fault
  stops_placed ts fault (inl s) = inl (record {
    front = s.front;
    rest = s.rest;
    split = s.split;
    is = s.is;
    begun = placed_begun s.front s.begun;
    same = λ t us other k. placed_failed (s.front ++ t ∷ other) (At t.place) (s.same t us other k);
  })
  stops_placed ts fault (inr h) = inr (record {
    front = h.front;
    token = h.token;
    rest = h.rest;
    split = h.split;
    is = h.is;
    deep = h.deep;
    same = λ other. placed_failed (h.front ++ h.token ∷ other) (Statement h.token.place) (h.same other);
    ahead = placed_unfinished h.front h.ahead;
  })

  full_placed : (ts : List Lexeme) (y : B) (b : Option Lexeme) (rest : List Lexeme) → b ≡ first rest None → (placed change f).phrase Before ts y b → ((placed change f).read (ts ++ rest) ≡ Got y rest) ⊎ Passed f.deep ts
  full_placed ts _ b rest e (put {x = x} p) = by (lf.full ts x rest (subst (f.phrase Before ts x) e p))
    where
      by : (f.read (ts ++ rest) ≡ Got x rest) ⊎ Passed f.deep ts → ((placed change f).read (ts ++ rest) ≡ Got (change (place_of ts) x) rest) ⊎ Passed f.deep ts
      by (inl k) = inl (placed_got (ts ++ rest) x rest k ∙ ap (λ v. Got (change v x) rest) (same_place ts rest x b p))
      by (inr d) = inr d

  placed_free : (ts : List Lexeme) (y : B) (b c : Option Lexeme) → (placed change f).phrase Alone ts y b → (placed change f).phrase Alone ts y c
  placed_free ts _ b c (put {x = x} p) = put (lf.free ts x b c p)

  placed_wider : (ts : List Lexeme) (y : B) (b : Option Lexeme) → (placed change f).phrase Before ts y b → (placed change f).phrase Alone ts y b
  placed_wider ts _ b (put {x = x} p) = put (lf.wider ts x b p)

  placed_ends : (ts : List Lexeme) (y : B) (b : Option Lexeme) → (placed change f).phrase Before ts y b → (placed change f).phrase Before ts y None
  placed_ends ts _ b (put {x = x} p) = put (lf.ends ts x b p)

  pub placed_laws : Laws (placed change f)
  placed_laws = record {
    example = record { tokens = lf.example.tokens; value = change (place_of lf.example.tokens) lf.example.value; is = put lf.example.is };
    empty = placed_unfinished [] lf.empty;
    free = placed_free;
    wider = placed_wider;
    ends = placed_ends;
    sound = λ ts y rest all h. placed_sound ts y rest all (f.read ts) refl h;
    full = λ ts y rest p. full_placed ts y (first rest None) rest refl p;
    stops = λ ts fault all h. stops_placed ts fault (placed_stops ts fault all (f.read ts) refl h);
    halts = λ front t other d. let h = lf.halts front t other d in (h.0, placed_failed (front ++ t ∷ other) (Statement h.0) h.1);
    begins = λ front t d. placed_begun (front ++ t ∷ []) (lf.begins front t d);
  }

-- Where a phrase would be nested too deep: each begins with a token that passes the test, and each such token begins one.
pub record Limited {A : Type 0} (test : Lexeme → Bool) (P : Phrase A) : Type 0 where
  pub example : Example P
  pub free : (ts : List Lexeme) (x : A) (b c : Option Lexeme) → P Alone ts x b → P Alone ts x c
  pub wider : (ts : List Lexeme) (x : A) (b : Option Lexeme) → P Before ts x b → P Alone ts x b
  pub ends : (ts : List Lexeme) (x : A) (b : Option Lexeme) → P Before ts x b → P Before ts x None
  pub starts : (ts : List Lexeme) (x : A) (b : Option Lexeme) → P Before ts x b → (t : Lexeme) × (us : List Lexeme) × (ts ≡ t ∷ us) × (test t ≡ true)
  pub begins : (t : Lexeme) → test t ≡ true → Begun P (t ∷ [])

module _ {A : Type 0} (test : Lexeme → Bool) (G : Phrase A) (l : Limited test G) where
  limit_fails : (t : Lexeme) (ts : List Lexeme) (fault : ParseFault) → refuse_by {A = A} (test t) t ≡ Failed fault → Stopped (limit test G) (t ∷ ts) fault ⊎ Halted (limit test G) (t ∷ ts) fault
  limit_fails t ts fault h = by (test t) refl
    where
      by : (b : Bool) → test t ≡ b → Stopped (limit test G) (t ∷ ts) fault ⊎ Halted (limit test G) (t ∷ ts) fault
      by true e = inr (record {
        front = [];
        token = t;
        rest = ts;
        split = refl;
        is = failed_fault (sym h ∙ ap (λ v. refuse_by v t) e);
        deep = (refl, e);
        same = λ other. ap (λ v. refuse_by v t) e;
        ahead = inl refl;
      })
      by false e = inl (record {
        front = [];
        rest = t ∷ ts;
        split = refl;
        is = failed_fault (sym h ∙ ap (λ v. refuse_by v t) e);
        begun = record { more = l.example.tokens; value = l.example.value; is = l.example.is };
        same = λ u us other k. let same : t ≡ u = cc in ap (λ v. limit_read test (v ∷ other)) (sym same) ∙ ap (λ v. refuse_by v t) e ∙ ap (λ v. Failed (At v.place)) same;
      })

  limit_stops : (ts : List Lexeme) (fault : ParseFault) → limit_read {A = A} test ts ≡ Failed fault → Stopped (limit test G) ts fault ⊎ Halted (limit test G) ts fault
  limit_stops [] fault h = inl (record {
    front = [];
    rest = [];
    split = refl;
    is = failed_fault (sym h);
    begun = record { more = l.example.tokens; value = l.example.value; is = l.example.is };
    same = λ u us other k. cc;
  })
  limit_stops (t ∷ ts) fault h = limit_fails t ts fault h

  never_got : (b : Bool) (t : Lexeme) (x : A) (rest : List Lexeme) → refuse_by b t ≡ Got x rest → ⊥
  never_got true t x rest h = cc
  never_got false t x rest h = cc

  limit_none : (ts : List Lexeme) (x : A) (rest : List Lexeme) → limit_read test ts ≡ Got x rest → ⊥
  limit_none [] x rest h = cc
  limit_none (t ∷ ts) x rest h = never_got (test t) t x rest h

  limit_halts : (front : List Lexeme) (t : Lexeme) (other : List Lexeme) → too_deep test front t → limit_read {A = A} test (front ++ t ∷ other) ≡ Failed (Statement t.place)
  limit_halts front t other d = ap (λ v. limit_read test (v ++ t ∷ other)) d.0 ∙ ap (λ v. refuse_by v t) d.1

  limit_begins : (front : List Lexeme) (t : Lexeme) → too_deep test front t → Begun (limit test G).phrase (front ++ t ∷ [])
  limit_begins front t d = subst (λ v. Begun G (v ++ t ∷ [])) (sym d.0) (l.begins t d.1)

  pub limit_laws : Laws (limit test G)
  limit_laws = record {
    example = l.example;
    empty = inl refl;
    free = l.free;
    wider = l.wider;
    ends = l.ends;
    sound = λ ts x rest all h. absurd (limit_none ts x rest h);
    full = λ ts x rest p. let s = l.starts ts x (first rest None) p in inr (record { front = []; token = s.0; rest = s.1; split = s.2; deep = (refl, s.3) });
    stops = λ ts fault all h. limit_stops ts fault h;
    halts = λ front t other d. (t.place, limit_halts front t other d);
    begins = limit_begins;
  }
