-- What a form of whole texts keeps, by its laws.
use Rattle.std.proofs.Common.{◌≡◌, ◌⊎◌, inl, inr, ℕ, List, [], ◌∷◌, ◌++◌, Option, None, refl, sym, ◌∙◌, ap, subst, append_assoc, append-nil}
use Rattle.vod_expr.specs.Answer.{fault_at}
use Rattle.vod_expr.specs.Grammar.{Lexeme}
use Rattle.vod_expr.specs.declared.ParseFault.{ParseFault}
use Rattle.vod_expr.specs.declared.ParseFault.TheVariants.{At, End, Statement}
use Rattle.vod_grammar.specs.Form.{Form, Sight, Alone, Before}
use Rattle.vod_grammar.specs.FrontLaws.{got_failed}
use Rattle.vod_grammar.specs.Laws.{Laws, Begun, Stopped, Halted, Unfinished, Passed, AreLexemes}
use Rattle.vod_grammar.specs.Read.{Read, Got, Failed}
use Rattle.vod_parse.specs.Whole.{Sentence, Begins, Shallow, IsWhole, IsWrongAt, IsUnfinished, IsTooDeepAt, Refuses}

-- a reading has one fault
at_or_deep : {A : Type 0} (r : Read A) (p q : ℕ) → r ≡ Failed (At p) → r ≡ Failed (Statement q) → ⊥
at_or_deep r p q h k = cc

end_or_deep : {A : Type 0} (r : Read A) (q : ℕ) → r ≡ Failed End → r ≡ Failed (Statement q) → ⊥
end_or_deep r q h k = cc

module _ {A : Type 0} (R : Sentence A) (f : Form A) (lf : Laws f)
    (is : (m : Sight) (ts : List Lexeme) (x : A) (b : Option Lexeme) → f.phrase m ts x b → R ts x)
    (into : (ts : List Lexeme) (x : A) → R ts x → f.phrase Before ts x None) where
  begins : (front : List Lexeme) → Begun f.phrase front → Begins R front
  begins front b = (b.more, b.value, is Alone (front ++ b.more) b.value None b.is)

  -- a sentence is read, or a part is nested too deep
  read_full : (ts : List Lexeme) (x : A) → R ts x → (f.read ts ≡ Got x []) ⊎ Passed f.deep ts
  read_full ts x r = subst (λ v. (f.read v ≡ Got x []) ⊎ Passed f.deep ts) (append-nil ts) (lf.full ts x [] (into ts x r))

  deep_fails : (ts other : List Lexeme) → Passed f.deep ts → (place : ℕ) × (f.read (ts ++ other) ≡ Failed (Statement place))
  deep_fails ts other d =
      let h = lf.halts d.front d.token (d.rest ++ other) d.deep in
      (h.0, ap f.read (ap (λ v. v ++ other) d.split ∙ append_assoc d.front (d.token ∷ d.rest) other) ∙ h.1)

  got_shallow : (ts other : List Lexeme) (x : A) (rest : List Lexeme) → f.read (ts ++ other) ≡ Got x rest → Shallow f.deep ts
  got_shallow ts other x rest h d = got_failed (sym h ∙ (deep_fails ts other d).1)

  stopped_shallow : (ts other : List Lexeme) (place : ℕ) → f.read (ts ++ other) ≡ Failed (At place) → Shallow f.deep ts
  stopped_shallow ts other place h d = let k = deep_fails ts other d in at_or_deep (f.read (ts ++ other)) place k.0 h k.1

  ended_shallow : (ts other : List Lexeme) → f.read (ts ++ other) ≡ Failed End → Shallow f.deep ts
  ended_shallow ts other h d = let k = deep_fails ts other d in end_or_deep (f.read (ts ++ other)) k.0 h k.1

  -- a text that is read to its end
  pub whole : (ts : List Lexeme) (x : A) → AreLexemes ts → f.read ts ≡ Got x [] → IsWhole R f.deep ts x
  whole ts x all h =
      let p = lf.sound ts x [] all h in
      record {
        is = subst (λ v. R v x) (sym (p.split ∙ append-nil p.front)) (is Before p.front x None p.is);
        shallow = got_shallow ts [] x [] (ap f.read (append-nil ts) ∙ h);
      }

  never_at : (ts : List Lexeme) (x : A) (place : ℕ) → (f.read ts ≡ Got x []) ⊎ Passed f.deep ts → f.read ts ≡ Failed (At place) → ⊥
  never_at ts x place (inl k) h = got_failed (sym k ∙ h)
  never_at ts x place (inr d) h = stopped_shallow ts [] place (ap f.read (append-nil ts) ∙ h) d

  never_end : (ts : List Lexeme) (x : A) → (f.read ts ≡ Got x []) ⊎ Passed f.deep ts → f.read ts ≡ Failed End → ⊥
  never_end ts x (inl k) h = got_failed (sym k ∙ h)
  never_end ts x (inr d) h = ended_shallow ts [] (ap f.read (append-nil ts) ∙ h) d

  -- where the reader stopped at a token or at the end
  wrong_at : (ts front : List Lexeme) (t : Lexeme) (rest : List Lexeme) → ts ≡ front ++ t ∷ rest → Begun f.phrase front → ((other : List Lexeme) → f.read (front ++ t ∷ other) ≡ Failed (At t.place)) → IsWrongAt R f.deep ts t.place
  wrong_at ts front t rest split b same = record {
    front = front;
    token = t;
    rest = rest;
    split = split;
    is = refl;
    begins = begins front b;
    wrong = λ w. never_at (front ++ t ∷ w.0) w.1 t.place (read_full (front ++ t ∷ w.0) w.1 (subst (λ v. R v w.1) (append_assoc front (t ∷ []) w.0) w.2)) (same w.0);
    shallow = stopped_shallow (front ++ t ∷ []) [] t.place (ap f.read (append-nil (front ++ t ∷ [])) ∙ same []);
  }

  stopped : (ts front rest : List Lexeme) (fault : ParseFault) → ts ≡ front ++ rest → fault ≡ fault_at rest → f.read ts ≡ Failed fault → Begun f.phrase front
      → ((t : Lexeme) (us other : List Lexeme) → rest ≡ t ∷ us → f.read (front ++ t ∷ other) ≡ Failed (At t.place)) → Refuses R f.deep ts fault
  stopped ts front [] fault split e h b same =
      let ended : f.read ts ≡ Failed End = h ∙ ap Failed e in
      let unfinished : IsUnfinished R f.deep ts = record {
        begins = begins ts (subst (λ v. Begun f.phrase v) (sym (split ∙ append-nil front)) b);
        none = λ x r. never_end ts x (read_full ts x r) ended;
        shallow = ended_shallow ts [] (ap f.read (append-nil ts) ∙ ended);
      } in
      subst (λ v. Refuses R f.deep ts v) (sym e) unfinished
  stopped ts front (t ∷ rest) fault split e h b same =
      let wrong : IsWrongAt R f.deep ts t.place = wrong_at ts front t rest split b (λ other. same t rest other refl) in
      subst (λ v. Refuses R f.deep ts v) (sym e) wrong

  ahead_shallow : (front : List Lexeme) → Unfinished f front → Shallow f.deep front
  ahead_shallow front (inl h) = ended_shallow front [] (ap f.read (append-nil front) ∙ h)
  ahead_shallow front (inr h) = got_shallow front [] h.0 [] (ap f.read (append-nil front) ∙ h.1)

  halted : (ts : List Lexeme) (fault : ParseFault) → Halted f ts fault → Refuses R f.deep ts fault
  halted ts fault h =
      let deep : IsTooDeepAt R f.deep ts h.token.place = record {
        front = h.front;
        token = h.token;
        rest = h.rest;
        split = h.split;
        is = refl;
        deep = h.deep;
        begins = begins (h.front ++ h.token ∷ []) (lf.begins h.front h.token h.deep);
        shallow = ahead_shallow h.front h.ahead;
      } in
      subst (λ v. Refuses R f.deep ts v) (sym h.is) deep

  -- a text that is refused
  pub refused : (ts : List Lexeme) (fault : ParseFault) → AreLexemes ts → f.read ts ≡ Failed fault → Refuses R f.deep ts fault
  refused ts fault all h = by (lf.stops ts fault all h)
    where
      by : Stopped f ts fault ⊎ Halted f ts fault → Refuses R f.deep ts fault
      by (inl s) = stopped ts s.front s.rest fault s.split s.is h s.begun s.same
      by (inr k) = halted ts fault k

  -- the tokens of a sentence in which nothing is nested too deep are read as it
  pub read_whole : (ts : List Lexeme) (x : A) → IsWhole R f.deep ts x → f.read ts ≡ Got x []
  read_whole ts x w = by (read_full ts x w.is)
    where
      by : (f.read ts ≡ Got x []) ⊎ Passed f.deep ts → f.read ts ≡ Got x []
      by (inl h) = h
      by (inr d) = absurd (w.shallow d)

  -- one tree
  pub one_tree : (ts : List Lexeme) (x y : A) → IsWhole R f.deep ts x → IsWhole R f.deep ts y → x ≡ y
  one_tree ts x y v w = let same : Got x [] ≡ Got y [] = sym (read_whole ts x v) ∙ read_whole ts y w in cc
