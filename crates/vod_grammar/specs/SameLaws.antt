-- A form that reads as another does, and has the same phrases.
use Rattle.std.proofs.Common.{◌≡◌, ◌⊎◌, inl, inr, List, [], ◌∷◌, ◌++◌, Option, None, sym, ◌∙◌}
use Rattle.vod_expr.specs.Grammar.{Lexeme}
use Rattle.vod_expr.specs.declared.ParseFault.{ParseFault}
use Rattle.vod_grammar.specs.Form.{Form, Sight, Alone, Before}
use Rattle.vod_grammar.specs.Laws.{Laws, Begun, Taken, Stopped, Halted, Unfinished, Passed}
use Rattle.vod_grammar.specs.Read.{Got, first}

-- g reads as f does, and its phrases and what is too deep in it are those of f
pub record Same {A : Type 0} (f g : Form A) : Type 0 where
  pub read : (ts : List Lexeme) → g.read ts ≡ f.read ts
  pub into : (m : Sight) (ts : List Lexeme) (x : A) (b : Option Lexeme) → g.phrase m ts x b → f.phrase m ts x b
  pub out : (m : Sight) (ts : List Lexeme) (x : A) (b : Option Lexeme) → f.phrase m ts x b → g.phrase m ts x b
  pub into_deep : (front : List Lexeme) (t : Lexeme) → g.deep front t → f.deep front t
  pub out_deep : (front : List Lexeme) (t : Lexeme) → f.deep front t → g.deep front t

module _ {A : Type 0} (f g : Form A) (same : Same f g) (lf : Laws f) where
  begun : (front : List Lexeme) → Begun f.phrase front → Begun g.phrase front
  begun front b = record { more = b.more; value = b.value; is = same.out Alone (front ++ b.more) b.value None b.is }

  unfinished : (ts : List Lexeme) → Unfinished f ts → Unfinished g ts
  unfinished ts (inl h) = inl (same.read ts ∙ h)
  unfinished ts (inr h) = inr (h.0, same.read ts ∙ h.1)

  taken : (ts : List Lexeme) (x : A) (rest : List Lexeme) → Taken f.phrase ts x rest → Taken g.phrase ts x rest
  taken ts x rest p = record { front = p.front; split = p.split; is = same.out Before p.front x (first rest None) p.is }

  full : (ts : List Lexeme) (x : A) (rest : List Lexeme) → (f.read (ts ++ rest) ≡ Got x rest) ⊎ Passed f.deep ts → (g.read (ts ++ rest) ≡ Got x rest) ⊎ Passed g.deep ts
  full ts x rest (inl h) = inl (same.read (ts ++ rest) ∙ h)
  full ts x rest (inr d) = inr (record { front = d.front; token = d.token; rest = d.rest; split = d.split; deep = same.out_deep d.front d.token d.deep })

  stops : (ts : List Lexeme) (fault : ParseFault) → Stopped f ts fault ⊎ Halted f ts fault → Stopped g ts fault ⊎ Halted g ts fault
  stops ts fault (inl s) = inl (record {
    front = s.front;
    rest = s.rest;
    split = s.split;
    is = s.is;
    begun = begun s.front s.begun;
    same = λ t us other e. same.read (s.front ++ t ∷ other) ∙ s.same t us other e;
  })
  stops ts fault (inr h) = inr (record {
    front = h.front;
    token = h.token;
    rest = h.rest;
    split = h.split;
    is = h.is;
    deep = same.out_deep h.front h.token h.deep;
    same = λ other. same.read (h.front ++ h.token ∷ other) ∙ h.same other;
    ahead = unfinished h.front h.ahead;
  })

  pub same_laws : Laws g
  same_laws = record {
    example = record { tokens = lf.example.tokens; value = lf.example.value; is = same.out Alone lf.example.tokens lf.example.value None lf.example.is };
    empty = unfinished [] lf.empty;
    free = λ ts x b c p. same.out Alone ts x c (lf.free ts x b c (same.into Alone ts x b p));
    wider = λ ts x b p. same.out Alone ts x b (lf.wider ts x b (same.into Before ts x b p));
    ends = λ ts x b p. same.out Before ts x None (lf.ends ts x b (same.into Before ts x b p));
    sound = λ ts x rest all h. taken ts x rest (lf.sound ts x rest all (sym (same.read ts) ∙ h));
    full = λ ts x rest p. full ts x rest (lf.full ts x rest (same.into Before ts x (first rest None) p));
    stops = λ ts fault all h. stops ts fault (lf.stops ts fault all (sym (same.read ts) ∙ h));
    halts = λ front t other d. let h = lf.halts front t other (same.into_deep front t d) in (h.0, same.read (front ++ t ∷ other) ∙ h.1);
    begins = λ front t d. begun (front ++ t ∷ []) (lf.begins front t (same.into_deep front t d));
  }
