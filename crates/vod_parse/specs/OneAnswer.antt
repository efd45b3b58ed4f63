-- A text has one answer: it is one sentence, or it is refused in one way.
use Rattle.std.proofs.Common.{◌≡◌, ℕ, List, [], ◌∷◌, ◌++◌, refl, sym, ◌∙◌, ap, subst, append_assoc, append-nil}
use Rattle.vod_expr.specs.Grammar.{Lexeme}
use Rattle.vod_expr.specs.declared.ParseFault.{ParseFault}
use Rattle.vod_expr.specs.declared.ParseFault.TheVariants.{At, End, Statement, Memory}
use Rattle.vod_grammar.specs.Form.{Depth}
use Rattle.vod_grammar.specs.Laws.{Passed}
use Rattle.vod_parse.specs.Whole.{Sentence, Begins, IsWhole, IsWrongAt, IsUnfinished, IsTooDeepAt, Refuses}

-- how two places in a list stand to each other: the one is before the other, or they are one
data Places (front : List Lexeme) (t : Lexeme) (later : List Lexeme) (u : Lexeme) : Type 0 where
  earlier : (more : List Lexeme) → later ≡ front ++ t ∷ more → Places front t later u
  same : front ≡ later → t ≡ u → Places front t later u
  behind : (more : List Lexeme) → front ≡ later ++ u ∷ more → Places front t later u

heads : {t u : Lexeme} {ts us : List Lexeme} → t ∷ ts ≡ u ∷ us → t ≡ u
heads h = cc

tails : {t u : Lexeme} {ts us : List Lexeme} → t ∷ ts ≡ u ∷ us → ts ≡ us
tails h = cc

longer : (s : Lexeme) (front : List Lexeme) (t : Lexeme) (later : List Lexeme) (u : Lexeme) → Places front t later u → Places (s ∷ front) t (s ∷ later) u
longer s front t later u (earlier more e) = earlier more (ap (λ v. s ∷ v) e)
longer s front t later u (same e k) = same (ap (λ v. s ∷ v) e) k
longer s front t later u (behind more e) = behind more (ap (λ v. s ∷ v) e)

places : (front : List Lexeme) (t : Lexeme) (rest later : List Lexeme) (u : Lexeme) (after : List Lexeme) → front ++ t ∷ rest ≡ later ++ u ∷ after → Places front t later u
places [] t rest [] u after e = same refl (heads e)
places [] t rest (v ∷ later) u after e = earlier later (ap (λ w. w ∷ later) (sym (heads e)))
places (s ∷ front) t rest [] u after e = behind front (ap (λ w. w ∷ front) (heads e))
places (s ∷ front) t rest (v ∷ later) u after e = subst (λ w. Places (s ∷ front) t (w ∷ later) u) (heads e) (longer s front t later u (places front t rest later u after (tails e)))

module _ {A : Type 0} (R : Sentence A) (D : Depth) where
  -- a sentence that begins with tokens begins with fewer
  begins_front : (front more : List Lexeme) → Begins R (front ++ more) → Begins R front
  begins_front front more b = (more ++ b.0, b.1, subst (λ v. R v b.1) (append_assoc front more b.0) b.2)

  begins_at : (front : List Lexeme) (t : Lexeme) (more all : List Lexeme) → all ≡ front ++ t ∷ more → Begins R all → Begins R (front ++ t ∷ [])
  begins_at front t more all e b = begins_front (front ++ t ∷ []) more (subst (λ v. Begins R v) (e ∙ sym (append_assoc front (t ∷ []) more)) b)

  is_begun : (ts : List Lexeme) (x : A) → R ts x → Begins R ts
  is_begun ts x r = ([], x, subst (λ v. R v x) (sym (append-nil ts)) r)

  passed_at : (front : List Lexeme) (t : Lexeme) (more all : List Lexeme) → all ≡ front ++ t ∷ more → D front t → Passed D all
  passed_at front t more all e d = record { front = front; token = t; rest = more; split = e; deep = d }

  -- no other answer
  whole_wrong : (ts : List Lexeme) (x : A) (p : ℕ) → IsWhole R D ts x → IsWrongAt R D ts p → ⊥
  whole_wrong ts x p w a = a.wrong (begins_at a.front a.token a.rest ts a.split (is_begun ts x w.is))

  whole_deep : (ts : List Lexeme) (x : A) (p : ℕ) → IsWhole R D ts x → IsTooDeepAt R D ts p → ⊥
  whole_deep ts x p w a = w.shallow (passed_at a.front a.token a.rest ts a.split a.deep)

  wrong_unfinished : (ts : List Lexeme) (p : ℕ) → IsWrongAt R D ts p → IsUnfinished R D ts → ⊥
  wrong_unfinished ts p a u = a.wrong (begins_at a.front a.token a.rest ts a.split u.begins)

  deep_unfinished : (ts : List Lexeme) (p : ℕ) → IsTooDeepAt R D ts p → IsUnfinished R D ts → ⊥
  deep_unfinished ts p a u = u.shallow (passed_at a.front a.token a.rest ts a.split a.deep)

  wrong_deep : (ts : List Lexeme) (p q : ℕ) → IsWrongAt R D ts p → IsTooDeepAt R D ts q → ⊥
  wrong_deep ts p q a d = by (places a.front a.token a.rest d.front d.token d.rest (sym a.split ∙ d.split))
    where
      by : Places a.front a.token d.front d.token → ⊥
      by (earlier more e) = a.wrong (begins_at a.front a.token (more ++ d.token ∷ []) (d.front ++ d.token ∷ []) (ap (λ v. v ++ d.token ∷ []) e ∙ append_assoc a.front (a.token ∷ more) (d.token ∷ [])) d.begins)
      by (same e k) = a.wrong (subst (λ v. Begins R v) (ap (λ v. v ++ d.token ∷ []) (sym e) ∙ ap (λ v. a.front ++ v ∷ []) (sym k)) d.begins)
      by (behind more e) = a.shallow (passed_at d.front d.token (more ++ a.token ∷ []) (a.front ++ a.token ∷ []) (ap (λ v. v ++ a.token ∷ []) e ∙ append_assoc d.front (d.token ∷ more) (a.token ∷ [])) d.deep)

  one_wrong : (ts : List Lexeme) (p q : ℕ) → IsWrongAt R D ts p → IsWrongAt R D ts q → p ≡ q
  one_wrong ts p q a b = by (places a.front a.token a.rest b.front b.token b.rest (sym a.split ∙ b.split))
    where
      by : Places a.front a.token b.front b.token → p ≡ q
      by (earlier more e) = absurd (a.wrong (begins_at a.front a.token more b.front e b.begins))
      by (same e k) = a.is ∙ ap (λ v. v.place) k ∙ sym b.is
      by (behind more e) = absurd (b.wrong (begins_at b.front b.token more a.front e a.begins))

  one_deep : (ts : List Lexeme) (p q : ℕ) → IsTooDeepAt R D ts p → IsTooDeepAt R D ts q → p ≡ q
  one_deep ts p q a b = by (places a.front a.token a.rest b.front b.token b.rest (sym a.split ∙ b.split))
    where
      by : Places a.front a.token b.front b.token → p ≡ q
      by (earlier more e) = absurd (b.shallow (passed_at a.front a.token more b.front e a.deep))
      by (same e k) = a.is ∙ ap (λ v. v.place) k ∙ sym b.is
      by (behind more e) = absurd (a.shallow (passed_at b.front b.token more a.front e b.deep))

  -- what is a sentence isn't refused
  pub not_refused : (ts : List Lexeme) (x : A) (fault : ParseFault) → IsWhole R D ts x → Refuses R D ts fault → ⊥
  not_refused ts x (At p) w a = whole_wrong ts x p w a
  not_refused ts x End w a = a.none x w.is
  not_refused ts x (Statement p) w a = whole_deep ts x p w a
  not_refused ts x Memory w a = a

  -- what is refused is refused in one way
  refused_at : (ts : List Lexeme) (p : ℕ) (fault : ParseFault) → IsWrongAt R D ts p → Refuses R D ts fault → At p ≡ fault
  refused_at ts p (At q) a b = ap At (one_wrong ts p q a b)
  refused_at ts p End a b = absurd (wrong_unfinished ts p a b)
  refused_at ts p (Statement q) a b = absurd (wrong_deep ts p q a b)
  refused_at ts p Memory a b = absurd b

  refused_end : (ts : List Lexeme) (fault : ParseFault) → IsUnfinished R D ts → Refuses R D ts fault → End ≡ fault
  refused_end ts (At q) a b = absurd (wrong_unfinished ts q b a)
  refused_end ts End a b = refl
  refused_end ts (Statement q) a b = absurd (deep_unfinished ts q b a)
  refused_end ts Memory a b = absurd b

  refused_deep : (ts : List Lexeme) (p : ℕ) (fault : ParseFault) → IsTooDeepAt R D ts p → Refuses R D ts fault → Statement p ≡ fault
  refused_deep ts p (At q) a b = absurd (wrong_deep ts q p b a)
  refused_deep ts p End a b = absurd (deep_unfinished ts p a b)
  refused_deep ts p (Statement q) a b = ap Statement (one_deep ts p q a b)
  refused_deep ts p Memory a b = absurd b

  pub one_refusal : (ts : List Lexeme) (fault other : ParseFault) → Refuses R D ts fault → Refuses R D ts other → fault ≡ other
  one_refusal ts (At p) other a b = refused_at ts p other a b
  one_refusal ts End other a b = refused_end ts other a b
  one_refusal ts (Statement p) other a b = refused_deep ts p other a b
  one_refusal ts Memory other a b = absurd a
