-- Readers that look no further than the token at which they stop, and stop only where they could have gone on otherwise.
use Rattle.std.proofs.Common.{◌≡◌, suc, ◌+◌, ◌<◌, List, [], ◌∷◌, ◌++◌, length, refl, sym, ◌∙◌, ap, subst, append_assoc, length-append, arith, Bool, true, false, cond, Option, None, Some}
use Rattle.vod_thin_syntax.specs.Reader.{Read, Got, Refused, Reader, followed, bind, give, same_word, choice, name_read}
use Rattle.vod_thin_syntax.specs.Syntax.{Name, Mark, Named, Fixed}
use Rattle.vod_thin_syntax.specs.declared.words.Word.{Word}

-- the tokens that were read, and that the answer doesn't hang on the others
pub record Takes {A : Type 0} (read : Reader A) (ts : List Mark) (x : A) (rest : List Mark) : Type 0 where
  pub front : List Mark
  pub split : ts ≡ front ++ rest
  pub same : (other : List Mark) → read (front ++ other) ≡ Got x other

-- the tokens before the one that can't stand there: with others behind them they are read, and with that one they aren't
pub record Stuck {A : Type 0} (read : Reader A) (ts rest : List Mark) : Type 0 where
  pub front : List Mark
  pub split : ts ≡ front ++ rest
  pub more : List Mark
  pub value : A
  pub goes : (other : List Mark) → read (front ++ (more ++ other)) ≡ Got value other
  pub same : (t : Mark) (us : List Mark) → rest ≡ t ∷ us → (other : List Mark) → read (front ++ t ∷ other) ≡ Refused (t ∷ other)

-- some tokens are read
pub record Example {A : Type 0} (read : Reader A) : Type 0 where
  pub marks : List Mark
  pub value : A
  pub goes : (other : List Mark) → read (marks ++ other) ≡ Got value other

pub record Steady {A : Type 0} (read : Reader A) : Type 0 where
  pub example : Example read
  pub takes : (ts : List Mark) (x : A) (rest : List Mark) → read ts ≡ Got x rest → Takes read ts x rest
  pub stuck : (ts rest : List Mark) → read ts ≡ Refused rest → Stuck read ts rest

pub got_value : {A : Type 0} {x y : A} {ts us : List Mark} → Got x ts ≡ Got y us → x ≡ y
got_value h = cc

pub got_rest : {A : Type 0} {x y : A} {ts us : List Mark} → Got x ts ≡ Got y us → ts ≡ us
got_rest h = cc

pub refused_rest : {A : Type 0} {ts us : List Mark} → ◌≡◌ {A = Read A} (Refused ts) (Refused us) → ts ≡ us
refused_rest h = cc

-- no token is read
pub give_steady : {A : Type 0} (x : A) → Steady (give x)
give_steady x = record {
  example = record { marks = []; value = x; goes = λ other. refl };
  takes = λ ts y rest h. record { front = []; split = got_rest h; same = λ other. ap (λ v. Got v other) (got_value h) };
  stuck = λ ts rest h. cc;
}

-- one reader behind another
bind_takes : {A B : Type 0} (read : Reader A) (next : A → Reader B) → Steady read → ((x : A) → Steady (next x))
    → (ts : List Mark) (y : B) (rest : List Mark) (r : Read A) → read ts ≡ r → followed r next ≡ Got y rest → Takes (bind read next) ts y rest
bind_takes read next steady nexts ts y rest (Refused us) e h = cc
bind_takes read next steady nexts ts y rest (Got x mid) e h =
    let p = steady.takes ts x mid e in
    let q = (nexts x).takes mid y rest h in
    record {
      front = p.front ++ q.front;
      split = p.split ∙ ap (λ v. p.front ++ v) q.split ∙ sym (append_assoc p.front q.front rest);
      same = λ other. ap (bind read next) (append_assoc p.front q.front other) ∙ ap (λ r. followed r next) (p.same (q.front ++ other)) ∙ q.same other;
    }

bind_stuck : {A B : Type 0} (read : Reader A) (next : A → Reader B) → Steady read → ((x : A) → Steady (next x))
    → (ts rest : List Mark) (r : Read A) → read ts ≡ r → followed r next ≡ Refused rest → Stuck (bind read next) ts rest
bind_stuck read next steady nexts ts rest (Refused us) e h =
    let p = steady.stuck ts rest (e ∙ ap Refused (refused_rest h)) in
    let s = (nexts p.value).example in
    record {
      front = p.front;
      split = p.split;
      more = p.more ++ s.marks;
      value = s.value;
      goes = λ other.
          ap (λ v. bind read next (p.front ++ v)) (append_assoc p.more s.marks other) ∙ ap (λ r. followed r next) (p.goes (s.marks ++ other)) ∙ s.goes other;
      same = λ t us f other. ap (λ r. followed r next) (p.same t us f other);
    }
bind_stuck read next steady nexts ts rest (Got x mid) e h =
    let p = steady.takes ts x mid e in
    let q = (nexts x).stuck mid rest h in
    record {
      front = p.front ++ q.front;
      split = p.split ∙ ap (λ v. p.front ++ v) q.split ∙ sym (append_assoc p.front q.front rest);
      more = q.more;
      value = q.value;
      goes = λ other. ap (bind read next) (append_assoc p.front q.front (q.more ++ other)) ∙ ap (λ r. followed r next) (p.same (q.front ++ (q.more ++ other))) ∙ q.goes other;
      same = λ t us f other. ap (bind read next) (append_assoc p.front q.front (t ∷ other)) ∙ ap (λ r. followed r next) (p.same (q.front ++ t ∷ other)) ∙ q.same t us f other;
    }

pub bind_steady : {A B : Type 0} (read : Reader A) (next : A → Reader B) → Steady read → ((x : A) → Steady (next x)) → Steady (bind read next)
bind_steady read next steady nexts =
    let p = steady.example in
    let q = (nexts p.value).example in
    record {
      example = record {
        marks = p.marks ++ q.marks;
        value = q.value;
        goes = λ other. ap (bind read next) (append_assoc p.marks q.marks other) ∙ ap (λ r. followed r next) (p.goes (q.marks ++ other)) ∙ q.goes other;
      };
      takes = λ ts y rest h. bind_takes read next steady nexts ts y rest (read ts) refl h;
      stuck = λ ts rest h. bind_stuck read next steady nexts ts rest (read ts) refl h;
    }

-- a name
name_takes : (ts : List Mark) (x : Name) (rest : List Mark) → name_read ts ≡ Got x rest → Takes name_read ts x rest
name_takes [] x rest h = cc
name_takes (Fixed w ∷ ts) x rest h = cc
name_takes (Named name ∷ ts) x rest h = record { front = Named name ∷ []; split = ap (λ v. Named name ∷ v) (got_rest h); same = λ other. ap (λ v. Got v other) (got_value h) }

some_name : Name
some_name = record { place = 0; bytes = [] }

name_refused : (t : Mark) (us ts : List Mark) → name_read ts ≡ Refused ts → ts ≡ t ∷ us → (other : List Mark) → name_read (t ∷ other) ≡ Refused (t ∷ other)
name_refused (Named name) us ts h e other = let read : name_read ts ≡ Got name us = ap name_read e in cc
name_refused (Fixed w) us ts h e other = refl

name_stuck : (ts rest : List Mark) → name_read ts ≡ Refused rest → Stuck name_read ts rest
name_stuck (Named name ∷ ts) rest h = cc
name_stuck [] rest h = record {
  front = [];
  split = refused_rest h;
  more = Named some_name ∷ [];
  value = some_name;
  goes = λ other. refl;
  same = λ t us e. name_refused t us rest (subst (λ v. name_read v ≡ Refused v) (refused_rest h) refl) e;
}
name_stuck (Fixed w ∷ ts) rest h = record {
  front = [];
  split = refused_rest h;
  more = Named some_name ∷ [];
  value = some_name;
  goes = λ other. refl;
  same = λ t us e. name_refused t us rest (subst (λ v. name_read v ≡ Refused v) (refused_rest h) refl) e;
}

pub name_steady : Steady name_read
name_steady = record { example = record { marks = Named some_name ∷ []; value = some_name; goes = λ other. refl }; takes = name_takes; stuck = name_stuck }

-- what one of several words begins
abbrev picked : {A : Type 0} → List (Word × Reader A) → Word → Option (Reader A)
picked [] v = None
picked (entry ∷ entries) v = cond (same_word v entry.0) (Some entry.1) (picked entries v)

abbrev chosen : {A : Type 0} → Option (Reader A) → Word → Reader A
chosen None v us = Refused (Fixed v ∷ us)
chosen (Some read) v us = read us

choice_nil : {A : Type 0} (entries : List (Word × Reader A)) → choice entries [] ≡ Refused []
choice_nil [] = refl
choice_nil (entry ∷ entries) = choice_nil entries

choice_named : {A : Type 0} (entries : List (Word × Reader A)) (name : Name) (us : List Mark) → choice entries (Named name ∷ us) ≡ Refused (Named name ∷ us)
choice_named [] name us = refl
choice_named (entry ∷ entries) name us = choice_named entries name us

choice_fixed : {A : Type 0} (entries : List (Word × Reader A)) (v : Word) (us : List Mark) → choice entries (Fixed v ∷ us) ≡ chosen (picked entries v) v us
choice_fixed [] v us = refl
choice_fixed {A} (entry ∷ entries) v us = by_test (same_word v entry.0) (choice_fixed entries v us)
  where
    by_test : (b : Bool) → choice entries (Fixed v ∷ us) ≡ chosen (picked entries v) v us
        → cond b (entry.1 us) (choice entries (Fixed v ∷ us)) ≡ chosen (cond b (Some entry.1) (picked entries v)) v us
    by_test true more = refl
    by_test false more = more

abbrev pub AllSteady : {A : Type 0} → List (Word × Reader A) → Type 0
AllSteady [] = Unit {0}
AllSteady (entry ∷ entries) = Steady entry.1 × AllSteady entries

some_same : {A : Type 0} {a b : A} → Some a ≡ Some b → a ≡ b
some_same h = cc

picked_steady : {A : Type 0} (entries : List (Word × Reader A)) → AllSteady entries → (v : Word) (read : Reader A) → picked entries v ≡ Some read → Steady read
picked_steady [] all v read e = cc
picked_steady {A} (entry ∷ entries) all v read e = by_test (picked_steady entries all.1 v read) (same_word v entry.0) e
  where
    by_test : (picked entries v ≡ Some read → Steady read) → (b : Bool) → cond b (Some entry.1) (picked entries v) ≡ Some read → Steady read
    by_test more true f = subst Steady (some_same f) all.0
    by_test more false f = more f

choice_takes : {A : Type 0} (entries : List (Word × Reader A)) → AllSteady entries → (ts : List Mark) (x : A) (rest : List Mark) → choice entries ts ≡ Got x rest
    → (first : Mark) × (us : List Mark) × (ts ≡ first ∷ us) × Takes (λ vs. choice entries (first ∷ vs)) us x rest
choice_takes entries all [] x rest h = let none = choice_nil entries in cc
choice_takes entries all (Named name ∷ us) x rest h = let none = choice_named entries name us in cc
choice_takes {A} entries all (Fixed v ∷ us) x rest h = by_picked (picked entries v) refl (sym (choice_fixed entries v us) ∙ h)
  where
    by_picked : (o : Option (Reader A)) → picked entries v ≡ o → chosen o v us ≡ Got x rest → (first : Mark) × (vs : List Mark) × (Fixed v ∷ us ≡ first ∷ vs) × Takes (λ ws. choice entries (first ∷ ws)) vs x rest
    by_picked None e f = cc
    by_picked (Some read) e f =
        let p = (picked_steady entries all v read e).takes us x rest f in (
          Fixed v,
          us,
          refl,
          record {
            front = p.front;
            split = p.split;
            same = λ other. choice_fixed entries v (p.front ++ other) ∙ ap (λ o. chosen o v (p.front ++ other)) e ∙ p.same other;
          },
        )

-- the first token is none of the words
stuck_at_first : {A : Type 0} (entries : List (Word × Reader A)) → Example (choice entries) → (ts rest : List Mark) → ts ≡ rest
    → ((t : Mark) (us : List Mark) → ts ≡ t ∷ us → (other : List Mark) → choice entries (t ∷ other) ≡ Refused (t ∷ other)) → Stuck (choice entries) ts rest
stuck_at_first entries example ts rest e same = record {
  front = [];
  split = e;
  more = example.marks;
  value = example.value;
  goes = example.goes;
  same = λ t us f other. same t us (e ∙ f) other;
}

choice_stuck : {A : Type 0} (entries : List (Word × Reader A)) → Example (choice entries) → AllSteady entries → (ts rest : List Mark) → choice entries ts ≡ Refused rest → Stuck (choice entries) ts rest
choice_stuck entries example all [] rest h = stuck_at_first entries example [] rest (refused_rest (sym (choice_nil entries) ∙ h)) (λ t us e other. cc)
choice_stuck entries example all (Named name ∷ us) rest h =
    stuck_at_first entries example (Named name ∷ us) rest (refused_rest (sym (choice_named entries name us) ∙ h))
    (λ t vs e other. let same : Named name ≡ t = cc in subst (λ v. choice entries (v ∷ other) ≡ Refused (v ∷ other)) same (choice_named entries name other))
choice_stuck {A} entries example all (Fixed v ∷ us) rest h = by_picked (picked entries v) refl (sym (choice_fixed entries v us) ∙ h)
  where
    by_picked : (o : Option (Reader A)) → picked entries v ≡ o → chosen o v us ≡ Refused rest → Stuck (choice entries) (Fixed v ∷ us) rest
    by_picked None e f =
        stuck_at_first entries example (Fixed v ∷ us) rest (refused_rest f)
        (λ t vs g other. let same : Fixed v ≡ t = cc in subst (λ w. choice entries (w ∷ other) ≡ Refused (w ∷ other)) same (choice_fixed entries v other ∙ ap (λ o. chosen o v other) e))
    by_picked (Some read) e f =
        let p = (picked_steady entries all v read e).stuck us rest f in
        record {
          front = Fixed v ∷ p.front;
          split = ap (λ w. Fixed v ∷ w) p.split;
          more = p.more;
          value = p.value;
          goes = λ other. choice_fixed entries v (p.front ++ (p.more ++ other)) ∙ ap (λ o. chosen o v (p.front ++ (p.more ++ other))) e ∙ p.goes other;
          same = λ t vs g other. choice_fixed entries v (p.front ++ t ∷ other) ∙ ap (λ o. chosen o v (p.front ++ t ∷ other)) e ∙ p.same t vs g other;
        }

pub choice_steady : {A : Type 0} (entries : List (Word × Reader A)) → Example (choice entries) → AllSteady entries → Steady (choice entries)
choice_steady entries example all = record {
  example = example;
  takes = λ ts x rest h. (
      let p = choice_takes entries all ts x rest h in
      let q = p.3 in
      record { front = p.0 ∷ q.front; split = p.2 ∙ ap (λ v. p.0 ∷ v) q.split; same = q.same });
  stuck = λ ts rest h. choice_stuck entries example all ts rest h;
}

-- a reader that reads a token at least
abbrev pub Shrinks : {A : Type 0} → Reader A → Type 0
Shrinks {A} read = (ts : List Mark) (x : A) (rest : List Mark) → read ts ≡ Got x rest → length rest < length ts

pub choice_shrinks : {A : Type 0} (entries : List (Word × Reader A)) → AllSteady entries → Shrinks (choice entries)
choice_shrinks entries all ts x rest h =
    let p = choice_takes entries all ts x rest h in
    let q = p.3 in
    let long : length ts ≡ suc (length p.1) = ap length p.2 in
    let sum : length p.1 ≡ length q.front + length rest = ap length q.split ∙ length-append q.front rest in
    omega arith

pub bind_shrinks : {A B : Type 0} (read : Reader A) (next : A → Reader B) → Shrinks read → ((x : A) → Steady (next x)) → Shrinks (bind read next)
bind_shrinks {A} {B} read next shrinks nexts ts y rest h = by_read (read ts) refl h
  where
    by_read : (r : Read A) → read ts ≡ r → followed r next ≡ Got y rest → length rest < length ts
    by_read (Refused us) e f = cc
    by_read (Got x mid) e f =
        let less = shrinks ts x mid e in
        let q = (nexts x).takes mid y rest f in
        let sum : length mid ≡ length q.front + length rest = ap length q.split ∙ length-append q.front rest in
        omega arith
