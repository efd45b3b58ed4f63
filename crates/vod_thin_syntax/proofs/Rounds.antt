-- Parts in turn, up to a word.
use Rattle.std.proofs.Common.{◌≡◌, ℕ, zero, suc, ◌+◌, ◌<◌, ◌≤◌, List, [], ◌∷◌, ◌++◌, length, refl, sym, ◌∙◌, ap, append_assoc, arith, ◌-◌, Bool, true, false, cond, eq-eqb}
use Rattle.std.specs.List.{flat_map}
use Rattle.vod_thin_syntax.proofs.Steady.{Takes, Stuck, Steady, Shrinks, got_value, got_rest, refused_rest}
use Rattle.vod_thin_syntax.specs.Reader.{Read, Got, Refused, Reader, followed, number_of, same_word, is_next, rest_of, many_within, many}
use Rattle.vod_thin_syntax.specs.Syntax.{Mark, Named, Fixed}
use Rattle.vod_thin_syntax.specs.declared.words.Word.{Word}

pub same_word-refl : (w : Word) → same_word w w ≡ true
same_word-refl w = eq-eqb (number_of w) (number_of w) refl

-- whether a word comes next hangs on one token
pub next_same : (w : Word) (t : Mark) (us vs : List Mark) → is_next w (t ∷ us) ≡ is_next w (t ∷ vs)
next_same w (Named name) us vs = refl
next_same w (Fixed v) us vs = refl

pub next_behind : (w : Word) (front : List Mark) (t : Mark) (us vs : List Mark) → is_next w (front ++ t ∷ us) ≡ is_next w (front ++ t ∷ vs)
next_behind w [] t us vs = next_same w t us vs
next_behind w (f ∷ front) t us vs = next_same w f (front ++ t ∷ us) (front ++ t ∷ vs)

-- the rounds: another one changes nothing where there are as many as tokens
round_more : {A : Type 0} (stop : Word) (read : Reader A) → Shrinks read → (rounds : ℕ) (sofar : List A) (ts : List Mark) → length ts < rounds
    → many_within (suc rounds) stop read sofar ts ≡ many_within rounds stop read sofar ts
round_more stop read shrinks zero sofar ts few = absurd (omega arith)
round_more {A} stop read shrinks (suc rounds) sofar ts few = by_next (is_next stop ts) (by_read (λ x rest. round_more stop read shrinks rounds (sofar ++ x ∷ []) rest) (read ts) refl)
  where
    by_read : ((x : A) (rest : List Mark) → length rest < rounds → many_within (suc rounds) stop read (sofar ++ x ∷ []) rest ≡ many_within rounds stop read (sofar ++ x ∷ []) rest)
        → (r : Read A) → read ts ≡ r → followed r (λ x rest. many_within (suc rounds) stop read (sofar ++ x ∷ []) rest) ≡ followed r (λ x rest. many_within rounds stop read (sofar ++ x ∷ []) rest)
    by_read more (Refused us) e = refl
    by_read more (Got x rest) e = let less = shrinks ts x rest e in more x rest (omega arith)

    by_next : (b : Bool) → followed (read ts) (λ x rest. many_within (suc rounds) stop read (sofar ++ x ∷ []) rest) ≡ followed (read ts) (λ x rest. many_within rounds stop read (sofar ++ x ∷ []) rest)
        → cond b (Got sofar (rest_of ts)) (followed (read ts) (λ x rest. many_within (suc rounds) stop read (sofar ++ x ∷ []) rest))
        ≡ cond b (Got sofar (rest_of ts)) (followed (read ts) (λ x rest. many_within rounds stop read (sofar ++ x ∷ []) rest))
    by_next true more = refl
    by_next false more = more

rounds_enough : {A : Type 0} (stop : Word) (read : Reader A) → Shrinks read → (extra : ℕ) (sofar : List A) (ts : List Mark)
    → many_within (extra + suc (length ts)) stop read sofar ts ≡ many stop read sofar ts
unfolding many
rounds_enough stop read shrinks zero sofar ts = ap (λ n. many_within n stop read sofar ts) (let e : zero + suc (length ts) ≡ suc (length ts) = omega arith in e)
rounds_enough stop read shrinks (suc extra) sofar ts =
    ap (λ n. many_within n stop read sofar ts) (let e : suc extra + suc (length ts) ≡ suc (extra + suc (length ts)) = omega arith in e)
    ∙ round_more stop read shrinks (extra + suc (length ts)) sofar ts (omega arith)
    ∙ rounds_enough stop read shrinks extra sofar ts

enough : {A : Type 0} (stop : Word) (read : Reader A) → Shrinks read → (rounds : ℕ) (sofar : List A) (ts : List Mark) → length ts < rounds
    → many_within rounds stop read sofar ts ≡ many stop read sofar ts
enough stop read shrinks rounds sofar ts few =
    let extra : ℕ = rounds - suc (length ts) in
    ap (λ n. many_within n stop read sofar ts) (let e : rounds ≡ extra + suc (length ts) = omega arith in e) ∙ rounds_enough stop read shrinks extra sofar ts

-- a round: the word comes, or else a part is read
pub many_stop : {A : Type 0} (stop : Word) (read : Reader A) (sofar : List A) (ts : List Mark) → is_next stop ts ≡ true → many stop read sofar ts ≡ Got sofar (rest_of ts)
unfolding many
many_stop stop read sofar ts e = ap (λ b. cond b (Got sofar (rest_of ts)) (followed (read ts) (λ x rest. many_within (length ts) stop read (sofar ++ x ∷ []) rest))) e

pub many_refused : {A : Type 0} (stop : Word) (read : Reader A) (sofar : List A) (ts rest : List Mark) → is_next stop ts ≡ false → read ts ≡ Refused rest → many stop read sofar ts ≡ Refused rest
unfolding many
many_refused stop read sofar ts rest e f =
    ap (λ b. cond b (Got sofar (rest_of ts)) (followed (read ts) (λ x rest. many_within (length ts) stop read (sofar ++ x ∷ []) rest))) e
    ∙ ap (λ r. followed r (λ x rest. many_within (length ts) stop read (sofar ++ x ∷ []) rest)) f

pub many_more : {A : Type 0} (stop : Word) (read : Reader A) → Shrinks read → (sofar : List A) (ts : List Mark) (x : A) (rest : List Mark) → is_next stop ts ≡ false → read ts ≡ Got x rest
    → many stop read sofar ts ≡ many stop read (sofar ++ x ∷ []) rest
unfolding many
many_more stop read shrinks sofar ts x rest e f =
    let less = shrinks ts x rest f in
    ap (λ b. cond b (Got sofar (rest_of ts)) (followed (read ts) (λ x rest. many_within (length ts) stop read (sofar ++ x ∷ []) rest))) e
    ∙ ap (λ r. followed r (λ x rest. many_within (length ts) stop read (sofar ++ x ∷ []) rest)) f
    ∙ enough stop read shrinks (length ts) (sofar ++ x ∷ []) rest less

-- what the word begins is no part
abbrev pub Apart : {A : Type 0} → Word → Reader A → Type 0
Apart {A} stop read = (ts : List Mark) (x : A) (rest : List Mark) → is_next stop ts ≡ true → read ts ≡ Got x rest → ⊥

not_next : {A : Type 0} (stop : Word) (read : Reader A) → Apart stop read → (ts : List Mark) (x : A) (rest : List Mark) → read ts ≡ Got x rest → is_next stop ts ≡ false
not_next stop read apart ts x rest e = by_test (is_next stop ts) refl
  where
    by_test : (b : Bool) → is_next stop ts ≡ b → is_next stop ts ≡ false
    by_test true f = absurd (apart ts x rest f e)
    by_test false f = f

stop_takes : {A : Type 0} (stop : Word) (read : Reader A) (sofar : List A) (ts : List Mark) (xs : List A) (rest : List Mark) → is_next stop ts ≡ true → Got sofar (rest_of ts) ≡ Got xs rest
    → Takes (many stop read sofar) ts xs rest
stop_takes stop read sofar [] xs rest e h = cc
stop_takes stop read sofar (t ∷ ts) xs rest e h = record {
  front = t ∷ [];
  split = ap (λ v. t ∷ v) (got_rest h);
  same = λ other. many_stop stop read sofar (t ∷ other) (next_same stop t other ts ∙ e) ∙ ap (λ v. Got v other) (got_value h);
}

round_takes : {A : Type 0} (stop : Word) (read : Reader A) → Steady read → Shrinks read → Apart stop read → (sofar : List A) (ts : List Mark) (x : A) (mid : List Mark)
    → read ts ≡ Got x mid → (xs : List A) (rest : List Mark) → Takes (many stop read (sofar ++ x ∷ [])) mid xs rest → Takes (many stop read sofar) ts xs rest
round_takes stop read steady shrinks apart sofar ts x mid e xs rest q =
    let p = steady.takes ts x mid e in
    record {
      front = p.front ++ q.front;
      split = p.split ∙ ap (λ v. p.front ++ v) q.split ∙ sym (append_assoc p.front q.front rest);
      same = λ other.
          let whole = p.same (q.front ++ other) in
          ap (many stop read sofar) (append_assoc p.front q.front other)
          ∙ many_more stop read shrinks sofar (p.front ++ (q.front ++ other)) x (q.front ++ other) (not_next stop read apart (p.front ++ (q.front ++ other)) x (q.front ++ other) whole) whole
          ∙ q.same other;
    }

takes_by : {A : Type 0} (stop : Word) (read : Reader A) → Steady read → Shrinks read → Apart stop read → (sofar : List A) (ts : List Mark) (xs : List A) (rest : List Mark)
    → ((x : A) (mid : List Mark) → length mid < length ts → many stop read (sofar ++ x ∷ []) mid ≡ Got xs rest → Takes (many stop read (sofar ++ x ∷ [])) mid xs rest)
    → many stop read sofar ts ≡ Got xs rest → Takes (many stop read sofar) ts xs rest
takes_by {A} stop read steady shrinks apart sofar ts xs rest more h = by_next (is_next stop ts) refl
  where
    by_read : (r : Read A) → read ts ≡ r → is_next stop ts ≡ false → Takes (many stop read sofar) ts xs rest
    by_read (Refused us) e f = let none = many_refused stop read sofar ts us f e in cc
    by_read (Got x mid) e f =
        round_takes stop read steady shrinks apart sofar ts x mid e xs rest (more x mid (shrinks ts x mid e) (sym (many_more stop read shrinks sofar ts x mid f e) ∙ h))

    by_next : (b : Bool) → is_next stop ts ≡ b → Takes (many stop read sofar) ts xs rest
    by_next true e = stop_takes stop read sofar ts xs rest e (sym (many_stop stop read sofar ts e) ∙ h)
    by_next false e = by_read (read ts) refl e

many_takes : {A : Type 0} (stop : Word) (read : Reader A) → Steady read → Shrinks read → Apart stop read → (most : ℕ) (sofar : List A) (ts : List Mark) → length ts ≤ most
    → (xs : List A) (rest : List Mark) → many stop read sofar ts ≡ Got xs rest → Takes (many stop read sofar) ts xs rest
many_takes stop read steady shrinks apart zero sofar ts few xs rest h =
    takes_by stop read steady shrinks apart sofar ts xs rest (λ x mid less g. absurd (omega arith)) h
many_takes stop read steady shrinks apart (suc most) sofar ts few xs rest h =
    takes_by stop read steady shrinks apart sofar ts xs rest (λ x mid less g. many_takes stop read steady shrinks apart most (sofar ++ x ∷ []) mid (omega arith) xs rest g) h

-- where no part can go on
read_stuck : {A : Type 0} (stop : Word) (read : Reader A) → Steady read → Shrinks read → Apart stop read → (sofar : List A) (ts rest : List Mark)
    → is_next stop ts ≡ false → read ts ≡ Refused rest → Stuck (many stop read sofar) ts rest
read_stuck {A} stop read steady shrinks apart sofar ts rest f e =
    let p = steady.stuck ts rest e in
    record {
      front = p.front;
      split = p.split;
      more = p.more ++ Fixed stop ∷ [];
      value = sofar ++ p.value ∷ [];
      goes = λ other.
          let whole = p.goes (Fixed stop ∷ other) in
          let at : List Mark = p.front ++ (p.more ++ Fixed stop ∷ other) in
          ap (λ v. many stop read sofar (p.front ++ v)) (append_assoc p.more (Fixed stop ∷ []) other)
          ∙ many_more stop read shrinks sofar at p.value (Fixed stop ∷ other) (not_next stop read apart at p.value (Fixed stop ∷ other) whole) whole
          ∙ many_stop stop read (sofar ++ p.value ∷ []) (Fixed stop ∷ other) (same_word-refl stop);
      same = λ t us g other.
          many_refused stop read sofar (p.front ++ t ∷ other) (t ∷ other)
          (next_behind stop p.front t other us ∙ ap (is_next stop) (ap (λ v. p.front ++ v) (sym g) ∙ sym p.split) ∙ f)
          (p.same t us g other);
    }

round_stuck : {A : Type 0} (stop : Word) (read : Reader A) → Steady read → Shrinks read → Apart stop read → (sofar : List A) (ts : List Mark) (x : A) (mid : List Mark)
    → read ts ≡ Got x mid → (rest : List Mark) → Stuck (many stop read (sofar ++ x ∷ [])) mid rest → Stuck (many stop read sofar) ts rest
round_stuck stop read steady shrinks apart sofar ts x mid e rest q =
    let p = steady.takes ts x mid e in
    let onward : (other : List Mark) → many stop read sofar ((p.front ++ q.front) ++ other) ≡ many stop read (sofar ++ x ∷ []) (q.front ++ other) = λ other.
    (let whole = p.same (q.front ++ other) in
    ap (many stop read sofar) (append_assoc p.front q.front other)
    ∙ many_more stop read shrinks sofar (p.front ++ (q.front ++ other)) x (q.front ++ other) (not_next stop read apart (p.front ++ (q.front ++ other)) x (q.front ++ other) whole) whole) in
    record {
      front = p.front ++ q.front;
      split = p.split ∙ ap (λ v. p.front ++ v) q.split ∙ sym (append_assoc p.front q.front rest);
      more = q.more;
      value = q.value;
      goes = λ other. onward (q.more ++ other) ∙ q.goes other;
      same = λ t us f other. onward (t ∷ other) ∙ q.same t us f other;
    }

stuck_by : {A : Type 0} (stop : Word) (read : Reader A) → Steady read → Shrinks read → Apart stop read → (sofar : List A) (ts rest : List Mark)
    → ((x : A) (mid : List Mark) → length mid < length ts → many stop read (sofar ++ x ∷ []) mid ≡ Refused rest → Stuck (many stop read (sofar ++ x ∷ [])) mid rest)
    → many stop read sofar ts ≡ Refused rest → Stuck (many stop read sofar) ts rest
stuck_by {A} stop read steady shrinks apart sofar ts rest more h = by_next (is_next stop ts) refl
  where
    by_read : (r : Read A) → read ts ≡ r → is_next stop ts ≡ false → Stuck (many stop read sofar) ts rest
    by_read (Refused us) e f =
        let same : us ≡ rest = refused_rest (sym (many_refused stop read sofar ts us f e) ∙ h) in
        read_stuck stop read steady shrinks apart sofar ts rest f (e ∙ ap Refused same)
    by_read (Got x mid) e f =
        round_stuck stop read steady shrinks apart sofar ts x mid e rest (more x mid (shrinks ts x mid e) (sym (many_more stop read shrinks sofar ts x mid f e) ∙ h))

    by_next : (b : Bool) → is_next stop ts ≡ b → Stuck (many stop read sofar) ts rest
    by_next true e = let got = many_stop stop read sofar ts e in cc
    by_next false e = by_read (read ts) refl e

many_stuck : {A : Type 0} (stop : Word) (read : Reader A) → Steady read → Shrinks read → Apart stop read → (most : ℕ) (sofar : List A) (ts : List Mark) → length ts ≤ most
    → (rest : List Mark) → many stop read sofar ts ≡ Refused rest → Stuck (many stop read sofar) ts rest
many_stuck stop read steady shrinks apart zero sofar ts few rest h =
    stuck_by stop read steady shrinks apart sofar ts rest (λ x mid less g. absurd (omega arith)) h
many_stuck stop read steady shrinks apart (suc most) sofar ts few rest h =
    stuck_by stop read steady shrinks apart sofar ts rest (λ x mid less g. many_stuck stop read steady shrinks apart most (sofar ++ x ∷ []) mid (omega arith) rest g) h

pub many_steady : {A : Type 0} (stop : Word) (read : Reader A) → Steady read → Shrinks read → Apart stop read → (sofar : List A) → Steady (many stop read sofar)
many_steady stop read steady shrinks apart sofar = record {
  example = record { marks = Fixed stop ∷ []; value = sofar; goes = λ other. many_stop stop read sofar (Fixed stop ∷ other) (same_word-refl stop) };
  takes = λ ts xs rest h. many_takes stop read steady shrinks apart (length ts) sofar ts (omega arith) xs rest h;
  stuck = λ ts rest h. many_stuck stop read steady shrinks apart (length ts) sofar ts (omega arith) rest h;
}

-- what the parts are, where each part's tokens are known
pub record Parted {A : Type 0} (print : A → List Mark) (stop : Word) (sofar : List A) (ts : List Mark) (xs : List A) (rest : List Mark) : Type 0 where
  pub parts : List A
  pub all : xs ≡ sofar ++ parts
  pub tokens : ts ≡ flat_map print parts ++ Fixed stop ∷ rest
