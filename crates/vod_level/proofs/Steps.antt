-- One step more, in levels, in what is left and in what is ready.
use Rattle.std.proofs.Common.{◌≡◌, ◌≢◌, ℕ, zero, suc, ◌+◌, ◌<◌, ◌≤◌, ◌==◌, Bool, true, false, ◌&&◌, ◌||◌, not, max, List, [], ◌∷◌, ◌++◌, length, take, get_or, set, refl, sym, subst, ap, ◌∙◌, arith, ne_eqb, eq-eqb, inl, inr, length-append, length-set, take-suc, add-one, get_or-set_same, get_or-set_other}
use Rattle.std.proofs.lemmas.List.{take-append-le, length-take}
use Rattle.std.proofs.lemmas.Bool.{both_ways, cases_eq, false_from_ne_true}
use Rattle.vod_fanout.specs.declared.Feed.{Feed}
use Rattle.vod_level.specs.Lists.{has}
use Rattle.vod_level.specs.Peel.{one_if, times, waits, absent, added_if_none, raised, IsReady}
use Rattle.vod_level.proofs.Counts.{has_push, has_kept, has_new, has_cases, taken, absent_nil, absent_new}

and_true : (b : Bool) → (b && true) ≡ b
and_true true = refl
and_true false = refl

raised_again : (b t : Bool) (level old : ℕ) → t ≡ true → max (raised b level old) (level + 1) ≡ raised (b || t) level old
raised_again true t level old h = omega arith
raised_again false true level old h = refl
raised_again false false level old h = absurd (let e : false ≡ true = h in cc)

raised_other : (b t : Bool) (level old : ℕ) → t ≡ false → raised b level old ≡ raised (b || t) level old
raised_other true t level old h = refl
raised_other false true level old h = absurd (let e : true ≡ false = h in cc)
raised_other false false level old h = refl

pub raise_step : (readers old cur : List ℕ) (i level d : ℕ) → i < length readers → get_or readers i d < length cur
    → ((q : ℕ) → q < length cur → get_or cur q 0 ≡ raised (has (take i readers) q) level (get_or old q 0))
    → (q : ℕ) → q < length cur → get_or (set cur (get_or readers i d) (max (get_or cur (get_or readers i d) 0) (level + 1))) q 0 ≡ raised (has (take (i + 1) readers) q) level (get_or old q 0)
raise_step readers old cur i level d lt inside held q h =
    let x = get_or readers i d in
    let more : has (take (i + 1) readers) q ≡ (has (take i readers) q || (x == q)) = ap (λ r. has r q) (taken readers i d lt) ∙ has_push (take i readers) x q in
    elim (cases_eq q x) [
      | inl e ↦ (
          let here : (x == q) ≡ true = eq-eqb x q (sym e) in
          let at : get_or (set cur x (max (get_or cur x 0) (level + 1))) q 0 ≡ max (get_or cur x 0) (level + 1) = ap (λ k. get_or (set cur x (max (get_or cur x 0) (level + 1))) k 0) e ∙ get_or-set_same cur x (max (get_or cur x 0) (level + 1)) 0 inside in
          let was : get_or cur x 0 ≡ raised (has (take i readers) q) level (get_or old q 0) = ap (λ k. get_or cur k 0) (sym e) ∙ held q h in
          at ∙ ap (λ v. max v (level + 1)) was ∙ raised_again (has (take i readers) q) (x == q) level (get_or old q 0) here ∙ ap (λ b. raised b level (get_or old q 0)) (sym more))
      | inr e ↦ (
          let there : (x == q) ≡ false = ne_eqb x q (λ r. e (sym r)) in
          get_or-set_other cur x q (max (get_or cur x 0) (level + 1)) 0 e ∙ held q h ∙ raised_other (has (take i readers) q) (x == q) level (get_or old q 0) there ∙ ap (λ b. raised b level (get_or old q 0)) (sym more))
    ]

pub times_push : (xs : List ℕ) (x y : ℕ) → times (xs ++ x ∷ []) y ≡ times xs y + one_if (x == y)
times_push [] x y = omega arith
times_push (z ∷ xs) x y = let ih = times_push xs x y in omega arith

pub times_front : (xs : List ℕ) (i y : ℕ) → times (take i xs) y ≤ times xs y
times_front xs zero y = omega arith
times_front [] (suc i) y = omega arith
times_front (x ∷ xs) (suc i) y = let ih = times_front xs i y in omega arith

times_same : (xs : List ℕ) (x : ℕ) → times (xs ++ x ∷ []) x ≡ times xs x + 1
times_same xs x = let one : one_if (x == x) ≡ 1 = ap one_if (eq-eqb x x refl) in let e = times_push xs x x in omega arith

-- a reader that is to come has a feed left
pub is_left : (readers old cur : List ℕ) (i d : ℕ) → i < length readers → ((q : ℕ) → times readers q ≤ get_or old q 0) → ((q : ℕ) → get_or cur q 0 + times (take i readers) q ≡ get_or old q 0)
    → 1 ≤ get_or cur (get_or readers i d) 0
is_left readers old cur i d lt fed held =
    let x = get_or readers i d in
    let h = held x in
    let f = fed x in
    let front = times_front readers (i + 1) x in
    let more : times (take (i + 1) readers) x ≡ times (take i readers) x + 1 = ap (λ r. times r x) (taken readers i d lt) ∙ times_same (take i readers) x in
    omega arith

pub left_step : (readers old cur : List ℕ) (i d v : ℕ) → i < length readers → get_or readers i d < length cur → v + 1 ≡ get_or cur (get_or readers i d) 0
    → ((q : ℕ) → get_or cur q 0 + times (take i readers) q ≡ get_or old q 0) → (q : ℕ) → get_or (set cur (get_or readers i d) v) q 0 + times (take (i + 1) readers) q ≡ get_or old q 0
left_step readers old cur i d v lt inside is held q =
    let x = get_or readers i d in
    let h = held q in
    let more : times (take (i + 1) readers) q ≡ times (take i readers) q + one_if (x == q) = ap (λ r. times r q) (taken readers i d lt) ∙ times_push (take i readers) x q in
    elim (cases_eq q x) [
      | inl e ↦ (
          let one : one_if (x == q) ≡ 1 = ap one_if (eq-eqb x q (sym e)) in
          let at : get_or (set cur x v) q 0 ≡ v = ap (λ k. get_or (set cur x v) k 0) e ∙ get_or-set_same cur x v 0 inside in
          let was : get_or cur q 0 ≡ get_or cur x 0 = ap (λ k. get_or cur k 0) e in
          omega arith)
      | inr e ↦ (
          let none : one_if (x == q) ≡ 0 = ap one_if (ne_eqb x q (λ r. e (sym r))) in
          let at : get_or (set cur x v) q 0 ≡ get_or cur q 0 = get_or-set_other cur x q v 0 e in
          omega arith)
    ]

-- what joins the ready
added_yes : (x v : ℕ) (ready : List ℕ) → v ≡ 0 → added_if_none x v ready ≡ ready ++ x ∷ []
added_yes x v ready e = let t : (v == 0) ≡ true = eq-eqb v 0 e in rw t refl

added_no : (x v : ℕ) (ready : List ℕ) → v ≢ 0 → added_if_none x v ready ≡ ready
added_no x v ready e = let t : (v == 0) ≡ false = ne_eqb v 0 e in rw t refl

front_size : (ready old : List ℕ) → take (length old) ready ≡ old → length old ≤ length ready
front_size ready old h = omega (arith, length-take (length old) ready, ap length h)

pub added_front : (x v : ℕ) (ready old : List ℕ) → take (length old) ready ≡ old → take (length old) (added_if_none x v ready) ≡ old
added_front x v ready old h =
    elim (cases_eq v 0) [
      | inl e ↦ ap (take (length old)) (added_yes x v ready e) ∙ take-append-le (length old) ready (x ∷ []) (front_size ready old h) ∙ h
      | inr e ↦ ap (take (length old)) (added_no x v ready e) ∙ h
    ]

kept_if : (x v : ℕ) (ready : List ℕ) (q : ℕ) → has ready q ≡ true → has (added_if_none x v ready) q ≡ true
kept_if x v ready q h =
    elim (cases_eq v 0) [
      | inl e ↦ ap (λ l. has l q) (added_yes x v ready e) ∙ has_kept ready x q h
      | inr e ↦ ap (λ l. has l q) (added_no x v ready e) ∙ h
    ]

only_old : (left ready : List ℕ) (x v q : ℕ) → length (set left x v) ≡ length left → IsReady left ready → has ready x ≡ false → has ready q ≡ true → (q < length (set left x v)) × (get_or (set left x v) q 0 ≡ 0)
only_old left ready x v q size r new h =
    let o = r.only q h in
    let other : q ≢ x = λ e. both_ways (has ready x) new (ap (has ready) (sym e) ∙ h) in
    (omega (arith, o.0), get_or-set_other left x q v 0 other ∙ o.1)

-- what is ready when fewer are left to one that still waited
pub ready_step : (left ready : List ℕ) (x v : ℕ) → x < length left → v + 1 ≡ get_or left x 0 → IsReady left ready → IsReady (set left x v) (added_if_none x v ready)
ready_step left ready x v inside is r =
    let size = length-set left x v in
    let new : has ready x ≡ false = false_from_ne_true (has ready x) (λ h. let o = r.only x h in omega (arith, o.1)) in
    let here : get_or (set left x v) x 0 ≡ v = get_or-set_same left x v 0 inside in
    record {
      all = λ q h z. elim (cases_eq q x) [
        | inl e ↦ (let none : v ≡ 0 = sym here ∙ ap (λ k. get_or (set left x v) k 0) (sym e) ∙ z in ap (λ l. has l q) (added_yes x v ready none) ∙ ap (has (ready ++ x ∷ [])) e ∙ has_new ready x)
        | inr e ↦ (let old = r.all q (omega arith) (sym (get_or-set_other left x q v 0 e) ∙ z) in kept_if x v ready q old)
      ];
      only = λ q h. elim (cases_eq v 0) [
        | inl none ↦ elim (has_cases ready x q (ap (λ l. has l q) (sym (added_yes x v ready none)) ∙ h)) [
          | inl old ↦ only_old left ready x v q size r new old
          | inr e ↦ (let lt : q < length (set left x v) = omega arith in let z : get_or (set left x v) q 0 ≡ 0 = ap (λ k. get_or (set left x v) k 0) (sym e) ∙ here ∙ none in (lt, z))
        ]
        | inr some ↦ only_old left ready x v q size r new (ap (λ l. has l q) (sym (added_no x v ready some)) ∙ h)
      ];
      room = elim (cases_eq v 0) [
        | inl none ↦ (
            let is = added_yes x v ready none in
            let long = ap length is ∙ length-append ready (x ∷ []) in
            let less = absent_new (length left) ready x inside new in
            let other : absent (length (set left x v)) (added_if_none x v ready) ≡ absent (length left) (ready ++ x ∷ []) = ap (absent (length (set left x v))) is ∙ ap (λ n. absent n (ready ++ x ∷ [])) size in
            let room = r.room in
            omega arith)
        | inr some ↦ (
            let is = added_no x v ready some in
            let long = ap length is in
            let other : absent (length (set left x v)) (added_if_none x v ready) ≡ absent (length left) ready = ap (absent (length (set left x v))) is ∙ ap (λ n. absent n ready) size in
            let room = r.room in
            omega arith)
      ];
    }

-- those that are ready among the first k
pub record IsReadyTo (k : ℕ) (left ready : List ℕ) : Type 0 where
  pub all : (q : ℕ) → q < k → get_or left q 0 ≡ 0 → has ready q ≡ true
  pub only : (q : ℕ) → has ready q ≡ true → (q < k) × (get_or left q 0 ≡ 0)
  pub room : length ready + absent (length left) ready ≡ length left

pub to_start : (left : List ℕ) → IsReadyTo 0 left []
to_start left = record {
  all = λ q h z. absurd (omega arith);
  only = λ q h. absurd (let e : false ≡ true = h in cc);
  room = (let e = absent_nil (length left) in omega arith);
}

pub to_step : (k : ℕ) (left ready : List ℕ) → k < length left → IsReadyTo k left ready → IsReadyTo (k + 1) left (added_if_none k (get_or left k 0) ready)
to_step k left ready inside r =
    let v = get_or left k 0 in
    let new : has ready k ≡ false = false_from_ne_true (has ready k) (λ h. let o = r.only k h in omega (arith, o.0)) in
    record {
      all = λ q h z. elim (cases_eq q k) [
        | inl e ↦ (let none : v ≡ 0 = ap (λ i. get_or left i 0) (sym e) ∙ z in ap (λ l. has l q) (added_yes k v ready none) ∙ ap (has (ready ++ k ∷ [])) e ∙ has_new ready k)
        | inr e ↦ kept_if k v ready q (r.all q (omega arith) z)
      ];
      only = λ q h. elim (cases_eq v 0) [
        | inl none ↦ elim (has_cases ready k q (ap (λ l. has l q) (sym (added_yes k v ready none)) ∙ h)) [
          | inl old ↦ (let o = r.only q old in (omega (arith, o.0), o.1))
          | inr e ↦ (omega arith, ap (λ i. get_or left i 0) (sym e) ∙ none)
        ]
        | inr some ↦ (let o = r.only q (ap (λ l. has l q) (sym (added_no k v ready some)) ∙ h) in (omega (arith, o.0), o.1))
      ];
      room = elim (cases_eq v 0) [
        | inl none ↦ (
            let is = added_yes k v ready none in
            let long = ap length is ∙ length-append ready (k ∷ []) in
            let less = absent_new (length left) ready k inside new in
            let other = ap (absent (length left)) is in
            let room = r.room in
            omega arith)
        | inr some ↦ (
            let is = added_no k v ready some in
            let long = ap length is in
            let other = ap (absent (length left)) is in
            let room = r.room in
            omega arith)
      ];
    }

pub to_end : (k : ℕ) (left ready : List ℕ) → length left ≡ k → IsReadyTo k left ready → IsReady left ready
to_end k left ready e r = record {
  all = λ q h z. r.all q (omega arith) z;
  only = λ q h. (let o = r.only q h in (omega (arith, o.0), o.1));
  room = r.room;
}

-- the feeds of each driver
pub waits_snoc : (fs : List Feed) (f : Feed) (q : ℕ) → waits [] (fs ++ f ∷ []) q ≡ waits [] fs q + one_if (f.reader == q)
waits_snoc [] f q = let e = ap one_if (and_true (f.reader == q)) in omega arith
waits_snoc (g ∷ fs) f q = let ih = waits_snoc fs f q in omega arith

pub waiting_step : (fs : List Feed) (cur : List ℕ) (i n : ℕ) (d : Feed) (v : ℕ) → i < length fs → length cur ≡ n → (get_or fs i d).reader < n → v ≡ get_or cur (get_or fs i d).reader 0
    → ((q : ℕ) → q < n → get_or cur q 0 ≡ waits [] (take i fs) q) → (q : ℕ) → q < n → get_or (set cur (get_or fs i d).reader (v + 1)) q 0 ≡ waits [] (take (i + 1) fs) q
waiting_step fs cur i n d v lt size inside is held q h =
    let x = (get_or fs i d).reader in
    let front : take (i + 1) fs ≡ take i fs ++ get_or fs i d ∷ [] = rw (add-one i) (take-suc fs i d lt) in
    let more : waits [] (take (i + 1) fs) q ≡ waits [] (take i fs) q + one_if (x == q) = ap (λ r. waits [] r q) front ∙ waits_snoc (take i fs) (get_or fs i d) q in
    let was = held q h in
    elim (cases_eq q x) [
      | inl e ↦ (
          let one : one_if (x == q) ≡ 1 = ap one_if (eq-eqb x q (sym e)) in
          let at : get_or (set cur x (v + 1)) q 0 ≡ v + 1 = ap (λ k. get_or (set cur x (v + 1)) k 0) e ∙ get_or-set_same cur x (v + 1) 0 (omega arith) in
          let old : get_or cur q 0 ≡ get_or cur x 0 = ap (λ k. get_or cur k 0) e in
          omega arith)
      | inr e ↦ (
          let none : one_if (x == q) ≡ 0 = ap one_if (ne_eqb x q (λ r. e (sym r))) in
          let at : get_or (set cur x (v + 1)) q 0 ≡ get_or cur q 0 = get_or-set_other cur x q (v + 1) 0 e in
          omega arith)
    ]

one_most : (b : Bool) → one_if b ≤ 1
one_most true = omega arith
one_most false = omega arith

pub waits_few : (done : List ℕ) (fs : List Feed) (q : ℕ) → waits done fs q ≤ length fs
waits_few done [] q = omega arith
waits_few done (f ∷ fs) q = let ih = waits_few done fs q in let b = one_most ((f.reader == q) && not (has done f.source)) in omega arith

pub get_or_any : (xs : List ℕ) (i d e : ℕ) → i < length xs → get_or xs i d ≡ get_or xs i e
get_or_any [] i d e h = absurd (omega arith)
get_or_any (x ∷ xs) zero d e h = refl
get_or_any (x ∷ xs) (suc i) d e h = get_or_any xs i d e (omega arith)

pub ready_same : (left ready other : List ℕ) → ready ≡ other → IsReady left other → IsReady left ready
ready_same left ready other e r = let P : List ℕ → Type 0 = IsReady left in subst P (sym e) r
