-- The choices are as many as the counts say, and each is found by its number.
use Rattle.std.proofs.Common.{◌≡◌, ◌↔◌, ℕ, ◌+◌, ◌-◌, ◌<◌, ◌≤◌, ◌==◌, ◌||◌, ◌&&◌, zero, suc, Bool, true, false, not, cond, List, [], ◌∷◌, ◌++◌, length, take, map, get_or, arith, refl, ap, ◌∙◌, sym, ⊎_elim, All, Option, Some, None, IsTrue, is_some, count_by, length-append, if◌then◌else◌}
use Rattle.std.proofs.lemmas.Bool.{and_parts, cases_lt, eq-eqb, eqb-true, ne_eqb}
use Rattle.std.proofs.lemmas.List.{length-map}
use Rattle.std.specs.List.{slice_get, list_any}
use Rattle.std.proofs.lemmas.Option.{slice_get-map}
use Rattle.std.proofs.lemmas.List.Elements.{All-nil, All-cons, All-head, All-tail, All-weaker}
use Rattle.vod_thin_queue.specs.declared.event.Event.TheVariants.{TakeMove, Evaluate, Update, Run, Initialize, Activate, Perform}
use Rattle.vod_thin_queue.specs.State.{State, option_at, flag_at, list_at, IsResting}
use Rattle.vod_thin_queue.specs.Step.{Event, is_allowed, is_filled, has_active, places, choices_of}
use Rattle.vod_thin_queue.specs.Flags.{set_count}
use Rattle.vod_thin_queue.proofs.Count.{count_by-cons, length-places_from, slice_get-places_from}

-- how many are left of each kind but updates in later
abbrev pub active_of : State → ℕ
active_of s = count_by is_some s.moves + set_count s.wake + count_by is_some s.pend + set_count s.todo + set_count s.init + count_by is_filled s.now

-- how many activations are allowed
abbrev pub activations_of : ℕ → ℕ → ℕ
activations_of active later = if (active == 0) && not (later == 0) then 1 else 0

any_by : (b : Bool) (n : ℕ) → (b || not (n == 0)) ≡ not (cond {A = ℕ} b 1 0 + n == 0)
any_by true n = let e : (1 + n == 0) ≡ false = ne_eqb (1 + n) 0 (λ h. omega arith) in rw e refl
any_by false n = let e : 0 + n ≡ n = omega arith in rw e refl

-- some element passes exactly where the count isn't 0
pub any-count : {A : Type 0} (test : A → Bool) (xs : List A) → list_any test xs ≡ not (count_by test xs == 0)
any-count test [] = refl
any-count test (x ∷ xs) = ap (λ b. test x || b) (any-count test xs) ∙ any_by (test x) (count_by test xs) ∙ ap (λ n. not (n == 0)) (sym (count_by-cons test x xs))

or_counts : (m n : ℕ) → (not (m == 0) || not (n == 0)) ≡ not (m + n == 0)
or_counts zero n = let e : 0 + n ≡ n = omega arith in rw e refl
or_counts (suc m) n =
    let e : (suc m == 0) ≡ false = ne_eqb (suc m) 0 (λ h. omega arith) in
    let f : (suc m + n == 0) ≡ false = ne_eqb (suc m + n) 0 (λ h. omega arith) in
    rw (e, f) refl

has_active-count : (s : State) → has_active s ≡ not (active_of s == 0)
has_active-count s =
    let m = any-count is_some s.moves in
    let w = any-count (λ flag. flag) s.wake in
    let p = any-count is_some s.pend in
    let t = any-count (λ flag. flag) s.todo in
    let i = any-count (λ flag. flag) s.init in
    let n = any-count is_filled s.now in
    rw (m, w, p, t, i, n)
    (rw (
      or_counts (count_by is_some s.moves) (set_count s.wake),
      or_counts (count_by is_some s.moves + set_count s.wake) (count_by is_some s.pend),
      or_counts (count_by is_some s.moves + set_count s.wake + count_by is_some s.pend) (set_count s.todo),
      or_counts (count_by is_some s.moves + set_count s.wake + count_by is_some s.pend + set_count s.todo) (set_count s.init),
      or_counts (count_by is_some s.moves + set_count s.wake + count_by is_some s.pend + set_count s.todo + set_count s.init) (count_by is_filled s.now),
    ) refl)

not_not : (b : Bool) → not (not b) ≡ b
not_not true = refl
not_not false = refl

-- an activation is allowed where nothing is left but updates
pub activation : (s : State) → is_allowed s Activate ≡ ((active_of s == 0) && not (count_by is_filled s.later == 0))
activation s =
    let a = has_active-count s in
    let l = any-count is_filled s.later in
    rw (a, l, not_not (active_of s == 0)) refl

length_if : (b : Bool) (event : Event) → length (if b then event ∷ [] else []) ≡ (if b then 1 else 0)
length_if true event = refl
length_if false event = refl

length-kind : {A : Type 0} (f : ℕ → Event) (test : A → Bool) (xs : List A) → length (map f (places test xs)) ≡ count_by test xs
length-kind f test xs = length-map (places test xs) f ∙ length-places_from test 0 xs

length-more : {A : Type 0} (f : ℕ → Event) (test : A → Bool) (xs : List A) (rest : List Event) → length (map f (places test xs) ++ rest) ≡ count_by test xs + length rest
length-more f test xs rest = length-append (map f (places test xs)) rest ∙ ap (λ n. n + length rest) (length-kind f test xs)

pub length-choices_of : (s : State) → length (choices_of s) ≡ active_of s + activations_of (active_of s) (count_by is_filled s.later)
length-choices_of s =
    let last = map Perform (places is_filled s.now) in
    let act : List Event = if is_allowed s Activate then Activate ∷ [] else [] in
    let n : length last ≡ count_by is_filled s.now = length-kind Perform is_filled s.now in
    let a : length act ≡ activations_of (active_of s) (count_by is_filled s.later) = length_if (is_allowed s Activate) Activate ∙ ap (λ (b : Bool). if b then 1 else 0) (activation s) in
    let an = length-append act last in
    let i = length-more Initialize (λ flag. flag) s.init (act ++ last) in
    let t = length-more Run (λ flag. flag) s.todo (map Initialize (places (λ flag. flag) s.init) ++ (act ++ last)) in
    let p = length-more Update is_some s.pend (map Run (places (λ flag. flag) s.todo) ++ (map Initialize (places (λ flag. flag) s.init) ++ (act ++ last))) in
    let w = length-more Evaluate (λ flag. flag) s.wake (map Update (places is_some s.pend) ++ (map Run (places (λ flag. flag) s.todo) ++ (map Initialize (places (λ flag. flag) s.init) ++ (act ++ last)))) in
    let m = length-more TakeMove is_some s.moves (map Evaluate (places (λ flag. flag) s.wake) ++ (map Update (places is_some s.pend) ++ (map Run (places (λ flag. flag) s.todo) ++ (map Initialize (places (λ flag. flag) s.init) ++ (act ++ last))))) in
    omega arith

slice_get_front : {A : Type 0} (xs ys : List A) (i : ℕ) (x : A) → slice_get xs i ≡ Some x → slice_get (xs ++ ys) i ≡ Some x
slice_get_front [] ys i x h = absurd (cc)
slice_get_front (y ∷ xs) ys zero x h = h
slice_get_front (y ∷ xs) ys (suc i) x h = slice_get_front xs ys i x h

slice_get_back : {A : Type 0} (xs ys : List A) (i n : ℕ) → length xs ≡ n → slice_get (xs ++ ys) (n + i) ≡ slice_get ys i
slice_get_back [] ys i n h = let e : n + i ≡ i = omega arith in rw e refl
slice_get_back (x ∷ xs) ys i n h = let e : n + i ≡ suc (length xs + i) = omega arith in rw e (slice_get_back xs ys i (length xs) refl)

placed : {A B : Type 0} (f : ℕ → B) (test : A → Bool) (xs : List A) (i : ℕ) (d : A) → i < length xs → test (get_or xs i d) ≡ true → slice_get (map f (places test xs)) (count_by test (take i xs)) ≡ Some (f i)
placed f test xs i d h t =
    let e : 0 + i ≡ i = omega arith in
    let g : slice_get (places test xs) (count_by test (take i xs)) ≡ Some i = slice_get-places_from test 0 xs i d h t ∙ ap Some e in
    slice_get-map f (places test xs) (count_by test (take i xs)) ∙ rw g refl

-- the n-th of a kind, and those behind a kind
chosen : {A : Type 0} (f : ℕ → Event) (test : A → Bool) (xs : List A) (rest : List Event) (i : ℕ) (d : A) (nth : ℕ) → i < length xs → test (get_or xs i d) ≡ true → count_by test (take i xs) ≡ nth → slice_get (map f (places test xs) ++ rest) nth ≡ Some (f i)
chosen f test xs rest i d nth h t count = slice_get_front (map f (places test xs)) rest nth (f i) (rw (← count) (placed f test xs i d h t))

behind : {A : Type 0} (f : ℕ → Event) (test : A → Bool) (xs : List A) (rest : List Event) (n i choice : ℕ) → n ≡ count_by test xs → n ≤ choice → choice - n ≡ i → slice_get (map f (places test xs) ++ rest) choice ≡ slice_get rest i
behind f test xs rest n i choice is le left =
    let e : choice ≡ n + i = omega arith in
    rw e (slice_get_back (map f (places test xs)) rest i n (length-kind f test xs ∙ sym is))

pub chosen-move : (s now : State) → now ≡ s → (i nth : ℕ) → i < length now.moves → is_some (option_at now.moves i) ≡ true → count_by is_some (take i now.moves) ≡ nth → slice_get (choices_of s) nth ≡ Some (TakeMove i)
chosen-move s now same i nth h some count = rw (← same) (chosen TakeMove is_some now.moves _ i None nth h some count)

pub chosen-evaluate : (s now : State) → now ≡ s → (i choice m : ℕ) → m ≡ count_by is_some now.moves → m ≤ choice → i < length now.wake → flag_at now.wake i ≡ true → set_count (take i now.wake) ≡ choice - m → slice_get (choices_of s) choice ≡ Some (Evaluate i)
chosen-evaluate s now same i choice m is_m le h flag count =
    rw (← same) (behind TakeMove is_some now.moves _ m (choice - m) choice is_m le refl
    ∙ chosen Evaluate (λ flag. flag) now.wake _ i false (choice - m) h flag count)

pub chosen-update : (s now : State) → now ≡ s → (i choice m w : ℕ) → m ≡ count_by is_some now.moves → w ≡ set_count now.wake → m ≤ choice → w ≤ choice - m → i < length now.pend → is_some (option_at now.pend i) ≡ true → count_by is_some (take i now.pend) ≡ choice - m - w →
    slice_get (choices_of s) choice ≡ Some (Update i)
chosen-update s now same i choice m w is_m is_w le_m le_w h some count =
    rw (← same) (behind TakeMove is_some now.moves _ m (choice - m) choice is_m le_m refl
    ∙ behind Evaluate (λ flag. flag) now.wake _ w (choice - m - w) (choice - m) is_w le_w refl
    ∙ chosen Update is_some now.pend _ i None (choice - m - w) h some count)

pub chosen-run : (s now : State) → now ≡ s → (i choice m w p : ℕ) → m ≡ count_by is_some now.moves → w ≡ set_count now.wake → p ≡ count_by is_some now.pend → m ≤ choice → w ≤ choice - m → p ≤ choice - m - w → i < length now.todo → flag_at now.todo i ≡ true →
    set_count (take i now.todo) ≡ choice - m - w - p → slice_get (choices_of s) choice ≡ Some (Run i)
chosen-run s now same i choice m w p is_m is_w is_p le_m le_w le_p h flag count =
    rw (← same) (behind TakeMove is_some now.moves _ m (choice - m) choice is_m le_m refl
    ∙ behind Evaluate (λ flag. flag) now.wake _ w (choice - m - w) (choice - m) is_w le_w refl
    ∙ behind Update is_some now.pend _ p (choice - m - w - p) (choice - m - w) is_p le_p refl
    ∙ chosen Run (λ flag. flag) now.todo _ i false (choice - m - w - p) h flag count)

pub chosen-initialize : (s now : State) → now ≡ s → (i choice m w p t : ℕ) → m ≡ count_by is_some now.moves → w ≡ set_count now.wake → p ≡ count_by is_some now.pend → t ≡ set_count now.todo → m ≤ choice → w ≤ choice - m → p ≤ choice - m - w → t ≤ choice - m - w - p →
    i < length now.init → flag_at now.init i ≡ true → set_count (take i now.init) ≡ choice - m - w - p - t → slice_get (choices_of s) choice ≡ Some (Initialize i)
chosen-initialize s now same i choice m w p t is_m is_w is_p is_t le_m le_w le_p le_t h flag count =
    rw (← same) (behind TakeMove is_some now.moves _ m (choice - m) choice is_m le_m refl
    ∙ behind Evaluate (λ flag. flag) now.wake _ w (choice - m - w) (choice - m) is_w le_w refl
    ∙ behind Update is_some now.pend _ p (choice - m - w - p) (choice - m - w) is_p le_p refl
    ∙ behind Run (λ flag. flag) now.todo _ t (choice - m - w - p - t) (choice - m - w - p) is_t le_t refl
    ∙ chosen Initialize (λ flag. flag) now.init _ i false (choice - m - w - p - t) h flag count)

-- what stands behind the initial values
pub behind_five : (s now : State) → now ≡ s → (choice m w p t n : ℕ) → m ≡ count_by is_some now.moves → w ≡ set_count now.wake → p ≡ count_by is_some now.pend → t ≡ set_count now.todo → n ≡ set_count now.init →
    m ≤ choice → w ≤ choice - m → p ≤ choice - m - w → t ≤ choice - m - w - p → n ≤ choice - m - w - p - t →
    slice_get (choices_of s) choice ≡ slice_get ((if is_allowed now Activate then Activate ∷ [] else []) ++ map Perform (places is_filled now.now)) (choice - m - w - p - t - n)
behind_five s now same choice m w p t n is_m is_w is_p is_t is_n le_m le_w le_p le_t le_n =
    rw (← same) (behind TakeMove is_some now.moves _ m (choice - m) choice is_m le_m refl
    ∙ behind Evaluate (λ flag. flag) now.wake _ w (choice - m - w) (choice - m) is_w le_w refl
    ∙ behind Update is_some now.pend _ p (choice - m - w - p) (choice - m - w) is_p le_p refl
    ∙ behind Run (λ flag. flag) now.todo _ t (choice - m - w - p - t) (choice - m - w - p) is_t le_t refl
    ∙ behind Initialize (λ flag. flag) now.init _ n (choice - m - w - p - t - n) (choice - m - w - p - t) is_n le_n refl)

none_by : (b : Bool) (rest : List Event) → b ≡ false → ((if b then Activate ∷ [] else []) ++ rest) ≡ rest
none_by true rest h = cc
none_by false rest h = refl

one_by : (b : Bool) (rest : List Event) → b ≡ true → slice_get ((if b then Activate ∷ [] else []) ++ rest) 0 ≡ Some Activate
one_by true rest h = refl
one_by false rest h = cc

busy : (a : ℕ) (b : Bool) → 0 < a → ((a == 0) && b) ≡ false
busy a b h = let e : (a == 0) ≡ false = ne_eqb a 0 (λ same. omega arith) in rw e refl

-- an active update is chosen where there is one, and then no activation is allowed
pub perform-first : (now : State) (i nth n : ℕ) → n ≡ count_by is_filled now.now → nth < n → i < length now.now → is_filled (list_at now.now i) ≡ true → count_by is_filled (take i now.now) ≡ nth →
    slice_get ((if is_allowed now Activate then Activate ∷ [] else []) ++ map Perform (places is_filled now.now)) nth ≡ Some (Perform i)
perform-first now i nth n is_n below h filled count =
    let free : is_allowed now Activate ≡ false = activation now ∙ busy (active_of now) (not (count_by is_filled now.later == 0)) (omega arith) in
    rw (none_by (is_allowed now Activate) (map Perform (places is_filled now.now)) free) (rw (← count) (placed Perform is_filled now.now i [] h filled))

one_more : (a b : ℕ) (c : Bool) → b < a + (if (a == 0) && c then 1 else 0) → a ≤ b → (((a == 0) && c) ≡ true) × (a ≡ 0)
one_more zero b true lt le = (refl, refl)
one_more zero b false lt le = absurd (omega arith)
one_more (suc a) b c lt le =
    let e : ((suc a == 0) && c) ≡ false = busy (suc a) c (omega arith) in
    let f : suc a + (if (suc a == 0) && c then 1 else 0) ≡ suc a = rw e (omega arith) in
    absurd (omega arith)

-- where a choice is past all active events, it is the activation
pub past_active : (s now : State) → now ≡ s → (choice : ℕ) → choice < length (choices_of s) → active_of now ≤ choice → (is_allowed now Activate ≡ true) × (choice ≡ 0)
past_active s now same choice within past =
    let len = length-choices_of now in
    let within' : choice < length (choices_of now) = rw same within in
    let one = one_more (active_of now) choice (not (count_by is_filled now.later == 0)) (omega arith) past in
    let none : active_of now ≡ 0 = one.1 in
    let e : activations_of (active_of now) (count_by is_filled now.later) ≡ 1 = ap (λ (b : Bool). if b then 1 else 0) one.0 in
    (activation now ∙ one.0, omega arith)

pub chosen-activate : (now : State) (nth : ℕ) → is_allowed now Activate ≡ true → nth ≡ 0 → slice_get ((if is_allowed now Activate then Activate ∷ [] else []) ++ map Perform (places is_filled now.now)) nth ≡ Some Activate
chosen-activate now nth allowed none = rw none (one_by (is_allowed now Activate) (map Perform (places is_filled now.now)) allowed)

not_counted : (b : Bool) (n : ℕ) → cond b 1 0 + n ≡ 0 → b ≡ false
not_counted true n h = absurd (omega arith)
not_counted false n h = refl

-- nothing passes exactly where the count is 0
none_passes : {A : Type 0} (test : A → Bool) (xs : List A) → count_by test xs ≡ 0 → All (λ x. test x ≡ false) xs
none_passes test [] h = All-nil (λ x. test x ≡ false)
none_passes test (x ∷ xs) h = let c = count_by-cons test x xs in All-cons (λ y. test y ≡ false) x xs (not_counted (test x) (count_by test xs) (omega arith)) (none_passes test xs (omega arith))

count_none : {A : Type 0} (test : A → Bool) (xs : List A) → All (λ x. test x ≡ false) xs → count_by test xs ≡ 0
count_none test [] h = refl
count_none test (x ∷ xs) h =
    let c = count_by-cons test x xs in let here = All-head (λ y. test y ≡ false) x xs h in let rest = count_none test xs (All-tail (λ y. test y ≡ false) x xs h) in
    c ∙ rw (here, rest) refl

is_none : {A : Type 0} (o : Option A) → is_some o ≡ false → o ≡ None
is_none None h = refl
is_none (Some x) h = cc

not_some : {A : Type 0} (o : Option A) → o ≡ None → is_some o ≡ false
not_some o h = ap is_some h

is_nil : {A : Type 0} (xs : List A) → is_filled xs ≡ false → xs ≡ []
is_nil [] h = refl
is_nil (x ∷ xs) h = cc

not_filled : {A : Type 0} (xs : List A) → xs ≡ [] → is_filled xs ≡ false
not_filled xs h = ap is_filled h

-- nothing is left but updates in later
pub record IsIdle (s : State) : Type 0 where
  pub moves : All (λ move. move ≡ None) s.moves
  pub init : All (λ flag. flag ≡ false) s.init
  pub wake : All (λ flag. flag ≡ false) s.wake
  pub pend : All (λ value. value ≡ None) s.pend
  pub todo : All (λ flag. flag ≡ false) s.todo
  pub now : All (λ updates. updates ≡ []) s.now

idle_from_count : (s : State) → active_of s ≡ 0 → IsIdle s
idle_from_count s active = record {
  moves = All-weaker (λ o. is_some o ≡ false) (λ o. o ≡ None) is_none s.moves (none_passes is_some s.moves (omega arith));
  init = none_passes (λ flag. flag) s.init (omega arith);
  wake = none_passes (λ flag. flag) s.wake (omega arith);
  pend = All-weaker (λ o. is_some o ≡ false) (λ o. o ≡ None) is_none s.pend (none_passes is_some s.pend (omega arith));
  todo = none_passes (λ flag. flag) s.todo (omega arith);
  now = All-weaker (λ xs. is_filled xs ≡ false) (λ xs. xs ≡ []) is_nil s.now (none_passes is_filled s.now (omega arith));
}

-- so it is where an activation is allowed, and some update is in later
pub idle : (s : State) → is_allowed s Activate ≡ true → IsIdle s
idle s allowed =
    let both = and_parts (active_of s == 0) (not (count_by is_filled s.later == 0)) (sym (activation s) ∙ allowed) in
    idle_from_count s (eqb-true (active_of s) 0 both.0)

-- nothing is left where the counts are 0
resting_from_counts : (s : State) → active_of s ≡ 0 → count_by is_filled s.later ≡ 0 → IsResting s
resting_from_counts s active later =
    let r = idle_from_count s active in
    record {
      moves = r.moves;
      init = r.init;
      wake = r.wake;
      pend = r.pend;
      todo = r.todo;
      later = All-weaker (λ xs. is_filled xs ≡ false) (λ xs. xs ≡ []) is_nil s.later (none_passes is_filled s.later later);
      now = r.now;
    }

counts_from_resting : (s : State) → IsResting s → (active_of s ≡ 0) × (count_by is_filled s.later ≡ 0)
counts_from_resting s r =
    let m = count_none is_some s.moves (All-weaker (λ o. o ≡ None) (λ o. is_some o ≡ false) not_some s.moves r.moves) in
    let i = count_none (λ flag. flag) s.init r.init in
    let w = count_none (λ flag. flag) s.wake r.wake in
    let p = count_none is_some s.pend (All-weaker (λ o. o ≡ None) (λ o. is_some o ≡ false) not_some s.pend r.pend) in
    let t = count_none (λ flag. flag) s.todo r.todo in
    let l = count_none is_filled s.later (All-weaker (λ xs. xs ≡ []) (λ xs. is_filled xs ≡ false) not_filled s.later r.later) in
    let n = count_none is_filled s.now (All-weaker (λ xs. xs ≡ []) (λ xs. is_filled xs ≡ false) not_filled s.now r.now) in
    (omega arith, l)

total_none : (a l : ℕ) → a + activations_of a l ≡ 0 → (a ≡ 0) × (l ≡ 0)
total_none zero zero h = (refl, refl)
total_none zero (suc l) h = let e : (suc l == 0) ≡ false = ne_eqb (suc l) 0 (λ same. omega arith) in let f : activations_of 0 (suc l) ≡ 1 = rw e refl in absurd (omega arith)
total_none (suc a) l h = absurd (omega arith)

pub counts_choices : (s now : State) → now ≡ s → (n active later : ℕ) → active ≡ active_of now → later ≡ count_by is_filled now.later → n ≡ active + activations_of active later → (n ≡ length (choices_of s)) × ((n ≡ 0) ↔ IsResting s)
counts_choices s now same n active later is_active is_later is =
    rw (← same)
    (let e : n ≡ active_of now + activations_of (active_of now) (count_by is_filled now.later) = is ∙ rw (is_active, is_later) refl in (
      e ∙ sym (length-choices_of now),
      (
        (λ zeros. let both = total_none (active_of now) (count_by is_filled now.later) (sym e ∙ zeros) in resting_from_counts now both.0 both.1),
        (λ rests. let both = counts_from_resting now rests in e ∙ rw (both.0, both.1) refl),
      ),
    ))

pub active_is : (s : State) (m w p t i n : ℕ) → m ≡ count_by is_some s.moves → w ≡ set_count s.wake → p ≡ count_by is_some s.pend → t ≡ set_count s.todo → i ≡ set_count s.init → n ≡ count_by is_filled s.now → m + w + p + t + i + n ≡ active_of s
active_is s m w p t i n is_m is_w is_p is_t is_i is_n = rw (is_m, is_w, is_p, is_t, is_i, is_n) refl

pub total_is : (active later more : ℕ) → more ≡ activations_of active later → active + more ≡ active + activations_of active later
total_is active later more is = ap (λ n. active + n) is
