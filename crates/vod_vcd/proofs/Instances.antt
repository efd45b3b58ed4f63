-- The scopes of a header, step by step.
use Rattle.std.proofs.Common.{◌≡◌, ℕ, zero, suc, ◌+◌, ◌-◌, ◌<◌, ◌≤◌, ◌==◌, true, List, [], ◌∷◌, ◌++◌, length, map, filter, flat_map, take, get_or, slice_get, slice_index_or, Option, None, Some, All, refl, ap, sym, ◌∙◌, append_assoc, append-nil, length-append, arith, inl, inr, zero-add, subst}
use Rattle.std.proofs.lemmas.Bool.{cases_Bool}
use Rattle.std.proofs.lemmas.List.{get_or-map, take_more}
use Rattle.std.proofs.lemmas.List.Concat.{flat_map-append}
use Rattle.std.proofs.lemmas.List.Elements.{All-nil, All-cons, All-head, All-tail}
use Rattle.std.proofs.lemmas.Option.{slice_get-get_or}
use Rattle.std.specs.List.{enumerate_from}
use Rattle.vod_design.specs.declared.parts.Scope.{Scope}
use Rattle.vod_design.specs.declared.parts.Signal.{Signal}
use Rattle.vod_design.specs.Flat.{IsFlat, ParentFits}
use Rattle.vod_design.specs.Netlist.{Netlist}
use Rattle.vod_fanout.specs.declared.Feed.{Feed}
use Rattle.vod_fanout.specs.FanOut.{readers_of, fan_out}
use Rattle.vod_fanout.proofs.Lists.{each_at, each_length}
use Rattle.vod_vcd.specs.declared.scopes.Step.{Step}
use Rattle.vod_vcd.specs.declared.scopes.Step.TheVariants.{Enter, Leave}
use Rattle.vod_vcd.specs.Header.{scope_text, scope_line, upscope_line, var_line, name_of, signals_of, is_parent, children_of}
use Rattle.vod_vcd.specs.Scopes.{feed, signal_feeds, child_feed, child_feeds, var_line_of, var_line_at, step_text, steps_text}

-- the readers of a number in a table
pub fan_out-at : (n k : ℕ) (feeds : List Feed) → k < n → slice_index_or (fan_out n feeds) k [] ≡ readers_of feeds k
fan_out-at n k feeds inside = each_at (readers_of feeds) 0 n k [] inside ∙ ap (readers_of feeds) (zero-add k)

readers_of-append : (fs gs : List Feed) (k : ℕ) → readers_of (fs ++ gs) k ≡ readers_of fs k ++ readers_of gs k
readers_of-append [] gs k = refl
readers_of-append (f ∷ fs) gs k = elim (cases_Bool (f.source == k)) [
  | inl same ↦ rw same (ap (λ v. f.reader ∷ v) (readers_of-append fs gs k))
  | inr other ↦ rw other (readers_of-append fs gs k)
]

readers_of-child : (n k : ℕ) (parent : Option ℕ) (rest : List ℕ) (es : List (ℕ × Scope)) (scope : Scope) → scope.parent ≡ parent →
    rest ≡ map (λ e. e.0) (filter (λ e. is_parent k e.1.parent) es) →
    readers_of (child_feed n parent) k ++ rest ≡ map (λ e. e.0) (filter (λ e. is_parent k e.1.parent) ((n, scope) ∷ es))
readers_of-child n k None rest es scope is rest_is = rw (is, rest_is) refl
readers_of-child n k (Some parent) rest es scope is rest_is = elim (cases_Bool (parent == k)) [
  | inl same ↦ rw (is, same, rest_is) refl
  | inr other ↦ rw (is, other, rest_is) refl
]

-- the children of an instance
pub readers-children : (es : List (ℕ × Scope)) (k : ℕ) → readers_of (child_feeds es) k ≡ map (λ e. e.0) (filter (λ e. is_parent k e.1.parent) es)
readers-children [] k = refl
readers-children (e ∷ es) k =
    readers_of-append (child_feed e.0 e.1.parent) (child_feeds es) k
    ∙ readers_of-child e.0 k e.1.parent (readers_of (child_feeds es) k) es e.1 refl (readers-children es k)

-- the lines of an instance's signals, by their numbers
lines-from : (whole : List Signal) (n k : ℕ) (xs : List Signal) → ((i : ℕ) → slice_get whole (n + i) ≡ slice_get xs i) →
    flat_map (var_line_at whole) (readers_of (signal_feeds (enumerate_from n xs)) k) ≡ flat_map (λ e. var_line e.0 e.1) (filter (λ e. e.1.scope == k) (enumerate_from n xs))
lines-from whole n k [] at = refl
lines-from whole n k (x ∷ xs) at =
    let here : slice_get whole n ≡ Some x = ap (slice_get whole) (omega arith) ∙ at 0 in
    let next : (i : ℕ) → slice_get whole ((n + 1) + i) ≡ slice_get xs i = λ i. ap (slice_get whole) (omega arith) ∙ at (suc i) in
    elim (cases_Bool (x.scope == k)) [
      | inl same ↦ rw (same, here) (ap (λ v. var_line n x ++ v) (lines-from whole (n + 1) k xs next))
      | inr other ↦ rw other (lines-from whole (n + 1) k xs next)
    ]

pub lines-signals : (d : Netlist) (k : ℕ) →
    flat_map (var_line_at d.signals) (readers_of (signal_feeds (enumerate_from 0 d.signals)) k) ≡ flat_map (λ e. var_line e.0 e.1) (signals_of d k)
lines-signals d k = lines-from d.signals 0 k d.signals (λ i. ap (slice_get d.signals) (zero-add i))

-- they are signals that there are
signals-inside : (n k : ℕ) (xs : List Signal) → All (λ m. m < n + length xs) (readers_of (signal_feeds (enumerate_from n xs)) k)
signals-inside n k [] = All-nil (λ m. m < n + 0)
signals-inside n k (x ∷ xs) =
    let rest : All (λ m. m < n + suc (length xs)) (readers_of (signal_feeds (enumerate_from (n + 1) xs)) k) =
    λ i e lt. omega (arith, signals-inside (n + 1) k xs i e lt) in
    elim (cases_Bool (x.scope == k)) [
      | inl same ↦ rw same (All-cons (λ m. m < n + suc (length xs)) n (readers_of (signal_feeds (enumerate_from (n + 1) xs)) k) (omega arith) rest)
      | inr other ↦ rw other rest
    ]

pub signals-are : (d : Netlist) (k : ℕ) → All (λ m. m < length d.signals) (readers_of (signal_feeds (enumerate_from 0 d.signals)) k)
signals-are d k i e lt = omega (arith, signals-inside 0 k d.signals i e lt)

-- each parent stands before its children
abbrev ParentsFrom : ℕ → List Scope → Type 0
ParentsFrom n [] = Unit
ParentsFrom n (s ∷ ss) = ParentFits n s.parent × ParentsFrom (n + 1) ss

parents-from : (n : ℕ) (ss : List Scope) → ((m : ℕ) (p : Option ℕ) → slice_get (map (λ s. s.parent) ss) m ≡ Some p → ParentFits (n + m) p) → ParentsFrom n ss
parents-from n [] fits = tt
parents-from n (s ∷ ss) fits = (
  subst (λ m. ParentFits m s.parent) (omega arith) (fits 0 s.parent refl),
  parents-from (n + 1) ss (λ m p is. subst (λ m. ParentFits m p) (omega arith) (fits (suc m) p is)),
)

abbrev pub IsBelow : ℕ → ℕ → ℕ → Type 0
IsBelow k high m = (k < m) × (m < high)

child-below : (n k : ℕ) (s : Scope) (parent : Option ℕ) (high : ℕ) → s.parent ≡ parent → ParentFits n parent → is_parent k parent ≡ true → n < high → IsBelow k high n
child-below n k s None high is fits one below = cc
child-below n k s (Some parent) high is fits one below = let same : parent ≡ k = grind (arith, one) in (omega (arith, fits, same), below)

children-inside : (n k : ℕ) (ss : List Scope) → ParentsFrom n ss →
    All (IsBelow k (n + length ss)) (map (λ e. e.0) (filter (λ e. is_parent k e.1.parent) (enumerate_from n ss)))
children-inside n k [] fits = All-nil (IsBelow k (n + 0))
children-inside n k (s ∷ ss) fits =
    let rest : All (IsBelow k (n + suc (length ss))) (map (λ e. e.0) (filter (λ e. is_parent k e.1.parent) (enumerate_from (n + 1) ss))) =
    λ i e lt. let below = children-inside (n + 1) k ss fits.1 i e lt in (below.0, omega (arith, below.1)) in
    elim (cases_Bool (is_parent k s.parent)) [
      | inl one ↦ rw one (All-cons (IsBelow k (n + suc (length ss))) n _ (child-below n k s s.parent (n + suc (length ss)) refl fits.0 one (omega arith)) rest)
      | inr other ↦ rw other rest
    ]

pub children-below : (d : Netlist) (k : ℕ) → IsFlat d → All (IsBelow k (length d.scopes)) (children_of d k)
children-below d k flat i e lt =
    let below = children-inside 0 k d.scopes (parents-from 0 d.scopes (λ m p is. subst (λ m. ParentFits m p) (sym (zero-add m)) (flat.scopes m p is))) i e lt in
    (below.0, omega (arith, below.1))

flat_map-same : {A B : Type 0} (f g : A → List B) (xs : List A) → All (λ x. f x ≡ g x) xs → flat_map f xs ≡ flat_map g xs
flat_map-same f g [] same = refl
flat_map-same f g (x ∷ xs) same = rw (All-head (λ x. f x ≡ g x) x xs same, flat_map-same f g xs (All-tail (λ x. f x ≡ g x) x xs same)) refl

-- how many more may stand within each other doesn't count where there are enough
pub scope_text-enough : (d : Netlist) → IsFlat d → (f g n : ℕ) → n < length d.scopes → length d.scopes ≤ n + f → length d.scopes ≤ n + g →
    scope_text d f n ≡ scope_text d g n
unfolding scope_text
scope_text-enough d flat zero g n inside p q = absurd (omega arith)
scope_text-enough d flat (suc f) zero n inside p q = absurd (omega arith)
scope_text-enough d flat (suc f) (suc g) n inside p q =
    ap (λ v. scope_line (name_of d n) ++ flat_map (λ e. var_line e.0 e.1) (signals_of d n) ++ v ++ upscope_line)
    (flat_map-same (scope_text d f) (scope_text d g) (children_of d n)
    (λ i e lt. let below = children-below d n flat i e lt in scope_text-enough d flat f g _ below.1 (omega (arith, below.0)) (omega (arith, below.0))))

-- an instance with all within it
pub scope_text-is : (d : Netlist) (n : ℕ) → IsFlat d → n < length d.scopes →
    scope_text d (length d.scopes) n
    ≡ scope_line (name_of d n) ++ flat_map (λ e. var_line e.0 e.1) (signals_of d n) ++ flat_map (scope_text d (length d.scopes)) (children_of d n) ++ upscope_line
unfolding scope_text
scope_text-is d n flat inside = scope_text-enough d flat (length d.scopes) (suc (length d.scopes)) n inside (omega arith) (omega arith)

pub steps_text-append : (d : Netlist) (xs ys : List Step) → steps_text d (xs ++ ys) ≡ steps_text d ys ++ steps_text d xs
steps_text-append d [] ys = sym (append-nil (steps_text d ys))
steps_text-append d (x ∷ xs) ys = ap (λ v. v ++ step_text d x) (steps_text-append d xs ys) ∙ append_assoc (steps_text d ys) (steps_text d xs) (step_text d x)

-- feeds of a table
pub fan_out-length : (n : ℕ) (feeds : List Feed) → length (fan_out n feeds) ≡ n
fan_out-length n feeds = each_length (readers_of feeds) 0 n

pub signal_feeds-inside : (high n : ℕ) (xs : List Signal) → All (λ s. s.scope < high) xs → All (λ f. f.source < high) (signal_feeds (enumerate_from n xs))
signal_feeds-inside high n [] inside = All-nil (λ (f : Feed). f.source < high)
signal_feeds-inside high n (x ∷ xs) inside =
    All-cons (λ (f : Feed). f.source < high) (feed x.scope n) (signal_feeds (enumerate_from (n + 1) xs)) (All-head (λ (s : Signal). s.scope < high) x xs inside)
    (signal_feeds-inside high (n + 1) xs (All-tail (λ (s : Signal). s.scope < high) x xs inside))

pub signal_feeds-length : (n : ℕ) (xs : List Signal) → length (signal_feeds (enumerate_from n xs)) ≡ length xs
signal_feeds-length n [] = refl
signal_feeds-length n (x ∷ xs) = ap suc (signal_feeds-length (n + 1) xs)

child_feed-inside : (high n : ℕ) (parent : Option ℕ) (rest : List Feed) → ParentFits n parent → n < high → All (λ f. f.source < high) rest →
    All (λ f. f.source < high) (child_feed n parent ++ rest)
child_feed-inside high n None rest fits below inside = inside
child_feed-inside high n (Some parent) rest fits below inside = All-cons (λ (f : Feed). f.source < high) (feed parent n) rest (omega (arith, fits)) inside

child_feeds-from : (high n : ℕ) (ss : List Scope) → ParentsFrom n ss → n + length ss ≤ high → All (λ f. f.source < high) (child_feeds (enumerate_from n ss))
child_feeds-from high n [] fits below = All-nil (λ (f : Feed). f.source < high)
child_feeds-from high n (s ∷ ss) fits below =
    child_feed-inside high n s.parent (child_feeds (enumerate_from (n + 1) ss)) fits.0 (omega arith) (child_feeds-from high (n + 1) ss fits.1 (omega arith))

pub child_feeds-inside : (d : Netlist) → IsFlat d → All (λ f. f.source < length d.scopes) (child_feeds (enumerate_from 0 d.scopes))
child_feeds-inside d flat =
    child_feeds-from (length d.scopes) 0 d.scopes (parents-from 0 d.scopes (λ m p is. subst (λ m. ParentFits m p) (sym (zero-add m)) (flat.scopes m p is))) (omega arith)

child_feed-length : (n : ℕ) (parent : Option ℕ) → length (child_feed n parent) ≤ 1
child_feed-length n None = omega arith
child_feed-length n (Some parent) = omega arith

pub child_feeds-length : (n : ℕ) (ss : List Scope) → length (child_feeds (enumerate_from n ss)) ≤ length ss
child_feeds-length n [] = omega arith
child_feeds-length n (s ∷ ss) =
    omega (arith, length-append (child_feed n s.parent) (child_feeds (enumerate_from (n + 1) ss)), child_feed-length n s.parent, child_feeds-length (n + 1) ss)

-- the line of a signal of this number
pub line-at : (signals : List Signal) (n : ℕ) (signal : Signal) → n < length signals → signal ≡ get_or signals n signal → var_line n signal ≡ var_line_at signals n
line-at signals n signal inside is = ap (λ s. var_line_of n (Some s)) is ∙ ap (var_line_of n) (sym (slice_get-get_or signals n signal inside))

pub name-at : (d : Netlist) (n : ℕ) (scope : Scope) → n < length d.scopes → (get_or d.scopes n scope).name ≡ name_of d n
name-at d n scope inside = sym (get_or-map (λ (s : Scope). s.name) d.scopes n scope [] inside)

entered : (a b c d e f : List ℕ) → ((a ++ b) ++ c) ++ (d ++ (e ++ f)) ≡ a ++ (b ++ c ++ d ++ e) ++ f
entered a b c d e f = simp append_assoc

-- an instance that is entered: its lines are put, its children and its end are left
pub enter-text : (d : Netlist) (n : ℕ) (text name numbers children : List ℕ) (steps : List Step) → IsFlat d → n < length d.scopes →
    name ≡ name_of d n → numbers ≡ readers_of (signal_feeds (enumerate_from 0 d.signals)) n → children ≡ readers_of (child_feeds (enumerate_from 0 d.scopes)) n →
    ((text ++ scope_line name) ++ flat_map (var_line_at d.signals) numbers) ++ (flat_map (scope_text d (length d.scopes)) children ++ steps_text d (steps ++ Leave ∷ []))
    ≡ text ++ scope_text d (length d.scopes) n ++ steps_text d steps
enter-text d n text name numbers children steps flat inside name_is numbers_are children_are =
    rw (name_is, numbers_are, children_are, lines-signals d n, readers-children (enumerate_from 0 d.scopes) n, steps_text-append d steps (Leave ∷ []), scope_text-is d n flat inside)
    (entered text (scope_line (name_of d n)) (flat_map (λ e. var_line e.0 e.1) (signals_of d n)) (flat_map (scope_text d (length d.scopes)) (children_of d n)) upscope_line (steps_text d steps))

-- one child less is left
pub child-next : (d : Netlist) (children : List ℕ) (steps : List Step) (left : ℕ) (whole : List ℕ) → 0 < left → left ≤ length children →
    flat_map (scope_text d (length d.scopes)) (take left children) ++ steps_text d steps ≡ whole →
    flat_map (scope_text d (length d.scopes)) (take (left - 1) children) ++ steps_text d (steps ++ Enter (get_or children (left - 1) 0) ∷ []) ≡ whole
child-next d children steps left whole some within so_far =
    let back : (left - 1) + 1 ≡ left = omega arith in
    let last : take left children ≡ take (left - 1) children ++ get_or children (left - 1) 0 ∷ [] = ap (λ n. take n children) (sym back) ∙ take_more children (left - 1) 0 (omega arith) in
    rw (steps_text-append d steps (Enter (get_or children (left - 1) 0) ∷ []))
    (sym (ap (λ v. v ++ steps_text d steps) (ap (flat_map (scope_text d (length d.scopes))) last ∙ flat_map-append (scope_text d (length d.scopes)) (take (left - 1) children) (get_or children (left - 1) 0 ∷ []))
    ∙ simp append_assoc) ∙ so_far)

-- the last step is taken
pub step-next : (d : Netlist) (text whole : List ℕ) (before : List Step) (steps : List Step) (step : Step) → steps ≡ before ++ step ∷ [] →
    text ++ steps_text d steps ≡ whole → text ++ step_text d step ++ steps_text d before ≡ whole
step-next d text whole before steps step is so_far =
    append_assoc text (step_text d step) (steps_text d before) ∙ sym (ap (λ v. text ++ v) (ap (steps_text d) is ∙ steps_text-append d before (step ∷ []))) ∙ so_far

-- the text is nearer to the whole
pub step-less : (before now : ℕ) (text rest whole : List ℕ) → text ++ rest ≡ whole → length text ≡ now → before < now → length whole - now < length whole - before
step-less before now text rest whole so_far size more = omega (arith, ap length so_far, length-append text rest, size, more)
