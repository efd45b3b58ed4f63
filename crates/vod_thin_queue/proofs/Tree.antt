-- A binary tree of counts over flags.
use Rattle.std.proofs.Common.{◌≡◌, ◌≢◌, ◌⊎◌, ℕ, ◌+◌, ◌-◌, ◌*◌, ◌/◌, ◌<◌, ◌≤◌, ◌^◌, ◌==◌, zero, suc, Bool, true, false, not, List, length, take, set, replicate, arith, refl, ap, sym, add-zero, ◌∙◌, subst, inl, inr, ⊎_elim, slice_index, eq-eqb, get_or-set_same, get_or-set_other, if◌then◌else◌}
use Rattle.std.proofs.Math.Nat.{pow-suc, one-le-pow, mul-le-mul_left, pow-le-pow_right}
use Rattle.std.proofs.lemmas.Bool.{cases_eq, cases_lt, cases_Bool, ne_eqb}
use Rattle.std.proofs.lemmas.List.{take_all, get_or_past, ext_get_or, length-replicate, get_or-replicate}
use Rattle.std.proofs.lemmas.List.Sums.{count_by_more_yes, count_by_more_no}
use Rattle.vod_thin_queue.specs.State.{flag_at}
use Rattle.vod_thin_queue.proofs.Raised.{flag_within}
use Rattle.vod_thin_queue.specs.Flags.{digit_of, set_count, AreSums, AreSumsBut, IsTree}

-- the counts of so many nodes from one on
abbrev pub before : List ℕ → ℕ → ℕ → ℕ
before counts first zero = 0
before counts first (suc n) = before counts first n + slice_index counts (first + n)

-- the nodes of a level count what twice as many of the next one do
pub before-level : (counts : List ℕ) (leaves level q : ℕ) → AreSums leaves counts → 1 ≤ level → 2 * level ≤ leaves → q ≤ level → before counts (2 * level) (2 * q) ≡ before counts level q
before-level counts leaves level zero sums one fits le = refl
before-level counts leaves level (suc q) sums one fits le =
    let e : 2 * suc q ≡ suc (suc (2 * q)) = omega arith in
    let rest = before-level counts leaves level q sums one fits (omega arith) in
    let node = sums (level + q) (omega arith) (omega arith) in
    let left : 2 * (level + q) ≡ 2 * level + 2 * q = omega arith in
    let right : 2 * (level + q) + 1 ≡ 2 * level + suc (2 * q) = omega arith in
    let node' : slice_index counts (level + q) ≡ slice_index counts (2 * level + 2 * q) + slice_index counts (2 * level + suc (2 * q)) = node ∙ ap (λ n. slice_index counts n + slice_index counts (2 * (level + q) + 1)) left ∙ ap (λ n. slice_index counts (2 * level + 2 * q) + slice_index counts n) right in
    rw e (omega arith)

power_one : (j : ℕ) → 1 ≤ 2 ^ j
power_one j = one-le-pow j 2 (omega arith)

power_twice : (j : ℕ) → 2 ^ suc j ≡ 2 * 2 ^ j
power_twice j = pow-suc 2 j ∙ omega arith

power_below : (j h : ℕ) → j < h → 2 * 2 ^ j ≤ 2 ^ h
power_below j h lt = rw (← power_twice j) (pow-le-pow_right (omega arith) lt)

-- so each level counts what the root does
before-root : (counts : List ℕ) (height j : ℕ) → AreSums (2 ^ height) counts → j ≤ height → before counts (2 ^ j) (2 ^ j) ≡ slice_index counts 1
before-root counts height zero sums le = omega arith
before-root counts height (suc j) sums le =
    rw (power_twice j) (before-level counts (2 ^ height) (2 ^ j) (2 ^ j) sums (power_one j) (power_below j height (omega arith)) (omega arith) ∙ before-root counts height j sums (omega arith))

count_more : (flags : List Bool) (k : ℕ) → set_count (take (k + 1) flags) ≡ set_count (take k flags) + digit_of (flag_at flags k)
count_more flags k =
    ⊎_elim
    (λ lt. ⊎_elim
    (λ yes. count_by_more_yes (λ flag. flag) flags k false lt yes ∙ ap (λ (b : Bool). set_count (take k flags) + digit_of b) (sym yes))
    (λ other. let e : digit_of (flag_at flags k) ≡ 0 = ap (λ (b : Bool). digit_of b) other in rw e (count_by_more_no (λ flag. flag) flags k false lt other ∙ omega arith))
    (cases_Bool (flag_at flags k)))
    (λ ge. let all = take_all k flags ge in let all' = take_all (k + 1) flags (omega arith) in let past = get_or_past flags k false ge in rw (all, all', past) (omega arith))
    (cases_lt k (length flags))

rest_by : (b c t u x : ℕ) → b ≡ t → c ≡ x → u ≡ t + x → b + c ≡ u
rest_by b c t u x p q r = omega arith

-- the leaves count the flags
pub before-leaves : (flags : List Bool) (counts : List ℕ) (leaves height k : ℕ) → IsTree flags counts leaves height → k ≤ leaves → before counts leaves k ≡ set_count (take k flags)
before-leaves flags counts leaves height zero tree le = refl
before-leaves flags counts leaves height (suc k) tree le =
    let rest = before-leaves flags counts leaves height k tree (omega arith) in
    let leaf = tree.leaf k (omega arith) in
    let more = count_more flags k in
    let e : suc k ≡ k + 1 = omega arith in
    rest_by (before counts leaves k) (slice_index counts (leaves + k)) (set_count (take k flags)) (set_count (take (k + 1) flags)) (digit_of (flag_at flags k)) rest leaf more ∙ ap (λ n. set_count (take n flags)) (sym e)

-- the root counts them all
pub count_at_root : (flags : List Bool) (counts : List ℕ) (leaves height : ℕ) → IsTree flags counts leaves height → slice_index counts 1 ≡ set_count flags
count_at_root flags counts leaves height tree =
    let sums : AreSums (2 ^ height) counts = rw (← tree.power) tree.sums in
    let root = before-root counts height height sums (omega arith) in
    let all : take leaves flags ≡ flags = take_all leaves flags tree.room in
    let counted = before-leaves flags counts leaves height leaves tree (omega arith) in
    sym root ∙ rw (← tree.power) (counted ∙ ap set_count all)

-- no node counts more than twice the leaves
bounded : (counts : List ℕ) (leaves fuel n : ℕ) → AreSums leaves counts → ((k : ℕ) → k < leaves → slice_index counts (leaves + k) ≤ 1) → 1 ≤ n → n < 2 * leaves → 2 * leaves ≤ n + fuel → n * slice_index counts n ≤ 2 * leaves
bounded counts leaves zero n sums leaf one lt fuel = absurd (omega arith)
bounded counts leaves (suc f) n sums leaf one lt fuel =
    ⊎_elim
    (λ inner. let left : 2 * n * slice_index counts (2 * n) ≤ 2 * leaves = bounded counts leaves f (2 * n) sums leaf (omega arith) (omega arith) (omega arith) in
    let right : (2 * n + 1) * slice_index counts (2 * n + 1) ≤ 2 * leaves = bounded counts leaves f (2 * n + 1) sums leaf (omega arith) (omega arith) (omega arith) in
    let node = sums n one inner in
    rw node (omega arith))
    (λ outer. let e : leaves + (n - leaves) ≡ n = omega arith in
    let small : slice_index counts n ≤ 1 = subst (λ m. slice_index counts m ≤ 1) e (leaf (n - leaves) (omega arith)) in
    omega (arith, mul-le-mul_left n small))
    (cases_lt n leaves)

digit_small : (b : Bool) → digit_of b ≤ 1
digit_small true = omega arith
digit_small false = omega arith

small_by : (n c l : ℕ) → 1 ≤ n → n * c ≤ l → l ≤ 2 ^ 26 → c ≤ 2 ^ 26
small_by n c l one le few = omega (arith, mul-le-mul_left c one)

pub count_small : (flags : List Bool) (counts : List ℕ) (leaves height n : ℕ) → IsTree flags counts leaves height → 1 ≤ n → slice_index counts n ≤ 2 ^ 26
count_small flags counts leaves height n tree one =
    ⊎_elim
    (λ lt. let b = bounded counts leaves (2 * leaves) n tree.sums (λ k h. rw (tree.leaf k h) (digit_small (flag_at flags k))) one lt (omega arith) in
    let few : 2 ^ height ≤ 2 ^ 25 = pow-le-pow_right (omega arith) tree.low in
    let is = tree.power in
    small_by n (slice_index counts n) (2 * leaves) one b (omega arith))
    (λ ge. let past = get_or_past counts n 0 (omega (arith, tree.size)) in omega arith)
    (cases_lt n (2 * leaves))

-- a step down to the left, and one to the right
pub step_left : (counts : List ℕ) (leaves level place left nth : ℕ) → AreSums leaves counts → 1 ≤ level → 2 * level ≤ leaves → place < level → before counts level place + left ≡ nth → before counts (2 * level) (2 * place) + left ≡ nth
step_left counts leaves level place left nth sums one fits lt is = rw (before-level counts leaves level place sums one fits (omega arith)) is

pub step_right : (counts : List ℕ) (leaves level place left nth : ℕ) → AreSums leaves counts → 1 ≤ level → 2 * level ≤ leaves → place < level → before counts level place + left ≡ nth → slice_index counts (2 * level + 2 * place) ≤ left →
    before counts (2 * level) (2 * place + 1) + (left - slice_index counts (2 * level + 2 * place)) ≡ nth
step_right counts leaves level place left nth sums one fits lt is ge =
    let e : 2 * place + 1 ≡ suc (2 * place) = omega arith in
    let b = before-level counts leaves level place sums one fits (omega arith) in
    rw e (omega arith)

pub right_more : (counts : List ℕ) (leaves level place left : ℕ) → AreSums leaves counts → 1 ≤ level → 2 * level ≤ leaves → place < level → left < slice_index counts (level + place) → slice_index counts (2 * level + 2 * place) ≤ left →
    left - slice_index counts (2 * level + 2 * place) < slice_index counts (2 * level + (2 * place + 1))
right_more counts leaves level place left sums one fits lt is ge =
    let node = sums (level + place) (omega arith) (omega arith) in
    let a : 2 * (level + place) ≡ 2 * level + 2 * place = omega arith in
    let b : 2 * (level + place) + 1 ≡ 2 * level + (2 * place + 1) = omega arith in
    let node' : slice_index counts (level + place) ≡ slice_index counts (2 * level + 2 * place) + slice_index counts (2 * level + (2 * place + 1)) = node ∙ ap (λ n. slice_index counts n + slice_index counts (2 * (level + place) + 1)) a ∙ ap (λ n. slice_index counts (2 * level + 2 * place) + slice_index counts n) b in
    omega arith

digit_set : (b : Bool) → 0 < digit_of b → b ≡ true
digit_set true h = refl
digit_set false h = absurd (omega arith)

-- at the leaves the flag is found
pub found : (flags : List Bool) (counts : List ℕ) (leaves height place left nth : ℕ) → IsTree flags counts leaves height → place < leaves → left < slice_index counts (leaves + place) → before counts leaves place + left ≡ nth →
    (flag_at flags place ≡ true) × (set_count (take place flags) ≡ nth) × (place < length flags)
found flags counts leaves height place left nth tree lt some is =
    let leaf = tree.leaf place lt in
    let b = before-leaves flags counts leaves height place tree (omega arith) in
    let yes = digit_set (flag_at flags place) (omega arith) in
    let one : digit_of (flag_at flags place) ≡ 1 = ap (λ (b : Bool). digit_of b) yes in
    (yes, (omega arith), flag_within flags place yes)

if_at : (n node m : ℕ) → n ≡ node → ◌≡◌ {A = ℕ} (if n == node then m else 0) m
if_at n node m same = let e = eq-eqb n node same in rw e refl

if_off : (n node m : ℕ) → n ≢ node → ◌≡◌ {A = ℕ} (if n == node then m else 0) 0
if_off n node m apart = let e = ne_eqb n node apart in rw e refl

-- the equation of one node, where it is the one, and where it isn't
at_node : (node leaves : ℕ) (added : Bool) (counts : List ℕ) → AreSumsBut node added leaves counts → 1 ≤ node → node < leaves → slice_index counts node + digit_of added ≡ slice_index counts (2 * node) + slice_index counts (2 * node + 1) + digit_of (not added)
at_node node leaves added counts but one lt =
    ap (λ n. slice_index counts node + n) (sym (if_at node node (digit_of added) refl)) ∙ but node one lt ∙ ap (λ n. slice_index counts (2 * node) + slice_index counts (2 * node + 1) + n) (if_at node node (digit_of (not added)) refl)

off_node : (node leaves : ℕ) (added : Bool) (counts : List ℕ) (n : ℕ) → AreSumsBut node added leaves counts → n ≢ node → 1 ≤ n → n < leaves → slice_index counts n ≡ slice_index counts (2 * n) + slice_index counts (2 * n + 1)
off_node node leaves added counts n but apart one lt =
    sym (add-zero (slice_index counts n)) ∙ ap (λ m. slice_index counts n + m) (sym (if_off n node (digit_of added) apart)) ∙ but n one lt
    ∙ ap (λ m. slice_index counts (2 * n) + slice_index counts (2 * n + 1) + m) (if_off n node (digit_of (not added)) apart) ∙ add-zero (slice_index counts (2 * n) + slice_index counts (2 * n + 1))

from_at : (node leaves : ℕ) (added : Bool) (counts : List ℕ) (n : ℕ) → n ≡ node → slice_index counts n + digit_of added ≡ slice_index counts (2 * n) + slice_index counts (2 * n + 1) + digit_of (not added) →
    slice_index counts n + (if n == node then digit_of added else 0) ≡ slice_index counts (2 * n) + slice_index counts (2 * n + 1) + (if n == node then digit_of (not added) else 0)
from_at node leaves added counts n same is = rw (if_at n node (digit_of added) same, if_at n node (digit_of (not added)) same) is

from_off : (node leaves : ℕ) (added : Bool) (counts : List ℕ) (n : ℕ) → n ≢ node → slice_index counts n ≡ slice_index counts (2 * n) + slice_index counts (2 * n + 1) →
    slice_index counts n + (if n == node then digit_of added else 0) ≡ slice_index counts (2 * n) + slice_index counts (2 * n + 1) + (if n == node then digit_of (not added) else 0)
from_off node leaves added counts n apart is = rw (if_off n node (digit_of added) apart, if_off n node (digit_of (not added)) apart) (ap (λ m. m + 0) is)

half_cases : (n node : ℕ) → n ≡ node / 2 → (2 * n ≡ node) ⊎ (2 * n + 1 ≡ node)
half_cases n node half = ⊎_elim (λ e. inl e) (λ apart. inr (omega arith)) (cases_eq (2 * n) node)

-- once a node's count is right, its parent's is the one to mend
pub sums_but_parent : (node parent leaves : ℕ) (added : Bool) (counts : List ℕ) (count : ℕ) → AreSumsBut node added leaves counts → 1 ≤ node → node < leaves → node < length counts → parent ≡ node / 2 →
    count + digit_of (not added) ≡ slice_index counts node + digit_of added → AreSumsBut parent added leaves (set counts node count)
sums_but_parent node parent leaves added counts count but one lt within half is n one_n lt_n =
    let here : slice_index (set counts node count) node ≡ count = get_or-set_same counts node count 0 within in
    let others : (m : ℕ) → m ≢ node → slice_index (set counts node count) m ≡ slice_index counts m = λ m apart. get_or-set_other counts node m count 0 apart in
    ⊎_elim
    (λ same. let old = at_node node leaves added counts but one lt in
    let l = others (2 * n) (λ e. omega arith) in let r = others (2 * n + 1) (λ e. omega arith) in
    let me : slice_index (set counts node count) n ≡ count = subst (λ m. slice_index (set counts node count) m ≡ count) (sym same) here in
    let left : slice_index counts (2 * n) ≡ slice_index counts (2 * node) = ap (λ m. slice_index counts (2 * m)) same in
    let right : slice_index counts (2 * n + 1) ≡ slice_index counts (2 * node + 1) = ap (λ m. slice_index counts (2 * m + 1)) same in
    from_off parent leaves added (set counts node count) n (λ e. omega arith) (omega arith))
    (λ apart. let me = others n apart in
    let old = off_node node leaves added counts n but apart one_n lt_n in
    ⊎_elim
    (λ up. ⊎_elim
    (λ left. let l : slice_index (set counts node count) (2 * n) ≡ count = subst (λ m. slice_index (set counts node count) m ≡ count) (sym left) here in
    let r = others (2 * n + 1) (λ e. omega arith) in
    let was : slice_index counts (2 * n) ≡ slice_index counts node = ap (slice_index counts) left in
    from_at parent leaves added (set counts node count) n up (omega arith))
    (λ right. let r : slice_index (set counts node count) (2 * n + 1) ≡ count = subst (λ m. slice_index (set counts node count) m ≡ count) (sym right) here in
    let l = others (2 * n) (λ e. omega arith) in
    let was : slice_index counts (2 * n + 1) ≡ slice_index counts node = ap (slice_index counts) right in
    from_at parent leaves added (set counts node count) n up (omega arith))
    (half_cases n node (up ∙ half)))
    (λ off. let l = others (2 * n) (λ e. off (omega arith)) in let r = others (2 * n + 1) (λ e. off (omega arith)) in
    from_off parent leaves added (set counts node count) n off (omega arith))
    (cases_eq n parent))
    (cases_eq n node)

enough_by : (added : Bool) (c x : ℕ) → c + digit_of added ≡ x + digit_of (not added) → digit_of (not added) ≤ c
enough_by true c x e = omega arith
enough_by false c x e = omega arith

-- what is one less is at least one
pub enough : (node leaves : ℕ) (added : Bool) (counts : List ℕ) → AreSumsBut node added leaves counts → 1 ≤ node → node < leaves → digit_of (not added) ≤ slice_index counts node
enough node leaves added counts but one lt = enough_by added (slice_index counts node) (slice_index counts (2 * node) + slice_index counts (2 * node + 1)) (at_node node leaves added counts but one lt)

-- at the root's parent nothing is left to mend
pub sums_done : (node leaves : ℕ) (added : Bool) (counts : List ℕ) → AreSumsBut node added leaves counts → node ≡ 0 → AreSums leaves counts
sums_done node leaves added counts but root n one lt = off_node node leaves added counts n but (λ e. omega arith) one lt

-- a level above the leaves has fewer nodes
pub level_above : (flags : List Bool) (counts : List ℕ) (leaves height level step : ℕ) → IsTree flags counts leaves height → level ≡ 2 ^ step → step < height → (1 ≤ level) × (2 * level ≤ leaves) × (leaves ≤ 2 ^ 25)
level_above flags counts leaves height level step tree is lt =
    let one = power_one step in let b = power_below step height lt in let p = tree.power in
    let few : 2 ^ height ≤ 2 ^ 25 = pow-le-pow_right (omega arith) tree.low in
    ((omega arith), (omega arith), (omega arith))

-- on the way down to the n-th set flag: a node of a level, and how many of the set flags below it stand before that flag
pub record IsDownTo (counts : List ℕ) (level place left nth : ℕ) : Type 0 where
  pub inside : place < level
  pub counted : before counts level place + left ≡ nth
  pub some : left < slice_index counts (level + place)

pub down_start : (flags : List Bool) (counts : List ℕ) (leaves height nth : ℕ) → IsTree flags counts leaves height → nth < set_count flags → IsDownTo counts 1 0 nth nth
down_start flags counts leaves height nth tree lt = record { inside = omega arith; counted = omega arith; some = rw (count_at_root flags counts leaves height tree) lt }

pub down_left : (flags : List Bool) (counts : List ℕ) (leaves height level step place left nth : ℕ) → IsTree flags counts leaves height → level ≡ 2 ^ step → step < height → IsDownTo counts level place left nth → left < slice_index counts (level * 2 + place * 2) →
    IsDownTo counts (level * 2) (place * 2) left nth
down_left flags counts leaves height level step place left nth tree is lt down some =
    let above = level_above flags counts leaves height level step tree is lt in
    let inside = down.inside in
    let l : level * 2 ≡ 2 * level = omega arith in
    let p : place * 2 ≡ 2 * place = omega arith in
    record { inside = omega arith; counted = rw (l, p) (step_left counts leaves level place left nth tree.sums above.0 above.1 down.inside down.counted); some = some }

pub down_right : (flags : List Bool) (counts : List ℕ) (leaves height level step place left nth : ℕ) → IsTree flags counts leaves height → level ≡ 2 ^ step → step < height → IsDownTo counts level place left nth → slice_index counts (level * 2 + place * 2) ≤ left →
    IsDownTo counts (level * 2) (place * 2 + 1) (left - slice_index counts (level * 2 + place * 2)) nth
down_right flags counts leaves height level step place left nth tree is lt down past =
    let above = level_above flags counts leaves height level step tree is lt in
    let inside = down.inside in
    let l : level * 2 ≡ 2 * level = omega arith in
    let p : place * 2 ≡ 2 * place = omega arith in
    let past' : slice_index counts (2 * level + 2 * place) ≤ left = rw (← l, ← p) past in
    record {
      inside = omega arith;
      counted = rw (l, p) (step_right counts leaves level place left nth tree.sums above.0 above.1 down.inside down.counted past');
      some = rw (l, p) (right_more counts leaves level place left tree.sums above.0 above.1 down.inside down.some past');
    }

pub down_found : (flags now : List Bool) (counts : List ℕ) (leaves height level step place left nth : ℕ) → flags ≡ now → IsTree flags counts leaves height → level ≡ 2 ^ step → height ≤ step → step ≤ height → IsDownTo counts level place left nth →
    (flag_at now place ≡ true) × (set_count (take place now) ≡ nth) × (place < length now)
down_found flags now counts leaves height level step place left nth same tree is ge le down =
    let e : step ≡ height = omega arith in
    let l : level ≡ leaves = is ∙ ap (λ n. 2 ^ n) e ∙ sym tree.power in
    rw (← same) (found flags counts leaves height place left nth tree (rw (← l) down.inside) (rw (← l) down.some) (rw (← l) down.counted))

-- the indices of a step down
pub down_within : (flags : List Bool) (counts : List ℕ) (leaves height level step place left nth : ℕ) → IsTree flags counts leaves height → level ≡ 2 ^ step → step < height → IsDownTo counts level place left nth →
    (level * 2 + place * 2 < length counts) × (level * 2 + place * 2 < 2 ^ 27)
down_within flags counts leaves height level step place left nth tree is lt down =
    let above = level_above flags counts leaves height level step tree is lt in
    let fits = above.1 in let few = above.2 in
    let inside = down.inside in let size = tree.size in
    ((omega arith), (omega arith))

pub power_more : (level step : ℕ) → level ≡ 2 ^ step → level * 2 ≡ 2 ^ (step + 1)
power_more level step is = let e : step + 1 ≡ suc step = omega arith in let p = power_twice step in rw e (omega arith)

pub root_within : (flags : List Bool) (counts : List ℕ) (leaves height : ℕ) → IsTree flags counts leaves height → 1 < length counts
root_within flags counts leaves height tree = let one = power_one height in let p = tree.power in let s = tree.size in omega arith

pub all_set : (flags : List Bool) (n : ℕ) → length flags ≡ n → ((k : ℕ) → k < n → flag_at flags k ≡ true) → flags ≡ replicate n true
all_set flags n len set_at = ext_get_or false flags (replicate n true) (len ∙ sym (length-replicate n true)) (λ k h. let l : k < n = rw (← len) h in set_at k l ∙ sym (get_or-replicate n k true false l))
