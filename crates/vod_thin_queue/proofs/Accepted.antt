-- What the rules of an accepted design say of its places: which signals are inputs, registers or targets, and who reads them.
use Rattle.std.proofs.Common.{◌≡◌, ◌≢◌, ◌⊎◌, ℕ, ◌+◌, ◌<◌, ◌≤◌, ◌^◌, inl, inr, zero, suc, ◌||◌, ◌==◌, Bool, true, false, cond, not, List, [], ◌∷◌, length, map, take, get_or, arith, refl, ap, sym, ◌∙◌, subst, ⊎_elim, All, AllPairs, Some, IsTrue, slice_index}
use Rattle.std.specs.List.{slice_get, filter}
use Rattle.std.proofs.lemmas.Bool.{or_cases, cases_eq, cases_lt, eqb-true, false_from_ne_true}
use Rattle.std.proofs.lemmas.Option.{slice_get-get_or, slice_get-map, slice_get_within, get_or_from_slice_get, same_Some}
use Rattle.std.proofs.lemmas.List.{take-map, get_or-map, length-map}
use Rattle.std.specs.List.Sorted.{IsStrictlyIncreasing}
use Rattle.std.proofs.lemmas.List.Elements.{All-take, All-weaker, All-from_get_or}
use Rattle.std.proofs.lemmas.List.Kept.{AllPairs-from_increasing}
use Rattle.vod_thin_design.specs.declared.thin.Signal.{Signal}
use Rattle.vod_thin_design.specs.declared.thin.Input.{Input}
use Rattle.vod_thin_design.specs.declared.thin.Driver.{Driver}
use Rattle.vod_thin_design.specs.declared.thin.Block.{Block}
use Rattle.vod_thin_design.specs.declared.thin.Initial.{Initial}
use Rattle.vod_thin_design.specs.Expr.{reads}
use Rattle.vod_thin_design.specs.Netlist.{Netlist, IsAccepted, has, is_clock, is_readable, is_register, input_signals, data_signals, clock_signals, targets, assigned_registers, initial_registers}
use Rattle.vod_thin_queue.specs.Step.{reads_signal, waits_for}
use Rattle.vod_thin_queue.specs.Index.{passes_at}
use Rattle.vod_thin_queue.proofs.Has.{All-has, has-get_or}
use Rattle.vod_thin_queue.proofs.Raised.{item_at}

at_least : (ns : List ℕ) → IsStrictlyIncreasing ns → (k : ℕ) → k < length ns → k ≤ get_or ns k 0
at_least ns rise zero h = omega arith
at_least ns rise (suc k) h =
    let e : suc k ≡ k + 1 = omega arith in
    let before = at_least ns rise k (omega arith) in
    let next = rise k (omega arith) in
    rw e (omega arith)

-- rising numbers below n are at most n
length-rising : (ns : List ℕ) (n : ℕ) → IsStrictlyIncreasing ns → All (λ m. m < n) ns → length ns ≤ n
length-rising [] n rise within = omega arith
length-rising (m ∷ ns) n rise within =
    let last = at_least (m ∷ ns) rise (length ns) (omega arith) in
    let below = within (length ns) 0 (omega arith) in
    omega arith

-- different numbers at different places
pub apart_at : (ns : List ℕ) → AllPairs (λ m n. m ≢ n) ns → (i j : ℕ) → i < length ns → j < length ns → i ≢ j → slice_index ns i ≢ slice_index ns j
apart_at ns once i j hi hj apart same =
    ⊎_elim (λ lt. once i j 0 lt hj same) (λ ge. once j i 0 (omega arith) hi (sym same)) (cases_lt i j)

rising_apart : (ns : List ℕ) → IsStrictlyIncreasing ns → AllPairs (λ m n. m ≢ n) ns
rising_apart ns rise m n x lt h same = let below = AllPairs-from_increasing ns rise m n x lt h in omega arith

-- a number that a list has isn't one that it hasn't
pub apart_has : (ns : List ℕ) (s t : ℕ) → has ns s ≡ true → has ns t ≡ false → s ≢ t
apart_has ns s t is free same = let clash : true ≡ false = sym is ∙ ap (has ns) same ∙ free in cc

-- what a field of the items has at a place
pub field_at : {A : Type 0} (f : A → ℕ) (xs : List A) (k : ℕ) (x : A) → slice_get xs k ≡ Some x → slice_index (map f xs) k ≡ f x
field_at f xs k x at = get_or_from_slice_get (map f xs) k (f x) 0 (slice_get-map f xs k ∙ rw at refl)

-- a number that a field of the items that pass has, at the place of such an item
found_by : {A : Type 0} (f : A → ℕ) (test : A → Bool) (x : A) (xs : List A) (n : ℕ) (passes : Bool) → test x ≡ passes → has (map f (cond passes (x ∷ filter test xs) (filter test xs))) n ≡ true →
    (has (map f (filter test xs)) n ≡ true → (i : ℕ) × (y : A) × (slice_get xs i ≡ Some y) × (f y ≡ n) × (test y ≡ true)) → (i : ℕ) × (y : A) × (slice_get (x ∷ xs) i ≡ Some y) × (f y ≡ n) × (test y ≡ true)
found_by f test x xs n true is h rest =
    ⊎_elim (λ here. (0, x, refl, eqb-true (f x) n here, is)) (λ later. let p = rest later in (suc p.0, p.1, p.2, p.3, p.4)) (or_cases (f x == n) (has (map f (filter test xs)) n) h)
found_by f test x xs n false is h rest = let p = rest h in (suc p.0, p.1, p.2, p.3, p.4)

pub found : {A : Type 0} (f : A → ℕ) (test : A → Bool) (xs : List A) (n : ℕ) → has (map f (filter test xs)) n ≡ true → (i : ℕ) × (x : A) × (slice_get xs i ≡ Some x) × (f x ≡ n) × (test x ≡ true)
found f test [] n h = absurd (cc)
found f test (x ∷ xs) n h = found_by f test x xs n (test x) refl h (found f test xs n)

-- a number that a list has stands at a place
pub place_of : (ns : List ℕ) (n : ℕ) → has ns n ≡ true → (i : ℕ) × (i < length ns) × (get_or ns i 0 ≡ n)
place_of [] n h = absurd (cc)
place_of (m ∷ ns) n h = ⊎_elim (λ here. (0, (omega arith), eqb-true m n here)) (λ later. let p = place_of ns n later in (suc p.0, (let l = p.1 in omega arith), p.2)) (or_cases (m == n) (has ns n) h)

pub below_same : (x n m : ℕ) → m ≡ n → x < n → x < m
below_same x n m same below = rw same below

-- a field of an item that was read
pub within_at : {A : Type 0} (f : A → ℕ) (n : ℕ) (xs items : List A) (k : ℕ) (x : A) → items ≡ xs → k < length xs → slice_index (map f xs) k < n → f (get_or items k x) < n
within_at f n xs items k x same h below = rw (same, ← get_or-map f xs k x 0 h) below

pub within_read : {A : Type 0} (f : A → ℕ) (n : ℕ) (xs items : List A) (k : ℕ) (x : A) → items ≡ xs → k < length xs → x ≡ get_or items k x → slice_index (map f xs) k < n → f x < n
within_read f n xs items k x same h is below = subst (λ y. f y < n) (sym is) (within_at f n xs items k x same h below)

-- inputs
pub input_within : (d : Netlist) → IsAccepted d → (i : ℕ) → i < length d.inputs → slice_index (input_signals d) i < length d.signals
input_within d a i h = a.inputs_within i 0 (rw length-map h)

pub is_input : (d : Netlist) (i : ℕ) → i < length d.inputs → has (input_signals d) (slice_index (input_signals d) i) ≡ true
is_input d i h = has-get_or (input_signals d) i 0 (rw length-map h)

pub inputs_apart : (d : Netlist) → IsAccepted d → (i k : ℕ) → i < length d.inputs → k < length d.inputs → i ≢ k → slice_index (input_signals d) i ≢ slice_index (input_signals d) k
inputs_apart d a i k hi hk apart =
    apart_at (input_signals d) (rising_apart (input_signals d) a.inputs_rise) i k (rw length-map hi) (rw length-map hk) apart

-- there are no more inputs than signals
pub few_inputs : (d : Netlist) → IsAccepted d → length d.inputs < 2 ^ 25
few_inputs d a =
    let few = a.few_signals in
    let l = length-rising (input_signals d) (length d.signals) a.inputs_rise a.inputs_within in
    let m : length (input_signals d) ≡ length d.inputs = length-map d.inputs (λ (input : Input). input.signal) in
    omega arith

-- registers
registered : (signals : List Signal) (s : ℕ) → get_or (map (λ (signal : Signal). signal.register) signals) s false ≡ true → s < length signals
registered [] s h = absurd (cc)
registered (signal ∷ signals) zero h = omega arith
registered (signal ∷ signals) (suc s) h = let l = registered signals s h in omega arith

pub register_within : (d : Netlist) (s : ℕ) → is_register d s ≡ true → s < length d.signals
register_within d s h = registered d.signals s h

pub register_no_input : (d : Netlist) → IsAccepted d → (s : ℕ) → is_register d s ≡ true → has (input_signals d) s ≡ false
register_no_input d a s h =
    false_from_ne_true (has (input_signals d) s) (λ is. let free = All-has (λ n. is_register d n ≡ false) (input_signals d) s a.inputs_kept is in let clash : true ≡ false = sym h ∙ free in cc)

pub register_no_target : (d : Netlist) → IsAccepted d → (s : ℕ) → is_register d s ≡ true → has (targets d.drivers) s ≡ false
register_no_target d a s h =
    false_from_ne_true (has (targets d.drivers) s) (λ is. let free = All-has (λ n. is_register d n ≡ false) (targets d.drivers) s a.targets_kept is in let clash : true ≡ false = sym h ∙ free in cc)

pub assigned_is_register : (d : Netlist) → IsAccepted d → (k : ℕ) → k < length d.blocks → is_register d (slice_index (assigned_registers d.blocks) k) ≡ true
assigned_is_register d a k h = a.assigns_registers k 0 (rw length-map h)

pub initial_is_register : (d : Netlist) → IsAccepted d → (m : ℕ) → m < length d.initials → is_register d (slice_index (initial_registers d.initials) m) ≡ true
initial_is_register d a m h = a.initial (slice_index (initial_registers d.initials) m) ∙ has-get_or (initial_registers d.initials) m 0 (rw length-map h)

initial_within : (d : Netlist) → IsAccepted d → All (λ s. s < length d.signals) (initial_registers d.initials)
initial_within d a =
    All-from_get_or (λ s. s < length d.signals) (initial_registers d.initials) 0
    (λ m h. register_within d (get_or (initial_registers d.initials) m 0) (a.initial (get_or (initial_registers d.initials) m 0) ∙ has-get_or (initial_registers d.initials) m 0 h))

-- there are no more initial values than signals
pub few_initials : (d : Netlist) → IsAccepted d → length d.initials < 2 ^ 25
few_initials d a =
    let few = a.few_signals in
    let l = length-rising (initial_registers d.initials) (length d.signals) a.initials_rise (initial_within d a) in
    let m : length (initial_registers d.initials) ≡ length d.initials = length-map d.initials (λ (initial : Initial). initial.register) in
    omega arith

pub initials_apart : (d : Netlist) → IsAccepted d → (i k : ℕ) → i < length d.initials → k < length d.initials → i ≢ k → slice_index (initial_registers d.initials) i ≢ slice_index (initial_registers d.initials) k
initials_apart d a i k hi hk apart =
    apart_at (initial_registers d.initials) (rising_apart (initial_registers d.initials) a.initials_rise) i k (rw length-map hi) (rw length-map hk) apart

-- targets
pub target_within : (d : Netlist) → IsAccepted d → (j : ℕ) → j < length d.drivers → slice_index (targets d.drivers) j < length d.signals
target_within d a j h = a.targets_within j 0 (rw length-map h)

pub target_no_input : (d : Netlist) → IsAccepted d → (j : ℕ) → j < length d.drivers → has (input_signals d) (slice_index (targets d.drivers) j) ≡ false
target_no_input d a j h = a.inputs_undriven j 0 (rw length-map h)

pub is_target : (d : Netlist) (j : ℕ) → j < length d.drivers → has (targets d.drivers) (slice_index (targets d.drivers) j) ≡ true
is_target d j h = has-get_or (targets d.drivers) j 0 (rw length-map h)

input_no_target : (d : Netlist) → IsAccepted d → (s : ℕ) → has (input_signals d) s ≡ true → has (targets d.drivers) s ≡ false
input_no_target d a s is =
    false_from_ne_true (has (targets d.drivers) s)
    (λ target. let free = All-has (λ n. has (input_signals d) n ≡ false) (targets d.drivers) s a.inputs_undriven target in let clash : true ≡ false = sym is ∙ free in cc)

has_before : (d : Netlist) (j s : ℕ) → has (targets (take j d.drivers)) s ≡ true → has (targets d.drivers) s ≡ true
has_before d j s h =
    let p = place_of (targets (take j d.drivers)) s h in
    let all : All (λ n. has (targets d.drivers) n ≡ true) (targets (take j d.drivers)) =
    (let e = take-map (λ (driver : Driver). driver.target) j d.drivers in
    rw (← e) (All-take (λ n. has (targets d.drivers) n ≡ true) j (targets d.drivers) (All-from_get_or (λ n. has (targets d.drivers) n ≡ true) (targets d.drivers) 0 (λ i l. has-get_or (targets d.drivers) i 0 l)))) in
    All-has (λ n. has (targets d.drivers) n ≡ true) (targets (take j d.drivers)) s all h

-- what an expression may read
pub readable_cases : (d : Netlist) (drivers : List Driver) (s : ℕ) → is_readable d drivers s ≡ true → (has (data_signals d) s ≡ true) ⊎ ((is_register d s ≡ true) ⊎ (has (targets drivers) s ≡ true))
readable_cases d drivers s h =
    ⊎_elim
    (λ first. ⊎_elim (λ read. inl read) (λ register. inr (inl register)) (or_cases (has (data_signals d) s) (is_register d s) first))
    (λ target. inr (inr target))
    (or_cases (has (data_signals d) s || is_register d s) (has (targets drivers) s) h)

pub data_is_input : (d : Netlist) (s : ℕ) → has (data_signals d) s ≡ true → has (input_signals d) s ≡ true
data_is_input d s h =
    let p = found (λ (input : Input). input.signal) (λ (input : Input). not (is_clock input.class)) d.inputs s h in
    subst (λ n. has (input_signals d) n ≡ true) (field_at (λ (input : Input). input.signal) d.inputs p.0 p.1 p.2 ∙ p.3) (is_input d p.0 (slice_get_within d.inputs p.0 p.1 p.2))

pub clock_is_input : (d : Netlist) (s : ℕ) → has (clock_signals d) s ≡ true → has (input_signals d) s ≡ true
clock_is_input d s h =
    let p = found (λ (input : Input). input.signal) (λ (input : Input). is_clock input.class) d.inputs s h in
    subst (λ n. has (input_signals d) n ≡ true) (field_at (λ (input : Input). input.signal) d.inputs p.0 p.1 p.2 ∙ p.3) (is_input d p.0 (slice_get_within d.inputs p.0 p.1 p.2))

-- each block waits for an input
pub clock_of : (d : Netlist) → IsAccepted d → (k : ℕ) (block : Block) → slice_get d.blocks k ≡ Some block → has (clock_signals d) block.clock ≡ true
clock_of d a k block at = let h = a.clocked k block (slice_get_within d.blocks k block at) in rw (get_or_from_slice_get d.blocks k block block at) at h

pub no_clock : (d : Netlist) (s : ℕ) → has (input_signals d) s ≡ false → has (clock_signals d) s ≡ false
no_clock d s free = false_from_ne_true (has (clock_signals d) s) (λ clock. let clash : true ≡ false = sym (clock_is_input d s clock) ∙ free in cc)

-- no block waits for a signal that is no clock
pub unheard : (d : Netlist) → IsAccepted d → (s : ℕ) → has (clock_signals d) s ≡ false → (k : ℕ) → passes_at (waits_for s) d.blocks k ≡ false
unheard d a s free k =
    false_from_ne_true (passes_at (waits_for s) d.blocks k)
    (λ waits. let p = item_at (waits_for s) d.blocks k waits in
    apart_has (clock_signals d) p.0.clock s (clock_of d a k p.0 p.1) free (eqb-true p.0.clock s p.2))

-- no expression reads a clock
pub clock_unreadable : (d : Netlist) → IsAccepted d → (drivers : List Driver) (s : ℕ) → has (clock_signals d) s ≡ true → (has (targets drivers) s ≡ true → has (targets d.drivers) s ≡ true) → is_readable d drivers s ≡ false
clock_unreadable d a drivers s clock before =
    let is = clock_is_input d s clock in
    false_from_ne_true (is_readable d drivers s)
    (λ readable. ⊎_elim
    (λ read. let p = found (λ (input : Input). input.signal) (λ (input : Input). is_clock input.class) d.inputs s clock in
    let q = found (λ (input : Input). input.signal) (λ (input : Input). not (is_clock input.class)) d.inputs s read in
    ⊎_elim
    (λ same. let e : p.1 ≡ q.1 = same_Some p.1 q.1 (sym p.2 ∙ ap (slice_get d.inputs) same ∙ q.2) in
    let clash : true ≡ not true = sym q.4 ∙ ap (λ (input : Input). not (is_clock input.class)) (sym e) ∙ ap not p.4 in cc)
    (λ apart. inputs_apart d a p.0 q.0 (slice_get_within d.inputs p.0 p.1 p.2) (slice_get_within d.inputs q.0 q.1 q.2) apart
    (field_at (λ (input : Input). input.signal) d.inputs p.0 p.1 p.2 ∙ p.3 ∙ sym q.3 ∙ sym (field_at (λ (input : Input). input.signal) d.inputs q.0 q.1 q.2)))
    (cases_eq p.0 q.0))
    (λ rest. ⊎_elim
    (λ register. let free = register_no_input d a s register in let clash : true ≡ false = sym is ∙ free in cc)
    (λ target. let free = input_no_target d a s is in let clash : true ≡ false = sym (before target) ∙ free in cc)
    rest)
    (readable_cases d drivers s readable))

-- no driver reads a clock
pub unread : (d : Netlist) → IsAccepted d → (s : ℕ) → has (clock_signals d) s ≡ true → (j : ℕ) → passes_at (reads_signal s) d.drivers j ≡ false
unread d a s clock j =
    false_from_ne_true (passes_at (reads_signal s) d.drivers j)
    (λ reads_it. let p = item_at (reads_signal s) d.drivers j reads_it in
    let yes = All-has (λ n. is_readable d (take j d.drivers) n ≡ true) (reads p.0.value) s (a.ranked j p.0 p.1) p.2 in
    let free = clock_unreadable d a (take j d.drivers) s clock (has_before d j s) in
    let clash : true ≡ false = sym yes ∙ free in cc)

-- no block reads a clock
pub unread_by_blocks : (d : Netlist) → IsAccepted d → (k : ℕ) (block : Block) → slice_get d.blocks k ≡ Some block → All (λ s. has (clock_signals d) s ≡ false) (reads block.value)
unread_by_blocks d a k block at =
    let h = a.block_reads k block (slice_get_within d.blocks k block at) in
    All-weaker (λ s. is_readable d d.drivers s ≡ true) (λ s. has (clock_signals d) s ≡ false)
    (λ s readable. false_from_ne_true (has (clock_signals d) s) (λ clock. let free = clock_unreadable d a d.drivers s clock (λ target. target) in let clash : true ≡ false = sym readable ∙ free in cc))
    (reads block.value) (rw (get_or_from_slice_get d.blocks k block block at) at h)

-- inputs, targets and registers are different signals
pub input_not_target : (d : Netlist) → IsAccepted d → (i j : ℕ) → i < length d.inputs → j < length d.drivers → slice_index (input_signals d) i ≢ slice_index (targets d.drivers) j
input_not_target d a i j hi hj = apart_has (input_signals d) (slice_index (input_signals d) i) (slice_index (targets d.drivers) j) (is_input d i hi) (target_no_input d a j hj)

pub input_not_register : (d : Netlist) → IsAccepted d → (i n : ℕ) → i < length d.inputs → is_register d n ≡ true → slice_index (input_signals d) i ≢ n
input_not_register d a i n hi register = apart_has (input_signals d) (slice_index (input_signals d) i) n (is_input d i hi) (register_no_input d a n register)

pub target_not_register : (d : Netlist) → IsAccepted d → (j n : ℕ) → j < length d.drivers → is_register d n ≡ true → slice_index (targets d.drivers) j ≢ n
target_not_register d a j n hj register = apart_has (targets d.drivers) (slice_index (targets d.drivers) j) n (is_target d j hj) (register_no_target d a n register)

pub targets_apart : (d : Netlist) → IsAccepted d → (j k : ℕ) → j < length d.drivers → k < length d.drivers → j ≢ k → slice_index (targets d.drivers) j ≢ slice_index (targets d.drivers) k
targets_apart d a j k hj hk apart = apart_at (targets d.drivers) a.driven_once j k (rw length-map hj) (rw length-map hk) apart

pub assigned_apart : (d : Netlist) → IsAccepted d → (j k : ℕ) → j < length d.blocks → k < length d.blocks → j ≢ k → slice_index (assigned_registers d.blocks) j ≢ slice_index (assigned_registers d.blocks) k
assigned_apart d a j k hj hk apart = apart_at (assigned_registers d.blocks) a.assigned_once j k (rw length-map hj) (rw length-map hk) apart

pub item_of : {A : Type 0} (xs : List A) (k : ℕ) → k < length xs → (x : A) × (slice_get xs k ≡ Some x)
item_of [] k h = absurd (omega arith)
item_of (x ∷ xs) zero h = (x, refl)
item_of (x ∷ xs) (suc k) h = item_of xs k (omega arith)

pub same_item : {A : Type 0} (xs : List A) (j k : ℕ) (x y : A) → slice_get xs j ≡ Some x → slice_get xs k ≡ Some y → j ≡ k → x ≡ y
same_item xs j k x y at at' same = same_Some x y (sym at ∙ ap (slice_get xs) same ∙ at')
