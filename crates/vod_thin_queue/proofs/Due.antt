-- What each event keeps of each driver: it awaits evaluation, or has its pending value, or its target has its value.
use Rattle.std.proofs.Common.{◌≡◌, ◌≢◌, ℕ, ◌<◌, ◌==◌, ◌⊎◌, zero, suc, not, Bool, true, false, List, [], ◌∷◌, length, get_or, set, drop, refl, ap, sym, subst, ◌∙◌, inl, inr, ⊎_elim, All, Option, Some, None, is_some, unwrap_or, IsTrue, slice_index, slice_index_or, eq-eqb, get_or-set_same, get_or-set_other, if◌then◌else◌}
use Rattle.std.specs.List.{slice_get}
use Rattle.std.proofs.lemmas.Bool.{cases_Bool, cases_eq, or_right}
use Rattle.std.proofs.lemmas.List.{set-get_or}
use Rattle.std.proofs.lemmas.List.Folds.{list_any_at}
use Rattle.std.proofs.lemmas.Option.{slice_get_within}
use Rattle.vod_thin_design.specs.declared.thin.Bit.{Bit}
use Rattle.vod_thin_design.specs.declared.thin.Bit.TheVariants.{Zero, One, X, Z}
use Rattle.vod_thin_design.specs.declared.thin.Expr.{Expr}
use Rattle.vod_thin_design.specs.declared.thin.Driver.{Driver}
use Rattle.vod_thin_design.specs.declared.thin.Block.{Block}
use Rattle.vod_thin_design.specs.Bits.{value_at, same_bit}
use Rattle.vod_thin_design.specs.Expr.{value_of, reads}
use Rattle.vod_thin_design.specs.Netlist.{Netlist, IsAccepted, has, targets, input_signals, assigned_registers, initial_registers}
use Rattle.vod_thin_queue.specs.declared.event.Event.TheVariants.{TakeMove, Evaluate, Update, Run, Initialize, Activate, Perform}
use Rattle.vod_thin_queue.specs.State.{State, option_at, flag_at, list_at, IsShaped}
use Rattle.vod_thin_queue.specs.Step.{Event, is_allowed, after, put, raised_if, pending, evaluated, ran, initial_values, reads_signal}
use Rattle.vod_thin_queue.specs.Index.{passes_at}
use Rattle.vod_thin_queue.proofs.Accepted.{field_at, item_of, same_item, target_within, targets_apart, input_not_target, target_not_register, assigned_is_register, initial_is_register}
use Rattle.vod_thin_queue.proofs.Orderly.{some_within, filled_within}
use Rattle.vod_thin_queue.proofs.Raised.{flag_at-raised, flag_at-raised_if, flag_within, passes_at-at}

-- an expression's value hangs on what it reads alone, as `value_hangs_on_reads` of the designs says
abbrev pub HangsOnReads : Type 0
HangsOnReads = (e : Expr) (u v : ℕ → Bit) → All (λ s. u s ≡ v s) (reads e) → value_of e u ≡ value_of e v

pub target_at : (d : Netlist) (j : ℕ) (driver : Driver) → slice_get d.drivers j ≡ Some driver → slice_index (targets d.drivers) j ≡ driver.target
target_at d j driver at = field_at (λ (r : Driver). r.target) d.drivers j driver at

-- the driver awaits evaluation, or its pending value is its right side's value, or it has none and its target has that value
abbrev pub IsDue : Bool → Option Bit → Bit → Bit → Type 0
IsDue true value new old = Unit {0}
IsDue false None new old = old ≡ new
IsDue false (Some b) new old = b ≡ new

-- so it is with a driver in a state
abbrev pub IsDueIn : State → ℕ → Driver → Type 0
IsDueIn s j driver = IsDue (flag_at s.wake j) (option_at s.pend j) (value_of driver.value (value_at s.val)) (value_at s.val driver.target)

-- and with each driver
abbrev pub AreDue : Netlist → State → Type 0
AreDue d s = (j : ℕ) (driver : Driver) → slice_get d.drivers j ≡ Some driver → IsDueIn s j driver

pub same_bit-true : (a b : Bit) → same_bit a b ≡ true → a ≡ b
same_bit-true Zero Zero h = refl
same_bit-true Zero One h = cc
same_bit-true Zero X h = cc
same_bit-true Zero Z h = cc
same_bit-true One Zero h = cc
same_bit-true One One h = refl
same_bit-true One X h = cc
same_bit-true One Z h = cc
same_bit-true X Zero h = cc
same_bit-true X One h = cc
same_bit-true X X h = refl
same_bit-true X Z h = cc
same_bit-true Z Zero h = cc
same_bit-true Z One h = cc
same_bit-true Z X h = cc
same_bit-true Z Z h = refl

pub same_itself : (b : Bit) → same_bit b b ≡ true
same_itself Zero = refl
same_itself One = refl
same_itself X = refl
same_itself Z = refl

-- a driver that still awaits evaluation, or whose values are unchanged, stays due
IsDue-kept : (flag flag' : Bool) (value : Option Bit) (new new' old old' : Bit) → (flag ≡ true → flag' ≡ true) → (flag' ≡ true) ⊎ (new' ≡ new) → old' ≡ old → IsDue flag value new old → IsDue flag' value new' old'
IsDue-kept flag true value new new' old old' rises either same due = tt
IsDue-kept true false value new new' old old' rises either same due = absurd (let h = rises refl in cc)
IsDue-kept false false None new new' old old' rises either same due = same ∙ due ∙ ⊎_elim (λ h. cc) (λ e. sym e) either
IsDue-kept false false (Some b) new new' old old' rises either same due = due ∙ ⊎_elim (λ h. cc) (λ e. sym e) either

-- a driver whose pending value became its target's value
IsDue-performed : (flag flag' : Bool) (b new new' old old' : Bit) → (flag ≡ true → flag' ≡ true) → (flag' ≡ true) ⊎ (new' ≡ new) → old' ≡ b → IsDue flag (Some b) new old → IsDue flag' None new' old'
IsDue-performed flag true b new new' old old' rises either same due = tt
IsDue-performed true false b new new' old old' rises either same due = absurd (let h = rises refl in cc)
IsDue-performed false false b new new' old old' rises either same due = same ∙ due ∙ ⊎_elim (λ h. cc) (λ e. sym e) either

IsDue-pending_by : (same : Bool) (new old : Bit) → same_bit new old ≡ same → IsDue false (if same then None else Some new) new old
IsDue-pending_by true new old h = sym (same_bit-true new old h)
IsDue-pending_by false new old h = refl

-- an evaluated driver
pub IsDue-pending : (new old : Bit) → IsDue false (pending new old) new old
IsDue-pending new old = IsDue-pending_by (same_bit new old) new old refl

pub set-same_bit : (val : List Bit) (s : ℕ) (b : Bit) → same_bit (value_at val s) b ≡ true → set val s b ≡ val
set-same_bit val s b h = let e = same_bit-true (value_at val s) b h in ap (set val s) (sym e) ∙ set-get_or val s X

not_among : (ns : List ℕ) (s : ℕ) → has ns s ≡ false → All (λ n. n ≢ s) ns
not_among ns s h k e l same = let is = list_any_at (λ n. n == s) ns k e l (eq-eqb (get_or ns k e) s same) in cc

-- a value that the right side doesn't read leaves its value unchanged
value_of-unread : (hangs : HangsOnReads) (driver : Driver) (val : List Bit) (s : ℕ) (b : Bit) → has (reads driver.value) s ≡ false → value_of driver.value (value_at (set val s b)) ≡ value_of driver.value (value_at val)
value_of-unread hangs driver val s b h =
    hangs driver.value (value_at (set val s b)) (value_at val)
    (λ k e l. get_or-set_other val s (get_or (reads driver.value) k e) b X (not_among (reads driver.value) s h k e l))

-- after a signal was put, the driver is awake, or its right side has the value that it had
put_value : (hangs : HangsOnReads) (same : Bool) (drivers : List Driver) (s : ℕ) (b : Bit) (val : List Bit) (wake : List Bool) (j : ℕ) (driver : Driver) → same_bit (value_at val s) b ≡ same → slice_get drivers j ≡ Some driver → length wake ≡ length drivers →
    (flag_at (raised_if (not same) (reads_signal s) drivers wake) j ≡ true) ⊎ (value_of driver.value (value_at (set val s b)) ≡ value_of driver.value (value_at val))
put_value hangs true drivers s b val wake j driver is at len = inr (ap (λ v. value_of driver.value (value_at v)) (set-same_bit val s b is))
put_value hangs false drivers s b val wake j driver is at len =
    let within : j < length wake = rw len (slice_get_within drivers j driver at) in
    ⊎_elim (λ read. inl (flag_at-raised (reads_signal s) drivers wake j within ∙ or_right (flag_at wake j) (passes_at (reads_signal s) drivers j) (passes_at-at (reads_signal s) drivers j driver at ∙ read)))
    (λ free. inr (value_of-unread hangs driver val s b free)) (cases_Bool (has (reads driver.value) s))

-- a driver of another target, whose pending value is as it was
pub IsDueIn-put : (hangs : HangsOnReads) (d : Netlist) (s : ℕ) (b : Bit) (st now : State) (j : ℕ) (driver : Driver) → IsShaped d st → slice_get d.drivers j ≡ Some driver → driver.target ≢ s → now.val ≡ st.val → now.wake ≡ st.wake → option_at now.pend j ≡ option_at st.pend j →
    IsDueIn st j driver → IsDueIn (put d s b now) j driver
IsDueIn-put hangs d s b st now j driver shaped at apart val wake pend due =
    let within : j < length st.wake = rw shaped.wake (slice_get_within d.drivers j driver at) in
    let test = not (same_bit (value_at st.val s) b) in
    rw (val, wake, pend)
    (IsDue-kept (flag_at st.wake j) (flag_at (raised_if test (reads_signal s) d.drivers st.wake) j) (option_at st.pend j) (value_of driver.value (value_at st.val)) (value_of driver.value (value_at (set st.val s b)))
    (value_at st.val driver.target) (value_at (set st.val s b) driver.target)
    (flag_at-raised_if test (reads_signal s) d.drivers st.wake j within)
    (put_value hangs (same_bit (value_at st.val s) b) d.drivers s b st.val st.wake j driver refl at shaped.wake)
    (get_or-set_other st.val s driver.target b X apart) due)

-- the driver whose pending value was performed
pub IsDueIn-performed : (hangs : HangsOnReads) (d : Netlist) (b : Bit) (st now : State) (j : ℕ) (driver : Driver) → IsShaped d st → slice_get d.drivers j ≡ Some driver → driver.target < length st.val → now.val ≡ st.val → now.wake ≡ st.wake → option_at st.pend j ≡ Some b → option_at now.pend j ≡ None →
    IsDueIn st j driver → IsDueIn (put d driver.target b now) j driver
IsDueIn-performed hangs d b st now j driver shaped at target val wake some none due =
    let within : j < length st.wake = rw shaped.wake (slice_get_within d.drivers j driver at) in
    let test = not (same_bit (value_at st.val driver.target) b) in
    let due' : IsDue (flag_at st.wake j) (Some b) (value_of driver.value (value_at st.val)) (value_at st.val driver.target) = rw some at due in
    rw (val, wake, none)
    (IsDue-performed (flag_at st.wake j) (flag_at (raised_if test (reads_signal driver.target) d.drivers st.wake) j) b (value_of driver.value (value_at st.val)) (value_of driver.value (value_at (set st.val driver.target b)))
    (value_at st.val driver.target) (value_at (set st.val driver.target b) driver.target)
    (flag_at-raised_if test (reads_signal driver.target) d.drivers st.wake j within)
    (put_value hangs (same_bit (value_at st.val driver.target) b) d.drivers driver.target b st.val st.wake j driver refl at shaped.wake)
    (get_or-set_same st.val driver.target b X target) due')

AreDue-evaluated : (d : Netlist) (j : ℕ) (driver : Driver) (s : State) → IsShaped d s → slice_get d.drivers j ≡ Some driver → AreDue d s → AreDue d (evaluated j (Some driver) s)
AreDue-evaluated d j driver s shaped at due k other at' =
    let within = slice_get_within d.drivers j driver at in
    let in_wake : j < length s.wake = rw shaped.wake within in
    let in_pend : j < length s.pend = rw shaped.pend within in
    let new = value_of driver.value (value_at s.val) in
    let old = value_at s.val driver.target in
    ⊎_elim
    (λ same. let e = same_item d.drivers k j other driver at' at same in
    subst (λ n. IsDueIn (evaluated j (Some driver) s) n other) (sym same)
    (subst (λ r. IsDueIn (evaluated j (Some driver) s) j r) (sym e)
    (let flag : flag_at (set s.wake j false) j ≡ false = get_or-set_same s.wake j false false in_wake in
    let value : option_at (set s.pend j (pending new old)) j ≡ pending new old = get_or-set_same s.pend j (pending new old) None in_pend in
    rw (flag, value) (IsDue-pending new old))))
    (λ apart. let flag : flag_at (set s.wake j false) k ≡ flag_at s.wake k = get_or-set_other s.wake j k false false apart in
    let value : option_at (set s.pend j (pending new old)) k ≡ option_at s.pend k = get_or-set_other s.pend j k (pending new old) None apart in
    rw (flag, value) (due k other at'))
    (cases_eq k j)

AreDue-ran : (d : Netlist) (k : ℕ) (block : Option Block) (s : State) → AreDue d s → AreDue d (ran k block s)
AreDue-ran d k None s due = due
AreDue-ran d k (Some block) s due = due

some_of : (o : Option Bit) → is_some o ≡ true → o ≡ Some (unwrap_or o X)
some_of None h = cc
some_of (Some b) h = refl

-- each event keeps the drivers due
pub AreDue-after : (hangs : HangsOnReads) (d : Netlist) (s : State) (event : Event) → IsAccepted d → IsShaped d s → IsTrue (is_allowed s event) → AreDue d s → AreDue d (after d s event)
AreDue-after hangs d s (TakeMove i) a shaped allowed due k other at =
    let h : i < length d.inputs = rw (← shaped.moves) (some_within s.moves i allowed) in
    IsDueIn-put hangs d (slice_index (input_signals d) i) (unwrap_or (option_at s.moves i) X) s (record s { moves = set s.moves i None }) k other shaped at
    (λ same. input_not_target d a i k h (slice_get_within d.drivers k other at) (sym same ∙ sym (target_at d k other at))) refl refl refl (due k other at)
AreDue-after hangs d s (Evaluate j) a shaped allowed due k other at =
    let h : j < length d.drivers = rw (← shaped.wake) (flag_within s.wake j allowed) in
    let p = item_of d.drivers j h in
    let all : AreDue d (evaluated j (Some p.0) s) = AreDue-evaluated d j p.0 s shaped p.1 due in
    rw p.1 (all k other at)
AreDue-after hangs d s (Update j) a shaped allowed due k other at =
    let within : j < length s.pend = some_within s.pend j allowed in
    let h : j < length d.drivers = rw (← shaped.pend) within in
    let p = item_of d.drivers j h in
    let b = unwrap_or (option_at s.pend j) X in
    let now : State = record s { pend = set s.pend j None } in
    rw (target_at d j p.0 p.1)
    (⊎_elim
    (λ same. let e = same_item d.drivers k j other p.0 at p.1 same in
    subst (λ n. IsDueIn (put d p.0.target b now) n other) (sym same)
    (subst (λ r. IsDueIn (put d p.0.target b now) j r) (sym e)
    (IsDueIn-performed hangs d b s now j p.0 shaped p.1 (rw (shaped.val, ← target_at d j p.0 p.1) (target_within d a j h)) refl refl (some_of (option_at s.pend j) allowed) (get_or-set_same s.pend j None None within) (due j p.0 p.1))))
    (λ apart. IsDueIn-put hangs d p.0.target b s now k other shaped at
    (λ same. targets_apart d a k j (slice_get_within d.drivers k other at) h apart (target_at d k other at ∙ same ∙ sym (target_at d j p.0 p.1)))
    refl refl (get_or-set_other s.pend j k None None apart) (due k other at))
    (cases_eq k j))
AreDue-after hangs d s (Run k) a shaped allowed due n other at = AreDue-ran d k (slice_get d.blocks k) s due n other at
AreDue-after hangs d s (Initialize m) a shaped allowed due k other at =
    let register = initial_is_register d a m (rw (← shaped.init) (flag_within s.init m allowed)) in
    let signal = slice_index (initial_registers d.initials) m in
    IsDueIn-put hangs d signal (slice_index_or (initial_values d.initials) m X) s (record s { init = set s.init m false }) k other shaped at
    (λ same. target_not_register d a k signal (slice_get_within d.drivers k other at) register (target_at d k other at ∙ same)) refl refl refl (due k other at)
AreDue-after hangs d s Activate a shaped allowed due n other at = due n other at
AreDue-after hangs d s (Perform j) a shaped allowed due k other at =
    let register = assigned_is_register d a j (rw (← shaped.now) (filled_within s.now j allowed)) in
    let signal = slice_index (assigned_registers d.blocks) j in
    IsDueIn-put hangs d signal (slice_index_or (list_at s.now j) 0 X) s (record s { now = set s.now j (drop 1 (list_at s.now j)) }) k other shaped at
    (λ same. target_not_register d a k signal (slice_get_within d.drivers k other at) register (target_at d k other at ∙ same)) refl refl refl (due k other at)
