-- Where each driver's target has its right side's value, the values of inputs and registers decide all others.
use Rattle.std.proofs.Common.{◌≡◌, ◌⊎◌, ℕ, ◌+◌, ◌<◌, ◌==◌, ◌||◌, inl, inr, zero, suc, true, false, List, [], ◌∷◌, ◌++◌, length, take, arith, ap, sym, ◌∙◌, subst, ⊎_elim, Some}
use Rattle.std.specs.List.{slice_get}
use Rattle.std.proofs.lemmas.Bool.{cases_lt, or_cases, eqb-true}
use Rattle.std.proofs.lemmas.List.{take_more, take_all, map-append}
use Rattle.std.proofs.lemmas.List.Elements.{All-weaker}
use Rattle.std.proofs.lemmas.Option.{get_or_from_slice_get}
use Rattle.vod_thin_design.specs.declared.thin.Bit.{Bit}
use Rattle.vod_thin_design.specs.declared.thin.Driver.{Driver}
use Rattle.vod_thin_design.specs.Expr.{value_of, reads}
use Rattle.vod_thin_design.specs.Netlist.{Netlist, IsAccepted, has, is_readable, is_register, input_signals, targets}
use Rattle.vod_thin_queue.proofs.Accepted.{item_of, readable_cases, data_is_input}
use Rattle.vod_thin_queue.proofs.Due.{HangsOnReads}
use Rattle.vod_thin_queue.proofs.Has.{has-push}

-- these values are those of the right sides
abbrev pub AreSettled : Netlist → (ℕ → Bit) → Type 0
AreSettled d values = (j : ℕ) (driver : Driver) → slice_get d.drivers j ≡ Some driver → values driver.target ≡ value_of driver.value values

targets-push : (drivers : List Driver) (driver : Driver) (s : ℕ) → has (targets (drivers ++ driver ∷ [])) s ≡ true → (has (targets drivers) s ≡ true) ⊎ (driver.target ≡ s)
targets-push drivers driver s h =
    let e : has (targets drivers ++ driver.target ∷ []) s ≡ true = rw (← map-append (λ (r : Driver). r.target) drivers (driver ∷ [])) h in
    ⊎_elim (λ before. inl before) (λ here. inr (eqb-true driver.target s here)) (or_cases (has (targets drivers) s) (driver.target == s) (sym (has-push (targets drivers) driver.target s) ∙ e))

-- two lists of values that agree on inputs and registers
pub record AgreeFirst (d : Netlist) (u v : ℕ → Bit) : Type 0 where
  pub inputs : (s : ℕ) → has (input_signals d) s ≡ true → u s ≡ v s
  pub registers : (s : ℕ) → is_register d s ≡ true → u s ≡ v s

-- agree on what the first drivers drive
same_targets : (hangs : HangsOnReads) (d : Netlist) (u v : ℕ → Bit) → IsAccepted d → AreSettled d u → AreSettled d v → AgreeFirst d u v → (j s : ℕ) → has (targets (take j d.drivers)) s ≡ true → u s ≡ v s
same_targets hangs d u v a settled settled' first zero s target = absurd (cc)
same_targets hangs d u v a settled settled' first (suc j) s target =
    ⊎_elim
    (λ lt. let p = item_of d.drivers j lt in
    let e : take (j + 1) d.drivers ≡ take j d.drivers ++ p.0 ∷ [] = take_more d.drivers j p.0 lt ∙ ap (λ r. take j d.drivers ++ r ∷ []) (get_or_from_slice_get d.drivers j p.0 p.0 p.1) in
    let next : suc j ≡ j + 1 = omega arith in
    ⊎_elim
    (λ before. same_targets hangs d u v a settled settled' first j s before)
    (λ here. subst (λ n. u n ≡ v n) here
    (settled j p.0 p.1
    ∙ hangs p.0.value u v (All-weaker (λ n. is_readable d (take j d.drivers) n ≡ true) (λ n. u n ≡ v n)
    (λ n readable. ⊎_elim (λ input. first.inputs n (data_is_input d n input)) (λ rest. ⊎_elim (λ register. first.registers n register) (λ before. same_targets hangs d u v a settled settled' first j n before) rest) (readable_cases d (take j d.drivers) n readable))
    (reads p.0.value) (a.ranked j p.0 p.1))
    ∙ sym (settled' j p.0 p.1)))
    (targets-push (take j d.drivers) p.0 s (rw (← e, ← next) target)))
    (λ ge. let e : take (suc j) d.drivers ≡ take j d.drivers = take_all (suc j) d.drivers (omega arith) ∙ sym (take_all j d.drivers ge) in
    same_targets hangs d u v a settled settled' first j s (rw (← e) target))
    (cases_lt j (length d.drivers))

-- so they agree on each signal
pub same_values : (hangs : HangsOnReads) (d : Netlist) (u v : ℕ → Bit) → IsAccepted d → AreSettled d u → AreSettled d v → AgreeFirst d u v → (s : ℕ) → s < length d.signals → u s ≡ v s
same_values hangs d u v a settled settled' first s h =
    let all = take_all (length d.drivers) d.drivers (omega arith) in
    ⊎_elim
    (λ rest. ⊎_elim (λ input. first.inputs s input) (λ register. first.registers s register) (or_cases (has (input_signals d) s) (is_register d s) rest))
    (λ target. same_targets hangs d u v a settled settled' first (length d.drivers) s (rw all target))
    (or_cases (has (input_signals d) s || is_register d s) (has (targets d.drivers) s) (a.sourced s h))
