-- No driver reads what it, or a later one, drives.
use Rattle.std.proofs.Common.{◌≡◌, ◌≢◌, ℕ, ◌<◌, ◌≤◌, true, false, List, length, take, get_or, arith, sym, ◌∙◌, ⊎_elim, AllPairs, Some, slice_index}
use Rattle.std.proofs.lemmas.Bool.{false_from_ne_true}
use Rattle.std.proofs.lemmas.List.{take-map, get_or-take, length-take-le, length-map}
use Rattle.vod_thin_design.specs.declared.thin.Driver.{Driver}
use Rattle.vod_thin_design.specs.Expr.{reads}
use Rattle.vod_thin_design.specs.Netlist.{Netlist, IsAccepted, has, is_readable, targets}
use Rattle.vod_thin_queue.specs.Step.{reads_signal}
use Rattle.vod_thin_queue.specs.Index.{passes_at}
use Rattle.vod_thin_queue.proofs.Has.{All-has}
use Rattle.vod_thin_queue.proofs.Raised.{item_at}
use Rattle.vod_thin_queue.proofs.Accepted.{place_of, readable_cases, data_is_input, register_no_target, is_target, target_no_input}

no_earlier_target : (ns : List ℕ) (j k : ℕ) → AllPairs (λ m n. m ≢ n) ns → j < length ns → k ≤ j → has (take k ns) (get_or ns j 0) ≡ true → ⊥
no_earlier_target ns j k once h le has_it =
    let p = place_of (take k ns) (get_or ns j 0) has_it in
    let len : length (take k ns) ≡ k = length-take-le k ns (omega arith) in
    let below : p.0 < k = (let l = p.1 in omega arith) in
    once p.0 j 0 (omega arith) h (sym (get_or-take k ns p.0 0 below) ∙ p.2)

-- driver k doesn't read the target of driver j, which is k or stands behind it
pub reads_no_later_target : (d : Netlist) → IsAccepted d → (j k : ℕ) → j < length d.drivers → k ≤ j → passes_at (reads_signal (slice_index (targets d.drivers) j)) d.drivers k ≡ false
reads_no_later_target d a j k h le =
    let s = slice_index (targets d.drivers) j in
    false_from_ne_true (passes_at (reads_signal s) d.drivers k)
    (λ reads_it. let r = item_at (reads_signal s) d.drivers k reads_it in
    let readable = All-has (λ n. is_readable d (take k d.drivers) n ≡ true) (reads r.0.value) s (a.ranked k r.0 r.1) r.2 in
    ⊎_elim
    (λ input. let clash : true ≡ false = sym (data_is_input d s input) ∙ target_no_input d a j h in cc)
    (λ rest. ⊎_elim
    (λ register. let clash : true ≡ false = sym (is_target d j h) ∙ register_no_target d a s register in cc)
    (λ target. no_earlier_target (targets d.drivers) j k a.driven_once (rw length-map h) le (rw (take-map (λ (driver : Driver). driver.target) k d.drivers) target))
    rest)
    (readable_cases d (take k d.drivers) s readable))
