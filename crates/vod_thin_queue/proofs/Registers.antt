-- The module of the tests is an accepted design.
use Rattle.std.proofs.Common.{◌≡◌, ◌≢◌, ℕ, ◌<◌, ◌==◌, ◌&&◌, ◌||◌, zero, suc, Bool, true, false, not, List, [], ◌∷◌, length, map, take, get_or, arith, refl, ap, sym, subst, ◌∙◌, lit<, ltb, All, AllPairs, Some, IsTrue}
use Rattle.std.specs.List.{slice_get, list_all}
use Rattle.std.specs.List.Sorted.{IsStrictlyIncreasing}
use Rattle.std.proofs.lemmas.Bool.{and_parts, ne_eqb, not-true, ltb-true}
use Rattle.std.proofs.lemmas.List.{length-map}
use Rattle.std.proofs.lemmas.List.Elements.{All-nil, All-cons}
use Rattle.std.proofs.lemmas.Option.{same_Some}
use Rattle.vod_thin_design.specs.declared.thin.Bit.TheVariants.{Zero, One}
use Rattle.vod_thin_design.specs.declared.thin.Class.TheVariants.{Clock, Data}
use Rattle.vod_thin_design.specs.declared.thin.Expr.{Expr}
use Rattle.vod_thin_design.specs.declared.thin.Expr.TheVariants as e
use Rattle.vod_thin_design.specs.declared.thin.Signal.{Signal}
use Rattle.vod_thin_design.specs.declared.thin.Input.{Input}
use Rattle.vod_thin_design.specs.declared.thin.Driver.{Driver}
use Rattle.vod_thin_design.specs.declared.thin.Block.{Block}
use Rattle.vod_thin_design.specs.declared.thin.Initial.{Initial}
use Rattle.vod_thin_design.specs.Bits.{is_known}
use Rattle.vod_thin_design.specs.Expr.{reads}
use Rattle.vod_thin_design.specs.Netlist.{Netlist, IsAccepted, has, has_source, is_readable, is_register, input_signals, clock_signals, targets, assigned_registers, initial_registers}
use Rattle.vod_thin_queue.proofs.Has.{has-get_or}

abbrev pub inputs : List Input
inputs = (record { signal = 0; class = Clock }) ∷ (record { signal = 1; class = Data }) ∷ []

abbrev pub drivers : List Driver
drivers = (record { target = 2; value = e.Signal 3 }) ∷ []

abbrev pub block : ℕ → ℕ → Block
block register value = record { clock = 0; register = register; value = e.Signal value }

abbrev pub blocks : List Block
blocks = block 3 1 ∷ block 4 5 ∷ block 5 4 ∷ []

abbrev pub initials : List Initial
initials = (record { register = 3; value = Zero }) ∷ (record { register = 4; value = Zero }) ∷ (record { register = 5; value = One }) ∷ []

abbrev flags : List Signal → List Bool
flags signals = map (λ (signal : Signal). signal.register) signals

abbrev three_registers : List Bool
three_registers = false ∷ false ∷ false ∷ true ∷ true ∷ true ∷ []

abbrev design : List ℕ → List Signal → Netlist
design name signals = record { name = name; signals = signals; inputs = inputs; drivers = drivers; blocks = blocks; initials = initials }

-- facts that a test of each element computes
below_all : (n : ℕ) (ns : List ℕ) → list_all (λ m. ltb m n) ns ≡ true → All (λ m. m < n) ns
below_all n [] h = All-nil (λ m. m < n)
below_all n (m ∷ ns) h = let both = and_parts (ltb m n) (list_all (λ k. ltb k n) ns) h in All-cons (λ k. k < n) m ns (ltb-true m n both.0) (below_all n ns both.1)

passes_all : {A : Type 0} (test : A → Bool) (xs : List A) → list_all test xs ≡ true → All (λ x. test x ≡ true) xs
passes_all test [] h = All-nil (λ x. test x ≡ true)
passes_all test (x ∷ xs) h = let both = and_parts (test x) (list_all test xs) h in All-cons (λ y. test y ≡ true) x xs both.0 (passes_all test xs both.1)

fails_all : {A : Type 0} (test : A → Bool) (xs : List A) → list_all (λ x. not (test x)) xs ≡ true → All (λ x. test x ≡ false) xs
fails_all test [] h = All-nil (λ x. test x ≡ false)
fails_all test (x ∷ xs) h = let both = and_parts (not (test x)) (list_all (λ y. not (test y)) xs) h in All-cons (λ y. test y ≡ false) x xs (not-true (test x) both.0) (fails_all test xs both.1)

abbrev are_different : List ℕ → Bool
are_different [] = true
are_different (n ∷ ns) = not (has ns n) && are_different ns

different : (ns : List ℕ) → are_different ns ≡ true → AllPairs (λ m n. m ≢ n) ns
different [] h i j d lt within same = absurd (omega arith)
different (n ∷ ns) h zero zero d lt within same = absurd (omega arith)
different (n ∷ ns) h zero (suc j) d lt within same =
    let both = and_parts (not (has ns n)) (are_different ns) h in
    let is : has ns (get_or ns j d) ≡ true = has-get_or ns j d (omega arith) in
    let clash : false ≡ true = sym (not-true (has ns n) both.0) ∙ ap (has ns) same ∙ is in cc
different (n ∷ ns) h (suc i) zero d lt within same = absurd (omega arith)
different (n ∷ ns) h (suc i) (suc j) d lt within same = different ns (and_parts (not (has ns n)) (are_different ns) h).1 i j d (omega arith) (omega arith) same

inputs_rise : IsStrictlyIncreasing (0 ∷ 1 ∷ [])
inputs_rise zero h = lit< tt
inputs_rise (suc k) h = absurd (omega arith)

initials_rise : IsStrictlyIncreasing (3 ∷ 4 ∷ 5 ∷ [])
initials_rise zero h = lit< tt
initials_rise (suc zero) h = lit< tt
initials_rise (suc (suc k)) h = absurd (omega arith)

is_sourced : (name : List ℕ) (signals : List Signal) → flags signals ≡ three_registers → (s : ℕ) → s < 6 → IsTrue (has_source (design name signals) drivers s)
is_sourced name signals same zero h = refl
is_sourced name signals same (suc zero) h = refl
is_sourced name signals same (suc (suc zero)) h = rw same refl
is_sourced name signals same (suc (suc (suc zero))) h = rw same refl
is_sourced name signals same (suc (suc (suc (suc zero)))) h = rw same refl
is_sourced name signals same (suc (suc (suc (suc (suc zero))))) h = rw same refl
is_sourced name signals same (suc (suc (suc (suc (suc (suc s)))))) h = absurd (omega arith)

has_initial : (name : List ℕ) (signals : List Signal) → flags signals ≡ three_registers → (s : ℕ) → is_register (design name signals) s ≡ has (3 ∷ 4 ∷ 5 ∷ []) s
has_initial name signals same zero = rw same refl
has_initial name signals same (suc zero) = rw same refl
has_initial name signals same (suc (suc zero)) = rw same refl
has_initial name signals same (suc (suc (suc zero))) = rw same refl
has_initial name signals same (suc (suc (suc (suc zero)))) = rw same refl
has_initial name signals same (suc (suc (suc (suc (suc zero))))) = rw same refl
has_initial name signals same (suc (suc (suc (suc (suc (suc s)))))) =
    let three : (3 == suc (suc (suc (suc (suc (suc s)))))) ≡ false = ne_eqb 3 (suc (suc (suc (suc (suc (suc s)))))) (λ h. omega arith) in
    let four : (4 == suc (suc (suc (suc (suc (suc s)))))) ≡ false = ne_eqb 4 (suc (suc (suc (suc (suc (suc s)))))) (λ h. omega arith) in
    let five : (5 == suc (suc (suc (suc (suc (suc s)))))) ≡ false = ne_eqb 5 (suc (suc (suc (suc (suc (suc s)))))) (λ h. omega arith) in
    rw (same, three, four, five) refl

one_read : (P : ℕ → Type 0) (s : ℕ) → reads (e.Signal s) ≡ s ∷ [] → P s → All P (reads (e.Signal s))
one_read P s is p = rw is (All-cons P s [] p (All-nil P))

is_ranked : (name : List ℕ) (signals : List Signal) → flags signals ≡ three_registers → ((s : ℕ) → reads (e.Signal s) ≡ s ∷ []) → (j : ℕ) (driver : Driver) → slice_get drivers j ≡ Some driver → All (λ s. IsTrue (is_readable (design name signals) (take j drivers) s)) (reads driver.value)
is_ranked name signals same read zero driver at =
    subst (λ (r : Driver). All (λ s. IsTrue (is_readable (design name signals) [] s)) (reads r.value)) (same_Some (record { target = 2; value = e.Signal 3 }) driver at)
    (one_read (λ s. IsTrue (is_readable (design name signals) [] s)) 3 (read 3) (rw same refl))
is_ranked name signals same read (suc j) driver at = absurd (cc)

blocks_read : (name : List ℕ) (signals : List Signal) → flags signals ≡ three_registers → ((s : ℕ) → reads (e.Signal s) ≡ s ∷ []) → All (λ (b : Block). All (λ s. IsTrue (is_readable (design name signals) drivers s)) (reads b.value)) blocks
blocks_read name signals same read =
    let R : ℕ → Type 0 = λ s. IsTrue (is_readable (design name signals) drivers s) in
    let P : Block → Type 0 = λ (b : Block). All R (reads b.value) in
    All-cons P (block 3 1) (block 4 5 ∷ block 5 4 ∷ []) (one_read R 1 (read 1) refl)
    (All-cons P (block 4 5) (block 5 4 ∷ []) (one_read R 5 (read 5) (rw same refl))
    (All-cons P (block 5 4) [] (one_read R 4 (read 4) (rw same refl)) (All-nil P)))

pub six_signals : (signals : List Signal) → flags signals ≡ three_registers → length signals ≡ 6
six_signals signals same = sym (length-map signals (λ (signal : Signal). signal.register)) ∙ ap length same

registers_accepted : (name : List ℕ) (signals : List Signal) → flags signals ≡ three_registers → ((s : ℕ) → reads (e.Signal s) ≡ s ∷ []) → IsAccepted (design name signals)
registers_accepted name signals same read =
    let six = six_signals signals same in
    record {
      few_signals = rw six (lit< tt);
      few_drivers = lit< tt;
      few_blocks = lit< tt;
      inputs_rise = inputs_rise;
      inputs_within = rw six (below_all 6 (0 ∷ 1 ∷ []) refl);
      inputs_kept = fails_all (λ s. is_register (design name signals) s) (0 ∷ 1 ∷ []) (rw same refl);
      targets_within = rw six (below_all 6 (2 ∷ []) refl);
      targets_kept = fails_all (λ s. is_register (design name signals) s) (2 ∷ []) (rw same refl);
      inputs_undriven = fails_all (λ s. has (0 ∷ 1 ∷ []) s) (2 ∷ []) refl;
      driven_once = different (2 ∷ []) refl;
      sourced = λ s h. is_sourced name signals same s (rw (← six) h);
      ranked = is_ranked name signals same read;
      clocked = passes_all (λ (b : Block). has (0 ∷ []) b.clock) blocks refl;
      block_reads = blocks_read name signals same read;
      assigns_registers = passes_all (λ s. is_register (design name signals) s) (3 ∷ 4 ∷ 5 ∷ []) (rw same refl);
      assigned_once = different (3 ∷ 4 ∷ 5 ∷ []) refl;
      initials_rise = initials_rise;
      initial = has_initial name signals same;
      initials_known = passes_all (λ (initial : Initial). is_known initial.value) initials refl;
    }

pub accepted_from : (name : List ℕ) (signals : List Signal) (is : List Input) (ds : List Driver) (bs : List Block) (ms : List Initial) → flags signals ≡ three_registers → is ≡ inputs → ds ≡ drivers → bs ≡ blocks → ms ≡ initials → ((s : ℕ) → reads (e.Signal s) ≡ s ∷ []) →
    IsAccepted (record { name = name; signals = signals; inputs = is; drivers = ds; blocks = bs; initials = ms })
accepted_from name signals is ds bs ms same same_inputs same_drivers same_blocks same_initials read = rw (same_inputs, same_drivers, same_blocks, same_initials) (registers_accepted name signals same read)
