-- What is stored before any step.
use Rattle.std.proofs.Common.{◌≡◌, ℕ, ◌+◌, ◌<◌, ◌||◌, ◌&&◌, zero, suc, Bool, true, false, List, [], ◌∷◌, ◌++◌, length, map, drop, get_or, replicate, arith, refl, ap, ◌∙◌, sym, append_assoc, if◌then◌else◌}
use Rattle.std.specs.List.{enumerate_from}
use Rattle.std.proofs.Math.Seq.{drop-cons}
use Rattle.std.proofs.lemmas.List.{length-replicate}
use Rattle.vod_bits.specs.Bit.{Bit, BX, BZ}
use Rattle.vod_bits.specs.Value.{bits_from, zip_with}
use Rattle.vod_four.specs.Four.{four_of}
use Rattle.vod_design.specs.declared.parts.Input.{Input}
use Rattle.vod_design.specs.declared.parts.Signal.{Signal}
use Rattle.vod_design.specs.Netlist.{Netlist}
use Rattle.vod_readers.specs.Readers.{has}
use Rattle.vod_slot.specs.State.{flag_at, first_value, is_input, input_signals}
use Rattle.vod_slot.proofs.Shaped.{IsShaped-start_of}
use Rattle.vod_cells.specs.Listening.{raised_at}
use Rattle.vod_cells.specs.Stored.{IsStoredOf, stored_first}
use Rattle.vod_cells.proofs.Raising.{flag_at-raised_at, length-raised_at}

pub stored_fits : (d : Netlist) → IsStoredOf d (stored_first d)
stored_fits d = let s = IsShaped-start_of d in record { sizes = s.sizes; memories = s.memories; wake = length-replicate (length d.drivers) true; started = length-replicate (length d.blocks) false }

-- the flags of the inputs
none_set : (count n : ℕ) → flag_at (replicate count false) n ≡ false
none_set zero n = refl
none_set (suc count) zero = refl
none_set (suc count) (suc n) = none_set count n

and-true : (b : Bool) → (b && true) ≡ b
and-true true = refl
and-true false = refl

flag_count : (count : ℕ) → length (replicate count false) ≡ count
flag_count count = length-replicate count false

pub input_flags_length : (count : ℕ) (inputs : List Input) (flags : List Bool) → flags ≡ raised_at (λ n. true) (replicate count false) (input_signals inputs) → length flags ≡ count
input_flags_length count inputs flags is = ap length is ∙ length-raised_at (λ n. true) (replicate count false) (input_signals inputs) ∙ flag_count count

input_flag : (count n : ℕ) (inputs : List Input) (flags : List Bool) → n < count → flags ≡ raised_at (λ n. true) (replicate count false) (input_signals inputs) → flag_at flags n ≡ is_input inputs n
input_flag count n inputs flags h is =
    ap (λ fs. flag_at fs n) is
    ∙ flag_at-raised_at (λ n. true) (replicate count false) (input_signals inputs) n (omega (arith, h, flag_count count))
    ∙ ap (λ b. b || (has (input_signals inputs) n && true)) (none_set count n)
    ∙ and-true (has (input_signals inputs) n)

-- the value of one more signal
pub first_step : (inputs : List Input) (signals : List Signal) (n : ℕ) (s : Signal) (values new whole : List (List Bit)) (x : List Bit) (flags : List Bool) (flag : Bool) → n < length signals → s ≡ get_or signals n s → flags ≡ raised_at (λ n. true) (replicate (length signals) false) (input_signals inputs) →
    flag ≡ flag_at flags n → x ≡ replicate s.width (if flag then BZ else BX) → new ≡ values ++ x ∷ [] → values ++ map (λ e. first_value inputs e.0 e.1) (enumerate_from n (drop n signals)) ≡ whole → new ++ map (λ e. first_value inputs e.0 e.1) (enumerate_from (n + 1) (drop (n + 1) signals)) ≡ whole
first_step inputs signals n s values new whole x flags flag h at are is_flag is more before =
    let rest = map (λ e. first_value inputs e.0 e.1) (enumerate_from (n + 1) (drop (n + 1) signals)) in
    let next : suc n ≡ n + 1 = omega arith in
    let opened : drop n signals ≡ s ∷ drop (n + 1) signals = drop-cons signals n s h ∙ ap (λ t. t ∷ drop (suc n) signals) (sym at) ∙ ap (λ k. s ∷ drop k signals) next in
    let one : x ≡ first_value inputs n s = is ∙ ap (λ b. replicate s.width (if b then BZ else BX)) (is_flag ∙ input_flag (length signals) n inputs flags h are) in
    ap (λ vs. vs ++ rest) more ∙ append_assoc values (x ∷ []) rest ∙ ap (λ y. values ++ (y ∷ rest)) one
    ∙ sym (ap (λ ss. values ++ map (λ e. first_value inputs e.0 e.1) (enumerate_from n ss)) opened) ∙ before

-- one bit of z
pub one_z : (t : Bool) → t ≡ true → four_of 1 1 1 ≡ (if t then BZ else BX) ∷ []
unfolding bits_from zip_with
one_z t is = rw is refl
