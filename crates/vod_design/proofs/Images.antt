-- What fits a design.
use Rattle.std.proofs.Common.{◌≡◌, ℕ, zero, suc, ◌+◌, ◌*◌, ◌/◌, ◌^◌, ◌<◌, ◌≤◌, nat_eq, nat_lt, nat_le, ◌==◌, Bool, true, false, ◌&&◌, List, [], ◌∷◌, ◌++◌, get_or, length, drop, replicate, refl, sym, subst, ◌∙◌, ap, arith, inl, inr, add-one, drop-cons, length-append}
use Rattle.std.specs.List.{list_all}
use Rattle.std.proofs.Math.Bool.{and_assoc}
use Rattle.std.proofs.Math.Nat.{div-eq_of_lt, lt-div-mul-add}
use Rattle.std.proofs.Math.ListN.{drop_of_length-le}
use Rattle.std.proofs.lemmas.Bool.{ltb_from_iff, lt-ltb}
use Rattle.std.proofs.lemmas.Bool.Decides.{eqb_tells}
use Rattle.std.proofs.lemmas.List.{drop-drop, length-replicate, length-map}
use Rattle.std.proofs.lemmas.Nat.{pow_pos}
use Rattle.vod_design.specs.declared.parts.Ram.{Ram}
use Rattle.vod_design.specs.Image.{starts_below, start_below, are_below, are_edges, word_widths, data_widths, data_inputs, register_widths, edge_inputs, fits, blank}
use Rattle.vod_design.specs.Netlist.{Netlist, signal_width, words_in}

-- a number has a width where nothing is left behind it
pub width_test : (n w : ℕ) → nat_eq (n / 2 ^ w) 0 ≡ nat_lt n (2 ^ w)
width_test n w =
    let large : n < n / 2 ^ w * 2 ^ w + 2 ^ w = lt-div-mul-add (pow_pos w) in
    ltb_from_iff (
      (λ t. elim (eqb_tells (n / 2 ^ w) 0) [
        | inl e ↦ (let bound : n < 0 * 2 ^ w + 2 ^ w = subst (λ q. n < q * 2 ^ w + 2 ^ w) e.1 large in omega arith)
        | inr e ↦ absurd (cc)
      ]),
      (λ lt. let none : n / 2 ^ w ≡ 0 = div-eq_of_lt lt in rw none refl),
    )

-- an element that a loop has come to
pub drop_item : {A : Type 0} (xs : List A) (i : ℕ) (x : A) → x ≡ get_or xs i x → i < length xs → drop i xs ≡ x ∷ drop (i + 1) xs
drop_item xs i x is h = rw add-one (drop-cons xs i x h ∙ ap (λ y. y ∷ drop (suc i) xs) (sym is))

pub drop_past : {A : Type 0} (i : ℕ) (xs : List A) → length xs ≤ i → drop i xs ≡ []
drop_past i xs h = drop_of_length-le xs h

-- a test more of a conjunction
pub and_more : (a b c : Bool) → ((a && b) && c) ≡ (a && (b && c))
and_more a b c = and_assoc a b c

pub and_true : (a : Bool) → (a && true) ≡ a
and_true true = refl
and_true false = refl

drop_one : {A : Type 0} (k : ℕ) (xs : List A) → drop k (drop 1 xs) ≡ drop (suc k) xs
drop_one {A} k [] = let none : List A = [] in drop_past k none (omega arith) ∙ sym (drop_past (suc k) none (omega arith))
drop_one k (x ∷ xs) = refl

-- numbers of one width in front of others
front_first : (ns : List ℕ) (k w : ℕ) → start_below ns (suc k) w ≡ (starts_below ns w && start_below (drop 1 ns) k w)
front_first ns zero w = sym (and_true (starts_below ns w))
front_first ns (suc k) w =
    ap (λ b. b && starts_below (drop (suc k) ns) w) (front_first ns k w)
    ∙ and_assoc (starts_below ns w) (start_below (drop 1 ns) k w) (starts_below (drop (suc k) ns) w)
    ∙ ap (λ (ms : List ℕ). starts_below ns w && (start_below (drop 1 ns) k w && starts_below ms w)) (sym (drop_one k ns))

pub front_below : (ns : List ℕ) (k w : ℕ) (ws : List ℕ) → are_below ns (replicate k w ++ ws) ≡ (start_below ns k w && are_below (drop k ns) ws)
front_below ns zero w ws = refl
front_below ns (suc k) w ws =
    ap (λ b. starts_below ns w && b) (front_below (drop 1 ns) k w ws)
    ∙ ap (λ (ms : List ℕ). starts_below ns w && (start_below (drop 1 ns) k w && are_below ms ws)) (drop_one k ns)
    ∙ sym (and_assoc (starts_below ns w) (start_below (drop 1 ns) k w) (are_below (drop (suc k) ns) ws))
    ∙ sym (ap (λ b. b && are_below (drop (suc k) ns) ws) (front_first ns k w))

-- zeros and a blank image
zero_below : (n w : ℕ) → starts_below (replicate (suc n) 0) w ≡ true
zero_below n w = lt-ltb 0 (2 ^ w) (pow_pos w)

zeros_below : (ws : List ℕ) → are_below (replicate (length ws) 0) ws ≡ true
zeros_below [] = refl
zeros_below (w ∷ ws) = ap (λ b. b && are_below (replicate (length ws) 0) ws) (zero_below (length ws) w) ∙ zeros_below ws

edges_are : (n : ℕ) → list_all (λ e. nat_le e 2) (replicate n 2) ≡ true
edges_are zero = refl
edges_are (suc n) = edges_are n

-- numbers of one width, one by one
pub drop_more : (k : ℕ) (ns rest more : List ℕ) → rest ≡ drop k ns → more ≡ drop 1 rest → more ≡ drop (k + 1) ns
drop_more k ns rest more here next = next ∙ ap (drop 1) here ∙ drop-drop 1 k ns

pub below_more : (fit : Bool) (ns : List ℕ) (k w : ℕ) (now : Bool) (rest : List ℕ) (next : Bool)
    → now ≡ (fit && start_below ns k w) → rest ≡ drop k ns → next ≡ (now && starts_below rest w) → next ≡ (fit && start_below ns (k + 1) w)
below_more fit ns k w now rest next is here step =
    step ∙ ap (λ b. b && starts_below rest w) is ∙ ap (λ (ms : List ℕ). (fit && start_below ns k w) && starts_below ms w) here
    ∙ and_assoc fit (start_below ns k w) (starts_below (drop k ns) w) ∙ sym (ap (λ j. fit && start_below ns j w) (add-one k))

-- the words of one memory more
pub words_more : (fit : Bool) (ns : List ℕ) (m : Ram) (ms : List Ram) (next : Bool) (rest : List ℕ)
    → next ≡ (fit && start_below ns m.words m.width) → rest ≡ drop m.words ns
    → (next && are_below rest (word_widths ms)) ≡ (fit && are_below ns (word_widths (m ∷ ms)))
words_more fit ns m ms next rest step left =
    ap (λ b. b && are_below rest (word_widths ms)) step
    ∙ ap (λ (ks : List ℕ). (fit && start_below ns m.words m.width) && are_below ks (word_widths ms)) left
    ∙ and_assoc fit (start_below ns m.words m.width) (are_below (drop m.words ns) (word_widths ms))
    ∙ sym (ap (λ b. fit && b) (front_below ns m.words m.width (word_widths ms)))

-- words are counted memory by memory
pub word_total : (ms : List Ram) → length (word_widths ms) ≡ words_in ms
word_total [] = refl
word_total (m ∷ ms) =
    let more : length (word_widths ms) ≡ words_in ms = word_total ms in
    length-append (replicate m.words m.width) (word_widths ms) ∙ ap (λ n. n + length (word_widths ms)) (length-replicate m.words m.width) ∙ ap (λ n. m.words + n) more

same_count : (n : ℕ) → (n == n) ≡ true
same_count n = elim (eqb_tells n n) [ inl e ↦ e.0 | inr e ↦ absurd (e.1 refl) ]

-- a blank image fits
pub blank_fits : (d : Netlist) → fits d (blank d) ≡ true
blank_fits d =
    let inputs = length-map (data_inputs d.inputs) (λ i. signal_width d i.signal) in
    let regs : are_below (blank d).regs (register_widths d.signals) ≡ true = zeros_below (register_widths d.signals) in
    let words : are_below (blank d).words (word_widths d.memories) ≡ true = zeros_below (word_widths d.memories) in
    let given : are_below (blank d).given (data_widths (signal_width d) d.inputs) ≡ true = ap (λ n. are_below (replicate n 0) (data_widths (signal_width d) d.inputs)) (sym inputs) ∙ zeros_below (data_widths (signal_width d) d.inputs) in
    let count = length (edge_inputs d.inputs) in
    let edges : are_edges (blank d).edges count ≡ true = ap (λ n. (n == count) && list_all (λ e. nat_le e 2) (replicate count 2)) (length-replicate count 2) ∙ ap (λ b. b && list_all (λ e. nat_le e 2) (replicate count 2)) ((same_count count)) ∙ edges_are count in
    cc

pub word_step : (ms : List Ram) (i : ℕ) (m : Ram) → m ≡ get_or ms i m → i < length ms → length (word_widths (drop i ms)) ≡ m.words + length (word_widths (drop (i + 1) ms))
word_step ms i m is h =
    ap (λ more. length (word_widths more)) (drop_item ms i m is h) ∙ length-append (replicate m.words m.width) (word_widths (drop (i + 1) ms))
    ∙ ap (λ n. n + length (word_widths (drop (i + 1) ms))) (length-replicate m.words m.width)
