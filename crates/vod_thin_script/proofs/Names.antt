-- Names in a table: where a name stands, and a table that grows by a name that it lacks.
use Rattle.std.proofs.Common.{◌≡◌, ◌≢◌, ℕ, zero, suc, ◌^◌, ◌<◌, ◌≤◌, ◌+◌, arith, List, [], ◌∷◌, ◌++◌, length, map, get_or, take, refl, sym, ap, ◌∙◌, subst, true, false, not, Bool, Some, None, Option, cond, nat_lt, position, Contains, AllPairs, All, ◌||◌, length-take, if◌then◌else◌, take_all}
use Rattle.std.specs.Borrow.{Bor}
use Rattle.std.proofs.lemmas.Bool.Decides.{nat_tests}
use Rattle.std.proofs.lemmas.Slice.Eq.{bytes_eq-Decides}
use Rattle.std.proofs.lemmas.List.{length-map, map-append, get_or-take, take_more, get_or_default, get_or-map}
use Rattle.std.proofs.lemmas.List.Quantifiers.{position-Some}
use Rattle.std.proofs.lemmas.List.Sums.{fails_before_first}
use Rattle.std.proofs.lemmas.List.Folds.{list_any_none}
use Rattle.std.specs.List.{position_or_len, list_any}
use Rattle.std.specs.List.Sorted.{IsStrictlyIncreasing}
use Rattle.std.specs.Str.{bytes_eq}
use Rattle.vod_thin_design.specs.declared.thin.Signal.{Signal}
use Rattle.vod_thin_design.specs.declared.thin.Input.{Input}
use Rattle.vod_thin_design.specs.Netlist.{Netlist, IsAccepted, input_signals}
use Rattle.vod_thin_design.specs.Names.{input_names, HasPlainNames}

-- a name's place among texts
abbrev pub name_place : List ℕ → List (List ℕ) → Option ℕ
name_place name names = position (λ n. bytes_eq name n) names

place_by : (t : List ℕ → Bool) (keys : List (Bor (List ℕ))) → position_or_len (λ (k : Bor (List ℕ)). t k.now) keys ≡ position_or_len t (map (λ (k : Bor (List ℕ)). k.now) keys)
place_by t [] = refl
place_by t (k ∷ keys) = ap (λ n. cond (not (t k.now)) (1 + n) 0) (place_by t keys)

-- the place of a name among keys is its place among their texts
pub key_place : (name : List ℕ) (keys : List (Bor (List ℕ))) (names : List (List ℕ)) → map (λ (k : Bor (List ℕ)). k.now) keys ≡ names
    → position (λ (k : Bor (List ℕ)). bytes_eq name k.now) keys ≡ name_place name names
key_place name keys names e =
    let size : length keys ≡ length names = sym (length-map keys (λ (k : Bor (List ℕ)). k.now)) ∙ ap length e in
    let at : position_or_len (λ (k : Bor (List ℕ)). bytes_eq name k.now) keys ≡ position_or_len (λ n. bytes_eq name n) names = place_by (λ n. bytes_eq name n) keys ∙ ap (λ ns. position_or_len (λ n. bytes_eq name n) ns) e in
    rw (at, size) refl

absent_by : (t : Bool) (m n : ℕ) → cond t (Some m) None ≡ None → t ≡ false
absent_by true m n e = cc
absent_by false m n e = refl

-- a name with no place isn't there
pub no_place : (name : List ℕ) (names : List (List ℕ)) → name_place name names ≡ None → Contains names name → ⊥
no_place name names e (k, lt, same) =
    let past : nat_lt (position_or_len (λ n. bytes_eq name n) names) (length names) ≡ false = absent_by (nat_lt (position_or_len (λ n. bytes_eq name n) names) (length names)) (position_or_len (λ n. bytes_eq name n) names) 0 e in
    let before : k < position_or_len (λ n. bytes_eq name n) names = grind (arith, nat_tests) in
    let differs : bytes_eq name (get_or names k name) ≡ false = fails_before_first (λ n. bytes_eq name n) names k name before in
    let equals : bytes_eq name (get_or names k name) ≡ true = (bytes_eq-Decides name (get_or names k name)).1 (sym same) in
    cc

-- the place of a name has it
pub at_place : (name : List ℕ) (names : List (List ℕ)) (i : ℕ) → name_place name names ≡ Some i → (i < length names) × (get_or names i [] ≡ name)
at_place name names i e =
    let at = position-Some (λ n. bytes_eq name n) names i [] e in
    (at.0, sym ((bytes_eq-Decides name (get_or names i [])).0 at.1))

any_by : (t : List ℕ → Bool) (keys : List (Bor (List ℕ))) → list_any (λ (k : Bor (List ℕ)). t k.now) keys ≡ list_any t (map (λ (k : Bor (List ℕ)). k.now) keys)
any_by t [] = refl
any_by t (k ∷ keys) = ap (λ b. t k.now || b) (any_by t keys)

-- keys that are the first names of a list lack its next one, where the names differ
lacks_next : (names : List (List ℕ)) (i : ℕ) (keys : List (Bor (List ℕ))) → AllPairs (λ a b. a ≢ b) names → i < length names → map (λ (k : Bor (List ℕ)). k.now) keys ≡ take i names
    → list_any (λ (k : Bor (List ℕ)). bytes_eq (get_or names i []) k.now) keys ≡ false
lacks_next names i keys differ lt e =
    let name : List ℕ = get_or names i [] in
    let others : All (λ n. bytes_eq name n ≡ false) (take i names) = (λ k d among.
    let size = length-take i names in
    let before : k < i = omega arith in
    let there : get_or (take i names) k d ≡ get_or names k d = get_or-take i names k d before in
    rw there (other k d before (bytes_eq (get_or names i []) (get_or names k d)) refl)) in
    any_by (λ n. bytes_eq name n) keys ∙ ap (λ ns. list_any (λ n. bytes_eq name n) ns) e ∙ list_any_none (λ n. bytes_eq name n) (take i names) others
  where
    other : (k : ℕ) (d : List ℕ) → k < i → (t : Bool) → bytes_eq (get_or names i []) (get_or names k d) ≡ t → t ≡ false
    other k d before true e =
        let same : get_or names i [] ≡ get_or names k d = (bytes_eq-Decides (get_or names i []) (get_or names k d)).0 e in
        let at : get_or names i d ≡ get_or names i [] = get_or_default names i d [] lt in
        absurd (differ k i d before lt (sym (at ∙ same)))
    other k d before false e = refl

-- a table of the first names, and the next
pub names_more : (names : List (List ℕ)) (i : ℕ) (keys keys' : List (Bor (List ℕ))) (key : Bor (List ℕ)) → AllPairs (λ a b. a ≢ b) names → i < length names
    → map (λ (k : Bor (List ℕ)). k.now) keys ≡ take i names → key.now ≡ get_or names i []
    → keys' ≡ (if list_any (λ (k : Bor (List ℕ)). bytes_eq key.now k.now) keys then keys else keys ++ key ∷ [])
    → map (λ (k : Bor (List ℕ)). k.now) keys' ≡ take (i + 1) names
names_more names i keys keys' key differ lt e name made =
    let lacks : list_any (λ (k : Bor (List ℕ)). bytes_eq key.now k.now) keys ≡ false = rw name (lacks_next names i keys differ lt e) in
    let grown : keys' ≡ keys ++ key ∷ [] = rw lacks at made in
    ap (λ ks. map (λ (k : Bor (List ℕ)). k.now) ks) grown ∙ map-append (λ (k : Bor (List ℕ)). k.now) keys (key ∷ []) ∙ ap (λ ns. ns ++ key.now ∷ []) e ∙ ap (λ n. take i names ++ n ∷ []) name ∙ sym (take_more names i [] lt)

-- increasing numbers are at least their places
above_place : (xs : List ℕ) → IsStrictlyIncreasing xs → (k : ℕ) → k < length xs → k ≤ get_or xs k 0
above_place xs rise zero lt = omega arith
above_place xs rise (suc k) lt =
    let below : k < length xs = omega arith in
    let before = above_place xs rise k below in
    let next : k + 1 < length xs = omega arith in
    let step : get_or xs k 0 < get_or xs (k + 1) 0 = rise k next in
    let same : k + 1 ≡ suc k = omega arith in
    let up : get_or xs k 0 < get_or xs (suc k) 0 = subst (λ n. get_or xs k 0 < get_or xs n 0) same step in
    omega arith

-- so there are few of them below a number
pub few_below : (xs : List ℕ) (n : ℕ) → IsStrictlyIncreasing xs → All (λ x. x < n) xs → length xs ≤ n
few_below xs n rise all = by_length (length xs) refl
  where
    by_length : (m : ℕ) → length xs ≡ m → m ≤ n
    by_length zero e = omega arith
    by_length (suc m) e =
        let last : m < length xs = omega arith in
        let above = above_place xs rise m last in
        let below : get_or xs m 0 < n = all m 0 last in
        omega arith

pub few_inputs : (d : Netlist) → IsAccepted d → length d.inputs < 2 ^ 32
few_inputs d accepted =
    let few = few_below (input_signals d) (length d.signals) accepted.inputs_rise accepted.inputs_within in
    let signals = accepted.few_signals in
    let size : length (input_signals d) ≡ length d.inputs = length-map d.inputs (λ (input : Input). input.signal) in
    omega arith

-- the name of an input is that of its signal
pub input_name : (d : Netlist) (i : ℕ) (signal : Signal) → i < length (input_signals d) → get_or (input_signals d) i 0 < length d.signals
    → (get_or d.signals (get_or (input_signals d) i 0) signal).name ≡ get_or (input_names d) i []
input_name d i signal lt within =
    let names : List (List ℕ) = map (λ (s : Signal). s.name) d.signals in
    let at : get_or (input_names d) i [] ≡ get_or names (get_or (input_signals d) i 0) [] = get_or-map (λ s. get_or names s []) (input_signals d) i 0 [] lt in
    let named : get_or names (get_or (input_signals d) i 0) [] ≡ (get_or d.signals (get_or (input_signals d) i 0) signal).name = get_or-map (λ (s : Signal). s.name) d.signals (get_or (input_signals d) i 0) signal [] within in
    sym (at ∙ named)

-- each input has a name
pub names_size : (d : Netlist) → length (input_names d) ≡ length d.inputs
names_size d =
    length-map (input_signals d) (λ s. get_or (map (λ (signal : Signal). signal.name) d.signals) s []) ∙ length-map d.inputs (λ (input : Input). input.signal)

-- what the place of a name among the keys of a design says
pub no_input : (d : Netlist) (keys : List (Bor (List ℕ))) (name : List ℕ) (at : Option ℕ) → map (λ (k : Bor (List ℕ)). k.now) keys ≡ input_names d
    → at ≡ position (λ (k : Bor (List ℕ)). bytes_eq name k.now) keys → at ≡ None → Contains (input_names d) name → ⊥
no_input d keys name at e placed none = no_place name (input_names d) (sym (key_place name keys (input_names d) e) ∙ sym placed ∙ none)

pub input_at : (d : Netlist) (keys : List (Bor (List ℕ))) (name : List ℕ) (at : Option ℕ) (i : ℕ) → map (λ (k : Bor (List ℕ)). k.now) keys ≡ input_names d
    → at ≡ position (λ (k : Bor (List ℕ)). bytes_eq name k.now) keys → at ≡ Some i → (i < length d.inputs) × (get_or (input_names d) i [] ≡ name)
input_at d keys name at i e placed found =
    let there = at_place name (input_names d) i (sym (key_place name keys (input_names d) e) ∙ sym placed ∙ found) in
    let size : length (input_names d) ≡ length d.inputs = names_size d in
    (subst (λ n. i < n) size there.0, there.1)

-- the signal of an input is one of the design
pub input_within : (d : Netlist) → IsAccepted d → (signals : List Signal) (inputs : List Input) → signals ≡ d.signals → inputs ≡ d.inputs → (i : ℕ) (input : Input) → i < length inputs
    → (get_or inputs i input).signal < length signals
input_within d accepted signals inputs es ei i input lt =
    let size : length (input_signals d) ≡ length d.inputs = length-map d.inputs (λ (input : Input). input.signal) in
    let among : i < length d.inputs = subst (λ (xs : List Input). i < length xs) ei lt in
    let here : get_or (input_signals d) i 0 ≡ (get_or d.inputs i input).signal = get_or-map (λ (input : Input). input.signal) d.inputs i input 0 among in
    let within : get_or (input_signals d) i 0 < length d.signals = accepted.inputs_within i 0 (omega arith) in
    let item : (get_or inputs i input).signal ≡ (get_or d.inputs i input).signal = ap (λ (xs : List Input). (get_or xs i input).signal) ei in
    let count : length signals ≡ length d.signals = ap length es in
    omega arith

-- the table of a design with one more input, whose signal was read
pub table_more : (d : Netlist) → HasPlainNames d → IsAccepted d → (signals : List Signal) (inputs : List Input) → signals ≡ d.signals → inputs ≡ d.inputs
    → (i : ℕ) (input : Input) (signal : Signal) → i < length inputs
    → (keys keys' : List (Bor (List ℕ))) (key : Bor (List ℕ)) → key.now ≡ (get_or signals (get_or inputs i input).signal signal).name → map (λ (k : Bor (List ℕ)). k.now) keys ≡ take i (input_names d)
    → keys' ≡ (if list_any (λ (k : Bor (List ℕ)). bytes_eq key.now k.now) keys then keys else keys ++ key ∷ [])
    → map (λ (k : Bor (List ℕ)). k.now) keys' ≡ take (i + 1) (input_names d)
table_more d h accepted signals inputs es ei i input signal lt keys keys' key named e made =
    let size : length (input_signals d) ≡ length d.inputs = length-map d.inputs (λ (input : Input). input.signal) in
    let among : i < length d.inputs = subst (λ (xs : List Input). i < length xs) ei lt in
    let all : length (input_names d) ≡ length d.inputs = names_size d in
    let here : get_or (input_signals d) i 0 ≡ (get_or d.inputs i input).signal = get_or-map (λ (input : Input). input.signal) d.inputs i input 0 among in
    let reads : get_or signals (get_or inputs i input).signal signal ≡ get_or d.signals (get_or (input_signals d) i 0) signal =
    ap (λ (xs : List Signal). get_or xs (get_or inputs i input).signal signal) es ∙ ap (λ (xs : List Input). get_or d.signals (get_or xs i input).signal signal) ei ∙ ap (λ n. get_or d.signals n signal) (sym here) in
    let name : key.now ≡ get_or (input_names d) i [] = named ∙ ap (λ (s : Signal). s.name) reads ∙ input_name d i signal (omega arith) (accepted.inputs_within i 0 (omega arith)) in
    names_more (input_names d) i keys keys' key h.differ (omega arith) e name made

-- the table of a design is whole behind its last input
pub table_whole : (d : Netlist) (inputs : List Input) → inputs ≡ d.inputs → (i : ℕ) → length inputs ≤ i → (keys : List (Bor (List ℕ))) → map (λ (k : Bor (List ℕ)). k.now) keys ≡ take i (input_names d)
    → map (λ (k : Bor (List ℕ)). k.now) keys ≡ input_names d
table_whole d inputs ei i past keys e =
    let size : length (input_names d) ≡ length d.inputs = names_size d in
    let all : length (input_names d) ≤ i = (let same = ap length ei in omega arith) in
    e ∙ take_all i (input_names d) all
