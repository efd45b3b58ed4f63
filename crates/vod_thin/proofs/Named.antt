-- The signals of names, by their numbers.
use Rattle.std.proofs.Common.{◌≡◌, ◌≢◌, ℕ, zero, suc, ◌+◌, ◌<◌, ◌≤◌, nat_eq, Bool, true, false, not, ◌||◌, ◌&&◌, if◌then◌else◌, List, [], ◌∷◌, ◌++◌, Option, None, Some, map, filter, length, get_or, All, AllPairs, refl, sym, ap, ◌∙◌, subst, arith, slice_get}
use Rattle.std.specs.List.{list_any, position_or_len, flat_map}
use Rattle.std.specs.Prelude.{slice_index_or}
use Rattle.std.specs.Str.{bytes_eq}
use Rattle.std.proofs.lemmas.Bool.Decides.{nat_tests}
use Rattle.std.proofs.lemmas.List.{length-map, get_or-map, map_push}
use Rattle.std.proofs.lemmas.List.Folds.{list_any_at}
use Rattle.std.proofs.lemmas.List.Quantifiers.{all_pairs_push}
use Rattle.std.proofs.lemmas.List.Sums.{passes_at_first}
use Rattle.std.proofs.lemmas.Option.{slice_get_within, get_or_from_slice_get}
use Rattle.std.proofs.lemmas.Slice.Eq.{bytes_eq-Decides}
use Rattle.vod_thin_design.specs.declared.thin.Expr.{Expr}
use Rattle.vod_thin_design.specs.declared.thin.Input.{Input}
use Rattle.vod_thin_design.specs.declared.thin.Initial.{Initial}
use Rattle.vod_thin_design.specs.declared.thin.Signal as design_signal
use Rattle.vod_thin_design.specs.Netlist as netlist
use Rattle.vod_thin_design.specs.Netlist.{Netlist, has, input_signals, data_signals, clock_signals, is_clock, initial_registers}
use Rattle.vod_thin_syntax.specs.Syntax.{Name, Mark, Item, Module}
use Rattle.vod_thin.specs.declared.names.Kind.{Kind}
use Rattle.vod_thin.specs.Signals.{Declared, signals_of, entries, kind_of, has_name, has_text, texts, clocks, is_input, is_register}
use Rattle.vod_thin.specs.Netlists.{number_of, signal_of, design_by}
use Rattle.vod_thin.proofs.Brought.{inputs_from, initials_from}
use Rattle.vod_thin.proofs.NameLemmas.{list_any-map}
use Rattle.vod_thin.proofs.Numbers.{numbers_where, where_within, where_rise, has_where, inputs_test, registers_test, data_test, clocks_test, inputs_are, data_are, clocks_are, initials_are}

-- the table of a module, and its design where right sides have these expressions
abbrev pub table : Module (List Mark) → List (List ℕ × Kind)
table m = entries (signals_of m)

abbrev pub net : Module (List Mark) → (List Mark → Expr) → Netlist
net m value = design_by (table m) (texts (clocks m.items)) value m

-- the numbers of names
abbrev pub number : Module (List Mark) → Name → ℕ
number m name = number_of (table m) name.bytes

abbrev pub numbers : Module (List Mark) → List Name → List ℕ
numbers m names = map (number m) names

-- the signal with the number of a declared name
pub record Stands (ds : List Declared) (text : List ℕ) (k : Kind) : Type 0 where
  pub signal : Declared
  pub there : slice_get ds (number_of (entries ds) text) ≡ Some signal
  pub named : signal.name.bytes ≡ text
  pub of_kind : signal.kind ≡ k

pub stands : (ds : List Declared) (text : List ℕ) (k : Kind) → kind_of ds text ≡ Some k → Stands ds text k
stands [] text k e = cc
stands (d ∷ ds) text k e = by (bytes_eq text d.name.bytes) refl e (stands ds text k)
  where
    Found : Bool → Type 0
    Found b = (s : Declared) × (slice_get (d ∷ ds) (if not b then 1 + number_of (entries ds) text else 0) ≡ Some s) × (s.name.bytes ≡ text) × (s.kind ≡ k)

    made : (b : Bool) → bytes_eq text d.name.bytes ≡ b → (if b then Some d.kind else kind_of ds text) ≡ Some k → (kind_of ds text ≡ Some k → Stands ds text k)
        → (s : Declared) × (slice_get (d ∷ ds) (if not b then 1 + number_of (entries ds) text else 0) ≡ Some s) × (s.name.bytes ≡ text) × (s.kind ≡ k)
    made true t e rest = let kinds : d.kind ≡ k = cc in (d, refl, sym ((bytes_eq-Decides text d.name.bytes).0 t), kinds)
    made false t e rest =
        let r = rest e in
        let next : 1 + number_of (entries ds) text ≡ suc (number_of (entries ds) text) = omega arith in
        (r.signal, ap (slice_get (d ∷ ds)) next ∙ r.there, r.named, r.of_kind)

    by : (b : Bool) → bytes_eq text d.name.bytes ≡ b → (if bytes_eq text d.name.bytes then Some d.kind else kind_of ds text) ≡ Some k → (kind_of ds text ≡ Some k → Stands ds text k) → Stands (d ∷ ds) text k
    by b t e rest =
        let found = made (bytes_eq text d.name.bytes) refl e rest in
        record { signal = found.0; there = found.1; named = found.2; of_kind = found.3 }

pub number_within : (ds : List Declared) (text : List ℕ) (k : Kind) → kind_of ds text ≡ Some k → number_of (entries ds) text < length ds
number_within ds text k e = let s = stands ds text k e in slice_get_within ds (number_of (entries ds) text) s.signal s.there

-- the name at its number
name_there : (es : List (List ℕ × Kind)) (text : List ℕ) (d : List ℕ × Kind) → number_of es text < length es → (get_or es (number_of es text) d).0 ≡ text
name_there es text d lt = sym ((bytes_eq-Decides text (get_or es (number_of es text) d).0).0 (passes_at_first (λ (e : List ℕ × Kind). bytes_eq text e.0) es d lt))

entries_length : (ds : List Declared) → length (entries ds) ≡ length ds
entries_length ds = length-map ds (λ (signal : Declared). (signal.name.bytes, signal.kind))

-- a declared name's number is no other's
one_number : (ds : List Declared) (text other : List ℕ) (k : Kind) → kind_of ds text ≡ Some k → number_of (entries ds) other ≡ number_of (entries ds) text → other ≡ text
one_number ds text other k e same =
    let size = entries_length ds in
    let lt = number_within ds text k e in
    let d : List ℕ × Kind = ([], k) in
    let first : (get_or (entries ds) (number_of (entries ds) text) d).0 ≡ text = name_there (entries ds) text d (omega arith) in
    let second : (get_or (entries ds) (number_of (entries ds) other) d).0 ≡ other = name_there (entries ds) other d (omega arith) in
    sym second ∙ ap (λ i. (get_or (entries ds) i d).0) same ∙ first

-- numbers have a declared name's where the names have it
pub has_numbers : (m : Module (List Mark)) (names : List Name) (name : Name) (k : Kind) → kind_of (signals_of m) name.bytes ≡ Some k → has (numbers m names) (number m name) ≡ has_name names name.bytes
has_numbers m [] name k e = refl
has_numbers m (other ∷ names) name k e =
    ap (λ b. b || has (numbers m names) (number m name)) (by (bytes_eq name.bytes other.bytes) refl)
    ∙ ap (λ b. bytes_eq name.bytes other.bytes || b) (has_numbers m names name k e)
  where
    by : (b : Bool) → bytes_eq name.bytes other.bytes ≡ b → nat_eq (number m other) (number m name) ≡ b
    by true t =
        let same : number m other ≡ number m name = ap (number_of (table m)) (sym ((bytes_eq-Decides name.bytes other.bytes).0 t)) in
        grind (arith, nat_tests)
    by false t = differ (nat_eq (number m other) (number m name)) refl
      where
        equal : nat_eq (number m other) (number m name) ≡ true → number m other ≡ number m name
        equal h = grind (arith, nat_tests)

        differ : (c : Bool) → nat_eq (number m other) (number m name) ≡ c → c ≡ false
        differ false h = refl
        differ true h =
            let same : other.bytes ≡ name.bytes = one_number (signals_of m) name.bytes other.bytes k e (equal h) in
            let yes : bytes_eq name.bytes other.bytes ≡ true = (bytes_eq-Decides name.bytes other.bytes).1 (sym same) in cc

pub has_texts : (names : List Name) (text : List ℕ) → has_text (texts names) text ≡ has_name names text
has_texts names text = list_any-map (λ (n : List ℕ). bytes_eq text n) (λ (name : Name). name.bytes) names

-- one name more, which the names before don't have
pub pairs_more : (m : Module (List Mark)) (names : List Name) (name : Name) (k : Kind) → kind_of (signals_of m) name.bytes ≡ Some k → has_name names name.bytes ≡ false
    → AllPairs (λ s t. s ≢ t) (numbers m names) → AllPairs (λ s t. s ≢ t) (numbers m (names ++ name ∷ []))
pairs_more m names name k e lacks pairs =
    subst (AllPairs (λ s t. s ≢ t)) (sym (map_push (number m) names name)) (all_pairs_push (λ s t. s ≢ t) (numbers m names) (number m name) pairs (λ i d lt same.
    let test : nat_eq (get_or (numbers m names) i d) (number m name) ≡ true = grind (arith, nat_tests) in
    let there : has (numbers m names) (number m name) ≡ true = list_any_at (λ n. nat_eq n (number m name)) (numbers m names) i d lt test in
    let had = has_numbers m names name k e in cc))

-- the test of the signal with a number
pub test_there : (p : List ℕ × Kind → Bool) (ds : List Declared) (i : ℕ) (d : Declared) → slice_get ds i ≡ Some d → slice_index_or (map p (entries ds)) i false ≡ p (d.name.bytes, d.kind)
test_there p [] i d e = cc
test_there p (x ∷ ds) zero d e = let same : x ≡ d = cc in ap (λ (v : Declared). p (v.name.bytes, v.kind)) same
test_there p (x ∷ ds) (suc i) d e = test_there p ds i d e

module _ (m : Module (List Mark)) (value : List Mark → Expr) where
  pub has_input : (s : ℕ) → has (input_signals (net m value)) s ≡ slice_index_or (map inputs_test (table m)) s false
  has_input s = ap (λ ns. has ns s) (inputs_are (texts (clocks m.items)) 0 (table m)) ∙ has_where inputs_test (table m) s

  pub has_data : (s : ℕ) → has (data_signals (net m value)) s ≡ slice_index_or (map (data_test (texts (clocks m.items))) (table m)) s false
  has_data s = ap (λ ns. has ns s) (data_are (texts (clocks m.items)) 0 (table m)) ∙ has_where (data_test (texts (clocks m.items))) (table m) s

  pub has_clock : (s : ℕ) → has (clock_signals (net m value)) s ≡ slice_index_or (map (clocks_test (texts (clocks m.items))) (table m)) s false
  has_clock s = ap (λ ns. has ns s) (clocks_are (texts (clocks m.items)) 0 (table m)) ∙ has_where (clocks_test (texts (clocks m.items))) (table m) s

  pub has_initial : (s : ℕ) → has (initial_registers (net m value).initials) s ≡ slice_index_or (map registers_test (table m)) s false
  has_initial s = ap (λ ns. has ns s) (initials_are 0 (table m)) ∙ has_where registers_test (table m) s

  pub at_register : (s : ℕ) → netlist.is_register (net m value) s ≡ slice_index_or (map registers_test (table m)) s false
  at_register s = ap (λ bs. slice_index_or bs s false) (mapped (table m))
    where
      mapped : (es : List (List ℕ × Kind)) → map (λ (signal : design_signal.Signal). signal.register) (map signal_of es) ≡ map registers_test es
      mapped [] = refl
      mapped (e ∷ es) = ap (λ bs. registers_test e ∷ bs) (mapped es)

  -- the signal of a declared name
  pub named_test : (p : List ℕ × Kind → Bool) (name : Name) (k : Kind) → kind_of (signals_of m) name.bytes ≡ Some k → slice_index_or (map p (table m)) (number m name) false ≡ p (name.bytes, k)
  named_test p name k e =
      let s = stands (signals_of m) name.bytes k e in
      test_there p (signals_of m) (number m name) s.signal s.there ∙ ap (λ n. p (n, s.signal.kind)) s.named ∙ ap (λ v. p (name.bytes, v)) s.of_kind
