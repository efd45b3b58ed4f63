-- The design of a module in which no name breaks a rule is accepted: its blocks, the sources of its signals, and the whole.
use Rattle.std.proofs.Common.{◌≡◌, ◌≢◌, ℕ, zero, suc, ◌+◌, ◌<◌, ◌≤◌, ◌^◌, nat_eq, ◌⊎◌, inl, inr, Bool, true, false, not, ◌||◌, ◌&&◌, if◌then◌else◌, List, [], ◌∷◌, ◌++◌, Option, None, Some, map, filter, take, length, length-append, get_or, All, AllPairs, IsTrue, refl, sym, ap, ◌∙◌, subst, arith, append_assoc, append-nil, slice_get, lit≤}
use Rattle.std.specs.List.{list_any, flat_map}
use Rattle.std.specs.List.Sorted.{IsStrictlyIncreasing}
use Rattle.std.specs.Prelude.{slice_index_or}
use Rattle.std.specs.Str.{bytes_eq}
use Rattle.std.proofs.lemmas.Slice.Eq.{bytes_eq-Decides}
use Rattle.std.proofs.lemmas.Grind.{flat_map-append}
use Rattle.std.proofs.lemmas.List.{length-map, map-append}
use Rattle.std.proofs.lemmas.List.Elements.{All-nil, All-cons, All-append, All-map, All-weaker}
use Rattle.std.proofs.lemmas.List.Folds.{list_any-append}
use Rattle.std.proofs.lemmas.Option.{slice_get_cases}
use Rattle.vod_thin_design.specs.declared.thin.Expr.{Expr}
use Rattle.vod_thin_design.specs.declared.thin.Driver.{Driver}
use Rattle.vod_thin_design.specs.declared.thin.Block.{Block}
use Rattle.vod_thin_design.specs.declared.thin.Initial.{Initial}
use Rattle.vod_thin_design.specs.Bits.{is_known}
use Rattle.vod_thin_design.specs.Expr.{reads}
use Rattle.vod_thin_design.specs.Netlist as netlist
use Rattle.vod_thin_design.specs.Netlist.{Netlist, IsAccepted, has, input_signals, data_signals, clock_signals, targets, assigned_registers, initial_registers, has_source}
use Rattle.vod_thin_syntax.specs.Syntax.{Name, Mark, Item, Wire, Register, Assign, Always, Port, Module}
use Rattle.vod_thin.specs.declared.names.Kind.{Kind}
use Rattle.vod_thin.specs.declared.names.Kind.TheVariants as kind
use Rattle.vod_thin.specs.Signals.{Declared, declared_port, declared_by, declared, signals_of, entries, kind_of, has_name, has_text, texts, names_in, assigned_by, clock_by, assigned, clocks, updated, is_input, is_net, is_register}
use Rattle.vod_thin.specs.Rules.{kind_before, is_wrong_clock, is_other, is_unreadable}
use Rattle.vod_thin.specs.Netlists.{number_of, driver_of, block_of, signal_of}
use Rattle.vod_thin.proofs.Numbers.{numbers_where, where_within, where_rise, all_has, inputs_test, registers_test, clocks_test, inputs_are, initials_are, initials_known}
use Rattle.vod_thin.proofs.Good.{Good, AllGood, Kept, Own, own}
use Rattle.vod_thin.proofs.Named.{table, net, number, numbers, has_numbers, has_texts, number_within, test_there, has_input, has_clock, has_initial, at_register, named_test}
use Rattle.vod_thin.proofs.Accepted.{IsOf, of_before, not_wrong, onward, all_targets, all_updated, once_targets, once_updated, targets_are, registers_are, ReadsRight, AllReadRight, readable_all, ranked_from}

-- a signal that may be read may be read where there are more drivers
readable_more : (d : Netlist) (drivers more : List Driver) (s : ℕ) → IsTrue (netlist.is_readable d drivers s) → IsTrue (netlist.is_readable d (drivers ++ more) s)
readable_more d drivers more s h =
    ap (λ b. has (data_signals d) s || netlist.is_register d s || b) (ap (λ ns. has ns s) (map-append (λ (driver : Driver). driver.target) drivers more) ∙ list_any-append (λ n. nat_eq n s) (targets drivers) (targets more))
    ∙ wider (has (data_signals d) s) (netlist.is_register d s) (has (targets drivers) s) (has (targets more) s) h
  where
    wider : (a b c e : Bool) → (a || b || c) ≡ true → (a || b || (c || e)) ≡ true
    wider true b c e h = refl
    wider false true c e h = refl
    wider false false true e h = refl
    wider false false false e h = cc

-- what a block needs
record IsRight (d : Netlist) (block : Block) : Type 0 where
  clock : IsTrue (has (clock_signals d) block.clock)
  read : All (λ s. IsTrue (netlist.is_readable d d.drivers s)) (reads block.value)

-- the clock of an `always` is waited for
waited_for : (m : Module (List Mark)) (earlier items : List (Item (List Mark))) (clock register : Name) (right : List Mark) → m.items ≡ earlier ++ Always clock register right ∷ items → has_name (clocks m.items) clock.bytes ≡ true
waited_for m earlier items clock register right e =
    ap (λ (xs : List (Item (List Mark))). has_name (clocks xs) clock.bytes) e
    ∙ ap (λ ns. has_name ns clock.bytes) (flat_map-append clock_by earlier (Always clock register right ∷ items))
    ∙ list_any-append (λ (other : Name). bytes_eq clock.bytes other.bytes) (clocks earlier) (clock ∷ clocks items)
    ∙ ap (λ b. has_name (clocks earlier) clock.bytes || (b || has_name (clocks items) clock.bytes)) ((bytes_eq-Decides clock.bytes clock.bytes).1 refl)
    ∙ or_true (has_name (clocks earlier) clock.bytes)
  where
    or_true : (b : Bool) → (b || true) ≡ true
    or_true true = refl
    or_true false = refl

block_right : (m : Module (List Mark)) (value : List Mark → Expr) (earlier items : List (Item (List Mark))) (clock register : Name) (right : List Mark) → m.items ≡ earlier ++ Always clock register right ∷ items
    → Good m earlier (Always clock register right) → reads (value right) ≡ numbers m (names_in right)
    → (let block : Block = record { clock = number m clock; register = number m register; value = value right } in IsRight (net m value) block)
block_right m value earlier items clock register right e h r =
    let of = of_before is_input refl m earlier (Always clock register right ∷ items) clock e (not_wrong (is_input (kind_before m earlier clock)) (is_other (clocks earlier) clock) h.0) in
    let drivers : flat_map (driver_of (table m) value) m.items ≡ flat_map (driver_of (table m) value) earlier ++ flat_map (driver_of (table m) value) (Always clock register right ∷ items) =
    ap (λ (xs : List (Item (List Mark))). flat_map (driver_of (table m) value) xs) e ∙ flat_map-append (driver_of (table m) value) earlier (Always clock register right ∷ items) in
    record {
      clock = has_clock m value (number m clock) ∙ named_test m value (clocks_test (texts (clocks m.items))) clock of.k of.found
          ∙ ap (λ b. b && has_text (texts (clocks m.items)) clock.bytes) of.passes ∙ has_texts (clocks m.items) clock.bytes ∙ waited_for m earlier items clock register right e;
      read = subst (λ (ds : List Driver). All (λ s. IsTrue (netlist.is_readable (net m value) ds s)) (reads (value right))) (sym drivers)
          (All-weaker (λ s. IsTrue (netlist.is_readable (net m value) (flat_map (driver_of (table m) value) earlier) s))
          (λ s. IsTrue (netlist.is_readable (net m value) (flat_map (driver_of (table m) value) earlier ++ flat_map (driver_of (table m) value) (Always clock register right ∷ items)) s))
          (λ s. readable_more (net m value) (flat_map (driver_of (table m) value) earlier) (flat_map (driver_of (table m) value) (Always clock register right ∷ items)) s)
          (reads (value right)) (readable_all m value earlier (Always clock register right ∷ items) right e h.2 r));
    }

blocks_right : (m : Module (List Mark)) (value : List Mark → Expr) (earlier items : List (Item (List Mark))) → m.items ≡ earlier ++ items → AllGood m earlier items → AllReadRight m value items
    → All (IsRight (net m value)) (flat_map (block_of (table m) value) items)
blocks_right m value earlier [] e h r = All-nil (IsRight (net m value))
blocks_right m value earlier (Wire name ∷ items) e h r = blocks_right m value (earlier ++ Wire name ∷ []) items (onward m earlier items (Wire name) e) h.1 r.1
blocks_right m value earlier (Register name initial ∷ items) e h r = blocks_right m value (earlier ++ Register name initial ∷ []) items (onward m earlier items (Register name initial) e) h.1 r.1
blocks_right m value earlier (Assign target right ∷ items) e h r = blocks_right m value (earlier ++ Assign target right ∷ []) items (onward m earlier items (Assign target right) e) h.1 r.1
blocks_right m value earlier (Always clock register right ∷ items) e h r =
    let block : Block = record { clock = number m clock; register = number m register; value = value right } in
    All-cons (IsRight (net m value)) block (flat_map (block_of (table m) value) items) (block_right m value earlier items clock register right e h.0 r.0)
    (blocks_right m value (earlier ++ Always clock register right ∷ []) items (onward m earlier items (Always clock register right) e) h.1 r.1)

-- each signal is an input, a register or driven
source_there : (m : Module (List Mark)) (value : List Mark → Expr) (s : ℕ) (d : Declared) → slice_get (signals_of m) s ≡ Some d → Own m (signals_of m) s d
    → IsTrue (has_source (net m value) (net m value).drivers s)
source_there m value s d there o = by d.kind refl
  where
    first : (a b c : Bool) → a ≡ true → (a || b || c) ≡ true
    first true b c t = refl
    first false b c t = cc

    second : (a b c : Bool) → b ≡ true → (a || b || c) ≡ true
    second true b c t = refl
    second false true c t = refl
    second false false c t = cc

    third : (a b c : Bool) → c ≡ true → (a || b || c) ≡ true
    third true b c t = refl
    third false true c t = refl
    third false false true t = refl
    third false false false t = cc

    driven : is_net (Some d.kind) ≡ true → has (targets (net m value).drivers) s ≡ true
    driven t =
        ap (λ ns. has ns s) (targets_are m value m.items) ∙ ap (has (numbers m (assigned m.items))) (sym o.numbered)
        ∙ has_numbers m (assigned m.items) d.name d.kind o.kind_is ∙ o.assigned_is t

    by : (k : Kind) → d.kind ≡ k → (has (input_signals (net m value)) s || netlist.is_register (net m value) s || has (targets (net m value).drivers) s) ≡ true
    by kind.Input e = first (has (input_signals (net m value)) s) (netlist.is_register (net m value) s) (has (targets (net m value).drivers) s)
        (has_input m value s ∙ test_there inputs_test (signals_of m) s d there ∙ ap (λ k. is_input (Some k)) e)
    by kind.Output e = third (has (input_signals (net m value)) s) (netlist.is_register (net m value) s) (has (targets (net m value).drivers) s) (driven (ap (λ k. is_net (Some k)) e))
    by kind.Wire e = third (has (input_signals (net m value)) s) (netlist.is_register (net m value) s) (has (targets (net m value).drivers) s) (driven (ap (λ k. is_net (Some k)) e))
    by (kind.Register initial) e = second (has (input_signals (net m value)) s) (netlist.is_register (net m value) s) (has (targets (net m value).drivers) s)
        (at_register m value s ∙ test_there registers_test (signals_of m) s d there ∙ ap (λ k. is_register (Some k)) e)

-- an input is no register, and a net is neither
input_kept : (es : List (List ℕ × Kind)) (s : ℕ) → slice_index_or (map inputs_test es) s false ≡ true → slice_index_or (map registers_test es) s false ≡ false
input_kept [] s h = cc
input_kept ((name, kind.Input) ∷ es) zero h = refl
input_kept ((name, kind.Output) ∷ es) zero h = refl
input_kept ((name, kind.Wire) ∷ es) zero h = refl
input_kept ((name, kind.Register initial) ∷ es) zero h = cc
input_kept (e ∷ es) (suc s) h = input_kept es s h

net_no_input : (k : Kind) → is_net (Some k) ≡ true → is_input (Some k) ≡ false
net_no_input kind.Input e = cc
net_no_input kind.Output e = refl
net_no_input kind.Wire e = refl
net_no_input (kind.Register initial) e = cc

net_no_register : (k : Kind) → is_net (Some k) ≡ true → is_register (Some k) ≡ false
net_no_register kind.Input e = cc
net_no_register kind.Output e = refl
net_no_register kind.Wire e = refl
net_no_register (kind.Register initial) e = cc

-- lists that bring one thing at most
brings_few : {X Y : Type 0} (f : X → List Y) → ((x : X) → length (f x) ≤ 1) → (xs : List X) → length (flat_map f xs) ≤ length xs
brings_few f one [] = omega arith
brings_few f one (x ∷ xs) =
    let sum = length-append (f x) (flat_map f xs) in
    let first = one x in
    let rest = brings_few f one xs in omega arith

few_declared : (item : Item (List Mark)) → length (declared_by item) ≤ 1
few_declared (Wire name) = omega arith
few_declared (Register name initial) = omega arith
few_declared (Assign target value) = omega arith
few_declared (Always clock register value) = omega arith

few_driver : (m : Module (List Mark)) (value : List Mark → Expr) (item : Item (List Mark)) → length (driver_of (table m) value item) ≤ 1
few_driver m value (Wire name) = omega arith
few_driver m value (Register name initial) = omega arith
few_driver m value (Assign target right) = omega arith
few_driver m value (Always clock register right) = omega arith

few_block : (m : Module (List Mark)) (value : List Mark → Expr) (item : Item (List Mark)) → length (block_of (table m) value item) ≤ 1
few_block m value (Wire name) = omega arith
few_block m value (Register name initial) = omega arith
few_block m value (Assign target right) = omega arith
few_block m value (Always clock register right) = omega arith

-- no more signals than ports and items
pub few_signals : (m : Module (List Mark)) → length (signals_of m) ≤ length m.ports + length m.items
few_signals m =
    let sum = length-append (map declared_port m.ports) (flat_map declared_by m.items) in
    let ports = length-map m.ports declared_port in
    let items = brings_few declared_by few_declared m.items in omega arith

small : (n k : ℕ) → n ≤ k → k ≤ 2 ^ 20 → n < 2 ^ 25
small n k le most = by_limit n k le most (lit≤ tt)
  where
    by_limit : (n k : ℕ) → n ≤ k → k ≤ 2 ^ 20 → 2 ^ 20 + 1 ≤ 2 ^ 25 → n < 2 ^ 25
    by_limit n k le most few = omega arith

pub accepted : (m : Module (List Mark)) (value : List Mark → Expr) → Kept m → AllReadRight m value m.items → length m.ports + length m.items ≤ 2 ^ 20 → IsAccepted (net m value)
accepted m value kept right few = record {
  few_signals = subst (λ n. n < 2 ^ 25) (sym size) (small (length (signals_of m)) (length m.ports + length m.items) (few_signals m) few);
  few_drivers = small (length (net m value).drivers) (length m.ports + length m.items) (let brought = brings_few (driver_of (table m) value) (few_driver m value) m.items in omega arith) few;
  few_blocks = small (length (net m value).blocks) (length m.ports + length m.items) (let brought = brings_few (block_of (table m) value) (few_block m value) m.items in omega arith) few;
  inputs_rise = subst IsStrictlyIncreasing (sym inputs) (where_rise inputs_test 0 (table m));
  inputs_within = subst (All (λ s. s < length (net m value).signals)) (sym inputs)
      (subst (λ n. All (λ s. s < n) (numbers_where inputs_test 0 (table m))) (sym (length-map (table m) signal_of))
      (All-weaker (λ s. (0 ≤ s) × (s < 0 + length (table m))) (λ s. s < length (table m)) (λ s h. let (a, b) = h in omega arith) (numbers_where inputs_test 0 (table m)) (where_within inputs_test 0 (table m))));
  inputs_kept = all_has (λ s. netlist.is_register (net m value) s ≡ false) (input_signals (net m value)) (λ s h. at_register m value s ∙ input_kept (table m) s (sym (has_input m value s) ∙ h));
  targets_within = driven (λ s. s < length (net m value).signals) (λ name of. subst (λ n. number m name < n) (sym size) (number_within (signals_of m) name.bytes of.k of.found));
  targets_kept = driven (λ s. netlist.is_register (net m value) s ≡ false) (λ name of. at_register m value (number m name) ∙ named_test m value registers_test name of.k of.found ∙ net_no_register of.k of.passes);
  inputs_undriven = driven (λ s. has (input_signals (net m value)) s ≡ false) (λ name of. has_input m value (number m name) ∙ named_test m value inputs_test name of.k of.found ∙ net_no_input of.k of.passes);
  driven_once = subst (AllPairs (λ s t. s ≢ t)) (sym (targets_are m value m.items)) (once_targets m [] m.items refl kept.good none);
  sourced = λ s lt. source_at s (slice_get_cases (signals_of m) s).1 (subst (λ n. s < n) size lt);
  ranked = ranked_from m value [] m.items refl kept.good right;
  clocked = λ k d lt. (blocks_right m value [] m.items refl kept.good right k d lt).clock;
  block_reads = λ k d lt. (blocks_right m value [] m.items refl kept.good right k d lt).read;
  assigns_registers = subst (All (λ s. IsTrue (netlist.is_register (net m value) s))) (sym (registers_are m value m.items))
      (All-map (λ s. IsTrue (netlist.is_register (net m value) s)) (number m) (updated m.items) (λ k d lt.
      let of = all_updated m [] m.items refl kept.good k d lt in
      at_register m value (number m (get_or (updated m.items) k d)) ∙ named_test m value registers_test (get_or (updated m.items) k d) of.k of.found ∙ of.passes));
  assigned_once = subst (AllPairs (λ s t. s ≢ t)) (sym (registers_are m value m.items)) (once_updated m [] m.items refl kept.good none);
  initials_rise = subst IsStrictlyIncreasing (sym (initials_are 0 (table m))) (where_rise registers_test 0 (table m));
  initial = λ s. at_register m value s ∙ sym (has_initial m value s);
  initials_known = initials_known 0 (table m);
}
  where
    none : AllPairs {X = ℕ} (λ s t. s ≢ t) []
    none = λ i j d before last. absurd (omega arith)

    size : length (net m value).signals ≡ length (signals_of m)
    size = length-map (table m) signal_of ∙ length-map (signals_of m) (λ (signal : Declared). (signal.name.bytes, signal.kind))

    inputs : input_signals (net m value) ≡ numbers_where inputs_test 0 (table m)
    inputs = inputs_are (texts (clocks m.items)) 0 (table m)

    driven : (P : ℕ → Type 0) → ((name : Name) → IsOf is_net m name → P (number m name)) → All P (targets (net m value).drivers)
    driven P each = subst (All P) (sym (targets_are m value m.items)) (All-map P (number m) (assigned m.items) (λ k d lt. each (get_or (assigned m.items) k d) (all_targets m [] m.items refl kept.good k d lt)))

    source_at : (s : ℕ) → ((d : Declared) × (s < length (signals_of m)) × (slice_get (signals_of m) s ≡ Some d) × (get_or (signals_of m) s d ≡ d)) ⊎ ((length (signals_of m) ≤ s) × (slice_get (signals_of m) s ≡ None))
        → s < length (signals_of m) → IsTrue (has_source (net m value) (net m value).drivers s)
    source_at s (inl (d, within, there, same)) lt = source_there m value s d there (own m [] (signals_of m) s d kept.fresh there)
    source_at s (inr (past, gone)) lt = absurd (omega arith)
