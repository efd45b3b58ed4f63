-- The design of a module in which no name breaks a rule is accepted.
use Rattle.std.proofs.Common.{◌≡◌, ◌≢◌, ℕ, zero, suc, ◌+◌, ◌<◌, ◌≤◌, ◌^◌, ◌⊎◌, inl, inr, Bool, true, false, not, ◌||◌, ◌&&◌, if◌then◌else◌, List, [], ◌∷◌, ◌++◌, Option, None, Some, map, filter, take, length, length-append, get_or, All, AllPairs, IsTrue, refl, sym, ap, ◌∙◌, subst, arith, append_assoc, append-nil, slice_get, lit≤}
use Rattle.std.specs.List.{list_any, flat_map}
use Rattle.std.specs.List.Sorted.{IsStrictlyIncreasing}
use Rattle.std.specs.Prelude.{slice_index_or}
use Rattle.std.proofs.lemmas.Grind.{flat_map-append}
use Rattle.std.proofs.lemmas.List.{length-map}
use Rattle.std.proofs.lemmas.List.Elements.{All-nil, All-cons, All-append, All-map, All-weaker}
use Rattle.std.proofs.lemmas.List.Folds.{list_any-append}
use Rattle.std.proofs.lemmas.Option.{slice_get_cases}
use Rattle.vod_thin_design.specs.declared.thin.Expr.{Expr}
use Rattle.vod_thin_design.specs.declared.thin.Driver.{Driver}
use Rattle.vod_thin_design.specs.declared.thin.Block.{Block}
use Rattle.vod_thin_design.specs.declared.thin.Initial.{Initial}
use Rattle.vod_thin_design.specs.Bits.{is_known}
use Rattle.vod_thin_design.specs.Expr.{reads}
use Rattle.vod_thin_design.specs.Netlist as netlist
use Rattle.vod_thin_design.specs.Netlist.{Netlist, IsAccepted, has, input_signals, data_signals, clock_signals, targets, assigned_registers, initial_registers, has_source}
use Rattle.vod_thin_syntax.specs.Syntax.{Name, Mark, Item, Wire, Register, Assign, Always, Port, Module}
use Rattle.vod_thin.specs.declared.names.Kind.{Kind}
use Rattle.vod_thin.specs.declared.names.Kind.TheVariants as kind
use Rattle.vod_thin.specs.Signals.{Declared, declared_port, declared_by, declared, signals_of, entries, kind_of, has_name, has_text, texts, names_in, assigned_by, clock_by, updated_by, assigned, clocks, updated, is_input, is_net, is_register}
use Rattle.vod_thin.specs.Rules.{kind_before, is_wrong_target, is_wrong_clock, is_wrong_register, is_other, is_readable, is_unreadable}
use Rattle.vod_thin.specs.Netlists.{number_of, driver_of, block_of, signal_of}
use Rattle.vod_thin.proofs.Matches.{or_kind, kind_of-append, brought_more, none_more}
use Rattle.vod_thin.proofs.Numbers.{where_within, where_rise, all_has, inputs_test, registers_test, data_test, clocks_test, inputs_are, initials_are, initials_known}
use Rattle.vod_thin.proofs.Good.{Good, AllGood, Kept, Own, own}
use Rattle.vod_thin.proofs.Named.{table, net, number, numbers, has_numbers, has_texts, pairs_more, number_within, test_there, has_input, has_data, has_clock, has_initial, at_register, named_test}

-- a name is declared so
pub record IsOf (test : Option Kind → Bool) (m : Module (List Mark)) (name : Name) : Type 0 where
  pub k : Kind
  pub found : kind_of (signals_of m) name.bytes ≡ Some k
  pub passes : test (Some k) ≡ true

-- what earlier items declare stays
stays : (m : Module (List Mark)) (earlier more : List (Item (List Mark))) (text : List ℕ) (k : Kind) → m.items ≡ earlier ++ more → kind_of (declared m.ports earlier) text ≡ Some k → kind_of (signals_of m) text ≡ Some k
stays m earlier more text k e h =
    ap (λ (items : List (Item (List Mark))). kind_of (declared m.ports items) text) e
    ∙ ap (λ ds. kind_of (map declared_port m.ports ++ ds) text) (flat_map-append declared_by earlier more)
    ∙ ap (λ ds. kind_of ds text) (sym (append_assoc (map declared_port m.ports) (flat_map declared_by earlier) (flat_map declared_by more)))
    ∙ kind_of-append (declared m.ports earlier) (flat_map declared_by more) text
    ∙ ap (λ o. or_kind o (kind_of (flat_map declared_by more) text)) h

pub of_before : (test : Option Kind → Bool) → test None ≡ false → (m : Module (List Mark)) (earlier more : List (Item (List Mark))) (name : Name) → m.items ≡ earlier ++ more
    → test (kind_before m earlier name) ≡ true → IsOf test m name
of_before test none m earlier more name e h = by (kind_before m earlier name) refl h
  where
    by : (o : Option Kind) → kind_before m earlier name ≡ o → test o ≡ true → IsOf test m name
    by None f t = cc
    by (Some k) f t = record { k = k; found = stays m earlier more name.bytes k e f; passes = t }

pub not_wrong : (a b : Bool) → (not a || b) ≡ false → a ≡ true
not_wrong true b e = refl
not_wrong false b e = cc

not_repeated : (a b : Bool) → (not a || b) ≡ false → b ≡ false
not_repeated true b e = e
not_repeated false b e = cc

-- the next item
pub onward : (m : Module (List Mark)) (earlier items : List (Item (List Mark))) (item : Item (List Mark)) → m.items ≡ earlier ++ item ∷ items → m.items ≡ (earlier ++ item ∷ []) ++ items
onward m earlier items item e = e ∙ sym (append_assoc earlier (item ∷ []) items)

-- the targets are nets
pub all_targets : (m : Module (List Mark)) (earlier items : List (Item (List Mark))) → m.items ≡ earlier ++ items → AllGood m earlier items → All (IsOf is_net m) (assigned items)
all_targets m earlier [] e h = All-nil (IsOf is_net m)
all_targets m earlier (Wire name ∷ items) e h = all_targets m (earlier ++ Wire name ∷ []) items (onward m earlier items (Wire name) e) h.1
all_targets m earlier (Register name initial ∷ items) e h = all_targets m (earlier ++ Register name initial ∷ []) items (onward m earlier items (Register name initial) e) h.1
all_targets m earlier (Always clock register value ∷ items) e h = all_targets m (earlier ++ Always clock register value ∷ []) items (onward m earlier items (Always clock register value) e) h.1
all_targets m earlier (Assign target value ∷ items) e h =
    All-cons (IsOf is_net m) target (assigned items)
    (of_before is_net refl m earlier (Assign target value ∷ items) target e (not_wrong (is_net (kind_before m earlier target)) (has_name (assigned earlier) target.bytes) h.0.0))
    (all_targets m (earlier ++ Assign target value ∷ []) items (onward m earlier items (Assign target value) e) h.1)

-- the left sides of `always` are registers
pub all_updated : (m : Module (List Mark)) (earlier items : List (Item (List Mark))) → m.items ≡ earlier ++ items → AllGood m earlier items → All (IsOf is_register m) (updated items)
all_updated m earlier [] e h = All-nil (IsOf is_register m)
all_updated m earlier (Wire name ∷ items) e h = all_updated m (earlier ++ Wire name ∷ []) items (onward m earlier items (Wire name) e) h.1
all_updated m earlier (Register name initial ∷ items) e h = all_updated m (earlier ++ Register name initial ∷ []) items (onward m earlier items (Register name initial) e) h.1
all_updated m earlier (Assign target value ∷ items) e h = all_updated m (earlier ++ Assign target value ∷ []) items (onward m earlier items (Assign target value) e) h.1
all_updated m earlier (Always clock register value ∷ items) e h =
    All-cons (IsOf is_register m) register (updated items)
    (of_before is_register refl m earlier (Always clock register value ∷ items) register e (not_wrong (is_register (kind_before m earlier register)) (has_name (updated earlier) register.bytes) h.0.1))
    (all_updated m (earlier ++ Always clock register value ∷ []) items (onward m earlier items (Always clock register value) e) h.1)

-- each target once
pub once_targets : (m : Module (List Mark)) (earlier items : List (Item (List Mark))) → m.items ≡ earlier ++ items → AllGood m earlier items → AllPairs (λ s t. s ≢ t) (numbers m (assigned earlier)) → AllPairs (λ s t. s ≢ t) (numbers m (assigned m.items))
once_targets m earlier [] e h p = subst (λ (xs : List (Item (List Mark))). AllPairs (λ s t. s ≢ t) (numbers m (assigned xs))) (sym (e ∙ append-nil earlier)) p
once_targets m earlier (Wire name ∷ items) e h p =
    once_targets m (earlier ++ Wire name ∷ []) items (onward m earlier items (Wire name) e) h.1 (subst (λ ns. AllPairs (λ s t. s ≢ t) (numbers m ns)) (sym (none_more assigned_by earlier (Wire name) refl)) p)
once_targets m earlier (Register name initial ∷ items) e h p =
    once_targets m (earlier ++ Register name initial ∷ []) items (onward m earlier items (Register name initial) e) h.1 (subst (λ ns. AllPairs (λ s t. s ≢ t) (numbers m ns)) (sym (none_more assigned_by earlier (Register name initial) refl)) p)
once_targets m earlier (Always clock register value ∷ items) e h p =
    once_targets m (earlier ++ Always clock register value ∷ []) items (onward m earlier items (Always clock register value) e) h.1 (subst (λ ns. AllPairs (λ s t. s ≢ t) (numbers m ns)) (sym (none_more assigned_by earlier (Always clock register value) refl)) p)
once_targets m earlier (Assign target value ∷ items) e h p =
    let of = of_before is_net refl m earlier (Assign target value ∷ items) target e (not_wrong (is_net (kind_before m earlier target)) (has_name (assigned earlier) target.bytes) h.0.0) in
    once_targets m (earlier ++ Assign target value ∷ []) items (onward m earlier items (Assign target value) e) h.1
    (subst (λ ns. AllPairs (λ s t. s ≢ t) (numbers m ns)) (sym (brought_more assigned_by earlier (Assign target value)))
    (pairs_more m (assigned earlier) target of.k of.found (not_repeated (is_net (kind_before m earlier target)) (has_name (assigned earlier) target.bytes) h.0.0) p))

-- each left side once
pub once_updated : (m : Module (List Mark)) (earlier items : List (Item (List Mark))) → m.items ≡ earlier ++ items → AllGood m earlier items → AllPairs (λ s t. s ≢ t) (numbers m (updated earlier)) → AllPairs (λ s t. s ≢ t) (numbers m (updated m.items))
once_updated m earlier [] e h p = subst (λ (xs : List (Item (List Mark))). AllPairs (λ s t. s ≢ t) (numbers m (updated xs))) (sym (e ∙ append-nil earlier)) p
once_updated m earlier (Wire name ∷ items) e h p =
    once_updated m (earlier ++ Wire name ∷ []) items (onward m earlier items (Wire name) e) h.1 (subst (λ ns. AllPairs (λ s t. s ≢ t) (numbers m ns)) (sym (none_more updated_by earlier (Wire name) refl)) p)
once_updated m earlier (Register name initial ∷ items) e h p =
    once_updated m (earlier ++ Register name initial ∷ []) items (onward m earlier items (Register name initial) e) h.1 (subst (λ ns. AllPairs (λ s t. s ≢ t) (numbers m ns)) (sym (none_more updated_by earlier (Register name initial) refl)) p)
once_updated m earlier (Assign target value ∷ items) e h p =
    once_updated m (earlier ++ Assign target value ∷ []) items (onward m earlier items (Assign target value) e) h.1 (subst (λ ns. AllPairs (λ s t. s ≢ t) (numbers m ns)) (sym (none_more updated_by earlier (Assign target value) refl)) p)
once_updated m earlier (Always clock register value ∷ items) e h p =
    let of = of_before is_register refl m earlier (Always clock register value ∷ items) register e (not_wrong (is_register (kind_before m earlier register)) (has_name (updated earlier) register.bytes) h.0.1) in
    once_updated m (earlier ++ Always clock register value ∷ []) items (onward m earlier items (Always clock register value) e) h.1
    (subst (λ ns. AllPairs (λ s t. s ≢ t) (numbers m ns)) (sym (brought_more updated_by earlier (Always clock register value)))
    (pairs_more m (updated earlier) register of.k of.found (not_repeated (is_register (kind_before m earlier register)) (has_name (updated earlier) register.bytes) h.0.1) p))

-- the targets of drivers, and the registers of blocks
pub targets_are : (m : Module (List Mark)) (value : List Mark → Expr) (items : List (Item (List Mark))) → targets (flat_map (driver_of (table m) value) items) ≡ numbers m (assigned items)
targets_are m value [] = refl
targets_are m value (Wire name ∷ items) = targets_are m value items
targets_are m value (Register name initial ∷ items) = targets_are m value items
targets_are m value (Assign target right ∷ items) = ap (λ ns. number m target ∷ ns) (targets_are m value items)
targets_are m value (Always clock register right ∷ items) = targets_are m value items

pub registers_are : (m : Module (List Mark)) (value : List Mark → Expr) (items : List (Item (List Mark))) → assigned_registers (flat_map (block_of (table m) value) items) ≡ numbers m (updated items)
registers_are m value [] = refl
registers_are m value (Wire name ∷ items) = registers_are m value items
registers_are m value (Register name initial ∷ items) = registers_are m value items
registers_are m value (Assign target right ∷ items) = registers_are m value items
registers_are m value (Always clock register right ∷ items) = ap (λ ns. number m register ∷ ns) (registers_are m value items)

-- the expressions of right sides read the signals of their names
abbrev pub ReadsRight : Module (List Mark) → (List Mark → Expr) → Item (List Mark) → Type 0
ReadsRight m value (Wire name) = Unit {0}
ReadsRight m value (Register name initial) = Unit {0}
ReadsRight m value (Assign target right) = reads (value right) ≡ numbers m (names_in right)
ReadsRight m value (Always clock register right) = reads (value right) ≡ numbers m (names_in right)

abbrev pub AllReadRight : Module (List Mark) → (List Mark → Expr) → List (Item (List Mark)) → Type 0
AllReadRight m value [] = Unit {0}
AllReadRight m value (item ∷ items) = ReadsRight m value item × AllReadRight m value items

-- a name that an expression may read, where these items drive nets
readable_name : (m : Module (List Mark)) (value : List Mark → Expr) (earlier more : List (Item (List Mark))) (name : Name) → m.items ≡ earlier ++ more → is_unreadable m earlier name ≡ false
    → IsTrue (netlist.is_readable (net m value) (flat_map (driver_of (table m) value) earlier) (number m name))
readable_name m value earlier more name e h = by (kind_before m earlier name) refl (readable (is_readable (kind_before m earlier name) (has_name (clocks m.items) name.bytes) (has_name (assigned earlier) name.bytes)) h)
  where
    readable : (b : Bool) → not b ≡ false → b ≡ true
    readable true t = refl
    readable false t = cc

    first : (a b c : Bool) → a ≡ true → (a || b || c) ≡ true
    first true b c t = refl
    first false b c t = cc

    second : (a b c : Bool) → b ≡ true → (a || b || c) ≡ true
    second true b c t = refl
    second false true c t = refl
    second false false c t = cc

    third : (a b c : Bool) → c ≡ true → (a || b || c) ≡ true
    third true b c t = refl
    third false true c t = refl
    third false false true t = refl
    third false false false t = cc

    by_driven : (k : Kind) → kind_of (signals_of m) name.bytes ≡ Some k → has_name (assigned earlier) name.bytes ≡ true → has (targets (flat_map (driver_of (table m) value) earlier)) (number m name) ≡ true
    by_driven k f t = ap (λ ns. has ns (number m name)) (targets_are m value earlier) ∙ has_numbers m (assigned earlier) name k f ∙ t

    by : (o : Option Kind) → kind_before m earlier name ≡ o → is_readable o (has_name (clocks m.items) name.bytes) (has_name (assigned earlier) name.bytes) ≡ true
        → (has (data_signals (net m value)) (number m name) || netlist.is_register (net m value) (number m name) || has (targets (flat_map (driver_of (table m) value) earlier)) (number m name)) ≡ true
    by None f t = cc
    by (Some kind.Input) f t =
        let there = stays m earlier more name.bytes kind.Input e f in
        first (has (data_signals (net m value)) (number m name)) (netlist.is_register (net m value) (number m name)) (has (targets (flat_map (driver_of (table m) value) earlier)) (number m name))
        (has_data m value (number m name) ∙ named_test m value (data_test (texts (clocks m.items))) name kind.Input there ∙ ap not (has_texts (clocks m.items) name.bytes) ∙ t)
    by (Some kind.Output) f t =
        third (has (data_signals (net m value)) (number m name)) (netlist.is_register (net m value) (number m name)) (has (targets (flat_map (driver_of (table m) value) earlier)) (number m name))
        (by_driven kind.Output (stays m earlier more name.bytes kind.Output e f) t)
    by (Some kind.Wire) f t =
        third (has (data_signals (net m value)) (number m name)) (netlist.is_register (net m value) (number m name)) (has (targets (flat_map (driver_of (table m) value) earlier)) (number m name))
        (by_driven kind.Wire (stays m earlier more name.bytes kind.Wire e f) t)
    by (Some (kind.Register initial)) f t =
        let there = stays m earlier more name.bytes (kind.Register initial) e f in
        second (has (data_signals (net m value)) (number m name)) (netlist.is_register (net m value) (number m name)) (has (targets (flat_map (driver_of (table m) value) earlier)) (number m name))
        (at_register m value (number m name) ∙ named_test m value registers_test name (kind.Register initial) there)

-- what an expression reads where these items drive nets
pub readable_all : (m : Module (List Mark)) (value : List Mark → Expr) (earlier more : List (Item (List Mark))) (right : List Mark) → m.items ≡ earlier ++ more → All (λ n. is_unreadable m earlier n ≡ false) (names_in right)
    → reads (value right) ≡ numbers m (names_in right) → All (λ s. IsTrue (netlist.is_readable (net m value) (flat_map (driver_of (table m) value) earlier) s)) (reads (value right))
readable_all m value earlier more right e all r =
    subst (All (λ s. IsTrue (netlist.is_readable (net m value) (flat_map (driver_of (table m) value) earlier) s))) (sym r)
    (All-map (λ s. IsTrue (netlist.is_readable (net m value) (flat_map (driver_of (table m) value) earlier) s)) (number m) (names_in right)
    (λ k d lt. readable_name m value earlier more (get_or (names_in right) k d) e (all k d lt)))

-- an item that brings no driver
skip : (m : Module (List Mark)) (value : List Mark → Expr) (earlier items : List (Item (List Mark))) (item : Item (List Mark)) (j : ℕ) (driver : Driver) → driver_of (table m) value item ≡ []
    → All (λ s. IsTrue (netlist.is_readable (net m value) (flat_map (driver_of (table m) value) (earlier ++ item ∷ []) ++ take j (flat_map (driver_of (table m) value) items)) s)) (reads driver.value)
    → All (λ s. IsTrue (netlist.is_readable (net m value) (flat_map (driver_of (table m) value) earlier ++ take j (flat_map (driver_of (table m) value) items)) s)) (reads driver.value)
skip m value earlier items item j driver none h =
    let f = driver_of (table m) value in
    let same : flat_map f (earlier ++ item ∷ []) ≡ flat_map f earlier =
    flat_map-append f earlier (item ∷ []) ∙ ap (λ (ds : List Driver). flat_map f earlier ++ (ds ++ [])) none ∙ append-nil (flat_map f earlier) in
    subst (λ (ds : List Driver). All (λ s. IsTrue (netlist.is_readable (net m value) (ds ++ take j (flat_map f items)) s)) (reads driver.value)) same h

-- each driver, and the items before the one that brings it
pub ranked_from : (m : Module (List Mark)) (value : List Mark → Expr) (earlier items : List (Item (List Mark))) → m.items ≡ earlier ++ items → AllGood m earlier items → AllReadRight m value items → (j : ℕ) (driver : Driver)
    → slice_get (flat_map (driver_of (table m) value) items) j ≡ Some driver
    → All (λ s. IsTrue (netlist.is_readable (net m value) (flat_map (driver_of (table m) value) earlier ++ take j (flat_map (driver_of (table m) value) items)) s)) (reads driver.value)
ranked_from m value earlier [] e h r j driver there = cc
ranked_from m value earlier (Wire name ∷ items) e h r j driver there = skip m value earlier items (Wire name) j driver refl (ranked_from m value (earlier ++ Wire name ∷ []) items (onward m earlier items (Wire name) e) h.1 r.1 j driver there)
ranked_from m value earlier (Register name initial ∷ items) e h r j driver there = skip m value earlier items (Register name initial) j driver refl (ranked_from m value (earlier ++ Register name initial ∷ []) items (onward m earlier items (Register name initial) e) h.1 r.1 j driver there)
ranked_from m value earlier (Always clock register right ∷ items) e h r j driver there = skip m value earlier items (Always clock register right) j driver refl (ranked_from m value (earlier ++ Always clock register right ∷ []) items (onward m earlier items (Always clock register right) e) h.1 r.1 j driver there)
ranked_from m value earlier (Assign target right ∷ items) e h r zero driver there =
    let made : Driver = record { target = number m target; value = value right } in
    let same : made ≡ driver = cc in
    subst (λ (d : Driver). All (λ s. IsTrue (netlist.is_readable (net m value) (flat_map (driver_of (table m) value) earlier ++ []) s)) (reads d.value)) same
    (subst (λ (ds : List Driver). All (λ s. IsTrue (netlist.is_readable (net m value) ds s)) (reads (value right))) (sym (append-nil (flat_map (driver_of (table m) value) earlier)))
    (readable_all m value earlier (Assign target right ∷ items) right e h.0.1 r.0))
ranked_from m value earlier (Assign target right ∷ items) e h r (suc j) driver there =
    let made : Driver = record { target = number m target; value = value right } in
    let f = driver_of (table m) value in
    let front : flat_map f (earlier ++ Assign target right ∷ []) ++ take j (flat_map f items) ≡ flat_map f earlier ++ made ∷ take j (flat_map f items) =
    ap (λ (ds : List Driver). ds ++ take j (flat_map f items)) (flat_map-append f earlier (Assign target right ∷ [])) ∙ append_assoc (flat_map f earlier) (made ∷ []) (take j (flat_map f items)) in
    subst (λ (ds : List Driver). All (λ s. IsTrue (netlist.is_readable (net m value) ds s)) (reads driver.value)) front
    (ranked_from m value (earlier ++ Assign target right ∷ []) items (onward m earlier items (Assign target right) e) h.1 r.1 j driver there)
