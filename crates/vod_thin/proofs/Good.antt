-- What is known of a module in which no name breaks a rule.
use Rattle.std.proofs.Common.{◌≡◌, ℕ, zero, suc, ◌+◌, ◌<◌, Bool, true, false, not, ◌||◌, ◌&&◌, if◌then◌else◌, List, [], ◌∷◌, ◌++◌, Option, None, Some, map, length, get_or, All, refl, sym, ap, ◌∙◌, subst, arith, append_assoc, append-nil, slice_get}
use Rattle.std.specs.List.{flat_map, position_or_len}
use Rattle.std.specs.Option.{is_some}
use Rattle.std.specs.Str.{bytes_eq}
use Rattle.std.proofs.lemmas.List.{map_push}
use Rattle.std.proofs.lemmas.List.Elements.{All-nil, All-cons}
use Rattle.std.proofs.lemmas.Slice.Eq.{bytes_eq-Decides}
use Rattle.vod_thin_syntax.specs.Syntax.{Name, Mark, Item, Wire, Register, Assign, Always, Port, Module}
use Rattle.vod_thin.specs.declared.names.Kind.{Kind}
use Rattle.vod_thin.specs.declared.names.Kind.TheVariants as kind
use Rattle.vod_thin.specs.Signals.{Declared, declared_port, declared_by, declared, signals_of, entries, kind_of, has_name, names_in, assigned_by, clock_by, updated_by, read_by, assigned, is_net}
use Rattle.vod_thin.specs.Rules.{each_after, place_if, places_where, is_wrong_signal, is_wrong_target, is_wrong_clock, is_wrong_register, is_unreadable, signal_faults, port_faults, item_faults, faults}
use Rattle.vod_thin.specs.Netlists.{number_of}
use Rattle.vod_thin.specs.View.{found, with_entry, first_entries}
use Rattle.vod_thin.proofs.Matches.{or_kind, kind_of-append, found_more, if_same, declared_more, signal_more}

none_left : (xs ys : List ℕ) → xs ++ ys ≡ [] → xs ≡ []
none_left [] ys e = refl
none_left (x ∷ xs) ys e = cc

none_right : (xs ys : List ℕ) → xs ++ ys ≡ [] → ys ≡ []
none_right [] ys e = e
none_right (x ∷ xs) ys e = cc

no_place : (b : Bool) (name : Name) → place_if b name ≡ [] → b ≡ false
no_place true name e = cc
no_place false name e = refl

one_place : (b : Bool) (name : Name) → place_if b name ++ [] ≡ [] → b ≡ false
one_place b name e = no_place b name (none_left (place_if b name) [] e)

no_places : (p : Name → Bool) (names : List Name) → places_where p names ≡ [] → All (λ n. p n ≡ false) names
no_places p [] e = All-nil (λ n. p n ≡ false)
no_places p (name ∷ names) e =
    All-cons (λ n. p n ≡ false) name names (no_place (p name) name (none_left (place_if (p name) name) (places_where p names) e)) (no_places p names (none_right (place_if (p name) name) (places_where p names) e))

-- an item breaks no rule
abbrev pub Good : Module (List Mark) → List (Item (List Mark)) → Item (List Mark) → Type 0
Good m earlier (Wire name) = (d : Declared) → declared_by {V = List Mark} (Wire name) ≡ d ∷ [] → is_wrong_signal m (declared m.ports earlier) d ≡ false
Good m earlier (Register name initial) = (d : Declared) → declared_by {V = List Mark} (Register name initial) ≡ d ∷ [] → is_wrong_signal m (declared m.ports earlier) d ≡ false
Good m earlier (Assign target value) = (is_wrong_target m earlier target ≡ false) × All (λ n. is_unreadable m earlier n ≡ false) (names_in value)
Good m earlier (Always clock register value) = (is_wrong_clock m earlier clock ≡ false) × (is_wrong_register m earlier register ≡ false) × All (λ n. is_unreadable m earlier n ≡ false) (names_in value)

same_signal : {d e : Declared} → d ∷ [] ≡ e ∷ [] → d ≡ e
same_signal {d} {e} h = cc

good_item : (m : Module (List Mark)) (earlier : List (Item (List Mark))) (item : Item (List Mark)) → item_faults m earlier item ≡ [] → Good m earlier item
good_item m earlier (Wire name) e = λ d is.
    let own : Declared = record { name = name; kind = kind.Wire } in
    subst (λ s. is_wrong_signal m (declared m.ports earlier) s ≡ false) (same_signal is)
    (one_place (is_wrong_signal m (declared m.ports earlier) own) name (none_left (signal_faults m (declared m.ports earlier) (own ∷ [])) [] e))
good_item m earlier (Register name initial) e = λ d is.
    let own : Declared = record { name = name; kind = kind.Register initial } in
    subst (λ s. is_wrong_signal m (declared m.ports earlier) s ≡ false) (same_signal is)
    (one_place (is_wrong_signal m (declared m.ports earlier) own) name (none_left (signal_faults m (declared m.ports earlier) (own ∷ [])) [] e))
good_item m earlier (Assign target value) e =
    let reads : List ℕ = places_where (is_unreadable m earlier) (names_in value) in
    let first : List ℕ = place_if (is_wrong_target m earlier target) target ++ [] in
    (one_place (is_wrong_target m earlier target) target (none_left first reads e), no_places (is_unreadable m earlier) (names_in value) (none_right first reads e))
good_item m earlier (Always clock register value) e =
    let reads : List ℕ = places_where (is_unreadable m earlier) (names_in value) in
    let first : List ℕ = place_if (is_wrong_clock m earlier clock) clock ++ [] in
    let second : List ℕ = place_if (is_wrong_register m earlier register) register ++ [] in (
      one_place (is_wrong_clock m earlier clock) clock (none_left first (second ++ reads) e),
      one_place (is_wrong_register m earlier register) register (none_left second reads (none_right first (second ++ reads) e)),
      no_places (is_unreadable m earlier) (names_in value) (none_right second reads (none_right first (second ++ reads) e)),
    )

-- items, each behind those before it
abbrev pub AllGood : Module (List Mark) → List (Item (List Mark)) → List (Item (List Mark)) → Type 0
AllGood m earlier [] = Unit {0}
AllGood m earlier (item ∷ items) = Good m earlier item × AllGood m (earlier ++ item ∷ []) items

good_items : (m : Module (List Mark)) (earlier items : List (Item (List Mark))) → each_after (item_faults m) earlier items ≡ [] → AllGood m earlier items
good_items m earlier [] e = tt
good_items m earlier (item ∷ items) e =
    let rest : List ℕ = each_after (item_faults m) (earlier ++ item ∷ []) items in
    (good_item m earlier item (none_left (item_faults m earlier item) rest e), good_items m (earlier ++ item ∷ []) items (none_right (item_faults m earlier item) rest e))

-- signals, each behind those before it
abbrev pub Fresh : Module (List Mark) → List Declared → List Declared → Type 0
Fresh m before [] = Unit {0}
Fresh m before (d ∷ ds) = (is_wrong_signal m before d ≡ false) × Fresh m (before ++ d ∷ []) ds

fresh_append : (m : Module (List Mark)) (before ds more : List Declared) → Fresh m before ds → Fresh m (before ++ ds) more → Fresh m before (ds ++ more)
fresh_append m before [] more h g = subst (λ b. Fresh m b more) (append-nil before) g
fresh_append m before (d ∷ ds) more h g =
    (h.0, fresh_append m (before ++ d ∷ []) ds more h.1 (subst (λ b. Fresh m b more) (sym (append_assoc before (d ∷ []) ds)) g))

fresh_ports : (m : Module (List Mark)) (earlier ports : List Port) → each_after (port_faults m) earlier ports ≡ [] → Fresh m (map declared_port earlier) (map declared_port ports)
fresh_ports m earlier [] e = tt
fresh_ports m earlier (port ∷ ports) e =
    let rest : List ℕ = each_after (port_faults m) (earlier ++ port ∷ []) ports in
    let own : Declared = declared_port port in (
      one_place (is_wrong_signal m (map declared_port earlier) own) port.name (none_left (port_faults m earlier port) rest e),
      subst (λ b. Fresh m b (map declared_port ports)) (map_push declared_port earlier port) (fresh_ports m (earlier ++ port ∷ []) ports (none_right (port_faults m earlier port) rest e)),
    )

fresh_items : (m : Module (List Mark)) (earlier items : List (Item (List Mark))) → AllGood m earlier items → Fresh m (declared m.ports earlier) (flat_map declared_by items)
fresh_items m earlier [] h = tt
fresh_items m earlier (Wire name ∷ items) h =
    let own : Declared = record { name = name; kind = kind.Wire } in
    (h.0 own refl, subst (λ b. Fresh m b (flat_map declared_by items)) (declared_more m.ports earlier (Wire name)) (fresh_items m (earlier ++ Wire name ∷ []) items h.1))
fresh_items m earlier (Register name initial ∷ items) h =
    let own : Declared = record { name = name; kind = kind.Register initial } in
    (h.0 own refl, subst (λ b. Fresh m b (flat_map declared_by items)) (declared_more m.ports earlier (Register name initial)) (fresh_items m (earlier ++ Register name initial ∷ []) items h.1))
fresh_items m earlier (Assign target value ∷ items) h =
    subst (λ b. Fresh m b (flat_map declared_by items)) (declared_more m.ports earlier (Assign target value) ∙ append-nil (declared m.ports earlier)) (fresh_items m (earlier ++ Assign target value ∷ []) items h.1)
fresh_items m earlier (Always clock register value ∷ items) h =
    subst (λ b. Fresh m b (flat_map declared_by items)) (declared_more m.ports earlier (Always clock register value) ∙ append-nil (declared m.ports earlier)) (fresh_items m (earlier ++ Always clock register value ∷ []) items h.1)

-- a module in which no name breaks a rule
pub record Kept (m : Module (List Mark)) : Type 0 where
  pub fresh : Fresh m [] (signals_of m)
  pub good : AllGood m [] m.items

pub kept : (m : Module (List Mark)) → faults m ≡ [] → Kept m
kept m e =
    let ports : List ℕ = each_after (port_faults m) [] m.ports in
    let items : List ℕ = each_after (item_faults m) [] m.items in
    let good : AllGood m [] m.items = good_items m [] m.items (none_right ports items e) in
    record {
      good = good;
      fresh = fresh_append m [] (map declared_port m.ports) (flat_map declared_by m.items) (fresh_ports m [] m.ports (none_left ports items e))
          (subst (λ b. Fresh m b (flat_map declared_by m.items)) (append-nil (map declared_port m.ports)) (fresh_items m [] m.items good));
    }

or_false_left : (a b : Bool) → (a || b) ≡ false → a ≡ false
or_false_left true b e = cc
or_false_left false b e = refl

or_false_right : (a b : Bool) → (a || b) ≡ false → b ≡ false
or_false_right true b e = cc
or_false_right false b e = e

no_kind : (o : Option Kind) → is_some o ≡ false → o ≡ None
no_kind None e = refl
no_kind (Some k) e = cc

pub new_name : (m : Module (List Mark)) (before : List Declared) (d : Declared) → is_wrong_signal m before d ≡ false → kind_of before d.name.bytes ≡ None
new_name m before d e = no_kind (kind_of before d.name.bytes) (or_false_left (is_some (kind_of before d.name.bytes)) (is_net (Some d.kind) && not (has_name (assigned m.items) d.name.bytes)) e)

pub net_assigned : (m : Module (List Mark)) (before : List Declared) (d : Declared) → is_wrong_signal m before d ≡ false → is_net (Some d.kind) ≡ true → has_name (assigned m.items) d.name.bytes ≡ true
net_assigned m before d e net =
    by (has_name (assigned m.items) d.name.bytes) (ap (λ b. b && not (has_name (assigned m.items) d.name.bytes)) (sym net) ∙ or_false_right (is_some (kind_of before d.name.bytes)) (is_net (Some d.kind) && not (has_name (assigned m.items) d.name.bytes)) e)
  where
    by : (b : Bool) → (true && not b) ≡ false → b ≡ true
    by true h = refl
    by false h = cc

-- the table has all signals
kept_entries : (m : Module (List Mark)) (before ds : List Declared) (es : List (List ℕ × Kind)) → ((text : List ℕ) → found es text ≡ kind_of before text) → Fresh m before ds → first_entries es ds ≡ es ++ entries ds
kept_entries m before [] es h f = sym (append-nil es)
kept_entries m before (d ∷ ds) es h f =
    let none : is_some (found es d.name.bytes) ≡ false = ap is_some (h d.name.bytes ∙ new_name m before d f.0) in
    let added : with_entry es d.name.bytes d.kind ≡ es ++ (d.name.bytes, d.kind) ∷ [] = ap (λ b. if b then es else es ++ (d.name.bytes, d.kind) ∷ []) none in
    kept_entries m (before ++ d ∷ []) ds (with_entry es d.name.bytes d.kind) (signal_more es before d h) f.1
    ∙ ap (λ (fs : List (List ℕ × Kind)). fs ++ entries ds) added ∙ append_assoc es ((d.name.bytes, d.kind) ∷ []) (entries ds)

pub all_entries : (m : Module (List Mark)) (ds : List Declared) → Fresh m [] ds → first_entries [] ds ≡ entries ds
all_entries m ds f = kept_entries m [] ds [] (λ text. refl) f

-- what is known of the signal with a number
pub record Own (m : Module (List Mark)) (ds : List Declared) (i : ℕ) (d : Declared) : Type 0 where
  pub numbered : number_of (entries ds) d.name.bytes ≡ i
  pub kind_is : kind_of ds d.name.bytes ≡ Some d.kind
  pub assigned_is : is_net (Some d.kind) ≡ true → has_name (assigned m.items) d.name.bytes ≡ true

-- a later signal has no earlier one's name
later : (m : Module (List Mark)) (before ds : List Declared) (i : ℕ) (d : Declared) → Fresh m before ds → slice_get ds i ≡ Some d → kind_of before d.name.bytes ≡ None
later m before [] i d f e = cc
later m before (x ∷ ds) zero d f e = let same : x ≡ d = cc in subst (λ v. kind_of before v.name.bytes ≡ None) same (new_name m before x f.0)
later m before (x ∷ ds) (suc i) d f e =
    left (kind_of before d.name.bytes) (kind_of (x ∷ []) d.name.bytes) (sym (kind_of-append before (x ∷ []) d.name.bytes) ∙ later m (before ++ x ∷ []) ds i d f.1 e)
  where
    left : (a b : Option Kind) → or_kind a b ≡ None → a ≡ None
    left None b h = refl
    left (Some k) b h = cc

pub own : (m : Module (List Mark)) (before ds : List Declared) (i : ℕ) (d : Declared) → Fresh m before ds → slice_get ds i ≡ Some d → Own m ds i d
own m before [] i d f e = cc
own m before (x ∷ ds) zero d f e =
    let same : x ≡ d = cc in
    subst (λ v. Own m (x ∷ ds) 0 v) same (record {
      numbered = ap (λ b. if not b then 1 + number_of (entries ds) x.name.bytes else 0) itself;
      kind_is = ap (λ b. if b then Some x.kind else kind_of ds x.name.bytes) itself;
      assigned_is = net_assigned m before x f.0;
    })
  where
    itself : bytes_eq x.name.bytes x.name.bytes ≡ true
    itself = (bytes_eq-Decides x.name.bytes x.name.bytes).1 refl
own m before (x ∷ ds) (suc i) d f e =
    let rest = own m (before ++ x ∷ []) ds i d f.1 e in
    let none : kind_of (x ∷ []) d.name.bytes ≡ None =
    right (kind_of before d.name.bytes) (kind_of (x ∷ []) d.name.bytes) (sym (kind_of-append before (x ∷ []) d.name.bytes) ∙ later m (before ++ x ∷ []) ds i d f.1 e) in
    let other : bytes_eq d.name.bytes x.name.bytes ≡ false = differ (bytes_eq d.name.bytes x.name.bytes) x.kind none in
    let numbered = rest.numbered in
    let next : 1 + number_of (entries ds) d.name.bytes ≡ suc i = omega arith in
    record {
      numbered = ap (λ b. if not b then 1 + number_of (entries ds) d.name.bytes else 0) other ∙ next;
      kind_is = ap (λ b. if b then Some x.kind else kind_of ds d.name.bytes) other ∙ rest.kind_is;
      assigned_is = rest.assigned_is;
    }
  where
    right : (a b : Option Kind) → or_kind a b ≡ None → b ≡ None
    right None b h = h
    right (Some k) b h = cc

    differ : (b : Bool) (k : Kind) → (if b then Some k else None) ≡ None → b ≡ false
    differ true k h = cc
    differ false k h = refl
