-- The code's tables answer as the definitions do, and find the same places.
use Rattle.std.proofs.Common.{◌≡◌, ℕ, List, [], ◌∷◌, ◌++◌, Option, None, Some, Bool, true, false, not, ◌||◌, ◌&&◌, if◌then◌else◌, map, refl, sym, ap, ◌∙◌, subst, append_assoc, append-nil}
use Rattle.std.specs.List.{flat_map, list_any}
use Rattle.std.specs.Option.{is_some}
use Rattle.std.specs.Str.{bytes_eq}
use Rattle.std.proofs.lemmas.Grind.{flat_map-append}
use Rattle.std.proofs.lemmas.List.{map-append}
use Rattle.std.proofs.lemmas.List.Folds.{list_any-append}
use Rattle.std.proofs.lemmas.Slice.Eq.{bytes_eq-Decides}
use Rattle.vod_thin_syntax.specs.Syntax.{Name, Mark, Named, Fixed, Item, Wire, Register, Assign, Always, Port, Module}
use Rattle.vod_thin.specs.declared.names.Kind.{Kind}
use Rattle.vod_thin.specs.declared.names.Kind.TheVariants as kind
use Rattle.vod_thin.specs.Signals.{Declared, port_kind, declared_port, declared_by, declared, signals_of, kind_of, has_name, texts, has_text, names_in, assigned_by, clock_by, updated_by, assigned, clocks, updated, is_input, is_net, is_register}
use Rattle.vod_thin.specs.Rules.{each_after, place_if, places_where, kind_before, is_wrong_signal, is_wrong_target, is_other, is_wrong_clock, is_wrong_register, is_readable, is_unreadable, signal_faults, port_faults, item_faults, faults}
use Rattle.vod_thin.specs.Tables.{Tables, declares_wrongly, assigns_wrongly, differs, waits_wrongly, updates_wrongly, reads_wrongly, read_places, port_places, item_places, with_signal, with_port, first_of, with_item, with_always, with_ports, with_items, all_port_places, all_item_places, with_uses, with_all_uses, no_tables}
use Rattle.vod_thin.specs.View.{with_text, distinct, with_entry, first_entries, found}

-- the first of two
abbrev pub or_kind : Option Kind → Option Kind → Option Kind
or_kind None other = other
or_kind (Some kind) other = Some kind

or_none : (a : Option Kind) → or_kind a None ≡ a
or_none None = refl
or_none (Some kind) = refl

abbrev pub if_same : List ℕ → List ℕ → Kind → Option Kind
if_same text name kind = if bytes_eq text name then Some kind else None

pub kind_of-append : (signals more : List Declared) (text : List ℕ) → kind_of (signals ++ more) text ≡ or_kind (kind_of signals text) (kind_of more text)
kind_of-append [] more text = refl
kind_of-append (signal ∷ signals) more text = by (bytes_eq text signal.name.bytes) (kind_of-append signals more text)
  where
    by : (b : Bool) → kind_of (signals ++ more) text ≡ or_kind (kind_of signals text) (kind_of more text)
        → (if b then Some signal.kind else kind_of (signals ++ more) text) ≡ or_kind (if b then Some signal.kind else kind_of signals text) (kind_of more text)
    by true e = refl
    by false e = e

found-append : (es : List (List ℕ × Kind)) (name : List ℕ) (k : Kind) (text : List ℕ) → found (es ++ (name, k) ∷ []) text ≡ or_kind (found es text) (if_same text name k)
found-append [] name k text = refl
found-append (e ∷ es) name k text = by (bytes_eq text e.0) (found-append es name k text)
  where
    by : (b : Bool) → found (es ++ (name, k) ∷ []) text ≡ or_kind (found es text) (if_same text name k)
        → (if b then Some e.1 else found (es ++ (name, k) ∷ []) text) ≡ or_kind (if b then Some e.1 else found es text) (if_same text name k)
    by true e = refl
    by false e = e

-- a signal more
pub found_more : (es : List (List ℕ × Kind)) (name : List ℕ) (k : Kind) (text : List ℕ) → found (with_entry es name k) text ≡ or_kind (found es text) (if_same text name k)
found_more es name k text = by (found es name) refl
  where
    other : (f : Option Kind) → found es name ≡ f → is_some f ≡ true → (b : Bool) → bytes_eq text name ≡ b → found es text ≡ or_kind (found es text) (if b then Some k else None)
    other None e s b t = cc
    other (Some old) e s false t = sym (or_none (found es text))
    other (Some old) e s true t =
        let same : text ≡ name = (bytes_eq-Decides text name).0 t in
        let there : found es text ≡ Some old = ap (found es) same ∙ e in
        there ∙ ap (λ o. or_kind o (Some k)) (sym there)

    by : (f : Option Kind) → found es name ≡ f → found (if is_some f then es else es ++ (name, k) ∷ []) text ≡ or_kind (found es text) (if_same text name k)
    by None e = found-append es name k text
    by (Some old) e = other (Some old) e refl (bytes_eq text name) refl

-- a text more
pub text_more : (held : List (List ℕ)) (name text : List ℕ) → has_text (with_text held name) text ≡ (has_text held text || bytes_eq text name)
text_more held name text = by (has_text held name) refl
  where
    or_false : (b : Bool) → (b || false) ≡ b
    or_false true = refl
    or_false false = refl

    other : has_text held name ≡ true → (b : Bool) → bytes_eq text name ≡ b → has_text held text ≡ (has_text held text || b)
    other e false t = sym (or_false (has_text held text))
    other e true t =
        let there : has_text held text ≡ true = ap (has_text held) ((bytes_eq-Decides text name).0 t) ∙ e in
        there ∙ ap (λ b. b || true) (sym there)

    by : (b : Bool) → has_text held name ≡ b → has_text (if b then held else held ++ name ∷ []) text ≡ (has_text held text || bytes_eq text name)
    by true e = other e (bytes_eq text name) refl
    by false e = list_any-append (bytes_eq text) held (name ∷ []) ∙ ap (λ b. has_text held text || b) (or_false (bytes_eq text name))

pub name_more : (names : List Name) (name : Name) (text : List ℕ) → has_name (names ++ name ∷ []) text ≡ (has_name names text || bytes_eq text name.bytes)
name_more names name text = list_any-append (λ (other : Name). bytes_eq text other.bytes) names (name ∷ []) ∙ ap (λ b. has_name names text || b) (or_false (bytes_eq text name.bytes))
  where
    or_false : (b : Bool) → (b || false) ≡ b
    or_false true = refl
    or_false false = refl

abbrev pub head_text : List Name → Option (List ℕ)
head_text [] = None
head_text (name ∷ names) = Some name.bytes

-- tables behind ports and items of a module
pub record Matches (m : Module (List Mark)) (ports : List Port) (earlier : List (Item (List Mark))) (t : Tables) : Type 0 where
  pub clocks_are : (text : List ℕ) → has_text t.clocks text ≡ has_name (clocks m.items) text
  pub assigned_are : (text : List ℕ) → has_text t.assigned text ≡ has_name (assigned m.items) text
  pub signals_are : (text : List ℕ) → found t.signals text ≡ kind_of (declared ports earlier) text
  pub driven_are : (text : List ℕ) → has_text t.driven text ≡ has_name (assigned earlier) text
  pub updated_are : (text : List ℕ) → has_text t.updated text ≡ has_name (updated earlier) text
  pub clock_is : t.clock ≡ head_text (clocks earlier)

-- the same places of a list of names
where_same : (p q : Name → Bool) (names : List Name) → ((name : Name) → p name ≡ q name) → places_where p names ≡ places_where q names
where_same p q [] e = refl
where_same p q (name ∷ names) e = ap (λ b. place_if b name ++ places_where p names) (e name) ∙ ap (λ ps. place_if (q name) name ++ ps) (where_same p q names e)

module _ {m : Module (List Mark)} {ports : List Port} {earlier : List (Item (List Mark))} {t : Tables} (h : Matches m ports earlier t) where
  declared_same : (signal : Declared) → declares_wrongly t signal.name.bytes signal.kind ≡ is_wrong_signal m (declared ports earlier) signal
  declared_same signal =
      ap (λ o. is_some o || (is_net (Some signal.kind) && not (has_text t.assigned signal.name.bytes))) (h.signals_are signal.name.bytes)
      ∙ ap (λ b. is_some (kind_of (declared ports earlier) signal.name.bytes) || (is_net (Some signal.kind) && not b)) (h.assigned_are signal.name.bytes)

  signal_places : (signal : Declared) → place_if (declares_wrongly t signal.name.bytes signal.kind) signal.name ≡ signal_faults m (declared ports earlier) (signal ∷ [])
  signal_places signal = ap (λ b. place_if b signal.name) (declared_same signal) ∙ sym (append-nil (place_if (is_wrong_signal m (declared ports earlier) signal) signal.name))

module _ {m : Module (List Mark)} {earlier : List (Item (List Mark))} {t : Tables} (h : Matches m m.ports earlier t) where
  assigns_same : (name : Name) → assigns_wrongly t name.bytes ≡ is_wrong_target m earlier name
  assigns_same name =
      ap (λ o. not (is_net o) || has_text t.driven name.bytes) (h.signals_are name.bytes)
      ∙ ap (λ b. not (is_net (kind_before m earlier name)) || b) (h.driven_are name.bytes)

  differs_same : (names : List Name) (name : Name) → differs (head_text names) name.bytes ≡ is_other names name
  differs_same [] name = refl
  differs_same (first ∷ names) name = refl

  waits_same : (name : Name) → waits_wrongly t name.bytes ≡ is_wrong_clock m earlier name
  waits_same name =
      ap (λ o. not (is_input o) || differs t.clock name.bytes) (h.signals_are name.bytes)
      ∙ ap (λ o. not (is_input (kind_before m earlier name)) || differs o name.bytes) h.clock_is
      ∙ ap (λ b. not (is_input (kind_before m earlier name)) || b) (differs_same (clocks earlier) name)

  updates_same : (name : Name) → updates_wrongly t name.bytes ≡ is_wrong_register m earlier name
  updates_same name =
      ap (λ o. not (is_register o) || has_text t.updated name.bytes) (h.signals_are name.bytes)
      ∙ ap (λ b. not (is_register (kind_before m earlier name)) || b) (h.updated_are name.bytes)

  reads_same : (name : Name) → reads_wrongly t name.bytes ≡ is_unreadable m earlier name
  reads_same name =
      ap (λ o. not (is_readable o (has_text t.clocks name.bytes) (has_text t.driven name.bytes))) (h.signals_are name.bytes)
      ∙ ap (λ b. not (is_readable (kind_before m earlier name) b (has_text t.driven name.bytes))) (h.clocks_are name.bytes)
      ∙ ap (λ b. not (is_readable (kind_before m earlier name) (has_name (clocks m.items) name.bytes) b)) (h.driven_are name.bytes)

  read_same : (marks : List Mark) → read_places t marks ≡ places_where (is_unreadable m earlier) (names_in marks)
  read_same marks = where_same (λ name. reads_wrongly t name.bytes) (is_unreadable m earlier) (names_in marks) reads_same

  alone : (p : ℕ → ℕ) (b c : Bool) (name : Name) → b ≡ c → place_if b name ≡ place_if c name ++ []
  alone p b c name e = ap (λ v. place_if v name) e ∙ sym (append-nil (place_if c name))

  item_same : (item : Item (List Mark)) → item_places t item ≡ item_faults m earlier item
  item_same (Wire name) =
      let signal : Declared = record { name = name; kind = kind.Wire } in
      signal_places h signal ∙ sym (append-nil (signal_faults m (declared m.ports earlier) (signal ∷ [])))
  item_same (Register name initial) =
      let signal : Declared = record { name = name; kind = kind.Register initial } in
      signal_places h signal ∙ sym (append-nil (signal_faults m (declared m.ports earlier) (signal ∷ [])))
  item_same (Assign target value) =
      ap (λ ps. ps ++ read_places t value) (alone (λ n. n) (assigns_wrongly t target.bytes) (is_wrong_target m earlier target) target (assigns_same target))
      ∙ ap (λ ps. (place_if (is_wrong_target m earlier target) target ++ []) ++ ps) (read_same value)
  item_same (Always clock register value) =
      let reads : List ℕ = places_where (is_unreadable m earlier) (names_in value) in
      let first : List ℕ = place_if (is_wrong_clock m earlier clock) clock ++ [] in
      let second : List ℕ = place_if (is_wrong_register m earlier register) register ++ [] in
      ap (λ ps. (ps ++ place_if (updates_wrongly t register.bytes) register) ++ read_places t value) (alone (λ n. n) (waits_wrongly t clock.bytes) (is_wrong_clock m earlier clock) clock (waits_same clock))
      ∙ ap (λ ps. (first ++ ps) ++ read_places t value) (alone (λ n. n) (updates_wrongly t register.bytes) (is_wrong_register m earlier register) register (updates_same register))
      ∙ ap (λ ps. (first ++ second) ++ ps) (read_same value)
      ∙ append_assoc first second reads

-- the lists of one item more
pub declared_more : (ports : List Port) (earlier : List (Item (List Mark))) (item : Item (List Mark)) → declared ports (earlier ++ item ∷ []) ≡ declared ports earlier ++ declared_by item
declared_more ports earlier item =
    ap (λ ds. map declared_port ports ++ ds) (flat_map-append declared_by earlier (item ∷ []) ∙ ap (λ ds. flat_map declared_by earlier ++ ds) (append-nil (declared_by item)))
    ∙ sym (append_assoc (map declared_port ports) (flat_map declared_by earlier) (declared_by item))

pub brought_more : (f : Item (List Mark) → List Name) (earlier : List (Item (List Mark))) (item : Item (List Mark)) → flat_map f (earlier ++ item ∷ []) ≡ flat_map f earlier ++ f item
brought_more f earlier item = flat_map-append f earlier (item ∷ []) ∙ ap (λ ns. flat_map f earlier ++ ns) (append-nil (f item))

pub none_more : (f : Item (List Mark) → List Name) (earlier : List (Item (List Mark))) (item : Item (List Mark)) → f item ≡ [] → flat_map f (earlier ++ item ∷ []) ≡ flat_map f earlier
none_more f earlier item e = brought_more f earlier item ∙ ap (λ ns. flat_map f earlier ++ ns) e ∙ append-nil (flat_map f earlier)

-- a signal more among the tables
pub signal_more : (es : List (List ℕ × Kind)) (ds : List Declared) (signal : Declared) → ((text : List ℕ) → found es text ≡ kind_of ds text)
    → (text : List ℕ) → found (with_entry es signal.name.bytes signal.kind) text ≡ kind_of (ds ++ signal ∷ []) text
signal_more es ds signal h text =
    found_more es signal.name.bytes signal.kind text ∙ ap (λ o. or_kind o (if_same text signal.name.bytes signal.kind)) (h text) ∙ sym (kind_of-append ds (signal ∷ []) text)

-- an item more
module _ {m : Module (List Mark)} {ports : List Port} {earlier : List (Item (List Mark))} {t : Tables} (h : Matches m ports earlier t) where
  none_declared : (item : Item (List Mark)) → declared_by item ≡ [] → declared ports (earlier ++ item ∷ []) ≡ declared ports earlier
  none_declared item e = declared_more ports earlier item ∙ ap (λ ds. declared ports earlier ++ ds) e ∙ append-nil (declared ports earlier)

  with_declared : (item : Item (List Mark)) (signal : Declared) → declared_by item ≡ signal ∷ [] → assigned_by item ≡ [] → clock_by item ≡ [] → updated_by item ≡ []
      → Matches m ports (earlier ++ item ∷ []) (with_signal t signal.name.bytes signal.kind)
  with_declared item signal d a c u = record {
    clocks_are = h.clocks_are;
    assigned_are = h.assigned_are;
    signals_are = λ text. signal_more t.signals (declared ports earlier) signal h.signals_are text ∙ ap (λ ds. kind_of ds text) (sym (declared_more ports earlier item ∙ ap (λ ds. declared ports earlier ++ ds) d));
    driven_are = λ text. h.driven_are text ∙ ap (λ ns. has_name ns text) (sym (none_more assigned_by earlier item a));
    updated_are = λ text. h.updated_are text ∙ ap (λ ns. has_name ns text) (sym (none_more updated_by earlier item u));
    clock_is = h.clock_is ∙ ap head_text (sym (none_more clock_by earlier item c));
  }

  first_more : (names : List Name) (clock : Name) → first_of (head_text names) clock.bytes ≡ head_text (names ++ clock ∷ [])
  first_more [] clock = refl
  first_more (name ∷ names) clock = refl

  pub item_more : (item : Item (List Mark)) → Matches m ports (earlier ++ item ∷ []) (with_item t item)
  item_more (Wire name) = with_declared (Wire name) (record { name = name; kind = kind.Wire }) refl refl refl refl
  item_more (Register name initial) = with_declared (Register name initial) (record { name = name; kind = kind.Register initial }) refl refl refl refl
  item_more (Assign target value) = record {
    clocks_are = h.clocks_are;
    assigned_are = h.assigned_are;
    signals_are = λ text. h.signals_are text ∙ ap (λ ds. kind_of ds text) (sym (none_declared (Assign target value) refl));
    driven_are = λ text. text_more t.driven target.bytes text ∙ ap (λ b. b || bytes_eq text target.bytes) (h.driven_are text) ∙ sym (name_more (assigned earlier) target text)
        ∙ ap (λ ns. has_name ns text) (sym (brought_more assigned_by earlier (Assign target value)));
    updated_are = λ text. h.updated_are text ∙ ap (λ ns. has_name ns text) (sym (none_more updated_by earlier (Assign target value) refl));
    clock_is = h.clock_is ∙ ap head_text (sym (none_more clock_by earlier (Assign target value) refl));
  }
  item_more (Always clock register value) = record {
    clocks_are = h.clocks_are;
    assigned_are = h.assigned_are;
    signals_are = λ text. h.signals_are text ∙ ap (λ ds. kind_of ds text) (sym (none_declared (Always clock register value) refl));
    driven_are = λ text. h.driven_are text ∙ ap (λ ns. has_name ns text) (sym (none_more assigned_by earlier (Always clock register value) refl));
    updated_are = λ text. text_more t.updated register.bytes text ∙ ap (λ b. b || bytes_eq text register.bytes) (h.updated_are text) ∙ sym (name_more (updated earlier) register text)
        ∙ ap (λ ns. has_name ns text) (sym (brought_more updated_by earlier (Always clock register value)));
    clock_is = ap (λ o. first_of o clock.bytes) h.clock_is ∙ first_more (clocks earlier) clock ∙ ap head_text (sym (brought_more clock_by earlier (Always clock register value)));
  }

-- a port more
pub port_more : (m : Module (List Mark)) (ports : List Port) (t : Tables) (port : Port) → Matches m ports [] t → Matches m (ports ++ port ∷ []) [] (with_port t port)
port_more m ports t port h = record {
  clocks_are = h.clocks_are;
  assigned_are = h.assigned_are;
  signals_are = λ text. signal_more t.signals (declared ports none) (declared_port port) h.signals_are text ∙ ap (λ ds. kind_of ds text) (sym more);
  driven_are = h.driven_are;
  updated_are = h.updated_are;
  clock_is = h.clock_is;
}
  where
    none : List (Item (List Mark))
    none = []

    more : declared (ports ++ port ∷ []) none ≡ declared ports none ++ declared_port port ∷ []
    more = append-nil (map declared_port (ports ++ port ∷ [])) ∙ map-append declared_port ports (port ∷ []) ∙ ap (λ ds. ds ++ declared_port port ∷ []) (sym (append-nil (map declared_port ports)))

-- all items
pub items_same : (m : Module (List Mark)) (items earlier : List (Item (List Mark))) (t : Tables) → Matches m m.ports earlier t → all_item_places t items ≡ each_after (item_faults m) earlier items
items_same m [] earlier t h = refl
items_same m (item ∷ items) earlier t h =
    ap (λ ps. ps ++ all_item_places (with_item t item) items) (item_same h item) ∙ ap (λ ps. item_faults m earlier item ++ ps) (items_same m items (earlier ++ item ∷ []) (with_item t item) (item_more h item))

-- all ports
pub ports_same : (m : Module (List Mark)) (ports earlier : List Port) (t : Tables) → Matches m earlier [] t → all_port_places t ports ≡ each_after (port_faults m) earlier ports
ports_same m [] earlier t h = refl
ports_same m (port ∷ ports) earlier t h =
    let none : List (Item (List Mark)) = [] in
    ap (λ ps. ps ++ all_port_places (with_port t port) ports) (signal_places h (declared_port port) ∙ ap (λ ds. signal_faults m ds (declared_port port ∷ [])) (append-nil (map declared_port earlier)))
    ∙ ap (λ ps. port_faults m earlier port ++ ps) (ports_same m ports (earlier ++ port ∷ []) (with_port t port) (port_more m earlier t port h))

pub ports_matched : (m : Module (List Mark)) (ports earlier : List Port) (t : Tables) → Matches m earlier [] t → Matches m (earlier ++ ports) [] (with_ports t ports)
ports_matched m [] earlier t h = subst (λ ps. Matches m ps [] t) (sym (append-nil earlier)) h
ports_matched m (port ∷ ports) earlier t h = subst (λ ps. Matches m ps [] (with_ports (with_port t port) ports)) (append_assoc earlier (port ∷ []) ports) (ports_matched m ports (earlier ++ port ∷ []) (with_port t port) (port_more m earlier t port h))

-- the clocks and the targets of all items
uses_clocks : (items : List (Item (List Mark))) (t : Tables) (text : List ℕ) → has_text (with_all_uses t items).clocks text ≡ (has_text t.clocks text || has_name (clocks items) text)
uses_clocks [] t text = sym (or_false (has_text t.clocks text))
  where
    or_false : (b : Bool) → (b || false) ≡ b
    or_false true = refl
    or_false false = refl
uses_clocks (Wire name ∷ items) t text = uses_clocks items t text
uses_clocks (Register name initial ∷ items) t text = uses_clocks items t text
uses_clocks (Assign target value ∷ items) t text = uses_clocks items (record t { assigned = with_text t.assigned target.bytes }) text
uses_clocks (Always clock register value ∷ items) t text =
    uses_clocks items (record t { clocks = with_text t.clocks clock.bytes }) text ∙ ap (λ b. b || has_name (clocks items) text) (text_more t.clocks clock.bytes text)
    ∙ or_assoc (has_text t.clocks text) (bytes_eq text clock.bytes) (has_name (clocks items) text)
  where
    or_assoc : (a b c : Bool) → ((a || b) || c) ≡ (a || (b || c))
    or_assoc true b c = refl
    or_assoc false b c = refl

uses_assigned : (items : List (Item (List Mark))) (t : Tables) (text : List ℕ) → has_text (with_all_uses t items).assigned text ≡ (has_text t.assigned text || has_name (assigned items) text)
uses_assigned [] t text = sym (or_false (has_text t.assigned text))
  where
    or_false : (b : Bool) → (b || false) ≡ b
    or_false true = refl
    or_false false = refl
uses_assigned (Wire name ∷ items) t text = uses_assigned items t text
uses_assigned (Register name initial ∷ items) t text = uses_assigned items t text
uses_assigned (Always clock register value ∷ items) t text = uses_assigned items (record t { clocks = with_text t.clocks clock.bytes }) text
uses_assigned (Assign target value ∷ items) t text =
    uses_assigned items (record t { assigned = with_text t.assigned target.bytes }) text ∙ ap (λ b. b || has_name (assigned items) text) (text_more t.assigned target.bytes text)
    ∙ or_assoc (has_text t.assigned text) (bytes_eq text target.bytes) (has_name (assigned items) text)
  where
    or_assoc : (a b c : Bool) → ((a || b) || c) ≡ (a || (b || c))
    or_assoc true b c = refl
    or_assoc false b c = refl

-- and nothing else
record SameSoFar (t u : Tables) : Type 0 where
  signals : u.signals ≡ t.signals
  driven : u.driven ≡ t.driven
  updated : u.updated ≡ t.updated
  clock : u.clock ≡ t.clock

uses_alone : (items : List (Item (List Mark))) (t : Tables) → SameSoFar t (with_all_uses t items)
uses_alone [] t = record { signals = refl; driven = refl; updated = refl; clock = refl }
uses_alone (Wire name ∷ items) t = uses_alone items t
uses_alone (Register name initial ∷ items) t = uses_alone items t
uses_alone (Assign target value ∷ items) t = let h = uses_alone items (record t { assigned = with_text t.assigned target.bytes }) in record { signals = h.signals; driven = h.driven; updated = h.updated; clock = h.clock }
uses_alone (Always clock register value ∷ items) t = let h = uses_alone items (record t { clocks = with_text t.clocks clock.bytes }) in record { signals = h.signals; driven = h.driven; updated = h.updated; clock = h.clock }

pub first_matched : (m : Module (List Mark)) → Matches m [] [] (with_all_uses no_tables m.items)
first_matched m = let h = uses_alone m.items no_tables in record {
  clocks_are = uses_clocks m.items no_tables;
  assigned_are = uses_assigned m.items no_tables;
  signals_are = λ text. ap (λ (es : List (List ℕ × Kind)). found es text) h.signals;
  driven_are = λ text. ap (λ (held : List (List ℕ)). has_text held text) h.driven;
  updated_are = λ text. ap (λ (held : List (List ℕ)). has_text held text) h.updated;
  clock_is = h.clock;
}

-- all places of a module
pub module_same : (m : Module (List Mark)) (t : Tables) → t ≡ with_all_uses no_tables m.items → all_port_places t m.ports ++ all_item_places (with_ports t m.ports) m.items ≡ faults m
module_same m t e =
    let h : Matches m [] [] t = subst (Matches m [] []) (sym e) (first_matched m) in
    ap (λ ps. ps ++ all_item_places (with_ports t m.ports) m.items) (ports_same m m.ports [] t h)
    ∙ ap (λ ps. each_after (port_faults m) [] m.ports ++ ps) (items_same m m.items [] (with_ports t m.ports) (ports_matched m m.ports [] t h))

-- the signals of the tables
items_signals : (items : List (Item (List Mark))) (t : Tables) → (with_items t items).signals ≡ first_entries t.signals (flat_map declared_by items)
items_signals [] t = refl
items_signals (Wire name ∷ items) t = items_signals items (with_item t (Wire name))
items_signals (Register name initial ∷ items) t = items_signals items (with_item t (Register name initial))
items_signals (Assign target value ∷ items) t = items_signals items (with_item t (Assign target value))
items_signals (Always clock register value ∷ items) t = items_signals items (with_item t (Always clock register value))

ports_signals : (ports : List Port) (t : Tables) → (with_ports t ports).signals ≡ first_entries t.signals (map declared_port ports)
ports_signals [] t = refl
ports_signals (port ∷ ports) t = ports_signals ports (with_port t port)

first_entries-append : (es : List (List ℕ × Kind)) (ds more : List Declared) → first_entries es (ds ++ more) ≡ first_entries (first_entries es ds) more
first_entries-append es [] more = refl
first_entries-append es (d ∷ ds) more = first_entries-append (with_entry es d.name.bytes d.kind) ds more

pub module_signals : (m : Module (List Mark)) (t : Tables) → t ≡ with_all_uses no_tables m.items → (with_items (with_ports t m.ports) m.items).signals ≡ first_entries [] (signals_of m)
module_signals m t e =
    let h = uses_alone m.items no_tables in
    let none : t.signals ≡ [] = ap (λ (u : Tables). u.signals) e ∙ h.signals in
    items_signals m.items (with_ports t m.ports) ∙ ap (λ (es : List (List ℕ × Kind)). first_entries es (flat_map declared_by m.items)) (ports_signals m.ports t)
    ∙ ap (λ (es : List (List ℕ × Kind)). first_entries (first_entries es (map declared_port m.ports)) (flat_map declared_by m.items)) none
    ∙ sym (first_entries-append [] (map declared_port m.ports) (flat_map declared_by m.items))

-- the clocks of the tables
items_clocks : (items : List (Item (List Mark))) (t : Tables) → (with_items t items).clocks ≡ t.clocks
items_clocks [] t = refl
items_clocks (Wire name ∷ items) t = items_clocks items (with_item t (Wire name))
items_clocks (Register name initial ∷ items) t = items_clocks items (with_item t (Register name initial))
items_clocks (Assign target value ∷ items) t = items_clocks items (with_item t (Assign target value))
items_clocks (Always clock register value ∷ items) t = items_clocks items (with_item t (Always clock register value))

ports_clocks : (ports : List Port) (t : Tables) → (with_ports t ports).clocks ≡ t.clocks
ports_clocks [] t = refl
ports_clocks (port ∷ ports) t = ports_clocks ports (with_port t port)

uses_distinct : (items : List (Item (List Mark))) (t : Tables) → (with_all_uses t items).clocks ≡ distinct t.clocks (texts (clocks items))
uses_distinct [] t = refl
uses_distinct (Wire name ∷ items) t = uses_distinct items t
uses_distinct (Register name initial ∷ items) t = uses_distinct items t
uses_distinct (Assign target value ∷ items) t = uses_distinct items (record t { assigned = with_text t.assigned target.bytes })
uses_distinct (Always clock register value ∷ items) t = uses_distinct items (record t { clocks = with_text t.clocks clock.bytes })

pub module_clocks : (m : Module (List Mark)) (t : Tables) → t ≡ with_all_uses no_tables m.items → (with_items (with_ports t m.ports) m.items).clocks ≡ distinct [] (texts (clocks m.items))
module_clocks m t e =
    items_clocks m.items (with_ports t m.ports) ∙ ports_clocks m.ports t ∙ ap (λ (u : Tables). u.clocks) e ∙ uses_distinct m.items no_tables
