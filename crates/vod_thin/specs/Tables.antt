-- What the code's tables say of the names of a module, and the offending places by them.
use Rattle.std.specs.Prelude.{ℕ, ◌++◌, ◌&&◌, ◌||◌, Bool, false, not, List, [], ◌∷◌, Option, None, Some, option_map, if◌then◌else◌}
use Rattle.std.specs.Option.{is_some}
use Rattle.std.specs.Str.{bytes_eq}
use Rattle.vod_thin_syntax.specs.Syntax.{Name, Mark, Item, Wire, Register, Assign, Always, Port}
use Rattle.vod_thin.specs.declared.names.Kind.{Kind}
use Rattle.vod_thin.specs.declared.names.Kind.TheVariants as kind
use Rattle.vod_thin.specs.declared.judge.Judge as code_judge
use Rattle.vod_thin.specs.Signals.{has_text, port_kind, names_in, is_input, is_net, is_register}
use Rattle.vod_thin.specs.Rules.{place_if, places_where, is_readable}
use Rattle.vod_thin.specs.View.{with_text, found, with_entry}

-- the clocks and the targets of all items; the signals, targets, and left sides of `always` so far, and the first clock
pub record Tables : Type 0 where
  pub clocks : List (List ℕ)
  pub assigned : List (List ℕ)
  pub signals : List (List ℕ × Kind)
  pub driven : List (List ℕ)
  pub updated : List (List ℕ)
  pub clock : Option (List ℕ)

abbrev pub tables_of : code_judge.Judge → Tables
tables_of j = record {
  clocks = j.clocks;
  assigned = j.assigned;
  signals = j.signals;
  driven = j.driven;
  updated = j.updated;
  clock = option_map (λ name. name.now) j.clock;
}

-- the place of a name that breaks a rule
abbrev pub fault_at : Bool → ℕ → Option ℕ
fault_at breaks place = if breaks then Some place else None

abbrev pub declares_wrongly : Tables → List ℕ → Kind → Bool
declares_wrongly t name kind = is_some (found t.signals name) || (is_net (Some kind) && not (has_text t.assigned name))

abbrev pub assigns_wrongly : Tables → List ℕ → Bool
assigns_wrongly t name = not (is_net (found t.signals name)) || has_text t.driven name

abbrev pub differs : Option (List ℕ) → List ℕ → Bool
differs None name = false
differs (Some first) name = not (bytes_eq first name)

abbrev pub waits_wrongly : Tables → List ℕ → Bool
waits_wrongly t name = not (is_input (found t.signals name)) || differs t.clock name

abbrev pub updates_wrongly : Tables → List ℕ → Bool
updates_wrongly t name = not (is_register (found t.signals name)) || has_text t.updated name

abbrev pub reads_wrongly : Tables → List ℕ → Bool
reads_wrongly t name = not (is_readable (found t.signals name) (has_text t.clocks name) (has_text t.driven name))

abbrev pub read_places : Tables → List Mark → List ℕ
read_places t marks = places_where (λ name. reads_wrongly t name.bytes) (names_in marks)

-- the places where a port breaks a rule, and where an item does
abbrev pub port_places : Tables → Port → List ℕ
port_places t port = place_if (declares_wrongly t port.name.bytes (port_kind port.direction)) port.name

abbrev pub item_places : Tables → Item (List Mark) → List ℕ
item_places t (Wire name) = place_if (declares_wrongly t name.bytes kind.Wire) name
item_places t (Register name initial) = place_if (declares_wrongly t name.bytes (kind.Register initial)) name
item_places t (Assign target value) = place_if (assigns_wrongly t target.bytes) target ++ read_places t value
item_places t (Always clock register value) =
    (place_if (waits_wrongly t clock.bytes) clock ++ place_if (updates_wrongly t register.bytes) register) ++ read_places t value

-- the tables with a signal more, a port, an item
abbrev pub with_signal : Tables → List ℕ → Kind → Tables
with_signal t name kind = record t { signals = with_entry t.signals name kind }

abbrev pub with_port : Tables → Port → Tables
with_port t port = with_signal t port.name.bytes (port_kind port.direction)

abbrev pub first_of : Option (List ℕ) → List ℕ → Option (List ℕ)
first_of None name = Some name
first_of (Some first) name = Some first

abbrev pub with_always : Tables → List ℕ → List ℕ → Tables
with_always t clock register = record t { updated = with_text t.updated register; clock = first_of t.clock clock }

abbrev pub with_item : Tables → Item (List Mark) → Tables
with_item t (Wire name) = with_signal t name.bytes kind.Wire
with_item t (Register name initial) = with_signal t name.bytes (kind.Register initial)
with_item t (Assign target value) = record t { driven = with_text t.driven target.bytes }
with_item t (Always clock register value) = with_always t clock.bytes register.bytes

-- the tables behind ports and items, and the places of these that break a rule
abbrev pub with_ports : Tables → List Port → Tables
with_ports t [] = t
with_ports t (port ∷ ports) = with_ports (with_port t port) ports

abbrev pub with_items : Tables → List (Item (List Mark)) → Tables
with_items t [] = t
with_items t (item ∷ items) = with_items (with_item t item) items

abbrev pub all_port_places : Tables → List Port → List ℕ
all_port_places t [] = []
all_port_places t (port ∷ ports) = port_places t port ++ all_port_places (with_port t port) ports

abbrev pub all_item_places : Tables → List (Item (List Mark)) → List ℕ
all_item_places t [] = []
all_item_places t (item ∷ items) = item_places t item ++ all_item_places (with_item t item) items

-- the clocks and targets of all items, and nothing so far
abbrev pub with_uses : Tables → Item (List Mark) → Tables
with_uses t (Wire name) = t
with_uses t (Register name initial) = t
with_uses t (Assign target value) = record t { assigned = with_text t.assigned target.bytes }
with_uses t (Always clock register value) = record t { clocks = with_text t.clocks clock.bytes }

abbrev pub with_all_uses : Tables → List (Item (List Mark)) → Tables
with_all_uses t [] = t
with_all_uses t (item ∷ items) = with_all_uses (with_uses t item) items

abbrev pub no_tables : Tables
no_tables = record { clocks = []; assigned = []; signals = []; driven = []; updated = []; clock = None }
