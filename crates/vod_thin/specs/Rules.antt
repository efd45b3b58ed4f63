-- The rules on names, each by the places that break it. The right sides of items are their tokens.
use Rattle.std.specs.Prelude.{ℕ, ◌++◌, ◌&&◌, ◌||◌, Bool, true, false, not, List, [], ◌∷◌, map, Option, None, Some, if◌then◌else◌}
use Rattle.std.specs.List.{flat_map}
use Rattle.std.specs.Option.{is_some}
use Rattle.std.specs.Str.{bytes_eq}
use Rattle.vod_thin_syntax.specs.Limit.{sooner}
use Rattle.vod_thin_syntax.specs.Syntax.{Name, Mark, Item, Port, Module}
use Rattle.vod_thin.specs.declared.names.Kind.{Kind}
use Rattle.vod_thin.specs.declared.names.Kind.TheVariants as kind
use Rattle.vod_thin.specs.Signals.{Declared, declared_port, declared_by, declared, kind_of, has_name, assigned_by, clock_by, updated_by, read_by, assigned, clocks, updated, is_input, is_net, is_register}

-- the least of some places
abbrev pub least : List ℕ → Option ℕ
least [] = None
least (place ∷ places) = sooner (Some place) (least places)

-- what each element brings with those before it
abbrev pub each_after : {X : Type 0} → (List X → X → List ℕ) → List X → List X → List ℕ
each_after f earlier [] = []
each_after f earlier (x ∷ xs) = f earlier x ++ each_after f (earlier ++ x ∷ []) xs

abbrev pub place_if : Bool → Name → List ℕ
place_if test name = if test then name.place ∷ [] else []

abbrev pub places_where : (Name → Bool) → List Name → List ℕ
places_where test names = flat_map (λ name. place_if (test name) name) names

-- what a name stands for in an item: what it was first declared as, by a port or an earlier item
abbrev pub kind_before : Module (List Mark) → List (Item (List Mark)) → Name → Option Kind
kind_before m earlier name = kind_of (declared m.ports earlier) name.bytes

-- a declared signal: its name was declared before, or it is a wire or an output that no `assign` of the module has as its target
abbrev pub is_wrong_signal : Module (List Mark) → List Declared → Declared → Bool
is_wrong_signal m before signal = is_some (kind_of before signal.name.bytes) || (is_net (Some signal.kind) && not (has_name (assigned m.items) signal.name.bytes))

-- the target of an `assign`: no wire or output is declared so, or an earlier `assign` has it
abbrev pub is_wrong_target : Module (List Mark) → List (Item (List Mark)) → Name → Bool
is_wrong_target m earlier name = not (is_net (kind_before m earlier name)) || has_name (assigned earlier) name.bytes

-- the first of some names, if there is one, isn't this
abbrev pub is_other : List Name → Name → Bool
is_other [] name = false
is_other (first ∷ names) name = not (bytes_eq first.bytes name.bytes)

-- the clock of an `always`: no input is declared so, or the first `always` has another
abbrev pub is_wrong_clock : Module (List Mark) → List (Item (List Mark)) → Name → Bool
is_wrong_clock m earlier name = not (is_input (kind_before m earlier name)) || is_other (clocks earlier) name

-- the left side of an `always`: no register is declared so, or an earlier `always` has it
abbrev pub is_wrong_register : Module (List Mark) → List (Item (List Mark)) → Name → Bool
is_wrong_register m earlier name = not (is_register (kind_before m earlier name)) || has_name (updated earlier) name.bytes

-- whether an expression may read a name that stands for this, which is or isn't a clock, and was or wasn't assigned before
abbrev pub is_readable : Option Kind → Bool → Bool → Bool
is_readable None clock driven = false
is_readable (Some kind.Input) clock driven = not clock
is_readable (Some kind.Output) clock driven = driven
is_readable (Some kind.Wire) clock driven = driven
is_readable (Some (kind.Register initial)) clock driven = true

-- a name on a right side: it is no input that isn't the clock of some `always`, no register, and no wire or output that an
-- earlier `assign` has as its target
abbrev pub is_unreadable : Module (List Mark) → List (Item (List Mark)) → Name → Bool
is_unreadable m earlier name = not (is_readable (kind_before m earlier name) (has_name (clocks m.items) name.bytes) (has_name (assigned earlier) name.bytes))

abbrev pub signal_faults : Module (List Mark) → List Declared → List Declared → List ℕ
signal_faults m before signals = flat_map (λ signal. place_if (is_wrong_signal m before signal) signal.name) signals

-- the places where a port breaks a rule, behind earlier ones
abbrev pub port_faults : Module (List Mark) → List Port → Port → List ℕ
port_faults m earlier port = signal_faults m (map declared_port earlier) (declared_port port ∷ [])

-- the places where an item breaks a rule, behind earlier ones
abbrev pub item_faults : Module (List Mark) → List (Item (List Mark)) → Item (List Mark) → List ℕ
item_faults m earlier item =
    signal_faults m (declared m.ports earlier) (declared_by item)
    ++ (places_where (is_wrong_target m earlier) (assigned_by item)
    ++ (places_where (is_wrong_clock m earlier) (clock_by item)
    ++ (places_where (is_wrong_register m earlier) (updated_by item)
    ++ places_where (is_unreadable m earlier) (read_by item))))

-- the places of all names of a module that break a rule
abbrev pub faults : Module (List Mark) → List ℕ
faults m = each_after (port_faults m) [] m.ports ++ each_after (item_faults m) [] m.items
