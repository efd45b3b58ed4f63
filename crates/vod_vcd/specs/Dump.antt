-- The full dump of a run, its cut to a window, and its text. They speak of whole lists.
use Rattle.std.specs.Prelude.{ℕ, ◌==◌, ◌&&◌, Bool, true, false, not, List, [], ◌∷◌, ◌++◌, nat_lt, nat_le, map, filter, zip, fold, slice_set, if◌then◌else◌}
use Rattle.std.specs.List.{enumerate_from, flat_map}
use Rattle.vod_bits.specs.Bit.{Bit}
use Rattle.vod_design.specs.Eval.{same_bit}
use Rattle.vod_design.specs.Netlist.{Netlist}
use Rattle.vod_vcd.specs.Text.{opening_text, change_text, time_line}
use Rattle.vod_vcd.specs.Header.{header_text}

-- the values of all signals at the end of the slot at a time
pub record Moment : Type 0 where
  pub time : ℕ
  pub values : List (List Bit)

-- the signals that differ from the slot before, with their values
pub record Change : Type 0 where
  pub time : ℕ
  pub pairs : List (ℕ × List Bit)

-- a time with all values, changes, and a last time
pub record Dump : Type 0 where
  pub start : ℕ
  pub opening : List (List Bit)
  pub changes : List Change
  pub last : ℕ

-- whether two values have the same bits
abbrev pub same_value : List Bit → List Bit → Bool
same_value [] [] = true
same_value [] (b ∷ bs) = false
same_value (a ∷ as_) [] = false
same_value (a ∷ as_) (b ∷ bs) = same_bit a b && same_value as_ bs

-- the signals whose values differ, by number, with the later value
abbrev pub differing : List (List Bit) → List (List Bit) → List (ℕ × List Bit)
differing before now = map (λ e. (e.0, e.1.1)) (filter (λ e. not (same_value e.1.0 e.1.1)) (enumerate_from 0 (zip before now)))

-- what each slot changes, against the slot before it
abbrev pub slot_changes : List (List Bit) → List Moment → List Change
slot_changes before [] = []
slot_changes before (moment ∷ moments) = record { time = moment.time; pairs = differing before moment.values } ∷ slot_changes moment.values moments

-- whether a list has nothing
abbrev pub is_empty : {A : Type 0} → List A → Bool
is_empty [] = true
is_empty (x ∷ xs) = false

-- the time of the last moment, or the time given
abbrev pub last_moment : ℕ → List Moment → ℕ
last_moment time [] = time
last_moment time (moment ∷ moments) = last_moment moment.time moments

-- the full dump of a run: from time 0 the values at the end of slot 0; then each slot with a change; the last time
abbrev pub full_dump : List (List Bit) → List Moment → Dump
full_dump first moments = record {
  start = 0;
  opening = first;
  changes = filter (λ change. not (is_empty change.pairs)) (slot_changes first moments);
  last = last_moment 0 moments;
}

-- values overwritten by some changes, in order
abbrev pub overwritten : List (List Bit) → List Change → List (List Bit)
overwritten values changes = fold (λ held change. fold (λ bits pair. slice_set bits pair.0 pair.1) held change.pairs) values changes

-- a dump cut to the window from a to b: the values at a, the changes past a and not past b, and b
abbrev pub cut : Dump → ℕ → ℕ → Dump
cut dump a b = record {
  start = a;
  opening = overwritten dump.opening (filter (λ change. nat_le change.time a) dump.changes);
  changes = filter (λ change. nat_lt a change.time && nat_le change.time b) dump.changes;
  last = b;
}

-- the time of the last change, or the time given
abbrev pub last_change : ℕ → List Change → ℕ
last_change time [] = time
last_change time (change ∷ changes) = last_change change.time changes

-- a last time line, unless that time was printed last
abbrev pub closing_text : ℕ → ℕ → List ℕ
closing_text printed last = if printed == last then [] else time_line last

-- a dump as text, behind the header of its source and design
abbrev pub dump_text : List ℕ → Netlist → Dump → List ℕ
dump_text source d dump =
    header_text source d
    ++ opening_text dump.start dump.opening
    ++ flat_map (λ change. change_text change.time change.pairs) dump.changes
    ++ closing_text (last_change dump.start dump.changes) dump.last
