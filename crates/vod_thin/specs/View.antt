-- What the tables of the code hold.
use Rattle.std.specs.Prelude.{◌≡◌, ℕ, Bool, List, [], ◌∷◌, ◌++◌, slice_get, Option, None, Some, if◌then◌else◌}
use Rattle.std.specs.Option.{is_some}
use Rattle.std.specs.Str.{bytes_eq}
use Rattle.vod_thin_design.specs.declared.thin.Input.{Input}
use Rattle.vod_thin_design.specs.declared.thin.Initial.{Initial}
use Rattle.vod_thin.specs.declared.names.Kind.{Kind}
use Rattle.vod_thin.specs.Netlists.{input_of, initial_of}
use Rattle.vod_thin.specs.Signals.{Declared, has_text}

-- a text more, where it is new
abbrev pub with_text : List (List ℕ) → List ℕ → List (List ℕ)
with_text held text = if has_text held text then held else held ++ text ∷ []

-- texts without those that came before
abbrev pub distinct : List (List ℕ) → List (List ℕ) → List (List ℕ)
distinct held [] = held
distinct held (text ∷ texts) = distinct (with_text held text) texts

-- the kind of the first signal with this text
abbrev pub found : List (List ℕ × Kind) → List ℕ → Option Kind
found [] text = None
found (e ∷ es) text = if bytes_eq text e.0 then Some e.1 else found es text

-- a signal more, where its text is new
abbrev pub with_entry : List (List ℕ × Kind) → List ℕ → Kind → List (List ℕ × Kind)
with_entry es text kind = if is_some (found es text) then es else es ++ (text, kind) ∷ []

-- signals without those whose text came before
abbrev pub first_entries : List (List ℕ × Kind) → List Declared → List (List ℕ × Kind)
first_entries es [] = es
first_entries es (signal ∷ signals) = first_entries (with_entry es signal.name.bytes signal.kind) signals

-- what the signal with a number brings
abbrev pub input_by : List (List ℕ) → ℕ → Option (List ℕ × Kind) → List Input
input_by waited number None = []
input_by waited number (Some e) = input_of waited number e.0 e.1

abbrev pub input_at : List (List ℕ) → List (List ℕ × Kind) → ℕ → List Input
input_at waited signals number = input_by waited number (slice_get signals number)

abbrev pub initial_by : ℕ → Option (List ℕ × Kind) → List Initial
initial_by number None = []
initial_by number (Some e) = initial_of number e.1

abbrev pub initial_at : List (List ℕ × Kind) → ℕ → List Initial
initial_at signals number = initial_by number (slice_get signals number)
