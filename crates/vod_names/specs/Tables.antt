-- A table of what is known of each name.
use Rattle.std.specs.Prelude.{◌≡◌, ℕ, List, Option, None, Some}
use Rattle.std.specs.Borrow.{Bor}
use Rattle.std.specs.Str.{bytes_eq}
use Rattle.std.specs.Map.{lookup}
use Rattle.std.specs.Option.{option_map}
use Rattle.vod_names.specs.declared.entry.Declaration.{Declaration}
use Rattle.vod_names.specs.declared.names.Known.{Known}
use Rattle.vod_names.specs.Entries.{Named, first_of, last_of, number_of}

abbrev pub Places : Type 0
Places = List (Bor (List ℕ) × Known)

abbrev pub known_in : Places → List ℕ → Option Known
known_in places name = lookup (λ (k : Bor (List ℕ)). bytes_eq name k.now) places

-- what is known of a name after one more declaration of it, at a number
abbrev pub known_after : Option Known → ℕ → Declaration → Known
known_after None n d = record { number = n; first = d; last = d }
known_after (Some k) n d = record { number = k.number; first = k.first; last = d }

-- a table knows of each name what the list says
pub record IsTable (places : Places) (ds : List Named) : Type 0 where
  pub firsts : (name : List ℕ) → option_map (λ (k : Known). k.first) (known_in places name) ≡ first_of name ds
  pub lasts : (name : List ℕ) → option_map (λ (k : Known). k.last) (known_in places name) ≡ last_of name ds
  pub numbers : (name : List ℕ) → option_map (λ (k : Known). k.number) (known_in places name) ≡ number_of name ds
