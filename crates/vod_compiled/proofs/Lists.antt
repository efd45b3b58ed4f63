-- Lists of values as lists of their bits.
use Rattle.std.proofs.Common.{◌≡◌, ℕ, ◌<◌, ◌≤◌, List, [], ◌∷◌, length, map, get_or, set, sym, ◌∙◌, ap, arith}
use Rattle.std.proofs.lemmas.List.{map-set, set_past, length-map, get_or-map, get_or_past}
use Rattle.vod_bits.specs.Bit.{Bit}
use Rattle.vod_design.specs.Values.{value_at}
use Rattle.vod_compiled.specs.Steps.{put}

pub map_put : {V : Type 0} (bits : V → List Bit) (cells : List V) (n : ℕ) (value : V) → map bits (set cells n value) ≡ put (map bits cells) n (bits value)
map_put bits cells n value = map-set bits cells n value

pub map_put_past : {V : Type 0} (bits : V → List Bit) (cells : List V) (n : ℕ) (value : V) → length cells ≤ n → map bits cells ≡ put (map bits cells) n (bits value)
map_put_past bits cells n value h = sym (set_past (map bits cells) n (bits value) (omega (arith, length-map cells bits)))

pub value_at_map : {V : Type 0} (bits : V → List Bit) (fill : Bit) (values : List V) (n : ℕ) (v : V) → n < length values → v ≡ get_or values n v → bits v ≡ value_at fill (map bits values) n
value_at_map bits fill values n v h is = ap bits is ∙ sym (get_or-map bits values n v (fill ∷ []) h)

pub value_at_past : {V : Type 0} (bits : V → List Bit) (fill : Bit) (values : List V) (n : ℕ) → length values ≤ n → fill ∷ [] ≡ value_at fill (map bits values) n
value_at_past bits fill values n h = sym (get_or_past (map bits values) n (fill ∷ []) (omega (arith, length-map values bits)))
