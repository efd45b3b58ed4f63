-- Images of a design's state: which fit it, and which is blank. The other inputs stand in an image as 0 or 1, or as 2 where they weren't given.
use Rattle.std.specs.Prelude.{ℕ, zero, suc, ◌^◌, ◌==◌, nat_lt, nat_le, Bool, true, false, not, ◌&&◌, List, [], ◌∷◌, length, drop, map, flat_map, filter, replicate}
use Rattle.std.specs.List.{list_all}
use Rattle.vod_design.specs.declared.image.Image.{Image}
use Rattle.vod_design.specs.declared.parts.Input.{Input}
use Rattle.vod_design.specs.declared.parts.Ram.{Ram}
use Rattle.vod_design.specs.declared.parts.Signal.{Signal}
use Rattle.vod_design.specs.declared.vector.Class.{Class}
use Rattle.vod_design.specs.declared.vector.Class.TheVariants.{Clock, Reset, Data}
use Rattle.vod_design.specs.Netlist.{Netlist, signal_width}

-- the widths of registers in the order of the signals, of memory words by memory and rising place, and of data inputs
abbrev pub register_widths : List Signal → List ℕ
register_widths signals = map (λ s. s.width) (filter (λ s. s.register) signals)

abbrev pub word_widths : List Ram → List ℕ
word_widths memories = flat_map (λ m. replicate m.words m.width) memories

abbrev pub is_data : Class → Bool
is_data Clock = false
is_data Reset = false
is_data Data = true

abbrev pub data_inputs : List Input → List Input
data_inputs inputs = filter (λ i. is_data i.class) inputs

abbrev pub data_widths : (ℕ → ℕ) → List Input → List ℕ
data_widths width inputs = map (λ i. width i.signal) (data_inputs inputs)

abbrev pub edge_inputs : List Input → List Input
edge_inputs inputs = filter (λ i. not (is_data i.class)) inputs

-- whether there is a first number, and it is below 2 to a width
abbrev pub starts_below : List ℕ → ℕ → Bool
starts_below [] width = false
starts_below (n ∷ ns) width = nat_lt n (2 ^ width)

abbrev pub is_empty : List ℕ → Bool
is_empty [] = true
is_empty (n ∷ ns) = false

-- whether there are as many numbers as widths, each below 2 to its width
abbrev pub are_below : List ℕ → List ℕ → Bool
are_below ns [] = is_empty ns
are_below ns (w ∷ ws) = starts_below ns w && are_below (drop 1 ns) ws

-- whether so many numbers in front are below 2 to one width
abbrev pub start_below : List ℕ → ℕ → ℕ → Bool
start_below ns zero width = true
start_below ns (suc k) width = start_below ns k width && starts_below (drop k ns) width

-- whether there are so many edges, each 0, 1 or 2
abbrev pub are_edges : List ℕ → ℕ → Bool
are_edges edges count = (length edges == count) && list_all (λ e. nat_le e 2) edges

-- whether an image fits a design
abbrev pub fits : Netlist → Image → Bool
fits d i = (are_below i.regs (register_widths d.signals) && are_below i.words (word_widths d.memories))
    && (are_below i.given (data_widths (signal_width d) d.inputs) && are_edges i.edges (length (edge_inputs d.inputs)))

-- an image where each number is 0 and no edge is given
abbrev pub blank : Netlist → Image
blank d = record {
  regs = replicate (length (register_widths d.signals)) 0;
  words = replicate (length (word_widths d.memories)) 0;
  given = replicate (length (data_inputs d.inputs)) 0;
  edges = replicate (length (edge_inputs d.inputs)) 2;
}
