-- What a simulation stores, and the writes that change it, bit by bit and word by word (IEEE 1364-2005, 4.2, 4.9).
use Rattle.std.specs.Prelude.{ℕ, ◌+◌, ◌==◌, ◌&&◌, Bool, true, false, not, List, [], ◌∷◌, length, map, slice_set, slice_index_or}
use Rattle.std.specs.List.{list_any}
use Rattle.vod_bits.specs.Bit.{Bit, BX}
use Rattle.vod_bits.specs.Value.{upper_bit, resize_bits}
use Rattle.vod_design.specs.declared.parts.Driver.{Driver}
use Rattle.vod_design.specs.declared.read.Read.{Read}
use Rattle.vod_design.specs.declared.read.Read.TheVariants.{Whole, Bits, Word, Ram}
use Rattle.vod_design.specs.declared.statement.Place.{Place}
use Rattle.vod_design.specs.Eval.{same_bit}
use Rattle.vod_design.specs.Feeds.{is_read}
use Rattle.vod_design.specs.Netlist.{Netlist}
use Rattle.vod_design.specs.Reads.{reads}
use Rattle.vod_design.specs.Run.{eval, replace_bits}
use Rattle.vod_design.specs.Values.{Values, select_bits, value_at}
use Rattle.vod_eval.specs.Listed.{values_of}

-- the values of the signals, by number, and of the memories' words, by memory and place from the least index up
pub record Store : Type 0 where
  pub signals : List (List Bit)
  pub memories : List (List (List Bit))

-- one bit of a signal, by its place from the lowest up, takes a value; or one word of a memory does
pub data Write : Type 0 where
  ToBit : ℕ → ℕ → Bit → Write
  ToWord : ℕ → ℕ → List Bit → Write

-- what a list of lists has at a place, nothing past its end
abbrev pub list_at : {A : Type 0} → List (List A) → ℕ → List A
list_at lists place = slice_index_or lists place []

-- a bit of a value, by its place from the lowest up, x where it has none there
unfoldable pub bit_in : List Bit → ℕ → Bit
bit_in bits place = upper_bit (select_bits BX place 1 bits)

-- a bit of a signal, and a word of a memory
abbrev pub bit_at : Store → ℕ → ℕ → Bit
bit_at store signal place = bit_in (value_at BX store.signals signal) place

abbrev pub word_at : Store → ℕ → ℕ → List Bit
word_at store memory place = list_at (list_at store.memories memory) place

-- a value with one bit replaced
unfoldable pub bit_replaced : ℕ → Bit → List Bit → List Bit
bit_replaced place bit bits = replace_bits place (bit ∷ []) bits

-- what is stored after a write: all but that bit or that word is as it was
abbrev pub written : Store → Write → Store
written store (ToBit signal place bit) = record store { signals = slice_set store.signals signal (bit_replaced place bit (value_at BX store.signals signal)) }
written store (ToWord memory place word) = record store { memories = slice_set store.memories memory (slice_set (list_at store.memories memory) place word) }

-- whether two values are the same, x and z included
abbrev pub same_bits : List Bit → List Bit → Bool
same_bits [] [] = true
same_bits [] (b ∷ bs) = false
same_bits (a ∷ as_) [] = false
same_bits (a ∷ as_) (b ∷ bs) = same_bit a b && same_bits as_ bs

-- whether a write changes what stands there
abbrev pub changes : Store → Write → Bool
changes store (ToBit signal place bit) = not (same_bit (bit_at store signal place) bit)
changes store (ToWord memory place word) = not (same_bits (word_at store memory place) word)

-- whether a write is of something that is read
abbrev pub is_word_read : ℕ → ℕ → Read → Bool
is_word_read memory place (Whole n) = false
is_word_read memory place (Bits n low width) = false
is_word_read memory place (Word m p) = (m == memory) && (p == place)
is_word_read memory place (Ram m) = m == memory

abbrev pub touches : Write → Read → Bool
touches (ToBit signal place bit) r = is_read (record { signal = signal; bit = place }) r
touches (ToWord memory place word) r = is_word_read memory place r

-- whether it is of something that a driver can read
abbrev pub feeds_driver : Write → Driver → Bool
feeds_driver w a = list_any (touches w) (reads a.value)

-- the value of a signal's bits from a place up, the upper bit first; of bits by their places; and of a memory's word
abbrev pub bits_written : ℕ → ℕ → List Bit → List Write
bits_written signal low [] = []
bits_written signal low (bit ∷ bits) = ToBit signal (length bits + low) bit ∷ bits_written signal low bits

abbrev pub places_written : List Place → List Bit → List Write
places_written [] bits = []
places_written (p ∷ places) [] = []
places_written (p ∷ places) (bit ∷ bits) = ToBit p.signal p.bit bit ∷ places_written places bits

-- the values that are stored, as expressions see them (5.2)
abbrev pub values_in : Store → Values
values_in store = values_of BX store.signals store.memories

-- what a driver brings its target: the lower bits of its right side's value, as many as the target has (6.1.2)
unfoldable pub brought : Netlist → Store → Driver → List Bit
brought d store a = resize_bits (length a.target) false (eval BX d.functions (values_in store) [] a.value)

-- what its target has
abbrev pub bits_at : Store → List Place → List Bit
bits_at store places = map (λ p. bit_at store p.signal p.bit) places
