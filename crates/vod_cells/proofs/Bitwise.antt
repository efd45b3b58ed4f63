-- Runs of bits, put one bit after the other from the upper one.
use Rattle.std.proofs.Common.{◌≡◌, ℕ, ◌+◌, ◌-◌, ◌<◌, ◌≤◌, zero, suc, false, List, [], ◌∷◌, length, map, drop, get_or, set, length-set, arith, refl, ap, ◌∙◌, sym, subst}
use Rattle.std.proofs.Math.ListN.{drop_of_length-le}
use Rattle.std.proofs.Math.Seq.{map-set_same, drop-cons}
use Rattle.std.proofs.lemmas.List.{length-drop}
use Rattle.vod_bits.specs.Bit.{Bit, BX}
use Rattle.vod_bits.specs.Value.{upper_bit, resize_bits}
use Rattle.vod_bits.specs.Lengths.{resize_length}
use Rattle.vod_design.specs.declared.statement.Place.{Place}
use Rattle.vod_design.specs.Netlist.{Netlist}
use Rattle.vod_slot.specs.Step.{starts}
use Rattle.vod_slot.specs.Store.{Store, ToBit, ToWord, Write, written, list_at, changes, feeds_driver, bit_in, bits_written, places_written}
use Rattle.vod_slot.proofs.Puts.{sizes-written}
use Rattle.vod_slot.proofs.Raised.{length-raised, length-raised_if}
use Rattle.vod_slot.proofs.Replaced.{in_within}
use Rattle.vod_cells.specs.Stored.{Stored, IsStoredOf, put_in, put_all_in}
use Rattle.vod_cells.specs.Wide.{bit_of_wide}
use Rattle.vod_cells.proofs.OneBit.{wide_at}

memories-written : (store : Store) (w : Write) → map length (written store w).memories ≡ map length store.memories
memories-written store (ToBit signal place bit) = refl
memories-written store (ToWord memory place word) = map-set_same length store.memories memory (set (list_at store.memories memory) place word) [] (length-set (list_at store.memories memory) place word)

-- a write keeps the places
pub stays : (d : Netlist) (w : Write) (s : Stored) → IsStoredOf d s → IsStoredOf d (put_in d w s)
stays d w s h = record {
  sizes = sizes-written s.store w ∙ h.sizes;
  memories = memories-written s.store w ∙ h.memories;
  wake = length-raised_if (changes s.store w) (feeds_driver w) d.drivers s.wake ∙ h.wake;
  started = length-raised (starts s.store w) d.blocks s.started ∙ h.started;
}

pub all_stay : (d : Netlist) (writes : List Write) (s : Stored) → IsStoredOf d s → IsStoredOf d (put_all_in d writes s)
all_stay d [] s h = h
all_stay d (w ∷ writes) s h = all_stay d writes (put_in d w s) (stays d w s h)

-- one bit of a run
pub bits_step : (d : Netlist) (signal low : ℕ) (value : List Bit) (left next : ℕ) (bit : List Bit) (s : Stored) → next + 1 ≡ left → left ≤ length value → bit ≡ bit_in value next ∷ [] →
    put_all_in d (bits_written signal low (drop (length value - next) value)) (put_in d (ToBit signal (low + next) (upper_bit bit)) s) ≡ put_all_in d (bits_written signal low (drop (length value - left) value)) s
bits_step d signal low value left next bit s one within is =
    let i = length value - (next + 1) in
    let start : length value - left ≡ i = omega (arith, one) in
    let behind : suc i ≡ length value - next = omega (arith, one, within) in
    let size : length (drop (length value - next) value) + low ≡ low + next = omega (arith, length-drop (length value - next) value, one, within) in
    let first : get_or value i BX ≡ upper_bit bit = sym (in_within value next (omega (arith, one, within))) ∙ sym (ap upper_bit is) in
    let opened : drop (length value - left) value ≡ upper_bit bit ∷ drop (length value - next) value =
    ap (λ n. drop n value) start ∙ drop-cons value i BX (omega (arith, one, within)) ∙ ap (λ b. b ∷ drop (suc i) value) first ∙ ap (λ n. upper_bit bit ∷ drop n value) behind in
    sym (ap (λ bits. put_all_in d (bits_written signal low bits) s) opened ∙ ap (λ n. put_all_in d (bits_written signal low (drop (length value - next) value)) (put_in d (ToBit signal n (upper_bit bit)) s)) size)

pub bits_start : (d : Netlist) (signal low : ℕ) (value : List Bit) (count : ℕ) (s : Stored) → count ≡ length value → put_all_in d (bits_written signal low (drop (length value - count) value)) s ≡ put_all_in d (bits_written signal low value) s
bits_start d signal low value count s is = let none : length value - count ≡ 0 = omega (arith, is) in ap (λ n. put_all_in d (bits_written signal low (drop n value)) s) none

pub bits_end : (d : Netlist) (signal low : ℕ) (value : List Bit) (left : ℕ) (s : Stored) (end_ : Stored) → left ≡ 0 → put_all_in d (bits_written signal low (drop (length value - left) value)) s ≡ end_ → s ≡ end_
bits_end d signal low value left s end_ none is =
    let past : drop (length value - left) value ≡ [] = drop_of_length-le value (omega (arith, none)) in
    sym (ap (λ bits. put_all_in d (bits_written signal low bits) s) past) ∙ is

pub any_default : {A : Type 0} (xs : List A) (i : ℕ) (x y : A) → i < length xs → get_or xs i x ≡ get_or xs i y
any_default [] i x y h = absurd (omega arith)
any_default (z ∷ xs) zero x y h = refl
any_default (z ∷ xs) (suc i) x y h = any_default xs i x y (omega arith)

-- one place of a target
pub places_step : (d : Netlist) (places : List Place) (bits : List Bit) (i : ℕ) (p : Place) (bit : List Bit) (s : Stored) → i < length places → length bits ≡ length places → p ≡ get_or places i p → bit ≡ get_or bits i BX ∷ [] →
    put_all_in d (places_written (drop (i + 1) places) (drop (i + 1) bits)) (put_in d (ToBit p.signal p.bit (upper_bit bit)) s) ≡ put_all_in d (places_written (drop i places) (drop i bits)) s
places_step d places bits i p bit s h len at is =
    let next : suc i ≡ i + 1 = omega arith in
    let some : drop i places ≡ p ∷ drop (i + 1) places = drop-cons places i p h ∙ ap (λ q. q ∷ drop (suc i) places) (sym at) ∙ ap (λ n. p ∷ drop n places) next in
    let one : drop i bits ≡ upper_bit bit ∷ drop (i + 1) bits = drop-cons bits i BX (omega (arith, h, len)) ∙ ap (λ b. b ∷ drop (suc i) bits) (sym (ap upper_bit is)) ∙ ap (λ n. upper_bit bit ∷ drop n bits) next in
    sym (ap (λ ps. put_all_in d (places_written ps (drop i bits)) s) some ∙ ap (λ bs. put_all_in d (places_written (p ∷ drop (i + 1) places) bs) s) one)

pub places_end : (d : Netlist) (places : List Place) (bits : List Bit) (i : ℕ) (s end_ : Stored) → length places ≤ i → put_all_in d (places_written (drop i places) (drop i bits)) s ≡ end_ → s ≡ end_
places_end d places bits i s end_ past is =
    sym (ap (λ ps. put_all_in d (places_written ps (drop i bits)) s) (drop_of_length-le places past)) ∙ is

pub places_kept : (d : Netlist) (places : List Place) (value : List Bit) (i : ℕ) (p q : Place) (b : ℕ) (bit : List Bit) (s new whole : Stored) → i < length places → p ≡ get_or places i q → bit ≡ bit_of_wide value (length places - 1 - i) ∷ [] → b ≡ p.bit → new ≡ put_in d (ToBit p.signal b (upper_bit bit)) s → IsStoredOf d s →
    put_all_in d (places_written (drop i places) (drop i (resize_bits (length places) false value))) s ≡ whole →
    IsStoredOf d new × (put_all_in d (places_written (drop (i + 1) places) (drop (i + 1) (resize_bits (length places) false value))) new ≡ whole)
places_kept d places value i p q b bit s new whole h at is low wrote_b shaped before =
    let wrote : new ≡ put_in d (ToBit p.signal p.bit (upper_bit bit)) s = wrote_b ∙ ap (λ n. put_in d (ToBit p.signal n (upper_bit bit)) s) low in
    let bits = resize_bits (length places) false value in
    let there : p ≡ get_or places i p = at ∙ any_default places i q p h in (
      subst (IsStoredOf d) (sym wrote) (stays d (ToBit p.signal p.bit (upper_bit bit)) s shaped),
      ap (put_all_in d (places_written (drop (i + 1) places) (drop (i + 1) bits))) wrote
          ∙ places_step d places bits i p bit s h (resize_length (length places) false value) there (is ∙ sym (ap (λ b. b ∷ []) (wide_at (length places) i value h))) ∙ before,
    )

pub bits_kept : (d : Netlist) (signal low : ℕ) (value : List Bit) (left n : ℕ) (bit : List Bit) (s new whole : Stored) → 0 < left → n ≡ left - 1 → bit ≡ bit_in value n ∷ [] → new ≡ put_in d (ToBit signal (low + n) (upper_bit bit)) s → left ≤ length value → IsStoredOf d s →
    put_all_in d (bits_written signal low (drop (length value - left) value)) s ≡ whole →
    (left - 1 ≤ length value) × IsStoredOf d new × (put_all_in d (bits_written signal low (drop (length value - (left - 1)) value)) new ≡ whole)
bits_kept d signal low value left n bit s new whole some at is wrote within shaped before = (
  omega (arith, within),
  subst (IsStoredOf d) (sym wrote) (stays d (ToBit signal (low + n) (upper_bit bit)) s shaped),
  ap (put_all_in d (bits_written signal low (drop (length value - (left - 1)) value))) wrote
      ∙ ap (λ m. put_all_in d (bits_written signal low (drop (length value - m) value)) (put_in d (ToBit signal (low + n) (upper_bit bit)) s)) (sym at)
      ∙ bits_step d signal low value left n bit s (omega (arith, at, some)) within is ∙ before,
)
