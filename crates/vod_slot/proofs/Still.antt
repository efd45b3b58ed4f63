-- Writes of what stands there already leave a state as it is.
use Rattle.std.proofs.Common.{◌≡◌, ℕ, ◌+◌, ◌<◌, not, Bool, true, false, List, [], ◌∷◌, length, arith, refl, ap, sym, ◌∙◌, Option, Some, None, ◌==◌, ◌&&◌}
use Rattle.vod_bits.specs.Bit.{Bit, BX}
use Rattle.vod_design.specs.declared.parts.Block.{Block}
use Rattle.vod_design.specs.declared.parts.Edge.{Edge}
use Rattle.vod_design.specs.Netlist.{Netlist}
use Rattle.vod_design.specs.Values.{value_at}
use Rattle.vod_slot.specs.Store.{Store, ToBit, written, changes, bit_in, bit_at, bits_written, feeds_driver}
use Rattle.vod_slot.specs.State.{State}
use Rattle.vod_slot.specs.Step.{is_edge, is_reset_edge, starts, raised_if, triggered, put, put_all}
use Rattle.vod_slot.proofs.Lists.{all_from_places}
use Rattle.vod_slot.proofs.Replaced.{same_bit-itself}
use Rattle.vod_slot.proofs.Writes.{written-same}
use Rattle.vod_slot.proofs.Outside.{triggered_none}
use Rattle.vod_slot.proofs.Calm.{bit_behind, bit_first}
use Rattle.vod_slot.proofs.Starts.{no_change}

and_none : (a b : Bool) → (a && (b && false)) ≡ false
and_none true true = refl
and_none true false = refl
and_none false b = refl

same_edge : (store : Store) (n p : ℕ) (x : Edge) → is_edge store (ToBit n p (bit_at store n p)) x ≡ false
same_edge store n p x = ap (λ b. (x.signal == n) && ((p == 0) && b)) (no_change x (bit_at store n p)) ∙ and_none (x.signal == n) (p == 0)

same_start : (store : Store) (n p : ℕ) (b : Block) → starts store (ToBit n p (bit_at store n p)) b ≡ false
same_start store n p b = rw (same_edge store n p b.clock, reset b.reset) refl
  where
    reset : (r : Option Edge) → is_reset_edge store (ToBit n p (bit_at store n p)) r ≡ false
    reset None = refl
    reset (Some x) = same_edge store n p x

same_put : (d : Netlist) (n p : ℕ) (st : State) → put d (ToBit n p (bit_at st.store n p)) st ≡ st
same_put d n p st =
    let w = ToBit n p (bit_at st.store n p) in
    let none : changes st.store w ≡ false = ap not (same_bit-itself (bit_at st.store n p)) in
    let store : written st.store w ≡ st.store = written-same st.store w none in
    let wake : raised_if (changes st.store w) (feeds_driver w) d.drivers st.wake ≡ st.wake = ap (λ b. raised_if b (feeds_driver w) d.drivers st.wake) none in
    let todo : triggered (starts st.store w) d.blocks st.todo ≡ st.todo = triggered_none (starts st.store w) d.blocks st.todo (all_from_places (λ b. starts st.store w b ≡ false) d.blocks (λ k b at. same_start st.store n p b)) in
    ap (λ x. record st { store = x; wake = raised_if (changes st.store w) (feeds_driver w) d.drivers st.wake; todo = triggered (starts st.store w) d.blocks st.todo }) store
    ∙ ap (λ x. record st { wake = x; todo = triggered (starts st.store w) d.blocks st.todo }) wake
    ∙ ap (λ x. record st { todo = x }) todo

low_bits : (d : Netlist) (n : ℕ) (bits : List Bit) (st : State) → ((p : ℕ) → p < length bits → bit_in bits p ≡ bit_at st.store n p) → put_all d (bits_written n 0 bits) st ≡ st
low_bits d n [] st same = refl
low_bits d n (b ∷ bits) st same =
    let low : length bits + 0 ≡ length bits = omega arith in
    let is : b ≡ bit_at st.store n (length bits + 0) = sym (bit_first b bits) ∙ same (length bits) (omega arith) ∙ ap (bit_at st.store n) (sym low) in
    let here : put d (ToBit n (length bits + 0) b) st ≡ st = ap (λ x. put d (ToBit n (length bits + 0) x) st) is ∙ same_put d n (length bits + 0) st in
    ap (put_all d (bits_written n 0 bits)) here ∙ low_bits d n bits st (λ p lt. sym (bit_behind b bits p lt) ∙ same p (omega arith))

pub same_value : (d : Netlist) (n : ℕ) (bits : List Bit) (st : State) → bits ≡ value_at BX st.store.signals n → put_all d (bits_written n 0 bits) st ≡ st
same_value d n bits st is = low_bits d n bits st (λ p lt. ap (λ v. bit_in v p) is)
