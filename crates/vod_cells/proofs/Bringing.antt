-- What drivers bring their targets, and whether these have it.
use Rattle.std.proofs.Common.{◌≡◌, ℕ, ◌+◌, ◌-◌, ◌<◌, ◌≤◌, ◌&&◌, not, zero, suc, Bool, true, false, List, [], ◌∷◌, length, map, drop, get_or, arith, refl, ap, ◌∙◌, sym, All}
use Rattle.std.proofs.Math.ListN.{drop_of_length-le}
use Rattle.std.proofs.Math.Seq.{drop-cons}
use Rattle.std.proofs.lemmas.List.{length-map, get_or_read}
use Rattle.vod_bits.specs.Bit.{Bit, BX}
use Rattle.vod_bits.specs.Lengths.{resize_length}
use Rattle.vod_bits.specs.Value.{resize_bits}
use Rattle.vod_design.specs.declared.statement.Place.{Place}
use Rattle.vod_design.specs.Eval.{same_bit}
use Rattle.vod_design.specs.Values.{value_at}
use Rattle.vod_eval.specs.Listed.{values_of}
use Rattle.vod_slot.specs.Store.{bit_in, same_bits}
use Rattle.vod_cells.specs.Wide.{bit_of_wide}
use Rattle.vod_cells.proofs.Bitwise.{any_default}
use Rattle.vod_cells.proofs.OneBit.{wide_at}

map_same : {A : Type 0} (xs : List A) → map (λ x. x) xs ≡ xs
map_same [] = refl
map_same (x ∷ xs) = ap (λ more. x ∷ more) (map_same xs)

map_map_same : {A : Type 0} (lists : List (List A)) → map (map (λ x. x)) lists ≡ lists
map_map_same [] = refl
map_map_same (xs ∷ lists) = let here = map_same xs in let more = map_map_same lists in rw (here, more) refl

pub same_values : (signals : List (List Bit)) (memories : List (List (List Bit))) → values_of BX (map (λ v. v) signals) (map (map (λ v. v)) memories) ≡ values_of BX signals memories
same_values signals memories = rw (map_same signals, map_map_same memories) refl

-- one bit after the other
and-true : (b : Bool) → (b && true) ≡ b
and-true true = refl
and-true false = refl

get_or-map : {A : Type 0} (f : A → Bit) (xs : List A) (i : ℕ) (x : A) → i < length xs → x ≡ get_or xs i x → get_or (map f xs) i BX ≡ f x
get_or-map f [] i x h at = absurd (omega arith)
get_or-map f (y ∷ xs) zero x h at = ap f (sym at)
get_or-map f (y ∷ xs) (suc i) x h at = get_or-map f xs i x (omega arith) at

back : (t b : Bool) → t ≡ not b → b ≡ not t
back t true h = sym (ap not h)
back t false h = sym (ap not h)

-- what the bits of a target have
abbrev pub held : List (List Bit) → Place → Bit
held signals p = bit_in (value_at BX signals p.signal) p.bit

opened : (signals : List (List Bit)) (places : List Place) (value : List Bit) (i : ℕ) (p : Place) (old new : List Bit) (t : Bool) → i < length places → p ≡ get_or places i p → old ≡ held signals p ∷ [] → new ≡ bit_of_wide value (length places - 1 - i) ∷ [] → t ≡ not (same_bits old new) →
    same_bits (drop i (map (held signals) places)) (drop i (resize_bits (length places) false value)) ≡ (not t && same_bits (drop (i + 1) (map (held signals) places)) (drop (i + 1) (resize_bits (length places) false value)))
opened signals places value i p old new t h at is_old is_new is_t =
    let olds = map (held signals) places in
    let bits = resize_bits (length places) false value in
    let next : suc i ≡ i + 1 = omega arith in
    let here : i < length olds = omega (arith, h, length-map places (held signals)) in
    let there : i < length bits = omega (arith, h, resize_length (length places) false value) in
    let one : drop i olds ≡ held signals p ∷ drop (i + 1) olds = drop-cons olds i BX here ∙ ap (λ b. b ∷ drop (suc i) olds) (get_or-map (held signals) places i p h at) ∙ ap (λ n. held signals p ∷ drop n olds) next in
    let two : drop i bits ≡ bit_of_wide value (length places - 1 - i) ∷ drop (i + 1) bits = drop-cons bits i BX there ∙ ap (λ b. b ∷ drop (suc i) bits) (wide_at (length places) i value h) ∙ ap (λ n. bit_of_wide value (length places - 1 - i) ∷ drop n bits) next in
    let test : same_bit (held signals p) (bit_of_wide value (length places - 1 - i)) ≡ not t =
    sym (and-true (same_bit (held signals p) (bit_of_wide value (length places - 1 - i)))) ∙ sym (ap (λ o. same_bits o new) is_old ∙ ap (same_bits (held signals p ∷ [])) is_new) ∙ back t (same_bits old new) is_t in
    ap (λ xs. same_bits xs (drop i bits)) one ∙ ap (same_bits (held signals p ∷ drop (i + 1) olds)) two ∙ ap (λ b. b && same_bits (drop (i + 1) olds) (drop (i + 1) bits)) test

pub goes_on : (signals : List (List Bit)) (places : List Place) (value : List Bit) (i : ℕ) (p q : Place) (old new : List Bit) (t : Bool) (whole : Bool) → i < length places → p ≡ get_or places i q → old ≡ held signals p ∷ [] → new ≡ bit_of_wide value (length places - 1 - i) ∷ [] → t ≡ not (same_bits old new) → t ≡ false →
    same_bits (drop i (map (held signals) places)) (drop i (resize_bits (length places) false value)) ≡ whole → same_bits (drop (i + 1) (map (held signals) places)) (drop (i + 1) (resize_bits (length places) false value)) ≡ whole
goes_on signals places value i p q old new t whole h at is_old is_new is_t clear before =
    let there : p ≡ get_or places i p = at ∙ any_default places i q p h in
    sym (opened signals places value i p old new t h there is_old is_new is_t ∙ ap (λ b. not b && same_bits (drop (i + 1) (map (held signals) places)) (drop (i + 1) (resize_bits (length places) false value))) clear) ∙ before

pub differs : (signals : List (List Bit)) (places : List Place) (value : List Bit) (i : ℕ) (p q : Place) (old new : List Bit) (t : Bool) (whole : Bool) → i < length places → p ≡ get_or places i q → old ≡ held signals p ∷ [] → new ≡ bit_of_wide value (length places - 1 - i) ∷ [] → t ≡ not (same_bits old new) → t ≡ true →
    same_bits (drop i (map (held signals) places)) (drop i (resize_bits (length places) false value)) ≡ whole → false ≡ whole
differs signals places value i p q old new t whole h at is_old is_new is_t set_ before =
    let there : p ≡ get_or places i p = at ∙ any_default places i q p h in
    sym (opened signals places value i p old new t h there is_old is_new is_t ∙ ap (λ b. not b && same_bits (drop (i + 1) (map (held signals) places)) (drop (i + 1) (resize_bits (length places) false value))) set_) ∙ before

pub all_same : (signals : List (List Bit)) (places : List Place) (value : List Bit) (i : ℕ) (whole : Bool) → length places ≤ i → same_bits (drop i (map (held signals) places)) (drop i (resize_bits (length places) false value)) ≡ whole → true ≡ whole
all_same signals places value i whole past before =
    let one : drop i (map (held signals) places) ≡ [] = drop_of_length-le (map (held signals) places) (omega (arith, past, length-map places (held signals))) in
    let two : drop i (resize_bits (length places) false value) ≡ [] = drop_of_length-le (resize_bits (length places) false value) (omega (arith, past, resize_length (length places) false value)) in
    sym (ap (λ xs. same_bits xs (drop i (resize_bits (length places) false value))) one ∙ ap (same_bits []) two) ∙ before

pub old_held : (signals : List (List Bit)) (places : List Place) (i : ℕ) (p q : Place) (v old : List Bit) (b : ℕ) → All (λ (r : Place). r.signal < length signals) places → i < length places → p ≡ get_or places i q → v ≡ get_or signals p.signal v → b ≡ p.bit → old ≡ bit_in v b ∷ [] → old ≡ held signals p ∷ []
old_held signals places i p q v old b all h at is low reads_it =
    let within : p.signal < length signals = rw at (all i q h) in
    reads_it ∙ ap (λ n. bit_in v n ∷ []) low ∙ ap (λ w. bit_in w p.bit ∷ []) (get_or_read signals p.signal v within is (BX ∷ []))
