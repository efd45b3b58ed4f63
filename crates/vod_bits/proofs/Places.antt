-- Lists of bits by their places.
use Rattle.std.proofs.Common.{◌≡◌, ℕ, zero, suc, ◌+◌, ◌-◌, ◌<◌, ◌≤◌, List, ◌∷◌, ◌++◌, length, take, drop, replicate, map, refl, sym, ◌∙◌, ap, arith, cond, Bool, ltb, inl, inr}
use Rattle.std.proofs.lemmas.List.{take_at, drop_at}
use Rattle.std.proofs.lemmas.Bool.{lt-ltb, le-ltb, cases_lt}
use Rattle.vod_bits.specs.Bit.{Bit, B0}
use Rattle.vod_bits.specs.Value.{bits_from, zip_with, shift_left, shift_right, resize_bits, slice_bits, upper_bit}
use Rattle.vod_bits.specs.Fields.{length-bits_from}

pub bits_from-same : (f g : ℕ → Bit) (w : ℕ) → ((i : ℕ) → i < w → f i ≡ g i) → bits_from f w ≡ bits_from g w
unfolding bits_from
bits_from-same f g zero h = refl
bits_from-same f g (suc w) h =
    let here : f w ≡ g w = h w (omega arith) in
    let more : bits_from f w ≡ bits_from g w = bits_from-same f g w (λ i l. h i (omega arith)) in cc

pub zip-bits_from : (h : Bit → Bit → Bit) (f g : ℕ → Bit) (w : ℕ) → zip_with h (bits_from f w) (bits_from g w) ≡ bits_from (λ i. h (f i) (g i)) w
unfolding bits_from zip_with
zip-bits_from h f g zero = refl
zip-bits_from h f g (suc w) = ap (λ bs. h (f w) (g w) ∷ bs) (zip-bits_from h f g w)

pub map-bits_from : (h : Bit → Bit) (f : ℕ → Bit) (w : ℕ) → map h (bits_from f w) ≡ bits_from (λ i. h (f i)) w
unfolding bits_from
map-bits_from h f zero = refl
map-bits_from h f (suc w) = ap (λ bs. h (f w) ∷ bs) (map-bits_from h f w)

pub replicate-bits_from : (b : Bit) (n : ℕ) → replicate n b ≡ bits_from (λ _. b) n
unfolding bits_from
replicate-bits_from b zero = refl
replicate-bits_from b (suc n) = ap (λ bs. b ∷ bs) (replicate-bits_from b n)

-- v bits before w others are the bits of both
pub append-bits_from : (f : ℕ → Bit) (v w : ℕ) → bits_from (λ i. f (w + i)) v ++ bits_from f w ≡ bits_from f (v + w)
unfolding bits_from
append-bits_from f zero w = let e : w ≡ zero + w = omega arith in ap (bits_from f) e
append-bits_from f (suc v) w =
    let more : bits_from (λ i. f (w + i)) v ++ bits_from f w ≡ bits_from f (v + w) = append-bits_from f v w in
    let turned : w + v ≡ v + w = omega arith in
    let front : f (w + v) ≡ f (v + w) = ap f turned in
    let whole : f (w + v) ∷ (bits_from (λ i. f (w + i)) v ++ bits_from f w) ≡ bits_from f (suc (v + w)) = cc in
    let count : suc (v + w) ≡ suc v + w = omega arith in
    whole ∙ ap (bits_from f) count

-- the same where the upper bits and the lower ones are given apart
pub join-bits_from : (g f h : ℕ → Bit) (v w : ℕ) → ((i : ℕ) → i < v → g i ≡ h (w + i)) → ((i : ℕ) → i < w → f i ≡ h i) → bits_from g v ++ bits_from f w ≡ bits_from h (v + w)
join-bits_from g f h v w up low =
    let upper : bits_from g v ≡ bits_from (λ i. h (w + i)) v = bits_from-same g (λ i. h (w + i)) v up in
    let lower : bits_from f w ≡ bits_from h w = bits_from-same f h w low in
    let both : bits_from g v ++ bits_from f w ≡ bits_from (λ i. h (w + i)) v ++ bits_from h w = cc in
    both ∙ append-bits_from h v w

pub drop-bits_from : (f : ℕ → Bit) (v w : ℕ) → drop v (bits_from f (v + w)) ≡ bits_from f w
drop-bits_from f v w =
    rw (← append-bits_from f v w) (drop_at (bits_from (λ i. f (w + i)) v) (bits_from f w) v (length-bits_from _ v))

pub take-bits_from : (f : ℕ → Bit) (v w : ℕ) → take v (bits_from f (v + w)) ≡ bits_from (λ i. f (w + i)) v
take-bits_from f v w =
    rw (← append-bits_from f v w) (take_at (bits_from (λ i. f (w + i)) v) (bits_from f w) v (length-bits_from _ v))

-- the places of one list on top of those of another
abbrev pub stacked : ℕ → (ℕ → Bit) → (ℕ → Bit) → ℕ → Bit
stacked n low high i = cond (ltb i n) (low i) (high (i - n))

pub stacked-low : (n : ℕ) (low high : ℕ → Bit) (i : ℕ) → i < n → stacked n low high i ≡ low i
stacked-low n low high i h = rw (lt-ltb i n h) refl

pub stacked-high : (n : ℕ) (low high : ℕ → Bit) (i : ℕ) → stacked n low high (n + i) ≡ high i
stacked-high n low high i =
    let past : n ≤ n + i = omega arith in
    let back : n + i - n ≡ i = omega arith in
    rw (le-ltb (n + i) n past) (ap high back)

pub stacked-is : (n : ℕ) (low high : ℕ → Bit) (i : ℕ) (b : Bit) → (i < n → low i ≡ b) → (n ≤ i → high (i - n) ≡ b) → stacked n low high i ≡ b
stacked-is n low high i b p q =
    elim (cases_lt i n) [ inl l ↦ rw (lt-ltb i n l) (p l) | inr r ↦ rw (le-ltb i n r) (q r) ]

pub shift_left-places : (f h : ℕ → Bit) (n w : ℕ) → ((i : ℕ) → i < w → i < n → B0 ≡ h i) → ((i : ℕ) → n + i < w → f i ≡ h (n + i)) → shift_left n (bits_from f w) ≡ bits_from h w
unfolding shift_left
shift_left-places f h n w low high =
    let zero_at : ℕ → Bit = λ _. B0 in
    let both : ℕ → Bit = stacked n zero_at f in
    let zeros : replicate n B0 ≡ bits_from zero_at n = replicate-bits_from B0 n in
    let joined : bits_from f w ++ bits_from zero_at n ≡ bits_from both (w + n)
    = join-bits_from f zero_at both w n (λ i _. sym (stacked-high n zero_at f i)) (λ i l. sym (stacked-low n zero_at f i l)) in
    let count : w + n ≡ n + w = omega arith in
    rw (zeros, joined, count)
    (drop-bits_from both n w ∙ bits_from-same both h w (λ i l. stacked-is n zero_at f i (h i) (low i l) (λ r.
    let whole : n + (i - n) ≡ i = omega arith in
    let inside : n + (i - n) < w = omega arith in
    high (i - n) inside ∙ ap h whole)))

pub shift_right-places : (fill : Bit) (f h : ℕ → Bit) (n w : ℕ) → ((i : ℕ) → i < w → w ≤ n + i → fill ≡ h i) → ((i : ℕ) → n + i < w → f (n + i) ≡ h i) → shift_right fill n (bits_from f w) ≡ bits_from h w
unfolding shift_right
shift_right-places fill f h n w high low =
    let fill_at : ℕ → Bit = λ _. fill in
    let both : ℕ → Bit = stacked w f fill_at in
    let len : length (bits_from f w) ≡ w = length-bits_from f w in
    let fills : replicate n fill ≡ bits_from fill_at n = replicate-bits_from fill n in
    let joined : bits_from fill_at n ++ bits_from f w ≡ bits_from both (n + w)
    = join-bits_from fill_at f both n w (λ i _. sym (stacked-high w f fill_at i)) (λ i l. sym (stacked-low w f fill_at i l)) in
    let count : n + w ≡ w + n = omega arith in
    rw (len, fills, joined, count)
    (take-bits_from both w n ∙ bits_from-same (λ i. both (n + i)) h w (λ i l. stacked-is w f fill_at (n + i) (h i) (low i) (high i l)))

pub slice-places : (f h : ℕ → Bit) (low width w : ℕ) → low + width ≤ w → ((i : ℕ) → i < width → f (low + i) ≡ h i) → slice_bits low width (bits_from f w) ≡ bits_from h width
unfolding slice_bits
slice-places f h low width w within same =
    let len : length (bits_from f w) ≡ w = length-bits_from f w in
    let count : w ≡ (w - (low + width)) + (low + width) = omega arith in
    let dropped : drop (w - (low + width)) (bits_from f w) ≡ bits_from f (low + width)
    = ap (λ n. drop (w - (low + width)) (bits_from f n)) count ∙ drop-bits_from f (w - (low + width)) (low + width) in
    let turned : low + width ≡ width + low = omega arith in
    let taken : take width (bits_from f (low + width)) ≡ bits_from (λ i. f (low + i)) width
    = ap (λ n. take width (bits_from f n)) turned ∙ take-bits_from f width low in
    rw (len, dropped, taken) (bits_from-same (λ i. f (low + i)) h width same)

-- the bit that a value is extended by
abbrev pub fill_of : Bool → List Bit → Bit
fill_of signed bs = cond signed (upper_bit bs) B0

pub widen-places : (signed : Bool) (f h : ℕ → Bit) (v w : ℕ) → w ≤ v → ((i : ℕ) → i < w → f i ≡ h i) → ((i : ℕ) → w + i < v → fill_of signed (bits_from f w) ≡ h (w + i)) → resize_bits v signed (bits_from f w) ≡ bits_from h v
unfolding resize_bits
widen-places signed f h v w within low high =
    let fill_at : ℕ → Bit = λ _. fill_of signed (bits_from f w) in
    let len : length (bits_from f w) ≡ w = length-bits_from f w in
    let none : w - v ≡ zero = omega arith in
    let fills : replicate (v - w) (fill_of signed (bits_from f w)) ≡ bits_from fill_at (v - w) = replicate-bits_from (fill_of signed (bits_from f w)) (v - w) in
    let joined : bits_from fill_at (v - w) ++ bits_from f w ≡ bits_from h ((v - w) + w)
    = join-bits_from fill_at f h (v - w) w (λ i l. high i (omega arith)) low in
    let count : (v - w) + w ≡ v = omega arith in
    rw (len, none, fills, joined, count) refl

pub narrow-places : (signed : Bool) (f h : ℕ → Bit) (v w : ℕ) → v ≤ w → ((i : ℕ) → i < v → f i ≡ h i) → resize_bits v signed (bits_from f w) ≡ bits_from h v
unfolding resize_bits
narrow-places signed f h v w within same =
    let len : length (bits_from f w) ≡ w = length-bits_from f w in
    let none : v - w ≡ zero = omega arith in
    let count : w ≡ (w - v) + v = omega arith in
    let dropped : drop (w - v) (bits_from f w) ≡ bits_from f v = ap (λ n. drop (w - v) (bits_from f n)) count ∙ drop-bits_from f (w - v) v in
    rw (len, none, dropped) (bits_from-same f h v same)
