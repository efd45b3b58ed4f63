-- Files that are written, and files that a crash tears.
use Rattle.std.proofs.Common.{◌≡◌, ℕ, ◌+◌, ◌-◌, ◌≤◌, ◌<◌, ◌⊎◌, inl, inr, List, [], ◌∷◌, ◌++◌, length, take, drop, get_or, max, min, refl, sym, ◌∙◌, ap, subst, arith, length-append, length-take, length-drop}
use Rattle.std.specs.Prelude.{replicate, Bool, true, false, ◌/◌, ◌%◌}
use Rattle.std.proofs.lemmas.List.{length-replicate, drop_all, take_at, append-nil, get_or_append_left, get_or-append_right, get_or-replicate, get_or-take, get_or-drop, get_or_past, ext_get_or}
use Rattle.std.proofs.lemmas.Bool.{cases_lt}
use Rattle.std.proofs.lemmas.Grind.{common_steps}
use Rattle.vod_deck.specs.Outcomes.{Torn}
use Rattle.vod_deck.specs.InMemory.{Piece, padded, laid, IsTorn, IsJoined, reach, part_of, has_bit, kept, picked}

pub torn-same : (at n : ℕ) (file : List ℕ) → Torn at n file file
torn-same at n file = record { before = refl; after = refl; no_shorter = omega arith; no_longer = omega arith }

pub length-padded : (n : ℕ) (bytes : List ℕ) → length (padded n bytes) ≡ max n (length bytes)
length-padded n bytes = omega (arith, length-append bytes (replicate (n - length bytes) 0), length-replicate {A = ℕ} (n - length bytes) 0)

-- filled up to its length or less, it is as it was
pub padded-short : (n : ℕ) (bytes : List ℕ) → n ≤ length bytes → padded n bytes ≡ bytes
padded-short n bytes le =
    let none : n - length bytes ≡ 0 = omega arith in
    rw none (append-nil bytes)

pub get_or-padded : (n : ℕ) (bytes : List ℕ) (i : ℕ) → get_or (padded n bytes) i 0 ≡ get_or bytes i 0
get_or-padded n bytes i =
    elim (cases_lt i (length bytes)) [
      | inl within ↦ get_or_append_left bytes (replicate (n - length bytes) 0) 0 i within
      | inr past ↦
          get_or-append_right bytes (replicate (n - length bytes) 0) (length bytes) i 0 refl past
          ∙ get_or-zeros (n - length bytes) (i - length bytes) ∙ sym (get_or_past bytes i 0 past)
    ]
  where
    get_or-zeros : (m j : ℕ) → get_or {A = ℕ} (replicate m 0) j 0 ≡ 0
    get_or-zeros m j =
        elim (cases_lt j m) [
          | inl within ↦ get_or-replicate {A = ℕ} m j 0 0 within
          | inr past ↦ get_or_past {X = ℕ} (replicate m 0) j 0 (omega (arith, length-replicate {A = ℕ} m 0))
        ]

-- inside a file or at its end the gap is empty
pub laid-holds : (at : ℕ) (bytes file : List ℕ) → at ≤ length file → laid at bytes file ≡ take at file ++ bytes ++ drop (at + length bytes) file
laid-holds at [] file le = sym (grind (arith, common_steps))
laid-holds at (b ∷ bs) file le =
    let full : at ≤ length (take at file) = omega (arith, length-take at file) in
    rw (padded-short at (take at file) full) refl

-- two files that are the same outside a range, one of them longer
pub torn-places : (at n : ℕ) (old new : List ℕ) → length old ≤ length new → length new ≤ max (length old) (at + n) →
    (at ≤ length old) ⊎ (length new ≡ length old) →
    ((i : ℕ) → (i < at) ⊎ (at + n ≤ i) → get_or new i 0 ≡ get_or old i 0) → Torn at n old new
torn-places at n old new longer reached near same = record {
  before = same_lists0 (take at new) (take at old) fronts (λ i l. front i l);
  after = same_lists0 (drop (at + n) new) (drop (at + n) old) backs (λ i l. get_or-drop (at + n) new i 0 ∙ same (at + n + i) (inr (omega arith)) ∙ sym (get_or-drop (at + n) old i 0));
  no_shorter = longer;
  no_longer = reached;
}
  where
    same_lists0 : (xs ys : List ℕ) → length xs ≡ length ys → ((i : ℕ) → i < length xs → get_or xs i 0 ≡ get_or ys i 0) → xs ≡ ys
    same_lists0 xs ys long each = ext_get_or 0 xs ys long each

    fronts : length (take at new) ≡ length (take at old)
    fronts = elim near [ inl l ↦ omega (arith, length-take at new, length-take at old) | inr e ↦ omega (arith, length-take at new, length-take at old) ]

    backs : length (drop (at + n) new) ≡ length (drop (at + n) old)
    backs = omega (arith, length-drop (at + n) new, length-drop (at + n) old)

    front : (i : ℕ) → i < length (take at new) → get_or (take at new) i 0 ≡ get_or (take at old) i 0
    front i l =
        let low : i < at = omega (arith, length-take at new) in
        get_or-take at new i 0 low ∙ same i (inl low) ∙ sym (get_or-take at old i 0 low)

pub length-laid : (at : ℕ) (bytes file : List ℕ) → length (laid at bytes file) ≤ max (length file) (at + length bytes)
length-laid at [] file = omega arith
length-laid at (b ∷ bs) file =
    omega (arith, length-append (padded at (take at file)) (b ∷ bs), length-append (padded at (take at file) ++ b ∷ bs) (drop (at + length (b ∷ bs)) file), length-padded at (take at file), length-take at file, length-drop (at + length (b ∷ bs)) file)

pub laid-longer : (at : ℕ) (bytes file : List ℕ) → length file ≤ length (laid at bytes file)
laid-longer at [] file = omega arith
laid-longer at (b ∷ bs) file =
    omega (arith, length-append (padded at (take at file)) (b ∷ bs), length-append (padded at (take at file) ++ b ∷ bs) (drop (at + length (b ∷ bs)) file), length-padded at (take at file), length-take at file, length-drop (at + length (b ∷ bs)) file)

-- some bytes reach their own end
pub laid-reaches : (at b : ℕ) (bs file : List ℕ) → at + length (b ∷ bs) ≤ length (laid at (b ∷ bs) file)
laid-reaches at b bs file =
    omega (arith, length-append (padded at (take at file)) (b ∷ bs), length-append (padded at (take at file) ++ b ∷ bs) (drop (at + length (b ∷ bs)) file), length-padded at (take at file), length-take at file)

-- outside of what is laid, the bytes stay, those past the end being 0
pub laid-places : (at : ℕ) (bytes file : List ℕ) (i : ℕ) → (i < at) ⊎ (at + length bytes ≤ i) → get_or (laid at bytes file) i 0 ≡ get_or file i 0
laid-places at [] file i out = refl
laid-places at (b ∷ bs) file i (inl low) =
    let front : length (padded at (take at file)) ≡ at = omega (arith, length-padded at (take at file), length-take at file) in
    get_or_append_left (padded at (take at file) ++ b ∷ bs) (drop (at + length (b ∷ bs)) file) 0 i (omega (arith, length-append (padded at (take at file)) (b ∷ bs)))
    ∙ get_or_append_left (padded at (take at file)) (b ∷ bs) 0 i (omega arith)
    ∙ get_or-padded at (take at file) i ∙ get_or-take at file i 0 low
laid-places at (b ∷ bs) file i (inr high) =
    let front : length (padded at (take at file)) ≡ at = omega (arith, length-padded at (take at file), length-take at file) in
    let both : length (padded at (take at file) ++ b ∷ bs) ≡ at + length (b ∷ bs) = omega (arith, length-append (padded at (take at file)) (b ∷ bs)) in
    let rejoined : at + length (b ∷ bs) + (i - (at + length (b ∷ bs))) ≡ i = omega arith in
    get_or-append_right (padded at (take at file) ++ b ∷ bs) (drop (at + length (b ∷ bs)) file) (at + length (b ∷ bs)) i 0 both high
    ∙ get_or-drop (at + length (b ∷ bs)) file (i - (at + length (b ∷ bs))) 0
    ∙ ap (λ j. get_or file j 0) rejoined

-- a write that is held is one of the ways in which it may be torn
pub torn-laid : (at : ℕ) (bytes file : List ℕ) → at ≤ length file → Torn at (length bytes) file (laid at bytes file)
torn-laid at bytes file le =
    torn-places at (length bytes) file (laid at bytes file) (laid-longer at bytes file) (length-laid at bytes file) (inl le) (λ i out. laid-places at bytes file i out)

length-part_of : (cut half : Bool) (bytes : List ℕ) → length (part_of cut half bytes) ≤ length bytes
length-part_of false half bytes = omega arith
length-part_of true true bytes = omega (arith, length-take (length bytes / 2) bytes)
length-part_of true false bytes = omega arith

pub length-kept : (pick i : ℕ) (bytes : List ℕ) → length (kept pick i bytes) ≤ length bytes
length-kept pick i bytes = length-part_of (has_bit pick (i % 32)) (has_bit pick (32 + i % 32)) bytes

-- a file that writes left, filled up towards a length that is not below its own, is torn by them
pub picked-reach : (pick : ℕ) (ws : List Piece) (file : List ℕ) → length (picked pick ws file) ≤ reach file ws
picked-reach pick [] file = omega arith
picked-reach pick (w ∷ ws) file =
    omega (arith, picked-reach pick ws file, length-laid w.at (kept pick (length ws) w.bytes) (picked pick ws file), length-kept pick (length ws) w.bytes)

torn-kept : (at n end end' : ℕ) (bytes file : List ℕ) → length bytes ≤ n → length file ≤ end → end ≤ end' → end' ≤ max end (at + n) →
    length (laid at bytes file) ≤ end' → (at ≤ end) ⊎ (end' ≡ end) → Torn at n (padded end file) (padded end' (laid at bytes file))
torn-kept at n end end' bytes file short below more reached whole near =
    let e : length (padded end file) ≡ end = omega (arith, length-padded end file) in
    let e' : length (padded end' (laid at bytes file)) ≡ end' = omega (arith, length-padded end' (laid at bytes file)) in
    torn-places at n (padded end file) (padded end' (laid at bytes file)) (omega arith) (omega arith)
    (elim near [ inl l ↦ inl (omega arith) | inr same ↦ inr (omega arith) ])
    (λ i out. get_or-padded end' (laid at bytes file) i
    ∙ laid-places at bytes file i (elim out [ inl l ↦ inl l | inr h ↦ inr (omega arith) ])
    ∙ sym (get_or-padded end file i))

pub picked-torn : (pick : ℕ) (ws : List Piece) (file : List ℕ) (long : ℕ) → IsJoined file ws → length (picked pick ws file) ≤ long →
    IsTorn ws file (padded (min long (reach file ws)) (picked pick ws file))
picked-torn pick [] file long joined le = padded-short (min long (length file)) file (omega arith)
picked-torn pick (w ∷ ws) file long joined le =
    let old : List ℕ = picked pick ws file in
    let keep : List ℕ = kept pick (length ws) w.bytes in
    let longer : length old ≤ length (laid w.at keep old) = laid-longer w.at keep old in
    let inside : length old ≤ reach file ws = picked-reach pick ws file in
    let fits : length keep ≤ length w.bytes = length-kept pick (length ws) w.bytes in
    let far : length (laid w.at keep old) ≤ max (length old) (w.at + length keep) = length-laid w.at keep old in
    let at_old : w.at ≤ reach file ws = joined.0 in (
      padded (min long (reach file ws)) old,
      picked-torn pick ws file long joined.1 (omega arith),
      torn-kept w.at (length w.bytes) (min long (reach file ws)) (min long (max (reach file ws) (w.at + length w.bytes))) keep old fits (omega arith) (omega arith) (omega arith) (omega arith)
          (elim (cases_lt (min long (reach file ws)) w.at) [ inl past ↦ inr (omega arith) | inr near ↦ inl near ]),
    )

-- what a pick leaves is one of the ways in which the writes may be torn
pub picked-is-torn : (pick : ℕ) (ws : List Piece) (file : List ℕ) → IsJoined file ws → IsTorn ws file (picked pick ws file)
picked-is-torn pick ws file joined =
    let all : padded (min (length (picked pick ws file)) (reach file ws)) (picked pick ws file) ≡ picked pick ws file =
    padded-short (min (length (picked pick ws file)) (reach file ws)) (picked pick ws file) (omega arith) in
    let P : List ℕ → Type 0 = λ f. IsTorn ws file f in
    subst P all (picked-torn pick ws file (length (picked pick ws file)) joined (omega arith))

pub take-padded : (at end : ℕ) (file : List ℕ) → at ≤ end → take at (padded end file) ≡ padded at (take at file)
take-padded at end file le =
    let low : length (take at (padded end file)) ≡ at = omega (arith, length-take at (padded end file), length-padded end file) in
    ext_get_or 0 (take at (padded end file)) (padded at (take at file)) (omega (arith, length-padded at (take at file), length-take at file))
    (λ i l. get_or-take at (padded end file) i 0 (omega arith) ∙ get_or-padded end file i
    ∙ sym (get_or-padded at (take at file) i ∙ get_or-take at file i 0 (omega arith)))

pub drop-padded : (end : ℕ) (file : List ℕ) → drop end (padded end file) ≡ drop end file
drop-padded end file =
    ext_get_or 0 (drop end (padded end file)) (drop end file) (omega (arith, length-drop end (padded end file), length-drop end file, length-padded end file))
    (λ i l. get_or-drop end (padded end file) i 0 ∙ get_or-padded end file (end + i) ∙ sym (get_or-drop end file i 0))

-- bytes put over a file that was filled up to their end
pub put-laid : (at end n : ℕ) (piece file filled buf new : List ℕ) → 0 < length piece → end ≡ at + length piece → filled ≡ padded end file →
    buf ≡ filled → new ≡ take at buf ++ piece ++ drop (at + length piece) buf → n ≡ length filled → take n (new ++ drop (length new) filled) ≡ laid at piece file
put-laid at end n [] file filled buf new some to fill same is long = absurd (omega arith)
put-laid at end n (b ∷ bs) file filled buf new some to fill same is long =
    let wide : at + length (b ∷ bs) ≤ length filled = rw fill (omega (arith, length-padded end file)) in
    let e : new ≡ take at filled ++ (b ∷ bs) ++ drop (at + length (b ∷ bs)) filled = is ∙ ap (λ f. take at f ++ (b ∷ bs) ++ drop (at + length (b ∷ bs)) f) same in
    let full : length new ≡ length filled =
    ap length e ∙ omega (arith, length-append (take at filled) (b ∷ bs), length-append (take at filled ++ b ∷ bs) (drop (at + length (b ∷ bs)) filled), length-take at filled, length-drop (at + length (b ∷ bs)) filled) in
    let none : drop (length new) filled ≡ [] = drop_all (length new) filled (omega arith) in
    let whole : take n (new ++ drop (length new) filled) ≡ new = ap (λ t. take n (new ++ t)) none ∙ take_at new [] n (omega arith) in
    let front : take at filled ≡ padded at (take at file) = ap (λ f. take at f) fill ∙ take-padded at end file (omega arith) in
    let back : drop (at + length (b ∷ bs)) filled ≡ drop (at + length (b ∷ bs)) file =
    ap (λ m. drop m filled) (sym to) ∙ ap (λ f. drop end f) fill ∙ drop-padded end file ∙ ap (λ m. drop m file) to in
    whole ∙ e ∙ rw (front, back) refl
