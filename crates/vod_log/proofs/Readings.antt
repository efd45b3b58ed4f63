-- Readings: where they end, and how they go on behind the same front.
use Rattle.std.proofs.Common.{◌≡◌, ℕ, zero, suc, ◌+◌, ◌≤◌, ◌<◌, List, [], ◌∷◌, ◌++◌, length, take, drop, get_or, refl, sym, ◌∙◌, ap, subst, arith}
use Rattle.std.specs.Prelude.{Bool, true, false, ◌==◌, ◌&&◌, nat_lt, Option, None, Some, if◌then◌else◌}
use Rattle.std.proofs.lemmas.List.{take-take, drop-take}
use Rattle.std.proofs.lemmas.Bool.Decides.{nat_tests}
use Rattle.vod_log.specs.Format.{Entry, Reading, header_of, follows, accepted, record_at, entry_of, behind, gate_read, reading}
use Rattle.vod_log.specs.declared.header.Header.{Header}

-- records before those of a reading
abbrev pub prepended : List Entry → Reading → Reading
prepended es r = record r { entries = es ++ r.entries }

-- where a reading that is framed ends: at a closed gate that is inside
pub record Ends (skip at : ℕ) (bytes : List ℕ) (gate : ℕ) : Type 0 where
  pub k : ℕ
  pub gate_is : gate ≡ at + k
  pub past : skip ≤ k
  pub inside : k < length bytes
  pub closed : get_or bytes k 1 ≡ 0

pub is_zero : (g : ℕ) → (g == 0) ≡ true → g ≡ 0
is_zero g e = grind arith

pub both-true : (x y : Bool) → (x && y) ≡ true → (x ≡ true) × (y ≡ true)
both-true true true e = (refl, refl)
both-true true false e = absurd cc
both-true false y e = absurd cc

lt-true : (a b : ℕ) → nat_lt a b ≡ true → a < b
lt-true a b e = grind (arith, nat_tests)

pub accepted-some : (prev : Option Header) (size : ℕ) (o : Option Header) (h : Header) → accepted prev size o ≡ Some h →
    (o ≡ Some h) × (follows prev h ≡ true) × (48 + h.length < size)
accepted-some prev size None h e = absurd cc
accepted-some prev size (Some x) h e = by_test (follows prev x && nat_lt (48 + x.length) size) refl e
  where
    by_test : (t : Bool) → (follows prev x && nat_lt (48 + x.length) size) ≡ t → (if t then Some x else None) ≡ Some h →
        (Some x ≡ Some h) × (follows prev h ≡ true) × (48 + h.length < size)
    by_test true is same =
        let xh : x ≡ h = cc in
        let P : Header → Type 0 = λ y. (follows prev y && nat_lt (48 + y.length) size) ≡ true in
        let both : (follows prev h && nat_lt (48 + h.length) size) ≡ true = subst P xh is in
        (same, (both-true (follows prev h) (nat_lt (48 + h.length) size) both).0, lt-true (48 + h.length) size (both-true (follows prev h) (nat_lt (48 + h.length) size) both).1)
    by_test false is same = absurd cc

pub accepted-is : (prev : Option Header) (size : ℕ) (h : Header) → follows prev h ≡ true → 48 + h.length < size → accepted prev size (Some h) ≡ Some h
accepted-is prev size h f fits =
    let inside : nat_lt (48 + h.length) size ≡ true = grind (arith, nat_tests) in
    rw (f, inside) refl

ends-gate : (prev : Option Header) (at g : ℕ) (rest : List ℕ) (t : Bool) (found : Option Header) (more : Header → Reading) → (g == 0) ≡ t →
    ((h : Header) → (more h).framed ≡ true → Ends (48 + h.length) (at + 1) rest (more h).gate) →
    (gate_read prev at rest t found more).framed ≡ true → Ends 0 at (g ∷ rest) (gate_read prev at rest t found more).gate
ends-gate prev at g rest true found more zero_is later e =
    record { k = 0; gate_is = omega arith; past = omega arith; inside = omega arith; closed = is_zero g zero_is }
ends-gate prev at g rest false None more zero_is later e = absurd cc
ends-gate prev at g rest false (Some h) more zero_is later e =
    let r : Ends (48 + h.length) (at + 1) rest (more h).gate = later h e in
    record { k = suc r.k; gate_is = omega (arith, r.gate_is); past = omega arith; inside = omega (arith, r.inside); closed = r.closed }

pub ends : (bytes : List ℕ) (prev : Option Header) (skip at : ℕ) → (reading prev skip at bytes).framed ≡ true → Ends skip at bytes (reading prev skip at bytes).gate
ends [] prev skip at e = absurd cc
ends (g ∷ rest) prev zero at e =
    ends-gate prev at g rest (g == 0) (record_at prev rest) (λ h. reading (Some h) (48 + h.length) (at + 1) rest) refl (λ h framed. ends rest (Some h) (48 + h.length) (at + 1) framed) e
ends (b ∷ rest) prev (suc n) at e =
    let r : Ends n (at + 1) rest (reading prev n (at + 1) rest).gate = ends rest prev n (at + 1) e in
    record { k = suc r.k; gate_is = omega (arith, r.gate_is); past = omega (arith, r.past); inside = omega (arith, r.inside); closed = r.closed }

-- a gate is reached by passing over what is before it
pub reading-skip : (bytes : List ℕ) (prev : Option Header) (skip at : ℕ) → skip ≤ length bytes → reading prev skip at bytes ≡ reading prev 0 (at + skip) (drop skip bytes)
reading-skip [] prev zero at le = ap (λ a. reading prev 0 a []) (omega arith)
reading-skip [] prev (suc n) at le = absurd (omega arith)
reading-skip (g ∷ rest) prev zero at le = ap (λ a. reading prev 0 a (g ∷ rest)) (omega arith)
reading-skip (b ∷ rest) prev (suc n) at le =
    reading-skip rest prev n (at + 1) (omega arith) ∙ ap (λ a. reading prev 0 a (drop n rest)) (omega arith)

-- the same record is behind the same gate where it is inside
pub record-same : (prev : Option Header) (rest rest' : List ℕ) (h : Header) (k : ℕ) → record_at prev rest ≡ Some h → 48 + h.length ≤ k → k < length rest' →
    take k rest' ≡ take k rest → record_at prev rest' ≡ Some h
record-same prev rest rest' h k found far inside same =
    let was : (header_of (take 48 rest) ≡ Some h) × (follows prev h ≡ true) × (48 + h.length < length rest) =
    accepted-some prev (length rest) (header_of (take 48 rest)) h found in
    let near : 48 ≤ k = omega arith in
    let front : take 48 rest' ≡ take 48 rest = sym (take-take 48 k rest' near) ∙ ap (λ xs. take 48 xs) same ∙ take-take 48 k rest near in
    ap (λ xs. accepted prev (length rest') (header_of xs)) front ∙ ap (λ o. accepted prev (length rest') o) was.0
    ∙ accepted-is prev (length rest') h was.1 (omega arith)

payload-same : (rest rest' : List ℕ) (n k : ℕ) → 48 + n ≤ k → take k rest' ≡ take k rest → take n (drop 48 rest') ≡ take n (drop 48 rest)
payload-same rest rest' n k far same =
    let front : take (48 + n) rest' ≡ take (48 + n) rest = sym (take-take (48 + n) k rest' far) ∙ ap (λ xs. take (48 + n) xs) same ∙ take-take (48 + n) k rest far in
    sym (drop-take 48 n rest') ∙ ap (λ xs. drop 48 xs) front ∙ drop-take 48 n rest

front-gate : (prev : Option Header) (at g g' k : ℕ) (rest rest' : List ℕ) (t : Bool) (found : Option Header) (more : Header → Reading) →
    (g == 0) ≡ t → record_at prev rest ≡ found →
    ((h : Header) → (more h).framed ≡ true → Ends (48 + h.length) (at + 1) rest (more h).gate) →
    ((h : Header) (m : ℕ) → (more h).framed ≡ true → (more h).gate ≡ at + 1 + m → take m rest' ≡ take m rest → m < length rest' →
    reading (Some h) (48 + h.length) (at + 1) rest' ≡ prepended (more h).entries (reading (more h).last 0 (at + 1 + m) (drop m rest'))) →
    (gate_read prev at rest t found more).framed ≡ true → (gate_read prev at rest t found more).gate ≡ at + k →
    take k (g' ∷ rest') ≡ take k (g ∷ rest) → k < length (g' ∷ rest') →
    reading prev 0 at (g' ∷ rest') ≡ prepended (gate_read prev at rest t found more).entries (reading (gate_read prev at rest t found more).last 0 (at + k) (drop k (g' ∷ rest')))
front-gate prev at g g' k rest rest' true found more zero_is found_is later step e gate same inside =
    let none : k ≡ 0 = omega arith in
    let P : ℕ → Type 0 = λ m. reading prev 0 at (g' ∷ rest') ≡ prepended [] (reading prev 0 (at + m) (drop m (g' ∷ rest'))) in
    let start : at ≡ at + 0 = omega arith in
    subst P (sym none) (ap (λ a. reading prev 0 a (g' ∷ rest')) start)
front-gate prev at g g' k rest rest' false None more zero_is found_is later step e gate same inside = absurd cc
front-gate prev at g g' k rest rest' false (Some h) more zero_is found_is later step e gate same inside =
    let r : Ends (48 + h.length) (at + 1) rest (more h).gate = later h e in
    let next : k ≡ suc r.k = omega (arith, r.gate_is) in
    let P : ℕ → Type 0 = λ m. reading prev 0 at (g' ∷ rest') ≡ prepended (entry_of at h rest ∷ (more h).entries) (reading (more h).last 0 (at + m) (drop m (g' ∷ rest'))) in
    let same' : g' ∷ take r.k rest' ≡ g ∷ take r.k rest = ap (λ m. take m (g' ∷ rest')) (sym next) ∙ same ∙ ap (λ m. take m (g ∷ rest)) next in
    let gates : g' ≡ g = cc in
    let rests : take r.k rest' ≡ take r.k rest = cc in
    let within : r.k < length rest' = omega (arith, next) in
    let open_is : (g' == 0) ≡ false = ap (λ x. x == 0) gates ∙ zero_is in
    let found' : record_at prev rest' ≡ Some h = record-same prev rest rest' h r.k found_is r.past within rests in
    let entry : entry_of at h rest' ≡ entry_of at h rest = ap (λ b. record { entry = record { at = at; header = h }; payload = b }) (payload-same rest rest' h.length r.k r.past rests) in
    let shift : at + 1 + r.k ≡ at + suc r.k = omega arith in
    let there : reading prev 0 at (g' ∷ rest') ≡ behind (entry_of at h rest') (reading (Some h) (48 + h.length) (at + 1) rest') =
    ap (λ t. gate_read prev at rest' t (record_at prev rest') (λ x. reading (Some x) (48 + x.length) (at + 1) rest')) open_is
    ∙ ap (λ o. gate_read prev at rest' false o (λ x. reading (Some x) (48 + x.length) (at + 1) rest')) found' in
    subst P (sym next) (there
    ∙ ap (λ x. behind x (reading (Some h) (48 + h.length) (at + 1) rest')) entry
    ∙ ap (λ x. behind (entry_of at h rest) x) (step h r.k e r.gate_is rests within)
    ∙ ap (λ a. prepended (entry_of at h rest ∷ (more h).entries) (reading (more h).last 0 a (drop r.k rest'))) shift)

-- where the bytes before the gate are the same, the reading goes on behind the same records
pub front : (bytes bytes' : List ℕ) (prev : Option Header) (skip at k : ℕ) → (reading prev skip at bytes).framed ≡ true → (reading prev skip at bytes).gate ≡ at + k →
    take k bytes' ≡ take k bytes → k < length bytes' →
    reading prev skip at bytes' ≡ prepended (reading prev skip at bytes).entries (reading (reading prev skip at bytes).last 0 (at + k) (drop k bytes'))
front [] bytes' prev skip at k e gate same inside = absurd cc
front (g ∷ rest) [] prev zero at k e gate same inside = absurd (omega arith)
front (g ∷ rest) (g' ∷ rest') prev zero at k e gate same inside =
    front-gate prev at g g' k rest rest' (g == 0) (record_at prev rest) (λ h. reading (Some h) (48 + h.length) (at + 1) rest) refl refl
    (λ h framed. ends rest (Some h) (48 + h.length) (at + 1) framed)
    (λ h m framed there same_rest within. front rest rest' (Some h) (48 + h.length) (at + 1) m framed there same_rest within)
    e gate same inside
front (b ∷ rest) [] prev (suc n) at k e gate same inside = absurd (omega arith)
front (b ∷ rest) (b' ∷ rest') prev (suc n) at k e gate same inside =
    let r : Ends n (at + 1) rest (reading prev n (at + 1) rest).gate = ends rest prev n (at + 1) e in
    let next : k ≡ suc r.k = omega (arith, r.gate_is) in
    let P : ℕ → Type 0 = λ m. reading prev n (at + 1) rest' ≡ prepended (reading prev n (at + 1) rest).entries (reading (reading prev n (at + 1) rest).last 0 (at + m) (drop m (b' ∷ rest'))) in
    let same' : b' ∷ take r.k rest' ≡ b ∷ take r.k rest = ap (λ m. take m (b' ∷ rest')) (sym next) ∙ same ∙ ap (λ m. take m (b ∷ rest)) next in
    let rests : take r.k rest' ≡ take r.k rest = cc in
    let shift : at + 1 + r.k ≡ at + suc r.k = omega arith in
    subst P (sym next) (front rest rest' prev n (at + 1) r.k e r.gate_is rests (omega (arith, next))
    ∙ ap (λ a. prepended (reading prev n (at + 1) rest).entries (reading (reading prev n (at + 1) rest).last 0 a (drop r.k rest'))) shift)
